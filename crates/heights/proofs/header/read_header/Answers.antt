-- `heights::header::read_header`: the six lines in their order. Assumes nothing.
use Rattle.std.proofs.Common.{sym, ◌∙◌, arith}
use Rattle.std.proofs.lemmas.Result.{err_from_is_err_and}
use Rattle.heights.proofs.Headers.{bad-columns, bad-rows, bad-west, bad-south, bad-edge, bad-missing, header-so, err-is, kept_by, units-are, frame_is}
use Rattle.heights.proofs.header.read_header.Goals as goal

pub returns-in_err-nx : goal.returns-in_err-nx
returns-in_err-nx c =
    let p = err_from_is_err_and c.from_residual.result c.from_residual.ensures.1 in
    err-is p.1 p.2 c.in_err-nx.ensures.value c.in_err-nx.ensures.ok_part
    ∙ bad-columns _ (sym c.entry.ensures ∙ c.in_err-nx.ensures.ok_part)

pub returns-in_err-ny : goal.returns-in_err-ny
returns-in_err-ny c =
    let p = err_from_is_err_and c.from_residual-in_err-ny.result c.from_residual-in_err-ny.ensures.1 in
    err-is p.1 p.2 c.in_err-ny.ensures.value c.in_err-ny.ensures.ok_part
    ∙ bad-rows _ (sym c.entry.ensures ∙ c.in_ok-nx.ensures.ok_part) (sym c.entry-2.ensures ∙ c.in_err-ny.ensures.ok_part)

pub returns-in_err-x : goal.returns-in_err-x
returns-in_err-x c =
    let p = err_from_is_err_and c.from_residual-in_err-x.result c.from_residual-in_err-x.ensures.1 in
    err-is p.1 p.2 c.in_err-x.ensures.value c.in_err-x.ensures.ok_part
    ∙ bad-west _ (sym c.entry.ensures ∙ c.in_ok-nx.ensures.ok_part) (sym c.entry-2.ensures ∙ c.in_ok-ny.ensures.ok_part) (sym c.entry-3.ensures ∙ c.in_err-x.ensures.ok_part)

pub returns-in_err-y : goal.returns-in_err-y
returns-in_err-y c =
    let p = err_from_is_err_and c.from_residual-in_err-y.result c.from_residual-in_err-y.ensures.1 in
    err-is p.1 p.2 c.in_err-y.ensures.value c.in_err-y.ensures.ok_part
    ∙ bad-south _ (sym c.entry.ensures ∙ c.in_ok-nx.ensures.ok_part) (sym c.entry-2.ensures ∙ c.in_ok-ny.ensures.ok_part) (sym c.entry-3.ensures ∙ c.in_ok-x.ensures.ok_part) (sym c.entry-4.ensures ∙ c.in_err-y.ensures.ok_part)

pub returns-in_err-edge : goal.returns-in_err-edge
returns-in_err-edge c =
    let p = err_from_is_err_and c.from_residual-in_err-edge.result c.from_residual-in_err-edge.ensures.1 in
    err-is p.1 p.2 c.in_err-edge.ensures.value c.in_err-edge.ensures.ok_part
    ∙ bad-edge _ (sym c.entry.ensures ∙ c.in_ok-nx.ensures.ok_part) (sym c.entry-2.ensures ∙ c.in_ok-ny.ensures.ok_part) (sym c.entry-3.ensures ∙ c.in_ok-x.ensures.ok_part) (sym c.entry-4.ensures ∙ c.in_ok-y.ensures.ok_part) (sym c.entry-5.ensures ∙ c.in_err-edge.ensures.ok_part)

pub returns-in_err-ok_or : goal.returns-in_err-ok_or
returns-in_err-ok_or c =
    let p = err_from_is_err_and c.from_residual-in_err-ok_or.result c.from_residual-in_err-ok_or.ensures.1 in
    err-is p.1 p.2 c.in_err-ok_or.ensures.value c.in_err-ok_or.ensures.ok_part
    ∙ bad-missing _ (sym c.entry.ensures ∙ c.in_ok-nx.ensures.ok_part) (sym c.entry-2.ensures ∙ c.in_ok-ny.ensures.ok_part) (sym c.entry-3.ensures ∙ c.in_ok-x.ensures.ok_part) (sym c.entry-4.ensures ∙ c.in_ok-y.ensures.ok_part) (sym c.entry-5.ensures ∙ c.in_ok-edge.ensures.ok_part) (sym c.entry-6.ensures ∙ c.in_err-ok_or.ensures.ok_part)

pub returns : goal.returns
returns c =
    frame_is (units-are c.units-nx.type_inv (kept_by c.in_ok-nx.nx (omega arith)) c.units-nx.ensures)
    (units-are c.units-ny.type_inv (kept_by c.in_ok-ny.ny (omega arith)) c.units-ny.ensures)
    (kept_by c.in_ok-x.x (omega arith)) (kept_by c.in_ok-y.y (omega arith)) (kept_by c.in_ok-edge.edge (omega arith))
    ∙ header-so _ (sym c.entry.ensures ∙ c.in_ok-nx.ensures.ok_part) (sym c.entry-2.ensures ∙ c.in_ok-ny.ensures.ok_part) (sym c.entry-3.ensures ∙ c.in_ok-x.ensures.ok_part) (sym c.entry-4.ensures ∙ c.in_ok-y.ensures.ok_part) (sym c.entry-5.ensures ∙ c.in_ok-edge.ensures.ok_part) (sym c.entry-6.ensures ∙ c.in_ok-ok_or.ensures.ok_part)
