-- What `?` hands on: the refusal that the call answered. Assumes nothing.
use Rattle.std.specs.Prelude.{◌≡◌, Result, Err, IsErrAnd}
use Rattle.std.proofs.Common.{ap, ◌∙◌}
use Rattle.std.proofs.lemmas.Result.{err_from_is_err_and}

pub handed-on : {T E : Type 0} {e : E} (r : Result T E) → IsErrAnd r (λ x. x ≡ e) → r ≡ Err e
handed-on r h = let p = err_from_is_err_and r h in p.1 ∙ ap Err p.2
