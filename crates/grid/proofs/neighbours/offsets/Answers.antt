-- `grid::neighbours::offsets` lists the table. Assumes nothing.
use mathlib.Core.Path.{◌∙◌}
use native.Mathlib.Omega.{arith}
use Rattle.grid.proofs.Offsets.{listed, table}
use Rattle.grid.proofs.neighbours.offsets.Goals as goal

pub cell_at-requires-17 : goal.cell_at-requires-17
cell_at-requires-17 c = (c.requires, omega arith, omega arith, omega arith)

pub cell_at-requires-18 : goal.cell_at-requires-18
cell_at-requires-18 c = (c.requires, omega arith, omega arith, omega arith)

pub cell_at-requires-19 : goal.cell_at-requires-19
cell_at-requires-19 c = (c.requires, omega arith, omega arith, omega arith)

pub returns : goal.returns
returns c =
    listed _ _ (
      c.cell_at.ensures,
      (
        c.cell_at-2.ensures,
        (
          c.cell_at-3.ensures,
          (
            c.cell_at-4.ensures,
            (
              c.cell_at-5.ensures,
              (
                c.cell_at-6.ensures,
                (
                  c.cell_at-7.ensures,
                  (
                    c.cell_at-8.ensures,
                    (
                      c.cell_at-9.ensures,
                      (
                        c.cell_at-10.ensures,
                        (
                          c.cell_at-11.ensures,
                          (
                            c.cell_at-12.ensures,
                            (
                              c.cell_at-13.ensures,
                              (
                                c.cell_at-14.ensures,
                                (
                                  c.cell_at-15.ensures,
                                  (
                                    c.cell_at-16.ensures,
                                    (
                                      c.cell_at-17.ensures,
                                      (
                                        c.cell_at-18.ensures,
                                        (
                                          c.cell_at-19.ensures,
                                          tt,
                                        ),
                                      ),
                                    ),
                                  ),
                                ),
                              ),
                            ),
                          ),
                        ),
                      ),
                    ),
                  ),
                ),
              ),
            ),
          ),
        ),
      ),
    )
    ∙ table c.args.s
