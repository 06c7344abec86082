-- `collision::landing::highest`: each step of the tree is at least what it was made of. Assumes nothing.
use Prim.Native.Nat.{◌%◌, ◌≤◌}
use native.Mathlib.Nat.{le_trans}
use lib.ListN.{get_or}
use Rattle.landings.proofs.Each.{each18}
use Rattle.collision.proofs.landing.highest.Goals as goal

pub returns : goal.returns
returns c =
    let h0 = (le_trans c.high-a.ensures.0 (le_trans c.high.ensures.0 (le_trans c.high-3.ensures.0 c.high-4.ensures.0))) in
    let h1 = (le_trans c.high-a.ensures.1 (le_trans c.high.ensures.0 (le_trans c.high-3.ensures.0 c.high-4.ensures.0))) in
    let h2 = (le_trans c.high-b.ensures.0 (le_trans c.high.ensures.1 (le_trans c.high-3.ensures.0 c.high-4.ensures.0))) in
    let h3 = (le_trans c.high-b.ensures.1 (le_trans c.high.ensures.1 (le_trans c.high-3.ensures.0 c.high-4.ensures.0))) in
    let h4 = (le_trans c.high-c.ensures.0 (le_trans c.high-2.ensures.0 (le_trans c.high-3.ensures.1 c.high-4.ensures.0))) in
    let h5 = (le_trans c.high-c.ensures.1 (le_trans c.high-2.ensures.0 (le_trans c.high-3.ensures.1 c.high-4.ensures.0))) in
    let h6 = (le_trans c.high-d.ensures.0 (le_trans c.high-2.ensures.1 (le_trans c.high-3.ensures.1 c.high-4.ensures.0))) in
    let h7 = (le_trans c.high-d.ensures.1 (le_trans c.high-2.ensures.1 (le_trans c.high-3.ensures.1 c.high-4.ensures.0))) in
    let h8 = c.high-4.ensures.1 in
    each18 (λ k. get_or c.args.e k 0 % 4294967296 ≤ c.high-4.result)
    (le_trans c.higher.ensures.0 h0)
    (le_trans c.higher.ensures.1 h0)
    (le_trans c.higher-2.ensures.0 h1)
    (le_trans c.higher-2.ensures.1 h1)
    (le_trans c.higher-3.ensures.0 h2)
    (le_trans c.higher-3.ensures.1 h2)
    (le_trans c.higher-4.ensures.0 h3)
    (le_trans c.higher-4.ensures.1 h3)
    (le_trans c.higher-5.ensures.0 h4)
    (le_trans c.higher-5.ensures.1 h4)
    (le_trans c.higher-6.ensures.0 h5)
    (le_trans c.higher-6.ensures.1 h5)
    (le_trans c.higher-7.ensures.0 h6)
    (le_trans c.higher-7.ensures.1 h6)
    (le_trans c.higher-8.ensures.0 h7)
    (le_trans c.higher-8.ensures.1 h7)
    (le_trans c.higher-9.ensures.0 h8)
    (le_trans c.higher-9.ensures.1 h8)
