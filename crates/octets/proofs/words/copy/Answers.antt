-- A run of octets is copied as far as there is room.
-- The first loop's invariant: the first b blocks are stored.
-- Assumes nothing.
use mathlib.Core.Path.{◌≡◌, refl, sym, ◌∙◌}
use Prim.Native.Nat.{◌+◌, ◌-◌, ◌*◌, ◌/◌}
use native.Mathlib.Omega.{arith}
use lib.ListN.{take, drop}
use Rattle.octets.proofs.Stores.{copied_on, copied_all, sets_out}
use Rattle.octets.proofs.words.copy.Goals as goal

pub loop-b-preserved : goal.loop-b-preserved
loop-b-preserved c =
    let a = c.args in
    let b = c.loop-b.b in
    let e : (b + 1) * 32 ≡ b * 32 + 32 = omega arith in
    rw e
    (c.copy_block.ensures
    ∙ copied_on a.from.now a.out.now _ a.start a.to (b * 32) 32 (omega arith) c.loop-b.invariant)

pub returns-then-out-to : goal.returns-then-out-to
returns-then-out-to c =
    let a = c.args in
    sym (sets_out (take a.n (drop a.start a.from.now)) _ a.to c.if-out-to.true)

pub returns : goal.returns
returns c =
    let a = c.args in
    let m = c.min-m.result in
    let i = m / 32 * 32 in
    let q : c.loop-b.b ≡ m / 32 = omega arith in
    let e : i + (m - i) ≡ m = omega arith in
    copied_all a.from.now a.out.now _ a.start a.to a.n m c.requires (omega arith) (λ s. omega arith)
    (c.copy_all.ensures
    ∙ copied_on a.from.now a.out.now _ a.start a.to i (m - i) (omega arith) (rw q at c.loop-b.invariant)
    ∙ rw e refl)
