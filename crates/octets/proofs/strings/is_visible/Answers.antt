-- Whether n octets are characters 32 to 126.
-- The loop's invariant: all are visible exactly if the least and the greatest so far are, and the octets that are left.
-- Assumes nothing.
use mathlib.Core.Path.{◌≡◌}
use Prim.Native.Nat.{◌+◌, ◌-◌}
use native.Mathlib.Omega.{arith}
use Rattle.octets.proofs.Visible.{visible_start, visible_turn, visible_not, visible_by}
use Rattle.octets.proofs.strings.is_visible.Goals as goal

pub loop-x-init : goal.loop-x-init
loop-x-init c = visible_start _

pub loop-x-preserved : goal.loop-x-preserved
loop-x-preserved c =
    let l = c.loop-x in
    rw (c.min-low.ensures, c.max-high.ensures) (visible_turn _ l.x-index _ _ c.loop-x-test.true l.invariant)

pub returns-then-low-lt32 : goal.returns-then-low-lt32
returns-then-low-lt32 c =
    let a = c.args in
    let e : a.start + a.n - a.start ≡ a.n = omega arith in
    rw e at (visible_not _ _ _ _ c.loop-x-test.false c.loop-x.invariant c.if-low-lt32.true)

pub returns : goal.returns
returns c =
    let a = c.args in
    let e : a.start + a.n - a.start ≡ a.n = omega arith in
    rw e at (visible_by _ _ _ _ c.loop-x-test.false c.loop-x.invariant c.if-low-lt32.false)
