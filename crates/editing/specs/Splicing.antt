-- The new message of an edit, as the code makes it: what stands before the component and behind it, copied around the
-- new own octets, then the presence bit set or cleared in place.
-- Assumes nothing.
use Rattle.std.specs.Prelude.{◌≡◌, Bool, not, cond, List, ◌++◌, ℕ, ◌+◌, ◌-◌, ◌/◌, ◌<◌, ◌≤◌, eqb, length, take, drop}
use Rattle.x696.specs.Outcome.{got}
use Rattle.x696.specs.Value.{Val, same}
use Rattle.x696.specs.Types.{Ty, missing}
use Rattle.x696.specs.Encode.{own_octets}
use Rattle.x696.specs.Walk.{Listed, list_at, walk_component}
use Rattle.x696.specs.Operations.{over}
use Rattle.octets.specs.Presence.{set_bit}
use Rattle.finding.specs.declared.spot.Spot.{Spot}

abbrev pub around : Spot → (own octets : List ℕ) → List ℕ
around s own msg = take s.start msg ++ (own ++ drop s.end msg)

unfoldable pub spliced_octets : Spot → (own octets : List ℕ) → (present : Bool) → List ℕ
spliced_octets s own msg x = cond (eqb s.component.mark 0) (around s own msg) (set_bit (around s own msg) s.pre s.bit x)

-- the buffer out became out', for the value that the list gives and whose own octets are n, if there is room
abbrev pub Spliced : Ty → Spot → (ws cs : List ℕ) → (n : ℕ) → (msg out out' : List ℕ) → Type 0
Spliced t s ws cs n msg out out' =
    (y : Val) (r : Listed) → walk_component s.component.mark t (list_at ws cs 0) ≡ got y r
    → n ≡ length (own_octets s.component.mark s.component.given t y)
    → s.start + (n + (length msg - s.end)) ≤ length out
    → ((s.component.mark ≡ 0 → ⊥) → s.pre + s.bit / 8 < s.start)
    → out' ≡ over (spliced_octets s (own_octets s.component.mark s.component.given t y) msg (not (same y (missing s.component.mark
    s.component.given t)))) out
