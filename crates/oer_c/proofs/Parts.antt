-- What the code hands out of a text is what the definition shows.
-- Assumes nothing.
use mathlib.Core.Path.{◌≡◌, refl}
use mathlib.Core.List.{List}
use Prim.Native.Nat.{ℕ, ◌-◌}
use Rattle.x696.specs.Setting.{Shown, fallback}
use Rattle.showing.specs.declared.texts.Part.{Part}
use Rattle.showing.specs.Texts.{PartOf}
use Rattle.oer_c.specs.declared.TextPart.{TextPart}
use Rattle.oer_c.specs.TextParts.{part_as}

pub nothing_part : (s : Shown) → s ≡ fallback → ◌≡◌ {A = TextPart} (record { found = 0; start = 0; length = 0 }) (part_as s)
unfolding part_as
nothing_part s e = rw e refl

pub shown_part : {msg : List ℕ} {s : Shown} {p : Part} → PartOf msg s p
    → ◌≡◌ {A = TextPart} (record { found = 1; start = p.start; length = p.end - p.start }) (part_as s)
unfolding part_as
shown_part h = rw h.is refl
