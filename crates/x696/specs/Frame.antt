-- A frame: all that a message holds besides one component, which fills it. The component's presence bit, if it has one,
-- stands among the others in a preamble; its own octets stand behind. An edit keeps the frame (`Locality`).
-- Assumes nothing.
use Rattle.std.specs.Prelude.{List, ◌++◌, ℕ}
use Rattle.x696.specs.Bits.{preamble}
use Rattle.x696.specs.Value.{Val}
use Rattle.x696.specs.Types.{Ty}
use Rattle.x696.specs.Encode.{presence_bits, own_octets}

pub record Frame : Type 0 where
  -- the octets before the preamble
  pub before : List ℕ
  -- how many presence bits the preamble has (none, for an element or an alternative), and those on both sides of the
  -- component's
  pub bits : ℕ
  pub left : List ℕ
  pub right : List ℕ
  -- the octets between the preamble and the component's own, and those after them
  pub between : List ℕ
  pub after : List ℕ

-- the octets before the component's own: its presence bit is all that depends on it
unfoldable pub leading : Frame → (mark default : ℕ) → Ty → Val → List ℕ
leading f m d u x = f.before ++ (preamble f.bits (f.left ++ (presence_bits m d u x ++ f.right)) ++ f.between)

-- the whole message
unfoldable pub filled : Frame → (mark default : ℕ) → Ty → Val → List ℕ
filled f m d u x = leading f m d u x ++ (own_octets m d u x ++ f.after)
