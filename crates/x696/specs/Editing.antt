-- What editing and reading at a path answer on every input (document 01, "Editing and reading by path").
-- Edit: as decode up to 9, PATH, the new list as in encode up to left over contents, result 10, result 4, 12.
-- A reading has the refusals of an edit up to PATH. Assumes nothing.
use Rattle.std.specs.Prelude.{List, ℕ, length, take, drop, leb}
use Rattle.x696.specs.Value.{Val, size}
use Rattle.x696.specs.Types.{Ty}
use Rattle.x696.specs.Encode.{encode}
use Rattle.x696.specs.Path.{Found, nowhere, found, find, replace, octets_before}
use Rattle.x696.specs.Setting.{Setting, setting_of, Shown, fallback, part_of, shown_if}
use Rattle.x696.specs.Reply.{Answer, refusal, done, then, answer, unless, in_part}
use Rattle.x696.specs.Operations.{node_limit, asked, read_message, walk_list, result_fits, room_for, Written, written}

-- a component that was found, with the whole value that holds it
pub record Place : Type 0 where
  pub type : Ty
  pub whole : Val
  pub mark : ℕ
  pub its : Ty
  pub value : Val

-- 13, part 3, at the step that leads nowhere
unfoldable pub place_of : Ty → Val → Found → Answer Place
place_of t v (nowhere n) = refusal 13 3 n
place_of t v (found m d u x) = done (record { type = t; whole = v; mark = m; its = u; value = x })

-- 1, 2, 3, the message's 4, its first fault, 9, PATH
unfoldable pub place_in : (rows items : List ℕ) → (row : ℕ) → (octets path : List ℕ) → Answer Place
place_in rows items r s p =
    then (asked rows items r) λ t. then (in_part 1 (read_message t s)) λ v. place_of t v (find t v p)

-- the value with the new component in its place: 10 of the result
unfoldable pub edited : (path : List ℕ) → Place → (new : Val) → Answer Val
edited p c y = unless (leb (size (replace p y c.whole)) node_limit) 10 4 0 (done (replace p y c.whole))

unfoldable pub edited_octets : (rows items : List ℕ) → (row : ℕ) → (octets path ws cs : List ℕ) → Answer (List ℕ)
edited_octets rows items r s p ws cs =
    then (place_in rows items r s p) λ c.
    then (in_part 2 (walk_list c.mark c.its ws cs)) λ y.
    then (edited p c y) λ w. result_fits (encode c.type w)

-- edit at a path: the octets of the value with that component replaced, at the front of the lent buffer
unfoldable pub edit : (rows items : List ℕ) → (row : ℕ) → (octets path ws cs out : List ℕ) → Written
edit rows items r s p ws cs out = written (then (edited_octets rows items r s p ws cs) λ os. room_for os out) out

-- read a single setting
unfoldable pub read_setting : (rows items : List ℕ) → (row : ℕ) → (octets path : List ℕ) → Answer Setting
read_setting rows items r s p = then (place_in rows items r s p) λ c. done (setting_of c.its c.value)

-- show a text: the part of the message that holds a string's octets, or the caller's fallback
unfoldable pub shown_at : (path : List ℕ) → Place → Shown
shown_at p c = shown_if (length (octets_before c.type c.whole p)) c.its c.value (setting_of c.its c.value)

unfoldable pub show_text : (rows items : List ℕ) → (row : ℕ) → (octets path : List ℕ) → Shown
show_text rows items r s p = answer (place_in rows items r s p) (λ n q z. fallback) λ c. shown_at p c

-- the octets that are shown
unfoldable pub shown_octets : Shown → (octets fallback : List ℕ) → List ℕ
shown_octets fallback s f = f
shown_octets (part_of start n) s f = take n (drop start s)
