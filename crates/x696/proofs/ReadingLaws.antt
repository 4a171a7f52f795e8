-- A single setting is that of a component of the value that decoding gives; a text that is shown is the string's
-- contents, a part of the message, and the fallback where there is no string to read. An edit keeps both at every path
-- apart from its own.
-- Assumes nothing.
use Rattle.std.specs.Prelude.{◌≡◌, List, ℕ, ◌*◌, ◌≤◌, length}
use Rattle.std.proofs.Math.Path.{refl}
use Rattle.std.proofs.Common.{sym, ◌∙◌}
use Rattle.x696.specs.Digits.{Below}
use Rattle.x696.specs.Value.{Val, node, Vals, node_width}
use Rattle.x696.specs.Types.{Ty}
use Rattle.x696.specs.Encode.{encode}
use Rattle.x696.specs.Table.{type_of}
use Rattle.x696.specs.Path.{Found, nowhere, found, find, replace, octets_before}
use Rattle.x696.specs.Apart.{Apart}
use Rattle.x696.specs.Setting.{Setting, absent_setting, truth, unsigned_number, signed_number, single, double}
use Rattle.x696.specs.Setting.{string_size, group, setting_of, fallback, shown_if}
use Rattle.x696.specs.Reply.{Answer, refusal, done, then, answer}
use Rattle.x696.specs.Operations.{node_limit, octet_limit, value_in, decode}
use Rattle.x696.specs.Editing.{Place, place_of, place_in, read_setting, shown_at, show_text, shown_octets}
use Rattle.x696.specs.Result.{decoded}
use Rattle.x696.specs.Edits.{Edits}
use Rattle.x696.proofs.AskedLaws.{asked_cases, held_value}
use Rattle.x696.proofs.Unique.{read_message_iff}
use Rattle.x696.proofs.DecodeLaws.{decode_answers}
use Rattle.x696.proofs.PathLaws.{find_replaced, others_keep}
use Rattle.x696.proofs.SettingLaws.{shown_contents}

then_assoc : {A B C : Type 0} (o : Answer A) (f : A → Answer B) (g : B → Answer C)
    → then (then o f) g ≡ then o λ a. then (f a) g
unfolding then
then_assoc (refusal n q z) f g = refl
then_assoc (done a) f g = refl

module _ (rows items : List ℕ) (r : ℕ) (s p : List ℕ) (words : Below 64 items) where
  abbrev T : Ty
  T = type_of rows items r

  -- the place is looked for in the value that the message holds
  place_held : place_in rows items r s p ≡ then (value_in rows items r s) λ v. place_of T v (find T v p)
  unfolding place_in value_in then
  place_held = asked_cases rows items r words (λ k z e. rw e) λ g usable. rw usable

  -- a setting is that of the component, in the value that decoding gives; else the refusal is decoding's, or PATH's
  pub setting_decoded : (ns os : List ℕ) → Below 8 s → node_limit * node_width ≤ length ns → octet_limit ≤ length os
      → read_setting rows items r s p
      ≡ then (decoded T (decode rows items r s ns os)) λ v.
      then (place_of T v (find T v p)) λ c. done (setting_of c.its c.value)
  unfolding read_setting
  setting_decoded ns os octets room room' =
      rw (place_held, decode_answers rows items r s ns os words octets room room')
      (then_assoc (value_in rows items r s) _ _)

  module _ (v : Val) (reads : value_in rows items r s ≡ done v) where
    pub setting_found : {m d : ℕ} {u : Ty} {x : Val} → find T v p ≡ found m d u x
        → read_setting rows items r s p ≡ done (setting_of u x)
    unfolding read_setting place_of then
    setting_found e = rw (place_held, reads, e)

    -- of a string, what is shown is its contents
    pub text_shown : {m d : ℕ} {u : Ty} {k n c : ℕ} {os : List ℕ} {vs : Vals} → Below 8 s
        → find T v p ≡ found m d u (node k n os vs) → setting_of u (node k n os vs) ≡ string_size c → (instead : List ℕ)
        → shown_octets (show_text rows items r s p) s instead ≡ os
    unfolding show_text place_of then answer
    text_shown octets e setting instead =
        held_value rows items r s v words reads λ g usable end h.
        let whole = ((read_message_iff T s v end octets).0 h).1 in
        rw (place_held, reads, e, whole) (shown_contents T v p e setting instead)

-- where a reading is refused, absent or no string, the fallback is shown
not_shown : (start : ℕ) (u : Ty) (x : Val) (setting : Setting) (s instead : List ℕ)
    → ((c : ℕ) → setting ≡ string_size c → ⊥) → shown_octets (shown_if start u x setting) s instead ≡ instead
unfolding shown_if shown_octets
not_shown start u x absent_setting s f h = refl
not_shown start u x (truth w) s f h = refl
not_shown start u x (unsigned_number w) s f h = refl
not_shown start u x (signed_number w) s f h = refl
not_shown start u x (single w) s f h = refl
not_shown start u x (double w) s f h = refl
not_shown start u x (string_size w) s f h = absurd (h w refl)
not_shown start u x (group w) s f h = refl

place_not_shown : (o : Answer Place) (p s instead : List ℕ)
    → ((c : ℕ) → then o (λ c. done (setting_of c.its c.value)) ≡ done (string_size c) → ⊥)
    → shown_octets (answer o (λ n q z. fallback) λ c. shown_at p c) s instead ≡ instead
unfolding then answer shown_at shown_octets
place_not_shown (refusal n q z) p s f h = refl
place_not_shown (done c) p s f h =
    not_shown (length (octets_before c.type c.whole p)) c.its c.value (setting_of c.its c.value) s f
    λ w e. h w (rw e)

pub text_else : (rows items : List ℕ) (r : ℕ) (s p instead : List ℕ)
    → ((c : ℕ) → read_setting rows items r s p ≡ done (string_size c) → ⊥)
    → shown_octets (show_text rows items r s p) s instead ≡ instead
unfolding read_setting show_text
text_else rows items r s p f h = place_not_shown (place_in rows items r s p) p s f h

-- ---- readings of a message that an edit made
-- what is shown of a component depends on its setting and its contents alone
unfoldable text_of : Setting → (octets instead : List ℕ) → List ℕ
text_of absent_setting os f = f
text_of (truth w) os f = f
text_of (unsigned_number w) os f = f
text_of (signed_number w) os f = f
text_of (single w) os f = f
text_of (double w) os f = f
text_of (string_size w) os f = os
text_of (group w) os f = f

module _ (t : Ty) (v : Val) (q : List ℕ) {m d : ℕ} {u : Ty} {k n : ℕ} {os : List ℕ} {vs : Vals}
    (e : find t v q ≡ found m d u (node k n os vs)) where
  abbrev here : Place
  here = record { type = t; whole = v; mark = m; its = u; value = node k n os vs }

  place_shown : (g : Setting) → setting_of u (node k n os vs) ≡ g → (f : List ℕ)
      → shown_octets (shown_at q here) (encode t v) f ≡ text_of g os f
  unfolding text_of shown_at shown_if shown_octets
  place_shown absent_setting is f = rw is
  place_shown (truth w) is f = rw is
  place_shown (unsigned_number w) is f = rw is
  place_shown (signed_number w) is f = rw is
  place_shown (single w) is f = rw is
  place_shown (double w) is f = rw is
  place_shown (string_size w) is f = shown_contents t v q e is f
  place_shown (group w) is f = rw is

-- the same component, found in two values
found_shown : (t : Ty) (v w : Val) (q f : List ℕ) (h : Found) → find t v q ≡ h → find t w q ≡ h
    → shown_octets (answer (place_of t w h) (λ n z y. fallback) λ c. shown_at q c) (encode t w) f
    ≡ shown_octets (answer (place_of t v h) (λ n z y. fallback) λ c. shown_at q c) (encode t v) f
unfolding place_of answer shown_octets
found_shown t v w q f (nowhere n) e e' = refl
found_shown t v w q f (found m d u (node k n os vs)) e e' =
    let g = setting_of u (node k n os vs) in
    place_shown t w q e' g refl f ∙ sym (place_shown t v q e g refl f)

found_setting : (t : Ty) (v w : Val) (h : Found)
    → then (place_of t w h) (λ c. done (setting_of c.its c.value))
    ≡ then (place_of t v h) (λ c. done (setting_of c.its c.value))
unfolding place_of then
found_setting t v w (nowhere n) = refl
found_setting t v w (found m d u x) = refl

module _ (rows items : List ℕ) (r : ℕ) (s p ws cs s' : List ℕ) (h : Edits rows items r s p ws cs s')
    (words : Below 64 items) where
  -- the edited component is read as the new one
  pub setting_edited : read_setting rows items r s' p ≡ done (setting_of h.its h.new)
  setting_edited =
      setting_found rows items r s' p words (replace p h.new h.value) h.accepted
      (find_replaced (type_of rows items r) h.value p h.finds h.new)

  module _ (q : List ℕ) (a : Apart p q) where
    kept : find (type_of rows items r) (replace p h.new h.value) q ≡ find (type_of rows items r) h.value q
    kept = others_keep (type_of rows items r) h.value p h.finds a h.new

    -- every other path is read as before
    pub setting_kept : read_setting rows items r s' q ≡ read_setting rows items r s q
    unfolding read_setting then
    setting_kept =
        rw (place_held rows items r s' q words, place_held rows items r s q words, h.accepted, h.reads, kept)
        (found_setting (type_of rows items r) h.value (replace p h.new h.value) _)

    -- and shown as before
    pub text_kept : (f : List ℕ)
        → shown_octets (show_text rows items r s' q) s' f ≡ shown_octets (show_text rows items r s q) s f
    unfolding show_text then
    text_kept f =
        let t = type_of rows items r in
        let w = replace p h.new h.value in
        rw (
          place_held rows items r s' q words,
          place_held rows items r s q words,
          h.accepted,
          h.reads,
          kept,
          h.after,
          h.before,
        ) (found_shown t h.value w q f (find t h.value q) refl kept)
