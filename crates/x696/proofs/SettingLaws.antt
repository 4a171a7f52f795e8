-- The part of a message that is shown for a string is the string's own octets.
-- Assumes nothing.
use Rattle.std.specs.Prelude.{◌≡◌, refl, Bool, true, false, cond, List, [], ◌∷◌, ◌++◌, ℕ, zero, suc, ◌+◌, ◌-◌, length, take, drop, eqb}
use Rattle.std.proofs.Common.{append_assoc, arith, length-append}
use Rattle.std.proofs.Math.Seq.{take-append_seam, drop-append_seam, drop-append-add}
use Rattle.x696.specs.Outcome.{choose}
use Rattle.x696.proofs.OutcomeLaws.{cases}
use Rattle.x696.specs.Length.{length_octets}
use Rattle.x696.specs.Bits.{unused_bits}
use Rattle.x696.specs.Integer.{is_unsigned}
use Rattle.x696.specs.Real.{binary32, binary64}
use Rattle.x696.specs.String.{fixed_size, text_octets, bit_string_octets}
use Rattle.x696.specs.Value.{Val, node, Vals, same}
use Rattle.x696.proofs.ValueLaws.{same_eq}
use Rattle.x696.specs.Leaf.{Leaf, boolean, null, integer, enumerated, real}
use Rattle.x696.specs.Leaf.{octet_string, bit_string, visible_string, encode_leaf}
use Rattle.x696.specs.Types.{Ty, leaf, sequence, sequence_of, choice, missing}
use Rattle.x696.specs.Encode.{carried_octets, encode, own_octets}
use Rattle.x696.specs.Path.{found, find, octets_before}
use Rattle.x696.specs.Setting.{Setting, absent_setting, string_size, leaf_setting, type_setting, setting_of}
use Rattle.x696.specs.Setting.{shown_string, shown_if}
use Rattle.x696.specs.Editing.{shown_at, shown_octets}
use Rattle.x696.proofs.Locality.{own_stands}

-- ---- a string's encoding ends with its own octets
abbrev EndsWith : (whole end : List ℕ) → Type 0
EndsWith whole end = (front : List ℕ) × (whole ≡ front ++ end)

-- the contents alone, or behind their determinant
sized_ends : (fixed : Bool) (os front : List ℕ) → EndsWith (choose fixed (λ _. os) (λ _. front ++ os)) os
unfolding choose
sized_ends true os front = ([], refl)
sized_ends false os front = (front, refl)

string_ends : (l : Leaf) (n : ℕ) (os : List ℕ) {s : ℕ} → leaf_setting l n ≡ string_size s
    → EndsWith (encode_leaf l n os) os
unfolding leaf_setting encode_leaf text_octets bit_string_octets
string_ends boolean n os e = ([], cc)
string_ends null n os e = ([], cc)
string_ends (integer f a b) n os e = ([], cases (is_unsigned f a) (λ u. cc) (λ u. cc))
string_ends (enumerated ns) n os e = ([], cc)
string_ends (real binary32) n os e = ([], cc)
string_ends (real binary64) n os e = ([], cc)
string_ends (octet_string f a b) n os e = sized_ends (fixed_size f a b) os (length_octets (length os))
string_ends (bit_string f a b) n os e =
    rw (← append_assoc (length_octets (suc (length os))) (unused_bits n ∷ []) os)
    (sized_ends (fixed_size f a b) os (length_octets (suc (length os)) ++ (unused_bits n ∷ [])))
string_ends (visible_string f a b) n os e = sized_ends (fixed_size f a b) os (length_octets (length os))

not_absent : (is_zero : Bool) (w : Setting) {s : ℕ} → cond is_zero absent_setting w ≡ string_size s → w ≡ string_size s
not_absent true w e = cc
not_absent false w e = e

value_ends : (u : Ty) (k n : ℕ) (os : List ℕ) (vs : Vals) {s : ℕ} → setting_of u (node k n os vs) ≡ string_size s
    → EndsWith (encode u (node k n os vs)) os
unfolding setting_of type_setting encode
value_ends (leaf l) k n os vs e = string_ends l n os (not_absent (eqb k 0) (leaf_setting l n) e)
value_ends (sequence is) k n os vs e = let z = not_absent (eqb k 0) _ e in ([], cc)
value_ends (sequence_of t) k n os vs e = let z = not_absent (eqb k 0) _ e in ([], cc)
value_ends (choice is) k n os vs e = let z = not_absent (eqb k 0) _ e in ([], cc)

-- ---- a component that is not carried has no octets of its own
missing_octets : (m d : ℕ) (u : Ty) {k n : ℕ} {os : List ℕ} {vs : Vals} → node k n os vs ≡ missing m d u → os ≡ []
unfolding missing
missing_octets zero d u e = cc
missing_octets (suc zero) d u e = cc
missing_octets (suc (suc m)) d u e = cc

carried_or_empty : (m d : ℕ) (u : Ty) (k n : ℕ) (os : List ℕ) (vs : Vals) {X : Type 0}
    → (own_octets m d u (node k n os vs) ≡ encode u (node k n os vs) → X) → (os ≡ [] → X) → X
unfolding own_octets carried_octets choose
carried_or_empty zero d u k n os vs carried empty = carried refl
carried_or_empty (suc m) d u k n os vs carried empty =
    let x = node k n os vs in
    cases (same x (missing (suc m) d u))
    (λ s. empty (missing_octets (suc m) d u (same_eq x (missing (suc m) d u) s)))
    (λ s. carried (rw s))

-- ---- the part of the message that is shown
part_is : (before front os after : List ℕ)
    → take (length os) (drop (length before + (length (front ++ os) - length os)) (before ++ ((front ++ os) ++ after)))
    ≡ os
part_is before front os after =
    let size : length (front ++ os) - length os ≡ length front = omega (arith, length-append front os) in
    rw (size, drop-append-add, append_assoc front os after, drop-append_seam, take-append_seam)

-- a string component that a path finds: what is shown of the message is the string's octets
pub shown_contents : (t : Ty) (v : Val) (p : List ℕ) {m d : ℕ} {u : Ty} {k n s : ℕ} {os : List ℕ} {vs : Vals}
    → find t v p ≡ found m d u (node k n os vs) → setting_of u (node k n os vs) ≡ string_size s
    → (f : List ℕ)
    → shown_octets (shown_at p (record { type = t; whole = v; mark = m; its = u; value = node k n os vs })) (encode t v) f
    ≡ os
unfolding shown_at shown_octets shown_if shown_string
shown_contents t v p {m} {d} {u} {k} {n} {s} {os} {vs} e setting f =
    let (after, stands) = own_stands t v p e in
    let (front, ends) = value_ends u k n os vs setting in
    rw setting
    (carried_or_empty m d u k n os vs
    (λ carried. rw (stands, carried, ends) (part_is (octets_before t v p) front os after))
    (λ empty. rw empty))
