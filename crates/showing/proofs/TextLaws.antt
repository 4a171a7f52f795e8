-- The part of the message that is shown for a string: the last of its own octets. Premises are the callees' `ensures`.
-- Assumes nothing.
use mathlib.Core.Path.{◌≡◌, refl, ap, sym, ◌∙◌}
use mathlib.Core.Bool.{Bool, true, false}
use mathlib.Core.List.{List, ◌∷◌, ◌++◌}
use Prim.Native.Nat.{ℕ, suc, ◌+◌, ◌-◌, ◌≤◌}
use native.Mathlib.Omega.{arith}
use lib.ListN.{length, length-append, take, drop}
use lib.Dec.{eqb}
use borrow.Author.Tests.{ne_eqb}
use Rattle.std.specs.Prelude.{◌⊎◌}
use Rattle.std.proofs.Math.Logic.{⊎_elim}
use Rattle.x696.specs.Outcome.{choose}
use Rattle.x696.proofs.OutcomeLaws.{cases}
use Rattle.x696.specs.Length.{length_octets}
use Rattle.x696.specs.Bits.{bit_octets, unused_bits}
use Rattle.x696.specs.Integer.{is_unsigned}
use Rattle.x696.specs.String.{fixed_size, text_octets, bit_string_octets}
use Rattle.x696.specs.Value.{Val, node}
use Rattle.x696.specs.Leaf.{octet_string, bit_string, visible_string, octets_fit, visible_fits, bits_fit, encode_leaf}
use Rattle.x696.specs.Types.{Ty, leaf}
use Rattle.x696.specs.Fits.{Fits, leaf_fits}
use Rattle.x696.specs.Encode.{encode}
use Rattle.x696.specs.Setting.{Setting as Meant, string_size, leaf_setting, type_setting, setting_of, Shown as MeantText}
use Rattle.x696.specs.Setting.{fallback, part_of, shown_string, shown_if}
use Rattle.x696.specs.Reply.{Answer, answer}
use Rattle.x696.specs.Path.{octets_before}
use Rattle.x696.specs.Table.{row_kind, type_of}
use Rattle.x696.specs.TableCheck.{default_sound}
use Rattle.x696.specs.Editing.{Place, place_in, shown_at, show_text, shown_octets}
use Rattle.kinds.specs.Run.{number_of}
use Rattle.kinds.proofs.ByKind.{octets_type, bits_type, visible_type}
use Rattle.table.specs.Kind.{code_of}
use Rattle.table.specs.declared.kind.Kind.{Kind}
use Rattle.table.specs.declared.kind.Kind.TheVariants.{OctetString, BitString, VisibleString}
use Rattle.table.proofs.KindNumbers.{kind_once}
use Rattle.decoding.specs.Replied.{Refuses}
use Rattle.finding.specs.Following.{kind_in}
use Rattle.finding.specs.Placing.{Placed}
use Rattle.showing.specs.Settings.{integer_setting, kind_setting}
use Rattle.showing.specs.Texts.{contents_size, PartOf, TextAnswer}
use Rattle.finding.specs.declared.spot.Way.{Way}
use Rattle.showing.specs.declared.texts.Part.{Part}
use Rattle.std.proofs.Common.{Some, None}
use Rattle.octets.specs.declared.faults.Refusal.{Refusal}
use Rattle.showing.proofs.SettingLaws.{kind_setting_lem, absent_setting_lem, there_setting, component_there}

-- ---- answers
module _ {msg : List ℕ} {s : MeantText} where
  pub text_none : s ≡ fallback → TextAnswer msg s None
  text_none e = record { shown = λ p z. let k : ◌≡◌ {A = ℕ} 0 1 = cc in absurd (omega arith); nothing = λ z. e }

  pub text_shown : {p : Part} → PartOf msg s p → TextAnswer msg s (Some p)
  text_shown {p} h = record {
    shown = λ q z. let k : p ≡ q = cc in rw (← k) h;
    nothing = λ z. let k : ◌≡◌ {A = ℕ} 0 1 = cc in absurd (omega arith);
  }

-- ---- kinds that are no strings
module _ (before : ℕ) (t : Ty) (v : Val) where
  abbrev Quiet : Meant → Type 0
  Quiet s = shown_if before t v s ≡ fallback

  quiet : (b : Bool) (x y : Unit {0} → Meant) → Quiet (x tt) → Quiet (y tt) → Quiet (choose b x y)
  unfolding choose
  quiet true x y e f = e
  quiet false x y e f = f

  other : (b : Bool) (x y : Unit {0} → Meant) → b ≡ false → Quiet (y tt) → Quiet (choose b x y)
  unfolding choose
  other b x y e f = rw e f

  whole_number : (f a n : ℕ) → Quiet (integer_setting f a n)
  unfolding integer_setting shown_if
  whole_number f a n = cases (is_unsigned f a) (λ e. rw e refl) (λ e. rw e refl)

  no_string : (k f a n : ℕ) → (k ≡ 7 → ⊥) → (k ≡ 8 → ⊥) → (k ≡ 9 → ⊥) → Quiet (kind_setting k f a n)
  unfolding kind_setting shown_if
  no_string k f a n seven eight nine =
      quiet _ _ _ refl (quiet _ _ _ (whole_number f a n) (quiet _ _ _ refl (quiet _ _ _ refl (quiet _ _ _ refl
      (other _ _ _ (ne_eqb k 7 seven) (other _ _ _ (ne_eqb k 8 eight) (other _ _ _ (ne_eqb k 9 nine)
      (quiet _ _ _ refl (quiet _ _ _ refl (quiet _ _ _ refl refl))))))))))

-- ---- strings
-- the octets of a string's own node
unfoldable string_octets : Val → List ℕ
string_octets (node k n os vs) = os

record IsString (t : Ty) (v : Val) (size : ℕ) : Type 0 where
  setting : (n : ℕ) → type_setting t n ≡ string_size n
  many : length (string_octets v) ≡ size
  last : size ≤ length (encode t v)
  plain : (d : ℕ) → default_sound t d ≡ false

behind_front : (fixed : Bool) (front os : List ℕ)
    → length os ≤ length (choose fixed (λ _. os) (λ _. front ++ os))
unfolding choose
behind_front true front os = omega arith
behind_front false front os = omega (arith, length-append front os)

behind_bits : (fixed : Bool) (front : List ℕ) (u : ℕ) (os : List ℕ)
    → length os ≤ length (choose fixed (λ _. os) (λ _. front ++ (u ∷ os)))
unfolding choose
behind_bits true front u os = omega arith
behind_bits false front u os = omega (arith, length-append front (u ∷ os))

octets_string : {f a b : ℕ} {v : Val} → Fits (leaf (octet_string f a b)) v
    → IsString (leaf (octet_string f a b)) v (number_of v)
unfolding type_setting leaf_setting string_octets number_of encode encode_leaf text_octets default_sound
octets_string {f} {a} {b} (leaf_fits e (octets_fit {os = os} below many h)) = record {
  setting = λ n. refl;
  many = many;
  last = omega (arith, many, behind_front (fixed_size f a b) (length_octets (length os)) os);
  plain = λ d. refl;
}

visible_string_lem : {f a b : ℕ} {v : Val} → Fits (leaf (visible_string f a b)) v
    → IsString (leaf (visible_string f a b)) v (number_of v)
unfolding type_setting leaf_setting string_octets number_of encode encode_leaf text_octets default_sound
visible_string_lem {f} {a} {b} (leaf_fits e (visible_fits {os = os} below many h g)) = record {
  setting = λ n. refl;
  many = many;
  last = omega (arith, many, behind_front (fixed_size f a b) (length_octets (length os)) os);
  plain = λ d. refl;
}

bits_string : {f a b : ℕ} {v : Val} → Fits (leaf (bit_string f a b)) v
    → IsString (leaf (bit_string f a b)) v (bit_octets (number_of v))
unfolding type_setting leaf_setting string_octets number_of encode encode_leaf bit_string_octets default_sound
bits_string {f} {a} {b} (leaf_fits e (bits_fit {n = n} {os = os} below many clear h)) = record {
  setting = λ n. refl;
  many = many;
  last = omega (arith, many, behind_bits (fixed_size f a b) (length_octets (suc (length os))) (unused_bits n) os);
  plain = λ d. refl;
}

part_shown : (before : ℕ) (t : Ty) (v : Val) {size : ℕ} → IsString t v size → eqb (kind_in v) 0 ≡ false
    → shown_if before t v (setting_of t v) ≡ part_of (before + (length (encode t v) - size)) size
unfolding shown_if shown_string string_octets number_of
part_shown before t (node k n os vs) s e = rw (there_setting t (node k n os vs) e, s.setting n, s.many) refl

-- ---- the string at a path
abbrev AString : Kind → Type 0
AString k = (k ≡ OctetString) ⊎ (k ≡ BitString) ⊎ (k ≡ VisibleString)

module _ (rows items : List ℕ) (row : ℕ) (msg path : List ℕ) where
  abbrev asked : Answer Place
  asked = place_in rows items row msg path

  pub text_refused : {x : Refusal} → Refuses asked x → show_text rows items row msg path ≡ fallback
  unfolding show_text answer
  text_refused h = rw h.is refl

  module _ {w : Way} (h : Placed rows items row msg path asked w) where
    abbrev t : Ty
    t = type_of rows items w.spot.component.row

    abbrev v : Val
    v = h.spot.value

    abbrev before : ℕ
    before = length (octets_before (type_of rows items row) h.whole path)

    shown_is : show_text rows items row msg path ≡ shown_if before t v (setting_of t v)
    unfolding show_text answer shown_at
    shown_is = rw h.is refl

    pub text_absent : w.spot.absent ≡ true → show_text rows items row msg path ≡ fallback
    unfolding shown_if
    text_absent e = shown_is ∙ rw (absent_setting_lem t v (sym h.spot.absent ∙ e)) refl

    there : w.spot.absent ≡ false → eqb (kind_in v) 0 ≡ false
    there e = sym h.spot.absent ∙ e

    module _ (e : w.spot.absent ≡ false) {k : Kind} (ek : code_of k ≡ row_kind rows w.spot.component.row) where
      pub text_other : (k ≡ OctetString → ⊥) → (k ≡ BitString → ⊥) → (k ≡ VisibleString → ⊥)
          → show_text rows items row msg path ≡ fallback
      text_other octets bits visible =
          shown_is
          ∙ rw (there_setting t v (there e), kind_setting_lem rows items w.spot.component.row (number_of v), ← ek)
          (no_string before t v (code_of k) _ _ (number_of v) (λ q. octets (kind_once k OctetString q))
          (λ q. bits (kind_once k BitString q)) (λ q. visible (kind_once k VisibleString q)))

      string_is : AString k → IsString t v (contents_size (code_of k) (number_of v))
      unfolding contents_size default_sound
      string_is =
          ⊎_elim
          (λ q.
          let is = octets_type rows items w.spot.component.row ek refl refl refl q in
          rw (is, q) (octets_string (rw is at (component_there rows items row msg path h e (λ d. rw is refl)).0)))
          (⊎_elim
          (λ q.
          let is = bits_type rows items w.spot.component.row ek refl refl refl q in
          rw (is, q) (bits_string (rw is at (component_there rows items row msg path h e (λ d. rw is refl)).0)))
          (λ q.
          let is = visible_type rows items w.spot.component.row ek refl refl refl q in
          rw (is, q) (visible_string_lem (rw is at (component_there rows items row msg path h e (λ d. rw is refl)).0))))

      module _ (one : AString k) {size : ℕ} (es : size ≡ contents_size (code_of k) w.spot.number) where
        size_is : size ≡ contents_size (code_of k) (number_of v)
        size_is = es ∙ ap (contents_size (code_of k)) h.spot.number

        long : w.spot.end ≡ before + length (encode t v)
        long =
            let own = (component_there rows items row msg path h e (string_is one).plain).1 in
            omega (arith, h.spot.start, h.spot.end, ap length own)

        pub text_fits : size ≤ w.spot.end
        text_fits = omega (arith, long, size_is, (string_is one).last)

        pub text_part : PartOf msg (show_text rows items row msg path)
            (record { start = w.spot.end - size; end = w.spot.end })
        text_part =
            let s = string_is one in
            let a : before + (length (encode t v) - contents_size (code_of k) (number_of v)) ≡ w.spot.end - size =
            omega (arith, long, size_is, s.last) in
            let b : contents_size (code_of k) (number_of v) ≡ w.spot.end - (w.spot.end - size) =
            omega (arith, size_is, text_fits) in
            record {
              is = shown_is ∙ part_shown before t v s (there e)
                  ∙ ap (λ x. part_of x (contents_size (code_of k) (number_of v))) a ∙ ap (part_of (w.spot.end - size)) b;
              ordered = omega arith;
              inside = h.inside;
            }

-- ---- the sizes and octets that the code hands out
pub bits_size : (k : Kind) (n : ℕ) {r : ℕ} → k ≡ BitString → r ≡ bit_octets n → r ≡ contents_size (code_of k) n
unfolding contents_size
bits_size k n e h = rw e h

pub other_size : (k : Kind) (n : ℕ) → (k ≡ BitString → ⊥) → n ≡ contents_size (code_of k) n
unfolding contents_size
other_size k n e = rw (ne_eqb (code_of k) 8 (λ q. e (kind_once k BitString q))) refl

pub fallback_shown : (msg other : List ℕ) (s : MeantText) → s ≡ fallback → other ≡ shown_octets s msg other
unfolding shown_octets
fallback_shown msg other s e = rw e refl

pub part_octets : (msg other : List ℕ) (s : MeantText) {p : Part} → PartOf msg s p
    → take (p.end - p.start) (drop p.start msg) ≡ shown_octets s msg other
unfolding shown_octets
part_octets msg other s h = rw h.is refl
