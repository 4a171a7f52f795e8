-- A CHOICE behind its node: its tag, then the alternative at its place; one law for each way that its writer returns.
-- Premises are the callees' `ensures`. Assumes nothing.
use mathlib.Core.Path.{◌≡◌, refl, ◌∙◌}
use mathlib.Core.Bool.{true}
use mathlib.Core.List.{List, [], ◌++◌}
use Prim.Native.Nat.{ℕ, zero, suc, ◌+◌, ◌<◌, ◌≤◌}
use native.Mathlib.Omega.{arith}
use native.Mathlib.Nat.{add-zero, not-suc-le-zero}
use native.Mathlib.Numerals.{add-one}
use lib.ListN.{length, length-append}
use lib.Seq.{sets}
use borrow.Author.Tests.{lt-ltb, le-ltb}
use Rattle.x696.specs.Outcome.{Outcome, refused, got, next, must}
use Rattle.x696.specs.Tag.{tag, tag_octets}
use Rattle.x696.specs.Value.{Val, node, only}
use Rattle.x696.specs.Types.{Ty, choice, Items}
use Rattle.x696.specs.Encode.{encode, encode_alternative}
use Rattle.x696.specs.Walk.{Listed, walk, walk_alternative}
use Rattle.x696.specs.Table.{row_kind, row_first, row_count, tag_class, tag_number, alternative_row, items_from}
use Rattle.x696.specs.Table.{alternatives_from, type_of}
use Rattle.x696.specs.TableFault.{row_sound}
use Rattle.x696.proofs.TableTags.{alternatives_count}
use Rattle.x696.proofs.TableKinds.{choice_type}
use Rattle.octets.proofs.Answered.{next_refused, next_got}
use Rattle.octets.proofs.Stores.{sets_after}
use Rattle.pens.specs.Put.{listed_at, walk_behind, Put}
use Rattle.std.proofs.Common.{Result}
use Rattle.octets.specs.declared.faults.Fault.{Fault}
use Rattle.pens.specs.declared.pen.Pen.{Pen}

-- ---- the alternative at place j of n items from g on
module _ (f : ℕ → Ty) (items : List ℕ) where
  alternative_walk : (g n j : ℕ) (s : Listed) → j < n
      → walk_alternative (alternatives_from f items g n) j s ≡ walk (f (alternative_row items (g + j))) s
  unfolding walk items_from
  alternative_walk g zero j s h = absurd (not-suc-le-zero h)
  alternative_walk g (suc n) zero s h = rw (add-zero g)
  alternative_walk g (suc n) (suc j) s h =
      let e : g + suc j ≡ suc g + j = omega arith in
      rw e (alternative_walk (suc g) n j s (omega arith))

  alternative_octets : (g n j : ℕ) (v : Val) → j < n
      → encode_alternative (alternatives_from f items g n) j (only v)
      ≡ tag_octets (tag (tag_class items (g + j)) (tag_number items (g + j))) ++ encode (f (alternative_row items (g +
      j))) v
  unfolding encode items_from
  alternative_octets g zero j v h = absurd (not-suc-le-zero h)
  alternative_octets g (suc n) zero v h = rw (add-zero g)
  alternative_octets g (suc n) (suc j) v h =
      let e : g + suc j ≡ suc g + j = omega arith in
      rw e (alternative_octets (suc g) n j v (omega arith))

-- ---- a row of kind 12, behind its node
module _ (rows items ws cs : List ℕ) (row at u number : ℕ) (sound : row_sound rows items row ≡ true)
    (is : row_kind rows row ≡ 12) (n : ℕ) (en : n ≡ row_count rows row) where
  abbrev D : Outcome Listed Val
  D = walk_behind (type_of rows items row) at number (listed_at ws cs (suc at) u)

  abbrev T : ℕ → Ty
  T = λ j. type_of rows items j

  abbrev among : (g : ℕ) → Items
  among g = alternatives_from T items g n

  type_is : (g : ℕ) → g ≡ row_first rows row → type_of rows items row ≡ choice (among g)
  type_is g eg = choice_type rows items row sound is ∙ rw (eg, en)

  pub place_none : n ≤ number → D ≡ refused 11 at
  unfolding walk_behind must
  place_none h =
      rw (type_is (row_first rows row) refl, alternatives_count items T (row_first rows row) n, le-ltb number n h)

  module _ (h : number < n) (g i : ℕ) (eg : g ≡ row_first rows row) (ei : i ≡ g + number) (inner : ℕ)
      (er : inner ≡ alternative_row items i) where
    abbrev O : Outcome Listed Val
    O = walk (type_of rows items inner) (listed_at ws cs (at + 1) u)

    chosen : D ≡ next O λ v r. got (node 12 number [] (only v)) r
    unfolding walk_behind must
    chosen =
        rw (
          type_is g eg,
          alternatives_count items T g n,
          lt-ltb number n h,
          alternative_walk T items g n number (listed_at ws cs (suc at) u) h,
          er,
          ei,
          add-one at,
        )

    octets_are : (v : Val) → encode (type_of rows items row) (node 12 number [] (only v))
        ≡ tag_octets (tag (tag_class items i) (tag_number items i)) ++ encode (type_of rows items inner) v
    unfolding encode
    octets_are v = rw (type_is g eg, er, ei) (alternative_octets T items g n number v h)

    pub chosen_goes : (l : List ℕ) (to : ℕ) {q class index : ℕ} {l₁ l' : List ℕ} {r : Result Pen Fault} → class ≡ tag_class items
        i
        → index ≡ tag_number items i → l₁ ≡ sets l to (tag_octets (tag class index))
        → q ≡ to + length (tag_octets (tag class index)) → q ≤ to + 4
        → Put ws cs O (λ v. encode (type_of rows items inner) v) (at + 1) u q l₁ l' r
        → Put ws cs D (λ v. encode (type_of rows items row) v) at u to l l' r
    chosen_goes l to {q} {class} {index} ec ex s eq few w = record {
      went = λ c f.
          let g = w.went c f in
          let tagged = tag_octets (tag class index) in
          let os = encode (type_of rows items inner) g.what in
          let all : encode (type_of rows items row) (node 12 number [] (only g.what)) ≡ tagged ++ os =
          octets_are g.what ∙ rw (ec, ex) in
          record {
            what = node 12 number [] (only g.what);
            walks = chosen ∙ next_got _ g.walks;
            inside = g.inside;
            within = g.within;
            ends = rw all (omega (arith, g.ends, eq, length-append tagged os));
            bound = omega (arith, g.bound, few);
            stored = rw all (g.stored ∙ sets_after tagged os l to s eq);
          };
      stopped = λ x f. chosen ∙ next_refused _ (w.stopped x f);
    }
