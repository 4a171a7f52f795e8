-- A step into a CHOICE: its tag, and the alternative that the tag names. Nothing stands behind it.
-- Premises are the callees' `ensures`. Assumes nothing.
use mathlib.Core.Path.{◌≡◌, refl, ap, sym, ◌∙◌}
use mathlib.Core.Bool.{true}
use mathlib.Core.List.{List, []}
use Prim.Native.Nat.{ℕ, zero, suc, ◌+◌, ◌<◌, ◌≤◌}
use native.Mathlib.Omega.{arith}
use native.Mathlib.Nat.{add-zero}
use lib.ListN.{length, drop, length-append, length-drop}
use Rattle.x696.specs.Outcome.{Outcome, got, next, choose}
use Rattle.x696.proofs.OutcomeLaws.{refused_never}
use Rattle.x696.specs.Digits.{Below}
use Rattle.x696.specs.Tag.{tag, tag_octets, read_tag}
use Rattle.x696.proofs.TagLaws.{tag_sound}
use Rattle.x696.specs.Value.{Val, node, Vals, no_values, value, only}
use Rattle.x696.specs.Types.{Ty, choice, Items, no_items, item, item_count, alternative, tag_at}
use Rattle.x696.specs.Read.{Message, message, times, component_by, read, read_component}
use Rattle.x696.specs.Path.{no_child, child, alternative_at, child_at, child_before}
use Rattle.x696.specs.PresencePlace.{bits_before}
use Rattle.x696.proofs.Sound.{alternative_tag}
use Rattle.x696.specs.Operations.{node_limit}
use Rattle.x696.specs.Table.{row_kind, row_first, row_count, tag_number, alternative_row, items_from, alternatives_from}
use Rattle.x696.specs.Table.{type_of}
use Rattle.x696.specs.TableFault.{row_sound}
use Rattle.x696.specs.SoundTable.{Each}
use Rattle.x696.proofs.TableTags.{alternatives_count}
use Rattle.x696.proofs.TableRows.{choice_row}
use Rattle.x696.proofs.TableKinds.{choice_type}
use Rattle.octets.specs.Presence.{bit_at}
use Rattle.octets.specs.Answers.{capped, TagAnswer}
use Rattle.octets.specs.declared.answers.Tag.{Tag}
use Rattle.octets.proofs.Octets.{below_drop}
use Rattle.kinds.specs.Run.{inside_at}
use Rattle.reading.proofs.Alternatives.{alternative_capped, chosen}
use Rattle.finding.specs.Leading.{behind_of, Leads}
use Rattle.finding.specs.declared.spot.Opening.{Opening}
use Rattle.std.proofs.Common.{Result, Ok}
use Rattle.octets.specs.declared.faults.Fault.{Fault}

-- no step but 0
alternatives_none : (is : Items) (n : ℕ) (vs : Vals) (i : ℕ) → (i ≡ 0 → ⊥) → alternative_at is n vs i ≡ no_child
unfolding alternative_at
alternatives_none no_items n vs i h = refl
alternatives_none (item a b t is) n no_values i h = refl
alternatives_none (item a b t is) zero (value v vs) zero h = absurd (h refl)
alternatives_none (item a b t is) zero (value v vs) (suc i) h = refl
alternatives_none (item a b t is) (suc n) (value v vs) zero h = absurd (h refl)
alternatives_none (item a b t is) (suc n) (value v vs) (suc i) h = alternatives_none is n (value v vs) (suc i) h

alternative_child : (f : ℕ → Ty) (items : List ℕ) (n g j : ℕ) (x : Val) (vs : Vals) → j < n
    → alternative_at (alternatives_from f items g n) j (value x vs) 0 ≡ child 0 0 (f (alternative_row items (g + j))) x
unfolding alternative_at items_from
alternative_child f items zero g j x vs h = absurd (omega arith)
alternative_child f items (suc n) g zero x vs h = rw (add-zero g) refl
alternative_child f items (suc n) g (suc j) x vs h =
    let k : g + suc j ≡ suc g + j = omega arith in
    rw k (alternative_child f items n (suc g) j x vs (omega arith))

module _ (rows items msg : List ℕ) (row at count : ℕ) (inside : at ≤ length msg)
    (sound : row_sound rows items row ≡ true) (is : row_kind rows row ≡ 12) where
  abbrev D : Outcome Message Val
  D = inside_at (type_of rows items row) msg at count

  pub past_choice : (i : ℕ) → (i ≡ 0 → ⊥) → (v : Val) (s : Message) → D ≡ got v s
      → child_at (type_of rows items row) v i ≡ no_child
  unfolding child_at
  past_choice i h (node k n os vs) s e = rw (choice_type rows items row sound is) (alternatives_none _ n vs i h)

  module _ (g n j : ℕ) {a : Result Tag Fault} (t : TagAnswer msg (read_tag at (drop at msg)) at a) (m : Tag) (e : a ≡ Ok m)
      (eg : g ≡ row_first rows row) (en : n ≡ row_count rows row)
      (ej : (f : ℕ → Ty) → j ≡ alternative (alternatives_from f items g n) (tag m.class m.number))
      (h : j < n) where
    abbrev among : Items
    among = alternatives_from (λ k. type_of rows items k) items g n

    type_is : type_of rows items row ≡ choice among
    type_is = rw (eg, en) (choice_type rows items row sound is)

    -- the alternative's own tag is the one that was read
    tag_of : (whole : ℕ) → m.number ≡ capped whole → tag_at among j ≡ tag m.class whole
    tag_of whole capped_is =
        let known = choice_row rows items row sound is in
        let range : Each (λ k. tag_number items k ≤ 2097151) g n = rw (eg, en) λ k l. (known.alternative k l).number in
        let same = alternative_capped (λ k. type_of rows items k) items m.class whole g n range in
        let place : j ≡ alternative among (tag m.class whole) =
        ej (λ k. type_of rows items k) ∙ rw capped_is same in
        let less : alternative among (tag m.class whole) < item_count among =
        rw (← place, alternatives_count items (λ k. type_of rows items k) g n) h in
        rw place (alternative_tag among (tag m.class whole) less)

    own_tag : tag_at among j ≡ tag m.class (t.went m e).whole
    own_tag = tag_of (t.went m e).whole (t.went m e).number

    module _ (below : Below 8 msg) (o : Opening) (er : o.component.row ≡ alternative_row items (g + j)) (em : o.component.mark ≡ 0)
        (ed : o.component.given ≡ 0) (eo : o.bit ≡ 0) (ea : o.at ≡ m.next) (ek : o.count ≡ count + 1) (ex : o.left
        ≡ 0) where
      abbrev C : Outcome Message Val
      C = read node_limit (type_of rows items (alternative_row items (g + j))) (length msg)
          (message (drop m.next msg) (count + 1))

      first : D ≡ next C λ v s. got (node 12 j [] (only v)) s
      first = chosen rows items msg row at count inside sound is t g n j m e eg en ej h refl

      child_is : read_component node_limit o.component.mark o.component.given (type_of rows items o.component.row) (bit_at msg at o.bit)
          (length msg) (message (drop o.at msg) o.count) ≡ C
      unfolding read_component component_by
      child_is = rw (er, em, ea, ek) refl

      none_behind : (s : Message) → behind_of rows items msg row at o s ≡ got no_values s
      unfolding behind_of choose times
      none_behind s = rw (is, ex) refl

      pub choice_leads : Leads rows items msg row at 0 D o
      unfolding next child_at child_before bits_before
      choice_leads =
          let known = choice_row rows items row sound is in
          let lead = ap length (tag_sound at (drop at msg) (below_drop 8 msg at below) (t.went m e).reads) in
          let l : j < row_count rows row = rw (← en) h in
          record {
            wrap = λ x bs. node 12 j [] (value x bs);
            stops = λ x q f. rw (first, sym child_is ∙ f) refl;
            ends = λ x s k q f b. absurd (refused_never (sym b ∙ none_behind s));
            gets = λ x s bs r f b.
                let z = sym b ∙ none_behind s in
                let v : bs ≡ no_values = cc in
                let w : r ≡ s = cc in
                rw (v, w, first, sym child_is ∙ f) refl;
            leads = λ x bs. rw (type_is, er, em, ed) (alternative_child _ items n g j x bs h);
            before = λ x bs.
                rw (type_is, own_tag, ea)
                (omega (
                  arith,
                  lead,
                  length-append (tag_octets (tag m.class (t.went m e).whole)) (drop m.next msg),
                  length-drop at msg,
                  length-drop m.next msg,
                  (t.went m e).inside,
                  inside,
                ));
            bit = rw (type_is, eo) refl;
            few = omega (arith, eo);
            lower = rw (er, eg) (known.alternative j l).lower;
            inside = rw ea (t.went m e).inside;
            fitting = rw (em, ed) (omega arith, (λ z. absurd (omega arith)), λ z. refl);
            behind = λ z. absurd (omega (arith, is, z));
          }
