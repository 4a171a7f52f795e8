-- A component that was read: whether it is ABSENT, and where its own octets stand.
-- Assumes nothing.
use mathlib.Core.Path.{◌≡◌, refl, ap, sym, ◌∙◌}
use mathlib.Core.Bool.{Bool, true, false, not, ◌&&◌}
use mathlib.Core.List.{List, [], ◌∷◌, ◌++◌}
use Prim.Native.Nat.{ℕ, zero, suc, ◌+◌, ◌-◌, ◌/◌, ◌<◌, ◌≤◌}
use native.Mathlib.Omega.{arith}
use lib.ListN.{length, drop, length-append, length-drop, drop_of_length-le}
use lib.Dec.{eqb}
use borrow.Author.Tests.{ne_eqb}
use Rattle.x696.specs.Digits.{Below}
use Rattle.x696.specs.Real.{binary32, binary64}
use Rattle.x696.specs.Value.{Val, size, same}
use Rattle.x696.proofs.ValueLaws.{same_refl}
use Rattle.x696.specs.Leaf.{boolean, null, integer, enumerated, real, octet_string, bit_string, visible_string}
use Rattle.x696.specs.Leaf.{leaf_kind, real_kind}
use Rattle.x696.specs.Types.{Ty, leaf, sequence, sequence_of, choice, kind_of, presence_count, missing}
use Rattle.x696.specs.Fits.{Fits, leaf_fits, sequence_fits, sequence_of_fits, choice_fits, FitsComponent, plain, carried}
use Rattle.x696.specs.Fits.{left_out}
use Rattle.x696.specs.Encode.{bit, presence_bits, own_octets}
use Rattle.x696.specs.Read.{message}
use Rattle.x696.proofs.Sound.{ComponentReadAs}
use Rattle.x696.specs.Operations.{node_limit}
use Rattle.x696.specs.Path.{find_from, octets_before}
use Rattle.x696.specs.Table.{row_width, type_of}
use Rattle.octets.specs.Presence.{bit_at}
use Rattle.octets.proofs.Octets.{below_drop}
use Rattle.kinds.specs.Run.{number_of}
use Rattle.kinds.specs.declared.cursor.Cursor.{Cursor}
use Rattle.finding.specs.Passing.{Stood, Fitting}
use Rattle.finding.specs.Following.{kind_in, preamble_from, bit_from, Spotted, followed, Goes}
use Rattle.finding.specs.declared.spot.Spot.{Spot}
use Rattle.std.proofs.Common.{Ok}
use Rattle.finding.proofs.Members.{component_own, bit_small}

-- ---- the kind of a value's own node
pub type_kind : (t : Ty) → eqb (kind_of t) 0 ≡ false
unfolding kind_of leaf_kind real_kind
type_kind (leaf boolean) = refl
type_kind (leaf null) = refl
type_kind (leaf (integer f a b)) = refl
type_kind (leaf (enumerated ns)) = refl
type_kind (leaf (real binary32)) = refl
type_kind (leaf (real binary64)) = refl
type_kind (leaf (octet_string f a b)) = refl
type_kind (leaf (bit_string f a b)) = refl
type_kind (leaf (visible_string f a b)) = refl
type_kind (sequence is) = refl
type_kind (sequence_of t) = refl
type_kind (choice is) = refl

pub fits_kind : {t : Ty} {v : Val} → Fits t v → kind_in v ≡ kind_of t
unfolding kind_in kind_of
fits_kind (leaf_fits e f) = e
fits_kind (sequence_fits e f) = refl
fits_kind (sequence_of_fits e h f) = refl
fits_kind (choice_fits e f) = refl

pub fits_there : {t : Ty} {v : Val} → Fits t v → eqb (kind_in v) 0 ≡ false
fits_there {t} f = rw (fits_kind f) (type_kind t)

and_false : (a : Bool) → a && false ≡ false
and_false true = refl
and_false false = refl

-- ABSENT: an OPTIONAL component whose bit is 0
absent_is : {m d : ℕ} {t : Ty} {v : Val} (x : ℕ) → FitsComponent m d t v
    → x ∷ [] ≡ presence_bits m d t v ++ drop (presence_count m) (x ∷ [])
    → eqb m 1 && not (eqb x 1) ≡ eqb (kind_in v) 0
unfolding presence_bits presence_count bit missing kind_in
absent_is x (plain f) e = sym (fits_there f)
absent_is x (carried {m = m} f differs) e =
    let one : x ≡ 1 = cc (rw differs at e) in
    rw one (and_false (eqb (suc m) 1) ∙ sym (fits_there f))
absent_is {d = d} {t} x (left_out {m = zero} v-is) e =
    let z : x ∷ [] ≡ bit (not (same (missing 1 d t) (missing 1 d t))) ∷ [] = rw v-is at e in
    let none : x ≡ 0 = cc (rw (same_refl (missing 1 d t)) at z) in
    rw (v-is, none) refl
absent_is {d = d} {t} x (left_out {m = suc m} v-is) e =
    rw (v-is, ne_eqb (suc (suc m)) 1 (λ z. omega arith)) (sym (type_kind t))

-- ---- the component at the empty path
module _ (rows items msg : List ℕ) (m d row pre b at count : ℕ) (inside : at ≤ length msg) (below : Below 8 msg)
    {c : Cursor} (g : Stood number_of msg (followed rows items msg m d row pre b at count) c) where
  abbrev t : Ty
  t = type_of rows items row

  abbrev v : Val
  v = g.what

  own : ComponentReadAs node_limit m d t (bit_at msg pre b ∷ []) (drop at msg) count v (message (drop c.at msg)
      c.count)
  own = component_own m d t (bit_at msg pre b) (length msg) (message (drop at msg) count) (bit_small msg pre b)
      (below_drop 8 msg at below) g.reads

  pub counted_more : c.count ≡ count + size v
  counted_more = own.nodes

  module _ (a : Bool) (ea : a ≡ eqb m 1 && not (eqb (bit_at msg pre b) 1)) (few : b < 1024)
      (known : row < length rows / row_width) (fit : Fitting t m d) where
    abbrev spot : Spot
    spot = record {
      component = record { row = row; mark = m; given = d };
      absent = a;
      start = at;
      end = c.at;
      nodes = c.count - count;
      number = c.number;
      pre = pre;
      bit = b;
    }

    spotted : Spotted rows items m d t pre b at v [] spot
    unfolding find_from octets_before preamble_from bit_from
    spotted =
        record {
          value = v;
          finds = refl;
          start = omega arith;
          end = omega (
            arith,
            ap length own.from,
            length-append (own_octets m d t v) (drop c.at msg),
            length-drop at msg,
            length-drop c.at msg,
            g.inside,
            inside,
          );
          nodes = omega (arith, own.nodes);
          number = g.number;
          absent = ea ∙ absent_is (bit_at msg pre b) own.fits own.shown;
          preamble = refl;
          bit = refl;
          few = few;
          inside = known;
          fitting = fit;
        }

    pub end_finds : (path : List ℕ) (step : ℕ) → length path ≤ step
        → Goes rows items msg m d row pre b at count (drop step path) step
        (record { at = c.at; count = c.count; leads = Ok spot })
    end_finds path step h =
        rw (drop_of_length-le path h) (record {
          what = v;
          reads = g.reads;
          inside = g.inside;
          found = λ s e. let q : spot ≡ s = cc in rw (← q) spotted;
          lost = λ k e. let z : ◌≡◌ {A = ℕ} 0 1 = cc in absurd (omega arith);
        })
