-- Groups of a tag number, read one after another: the loop keeps the number that they hold, capped at 2,097,152.
-- Assumes nothing.
use mathlib.Core.Path.{◌≡◌, refl, sym, ap, ◌∙◌}
use mathlib.Core.Bool.{not}
use mathlib.Core.List.{List, [], ◌∷◌, ◌++◌, append_assoc}
use Prim.Native.Nat.{ℕ, zero, suc, ◌+◌, ◌*◌, ◌-◌, ◌%◌, ◌<◌, ◌≤◌}
use native.Mathlib.Numerals.{add-one}
use native.Mathlib.Omega.{arith}
use lib.ListN.{length, get_or, drop, drop_of_length-le}
use lib.Seq.{drop-cons}
use lib.Dec.{ltb, eqb}
use borrow.Author.Tests.{lt-ltb, le-ltb, eq-eqb, ne_eqb}
use Rattle.x696.specs.Outcome.{Outcome, refused, got, next, choose}
use Rattle.x696.proofs.OutcomeLaws.{cases_lt}
use Rattle.x696.specs.Digits.{from_digits, Below}
use Rattle.x696.proofs.DigitsLaws.{below_append}
use Rattle.x696.specs.Fewest.{is_fewest}
use Rattle.x696.proofs.FewestLaws.{is_fewest_one, is_fewest_more}
use Rattle.x696.specs.Tag.{read_groups}
use Rattle.octets.specs.Answers.{capped}
use Rattle.octets.proofs.DigitsAt.{from_digits_snoc}

-- ---- capped numbers
pub capped_low : (n : ℕ) → n < 2097152 → n ≡ capped n
unfolding capped
capped_low n h = sym (rw (lt-ltb n 2097152 h))

pub capped_high : (n : ℕ) → 2097152 ≤ n → 2097152 ≡ capped n
unfolding capped
capped_high n h = sym (rw (le-ltb n 2097152 h))

pub capped_le : (n : ℕ) → capped n ≤ 2097152
unfolding capped
capped_le n = cases_lt n 2097152 (λ e h. rw e (omega arith)) (λ e h. rw e (omega arith))

-- one more group, before or after the cap
pub capped_more : (n g : ℕ) → capped (capped n * 128 + g) ≡ capped (n * 128 + g)
unfolding capped
capped_more n g =
    cases_lt n 2097152
    (λ e h. rw e)
    (λ e h. rw (e, le-ltb (2097152 * 128 + g) 2097152 (omega arith), le-ltb (n * 128 + g) 2097152 (omega arith)))

-- below 2,097,152 the cap changes no comparison
pub capped_below : (n k : ℕ) → k ≤ 2097152 → capped n < k → n < k
unfolding capped
capped_below n k h g = cases_lt n 2097152 (λ e l. rw e at g) (λ e l. absurd (omega (arith, rw e at g)))

pub capped_above : (n k : ℕ) → k ≤ capped n → k ≤ n
unfolding capped
capped_above n k g = cases_lt n 2097152 (λ e l. rw e at g) (λ e l. omega (arith, rw e at g))

-- ---- reading one group
group_on : (p : ℕ) (s : List ℕ) (x : ℕ) (r : List ℕ) → s ≡ x ∷ r → 128 ≤ x
    → read_groups p s ≡ next (read_groups p r) λ ds r. got ((x - 128) ∷ ds) r
unfolding read_groups choose
group_on p s x r e h = rw (e, le-ltb x 128 h)

group_last : (p : ℕ) (s : List ℕ) (x : ℕ) (r : List ℕ) → s ≡ x ∷ r → x < 128 → read_groups p s ≡ got (x ∷ []) r
unfolding read_groups choose
group_last p s x r e h = rw (e, lt-ltb x 128 h)

group_none : (p : ℕ) (s : List ℕ) → s ≡ [] → read_groups p s ≡ refused 5 p
unfolding read_groups
group_none p s e = rw e

-- groups put before those that an outcome holds
next_none : (o : Outcome (List ℕ) (List ℕ)) → o ≡ next o λ ds r. got ds r
unfolding next
next_none (refused n p) = refl
next_none (got ds r) = refl

next_more : (o : Outcome (List ℕ) (List ℕ)) (gs : List ℕ) (y : ℕ)
    → next (next o λ ds r. got (y ∷ ds) r) (λ ds r. got (gs ++ ds) r) ≡ next o λ ds r. got (gs ++ (y ∷ []) ++ ds) r
unfolding next
next_more (refused n p) gs y = refl
next_more (got ds r) gs y = rw (append_assoc gs (y ∷ []) ds)

-- ---- the loop
-- what the first group tells of the message: if there is none, nothing was read
abbrev pub Lead : (groups : List ℕ) → (start i first : ℕ) → Type 0
Lead [] start i first = i ≡ start
Lead (d ∷ ds) start i first = first ≡ 128 + d

-- the octets from start to i are groups, each with another one after it, and n is their number, capped
pub record Grouped (msg : List ℕ) (start i n : ℕ) : Type 0 where
  pub groups : List ℕ
  pub value : n ≡ capped (from_digits 7 groups)
  pub reads : (p : ℕ) → read_groups p (drop start msg) ≡ next (read_groups p (drop i msg)) λ ds r. got (groups ++ ds) r
  pub below : Below 7 groups
  pub lead : Lead groups start i (get_or msg start 0)
  pub past : start ≤ i
  pub inside : i ≤ length msg

pub grouped_start : (msg : List ℕ) (start : ℕ) → start ≤ length msg → Grouped msg start start 0
unfolding from_digits
grouped_start msg start h = record {
  groups = [];
  value = capped_low 0 (omega arith);
  reads = λ p. next_none (read_groups p (drop start msg));
  below = tt;
  lead = refl;
  past = omega arith;
  inside = h;
}

pub grouped_small : {msg : List ℕ} {start i n : ℕ} → Grouped msg start i n → n ≤ 2097152
grouped_small w = rw w.value (capped_le (from_digits 7 w.groups))

-- at the end no last group has come
pub grouped_none : {msg : List ℕ} {start i n : ℕ} → Grouped msg start i n → length msg ≤ i
    → (p : ℕ) → read_groups p (drop start msg) ≡ refused 5 p
unfolding next
grouped_none {msg} {i = i} w h p = w.reads p ∙ rw (group_none p (drop i msg) (drop_of_length-le msg h))

lead_more : (ds : List ℕ) (start i first x : ℕ) → Lead ds start i first → (i ≡ start → x ≡ first) → 128 ≤ x
    → Lead (ds ++ ((x - 128) ∷ [])) start (i + 1) first
lead_more [] start i first x e f h = omega (arith, f e)
lead_more (d ∷ ds) start i first x e f h = e

lead_test : (d first : ℕ) → first ≡ 128 + d → ltb 0 d ≡ not (eqb first 128)
lead_test zero first e = sym (rw (eq-eqb first 128 (omega (arith, e))))
lead_test (suc d) first e =
    lt-ltb 0 (suc d) (omega arith) ∙ sym (rw (ne_eqb first 128 (λ q. omega (arith, e, q))))

lead_fewest : (ds : List ℕ) (start i first x : ℕ) → Lead ds start i first → (i ≡ start → x ≡ first)
    → Below 7 (ds ++ (x ∷ [])) → is_fewest 7 (ds ++ (x ∷ [])) ≡ not (eqb first 128)
lead_fewest [] start i first x e f b =
    is_fewest_one 7 x b.0 ∙ sym (rw (ne_eqb first 128 (λ q. omega (arith, f e, q, b.0))))
lead_fewest (d ∷ []) start i first x e f b = is_fewest_more 7 d x [] (omega arith) b ∙ lead_test d first e
lead_fewest (d ∷ g ∷ ds) start i first x e f b =
    is_fewest_more 7 d g (ds ++ (x ∷ [])) (omega arith) b ∙ lead_test d first e

module _ {msg : List ℕ} {start i n x y : ℕ} (w : Grouped msg start i n) (h : i < length msg) (ex : x ≡ get_or msg i 0)
    (bx : x < 256) (ey : y ≡ capped (n * 128 + x % 128)) where
  here : drop i msg ≡ x ∷ drop (i + 1) msg
  here = rw (ex, add-one i) (drop-cons msg i 0 h)

  first_is : i ≡ start → x ≡ get_or msg start 0
  first_is e = ex ∙ ap (λ z. get_or msg z 0) e

  value_more : y ≡ capped (from_digits 7 (w.groups ++ (x % 128 ∷ [])))
  value_more =
      ey ∙ ap (λ z. capped (z * 128 + x % 128)) w.value ∙ capped_more (from_digits 7 w.groups) (x % 128) ∙
      ap capped (sym (from_digits_snoc 7 w.groups (x % 128)))

  below_more : Below 7 (w.groups ++ (x % 128 ∷ []))
  below_more = below_append 7 w.groups (x % 128 ∷ []) w.below (omega arith, tt)

  -- another group comes
  pub grouped_more : 128 ≤ x → Grouped msg start (i + 1) y
  grouped_more g =
      let m : x % 128 ≡ x - 128 = omega arith in
      record {
        groups = w.groups ++ ((x - 128) ∷ []);
        value = rw m at value_more;
        reads = λ p. w.reads p ∙ rw (group_on p (drop i msg) x (drop (i + 1) msg) here g)
            (next_more (read_groups p (drop (i + 1) msg)) w.groups (x - 128));
        below = rw m at below_more;
        lead = lead_more w.groups start i (get_or msg start 0) x w.lead first_is g;
        past = omega (arith, w.past);
        inside = omega arith;
      }

  -- this was the last one
  module _ (g : x < 128) where
    last_is : x % 128 ≡ x
    last_is = omega arith

    pub grouped_reads : (p : ℕ) → read_groups p (drop start msg) ≡ got (w.groups ++ (x ∷ [])) (drop (i + 1) msg)
    unfolding next
    grouped_reads p = w.reads p ∙ rw (group_last p (drop i msg) x (drop (i + 1) msg) here g)

    pub grouped_value : y ≡ capped (from_digits 7 (w.groups ++ (x ∷ [])))
    grouped_value = rw last_is at value_more

    pub grouped_fewest : is_fewest 7 (w.groups ++ (x ∷ [])) ≡ not (eqb (get_or msg start 0) 128)
    grouped_fewest = lead_fewest w.groups start i (get_or msg start 0) x w.lead first_is (rw last_is at below_more)
