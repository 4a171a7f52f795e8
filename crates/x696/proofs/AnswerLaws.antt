-- Demand 1 on definitions: which refusals of document 01's table each operation can give, with the ranges that their
-- places lie in. Octets are octets (`Below 8`): what is left over then lies inside the message.
-- Assumes nothing.
use Rattle.std.proofs.Math.Path.{◌≡◌}
use Rattle.std.specs.Prelude.{refl, false, length, eqb}
use Rattle.std.proofs.Common.{ap, ⊎_elim, arith, length-append}
use mathlib.Core.List.{List, [], ◌∷◌}
use Prim.Native.Nat.{ℕ, zero, suc, ◌+◌, ◌/◌, ◌<◌, ◌≤◌}
use Rattle.std.proofs.lemmas.Bool.{eqb-false}
use Rattle.x696.proofs.OutcomeLaws.{choose_inv}
use Rattle.x696.specs.Digits.{Below}
use Rattle.x696.proofs.Ends.{Ends, reads, next_ends, must_ends, must_ends_if, ends_at, ends_weaker}
use Rattle.x696.proofs.Refusals.{FaultIn, read_refusals}
use Rattle.x696.proofs.ListRefusals.{ListFault, walk_component_refusals}
use Rattle.x696.specs.Value.{Val, node_width}
use Rattle.x696.specs.Types.{Ty}
use Rattle.x696.specs.Read.{message, read, offset}
use Rattle.x696.specs.Path.{Child, no_child, child, child_at, through, Found, nowhere, found, onward, find_from}
use Rattle.x696.specs.Path.{find}
use Rattle.x696.proofs.Sound.{sound}
use Rattle.x696.specs.Encode.{encode}
use Rattle.x696.specs.Table.{row_width}
use Rattle.x696.specs.TableFault.{TableFault, bad_size, bad_row, rows_fault, table_fault}
use Rattle.x696.specs.TableFault.{sound as soundTable}
use Rattle.x696.specs.Reply.{in_part}
use Rattle.x696.specs.Operations.{node_limit, usable, asked, read_message, walk_list, result_fits, room_for}
use Rattle.x696.specs.Operations.{value_in, decodable, octets_for}
use Rattle.x696.specs.Editing.{Place, place_of, place_in, edited, edited_octets}
use Rattle.x696.specs.RefusalTable.{◌or◌, first, second, table_size, table_row, no_row, OfMessage}
use Rattle.x696.specs.RefusalTable.{message_long, in_value, left_over, message_nodes, OfList, list_nodes, list_long}
use Rattle.x696.specs.RefusalTable.{not_allowed, bad_list, OfPath, no_component, ManyNodes, result_nodes, LongResult}
use Rattle.x696.specs.RefusalTable.{result_long, NoRoom, no_room}
use Rattle.x696.proofs.Answering.{then_answers, unless_answers, in_part_answers}
use Rattle.x696.specs.Replying.{Asking, Answers, refused_by, hands}

module _ (rows items : List ℕ) where
  -- the row at fault is one of those judged
  rows_faulty : (r n : ℕ) (ns : List ℕ) {k : ℕ} → rows_fault rows items r n ns ≡ bad_row k → k < r + n
  unfolding rows_fault
  rows_faulty r zero ns e = let z : ◌≡◌ {A = ℕ} 0 1 = cc in absurd (omega arith)
  rows_faulty r (suc n) ns {k} e =
      choose_inv _ _ _ e
      (λ _ q. let h = rows_faulty (suc r) n _ q in omega arith)
      (λ _ q. let same : r ≡ k = cc in omega arith)

  pub table_faulty : {k : ℕ} → table_fault rows items ≡ bad_row k → k < length rows / row_width
  unfolding table_fault
  table_faulty e =
      choose_inv _ _ _ e
      (λ _ q. let h = rows_faulty 0 (length rows / row_width) [] q in omega arith)
      (λ _ q. let z : ◌≡◌ {A = ℕ} 0 1 = cc in absurd (omega arith))

  usable_answers : (f : TableFault) (r : ℕ) → ((k : ℕ) → f ≡ bad_row k → k < length rows / row_width)
      → Answers (Asking rows) (usable f rows items r)
  unfolding usable
  usable_answers bad_size r h = refused_by (first table_size)
  usable_answers (bad_row k) r h = refused_by (first (table_row (h k refl)))
  usable_answers soundTable r h = unless_answers _ _ _ _ _ (second no_row)

  pub asked_answers : (r : ℕ) → Answers (Asking rows) (asked rows items r)
  unfolding asked
  asked_answers r = usable_answers (table_fault rows items) r (λ k e. table_faulty e)

-- a whole message: 4, 5 to 8, 10, 9
value_fault : (octets n p : ℕ) → FaultIn octets n p → OfMessage octets n 1 p
value_fault octets n p f =
    ⊎_elim
    (λ h. in_value h.0 h.1 f.inside)
    (λ h. rw h (message_nodes f.inside))
    f.numbered

-- what is left is no longer than what there was
read_shortens : (t : Ty) (s : List ℕ) → Below 8 s
    → Ends (FaultIn (length s)) (λ r. length r.octets ≤ length s) (read node_limit t (length s) (message s 0))
read_shortens t s b =
    ends_at
    (λ v r e.
    let a = sound node_limit t (length s) (message s 0) b e in
    omega (arith, ap length a.from, length-append (encode t v) r.octets))
    (read_refusals node_limit (length s) t (message s 0))

left_inside : (s r : List ℕ) → length r ≤ length s → eqb (length r) 0 ≡ false → offset (length s) r < length s
unfolding offset
left_inside s r h e = let some = eqb-false (length r) 0 e in omega arith

message_ends : (t : Ty) (s : List ℕ) → Below 8 s
    → Ends (λ n p. OfMessage (length s) n 1 p) (λ r. Unit {0}) (read_message t s)
unfolding read_message
message_ends t s b =
    must_ends _ _ _ message_long
    (next_ends _ (ends_weaker (value_fault (length s)) (λ _ h. h) (read_shortens t s b)) λ v r h.
    must_ends_if _ _ _ (λ e. left_over (left_inside s r.octets h e)) (reads tt))

pub message_answers : (t : Ty) (s : List ℕ) → Below 8 s → Answers (OfMessage (length s)) (in_part 1 (read_message t s))
message_answers t s b = in_part_answers 1 (λ _ _ h. h) (message_ends t s b)

-- a whole value list: 11, 10, 4, 11 and 7
list_fault : (nodes n p : ℕ) → ListFault nodes n p → OfList nodes n 2 p
list_fault nodes n p f = ⊎_elim (λ h. rw h.0 (bad_list h.1)) (λ h. rw h.0 (not_allowed h.1)) f.numbered

list_ends : (m : ℕ) (t : Ty) (ws cs : List ℕ)
    → Ends (λ n p. OfList (length ws / node_width) n 2 p) (λ r. Unit {0}) (walk_list m t ws cs)
unfolding walk_list
list_ends m t ws cs =
    must_ends _ _ _ (bad_list (omega arith))
    (must_ends _ _ _ list_nodes
    (must_ends _ _ _ list_long
    (next_ends _ (ends_weaker (list_fault _) (λ _ h. h) (walk_component_refusals m t ws cs)) λ v r a.
    let at_most : r.at ≤ length ws / node_width = omega (arith, a.along) in
    must_ends _ _ _ (bad_list at_most) (must_ends _ _ _ (bad_list at_most) (reads tt)))))

pub list_answers : (m : ℕ) (t : Ty) (ws cs : List ℕ)
    → Answers (OfList (length ws / node_width)) (in_part 2 (walk_list m t ws cs))
list_answers m t ws cs = in_part_answers 2 (λ _ _ h. h) (list_ends m t ws cs)

-- a path: 13 at one of its steps
onward_inside : (f : Found) (n : ℕ) {k : ℕ} → ((k : ℕ) → f ≡ nowhere k → k < n) → onward f ≡ nowhere k → k < suc n
unfolding onward
onward_inside (nowhere j) n {k} h e =
    let less = h j refl in
    let same : suc j ≡ k = cc in
    omega arith
onward_inside (found m d t v) n h e = let z : ◌≡◌ {A = ℕ} 0 1 = cc in absurd (omega arith)

-- one step, and the rest of the path behind it
step_inside : (c : Child) (f : (mark default : ℕ) → Ty → Val → Found) (n : ℕ) {k : ℕ}
    → ((m d : ℕ) (t : Ty) (v : Val) (k : ℕ) → f m d t v ≡ nowhere k → k < n)
    → through c (nowhere 0) (λ m d t v. onward (f m d t v)) ≡ nowhere k
    → k < suc n
unfolding through
step_inside no_child f n {k} h e = let same : 0 ≡ k = cc in omega arith
step_inside (child m d t v) f n h e = onward_inside (f m d t v) n (h m d t v) e

find_inside : (p : List ℕ) (m d : ℕ) (t : Ty) (v : Val) (k : ℕ) → find_from m d t v p ≡ nowhere k → k < length p
unfolding find_from
find_inside [] m d t v k e = let z : ◌≡◌ {A = ℕ} 0 1 = cc in absurd (omega arith)
find_inside (i ∷ p) m d t v k e =
    step_inside (child_at t v i) (λ m d t v. find_from m d t v p) (length p) (λ m d t v k e. find_inside p m d t v k e) e

placed : (t : Ty) (v : Val) (f : Found) (n : ℕ) → ((k : ℕ) → f ≡ nowhere k → k < n)
    → Answers (OfPath n) (place_of t v f)
unfolding place_of
placed t v (nowhere k) n h = refused_by (no_component (h k refl))
placed t v (found m d u x) n h = hands

path_answers : (t : Ty) (v : Val) (p : List ℕ) → Answers (OfPath (length p)) (place_of t v (find t v p))
unfolding find
path_answers t v p = placed t v (find_from 0 0 t v p) (length p) (find_inside p 0 0 t v)

-- a result: 4, 12; 10 of an edit
long_answers : (os : List ℕ) → Answers LongResult (result_fits os)
unfolding result_fits
long_answers os = unless_answers _ _ _ _ _ result_long

pub room_answers : (os out : List ℕ) → Answers NoRoom (room_for os out)
unfolding room_for
room_answers os out = unless_answers _ _ _ _ _ no_room

many_answers : (p : List ℕ) (c : Place) (y : Val) → Answers ManyNodes (edited p c y)
unfolding edited
many_answers p c y = unless_answers _ _ _ _ _ result_nodes

-- ---- the operations
module _ (rows items : List ℕ) (r : ℕ) where
  module _ (s : List ℕ) (b : Below 8 s) where
    pub value_in_answers : Answers (Asking rows or OfMessage (length s)) (value_in rows items r s)
    unfolding value_in
    value_in_answers = then_answers _ (asked_answers rows items r) λ t. message_answers t s b

    pub decodable_answers : (ns cs : List ℕ)
        → Answers ((Asking rows or OfMessage (length s)) or NoRoom) (decodable rows items r s ns cs)
    unfolding decodable
    decodable_answers ns cs = then_answers _ value_in_answers λ v. unless_answers _ _ _ _ _ no_room

    pub place_in_answers : (p : List ℕ)
        → Answers (Asking rows or OfMessage (length s) or OfPath (length p)) (place_in rows items r s p)
    unfolding place_in
    place_in_answers p =
        then_answers _ (asked_answers rows items r) λ t.
        then_answers _ (message_answers t s b) λ v. path_answers t v p

    pub edited_octets_answers : (p ws cs : List ℕ)
        → Answers
        ((Asking rows or OfMessage (length s) or OfPath (length p))
        or OfList (length ws / node_width) or ManyNodes or LongResult)
        (edited_octets rows items r s p ws cs)
    unfolding edited_octets
    edited_octets_answers p ws cs =
        then_answers _ (place_in_answers p) λ c.
        then_answers _ (list_answers c.mark c.its ws cs) λ y.
        then_answers _ (many_answers p c y) λ w. long_answers _

  pub octets_for_answers : (ws cs : List ℕ)
      → Answers (Asking rows or OfList (length ws / node_width) or LongResult) (octets_for rows items r ws cs)
  unfolding octets_for
  octets_for_answers ws cs =
      then_answers _ (asked_answers rows items r) λ t.
      then_answers _ (list_answers 0 t ws cs) λ v. long_answers _
