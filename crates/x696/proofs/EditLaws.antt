-- Edits that are DONE, both ways: what such an edit did, and when an edit is DONE.
-- Assumes nothing.
use Rattle.std.specs.Prelude.{◌≡◌, true, List, [], ◌++◌, ℕ, suc, ◌+◌, ◌≤◌, ◌<◌, drop, leb, eqb}
use Rattle.std.proofs.Math.Path.{refl, ap}
use Rattle.std.proofs.Common.{◌∙◌, arith}
use Rattle.std.proofs.Math.ListN.{length, length-append}
use Rattle.std.proofs.Math.Seq.{take-append_seam}
use borrow.Author.Tests.{leb-true, le-leb, eqb-true}
use Rattle.x696.specs.Outcome.{refused, got}
use Rattle.x696.proofs.OutcomeLaws.{cases, and_both}
use Rattle.x696.specs.Digits.{Below}
use Rattle.x696.specs.Value.{Val, absent, size, nodes, contents}
use Rattle.x696.specs.Types.{Ty}
use Rattle.x696.specs.Fits.{Fits, FitsComponent}
use Rattle.x696.specs.Encode.{encode, own_octets}
use Rattle.x696.proofs.EncodeLaws.{encode_octets}
use Rattle.x696.specs.Read.{Message, message}
use Rattle.x696.specs.Walk.{Listed, list_at}
use Rattle.x696.specs.WellFormed.{WellFormed}
use Rattle.x696.specs.Table.{type_of}
use Rattle.x696.specs.Path.{Found, nowhere, found, find, replace, octets_before}
use Rattle.x696.specs.Reply.{done_reply, refusal, done, then, answer, unless, in_part}
use Rattle.x696.specs.Operations.{node_limit, octet_limit, asked, read_message, walk_list, result_fits, room_for, over}
use Rattle.x696.specs.Operations.{value_in, validate, Written, written}
use Rattle.x696.specs.Editing.{place_of, place_in, edited, edited_octets, edit}
use Rattle.x696.specs.Result.{is_done, result_of}
use Rattle.x696.specs.Edits.{Edits, Fine}
use Rattle.x696.proofs.AskedLaws.{asked_cases, outcome_cases, held_value}
use Rattle.x696.proofs.Unique.{read_message_iff}
use Rattle.x696.proofs.ListLaws.{walk_list_complete, walk_list_sound}
use Rattle.x696.proofs.PathLaws.{find_fits, replace_fits, find_replaced, replace_same, replace_undone}
use Rattle.x696.proofs.PathLaws.{size_replaced}
use Rattle.x696.proofs.PathTypes.{find_formed}
use Rattle.x696.proofs.Complete.{size_pos}
use Rattle.x696.proofs.ContentsLaws.{component_length}
use Rattle.x696.proofs.Locality.{own_stands}

-- ---- a refusal is not DONE: its part is not 0, or its number is not
stopped : (w : Written) (n q z : ℕ) (out : List ℕ) → w ≡ written (refusal n q z) out → 0 < n + q
    → is_done w.reply ≡ true → ⊥
unfolding is_done written answer
stopped w n q z out e h d =
    let both = and_both (eqb q 0) (eqb n 0) (rw e at d) in
    let a = eqb-true q 0 both.0 in
    let b = eqb-true n 0 both.1 in
    omega arith

-- ---- the last steps: 10, 4 and 12 of the result
module _ (t : Ty) (w : Val) (out : List ℕ) where
  abbrev pub Finished : Written
  Finished =
      written
      (then (then (unless (leb (size w) node_limit) 10 4 0 (done w)) λ w. result_fits (encode t w)) λ os. room_for os out)
      out

  pub finished_fine : Fine t w out
      → Finished ≡ record { reply = done_reply 0 (length (encode t w)); out = over (encode t w) out }
  unfolding then unless result_fits room_for written answer
  finished_fine f =
      rw (
        le-leb (size w) node_limit f.few,
        le-leb (length (encode t w)) octet_limit f.short,
        le-leb (length (encode t w)) (length out) f.room,
      )

  fine_finished : is_done Finished.reply ≡ true → Fine t w out
  unfolding then unless result_fits room_for written answer
  fine_finished d =
      cases (leb (size w) node_limit)
      (λ few.
      cases (leb (length (encode t w)) octet_limit)
      (λ short.
      cases (leb (length (encode t w)) (length out))
      (λ room. record {
        few = leb-true (size w) node_limit few;
        short = leb-true (length (encode t w)) octet_limit short;
        room = leb-true (length (encode t w)) (length out) room;
      })
      (λ e. absurd (stopped Finished 12 4 0 out (rw (few, short, e)) (omega arith) d)))
      (λ e. absurd (stopped Finished 4 4 0 out (rw (few, e)) (omega arith) d)))
      (λ e. absurd (stopped Finished 10 4 0 out (rw e) (omega arith) d))

-- ---- the steps of an edit
module _ (rows items : List ℕ) (r : ℕ) (s p ws cs out : List ℕ) where
  pub edit_table : (n q z : ℕ) → asked rows items r ≡ refusal n q z
      → edit rows items r s p ws cs out ≡ written (refusal n q z) out
  unfolding edit edited_octets place_in then
  edit_table n q z e = rw e

  module _ (t : Ty) (usable : asked rows items r ≡ done t) where
    pub edit_message : (n z : ℕ) → read_message t s ≡ refused n z
        → edit rows items r s p ws cs out ≡ written (refusal n 1 z) out
    unfolding edit edited_octets place_in then in_part
    edit_message n z e = rw (usable, e)

    module _ (v : Val) (end : Message) (e : read_message t s ≡ got v end) where
      -- what an edit comes to, with what the path found
      abbrev pub AtFound : Found → Written
      AtFound f =
          written
          (then (then (place_of t v f) λ c.
          then (in_part 2 (walk_list c.mark c.its ws cs)) λ y.
          then (edited p c y) λ w. result_fits (encode c.type w)) λ os. room_for os out) out

      pub edit_found : edit rows items r s p ws cs out ≡ AtFound (find t v p)
      unfolding edit edited_octets place_in then in_part
      edit_found = rw (usable, e)

      found_none : (n : ℕ) → AtFound (nowhere n) ≡ written (refusal 13 3 n) out
      unfolding place_of then
      found_none n = refl

      module _ (m d : ℕ) (u : Ty) (x : Val) where
        found_refused : (n z : ℕ) → walk_list m u ws cs ≡ refused n z
            → AtFound (found m d u x) ≡ written (refusal n 2 z) out
        unfolding place_of then in_part
        found_refused n z e = rw e

        pub found_walked : (y : Val) (l : Listed) → walk_list m u ws cs ≡ got y l
            → AtFound (found m d u x) ≡ Finished t (replace p y v) out
        unfolding place_of then in_part edited
        found_walked y l e = rw e

-- ---- messages and the values that they hold
module _ (rows items : List ℕ) (r : ℕ) (usable : asked rows items r ≡ done (type_of rows items r)) where
  read_value : (s : List ℕ) (v : Val) (end : Message) → read_message (type_of rows items r) s ≡ got v end
      → value_in rows items r s ≡ done v
  unfolding value_in then in_part
  read_value s v end e = rw (usable, e)

  encoded_value : (w : Val) → WellFormed (type_of rows items r) → Fits (type_of rows items r) w → size w ≤ node_limit
      → length (encode (type_of rows items r) w) ≤ octet_limit
      → value_in rows items r (encode (type_of rows items r) w) ≡ done w
  encoded_value w g f few short =
      let t = type_of rows items r in
      let octets = encode_octets f g (omega arith) in
      read_value (encode t w) w (message [] (size w))
      ((read_message_iff t (encode t w) w (message [] (size w)) octets).1 (f, refl, few, short, refl))

pub result_done : (os out : List ℕ) → result_of (record { reply = done_reply 0 (length os); out = over os out }) ≡ os
unfolding over
result_done os out = take-append_seam os (drop (length os) out)

-- ---- what an edit that is DONE did
module _ (rows items : List ℕ) (r : ℕ) (s p ws cs out : List ℕ) (words : Below 64 items) (octets : Below 8 s)
    (words' : Below 64 ws) (octets' : Below 8 cs) where
  abbrev T : Ty
  T = type_of rows items r

  found_done : (g : WellFormed T) (usable : asked rows items r ≡ done T) (v : Val) (end : Message)
      (e : read_message T s ≡ got v end) (h : Found) → find T v p ≡ h
      → is_done (AtFound rows items r s p ws cs out T usable v end e h).reply ≡ true
      → Edits rows items r s p ws cs (result_of (AtFound rows items r s p ws cs out T usable v end e h))
  found_done g usable v end e (nowhere n) q d =
      absurd (stopped _ 13 3 n out (found_none rows items r s p ws cs out T usable v end e n) (omega arith) d)
  found_done g usable v end e (found m d u x) q isdone =
      outcome_cases (walk_list m u ws cs)
      (λ n z refuses.
      let is = found_refused rows items r s p ws cs out T usable v end e m d u x n z refuses in
      absurd (stopped _ n 2 z out is (omega arith) isdone))
      λ y l walked.
      let is = found_walked rows items r s p ws cs out T usable v end e m d u x y l walked in
      let fine = fine_finished T (replace p y v) out (rw is at isdone) in
      let (f, whole, few, short, rest) = (read_message_iff T s v end octets).0 e in
      let gu = (find_formed T v p q g).0 in
      let (fy, list-words, list-octets, few-y, short-y, end-y) =
      walk_list_sound m d u ws cs y l gu words' octets' walked in
      let fw = replace_fits T v p q f y fy in
      let result =
      ap result_of (is ∙ finished_fine T (replace p y v) out fine) ∙ result_done (encode T (replace p y v)) out in
      rw result (record {
        value = v;
        mark = m;
        default = d;
        its = u;
        old = x;
        new = y;
        reads = read_value rows items r usable s v end e;
        finds = q;
        fits = fy;
        words = list-words;
        contents = list-octets;
        accepted = encoded_value rows items r usable (replace p y v) g fw fine.few fine.short;
        typed = f;
        before = whole;
        after = refl;
      })

  pub edit_done : is_done (edit rows items r s p ws cs out).reply ≡ true
      → Edits rows items r s p ws cs (result_of (edit rows items r s p ws cs out))
  edit_done d =
      asked_cases rows items r words
      (λ k z e.
      absurd (stopped _ (suc k) 0 z out (edit_table rows items r s p ws cs out (suc k) 0 z e) (omega arith) d))
      λ g usable.
      outcome_cases (read_message T s)
      (λ n z e. absurd (stopped _ n 1 z out (edit_message rows items r s p ws cs out T usable n z e) (omega arith) d))
      λ v end e.
      let is = edit_found rows items r s p ws cs out T usable v end e in
      rw is (found_done g usable v end e (find T v p) refl (rw is at d))

-- ---- when an edit is DONE
-- a component is no larger than the value that holds it
module _ (t : Ty) (v : Val) (p : List ℕ) {m d : ℕ} {u : Ty} {x : Val} (e : find t v p ≡ found m d u x) where
  inside_size : size x ≤ size v
  unfolding size
  inside_size = omega (arith, size_replaced t v p e absent, size_pos (replace p absent v))

  inside_contents : FitsComponent m d u x → length (contents x) ≤ length (encode t v)
  unfolding own_octets
  inside_contents f =
      let (after, h) = own_stands t v p e in
      let a = length-append (octets_before t v p) (own_octets m d u x ++ after) in
      let b = length-append (own_octets m d u x) after in
      omega (arith, ap length h, a, b, component_length f)

module _ (rows items : List ℕ) (r : ℕ) (s p out : List ℕ) (words : Below 64 items) where
  -- with the list of a component that fits, and a result within its limits
  pub edit_gives : (v : Val) → value_in rows items r s ≡ done v → {m d : ℕ} {u : Ty} {x : Val}
      → find (type_of rows items r) v p ≡ found m d u x
      → (y : Val) → FitsComponent m d u y → Fine (type_of rows items r) (replace p y v) out
      → edit rows items r s p (nodes y) (contents y) out
      ≡ record {
        reply = done_reply 0 (length (encode (type_of rows items r) (replace p y v)));
        out = over (encode (type_of rows items r) (replace p y v)) out;
      }
  edit_gives v reads {m} {d} {u} {x} q y fy fine =
      held_value rows items r s v words reads λ g usable end e.
      let t = type_of rows items r in
      let (gu, gd) = find_formed t v p q g in
      let new = find_replaced t v p q y in
      let few = inside_size t (replace p y v) p new in
      let short = inside_contents t (replace p y v) p new fy in
      let walked = walk_list_complete m d u (nodes y) (contents y) y (list_at [] [] (size y)) gu gd
      (fy, refl, refl, omega (arith, few, fine.few), omega (arith, short, fine.short), refl) in
      edit_found rows items r s p (nodes y) (contents y) out t usable v end e ∙
      (ap (AtFound rows items r s p (nodes y) (contents y) out t usable v end e) q ∙
      (found_walked rows items r s p (nodes y) (contents y) out t usable v end e m d u x y _ walked ∙
      finished_fine t (replace p y v) out fine))

  -- with the value that is there already, and room for it: the same message
  pub edit_same : Below 8 s → (v : Val) → value_in rows items r s ≡ done v → {m d : ℕ} {u : Ty} {x : Val}
      → find (type_of rows items r) v p ≡ found m d u x → length s ≤ length out
      → edit rows items r s p (nodes x) (contents x) out ≡ record { reply = done_reply 0 (length s); out = over s out }
  edit_same octets v reads {m} {d} {u} {x} q room =
      held_value rows items r s v words reads λ g usable end e.
      let t = type_of rows items r in
      let (f, whole, few, short, rest) = (read_message_iff t s v end octets).0 e in
      let same = replace_same t v p q in
      let fine : Fine t (replace p x v) out = record {
        few = rw same few;
        short = rw (same, ← whole) short;
        room = rw (same, ← whole) room;
      } in
      edit_gives v reads q x (find_fits t v p q f) fine ∙ rw (same, ← whole)

-- with the old value again, and room for it: the old message
pub edit_undone : (rows items : List ℕ) (r : ℕ) (s p ws cs s' out : List ℕ) → Below 64 items → Below 8 s
    → (h : Edits rows items r s p ws cs s') → length s ≤ length out
    → edit rows items r s' p (nodes h.old) (contents h.old) out
    ≡ record { reply = done_reply 0 (length s); out = over s out }
edit_undone rows items r s p ws cs s' out words octets h room =
    held_value rows items r s h.value words h.reads λ g usable end e.
    let t = type_of rows items r in
    let (f, whole, few, short, rest) = (read_message_iff t s h.value end octets).0 e in
    let back = replace_undone t h.value p h.finds h.new in
    let finds = find_replaced t h.value p h.finds h.new in
    let fine : Fine t (replace p h.old (replace p h.new h.value)) out = record {
      few = rw back few;
      short = rw (back, ← whole) short;
      room = rw (back, ← whole) room;
    } in
    edit_gives rows items r s' p out words (replace p h.new h.value) h.accepted finds h.old
    (find_fits t h.value p h.finds f) fine ∙ rw (back, ← whole)

-- the result validates, with the counts of the replaced value
pub edit_validates : (rows items : List ℕ) (r : ℕ) (s p ws cs s' : List ℕ) (h : Edits rows items r s p ws cs s')
    → validate rows items r s'
    ≡ done_reply (size (replace p h.new h.value)) (length (contents (replace p h.new h.value)))
unfolding validate answer
edit_validates rows items r s p ws cs s' h = rw h.accepted
