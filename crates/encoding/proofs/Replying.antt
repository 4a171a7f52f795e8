-- Replies of measuring and encoding: what the code's answers come to in the terms of `Answer`, refusal by refusal.
-- Premises are the callees' `ensures` and the tests as they went. Assumes nothing.
use mathlib.Core.Path.{◌≡◌, refl, sym, ap, ◌∙◌}
use mathlib.Core.Bool.{true}
use mathlib.Core.List.{List, ◌++◌}
use Prim.Native.Nat.{ℕ, ◌+◌, ◌*◌, ◌/◌, ◌%◌, ◌<◌, ◌≤◌}
use native.Mathlib.Omega.{arith}
use lib.ListN.{length, drop, length-drop}
use lib.Seq.{sets, sets-eq}
use native.Mathlib.Nat.{zero-add}
use lib.Dec.{eqb}
use borrow.Author.Tests.{le-leb, lt-leb, eq-eqb, ne_eqb}
use Rattle.x696.specs.Outcome.{Outcome, refused, got, next, must}
use Rattle.x696.specs.Value.{Val, node_width}
use Rattle.x696.specs.Types.{Ty}
use Rattle.x696.specs.Encode.{encode, own_octets}
use Rattle.x696.specs.Walk.{Listed, list_at, walk, walk_component}
use Rattle.x696.specs.Reply.{Answer, done, done_reply, then, answer, unless, in_part}
use Rattle.x696.specs.Table.{type_of}
use Rattle.x696.specs.Operations.{node_limit, octet_limit, asked, walk_list, result_fits, room_for, over, octets_for, measure, written, Written}
use Rattle.x696.specs.Operations.{encode_list}
use Rattle.table.specs.Replies.{as_reply, as_answer, refused_reply}
use Rattle.table.specs.declared.reply.Reply.{Reply}
use Rattle.octets.proofs.Answered.{next_refused, next_got}
use Rattle.octets.specs.Part.{refused as refusing}
use Rattle.octets.specs.declared.faults.Cause.{Cause}
use Rattle.octets.specs.declared.faults.Cause.TheVariants.{Long, Room}
use Rattle.octets.specs.declared.faults.Part.TheVariants.{List as ListPart, Result as ResultPart}
use Rattle.octets.specs.declared.faults.Refusal.{Refusal}
use Rattle.octets.specs.declared.faults.Fault.{Fault}
use Rattle.decoding.specs.Replied.{Refuses, AskedAnswer}
use Rattle.pens.specs.Put.{listed_at, Penned, Put}
use Rattle.pens.specs.declared.pen.Pen.{Pen}
use Rattle.encoding.specs.Measures.{Accepted, ListAnswer, Fitting, OctetsIn, OctetsAnswer, Puts, Writes}
use Rattle.table.specs.declared.sound.Table.{Table}
use Rattle.writing.proofs.Missing.{plain_walk, plain_octets}
use Rattle.std.proofs.Common.{Result, Ok, Err}
use Rattle.octets.specs.Cause.{code_of}
use Rattle.octets.specs.declared.faults.Fault.{Fault}

zero_one : {A : Type 0} → ◌≡◌ {A = ℕ} 0 1 → A
zero_one e = absurd (omega arith)

refuses_as : {A : Type 0} {a : Answer A} {x y : Refusal} → a ≡ as_answer x → ◌≡◌ {A = Result ℕ Refusal} (Err x) (Err y) → Refuses a y
refuses_as {x = x} {y} e f = let w : x ≡ y = cc in rw (← w) (record { is = e })

-- stores over the front of a buffer that has room
sets_whole : (vs l : List ℕ) → length vs ≤ length l → sets l 0 vs ≡ vs ++ drop (length vs) l
sets_whole vs l h = let e : 0 + length vs ≡ length vs = omega arith in rw e at (sets-eq vs l 0 (omega arith))

-- ---- a whole list
module _ (m : ℕ) (t : Ty) (ws cs : List ℕ) where
  abbrev O : Outcome Listed Val
  O = walk_component m t (list_at ws cs 0)

  pub list_stop : {d p : ℕ} {k : Cause} {x : Refusal} → walk_list m t ws cs ≡ refused (code_of k) p
      → x ≡ refusing k ListPart p → ListAnswer m d t ws cs (Err x)
  unfolding in_part
  list_stop e h = rw h (record { went = λ n z. zero_one cc; stopped = λ y z. refuses_as (rw e) z })

  pub list_odd : (length ws % 2 ≡ 0 → ⊥) → walk_list m t ws cs ≡ refused 11 (length ws / 2)
  unfolding walk_list must
  list_odd h = rw (ne_eqb (length ws % 2) 0 h)

  module _ (even : length ws % 2 ≡ 0) where
    pub list_many : 4096 < length ws / 2 → walk_list m t ws cs ≡ refused 10 0
    unfolding walk_list must
    list_many h = rw (eq-eqb (length ws % 2) 0 even, lt-leb (length ws / 2) node_limit h)

    module _ (few : length ws / 2 ≤ 4096) where
      pub list_long_lem : 65535 < length cs → walk_list m t ws cs ≡ refused 4 0
      unfolding walk_list must
      list_long_lem h = rw (
        eq-eqb (length ws % 2) 0 even,
        le-leb (length ws / 2) node_limit few,
        lt-leb (length cs)
            octet_limit h,
      )

      module _ (short : length cs ≤ 65535) where
        walked : walk_list m t ws cs
            ≡ next O λ v r. must (eqb (length r.words) 0) 11 r.at (must (eqb (length r.contents) 0) 11
            r.at (got v r))
        unfolding walk_list must
        walked = rw (
          eq-eqb (length ws % 2) 0 even,
          le-leb (length ws / 2) node_limit few,
          le-leb (length cs)
              octet_limit short,
        )

        pub list_fault : {n p : ℕ} → O ≡ refused n p → walk_list m t ws cs ≡ refused n p
        list_fault e = walked ∙ next_refused _ e

        module _ (d : ℕ) {l l' : List ℕ} {c : Pen} (g : Penned ws cs O (λ v. own_octets m d t v) 0 0 0 l l' c) where
          pub list_nodes_lem : c.at < length ws / 2 → walk_list m t ws cs ≡ refused 11 c.at
          unfolding must
          list_nodes_lem h =
              let some : length (drop (c.at * node_width) ws) ≡ 0 → ⊥ = λ z. omega (
                arith,
                z,
                length-drop (c.at *
                    node_width) ws,
              ) in
              walked ∙ next_got _ g.walks ∙ rw (ne_eqb (length (drop (c.at * node_width) ws)) 0 some)

          module _ (all : length ws / 2 ≤ c.at) where
            no_words : eqb (length (drop (c.at * node_width) ws)) 0 ≡ true
            no_words = eq-eqb (length (drop (c.at * node_width) ws)) 0 (omega (
              arith,
              length-drop (c.at * node_width)
                  ws,
            ))

            pub list_contents : c.used < length cs → walk_list m t ws cs ≡ refused 11 c.at
            unfolding must
            list_contents h =
                let some : length (drop c.used cs) ≡ 0 → ⊥ = λ z. omega (arith, z, length-drop c.used cs) in
                walked ∙ next_got _ g.walks ∙ rw (no_words, ne_eqb (length (drop c.used cs)) 0 some)

            pub list_done : length cs ≤ c.used → ListAnswer m d t ws cs (Ok c.to)
            unfolding must
            list_done h =
                let none = eq-eqb (length (drop c.used cs)) 0 (omega (arith, length-drop c.used cs)) in
                let is : walk_list m t ws cs ≡ got g.what (listed_at ws cs c.at c.used) =
                walked ∙ next_got _ g.walks ∙ rw (no_words, none) in
                record {
                  went = λ n z.
                      let w : c.to ≡ n = cc in
                      record {
                        what = g.what;
                        end = listed_at ws cs c.at c.used;
                        walks = g.walks;
                        whole = is;
                        few = omega arith;
                        short = short;
                        octets = sym w ∙ g.ends ∙ zero-add (length (own_octets m d t g.what));
                      };
                  stopped = λ y z. zero_one cc;
                }

-- ---- the octets of a row's type
module _ (t : Ty) (ws cs : List ℕ) where
  abbrev comes : Answer (List ℕ)
  comes = then (in_part 2 (walk_list 0 t ws cs)) λ v. result_fits (encode t v)

  in_refused : {x : Refusal} → comes ≡ as_answer x → OctetsIn t ws cs (Err x)
  in_refused e = record { went = λ n z. zero_one cc; stopped = λ y z. refuses_as e z }

  pub in_list : {x : Refusal} → Refuses (in_part 2 (walk_list 0 t ws cs)) x → OctetsIn t ws cs (Err x)
  unfolding then
  in_list r = in_refused (rw r.is)

  module _ {n : ℕ} (g : Accepted 0 0 t ws cs n) where
    count_is : n ≡ length (encode t g.what)
    count_is = g.octets ∙ ap length (plain_octets 0 t 0 g.what refl)

    pub listed_is : comes ≡ result_fits (encode t g.what)
    unfolding then in_part
    listed_is = rw g.whole

    pub in_long : {x : Refusal} → 65535 < n → x ≡ refusing Long ResultPart 0 → OctetsIn t ws cs (Err x)
    unfolding result_fits unless
    in_long h e =
        rw e (in_refused
        (listed_is ∙ rw (lt-leb (length (encode t g.what)) octet_limit (rw (← count_is) h))))

    pub fits_is : n ≤ octet_limit → comes ≡ done (encode t g.what)
    unfolding result_fits unless
    fits_is h = listed_is ∙ rw (le-leb (length (encode t g.what)) octet_limit (rw (← count_is) h))

    pub in_got : n ≤ 65535 → OctetsIn t ws cs (Ok n)
    in_got h = record {
      went = λ k z. let w : n ≡ k = cc in rw (← w) (g, h);
      stopped = λ y z. zero_one cc;
    }

-- ---- the octets for a row that is asked for
module _ (rows items : List ℕ) (row : ℕ) (ws cs : List ℕ) where
  abbrev T : Ty
  T = type_of rows items row

  pub octets_table : {x : Refusal} → Refuses (asked rows items row) x → OctetsAnswer rows items row ws cs (Err x)
  unfolding octets_for then
  octets_table r = record { went = λ n z. zero_one cc; stopped = λ y z. refuses_as (rw r.is) z }

  pub octets_by : {t : Table} {r : Result Table Refusal} → AskedAnswer rows items row r → r ≡ Ok t
      → {q : Result ℕ Refusal} → OctetsIn (type_of t.rows.now t.items.now row) ws cs q
      → OctetsAnswer rows items row ws cs q
  unfolding octets_for then
  octets_by {t} a e {q} w =
      let h = a.ready t e in
      let v : OctetsIn T ws cs q = rw (h.0, h.1) at w in
      record {
        went = λ n z.
            let g = v.went n z in
            record {
              fault = h.2;
              inside = h.3;
              list = g.0;
              is = rw h.4 (fits_is T ws cs g.0 g.1);
            };
        stopped = λ x z. record { is = rw h.4 (v.stopped x z).is };
      }

  -- ---- the replies
  pub measure_stop : {x : Refusal} {q : Reply} → Refuses (octets_for rows items row ws cs) x → q ≡ refused_reply x
      → q ≡ as_reply (measure rows items row ws cs)
  unfolding measure answer
  measure_stop r e = e ∙ rw r.is

  module _ {n : ℕ} (g : Fitting rows items row ws cs n) where
    fitting_count : n ≡ length (encode T g.list.what)
    fitting_count = g.list.octets ∙ ap length (plain_octets 0 T 0 g.list.what refl)

    pub measure_done : {x : Reply} → x ≡ as_reply (done_reply 0 n) → x ≡ as_reply (measure rows items row ws cs)
    unfolding measure answer
    measure_done e = e ∙ rw (g.is, fitting_count)

    module _ (out : List ℕ) where
      pub encode_room : length out < n → {x : Refusal} → x ≡ refusing Room ResultPart 0
          → Puts (encode_list rows items row ws cs out) out (Err x)
      unfolding encode_list written then room_for unless answer
      encode_room h e =
          rw (g.is, lt-leb (length (encode T g.list.what)) (length out) (rw (← fitting_count) h))
          (record { reply = rw e refl; stored = refl })

      -- written again with the buffer lent: the octets stand at its front
      pub encode_done : n ≤ length out → {out' : List ℕ} (r : Result Pen Fault)
          → Put ws cs (walk T (listed_at ws cs 0 0)) (λ v. encode T v) 0 0 0 out out' r
          → Puts (encode_list rows items row ws cs out) out' (Ok n)
      unfolding encode_list written then room_for unless answer over
      encode_done h (Err f) w =
          let z : got g.list.what g.list.end ≡ refused (code_of f.cause) f.place =
          sym g.list.walks ∙ plain_walk 0 T 0 (list_at ws cs 0) refl ∙ w.stopped f refl in
          zero_one cc
      encode_done h (Ok d) w =
          let k = w.went d refl in
          let q : got g.list.what g.list.end ≡ got k.what (listed_at ws cs d.at d.used) =
          sym g.list.walks ∙ plain_walk 0 T 0 (list_at ws cs 0) refl ∙ k.walks in
          let v : k.what ≡ g.list.what = cc in
          let room : length (encode T g.list.what) ≤ length out = rw (← fitting_count) h in
          rw (g.is, le-leb (length (encode T g.list.what)) (length out) room)
          (record {
            reply = rw fitting_count refl;
            stored = k.stored ∙ rw v (sets_whole (encode T g.list.what) out room);
          })

  pub encode_stop : {x : Refusal} → Refuses (octets_for rows items row ws cs) x → (out : List ℕ)
      → Puts (encode_list rows items row ws cs out) out (Err x)
  unfolding encode_list written then answer
  encode_stop r out = rw r.is (record { reply = refl; stored = refl })

-- ---- the reply of what was put, or of the refusal
module _ {w : Written} {out : List ℕ} {q : Reply} where
  pub reply_refuses : {x : Refusal} → Puts w out (Err x) → q ≡ refused_reply x → Writes w out q
  reply_refuses p e = record { reply = e ∙ ap as_reply p.reply; stored = p.stored }

  pub reply_done : {n : ℕ} → Puts w out (Ok n) → q ≡ as_reply (done_reply 0 n) → Writes w out q
  reply_done p e = record { reply = e ∙ ap as_reply p.reply; stored = p.stored }
