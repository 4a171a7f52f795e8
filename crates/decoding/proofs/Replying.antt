-- Replies of validation and decoding: what the code's answers come to in the terms of `Answer`, refusal by refusal.
-- Premises are the callees' `ensures` and the tests as they went. Assumes nothing.
use mathlib.Core.Path.{◌≡◌, refl, sym, ◌∙◌}
use mathlib.Core.Bool.{Bool, true, false}
use mathlib.Core.List.{List, ◌++◌}
use Prim.Native.Nat.{ℕ, ◌+◌, ◌*◌, ◌/◌, ◌<◌, ◌≤◌}
use native.Mathlib.Omega.{arith}
use lib.ListN.{length, drop, length-drop, drop_of_length-le}
use lib.Seq.{sets, sets-eq}
use borrow.Author.Tests.{lt-ltb, le-ltb, le-leb, lt-leb, leb-true, ltb-true, ne_eqb}
use Rattle.x696.specs.Outcome.{Outcome, refused, got, next, must}
use Rattle.x696.proofs.OutcomeLaws.{next_inv, must_inv}
use Rattle.x696.specs.Value.{Val, node_width, size, nodes, contents}
use Rattle.x696.proofs.ListLaws.{nodes_length}
use Rattle.x696.specs.Types.{Ty}
use Rattle.x696.specs.Read.{Message, message, read}
use Rattle.x696.specs.Reply.{Answer, refusal, done, done_reply, then, answer, unless, in_part}
use Rattle.x696.specs.Table.{row_width, type_of}
use Rattle.x696.specs.TableFault.{TableFault as Meant, sound, bad_size, bad_row, table_fault}
use Rattle.x696.specs.Operations.{node_limit, octet_limit, usable, asked, read_message, value_in, validate, over, Decoded}
use Rattle.x696.specs.Operations.{decodable, decode}
use Rattle.table.specs.Replies.{as_reply, as_answer, refused_reply}
use Rattle.table.specs.Judged.{as_fault, table_refusal}
use Rattle.table.specs.Checked.{Checked}
use Rattle.table.specs.declared.sound.Table.{Table}
use Rattle.table.specs.declared.reply.Reply.{Reply}
use Rattle.table.specs.declared.check.TableFault.{TableFault}
use Rattle.table.specs.declared.check.TableFault.TheVariants.{Size, Row}
use Rattle.std.specs.Prelude.{Result, Ok, Err}
use Rattle.octets.specs.Cause.{code_of}
use Rattle.octets.specs.Part.{refused as refusing}
use Rattle.octets.specs.declared.faults.Cause.TheVariants.{UnknownType, Room}
use Rattle.octets.specs.declared.faults.Part.TheVariants.{Table as TablePart, Result as ResultPart}
use Rattle.octets.specs.declared.faults.Refusal.{Refusal}
use Rattle.octets.specs.declared.faults.Fault.{Fault}
use Rattle.kinds.specs.Run.{Gone, Ran}
use Rattle.decoding.specs.Replied.{Refuses, AskedAnswer, Handed, ValueAnswer, PutsValue, Decodes}
use Rattle.kinds.specs.declared.cursor.Cursor.{Cursor}
use Rattle.decoding.specs.declared.operations.Counts.{Counts}
use mathlib.Core.Path.{ap}
use Rattle.kinds.proofs.Ran.{offset_is}

zero_one : {A : Type 0} → ◌≡◌ {A = ℕ} 0 1 → A
zero_one e = absurd (omega arith)

-- ---- the table and the row
size_fault : (x : Meant) → as_fault x ≡ Err Size → x ≡ bad_size
unfolding as_fault
size_fault sound e = zero_one cc
size_fault bad_size e = refl
size_fault (bad_row k) e = zero_one cc

row_fault : (x : Meant) {k : ℕ} → as_fault x ≡ Err (Row k) → x ≡ bad_row k
unfolding as_fault
row_fault sound e = zero_one cc
row_fault bad_size e = zero_one cc
row_fault (bad_row j) e = cc

-- the same value handed on
value_or : {A E : Type 0} → A → Result A E → A
value_or d (Ok x) = x
value_or d (Err f) = d

handed : {A E F : Type 0} {x y : A} → ◌≡◌ {A = Result A E} (Ok x) (Ok y) → ◌≡◌ {A = Result A F} (Ok x) (Ok y)
unfolding value_or
handed {x = x} e = ap Ok (ap (value_or x) e)

module _ (rows items : List ℕ) (row : ℕ) where
  stop : {x : Refusal} → asked rows items row ≡ as_answer x → AskedAnswer rows items row (Err x)
  stop {x} e = record {
    ready = λ t z. zero_one cc;
    stopped = λ y z. let w : x ≡ y = cc in rw (← w) (record { is = e });
  }

  module _ {r : Result Table TableFault} (h : Checked rows items r) where
    pub asked_fault : (g : TableFault) {x : Refusal} → r ≡ Err g → x ≡ table_refusal g
        → AskedAnswer rows items row (Err x)
    unfolding asked usable
    asked_fault Size e g = rw g (stop (rw (size_fault (table_fault rows items) (h.stopped _ e))))
    asked_fault (Row k) e g = rw g (stop (rw (row_fault (table_fault rows items) (h.stopped _ e))))

    module _ {t : Table} (e : r ≡ Ok t) {n : ℕ} (en : n ≡ length rows / row_width) where
      pub asked_none : {x : Refusal} → n ≤ row → x ≡ refusing UnknownType TablePart 0
          → AskedAnswer rows items row (Err x)
      unfolding asked usable unless
      asked_none l g =
          rw g (stop (rw ((h.went t e).2, le-ltb row (length rows / row_width) (omega arith))))

      pub asked_there : row < n → AskedAnswer rows items row (Ok t)
      unfolding asked usable unless
      asked_there l = record {
        ready = λ u f.
            let w = h.went u (e ∙ handed f) in
            let less : row < length rows / row_width = omega arith in
            (w.0, w.1, w.2, less, rw (w.2, lt-ltb row (length rows / row_width) less));
        stopped = λ y z. zero_one cc;
      }

-- ---- a value, or a refusal
module _ {a : Answer Val} where
  pub value_stop : {x y : Refusal} → a ≡ as_answer x → y ≡ x → ValueAnswer a (Err y)
  value_stop {x} e h = rw h (record {
    went = λ c z. zero_one cc;
    stopped = λ y z. let w : x ≡ y = cc in rw (← w) (record { is = e });
  })

  pub value_got : {c : Counts} → Handed a c → ValueAnswer a (Ok c)
  value_got {c} h = record { went = λ d z. let w : c ≡ d = cc in rw (← w) h; stopped = λ y z. zero_one cc }

  pub value_by : {b : Answer Val} {r : Result Counts Refusal} → b ≡ a → ValueAnswer a r → ValueAnswer b r
  value_by e w = rw e w

module _ (rows items : List ℕ) (row : ℕ) (msg : List ℕ) where
  pub valued_stop : {x : Refusal} → Refuses (asked rows items row) x → ValueAnswer (value_in rows items row msg) (Err x)
  unfolding value_in then
  valued_stop h = value_stop (rw h.is) refl

  pub valued_by : {t : Table} {r : Result Table Refusal} → AskedAnswer rows items row r → r ≡ Ok t
      → {c : Result Counts Refusal}
      → ValueAnswer (in_part 1 (read_message (type_of t.rows.now t.items.now row) msg)) c
      → ValueAnswer (value_in rows items row msg) c
  unfolding value_in then
  valued_by {t} a e w =
      let h = a.ready t e in
      value_by (rw h.4) (rw (h.0, h.1) at w)

-- ---- a whole message
module _ (t : Ty) (msg : List ℕ) where
  abbrev outcome : Outcome Message Val
  outcome = read node_limit t (length msg) (message msg 0)

  pub message_long_lem : octet_limit < length msg → in_part 1 (read_message t msg) ≡ refusal 4 1 0
  unfolding in_part read_message must
  message_long_lem h = rw (lt-leb (length msg) octet_limit h)

  module _ (short : length msg ≤ octet_limit) where
    pub message_fault : {n p : ℕ} → outcome ≡ refused n p → in_part 1 (read_message t msg) ≡ refusal n 1 p
    unfolding in_part read_message must next
    message_fault e = rw (le-leb (length msg) octet_limit short, e)

    module _ {l b l' b' : List ℕ} {c : Cursor} (g : Gone msg outcome 0 0 0 l b l' b' c) where
      pub message_left : c.at < length msg → in_part 1 (read_message t msg) ≡ refusal 9 1 c.at
      unfolding in_part read_message must next
      message_left h =
          let some : length (drop c.at msg) ≡ 0 → ⊥ = λ z. omega (arith, z, length-drop c.at msg) in
          rw (le-leb (length msg) octet_limit short, g.reads, ne_eqb (length (drop c.at msg)) 0 some, offset_is msg c.at g.inside)

      pub message_done : length msg ≤ c.at
          → Handed (in_part 1 (read_message t msg)) (record { nodes = c.count; octets = c.used })
      unfolding in_part read_message must next
      message_done h = record {
        what = g.what;
        is = rw (le-leb (length msg) octet_limit short, g.reads, drop_of_length-le msg h);
        nodes = omega (arith, g.count);
        octets = omega (arith, g.used);
      }

-- ---- what a value that is handed out tells
then_inv : {A B : Type 0} (a : Answer A) (k : A → Answer B) {b : B} {X : Type 0} → then a k ≡ done b
    → ((x : A) → a ≡ done x → k x ≡ done b → X) → X
unfolding then
then_inv (refusal n q p) k e f = zero_one cc
then_inv (done x) k e f = f x refl e

part_inv : {S A : Type 0} (q : ℕ) (o : Outcome S A) {a : A} {X : Type 0} → in_part q o ≡ done a → ((s : S)
    → o ≡ got a s → X) → X
unfolding in_part
part_inv q (refused n p) e f = zero_one cc
part_inv q (got x s) {a} e f = let w : x ≡ a = cc in f s (rw w)

unless_inv : {A : Type 0} (t : Bool) (n q p : ℕ) (o : Answer A) {a : A} {X : Type 0} → unless t n q p o ≡ done a
    → (t ≡ true → o ≡ done a → X) → X
unfolding unless
unless_inv true n q p o e f = f refl e
unless_inv false n q p o e f = zero_one cc

record Usable (rows items : List ℕ) (row : ℕ) (t : Ty) : Type 0 where
  fault : table_fault rows items ≡ sound
  inside : row < length rows / row_width
  type : t ≡ type_of rows items row

usable_inv : (x : Meant) (rows items : List ℕ) (row : ℕ) {t : Ty} → x ≡ table_fault rows items
    → usable x rows items row ≡ done t
    → Usable rows items row t
unfolding usable
usable_inv bad_size rows items row e h = zero_one cc
usable_inv (bad_row k) rows items row e h = zero_one cc
usable_inv sound rows items row e h =
    unless_inv _ _ _ _ _ h λ l d. record { fault = sym e; inside = ltb-true row _ l; type = cc }

pub record Known (rows items : List ℕ) (row : ℕ) (msg : List ℕ) (v : Val) : Type 0 where
  pub fault : table_fault rows items ≡ sound
  pub inside : row < length rows / row_width
  pub short : length msg ≤ octet_limit
  pub rest : Message
  pub reads : read node_limit (type_of rows items row) (length msg) (message msg 0) ≡ got v rest

pub value_known : (rows items : List ℕ) (row : ℕ) (msg : List ℕ) {v : Val} → value_in rows items row msg ≡ done v
    → Known rows items row msg v
unfolding value_in asked read_message
value_known rows items row msg {v} e =
    then_inv _ _ e λ t was then.
    part_inv 1 _ then λ s o.
    let u = usable_inv (table_fault rows items) rows items row refl was in
    must_inv _ _ _ _ o λ short q.
    next_inv _ _ q λ w r reads last.
    must_inv _ _ _ _ last λ _ z.
    let qv : w ≡ v = cc in
    record {
      fault = u.fault;
      inside = u.inside;
      short = leb-true (length msg) octet_limit short;
      rest = r;
      reads = rw (← u.type, ← qv) reads;
    }

-- stores over the front of a buffer that has room
sets_whole : (vs l : List ℕ) → length vs ≤ length l → sets l 0 vs ≡ vs ++ drop (length vs) l
sets_whole vs l h = let e : 0 + length vs ≡ length vs = omega arith in rw e at (sets-eq vs l 0 (omega arith))

-- ---- the replies
module _ (rows items : List ℕ) (row : ℕ) (msg : List ℕ) where
  abbrev valued : Answer Val
  valued = value_in rows items row msg

  pub valid_stop : {x : Refusal} {q : Reply} → Refuses valued x → q ≡ refused_reply x
      → q ≡ as_reply (validate rows items row msg)
  unfolding validate answer
  valid_stop r e = e ∙ rw r.is

  pub valid_done : {c : Counts} {x : Reply} → Handed valued c → x ≡ as_reply (done_reply c.nodes c.octets)
      → x ≡ as_reply (validate rows items row msg)
  unfolding validate answer
  valid_done h e = e ∙ rw (h.is, h.nodes, h.octets)

  module _ (ns cs : List ℕ) where
    abbrev decoding : Decoded
    decoding = decode rows items row msg ns cs

    decode_no : {x : Refusal} → decodable rows items row msg ns cs ≡ as_answer x → PutsValue decoding ns cs (Err x)
    unfolding decode answer
    decode_no e = rw e (record { reply = refl; listed = refl; copied = refl })

    pub decode_stop : {x : Refusal} → Refuses valued x → PutsValue decoding ns cs (Err x)
    unfolding decodable then
    decode_stop r = decode_no (rw r.is)

    module _ {c : Counts} (h : Handed valued c) where
      pub decode_nodes : length ns / 2 < c.nodes → {x : Refusal} → x ≡ refusing Room ResultPart 0
          → PutsValue decoding ns cs (Err x)
      unfolding decodable then unless
      decode_nodes l e =
          rw e (decode_no (rw (h.is, lt-leb (size h.what * node_width) (length ns) (omega (arith, h.nodes)))))

      module _ (room : c.nodes ≤ length ns / 2) where
        pub decode_contents : length cs < c.octets → {x : Refusal} → x ≡ refusing Room ResultPart 0
            → PutsValue decoding ns cs (Err x)
        unfolding decodable then unless
        decode_contents l e =
            rw e (decode_no
            (rw (
              h.is,
              le-leb (size h.what * node_width) (length ns) (omega (arith, h.nodes)),
              lt-leb (length (contents h.what)) (length cs) (omega (arith, h.octets)),
            )))

        module _ (space : c.octets ≤ length cs) where
          fits : decodable rows items row msg ns cs ≡ done h.what
          unfolding decodable then unless
          fits =
              rw (
                h.is,
                le-leb (size h.what * node_width) (length ns) (omega (arith, h.nodes)),
                le-leb (length (contents h.what)) (length cs) (omega (arith, h.octets)),
              )

          -- read again with the buffers lent: the value's list stands at their fronts
          pub decode_done : {ns' cs' : List ℕ} (r : Result Cursor Fault)
              → Ran msg (read node_limit (type_of rows items row) (length msg) (message msg 0)) 0 0 0 ns cs ns' cs' r
              → PutsValue decoding ns' cs' (Ok c)
          unfolding decode answer over
          decode_done (Err f) w =
              let k = value_known rows items row msg h.is in
              let z : got h.what k.rest ≡ refused (code_of f.cause) f.place = sym k.reads ∙ w.stopped f refl in
              zero_one cc
          decode_done {ns'} {cs'} (Ok d) w =
              let k = value_known rows items row msg h.is in
              let g = w.went d refl in
              let q : got h.what k.rest ≡ got g.what (message (drop d.at msg) d.count) = sym k.reads ∙ g.reads in
              let v : g.what ≡ h.what = cc in
              let few : length (nodes h.what) ≤ length ns = omega (arith, nodes_length h.what, h.nodes) in
              let less : length (contents h.what) ≤ length cs = omega (arith, h.octets) in
              rw fits (record {
                reply = rw (h.nodes, h.octets);
                listed = g.stored ∙ rw v (sets_whole (nodes h.what) ns few);
                copied = g.copied ∙ rw v (sets_whole (contents h.what) cs less);
              })

-- ---- the reply of what was put, or of the refusal
module _ {d : Decoded} {ns cs : List ℕ} {q : Reply} where
  pub reply_done : {c : Counts} → PutsValue d ns cs (Ok c) → q ≡ as_reply (done_reply c.nodes c.octets)
      → Decodes d ns cs q
  reply_done p e = record { reply = e ∙ ap as_reply p.reply; listed = p.listed; copied = p.copied }

  pub reply_refuses : {x : Refusal} → PutsValue d ns cs (Err x) → q ≡ refused_reply x → Decodes d ns cs q
  reply_refuses p e = record { reply = e ∙ ap as_reply p.reply; listed = p.listed; copied = p.copied }
