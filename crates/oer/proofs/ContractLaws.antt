-- Each contract is one equation with its definition (x696, Operations and Editing), and that equation gives it back.
-- Assumes nothing.
use Rattle.std.specs.Prelude.{◌≡◌, ◌↔◌, List, ℕ, take, drop}
use Rattle.std.proofs.Math.Path.{refl}
use Rattle.std.proofs.Common.{sym, ◌∙◌}
use Rattle.x696.specs.Value.{size, contents}
use Rattle.x696.specs.TableFault.{TableFault, sound, bad_size, bad_row, table_fault}
use Rattle.x696.specs.Reply.{Answer, refusal, done, answer}
use Rattle.x696.specs.Operations.{check_reply, check, value_in, validate, Decoded, decodable, decode, octets_for, measure}
use Rattle.x696.specs.Operations.{Written, written, encode_list}
use Rattle.x696.specs.Setting.{Setting as Meant, Shown, fallback, part_of}
use Rattle.x696.specs.Editing.{edit, read_setting, show_text, shown_octets}
use Rattle.table.specs.Replies.{as_reply}
use Rattle.table.specs.declared.reply.Reply.{Reply}
use Rattle.showing.specs.declared.settings.Setting.{Setting}
use Rattle.showing.specs.Settings.{setting_as, answer_as}
use Rattle.std.proofs.Common.{Result, Ok, Err}
use Rattle.octets.specs.declared.faults.Refusal.{Refusal}
use Rattle.showing.specs.Settings.{told}
use Rattle.std.proofs.Common.{arith}
use Rattle.octets.proofs.Refusing.{one_cause, one_part}
use Rattle.octets.specs.Part.{refused}
use mathlib.Core.Path.{ap}
use Rattle.oer.specs.Promises.{Checks, Validates, Decodes, Measures, Writes, Encodes, Edits, Reads, Shows}

-- ---- by cases, both ways
fault_cases : (P : TableFault → Type 0) (f : TableFault) → (f ≡ bad_size → P bad_size)
    → ((k : ℕ) → f ≡ bad_row k → P (bad_row k))
    → (f ≡ sound → P sound)
    → P f
fault_cases P bad_size size row passes = size refl
fault_cases P (bad_row k) size row passes = row k refl
fault_cases P sound size row passes = passes refl

module _ {A B : Type 0} (P : B → Type 0) (refuse : (number part place : ℕ) → B) (hand : A → B) where
  answer_cases : (a : Answer A) → ((n q p : ℕ) → a ≡ refusal n q p → P (refuse n q p))
      → ((x : A) → a ≡ done x → P (hand x))
      → P (answer a refuse hand)
  unfolding answer
  answer_cases (refusal n q p) refuses hands = refuses n q p refl
  answer_cases (done x) refuses hands = hands x refl

  refused_case : (a : Answer A) → P (answer a refuse hand) → (n q p : ℕ) → a ≡ refusal n q p → P (refuse n q p)
  unfolding answer
  refused_case a h n q p e = rw e at h

  handed_case : (a : Answer A) → P (answer a refuse hand) → (x : A) → a ≡ done x → P (hand x)
  unfolding answer
  handed_case a h x e = rw e at h

-- ---- check
module _ (rows items : List ℕ) (r : Reply) where
  check_is : Checks rows items r → r ≡ as_reply (check rows items)
  unfolding check check_reply
  check_is c =
      fault_cases (λ f. r ≡ as_reply (check_reply f)) (table_fault rows items)
      (λ e. c.size e) (λ k e. c.row k e) (λ e. c.passes e)

  checked : r ≡ as_reply (check rows items) → Checks rows items r
  unfolding check check_reply
  checked is = record { size = λ e. rw e at is; row = λ k e. rw e at is; passes = λ e. rw e at is }

  pub check_iff : Checks rows items r ↔ (r ≡ as_reply (check rows items))
  check_iff = (check_is, checked)

-- ---- validate, measure: a reply and nothing lent
module _ (rows items : List ℕ) (row : ℕ) (r : Reply) where
  pub validate_iff : (msg : List ℕ) → Validates rows items row msg r ↔ (r ≡ as_reply (validate rows items row msg))
  unfolding validate
  validate_iff msg = (
    (λ c. answer_cases (λ x. r ≡ as_reply x) _ _ (value_in rows items row msg) c.refuses c.hands),
    λ is. record {
      refuses = refused_case (λ x. r ≡ as_reply x) _ _ (value_in rows items row msg) is;
      hands = handed_case (λ x. r ≡ as_reply x) _ _ (value_in rows items row msg) is;
    },
  )

  pub measure_iff : (ws cs : List ℕ) → Measures rows items row ws cs r ↔ (r ≡ as_reply (measure rows items row ws cs))
  unfolding measure
  measure_iff ws cs = (
    (λ c. answer_cases (λ x. r ≡ as_reply x) _ _ (octets_for rows items row ws cs) c.refuses c.hands),
    λ is. record {
      refuses = refused_case (λ x. r ≡ as_reply x) _ _ (octets_for rows items row ws cs) is;
      hands = handed_case (λ x. r ≡ as_reply x) _ _ (octets_for rows items row ws cs) is;
    },
  )

-- ---- decode: two lent buffers
-- the reply, the nodes and the contents that a definition gives
abbrev pub IsDecoded : (ns' cs' : List ℕ) (r : Reply) → Decoded → Type 0
IsDecoded ns' cs' r d = (r ≡ as_reply d.reply) × (ns' ≡ d.nodes) × (cs' ≡ d.contents)

pub decode_iff : (rows items : List ℕ) (row : ℕ) (msg ns cs ns' cs' : List ℕ) (r : Reply)
    → Decodes rows items row msg ns cs ns' cs' r ↔ IsDecoded ns' cs' r (decode rows items row msg ns cs)
unfolding decode
decode_iff rows items row msg ns cs ns' cs' r = (
  (λ c. answer_cases (IsDecoded ns' cs' r) _ _ (decodable rows items row msg ns cs) c.refuses c.hands),
  λ is. record {
    refuses = refused_case (IsDecoded ns' cs' r) _ _ (decodable rows items row msg ns cs) is;
    hands = handed_case (IsDecoded ns' cs' r) _ _ (decodable rows items row msg ns cs) is;
  },
)

-- ---- encode, edit: a result in a lent buffer
abbrev pub IsWritten : (out' : List ℕ) (r : Reply) → Written → Type 0
IsWritten out' r w = (r ≡ as_reply w.reply) × (out' ≡ w.out)

writes_iff : (a : Answer (List ℕ)) (out out' : List ℕ) (r : Reply)
    → Writes a out out' r ↔ IsWritten out' r (written a out)
unfolding written
writes_iff a out out' r = (
  (λ c. answer_cases (IsWritten out' r) _ _ a c.refuses c.hands),
  λ is. record {
    refuses = refused_case (IsWritten out' r) _ _ a is;
    hands = handed_case (IsWritten out' r) _ _ a is;
  },
)

pub encode_iff : (rows items : List ℕ) (row : ℕ) (ws cs out out' : List ℕ) (r : Reply)
    → Encodes rows items row ws cs out out' r ↔ IsWritten out' r (encode_list rows items row ws cs out)
unfolding encode_list
encode_iff rows items row ws cs out out' r = writes_iff _ out out' r

pub edit_iff : (rows items : List ℕ) (row : ℕ) (msg path ws cs out out' : List ℕ) (r : Reply)
    → Edits rows items row msg path ws cs out out' r ↔ IsWritten out' r (edit rows items row msg path ws cs out)
unfolding edit
edit_iff rows items row msg path ws cs out out' r = writes_iff _ out out' r

-- ---- settings and texts: nothing lent
setting_cases : (r : Result Setting Refusal) (a : Answer Meant)
    → ((n q p : ℕ) → a ≡ refusal n q p → told r ≡ refusal n q p)
    → ((s : Meant) → a ≡ done s → r ≡ Ok (setting_as s))
    → told r ≡ answer_as a
unfolding answer_as told
setting_cases r (refusal n q p) refuses hands = refuses n q p refl
setting_cases r (done s) refuses hands = rw (hands s refl)

-- what is told names the setting
told_done : (r : Result Setting Refusal) {s : Setting} → told r ≡ done s → r ≡ Ok s
unfolding told
told_done (Ok t) e = cc
told_done (Err x) e = let z : ◌≡◌ {A = ℕ} 0 1 = cc in absurd (omega arith)

told_one : (r r' : Result Setting Refusal) → told r ≡ told r' → r ≡ r'
unfolding told
told_one (Ok s) (Ok t) e = cc
told_one (Ok s) (Err y) e = let z : ◌≡◌ {A = ℕ} 0 1 = cc in absurd (omega arith)
told_one (Err x) (Ok t) e = let z : ◌≡◌ {A = ℕ} 0 1 = cc in absurd (omega arith)
told_one (Err x) (Err y) e =
    let cause : x.cause ≡ y.cause = one_cause x.cause y.cause cc in
    let part : x.part ≡ y.part = one_part x.part y.part cc in
    let place : x.place ≡ y.place = cc in
    let same : refused x.cause x.part x.place ≡ refused y.cause y.part y.place = rw (cause, part, place) refl in
    ap Err same

pub setting_iff : (rows items : List ℕ) (row : ℕ) (msg path : List ℕ) (r : Result Setting Refusal)
    → Reads rows items row msg path r ↔ (told r ≡ answer_as (read_setting rows items row msg path))
unfolding answer_as
setting_iff rows items row msg path r = (
  (λ c. setting_cases r _ c.refuses c.hands),
  λ is. record { refuses = λ n q p e. rw e at is; hands = λ s e. told_done r (rw e at is) },
)

shown_cases : (msg instead shown : List ℕ) (a : Shown)
    → ((start n : ℕ) → a ≡ part_of start n → shown ≡ take n (drop start msg))
    → (a ≡ fallback → shown ≡ instead)
    → shown ≡ shown_octets a msg instead
unfolding shown_octets
shown_cases msg instead shown fallback part whole = whole refl
shown_cases msg instead shown (part_of start n) part whole = part start n refl

pub text_iff : (rows items : List ℕ) (row : ℕ) (msg path instead shown : List ℕ)
    → Shows rows items row msg path instead shown
    ↔ (shown ≡ shown_octets (show_text rows items row msg path) msg instead)
unfolding shown_octets
text_iff rows items row msg path instead shown = (
  (λ c. shown_cases msg instead shown _ c.part c.whole),
  λ is. record { part = λ start n e. rw e at is; whole = λ e. rw e at is },
)

-- ---- two outcomes of one contract
both : {A : Type 0} {x y z : A} → x ≡ z → y ≡ z → x ≡ y
both p q = p ∙ sym q

module _ (rows items : List ℕ) where
  pub check_one : {r r' : Reply} → Checks rows items r → Checks rows items r' → r ≡ r'
  check_one c c' = both ((check_iff rows items _).0 c) ((check_iff rows items _).0 c')

module _ (rows items : List ℕ) (row : ℕ) where
  pub validate_one : (msg : List ℕ) {r r' : Reply} → Validates rows items row msg r
      → Validates rows items row msg r' → r ≡ r'
  validate_one msg c c' = both ((validate_iff rows items row _ msg).0 c) ((validate_iff rows items row _ msg).0 c')

  pub measure_one : (ws cs : List ℕ) {r r' : Reply} → Measures rows items row ws cs r
      → Measures rows items row ws cs r' → r ≡ r'
  measure_one ws cs c c' = both ((measure_iff rows items row _ ws cs).0 c) ((measure_iff rows items row _ ws cs).0 c')

  pub decode_one : (msg ns cs : List ℕ) {ns₁ cs₁ ns₂ cs₂ : List ℕ} {r r' : Reply}
      → Decodes rows items row msg ns cs ns₁ cs₁ r → Decodes rows items row msg ns cs ns₂ cs₂ r'
      → (r ≡ r') × (ns₁ ≡ ns₂) × (cs₁ ≡ cs₂)
  decode_one msg ns cs c c' =
      let (reply, nodes, contents) = (decode_iff rows items row msg ns cs _ _ _).0 c in
      let (reply', nodes', contents') = (decode_iff rows items row msg ns cs _ _ _).0 c' in
      (both reply reply', both nodes nodes', both contents contents')

  written_one : {w : Written} {out₁ out₂ : List ℕ} {r r' : Reply} → IsWritten out₁ r w → IsWritten out₂ r' w
      → (r ≡ r') × (out₁ ≡ out₂)
  written_one a b = (both a.0 b.0, both a.1 b.1)

  pub encode_one : (ws cs out : List ℕ) {out₁ out₂ : List ℕ} {r r' : Reply}
      → Encodes rows items row ws cs out out₁ r → Encodes rows items row ws cs out out₂ r'
      → (r ≡ r') × (out₁ ≡ out₂)
  encode_one ws cs out c c' =
      written_one ((encode_iff rows items row ws cs out _ _).0 c) ((encode_iff rows items row ws cs out _ _).0 c')

  pub edit_one : (msg path ws cs out : List ℕ) {out₁ out₂ : List ℕ} {r r' : Reply}
      → Edits rows items row msg path ws cs out out₁ r → Edits rows items row msg path ws cs out out₂ r'
      → (r ≡ r') × (out₁ ≡ out₂)
  edit_one msg path ws cs out c c' =
      written_one ((edit_iff rows items row msg path ws cs out _ _).0 c)
      ((edit_iff rows items row msg path ws cs out _ _).0 c')

  pub setting_one : (msg path : List ℕ) {r r' : Result Setting Refusal} → Reads rows items row msg path r
      → Reads rows items row msg path r' → r ≡ r'
  setting_one msg path {r} {r'} c c' =
      told_one r r' (both ((setting_iff rows items row msg path r).0 c) ((setting_iff rows items row msg path r').0 c'))

  pub text_one : (msg path instead : List ℕ) {shown shown' : List ℕ} → Shows rows items row msg path instead shown
      → Shows rows items row msg path instead shown' → shown ≡ shown'
  text_one msg path instead c c' =
      both ((text_iff rows items row msg path instead _).0 c) ((text_iff rows items row msg path instead _).0 c')
