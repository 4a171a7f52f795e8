-- Demand 2 on the operations' definitions, for a sound table and a row of it: each takes exactly what it should, and
-- what it hands out is determined. Assumes nothing.
use Rattle.std.proofs.Math.Path.{◌≡◌, refl}
use Rattle.std.proofs.Common.{ap}
use Rattle.std.specs.Prelude.{Bool, ◌↔◌, List, ℕ, ◌≤◌, length}
use Rattle.std.proofs.Math.Bool.{true, false}
use native.Mathlib.Omega.{arith}
use borrow.Author.Tests.{lt-ltb, le-leb, leb-true}
use Rattle.x696.specs.Outcome.{Outcome, refused, got}
use Rattle.x696.proofs.OutcomeLaws.{and_both}
use Rattle.x696.specs.Digits.{Below}
use Rattle.x696.specs.Value.{Val, size, nodes, contents}
use Rattle.x696.specs.Types.{Ty}
use Rattle.x696.specs.Fits.{Fits, FitsComponent, plain}
use Rattle.x696.specs.Encode.{encode}
use Rattle.x696.specs.WellFormed.{WellFormed}
use Rattle.x696.specs.Table.{type_of}
use Rattle.x696.proofs.TableTypes.{well_formed}
use Rattle.x696.specs.Reply.{Reply, Answer, refusal, done, then, answer, unless, in_part, done_reply}
use Rattle.x696.specs.Operations.{usable, asked, value_in, validate, decodable, decode}
use Rattle.x696.specs.Operations.{Decoded, Written, octet_limit, result_fits, room_for, octets_for, measure, written}
use Rattle.x696.specs.Operations.{encode_list}
use Rattle.x696.proofs.Unique.{read_message_iff}
use Rattle.x696.proofs.ListLaws.{walk_list_sound, walk_list_complete}
use Rattle.x696.proofs.EncodeLaws.{encode_octets}
use Rattle.x696.proofs.ContentsLaws.{contents_length}
use Rattle.x696.proofs.Answering.{answers_done, or_nonzero, table_nonzero, row_nonzero, message_nonzero}
use Rattle.x696.proofs.Answering.{Nonzero, then_answers, list_nonzero, long_nonzero, room_nonzero}
use Rattle.x696.proofs.AnswerLaws.{value_in_answers, decodable_answers, octets_for_answers, room_answers}
use Rattle.x696.specs.RefusalTable.{◌or◌, OfList, LongResult}
use Rattle.x696.specs.Usable.{Usable, Within, Room, decoded_as, written_as}
use Rattle.x696.specs.Replying.{Asking}

-- ---- backwards: what was handed on before, if something is handed out
module _ {A B : Type 0} where
  then_inv {ℓ} : (a : Answer A) (k : A → Answer B) {b : B} {X : Type ℓ} → then a k ≡ done b
      → ((x : A) → a ≡ done x → k x ≡ done b → X) → X
  unfolding then
  then_inv (refusal n q p) k e f = let z : ◌≡◌ {A = ℕ} 0 1 = cc in absurd (omega arith)
  then_inv (done x) k e f = f x refl e

module _ {A : Type 0} where
  unless_inv {ℓ} : (t : Bool) (n q p : ℕ) (a : Answer A) {b : A} {X : Type ℓ} → unless t n q p a ≡ done b
      → (t ≡ true → a ≡ done b → X) → X
  unfolding unless
  unless_inv true n q p a e f = f refl e
  unless_inv false n q p a e f = let z : ◌≡◌ {A = ℕ} 0 1 = cc in absurd (omega arith)

module _ {S A : Type 0} where
  in_part_inv {ℓ} : (q : ℕ) (o : Outcome S A) {a : A} {X : Type ℓ} → in_part q o ≡ done a
      → ((s : S) → o ≡ got a s → X) → X
  unfolding in_part
  in_part_inv q (refused n p) e f = let z : ◌≡◌ {A = ℕ} 0 1 = cc in absurd (omega arith)
  in_part_inv q (got a s) e f = f s cc

asking_nonzero : (rows : List ℕ) → Nonzero (Asking rows)
asking_nonzero rows = or_nonzero _ _ (table_nonzero _) row_nonzero

octets_nonzero : (rows : List ℕ) (n : ℕ) → Nonzero (Asking rows or OfList n or LongResult)
octets_nonzero rows n = or_nonzero _ _ (asking_nonzero rows) (or_nonzero _ _ (list_nonzero n) long_nonzero)

roomy : (os out : List ℕ) {xs : List ℕ} → room_for os out ≡ done xs → length os ≤ length out
unfolding room_for
roomy os out e = unless_inv _ _ _ _ _ e λ t _. leb-true (length os) (length out) t

whole : {d : ℕ} {t : Ty} {v : Val} → FitsComponent 0 d t v → Fits t v
whole (plain h) = h

module _ (rows items : List ℕ) (r : ℕ) (u : Usable rows items r) where
  abbrev its : Ty
  its = type_of rows items r

  asked_usable : asked rows items r ≡ done its
  unfolding asked usable unless
  asked_usable = rw (u.faultless, lt-ltb _ _ u.inside)

  pub formed : WellFormed its
  formed = well_formed rows items u.words u.faultless r u.inside

  -- an encoding is octets
  pub octets_of_lem : (v : Val) → Within its v → Below 8 (encode its v)
  octets_of_lem v w = let short = w.short in encode_octets w.fits formed (omega arith)

  -- ---- messages
  value_in_complete : (v : Val) → Within its v → value_in rows items r (encode its v) ≡ done v
  unfolding value_in then in_part
  value_in_complete v w =
      let complete = (read_message_iff its (encode its v) v _ (octets_of_lem v w)).1 in
      rw (asked_usable, complete (w.fits, refl, w.few, w.short, refl))

  value_in_sound : (s : List ℕ) (v : Val) → Below 8 s → value_in rows items r s ≡ done v
      → Within its v × (s ≡ encode its v)
  unfolding value_in
  value_in_sound s v b e =
      then_inv _ _ e λ t was then.
      let same : its ≡ t = cc (asked_usable) in
      in_part_inv _ _ then λ m read.
      let (fits, is, few, short, _) = (read_message_iff its s v m b).0 (rw same read) in
      (record { fits = fits; few = few; short = rw (← is) short }, is)

  -- ROOM
  decodable_complete : (v : Val) (ns cs : List ℕ) → Within its v → Room v ns cs
      → decodable rows items r (encode its v) ns cs ≡ done v
  unfolding decodable then unless
  decodable_complete v ns cs w h =
      rw (value_in_complete v w, le-leb _ (length ns) h.for_nodes, le-leb _ (length cs) h.for_contents)

  decodable_sound : (s ns cs : List ℕ) (v : Val) → Below 8 s → decodable rows items r s ns cs ≡ done v
      → Within its v × (s ≡ encode its v) × Room v ns cs
  unfolding decodable
  decodable_sound s ns cs v b e =
      then_inv _ _ e λ w was then.
      unless_inv _ _ _ _ _ then λ roomy q.
      let same : w ≡ v = cc in
      let (within, is) = value_in_sound s v b (rw (← same) was) in
      let (for_nodes, for_contents) = and_both _ _ (rw same at roomy) in
      (within, is, record { for_nodes = leb-true _ _ for_nodes; for_contents = leb-true _ _ for_contents })

  pub validate_complete : (s : List ℕ) (v : Val) → Within its v → s ≡ encode its v
      → validate rows items r s ≡ done_reply (size v) (length (contents v))
  unfolding validate answer
  validate_complete s v w is = rw (is, value_in_complete v w)

  pub validate_sound : (s : List ℕ) → Below 8 s → (validate rows items r s).number ≡ 0
      → (v : Val) × Within its v × (s ≡ encode its v)
  unfolding validate
  validate_sound s b e =
      answers_done (value_in_answers rows items r s b) (or_nonzero _ _ (asking_nonzero rows) (message_nonzero _))
      (λ (x : Reply). x.number) _ _ (λ _ _ _. refl) e
      λ v is. let (within, encoded) = value_in_sound s v b is in (v, within, encoded)

  pub decode_complete : (s ns cs : List ℕ) (v : Val) → Within its v → s ≡ encode its v → Room v ns cs
      → decode rows items r s ns cs ≡ decoded_as v ns cs
  unfolding decode answer
  decode_complete s ns cs v w is h = rw (is, decodable_complete v ns cs w h)

  pub decode_sound : (s ns cs : List ℕ) → Below 8 s → (decode rows items r s ns cs).reply.number ≡ 0
      → (v : Val) × Within its v × (s ≡ encode its v) × Room v ns cs
  unfolding decode
  decode_sound s ns cs b e =
      answers_done (decodable_answers rows items r s b ns cs)
      (or_nonzero _ _ (or_nonzero _ _ (asking_nonzero rows) (message_nonzero _)) room_nonzero)
      (λ (x : Decoded). x.reply.number) _ _ (λ _ _ _. refl) e
      λ v is. let (within, encoded, room) = decodable_sound s ns cs v b is in (v, within, encoded, room)

  -- ---- value lists
  octets_for_complete : (v : Val) → Within its v → octets_for rows items r (nodes v) (contents v) ≡ done (encode its v)
  unfolding octets_for then in_part result_fits unless
  octets_for_complete v w =
      let short = w.short in
      let less = contents_length w.fits in
      let listed = walk_list_complete 0 0 its (nodes v) (contents v) v _ formed tt
      (plain w.fits, refl, refl, w.few, omega arith, refl) in
      rw (asked_usable, listed, le-leb (length (encode its v)) octet_limit w.short)

  octets_for_sound : (ws cs os : List ℕ) → Below 64 ws → Below 8 cs → octets_for rows items r ws cs ≡ done os
      → (v : Val) × Within its v × (ws ≡ nodes v) × (cs ≡ contents v) × (os ≡ encode its v)
  unfolding octets_for result_fits
  octets_for_sound ws cs os b o e =
      then_inv _ _ e λ t was then.
      let same : its ≡ t = cc (asked_usable) in
      then_inv _ _ then λ v walked then.
      in_part_inv _ _ walked λ m read.
      unless_inv _ _ _ _ _ then λ short q.
      let (fits, is, is', few, _, _) = walk_list_sound 0 0 its ws cs v m formed b o (rw same read) in
      let octets : os ≡ encode its v = cc in
      (v, record { fits = whole fits; few = few; short = rw same (leb-true _ octet_limit short) }, is, is', octets)

  pub measure_complete : (ws cs : List ℕ) (v : Val) → Within its v → ws ≡ nodes v → cs ≡ contents v
      → measure rows items r ws cs ≡ done_reply 0 (length (encode its v))
  unfolding measure answer
  measure_complete ws cs v w is is' = rw (is, is', octets_for_complete v w)

  pub measure_sound : (ws cs : List ℕ) → Below 64 ws → Below 8 cs → (measure rows items r ws cs).number ≡ 0
      → (v : Val) × Within its v × (ws ≡ nodes v) × (cs ≡ contents v)
  unfolding measure
  measure_sound ws cs b o e =
      answers_done (octets_for_answers rows items r ws cs) (octets_nonzero rows _)
      (λ (x : Reply). x.number) _ _ (λ _ _ _. refl) e
      λ os is. let (v, within, is, is', _) = octets_for_sound ws cs os b o is in (v, within, is, is')

  pub encode_complete : (ws cs out : List ℕ) (v : Val) → Within its v → ws ≡ nodes v → cs ≡ contents v
      → length (encode its v) ≤ length out
      → encode_list rows items r ws cs out ≡ written_as (encode its v) out
  unfolding encode_list written then room_for unless answer
  encode_complete ws cs out v w is is' h =
      rw (is, is', octets_for_complete v w, le-leb (length (encode its v)) (length out) h)

  pub encode_sound : (ws cs out : List ℕ) → Below 64 ws → Below 8 cs
      → (encode_list rows items r ws cs out).reply.number ≡ 0
      → (v : Val) × Within its v × (ws ≡ nodes v) × (cs ≡ contents v) × (length (encode its v) ≤ length out)
  unfolding encode_list written
  encode_sound ws cs out b o e =
      answers_done (then_answers _ (octets_for_answers rows items r ws cs) λ os. room_answers os out)
      (or_nonzero _ _ (octets_nonzero rows _) room_nonzero)
      (λ (x : Written). x.reply.number) _ _ (λ _ _ _. refl) e
      λ os done.
      then_inv _ _ done λ os' is then.
      let (v, within, is, is', octets) = octets_for_sound ws cs os' b o is in
      (v, within, is, is', rw (← octets) (roomy os' out then))

  -- ---- taken exactly if
  pub validate_takes : (s : List ℕ) → Below 8 s
      → ((validate rows items r s).number ≡ 0) ↔ ((v : Val) × Within its v × (s ≡ encode its v))
  validate_takes s b = (
    validate_sound s b,
    λ k. let (v, within, is) = k in ap (λ x. x.number) (validate_complete s v within is),
  )

  pub decode_takes : (s ns cs : List ℕ) → Below 8 s
      → ((decode rows items r s ns cs).reply.number ≡ 0)
      ↔ ((v : Val) × Within its v × (s ≡ encode its v) × Room v ns cs)
  decode_takes s ns cs b = (
    decode_sound s ns cs b,
    λ k. let (v, within, is, room) = k in ap (λ x. x.reply.number) (decode_complete s ns cs v within is room),
  )

  pub measure_takes : (ws cs : List ℕ) → Below 64 ws → Below 8 cs
      → ((measure rows items r ws cs).number ≡ 0)
      ↔ ((v : Val) × Within its v × (ws ≡ nodes v) × (cs ≡ contents v))
  measure_takes ws cs b o = (
    measure_sound ws cs b o,
    λ k. let (v, within, is, is') = k in ap (λ x. x.number) (measure_complete ws cs v within is is'),
  )

  pub encode_takes : (ws cs out : List ℕ) → Below 64 ws → Below 8 cs
      → ((encode_list rows items r ws cs out).reply.number ≡ 0)
      ↔ ((v : Val) × Within its v × (ws ≡ nodes v) × (cs ≡ contents v) × (length (encode its v) ≤ length out))
  encode_takes ws cs out b o = (
    encode_sound ws cs out b o,
    λ k.
        let (v, within, is, is', room) = k in
        ap (λ x. x.reply.number) (encode_complete ws cs out v within is is' room),
  )
