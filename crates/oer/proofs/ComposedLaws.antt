-- The round trips of x696 (RoundTrip), carried over to the contracts.
-- Assumes nothing.
use Rattle.std.specs.Prelude.{◌≡◌, List, ℕ, ◌*◌, ◌/◌, ◌≤◌, length, take}
use Rattle.std.proofs.Common.{sym, ap, ◌∙◌}
use Rattle.x696.specs.Digits.{Below}
use Rattle.x696.specs.Value.{node_width}
use Rattle.x696.specs.Reply.{done_reply}
use Rattle.x696.specs.Operations.{Decoded, Written, decode, encode_list, over}
use Rattle.x696.specs.Usable.{Usable}
use Rattle.x696.specs.Result.{list_of, contents_in, result_of}
use Rattle.x696.proofs.RoundTrip.{encode_decoded, decode_encoded, validate_foretells, measure_foretells}
use Rattle.table.specs.Replies.{as_reply}
use Rattle.table.specs.declared.reply.Reply.{Reply}
use Rattle.oer.specs.Promises.{Validates, Decodes, Measures, Encodes}
use Rattle.oer.proofs.ContractLaws.{IsDecoded, IsWritten, validate_iff, measure_iff, decode_iff, encode_iff}

-- what an outcome hands out is what its definition hands out
list_same : {ns cs : List ℕ} {r : Reply} (d : Decoded) → IsDecoded ns cs r d
    → (take (r.nodes * node_width) ns ≡ list_of d) × (take r.octets cs ≡ contents_in d)
list_same d is = let (reply, nodes, contents) = is in (rw (reply, nodes), rw (reply, contents))

result_same : {out : List ℕ} {r : Reply} (w : Written) → IsWritten out r w → take r.octets out ≡ result_of w
result_same w is = let (reply, octets) = is in rw (reply, octets)

module _ (rows items : List ℕ) (row : ℕ) (usable : Usable rows items row) where
  same_list : (ws cs ws' cs' out : List ℕ) → ws ≡ ws' → cs ≡ cs'
      → encode_list rows items row ws cs out ≡ encode_list rows items row ws' cs' out
  same_list ws cs ws' cs' out p q = rw (p, q)

  pub encode_after_decode : (msg ns cs out : List ℕ) {ns' cs' out' : List ℕ} {r r' : Reply} → Below 8 msg
      → Decodes rows items row msg ns cs ns' cs' r → r.number ≡ 0 → length msg ≤ length out
      → Encodes rows items row (take (r.nodes * node_width) ns') (take r.octets cs') out out' r'
      → (r' ≡ as_reply (done_reply 0 (length msg))) × (out' ≡ over msg out)
  encode_after_decode msg ns cs out octets d done room e =
      let is = (decode_iff rows items row msg ns cs _ _ _).0 d in
      let (list, held) = list_same (decode rows items row msg ns cs) is in
      let (reply, result) = (encode_iff rows items row _ _ out _ _).0 e in
      let number = ap (λ (x : Reply). x.number) (sym is.0) ∙ done in
      let back = encode_decoded rows items row usable msg ns cs out octets number room in
      let written = same_list _ _ _ _ out list held ∙ back in
      (reply ∙ ap (λ w. as_reply w.reply) written, result ∙ ap (λ w. w.out) written)

  pub decode_after_encode : (ws cs out ns bs : List ℕ) {out' ns' bs' : List ℕ} {r r' : Reply} → Below 64 ws → Below 8 cs
      → Encodes rows items row ws cs out out' r → r.number ≡ 0 → length ws ≤ length ns → length cs ≤ length bs
      → Decodes rows items row (take r.octets out') ns bs ns' bs' r'
      → (r' ≡ as_reply (done_reply (length ws / node_width) (length cs))) × (ns' ≡ over ws ns) × (bs' ≡ over cs bs)
  decode_after_encode ws cs out ns bs words octets e done h g d =
      let is = (encode_iff rows items row ws cs out _ _).0 e in
      let result = result_same (encode_list rows items row ws cs out) is in
      let (reply, nodes, contents) = (decode_iff rows items row _ ns bs _ _ _).0 d in
      let number = ap (λ (x : Reply). x.number) (sym is.0) ∙ done in
      let back = decode_encoded rows items row usable ws cs out ns bs words octets number h g in
      let decoded = ap (λ s. decode rows items row s ns bs) result ∙ back in (
        reply ∙ ap (λ d. as_reply d.reply) decoded,
        nodes ∙ ap (λ d. d.nodes) decoded,
        contents ∙ ap (λ d. d.contents) decoded,
      )

module _ (rows items : List ℕ) (row : ℕ) where
  pub validate_before_decode : (msg ns cs : List ℕ) {ns' cs' : List ℕ} {r r' : Reply}
      → Validates rows items row msg r → r.nodes * node_width ≤ length ns → r.octets ≤ length cs
      → Decodes rows items row msg ns cs ns' cs' r'
      → r' ≡ r
  validate_before_decode msg ns cs v h g d =
      let is = (validate_iff rows items row _ msg).0 v in
      let (reply, _, _) = (decode_iff rows items row msg ns cs _ _ _).0 d in
      let foretold = validate_foretells rows items row msg ns cs (rw is at h) (rw is at g) in
      reply ∙ ap as_reply foretold ∙ sym is

  pub measure_before_encode : (ws cs out : List ℕ) {out' : List ℕ} {r r' : Reply}
      → Measures rows items row ws cs r → r.octets ≤ length out
      → Encodes rows items row ws cs out out' r'
      → r' ≡ r
  measure_before_encode ws cs out m h e =
      let is = (measure_iff rows items row _ ws cs).0 m in
      let (reply, _) = (encode_iff rows items row ws cs out _ _).0 e in
      let foretold = measure_foretells rows items row ws cs out (rw is at h) in
      reply ∙ ap as_reply foretold ∙ sym is
