-- The public operations one after another, from their contracts alone: encoding undoes decoding, decoding undoes
-- encoding, and validating and measuring foretell the replies of decoding and encoding. What one operation hands on to
-- the next is what its counts say of its lent buffers. Assumed as in Demand2.
use Rattle.std.specs.Prelude.{◌≡◌, List, ℕ, ◌*◌, ◌/◌, ◌≤◌, length, take}
use Rattle.x696.specs.Digits.{Below}
use Rattle.x696.specs.Value.{node_width}
use Rattle.x696.specs.Reply.{done_reply}
use Rattle.x696.specs.Operations.{over}
use Rattle.x696.specs.Usable.{Usable}
use Rattle.table.specs.Replies.{as_reply}
use Rattle.table.specs.declared.reply.Reply.{Reply}
use Rattle.oer.specs.Promises.{Validates, Decodes, Measures, Encodes}
use Rattle.oer.proofs.ComposedLaws as laws

module _ (rows items : List ℕ) (row : ℕ) (usable : Usable rows items row) where
  -- decode, then encode what was handed out: the message
  pub encode_after_decode : (msg ns cs out : List ℕ) {ns' cs' out' : List ℕ} {r r' : Reply} → Below 8 msg
      → Decodes rows items row msg ns cs ns' cs' r → r.number ≡ 0 → length msg ≤ length out
      → Encodes rows items row (take (r.nodes * node_width) ns') (take r.octets cs') out out' r'
      → (r' ≡ as_reply (done_reply 0 (length msg))) × (out' ≡ over msg out)
  encode_after_decode msg ns cs out octets d done room e =
      laws.encode_after_decode rows items row usable msg ns cs out octets d done room e

  -- encode, then decode what was handed out: the list
  pub decode_after_encode : (ws cs out ns bs : List ℕ) {out' ns' bs' : List ℕ} {r r' : Reply} → Below 64 ws → Below 8 cs
      → Encodes rows items row ws cs out out' r → r.number ≡ 0 → length ws ≤ length ns → length cs ≤ length bs
      → Decodes rows items row (take r.octets out') ns bs ns' bs' r'
      → (r' ≡ as_reply (done_reply (length ws / node_width) (length cs))) × (ns' ≡ over ws ns) × (bs' ≡ over cs bs)
  decode_after_encode ws cs out ns bs words octets e done h g d =
      laws.decode_after_encode rows items row usable ws cs out ns bs words octets e done h g d

module _ (rows items : List ℕ) (row : ℕ) where
  -- with the room that validate names, decode replies as validate does; on any table
  pub validate_before_decode : (msg ns cs : List ℕ) {ns' cs' : List ℕ} {r r' : Reply}
      → Validates rows items row msg r → r.nodes * node_width ≤ length ns → r.octets ≤ length cs
      → Decodes rows items row msg ns cs ns' cs' r'
      → r' ≡ r
  validate_before_decode msg ns cs v h g d = laws.validate_before_decode rows items row msg ns cs v h g d

  -- with the room that measure names, encode replies as measure does: its octets are encode's; on any table
  pub measure_before_encode : (ws cs out : List ℕ) {out' : List ℕ} {r r' : Reply}
      → Measures rows items row ws cs r → r.octets ≤ length out
      → Encodes rows items row ws cs out out' r'
      → r' ≡ r
  measure_before_encode ws cs out m h e = laws.measure_before_encode rows items row ws cs out m h e
