-- Determinacy (document 01, "How strong each contract is"): two outcomes that a public operation's contract allows on
-- one input are equal: reply, counts, and each word and octet of lent memory, on refusals too. There is no exception.
-- Assumes nothing.
use Rattle.std.specs.Prelude.{◌≡◌, List, ℕ}
use Rattle.table.specs.declared.reply.Reply.{Reply}
use Rattle.showing.specs.declared.settings.Setting.{Setting}
use Rattle.oer.specs.Promises.{Checks, Validates, Decodes, Measures, Encodes, Edits, Reads, Shows}
use Rattle.std.proofs.Common.{Result}
use Rattle.octets.specs.declared.faults.Refusal.{Refusal}
use Rattle.oer.proofs.ContractLaws as laws

module _ (rows items : List ℕ) where
  pub check_determined : {r r' : Reply} → Checks rows items r → Checks rows items r' → r ≡ r'
  check_determined c c' = laws.check_one rows items c c'

module _ (rows items : List ℕ) (row : ℕ) where
  pub validate_determined : (msg : List ℕ) {r r' : Reply} → Validates rows items row msg r
      → Validates rows items row msg r' → r ≡ r'
  validate_determined msg c c' = laws.validate_one rows items row msg c c'

  pub decode_determined : (msg ns cs : List ℕ) {ns₁ cs₁ ns₂ cs₂ : List ℕ} {r r' : Reply}
      → Decodes rows items row msg ns cs ns₁ cs₁ r → Decodes rows items row msg ns cs ns₂ cs₂ r'
      → (r ≡ r') × (ns₁ ≡ ns₂) × (cs₁ ≡ cs₂)
  decode_determined msg ns cs c c' = laws.decode_one rows items row msg ns cs c c'

  pub measure_determined : (ws cs : List ℕ) {r r' : Reply} → Measures rows items row ws cs r
      → Measures rows items row ws cs r' → r ≡ r'
  measure_determined ws cs c c' = laws.measure_one rows items row ws cs c c'

  pub encode_determined : (ws cs out : List ℕ) {out₁ out₂ : List ℕ} {r r' : Reply}
      → Encodes rows items row ws cs out out₁ r → Encodes rows items row ws cs out out₂ r'
      → (r ≡ r') × (out₁ ≡ out₂)
  encode_determined ws cs out c c' = laws.encode_one rows items row ws cs out c c'

  pub edit_determined : (msg path ws cs out : List ℕ) {out₁ out₂ : List ℕ} {r r' : Reply}
      → Edits rows items row msg path ws cs out out₁ r → Edits rows items row msg path ws cs out out₂ r'
      → (r ≡ r') × (out₁ ≡ out₂)
  edit_determined msg path ws cs out c c' = laws.edit_one rows items row msg path ws cs out c c'

  pub setting_determined : (msg path : List ℕ) {r r' : Result Setting Refusal} → Reads rows items row msg path r
      → Reads rows items row msg path r' → r ≡ r'
  setting_determined msg path c c' = laws.setting_one rows items row msg path c c'

  pub text_determined : (msg path instead : List ℕ) {shown shown' : List ℕ} → Shows rows items row msg path instead shown
      → Shows rows items row msg path instead shown' → shown ≡ shown'
  text_determined msg path instead c c' = laws.text_one rows items row msg path instead c c'
