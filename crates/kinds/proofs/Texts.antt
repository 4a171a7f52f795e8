-- OCTET STRING and VisibleString: the answer of their readers, one law for each way out.
-- Premises are the callees' `ensures` and the tests as they went. Assumes nothing.
use mathlib.Core.Path.{◌≡◌, ◌∙◌}
use mathlib.Core.Bool.{Bool, true, false, not, ◌||◌, cond}
use mathlib.Core.List.{List, [], ◌∷◌}
use Prim.Native.Nat.{ℕ, ◌+◌, ◌*◌, ◌≤◌}
use native.Mathlib.Omega.{arith}
use lib.ListN.{length, take, drop}
use lib.Seq.{sets}
use Rattle.x696.specs.Outcome.{got, next, must, choose}
use Rattle.x696.specs.Length.{run, read_run}
use Rattle.x696.specs.String.{fixed_size, size_allowed, any_octets, visible, read_text}
use Rattle.x696.specs.Value.{node, no_values}
use Rattle.x696.specs.Leaf.{Leaf, read_leaf}
use Rattle.octets.specs.Answers.{fault, RunAnswer}
use Rattle.octets.specs.declared.faults.Fault.{Fault}
use Rattle.octets.specs.declared.answers.Piece.{Piece}
use Rattle.octets.proofs.CountedRuns.{length_run}
use Rattle.kinds.specs.Run.{cursor, Ran, leaf_at, text_leaf, text_run, in_message}
use Rattle.kinds.proofs.Ran.{leaf_is, ran_refused, ran_fault, ran_leaf}
use Rattle.std.proofs.Common.{Result, Ok, Err}
use Rattle.octets.specs.declared.faults.Cause.TheVariants.{NotAllowed}
use Rattle.kinds.specs.declared.cursor.Cursor.{Cursor}

-- ---- the contents
module _ (f a b p : ℕ) (s : List ℕ) {t : Bool} (e : t ≡ fixed_size f a b) where
  pub text_fixed : t ≡ true → text_run f a b p s ≡ run p a s
  unfolding text_run choose
  text_fixed h = rw (← e, h)

  pub text_varies : t ≡ false → text_run f a b p s ≡ read_run p s
  unfolding text_run choose
  text_varies h = rw (← e, h)

-- ---- the two kinds: which characters, and the node's kind
pub record Text (l : Leaf) (characters : List ℕ → Bool) (kind f a b : ℕ) : Type 0 where
  pub reads : (p : ℕ) (s : List ℕ) → read_leaf l p s ≡ read_text characters kind f a b p s

-- an OCTET STRING is of any octets
pub text_kind : (shown : Bool) (f a b : ℕ) {kind : ℕ} → kind ≡ cond shown 9 7
    → Text (text_leaf shown f a b) (λ os. not shown || visible os) kind f a b
unfolding text_leaf read_leaf any_octets
text_kind true f a b e = record { reads = λ p s. rw e }
text_kind false f a b e = record { reads = λ p s. rw e }

-- ---- the answers, from the run that was found
module _ {l : Leaf} {characters : List ℕ → Bool} {kind f a b : ℕ} (k : Text l characters kind f a b) where
  text_is : (msg : List ℕ) (at count : ℕ) → at ≤ length msg
      → leaf_at l msg at count
      ≡ in_message (next (text_run f a b at (drop at msg)) λ os r.
      must (size_allowed f a b (length os)) 7 at
      (must (characters os) 7 at (got (node kind (length os) os no_values) r))) count
  unfolding read_text text_run
  text_is msg at count h = leaf_is l msg at count h ∙ rw (k.reads at (drop at msg))

  module _ {msg : List ℕ} {at count used : ℕ} {ns cs ns' cs' : List ℕ} (h : at ≤ length msg) {x : Result Piece Fault}
      (w : RunAnswer msg (text_run f a b at (drop at msg)) at x) where
    pub text_stop : (y : Fault) → x ≡ Err y → Ran msg (leaf_at l msg at count) at count used ns cs ns' cs' (Err y)
    unfolding next
    text_stop y e = ran_fault y (text_is msg at count h ∙ rw (w.stopped y e))

    module _ (y : Piece) (e : x ≡ Ok y) {v : Bool} (ev : v ≡ size_allowed f a b y.length.0) where
      pub text_size : {stop : Fault} → v ≡ false → stop ≡ fault NotAllowed at
          → Ran msg (leaf_at l msg at count) at count used ns cs ns' cs' (Err stop)
      unfolding next must
      text_size t q =
          let g = w.went y e in
          let len = length_run msg y.start y.length.0 g.inside in
          ran_refused (text_is msg at count h ∙ rw (g.reads, len, ← ev, t)) q

      module _ (t : v ≡ true) {z : Bool} (ez : z ≡ characters (take y.length.0 (drop y.start msg))) where
        pub text_characters : {stop : Fault} → z ≡ false → stop ≡ fault NotAllowed at
            → Ran msg (leaf_at l msg at count) at count used ns cs ns' cs' (Err stop)
        unfolding next must
        text_characters c q =
            let g = w.went y e in
            let len = length_run msg y.start y.length.0 g.inside in
            ran_refused (text_is msg at count h ∙ rw (g.reads, len, ← ev, t, ← ez, c)) q

        pub text_goes : {r : Result Cursor Fault} → z ≡ true → ns' ≡ sets ns (count * 2) (kind ∷ y.length.0 ∷ [])
            → cs' ≡ sets cs used (take y.length.0 (drop y.start msg))
            → r ≡ Ok (cursor (y.start + y.length.0) (count + 1) (used + y.length.0) y.length.0)
            → Ran msg (leaf_at l msg at count) at count used ns cs ns' cs' r
        unfolding next must
        text_goes c stored copied q =
            let g = w.went y e in
            let len = length_run msg y.start y.length.0 g.inside in
            ran_leaf msg at (y.start + y.length.0) count used ns cs kind y.length.0
            (take y.length.0 (drop y.start msg))
            (text_is msg at count h ∙ rw (g.reads, len, ← ev, t, ← ez, c))
            g.inside (omega (arith, len)) (omega (arith, len, g.ahead)) stored copied q
