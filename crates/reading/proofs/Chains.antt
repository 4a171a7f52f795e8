-- Members of a group while they are read: what is left of them ends the whole (`Rest`), and the number of the last one
-- is carried along; what the members give of the group that holds them.
-- Premises are the callees' `ensures`. Assumes nothing.
use mathlib.Core.Path.{◌≡◌, refl, sym, ◌∙◌}
use mathlib.Core.List.{List, [], ◌∷◌, append-nil}
use Prim.Native.Nat.{ℕ, ◌+◌, ◌*◌, ◌≤◌}
use native.Mathlib.Omega.{arith}
use lib.ListN.{length, drop}
use lib.Seq.{sets}
use Rattle.x696.specs.Outcome.{Outcome, refused, got, next}
use Rattle.x696.specs.Value.{Val, node, Vals, no_values, value, only, node_width, size, sizes}
use Rattle.x696.specs.Value.{nodes, nodes_of, contents}
use Rattle.x696.specs.Read.{Message, message}
use Rattle.octets.specs.declared.faults.Fault.{Fault}
use Rattle.kinds.specs.Run.{cursor, number_of, Gone, Ran}
use Rattle.kinds.specs.declared.cursor.Cursor.{Cursor}
use Rattle.kinds.proofs.Ran.{ran_gone}
use Rattle.reading.specs.Members.{last_number, RanAll}
use Rattle.reading.proofs.Groups.{stored_node, Rest, rest_start, first, rest_turn, rest_stop}
use Rattle.std.proofs.Common.{Result, Ok, Err}
use Rattle.octets.specs.Cause.{code_of}

-- what is left, with x the number of the last value read
pub record Chain (o₀ : Outcome Message Vals) (p₀ n₀ u₀ : ℕ) (l₀ b₀ : List ℕ) (o : Outcome Message Vals) (p n u x : ℕ)
    (l b : List ℕ) : Type 0 where
  pub rest : Rest o₀ p₀ n₀ u₀ l₀ b₀ o p n u l b
  pub last : (vs ws : Vals) (r : Message) → o ≡ got vs r → o₀ ≡ got ws r → last_number 0 ws ≡ last_number x vs

pub chain_start : {o₀ o : Outcome Message Vals} {p n u : ℕ} {l b : List ℕ} → o₀ ≡ o
    → Chain o₀ p n u l b o p n u 0 l b
chain_start e = record {
  rest = rest_start e;
  last = λ vs ws r f g. let same : ws ≡ vs = cc in rw same refl;
}

module _ {o₀ : Outcome Message Vals} {p₀ n₀ u₀ : ℕ} {l₀ b₀ : List ℕ} {o : Outcome Message Vals} {p n u x : ℕ}
    {l b : List ℕ} (inv : Chain o₀ p₀ n₀ u₀ l₀ b₀ o p n u x l b) where
  module _ {o₁ : Outcome Message Val} (k : Message → Outcome Message Vals) (e : o ≡ first o₁ k) where
    pub chain_turn : {msg : List ℕ} {l' b' : List ℕ} {d : Cursor} → Gone msg o₁ p n u l b l' b' d
        → Chain o₀ p₀ n₀ u₀ l₀ b₀ (k (message (drop d.at msg) d.count))
        d.at d.count d.used d.number l' b'
    unfolding next last_number
    chain_turn g = record {
      rest = rest_turn inv.rest k e g;
      last = λ vs ws r f h.
          inv.last (value g.what vs) ws r (rw (e, g.reads, f)) h ∙ rw (← g.number) refl;
    }

    pub chain_stop : {j q : ℕ} → o₁ ≡ refused j q → o₀ ≡ refused j q
    chain_stop = rest_stop inv.rest k e

  pub chain_done : (msg : List ℕ) {r : Result Cursor Fault} → o ≡ got no_values (message (drop p msg) n) → p ≤ length msg
      → r ≡ Ok (cursor p n u x) → RanAll msg o₀ p₀ n₀ u₀ l₀ b₀ l b r
  unfolding sizes contents nodes last_number
  chain_done msg f h e =
      let z = inv.rest.ends no_values (message (drop p msg) n) f in record {
        went = λ c g.
            let same : cursor p n u x ≡ c = cc in
            rw (← same) (record {
              what = z.what;
              reads = z.reads;
              number = sym (inv.last no_values z.what (message (drop p msg) n) f z.reads);
              inside = h;
              count = omega (arith, z.count);
              used = omega (arith, z.used);
              ahead = omega (arith, z.ahead);
              stored = sym z.stored;
              copied = sym z.copied;
            });
        stopped = λ y g. let no : ◌≡◌ {A = ℕ} 0 1 = cc in absurd (omega arith);
      }

pub all_stopped : {msg : List ℕ} {o : Outcome Message Vals} {p n u : ℕ} {l b l' b' : List ℕ} (f : Fault)
    → o ≡ refused (code_of f.cause) f.place → RanAll msg o p n u l b l' b' (Err f)
all_stopped f e = record {
  went = λ c g. let no : ◌≡◌ {A = ℕ} 0 1 = cc in absurd (omega arith);
  stopped = λ y g. cc;
}

-- ---- a group: its node, then its members
module _ {D : Outcome Message Val} {o₀ : Outcome Message Vals} (k x : ℕ)
    (e : D ≡ next o₀ λ vs s. got (node k x [] vs) s) {msg : List ℕ} {u : ℕ} (n : ℕ) {b l₁ l' b' : List ℕ}
    {p₀ : ℕ} {q : Result Cursor Fault} (w : RanAll msg o₀ p₀ (n + 1) u l₁ b l' b' q) where
  pub group_stops : (f : Fault) → q ≡ Err f → D ≡ refused (code_of f.cause) f.place
  unfolding next
  group_stops f g = rw (e, w.stopped f g)

  pub group_goes : {p : ℕ} (l : List ℕ) (d : Cursor) {r : Result Cursor Fault} → q ≡ Ok d
      → l₁ ≡ sets l (n * node_width) (k ∷ x ∷ []) → p ≤ p₀ → r ≡ Ok (cursor d.at d.count d.used x)
      → Ran msg D p n u l b l' b' r
  unfolding next sizes contents nodes size number_of
  group_goes l d g s h =
      let z = w.went d g in
      ran_gone (record {
        what = node k x [] z.what;
        reads = rw (e, z.reads);
        number = refl;
        inside = z.inside;
        count = omega (arith, z.count);
        used = z.used;
        ahead = omega (arith, z.ahead);
        stored = z.stored ∙ stored_node l (nodes_of z.what) n k x s;
        copied = z.copied;
      })

-- ---- a value alone
alone_got : (o : Outcome Message Val) (vs : Vals) (r : Message) → (next o λ v s. got (only v) s) ≡ got vs r
    → {X : Type 0} → ((v : Val) → o ≡ got v r → vs ≡ only v → X) → X
unfolding next
alone_got (refused j q) vs r e f = let no : ◌≡◌ {A = ℕ} 0 1 = cc in absurd (omega arith)
alone_got (got v s) vs r e f = f v (let same : s ≡ r = cc in rw same refl) cc

alone_refused : (o : Outcome Message Val) (j q : ℕ) → (next o λ v s. got (only v) s) ≡ refused j q → o ≡ refused j q
unfolding next
alone_refused (refused i p) j q e = cc
alone_refused (got v s) j q e = let no : ◌≡◌ {A = ℕ} 0 1 = cc in absurd (omega arith)

pub alone_ran : {msg : List ℕ} (o : Outcome Message Val) {o₀ : Outcome Message Vals} {p n u : ℕ} {l b l' b' : List ℕ}
    {r : Result Cursor Fault} → o₀ ≡ (next o λ v s. got (only v) s) → RanAll msg o₀ p n u l b l' b' r → Ran msg o p n u l b l' b' r
unfolding sizes contents nodes size last_number
alone_ran {msg} o {l = l} {b} e w = record {
  went = λ c f.
      let z = w.went c f in
      alone_got o z.what (message (drop c.at msg) c.count) (sym e ∙ z.reads) λ v g h. record {
        what = v;
        reads = g;
        number = z.number ∙ rw h refl;
        inside = z.inside;
        count = z.count ∙ rw h (omega arith);
        used = z.used ∙ rw (h, append-nil (contents v)) refl;
        ahead = rw (h, append-nil (contents v)) at z.ahead;
        stored = z.stored ∙ rw (h, append-nil (nodes v)) refl;
        copied = z.copied ∙ rw (h, append-nil (contents v)) refl;
      };
  stopped = λ f g. alone_refused o (code_of f.cause) f.place (sym e ∙ w.stopped f g);
}
