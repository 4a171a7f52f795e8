-- Groups while they are read: what is left of a group ends the whole (`Rest`); a group's node, then its values; a value
-- alone in a value. SEQUENCE, SEQUENCE OF and CHOICE share these.
-- Assumes nothing.
use mathlib.Core.Path.{◌≡◌, refl, sym, ◌∙◌}
use mathlib.Core.List.{List, [], ◌∷◌, ◌++◌, append-nil}
use Prim.Native.Nat.{ℕ, ◌+◌, ◌*◌, ◌≤◌}
use native.Mathlib.Omega.{arith}
use lib.ListN.{length, drop, length-append}
use lib.Seq.{sets}
use Rattle.x696.specs.Outcome.{Outcome, refused, got, next}
use Rattle.x696.specs.Value.{Val, node, Vals, value, only, node_width, size, sizes}
use Rattle.x696.specs.Value.{nodes, nodes_of, contents, contents_of}
use Rattle.x696.proofs.ListLaws.{nodes_length}
use Rattle.x696.specs.Read.{Message, message}
use Rattle.octets.proofs.Stores.{sets_after}
use Rattle.kinds.specs.Run.{cursor, number_of, Gone, Ran}
use Rattle.kinds.specs.declared.cursor.Cursor.{Cursor}
use Rattle.kinds.proofs.Ran.{ran_gone}
use Rattle.std.proofs.Common.{Result, Ok}
use Rattle.octets.specs.declared.faults.Fault.{Fault}

-- the store of a node, and what follows it
pub stored_node : (l ws : List ℕ) {m : List ℕ} (n k x : ℕ) → m ≡ sets l (n * node_width) (k ∷ x ∷ [])
    → sets m ((n + 1) * node_width) ws ≡ sets l (n * node_width) (k ∷ x ∷ ws)
stored_node l ws n k x e = sets_after (k ∷ x ∷ []) ws l (n * node_width) e (omega arith)

-- ---- the rest of a group: vs, read from (p, n, u) on into l and b, ends what was begun at (p₀, n₀, u₀) into l₀ and b₀
pub record End (o₀ : Outcome Message Vals) (p₀ n₀ u₀ : ℕ) (l₀ b₀ : List ℕ) (vs : Vals) (r : Message) (p n u : ℕ)
    (l b : List ℕ) : Type 0 where
  pub what : Vals
  pub reads : o₀ ≡ got what r
  pub count : n₀ + sizes what ≡ n + sizes vs
  pub used : u₀ + length (contents_of what) ≡ u + length (contents_of vs)
  pub ahead : p₀ + length (contents_of what) ≤ p + length (contents_of vs)
  pub stored : sets l₀ (n₀ * node_width) (nodes_of what) ≡ sets l (n * node_width) (nodes_of vs)
  pub copied : sets b₀ u₀ (contents_of what) ≡ sets b u (contents_of vs)

pub record Rest (o₀ : Outcome Message Vals) (p₀ n₀ u₀ : ℕ) (l₀ b₀ : List ℕ) (o : Outcome Message Vals) (p n u : ℕ)
    (l b : List ℕ) : Type 0 where
  pub stops : (k q : ℕ) → o ≡ refused k q → o₀ ≡ refused k q
  pub ends : (vs : Vals) (r : Message) → o ≡ got vs r → End o₀ p₀ n₀ u₀ l₀ b₀ vs r p n u l b

pub rest_start : {o₀ o : Outcome Message Vals} {p n u : ℕ} {l b : List ℕ} → o₀ ≡ o → Rest o₀ p n u l b o p n u l b
rest_start e = record {
  stops = λ k q f. e ∙ f;
  ends = λ vs r f. record {
    what = vs;
    reads = e ∙ f;
    count = refl;
    used = refl;
    ahead = omega arith;
    stored = refl;
    copied = refl;
  };
}

-- one value first, then others
abbrev pub first : Outcome Message Val → (Message → Outcome Message Vals) → Outcome Message Vals
first o k = next o λ v s. next (k s) λ vs s. got (value v vs) s

module _ {o₀ : Outcome Message Vals} {p₀ n₀ u₀ : ℕ} {l₀ b₀ : List ℕ} {o : Outcome Message Vals} {p n u : ℕ}
    {l b : List ℕ} (inv : Rest o₀ p₀ n₀ u₀ l₀ b₀ o p n u l b)
    {o₁ : Outcome Message Val} (k : Message → Outcome Message Vals) (e : o ≡ first o₁ k) where
  -- one value was read
  pub rest_turn : {msg : List ℕ} {l' b' : List ℕ} {d : Cursor} → Gone msg o₁ p n u l b l' b' d
      → Rest o₀ p₀ n₀ u₀ l₀ b₀ (k (message (drop d.at msg) d.count)) d.at d.count d.used l' b'
  unfolding next sizes contents nodes
  rest_turn {l' = l'} {b'} {d} g = record {
    stops = λ j q f. inv.stops j q (rw (e, g.reads, f));
    ends = λ vs r f.
        let w = inv.ends (value g.what vs) r (rw (e, g.reads, f)) in
        let more = length-append (contents g.what) (contents_of vs) in
        let there : d.count * node_width ≡ n * node_width + length (nodes g.what) =
        omega (arith, nodes_length g.what, g.count) in
        record {
          what = w.what;
          reads = w.reads;
          count = omega (arith, w.count, g.count);
          used = omega (arith, w.used, g.used, more);
          ahead = omega (arith, w.ahead, g.ahead, more);
          stored = w.stored ∙ sym (sets_after (nodes g.what) (nodes_of vs) l (n * node_width) g.stored there);
          copied = w.copied ∙ sym (sets_after (contents g.what) (contents_of vs) b u g.copied g.used);
        };
  }

  -- one value was refused
  pub rest_stop : {x q : ℕ} → o₁ ≡ refused x q → o₀ ≡ refused x q
  unfolding next
  rest_stop {x} {q} f = inv.stops x q (rw (e, f))

-- ---- a value alone in a value
module _ {D o : Outcome Message Val} (k x : ℕ) (e : D ≡ next o λ v s. got (node k x [] (only v)) s) where
  pub alone_stop : {j q : ℕ} → o ≡ refused j q → D ≡ refused j q
  unfolding next
  alone_stop f = rw (e, f)

  pub alone_done : {msg : List ℕ} {p u : ℕ} (n : ℕ) (l : List ℕ) {b l₁ : List ℕ} {p₀ : ℕ} {l' b' : List ℕ}
      {r : Result Cursor Fault} {d : Cursor} → l₁ ≡ sets l (n * node_width) (k ∷ x ∷ []) → p ≤ p₀ → Gone msg o p₀ (n + 1) u l₁ b l' b' d
      → r ≡ Ok (cursor d.at d.count d.used x) → Ran msg D p n u l b l' b' r
  unfolding next sizes contents nodes size number_of
  alone_done n l s h g =
      let v = g.what in
      let c : contents v ++ [] ≡ contents v = append-nil (contents v) in
      ran_gone (record {
        what = node k x [] (only v);
        reads = rw (e, g.reads);
        number = refl;
        inside = g.inside;
        count = omega (arith, g.count);
        used = rw c g.used;
        ahead = rw c (omega (arith, g.ahead));
        stored = g.stored ∙ rw (append-nil (nodes v)) (stored_node l (nodes v) n k x s);
        copied = rw c g.copied;
      })
