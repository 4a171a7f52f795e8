-- A value of a row without components, behind its node: from the flat answers to a pen's.
-- Premises are the callees' `ensures` and the tests as they went. Assumes nothing.
use mathlib.Core.Path.{◌≡◌, ◌∙◌}
use mathlib.Core.List.{List, []}
use Prim.Native.Nat.{ℕ, suc, ◌+◌, ◌*◌, ◌≤◌}
use native.Mathlib.Numerals.{add-one}
use native.Mathlib.Omega.{arith}
use lib.ListN.{length, take, drop, length-append}
use lib.Seq.{sets}
use Rattle.x696.specs.Value.{node, no_values, node_width}
use Rattle.x696.specs.Leaf.{leaf_kind}
use Rattle.x696.specs.Types.{Ty}
use Rattle.x696.specs.Encode.{encode}
use Rattle.octets.specs.Answers.{fault}
use Rattle.octets.proofs.CountedRuns.{length_run}
use Rattle.octets.proofs.Stores.{sets_after}
use Rattle.pens.specs.Put.{pen, listed_at, walk_behind, Put}
use Rattle.pens.specs.Flat.{RowNumbered, RowHeaded}
use Rattle.pens.proofs.Putting.{put_refused, put_penned}
use Rattle.std.proofs.Common.{Result, Ok, Err}
use Rattle.octets.specs.declared.faults.Fault.{Fault}
use Rattle.octets.specs.declared.faults.Cause.{Cause}
use mathlib.Core.Path.{refl}
use Rattle.pens.specs.declared.head.Head.{Head}
use Rattle.pens.specs.declared.pen.Pen.{Pen}

-- what a writer of a value behind its node ensures, whatever the nodes after it are
abbrev Behind : (t : Ty) (n : ℕ) (cs : List ℕ) (at u p : ℕ) (l l' : List ℕ) (r : Result Pen Fault) → Type 0
Behind t n cs at u p l l' r =
    (ws : List ℕ) → suc at * node_width ≤ length ws
    → Put ws cs (walk_behind t at n (listed_at ws cs (suc at) u)) (λ v. encode t v) at u p l l' r

module _ {t : Ty} {n p : ℕ} {l l' : List ℕ} {w : Result ℕ Cause} (x : RowNumbered t n p l l' w) (cs : List ℕ) (at u : ℕ)
  where
    pub number_stops : {k : Cause} {stop : Fault} → w ≡ Err k → stop ≡ fault k at → Behind t n cs at u p l l' (Err stop)
    unfolding walk_behind
    number_stops z e ws h = put_refused (rw x.is (x.numbered.stopped _ z at (listed_at ws cs (suc at) u))) e

    pub number_goes : {to : ℕ} → w ≡ Ok to → u ≤ length cs → Behind t n cs at u p l l' (Ok (pen (at + 1) u to))
    unfolding walk_behind encode
    number_goes z g ws h =
        let b = x.numbered.went _ z in
        let s = b.stored in
        rw x.is (put_penned (record {
          what = node (leaf_kind x.kind) n [] no_values;
          walks = rw (add-one at) (b.walks at (listed_at ws cs (suc at) u));
          inside = omega arith;
          within = g;
          ends = s.ends;
          bound = omega (arith, s.near);
          stored = s.stores;
        }) refl)

module _ {t : Ty} {n p u : ℕ} {cs l l' : List ℕ} {w : Result Head Cause} (x : RowHeaded t cs n u p l l' w) (at : ℕ) where
  pub string_stops : {k : Cause} {stop : Fault} → w ≡ Err k → stop ≡ fault k at → Behind t n cs at u p l l' (Err stop)
  unfolding walk_behind
  string_stops z e ws h =
      put_refused (rw x.is (x.headed.stopped _ z at (suc at) (drop (suc at * node_width) ws))) e

  pub string_goes : {d : Head} → w ≡ Ok d → {l₂ : List ℕ} → l₂ ≡ sets l' d.to (take d.filled (drop u cs))
      → Behind t n cs at u p l l₂ (Ok (pen (at + 1) (u + d.filled) (d.to + d.filled)))
  unfolding walk_behind encode
  string_goes {d} z copied ws h =
      let b = x.headed.went d z in
      let os : List ℕ = take d.filled (drop u cs) in
      let len : length os ≡ d.filled = length_run cs u d.filled b.within in
      rw x.is (put_penned (record {
        what = node (leaf_kind x.kind) n os no_values;
        walks = rw (add-one at) (b.walks at (suc at) (drop (suc at * node_width) ws));
        inside = omega arith;
        within = b.within;
        ends = rw (b.octets, length-append b.before os) (omega (arith, len, b.stored.ends));
        bound = omega (arith, b.stored.near);
        stored = copied ∙ rw b.octets (sets_after b.before os l p b.stored.stores b.stored.ends);
      }) refl)
