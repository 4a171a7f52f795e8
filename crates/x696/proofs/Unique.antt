-- Demand 2 on definitions: a message is accepted exactly if some value has it as its encoding; two values of one type
-- never share an encoding, and neither encoding begins the other. No size is assumed where none is needed.
-- Assumes nothing.
use Rattle.std.specs.Prelude.{◌≡◌, refl, ◌↔◌, List, [], ◌∷◌, ◌++◌, ℕ, ◌+◌, ◌≤◌, length}
use Rattle.std.proofs.Common.{ap, sym, ◌∙◌, append-nil, arith, leb-true, le-leb, eqb-true}
use Rattle.x696.specs.Outcome.{got, next, must}
use Rattle.x696.proofs.OutcomeLaws.{next_inv, must_inv}
use Rattle.x696.specs.Digits.{Below}
use Rattle.x696.specs.Value.{Val, size}
use Rattle.x696.specs.Types.{Ty}
use Rattle.x696.specs.Fits.{Fits}
use Rattle.x696.specs.Encode.{encode}
use Rattle.x696.specs.Read.{Message, message, read}
use Rattle.x696.proofs.Complete.{complete}
use Rattle.x696.proofs.Sound.{sound}
use Rattle.x696.specs.Operations.{node_limit, octet_limit, read_message}

-- two values whose octets, with something after each, are the same list: they are one value, with the same after it
pub encode_prefix_free : {t : Ty} {v w : Val} → Fits t v → Fits t w → (r q : List ℕ)
    → encode t v ++ r ≡ encode t w ++ q → (v ≡ w) × (r ≡ q)
encode_prefix_free {t} {v} {w} f g r q e =
    let limit = size v + size w in
    let a = complete limit f 0 0 (size v) r (omega arith) (omega arith) in
    let b = rw (← e) at (complete limit g 0 0 (size w) q (omega arith) (omega arith)) in
    let after : message r (size v) ≡ message q (size w) = cc in
    (cc, ap (λ m. m.octets) after)

pub encode_unique : {t : Ty} {v w : Val} → Fits t v → Fits t w → encode t v ≡ encode t w → v ≡ w
encode_unique f g e = (encode_prefix_free f g [] [] (rw e)).0

read_from : (limit : ℕ) {t : Ty} {v : Val} → Fits t v → (end : ℕ) (s : List ℕ) (c : ℕ) (r : Message)
    → s ≡ encode t v ++ r.octets
    → r.count ≡ c + size v → r.count ≤ limit → read limit t end (message s c) ≡ got v r
read_from limit f end s c r e n h = rw e (complete limit f end c r.count r.octets n h)

-- the reader takes the octets of the values that fit, and nothing else
pub read_iff : (limit : ℕ) (t : Ty) (end : ℕ) (s : Message) (v : Val) (r : Message) → Below 8 s.octets
    → (read limit t end s ≡ got v r)
    ↔ (Fits t v × (s.octets ≡ encode t v ++ r.octets) × (r.count ≡ s.count + size v) × (r.count ≤ limit))
read_iff limit t end s v r b = (
  (λ e. let a = sound limit t end s b e in (a.fits, a.from, a.nodes, a.within)),
  λ k. read_from limit k.0 end s.octets s.count r k.1 k.2 k.3,
)

empty : (s : List ℕ) → length s ≡ 0 → s ≡ []
empty [] e = refl
empty (x ∷ s) e = absurd (omega arith)

at_end : (r : Message) {n : ℕ} → r.octets ≡ [] → r.count ≡ n → r ≡ message [] n
at_end r e f = λ i. record { octets = e i; count = f i }

-- a whole message, within the limits
record MessageOf (t : Ty) (s : List ℕ) (v : Val) (r : Message) : Type 0 where
  fits : Fits t v
  whole : s ≡ encode t v
  few : size v ≤ node_limit
  short : length s ≤ octet_limit
  rest : r ≡ message [] (size v)

read_message_sound : (t : Ty) (s : List ℕ) {v : Val} {r : Message} → Below 8 s → read_message t s ≡ got v r
    → MessageOf t s v r
unfolding read_message
read_message_sound t s {v} {r} b e =
    must_inv _ _ _ _ e λ short q.
    next_inv _ _ q λ w r₁ was then.
    must_inv _ _ _ _ then λ u q'.
    let a = sound node_limit t (length s) (message s 0) b was in
    let qv : w ≡ v = cc in
    let qr : r₁ ≡ r = cc in
    let none = empty r₁.octets (eqb-true (length r₁.octets) 0 u) in
    rw (← qr, ← qv) (record {
      fits = a.fits;
      whole = a.from ∙ rw (none, append-nil (encode t w));
      few = omega (arith, a.nodes, a.within);
      short = leb-true (length s) octet_limit short;
      rest = at_end r₁ none (omega (arith, a.nodes));
    })

read_message_complete : {t : Ty} {v : Val} → Fits t v → (s : List ℕ) → s ≡ encode t v → size v ≤ node_limit
    → length s ≤ octet_limit
    → read_message t s ≡ got v (message [] (size v))
unfolding read_message next must
read_message_complete {t} {v} f s e few short =
    rw (
      le-leb (length s) octet_limit short,
      read_from node_limit f (length s) s 0 (message [] (size v)) (e ∙ sym (append-nil (encode t v))) (omega arith) few,
    )

-- accepted exactly if it is the encoding of a value, and that value is handed out
pub read_message_iff : (t : Ty) (s : List ℕ) (v : Val) (r : Message) → Below 8 s
    → (read_message t s ≡ got v r)
    ↔ (Fits t v × (s ≡ encode t v) × (size v ≤ node_limit) × (length s ≤ octet_limit) × (r ≡ message [] (size v)))
read_message_iff t s v r b = (
  (λ e. let a = read_message_sound t s b e in (a.fits, a.whole, a.few, a.short, a.rest)),
  λ k. rw k.4 (read_message_complete k.0 s k.1 k.2 k.3),
)
