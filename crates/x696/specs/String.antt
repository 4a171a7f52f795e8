-- Clauses 14 (OCTET STRING), 27 (VisibleString) and 13 (BIT STRING). Least and greatest size equal: contents alone
-- (13.2, 14.1), else a length determinant and contents (13.3, 14.2); a variable BIT STRING has its unused-bits octet
-- before its contents (13.3.2). A is the least size; flags 2: B is the greatest.
-- A BIT STRING's size is in bits, and trailing zero bits count. Assumes nothing.
use Rattle.std.specs.Prelude.{Bool, true, not, ◌&&◌, ◌||◌, List, [], ◌∷◌, ◌++◌, ℕ, suc, ◌*◌, ◌-◌, length, drop, get_or, ltb, leb, eqb}
use Rattle.x696.specs.Outcome.{Outcome, got, next, must, choose}
use Rattle.x696.specs.Length.{run, length_octets, read_run}
use Rattle.x696.specs.Bits.{bit_octets, unused_bits, low_bits_clear}
use Rattle.x696.specs.Integer.{has_upper}
use Rattle.x696.specs.Value.{Val, node, no_values}

unfoldable pub fixed_size : (flags a b : ℕ) → Bool
fixed_size f a b = has_upper f && eqb a b

unfoldable pub size_allowed : (flags a b n : ℕ) → Bool
size_allowed f a b n = leb a n && (not (has_upper f) || leb n b)

-- which octets a string may hold: any, or the characters of VisibleString
unfoldable pub any_octets : List ℕ → Bool
any_octets os = true

unfoldable pub visible : List ℕ → Bool
visible [] = true
visible (x ∷ xs) = leb 32 x && (leb x 126 && visible xs)

unfoldable pub text_octets : (flags a b : ℕ) → List ℕ → List ℕ
text_octets f a b os = choose (fixed_size f a b) (λ _. os) (λ _. length_octets (length os) ++ os)

unfoldable pub read_text : (List ℕ → Bool) → (kind flags a b p : ℕ) → List ℕ → Outcome (List ℕ) Val
read_text characters kind f a b p s =
    next (choose (fixed_size f a b) (λ _. run p a s) (λ _. read_run p s)) λ os r.
    must (size_allowed f a b (length os)) 7 p (must (characters os) 7 p (got (node kind (length os) os no_values) r))

unfoldable pub bit_string_octets : (flags a b n : ℕ) → List ℕ → List ℕ
bit_string_octets f a b n os =
    choose (fixed_size f a b) (λ _. os) (λ _. length_octets (suc (length os)) ++ (unused_bits n ∷ os))

-- a fixed size: the contents alone
unfoldable pub read_fixed_bits : (n p : ℕ) → List ℕ → Outcome (List ℕ) Val
read_fixed_bits n p s =
    next (run p (bit_octets n) s) λ os r.
    -- unused bits are 0 (13.2.2)
    must (low_bits_clear (unused_bits n) os) 6 p (got (node 8 n os no_values) r)

-- what the octets ys that a determinant counts give: the unused-bits octet u, then the contents os
unfoldable pub bits_in : (flags a b p : ℕ) → (ys r : List ℕ) → Outcome (List ℕ) Val
bits_in f a b p ys r =
    let u = get_or ys 0 0 in
    let os = drop 1 ys in
    -- the unused-bits octet is there, 0 to 7 (13.3.1, 13.3.2)
    must (ltb 0 (length ys)) 6 p
    (must (ltb u 8) 6 p
    -- it is 0 where there are no contents (13.3.4)
    (must (leb u (8 * length os)) 6 p
    -- unused bits are 0 (13.3.3)
    (must (low_bits_clear u os) 6 p
    (must (size_allowed f a b (8 * length os - u)) 7 p (got (node 8 (8 * length os - u) os no_values) r)))))

unfoldable pub read_bit_string : (flags a b p : ℕ) → List ℕ → Outcome (List ℕ) Val
read_bit_string f a b p s =
    choose (fixed_size f a b) (λ _. read_fixed_bits a p s) (λ _. next (read_run p s) λ ys r. bits_in f a b p ys r)
