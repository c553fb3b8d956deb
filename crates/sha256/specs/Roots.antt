-- FIPS 180-4, 4.2.2 and 5.3.3, in their words: the first bits of the fractional parts of roots of the first primes.
use Rattle.std.specs.Prelude.{ℕ, zero, suc, ◌+◌, ◌-◌, ◌*◌, ◌%◌, ◌^◌, Bool, true, false, not, ◌&&◌, ◌||◌, List, [], ◌∷◌, ◌==◌, nat_le, nat_lt}

-- whether none of the n numbers from 2 on divides p
abbrev pub none_divides : ℕ → ℕ → Bool
none_divides zero p = true
none_divides (suc n) p = not (p % (n + 2) == 0) && none_divides n p

-- a number before others, where a test holds
abbrev pub kept_if : Bool → ℕ → List ℕ → List ℕ
kept_if true p ps = p ∷ ps
kept_if false p ps = ps

-- the primes among the n numbers from p on
abbrev pub primes_from : ℕ → ℕ → List ℕ
primes_from zero p = []
primes_from (suc n) p = kept_if (none_divides (p - 2) p) p (primes_from n (p + 1))

-- whether k is the first 32 bits of the fractional part of the e-th root of p, whose whole part is c: x / 2 ^ 32 is the root cut off there
abbrev pub is_root : (e p c k : ℕ) → Bool
is_root e p c k =
    let x : ℕ = c * 2 ^ 32 + k in
    nat_lt k (2 ^ 32) && nat_le (x ^ e) (p * 2 ^ (32 * e)) && nat_lt (p * 2 ^ (32 * e)) ((x + 1) ^ e)

-- the same for a whole part below n
abbrev pub has_root : (n e p k : ℕ) → Bool
has_root zero e p k = false
has_root (suc n) e p k = is_root e p n k || has_root n e p k

-- whether words are the first bits of the roots of as many numbers, each root below 7 as all of these are
abbrev pub are_roots : ℕ → (ps ks : List ℕ) → Bool
are_roots e [] [] = true
are_roots e [] (k ∷ ks) = false
are_roots e (p ∷ ps) [] = false
are_roots e (p ∷ ps) (k ∷ ks) = has_root 7 e p k && are_roots e ps ks
