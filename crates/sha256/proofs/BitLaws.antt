-- Ch and Maj with fewer operations: words that are joined in two ways are the same where single bits are.
use Rattle.std.proofs.Common.{◌≡◌, ℕ, zero, suc, ◌+◌, ◌-◌, ◌*◌, ◌/◌, ◌%◌, ◌^◌, ◌<◌, sym, refl, ap, ◌∙◌, pow-suc, div-add-mod', arith}
use lib.Bits.{bit_and, bit_xor, and_lt, xor_lt, and_block, xor_block}

-- three words and the complement of the first, joined bit by bit
data Joining : Type 0 where
  first : Joining
  second : Joining
  third : Joining
  unfirst : Joining
  anded : Joining → Joining → Joining
  xored : Joining → Joining → Joining

abbrev value : Joining → (x y z u : ℕ) → ℕ
value first x y z u = x
value second x y z u = y
value third x y z u = z
value unfirst x y z u = u
value (anded e f) x y z u = bit_and (value e x y z u) (value f x y z u)
value (xored e f) x y z u = bit_xor (value e x y z u) (value f x y z u)

value_lt : (e : Joining) (k x y z u : ℕ) → x < 2 ^ k → y < 2 ^ k → z < 2 ^ k → u < 2 ^ k → value e x y z u < 2 ^ k
value_lt first k x y z u hx hy hz hu = hx
value_lt second k x y z u hx hy hz hu = hy
value_lt third k x y z u hx hy hz hu = hz
value_lt unfirst k x y z u hx hy hz hu = hu
value_lt (anded e f) k x y z u hx hy hz hu = and_lt k (value e x y z u) (value f x y z u) (value_lt e k x y z u hx hy hz hu) (value_lt f k x y z u hx hy hz hu)
value_lt (xored e f) k x y z u hx hy hz hu = xor_lt k (value e x y z u) (value f x y z u) (value_lt e k x y z u hx hy hz hu) (value_lt f k x y z u hx hy hz hu)

-- the last bits are joined apart from the others
module _ (a b c d r s t u : ℕ) (hr : r < 2) (hs : s < 2) (ht : t < 2) (hu : u < 2) where
  low_lt : (e : Joining) → value e r s t u < 2
  low_lt e = value_lt e 1 r s t u hr hs ht hu

  apart : (e : Joining) → value e (a * 2 + r) (b * 2 + s) (c * 2 + t) (d * 2 + u) ≡ value e a b c d * 2 + value e r s t u
  apart first = refl
  apart second = refl
  apart third = refl
  apart unfirst = refl
  apart (anded e f) = rw (apart e, apart f) (and_block 1 (value e a b c d) (value f a b c d) (value e r s t u) (value f r s t u) (low_lt e) (low_lt f))
  apart (xored e f) = rw (apart e, apart f) (xor_block 1 (value e a b c d) (value f a b c d) (value e r s t u) (value f r s t u) (low_lt e) (low_lt f))

-- a bit
data Bit : ℕ → Type 0 where
  off : Bit 0
  on : Bit 1

bit : (n : ℕ) → n < 2 → Bit n
bit zero h = off
bit (suc zero) h = on
bit (suc (suc n)) h = absurd (omega arith)

-- two joinings that are the same on bits
module _ (e f : Joining) (same : (r s t : ℕ) → Bit r → Bit s → Bit t → value e r s t (1 - r) ≡ value f r s t (1 - r)) where
  same_words : (k x y z u : ℕ) → x < 2 ^ k → y < 2 ^ k → z < 2 ^ k → u ≡ 2 ^ k - 1 - x → value e x y z u ≡ value f x y z u
  same_words zero x y z u hx hy hz eu =
      let hu : u < 2 ^ 0 = omega arith in
      omega (arith, value_lt e 0 x y z u hx hy hz hu, value_lt f 0 x y z u hx hy hz hu)
  same_words (suc k) x y z u hx hy hz eu =
      let p : 2 ^ suc k ≡ 2 ^ k * 2 = pow-suc 2 k in
      let ex : x / 2 * 2 + x % 2 ≡ x = div-add-mod' x 2 in
      let ey : y / 2 * 2 + y % 2 ≡ y = div-add-mod' y 2 in
      let ez : z / 2 * 2 + z % 2 ≡ z = div-add-mod' z 2 in
      let d : ℕ = 2 ^ k - 1 - x / 2 in
      let ed : d * 2 + (1 - x % 2) ≡ u = omega arith in
      let hr : x % 2 < 2 = omega arith in
      let hs : y % 2 < 2 = omega arith in
      let ht : z % 2 < 2 = omega arith in
      let hu : 1 - x % 2 < 2 = omega arith in
      let cut : (g : Joining) → value g x y z u ≡ value g (x / 2) (y / 2) (z / 2) d * 2 + value g (x % 2) (y % 2) (z % 2) (1 - x % 2) =
      λ g. rw (ex, ey, ez, ed) at (apart (x / 2) (y / 2) (z / 2) d (x % 2) (y % 2) (z % 2) (1 - x % 2) hr hs ht hu g) in
      cut e
      ∙ ap (λ (n : ℕ). n * 2 + value e (x % 2) (y % 2) (z % 2) (1 - x % 2)) (same_words k (x / 2) (y / 2) (z / 2) d (omega arith) (omega arith) (omega arith) refl)
      ∙ ap (λ (n : ℕ). value f (x / 2) (y / 2) (z / 2) d * 2 + n) (same (x % 2) (y % 2) (z % 2) (bit (x % 2) hr) (bit (y % 2) hs) (bit (z % 2) ht))
      ∙ sym (cut f)

choice_bit : {r s t : ℕ} → Bit r → Bit s → Bit t → bit_xor t (bit_and r (bit_xor s t)) ≡ bit_xor (bit_and r s) (bit_and (1 - r) t)
choice_bit off off off = refl
choice_bit off off on = refl
choice_bit off on off = refl
choice_bit off on on = refl
choice_bit on off off = refl
choice_bit on off on = refl
choice_bit on on off = refl
choice_bit on on on = refl

majority_bit : {r s t : ℕ} → Bit r → Bit s → Bit t → bit_xor s (bit_and (bit_xor r s) (bit_xor s t)) ≡ bit_xor (bit_xor (bit_and r s) (bit_and r t)) (bit_and s t)
majority_bit off off off = refl
majority_bit off off on = refl
majority_bit off on off = refl
majority_bit off on on = refl
majority_bit on off off = refl
majority_bit on off on = refl
majority_bit on on off = refl
majority_bit on on on = refl

module _ (k x y z : ℕ) (hx : x < 2 ^ k) (hy : y < 2 ^ k) (hz : z < 2 ^ k) where
  pub choice_bits : bit_xor z (bit_and x (bit_xor y z)) ≡ bit_xor (bit_and x y) (bit_and (2 ^ k - 1 - x) z)
  choice_bits =
      same_words (xored third (anded first (xored second third))) (xored (anded first second) (anded unfirst third)) (λ r s t a b c. choice_bit a b c) k x y z (2 ^ k - 1 - x) hx hy hz refl

  pub majority_bits : bit_xor y (bit_and (bit_xor x y) (bit_xor y z)) ≡ bit_xor (bit_xor (bit_and x y) (bit_and x z)) (bit_and y z)
  majority_bits =
      same_words (xored second (anded (xored first second) (xored second third))) (xored (xored (anded first second) (anded first third)) (anded second third)) (λ r s t a b c. majority_bit a b c) k x y z (2 ^ k - 1 - x) hx hy hz refl
