-- Four bytes at once: where no top bit is set in the word that they make, each is at most 127.
use Prim.Native.Nat.{ℕ, ◌+◌, ◌*◌, ◌-◌, ◌/◌, ◌%◌, ◌≤◌, ◌<◌, min, max}
use mathlib.Core.Path.{◌≡◌, sym, ap, ◌∙◌}
use native.Mathlib.Omega.{arith}
use native.Mathlib.Decide.{dec_le}
use lib.Arith.{bin_ind}
use lib.Bits.{bit_and, bit_or, and_block, and_zero_r, and_step, or_step, or_shr}

-- the top bit of a byte
top_bit : (x : ℕ) → x < 256 → bit_and x 128 ≡ 0 → x ≤ 127
top_bit x h e = go (dec_le x 127)
  where
    go : Dec (x ≤ 127) → x ≤ 127
    go (yes w) = w
    go (no w) =
        let high : 1 * 128 + (x - 128) ≡ x = omega arith in
        let set : bit_and (1 * 128 + (x - 128)) (1 * 128 + 0) ≡ bit_and 1 1 * 128 + bit_and (x - 128) 0 = and_block 7 1 1 (x - 128) 0 (omega arith) (omega arith) in
        let one : bit_and x 128 ≡ bit_and 1 1 * 128 + bit_and (x - 128) 0 = ap (λ (y : ℕ). bit_and y 128) (sym high) ∙ set in
        let none = and_zero_r (x - 128) in
        absurd (omega (arith, one, none, e))

pub four_top_bits : (a b c d : ℕ) → a < 256 → b < 256 → c < 256 → d < 256 → bit_and (a * 16777216 + b * 65536 + c * 256 + d) 2155905152 ≡ 0
    → (a ≤ 127) × (b ≤ 127) × (c ≤ 127) × (d ≤ 127)
four_top_bits a b c d p q r s e =
    let low = and_block 8 c 128 d 128 (omega arith) (omega arith) in
    let middle = and_block 16 b 128 (c * 256 + d) 32896 (omega arith) (omega arith) in
    let high = and_block 24 a 128 (b * 65536 + (c * 256 + d)) 8421504 (omega arith) (omega arith) in
    let grouped : a * 16777216 + (b * 65536 + (c * 256 + d)) ≡ a * 16777216 + b * 65536 + c * 256 + d = omega arith in
    let whole = ap (λ (w : ℕ). bit_and w 2155905152) grouped in (
      top_bit a p (omega (arith, low, middle, high, whole)),
      top_bit b q (omega (arith, low, middle, high, whole)),
      top_bit c r (omega (arith, low, middle, high, whole)),
      top_bit d s (omega (arith, low, middle, high, whole)),
    )

-- what has none of some bits, put together from two numbers, has none in either
pub neither : (m a b : ℕ) → bit_and (bit_or a b) m ≡ 0 → (bit_and a m ≡ 0) × (bit_and b m ≡ 0)
neither = bin_ind (λ (m : ℕ). (a b : ℕ) → bit_and (bit_or a b) m ≡ 0 → (bit_and a m ≡ 0) × (bit_and b m ≡ 0)) (λ a b e. (and_zero_r a, and_zero_r b)) (λ m ih a b e.
    let o = or_step a b in
    let w = and_step (bit_or a b) m in
    let half : bit_or a b / 2 ≡ bit_or (a / 2) (b / 2) = or_shr a b 1 in
    let odd : bit_or a b % 2 ≡ max (a % 2) (b % 2) = omega (arith, o, half) in
    let high : bit_and (bit_or a b / 2) (m / 2) ≡ 0 = omega (arith, w, e) in
    let low : min (bit_or a b % 2) (m % 2) ≡ 0 = omega (arith, w, e) in
    let both = ih (a / 2) (b / 2) (ap (λ (n : ℕ). bit_and n (m / 2)) (sym half) ∙ high) in
    let p = and_step a m in
    let q = and_step b m in
    (omega (arith, p, both.0, low, odd), omega (arith, q, both.1, low, odd)))
