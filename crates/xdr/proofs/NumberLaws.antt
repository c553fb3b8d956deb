-- A number and its bytes: each gives the other back.
use Prim.Native.Nat.{ℕ, zero, suc, ◌+◌, ◌*◌, ◌/◌, ◌%◌, ◌^◌, ◌≤◌, ◌<◌}
use mathlib.Core.List.{List, [], ◌∷◌, ◌++◌}
use mathlib.Core.Path.{◌≡◌, refl, ap, ◌∙◌}
use native.Mathlib.Omega.{arith}
use native.Mathlib.Nat.{div-add-mod', mod-lt, pow-succ', suc-mul, add-zero, add_assoc, mul-le-mul_right, div-eq_of_lt, mod-eq_of_lt, mul-add-div_right, mul-add-mod_self_right}
use lib.ListN.{length, take, drop}
use lib.Seq.{get_or-drop, drop-drop}
use Rattle.xdr.specs.Number.{big_endian, digits, IsBytes}

pub power_positive : (k : ℕ) → 0 < 256 ^ k
power_positive zero = omega arith
power_positive (suc k) = omega (arith, power_positive k, pow-succ' 256 k)

pub length_digits : (k n : ℕ) → length (digits k n) ≡ k
length_digits zero n = refl
length_digits (suc k) n = ap suc (length_digits k (n % 256 ^ k))

-- the bytes of a number, read, are the number
pub read_digits : (k n : ℕ) (t : List ℕ) → n < 256 ^ k → big_endian k (digits k n ++ t) ≡ n
read_digits zero n t h = omega arith
read_digits (suc k) n t h = rw (read_digits k (n % 256 ^ k) t (mod-lt n (power_positive k))) (div-add-mod' n (256 ^ k))

pub bytes_drop : (n : ℕ) (s : List ℕ) → IsBytes s → IsBytes (drop n s)
bytes_drop n s h i = rw get_or-drop (h (n + i))

-- the number that k bytes are has them as its bytes
pub digits_read : (k : ℕ) (s : List ℕ) → IsBytes s → k ≤ length s → (digits k (big_endian k s) ≡ take k s) × (big_endian k s < 256 ^ k)
digits_read zero s b h = (refl, omega arith)
digits_read (suc k) [] b h = absurd (omega arith)
digits_read (suc k) (x ∷ s) b h =
    let rest = digits_read k s (λ i. b (suc i)) (omega arith) in
    let small : big_endian k s < 256 ^ k = rest.1 in
    let high : (x * 256 ^ k + big_endian k s) / 256 ^ k ≡ x =
    mul-add-div_right (power_positive k) x (big_endian k s) ∙ ap (λ (n : ℕ). x + n) (div-eq_of_lt small) ∙ add-zero x in
    let low : (x * 256 ^ k + big_endian k s) % 256 ^ k ≡ big_endian k s =
    mul-add-mod_self_right x (256 ^ k) (big_endian k s) ∙ mod-eq_of_lt small in
    let top : suc x * 256 ^ k ≤ 256 * 256 ^ k = mul-le-mul_right (256 ^ k) (b 0) in
    (simp (high, low, rest.0), rw (pow-succ' 256 k) (omega (arith, suc-mul x (256 ^ k))))

-- a number of eight bytes, by its two words
pub two_words : (s : List ℕ) (at : ℕ) → big_endian 8 (drop at s) ≡ big_endian 4 (drop at s) * 4294967296 + big_endian 4 (drop (at + 4) s)
two_words s at = simp (drop-drop, get_or-drop, add_assoc, add-zero) (omega arith)

-- the bytes of a word, by division
pub word_digits : (n : ℕ) → n / 16777216 ∷ n / 65536 % 256 ∷ n / 256 % 256 ∷ n % 256 ∷ [] ≡ digits 4 n
word_digits n =
    let second : n / 65536 % 256 ≡ n % 16777216 / 65536 = omega arith in
    let third : n / 256 % 256 ≡ n % 16777216 % 65536 / 256 = omega arith in
    let fourth : n % 256 ≡ n % 16777216 % 65536 % 256 / 1 = omega arith in
    cc

-- a number goes by its own bytes
pub number_first : (k n : ℕ) (l : List ℕ) → k ≤ n → big_endian k (take n l) ≡ big_endian k l
number_first zero n l h = refl
number_first (suc k) zero l h = absurd (omega arith)
number_first (suc k) (suc n) [] h = refl
number_first (suc k) (suc n) (x ∷ l) h = ap (λ (m : ℕ). x * 256 ^ k + m) (number_first k n l (omega arith))
