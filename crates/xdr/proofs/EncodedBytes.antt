-- The encoding of a format's value is a list of bytes.
use Prim.Native.Nat.{ℕ, zero, suc, ◌%◌, ◌-◌, ◌^◌, ◌<◌}
use mathlib.Core.List.{List, [], ◌∷◌, ◌++◌}
use mathlib.Core.Path.{◌≡◌, sym, ◌∙◌}
use native.Mathlib.Omega.{arith}
use native.Mathlib.Nat.{mod-lt, pow-succ', div-lt_iff_lt-mul, add-zero, add_assoc}
use lib.ListN.{length, replicate}
use lib.Seq.{get_or-drop, drop-drop}
use Rattle.std.proofs.Common.{w64}
use Rattle.std.specs.Int.{from_be_bytes, to_be_bytes}
use Rattle.std.proofs.lemmas.Nat.{be_bytes_8}
use Rattle.xdr.specs.Number.{big_endian, digits, IsBytes}
use Rattle.xdr.specs.Format.{Format, nothing, number, bytes, array, pair, checked_at, via, encode_all, encode, AllOf, Valid}
use Rattle.xdr.specs.Pad.{padded}
use Rattle.xdr.proofs.NumberLaws.{power_positive, length_digits, read_digits}

pub bytes_append : (l m : List ℕ) → IsBytes l → IsBytes m → IsBytes (l ++ m)
bytes_append [] m h k i = k i
bytes_append (x ∷ l) m h k zero = h 0
bytes_append (x ∷ l) m h k (suc i) = bytes_append l m (λ j. h (suc j)) k i

bytes_zeros : (n : ℕ) → IsBytes (replicate n 0)
bytes_zeros zero i = omega arith
bytes_zeros (suc n) zero = omega arith
bytes_zeros (suc n) (suc i) = bytes_zeros n i

bytes_digits : (k n : ℕ) → n < 256 ^ k → IsBytes (digits k n)
bytes_digits zero n h i = omega arith
bytes_digits (suc k) n h zero = (div-lt_iff_lt-mul (power_positive k)).1 (rw (pow-succ' 256 k) at h)
bytes_digits (suc k) n h (suc i) = bytes_digits k (n % 256 ^ k) (mod-lt n (power_positive k)) i

-- eight bytes as one number, by place and from the highest on
joined_bytes : (s : List ℕ) → from_be_bytes w64 s ≡ big_endian 8 s
joined_bytes s = simp (drop-drop, get_or-drop, add_assoc, add-zero) (omega arith)

-- the bytes of a number of eight bytes, by division
pub hyper_bytes : (n : ℕ) → n < 18446744073709551616 → to_be_bytes w64 n ≡ digits 8 n
hyper_bytes n h =
    let read : big_endian 8 (digits 8 n) ≡ n = read_digits 8 n [] h in
    be_bytes_8 (digits 8 n) n (length_digits 8 n) (bytes_digits 8 n h) (sym (joined_bytes (digits 8 n) ∙ read))

bytes_all : {A : Type 0} (e : A → List ℕ) (Q : A → Type 0) → ((a : A) → Q a → IsBytes (e a)) → (l : List A) → AllOf Q l → IsBytes (encode_all e l)
bytes_all e Q h [] q i = omega arith
bytes_all e Q h (a ∷ l) q i = bytes_append (e a) (encode_all e l) (h a q.0) (λ j. bytes_all e Q h l q.1 j) i

pub encoded_bytes : {A : Type 0} (F : Format A) (a : A) → Valid F a → IsBytes (encode F a)
unfolding encode Valid
encoded_bytes nothing u q i = omega arith
encoded_bytes (number k) n q i = bytes_digits k n q i
encoded_bytes (bytes C) l q i =
    bytes_append (encode C (length l)) (l ++ replicate (padded (length l) - length l) 0) (λ j. encoded_bytes C (length l) q.0 j)
    (bytes_append l (replicate (padded (length l) - length l) 0) q.1 (bytes_zeros (padded (length l) - length l))) i
encoded_bytes (array C F) l q i =
    bytes_append (encode C (length l)) (encode_all (encode F) l) (λ j. encoded_bytes C (length l) q.0 j)
    (bytes_all (encode F) (Valid F) (λ a v j. encoded_bytes F a v j) l q.1) i
encoded_bytes (pair F G) p q i =
    bytes_append (encode F p.0) (encode (G p.0) p.1) (λ j. encoded_bytes F p.0 q.0 j) (λ j. encoded_bytes (G p.0) p.1 q.1 j) i
encoded_bytes (checked_at k test fault F) a q i = encoded_bytes F a q.0 i
encoded_bytes (via to from back forth F) b q i = encoded_bytes F (from b) q i
