-- How many bytes an encoding has.
use Prim.Native.Nat.{ℕ, ◌+◌}
use mathlib.Core.List.{List}
use mathlib.Core.Path.{◌≡◌}
use native.Mathlib.Omega.{arith}
use lib.ListN.{length, length-append, length-replicate}
use Rattle.xdr.specs.Pad.{padded}
use Rattle.xdr.specs.Format.{Format, number, bytes, encode}
use Rattle.xdr.proofs.NumberLaws.{length_digits}

pub number_size : (k n : ℕ) → length (encode (number k) n) ≡ k
unfolding encode
number_size k n = length_digits k n

-- a string or an opaque: its length, its contents and its pad
pub bytes_size : (C : Format ℕ) (l : List ℕ) → length (encode (bytes C) l) ≡ length (encode C (length l)) + padded (length l)
unfolding encode
bytes_size C l = simp (length-append, length-replicate) (omega arith)
