-- Flags by a mask and by arithmetic.
use Rattle.std.proofs.Common.{◌≡◌, ℕ, zero, suc, ◌*◌, ◌/◌, ◌%◌, ◌<◌, not, eqb, refl, mod-lt, arith, eq-eqb, ne_eqb}
use lib.Bits.{bit_and, and_high}
use Rattle.record.specs.File.{is_deleted, is_invalid}

-- a bit's value is not 0 exactly if the bit is 1
by_bit : (b m d : ℕ) → m ≡ d * suc b → d < 2 → not (eqb m 0) ≡ eqb d 1
by_bit b m zero e h = rw (eq-eqb m 0 (omega arith)) refl
by_bit b m (suc zero) e h = rw (ne_eqb m 0 (λ z. omega arith)) refl
by_bit b m (suc (suc d)) e h = absurd (omega arith)

pub masked_deleted : (f : ℕ) → not (eqb (bit_and f 4096) 0) ≡ is_deleted f
masked_deleted f = by_bit 4095 (bit_and f 4096) (f / 4096 % 2) (and_high f 1 12) (mod-lt (f / 4096) (omega arith))

pub masked_invalid : (f : ℕ) → not (eqb (bit_and f 8192) 0) ≡ is_invalid f
masked_invalid f = by_bit 8191 (bit_and f 8192) (f / 8192 % 2) (and_high f 1 13) (mod-lt (f / 8192) (omega arith))
