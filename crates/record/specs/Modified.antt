-- Modified as the signed number that it is.
use Rattle.std.specs.Prelude.{ℕ, suc, ◌+◌, ◌-◌, ◌%◌, ◌^◌, cond, ℤ, pos, negsuc, nat_lt}

-- the number that 64 bits are in two's complement (`negsuc n` is -1 - n)
abbrev pub signed : ℕ → ℤ
signed m = cond (nat_lt m (2 ^ 63)) (pos m) (negsuc (2 ^ 64 - suc m))

-- the same raised by 2 to the 63rd, so that the least is 0: these are in the order of the signed numbers
abbrev pub raised : ℕ → ℕ
raised m = (m + 2 ^ 63) % 2 ^ 64
