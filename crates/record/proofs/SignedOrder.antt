-- The raised numbers are in the order of the signed ones.
use Rattle.std.proofs.Common.{ℕ, suc, ◌-◌, ◌^◌, ◌<◌, ◌≤◌, Bool, true, false, cond, not, T, ltb, ◌↔◌, ℤ, pos, negsuc, ◌<ℤ◌, arith, ltb→lt, lt→ltb, nltb→le}
use Rattle.record.specs.Modified.{signed, raised}

pub raised_order : (m n : ℕ) → m < 2 ^ 64 → n < 2 ^ 64 → (raised m < raised n) ↔ (signed m <ℤ signed n)
raised_order m n h k = go (ltb m (2 ^ 63)) (ltb n (2 ^ 63)) (ltb→lt m (2 ^ 63)) (nltb→le m (2 ^ 63)) (ltb→lt n (2 ^ 63)) (nltb→le n (2 ^ 63))
  where
    z : Bool → ℕ → ℤ
    z b x = cond b (pos x) (negsuc (2 ^ 64 - suc x))

    go : (a b : Bool) → (T a → m < 2 ^ 63) → (T (not a) → 2 ^ 63 ≤ m) → (T b → n < 2 ^ 63) → (T (not b) → 2 ^ 63 ≤ n) → (raised m < raised n) ↔ (z a m <ℤ z b n)
    go true true p p' q q' =
        let i = p tt in
        let j = q tt in
        (λ l. record { lt = lt→ltb m n (omega arith) }, λ l. let o = ltb→lt m n l.lt in omega arith)
    go true false p p' q q' =
        let i = p tt in
        let j = q' tt in
        (λ l. absurd (omega arith), λ l. absurd l.lt)
    go false true p p' q q' =
        let i = p' tt in
        let j = q tt in
        (λ l. record { lt = tt }, λ l. omega arith)
    go false false p p' q q' =
        let i = p' tt in
        let j = q' tt in
        (λ l. record { lt = lt→ltb (2 ^ 64 - suc n) (2 ^ 64 - suc m) (omega arith) }, λ l. let o = ltb→lt (2 ^ 64 - suc n) (2 ^ 64 - suc m) l.lt in omega arith)
