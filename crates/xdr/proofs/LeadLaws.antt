-- The bytes that lead a sequence, and the range of their first follower.
use Prim.Native.Nat.{ℕ, ◌≤◌}
use mathlib.Core.Path.{◌≡◌, refl}
use mathlib.Core.Logic.{◌⊎◌, inl, inr}
use mathlib.Core.Bool.{Bool, true, false, cond, ◌&&◌}
use native.Mathlib.Omega.{arith}
use native.Mathlib.Decide.{dec_le}
use borrow.Author.Tests.{le-leb, lt-leb, leb-true, eq-eqb, ne_eqb}
use lib.Dec.{leb, eqb}
use Rattle.xdr.specs.Text.{followers, lowest, highest, is_within}

pub both : (a b : Bool) → (a && b) ≡ true → (a ≡ true) × (b ≡ true)
both true b e = (refl, e)
both false b e = let z : ◌≡◌ {A = ℕ} 0 1 = cc in absurd (omega arith)

-- the ranges of a byte that leads

pub record Lead (b n low high : ℕ) : Type 0 where
  pub least : low ≤ b
  pub most : b ≤ high
  pub has : followers b ≡ n

pub lead_one : (b : ℕ) → b ≤ 127 → followers b ≡ 0
lead_one b h = rw (le-leb b 127 h) refl

pub lead_two : (b : ℕ) → 194 ≤ b → b ≤ 223 → followers b ≡ 1
lead_two b g h = rw (lt-leb b 127 (omega arith), lt-leb b 193 (omega arith), le-leb b 223 h) refl

pub lead_three : (b : ℕ) → 224 ≤ b → b ≤ 239 → followers b ≡ 2
lead_three b g h = rw (lt-leb b 127 (omega arith), lt-leb b 193 (omega arith), lt-leb b 223 (omega arith), le-leb b 239 h) refl

pub lead_four : (b : ℕ) → 240 ≤ b → b ≤ 244 → followers b ≡ 3
lead_four b g h = rw (lt-leb b 127 (omega arith), lt-leb b 193 (omega arith), lt-leb b 223 (omega arith), lt-leb b 239 (omega arith), le-leb b 244 h) refl

lead_none : (b : ℕ) → ((128 ≤ b) × (b ≤ 193)) ⊎ (245 ≤ b) → followers b ≡ 4
lead_none b (inl g) = rw (lt-leb b 127 (omega (arith, g.0)), le-leb b 193 g.1) refl
lead_none b (inr g) = rw (lt-leb b 127 (omega arith), lt-leb b 193 (omega arith), lt-leb b 223 (omega arith), lt-leb b 239 (omega arith), lt-leb b 244 (omega arith)) refl

pub leads : (b : ℕ) → Lead b 0 0 127 ⊎ (Lead b 1 194 223 ⊎ (Lead b 2 224 239 ⊎ (Lead b 3 240 244 ⊎ (followers b ≡ 4))))
leads b = go (dec_le b 127) (dec_le b 193) (dec_le b 223) (dec_le b 239) (dec_le b 244)
  where
    go : Dec (b ≤ 127) → Dec (b ≤ 193) → Dec (b ≤ 223) → Dec (b ≤ 239) → Dec (b ≤ 244) → Lead b 0 0 127 ⊎ (Lead b 1 194 223 ⊎ (Lead b 2 224 239 ⊎ (Lead b 3 240 244 ⊎ (followers b ≡ 4))))
    go (yes p) q r s t = inl (record { least = omega arith; most = p; has = lead_one b p })
    go (no p) (yes q) r s t = inr (inr (inr (inr (lead_none b (inl (omega arith, q))))))
    go (no p) (no q) (yes r) s t = inr (inl (record { least = omega arith; most = r; has = lead_two b (omega arith) r }))
    go (no p) (no q) (no r) (yes s) t = inr (inr (inl (record { least = omega arith; most = s; has = lead_three b (omega arith) s })))
    go (no p) (no q) (no r) (no s) (yes t) = inr (inr (inr (inl (record { least = omega arith; most = t; has = lead_four b (omega arith) t }))))
    go (no p) (no q) (no r) (no s) (no t) = inr (inr (inr (inr (lead_none b (inr (omega arith))))))

-- the range of its first follower

pub lowest_of_lem : (b : ℕ) → (128 ≤ lowest b) × (lowest b ≤ 160)
lowest_of_lem b = go (eqb b 224) (eqb b 240)
  where
    go : (p q : Bool) → (128 ≤ cond p 160 (cond q 144 128)) × (cond p 160 (cond q 144 128) ≤ 160)
    go true q = (omega arith, omega arith)
    go false true = (omega arith, omega arith)
    go false false = (omega arith, omega arith)

pub highest_of_lem : (b : ℕ) → (143 ≤ highest b) × (highest b ≤ 191)
highest_of_lem b = go (eqb b 237) (eqb b 244)
  where
    go : (p q : Bool) → (143 ≤ cond p 159 (cond q 143 191)) × (cond p 159 (cond q 143 191) ≤ 191)
    go true q = (omega arith, omega arith)
    go false true = (omega arith, omega arith)
    go false false = (omega arith, omega arith)

pub lowest_224 : (b : ℕ) → b ≡ 224 → lowest b ≡ 160
lowest_224 b e = rw (eq-eqb b 224 e) refl

pub lowest_240 : (b : ℕ) → b ≡ 240 → lowest b ≡ 144
lowest_240 b e = rw (ne_eqb b 224 (λ z. omega arith), eq-eqb b 240 e) refl

pub lowest_else : (b : ℕ) → (b ≡ 224 → ⊥) → (b ≡ 240 → ⊥) → lowest b ≡ 128
lowest_else b p q = rw (ne_eqb b 224 p, ne_eqb b 240 q) refl

pub highest_237 : (b : ℕ) → b ≡ 237 → highest b ≡ 159
highest_237 b e = rw (eq-eqb b 237 e) refl

pub highest_244 : (b : ℕ) → b ≡ 244 → highest b ≡ 143
highest_244 b e = rw (ne_eqb b 237 (λ z. omega arith), eq-eqb b 244 e) refl

pub highest_else : (b : ℕ) → (b ≡ 237 → ⊥) → (b ≡ 244 → ⊥) → highest b ≡ 191
highest_else b p q = rw (ne_eqb b 237 p, ne_eqb b 244 q) refl

pub within_is : (low high x : ℕ) → is_within low high x ≡ true → (low ≤ x) × (x ≤ high)
within_is low high x e = let p = both (leb low x) (leb x high) e in (leb-true low x p.0, leb-true x high p.1)

pub is_within_lem : (low high x : ℕ) → low ≤ x → x ≤ high → is_within low high x ≡ true
is_within_lem low high x p q = rw (le-leb low x p, le-leb x high q) refl

-- leads after which no range is narrowed

-- followers that may be any of 80 to BF
pub record Loose (b n : ℕ) : Type 0 where
  pub has : followers b ≡ n
  pub low : lowest b ≡ 128
  pub high : highest b ≡ 191

loose : (b n : ℕ) → followers b ≡ n → (b ≡ 224 → ⊥) → (b ≡ 240 → ⊥) → (b ≡ 237 → ⊥) → (b ≡ 244 → ⊥) → Loose b n
loose b n e p q r t = record { has = e; low = lowest_else b p q; high = highest_else b r t }

pub loose_two : (b : ℕ) → is_within 194 223 b ≡ true → Loose b 1
loose_two b e = let w = within_is 194 223 b e in loose b 1 (lead_two b w.0 w.1) (λ z. omega (arith, w.1)) (λ z. omega (arith, w.1)) (λ z. omega (arith, w.1)) (λ z. omega (arith, w.1))

pub loose_three : (b : ℕ) → is_within 225 236 b ≡ true → Loose b 2
loose_three b e =
    let w = within_is 225 236 b e in
    loose b 2 (lead_three b (omega (arith, w.0)) (omega (arith, w.1))) (λ z. omega (arith, w.0)) (λ z. omega (arith, w.1)) (λ z. omega (arith, w.1)) (λ z. omega (arith, w.1))

-- a lead with one follower is one of them
pub loose_one : (b : ℕ) → followers b ≡ 1 → Loose b 1
loose_one b e = go (leads b)
  where
    go : Lead b 0 0 127 ⊎ (Lead b 1 194 223 ⊎ (Lead b 2 224 239 ⊎ (Lead b 3 240 244 ⊎ (followers b ≡ 4)))) → Loose b 1
    go (inl l) = let h = l.has in absurd (omega arith)
    go (inr (inl l)) = loose_two b (is_within_lem 194 223 b l.least l.most)
    go (inr (inr (inl l))) = let h = l.has in absurd (omega arith)
    go (inr (inr (inr (inl l)))) = let h = l.has in absurd (omega arith)
    go (inr (inr (inr (inr h)))) = absurd (omega arith)
