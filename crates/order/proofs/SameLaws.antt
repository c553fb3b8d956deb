-- Bytes that are the same: by a loop that looks at all of them, and in front of others.
use Prim.Native.Nat.{ℕ, ◌+◌, ◌≤◌, ◌<◌}
use mathlib.Core.List.{List, [], ◌∷◌, ◌++◌}
use mathlib.Core.Path.{◌≡◌, refl, sym, ap, subst, ◌∙◌}
use mathlib.Core.Logic.{◌⊎◌, inl, inr}
use mathlib.Core.Bool.{Bool, true, false}
use native.Mathlib.Omega.{arith}
use native.Mathlib.Decide.{dec_lt}
use lib.ListN.{length, get_or, take, drop, take-append-drop}
use lib.Seq.{ext_get_or, drop-drop}
use Rattle.order.specs.Order.{is_equal, or_else, compare_lists}
use Rattle.std.specs.declared.cmp.Ordering.{Ordering}
use Rattle.std.specs.declared.cmp.Ordering.TheVariants.{Less, Equal, Greater}
use Rattle.order.proofs.OrderLaws.{equal_same, same_equal, number_same, heads}

pub differ : (a b : List ℕ) → (a ≡ b → ⊥) → false ≡ is_equal (compare_lists a b)
differ a b h = go (compare_lists a b) refl
  where
    go : (o : Ordering) → compare_lists a b ≡ o → false ≡ is_equal o
    go Less e = refl
    go Equal e = absurd (h (equal_same a b e))
    go Greater e = refl

pub is_same_lem : (a b : List ℕ) → is_equal (compare_lists a b) ≡ true → a ≡ b
is_same_lem a b h = go (compare_lists a b) refl h
  where
    go : (o : Ordering) → compare_lists a b ≡ o → is_equal o ≡ true → a ≡ b
    go Less e f = cc
    go Equal e f = equal_same a b e
    go Greater e f = cc

-- `same` tells whether the first i bytes are alike
pub record Alike (a b : List ℕ) (i : ℕ) (same : Bool) : Type 0 where
  pub so_far : same ≡ true → (m : ℕ) → m < i → get_or a m 0 ≡ get_or b m 0
  pub not_so : same ≡ false → a ≡ b → ⊥

pub alike_starts : (a b : List ℕ) → Alike a b 0 true
alike_starts a b = record { so_far = λ e m h. absurd (omega arith); not_so = λ e. cc }

pub alike_turn : {a b : List ℕ} {i : ℕ} {same t : Bool} → Alike a b i same → ((get_or a i 0 ≡ get_or b i 0 → ⊥) × (t ≡ false)) ⊎ ((get_or a i 0 ≡ get_or b i 0) × (t ≡ same)) → Alike a b (i + 1) t
alike_turn {a} {b} {i} {same} {t} w (inl p) =
    record {
      so_far = λ e. cc (sym e ∙ p.1);
      not_so = λ e q. p.0 (ap (λ (l : List ℕ). get_or l i 0) q);
    }
alike_turn {a} {b} {i} {same} {t} w (inr p) =
    record {
      so_far = λ e m h. go m h (dec_lt m i) (λ l. w.so_far (sym p.1 ∙ e) m l);
      not_so = λ e. w.not_so (sym p.1 ∙ e);
    }
  where
    go : (m : ℕ) → m < i + 1 → Dec (m < i) → (m < i → get_or a m 0 ≡ get_or b m 0) → get_or a m 0 ≡ get_or b m 0
    go m h (yes l) before = before l
    go m h (no l) before = let e : i ≡ m = omega arith in subst (λ (n : ℕ). get_or a n 0 ≡ get_or b n 0) e p.0

pub alike_ends : {a b : List ℕ} {i : ℕ} {same : Bool} → Alike a b i same → length a ≤ i → length a ≡ length b → same ≡ is_equal (compare_lists a b)
alike_ends {a} {b} {i} {same} w h p = go same refl
  where
    go : (t : Bool) → same ≡ t → t ≡ is_equal (compare_lists a b)
    go true e =
        let all : a ≡ b = ext_get_or 0 a b p (λ m l. w.so_far e m (omega arith)) in
        subst (λ (l : List ℕ). true ≡ is_equal (compare_lists a l)) all (sym (ap is_equal (same_equal a)))
    go false e = differ a b (w.not_so e)

-- what comes after the same bytes decides
after_same : (p a b : List ℕ) → compare_lists (p ++ a) (p ++ b) ≡ compare_lists a b
after_same [] a b = refl
after_same (x ∷ p) a b = heads x x (p ++ a) (p ++ b) ∙ ap (λ (o : Ordering). or_else o (compare_lists (p ++ a) (p ++ b))) (number_same x x refl) ∙ after_same p a b

pub past_same : (a b : List ℕ) (i k : ℕ) → take k (drop i a) ≡ take k (drop i b) → compare_lists (drop i a) (drop i b) ≡ compare_lists (drop (i + k) a) (drop (i + k) b)
past_same a b i k e =
    let p = take k (drop i a) in
    ap (λ (l : List ℕ). compare_lists l (drop i b)) (sym (take-append-drop k (drop i a)))
    ∙ ap (compare_lists (p ++ drop k (drop i a))) (sym (take-append-drop k (drop i b)) ∙ ap (λ (q : List ℕ). q ++ drop k (drop i b)) (sym e))
    ∙ after_same p (drop k (drop i a)) (drop k (drop i b))
    ∙ ap (λ (l : List ℕ). compare_lists l (drop k (drop i b))) (drop-drop k i a)
    ∙ ap (compare_lists (drop (i + k) a)) (drop-drop k i b)
