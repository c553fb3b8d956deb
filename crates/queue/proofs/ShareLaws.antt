-- Shares of a list: one put in the place of another, which is then found there, and no other share has changed.
use Prim.Native.Nat.{ℕ, ◌+◌, ◌-◌, ◌*◌, ◌≤◌}
use native.Mathlib.Nat.{mul_comm}
use native.Mathlib.Omega.{arith}
use mathlib.Core.Path.{◌≡◌, sym, ap, ◌∙◌}
use mathlib.Core.List.{List, ◌++◌}
use lib.ListN.{length, take, drop, length-append, length-drop, take-append-drop}
use lib.Seq.{take-append-le, drop-append-le, take-append_seam, drop-append-add, length-take-le, drop-drop}
use Rattle.queue.specs.Shares.{share_of, with_share}

module _ {A : Type 0} (n a : ℕ) (l : List A) where
  -- a share put back where it was
  pub share_same : take a l ++ (take n (drop a l) ++ drop n (drop a l)) ≡ l
  share_same = ap (λ (r : List A). take a l ++ r) (take-append-drop n (drop a l)) ∙ take-append-drop a l

  pub share_length : a + n ≤ length l → length (take n (drop a l)) ≡ n
  share_length h = length-take-le n (drop a l) (omega (arith, length-drop a l))

  module _ (x : List A) (whole : length x ≡ n) (room : a + n ≤ length l) where
    front : length (take a l) ≡ a
    front = length-take-le a l (omega arith)

    pub share_kept : length (take a l ++ (x ++ drop n (drop a l))) ≡ length l
    share_kept =
        length-append (take a l) (x ++ drop n (drop a l))
        ∙ ap (λ (k : ℕ). length (take a l) + k) (length-append x (drop n (drop a l)))
        ∙ omega (arith, front, whole, length-drop n (drop a l), length-drop a l)

    -- what follows behind the first elements
    behind : (i : ℕ) → drop (a + i) (take a l ++ (x ++ drop n (drop a l))) ≡ drop i (x ++ drop n (drop a l))
    behind i =
        ap (λ (k : ℕ). drop (k + i) (take a l ++ (x ++ drop n (drop a l)))) (sym front)
        ∙ drop-append-add (take a l) (x ++ drop n (drop a l)) i

    pub share_own : take n (drop a (take a l ++ (x ++ drop n (drop a l)))) ≡ x
    share_own =
        let here : a ≡ a + 0 = omega arith in
        ap (λ (k : ℕ). take n (drop k (take a l ++ (x ++ drop n (drop a l))))) here
        ∙ ap (take n) (behind 0)
        ∙ ap (λ (k : ℕ). take k (x ++ drop n (drop a l))) (sym whole)
        ∙ take-append_seam x (drop n (drop a l))

    -- a share that ends before it
    pub share_before : (b : ℕ) → b + n ≤ a → take n (drop b (take a l ++ (x ++ drop n (drop a l)))) ≡ take n (drop b l)
    share_before b h =
        first (x ++ drop n (drop a l)) ∙ sym (first (drop a l)) ∙ ap (λ (r : List A). take n (drop b r)) (take-append-drop a l)
      where
        first : (r : List A) → take n (drop b (take a l ++ r)) ≡ take n (drop b (take a l))
        first r =
            ap (take n) (drop-append-le b (take a l) r (omega (arith, front)))
            ∙ take-append-le n (drop b (take a l)) r (omega (arith, front, length-drop b (take a l)))

    -- and one that begins behind it
    pub share_behind : (b : ℕ) → a + n ≤ b → take n (drop b (take a l ++ (x ++ drop n (drop a l)))) ≡ take n (drop b l)
    share_behind b h =
        let i : ℕ = b - a - n in
        let at : b ≡ a + (n + i) = omega arith in
        let last : drop (n + i) (x ++ drop n (drop a l)) ≡ drop i (drop n (drop a l)) =
        ap (λ (k : ℕ). drop (k + i) (x ++ drop n (drop a l))) (sym whole) ∙ drop-append-add x (drop n (drop a l)) i in
        let same : drop i (drop n (drop a l)) ≡ drop (a + (n + i)) l = drop-drop i n (drop a l) ∙ drop-drop (n + i) a l in
        ap (λ (k : ℕ). take n (drop k (take a l ++ (x ++ drop n (drop a l))))) at
        ∙ ap (take n) (behind (n + i) ∙ last ∙ same)
        ∙ ap (λ (k : ℕ). take n (drop k l)) (sym at)

-- a part that the code lends is a share
module _ {A : Type 0} (size : ℕ) (l : List A) (p : ℕ) where
  abbrev at : ℕ
  at = (p - 1) * size

  starts : at ≡ size * (p - 1)
  starts = mul_comm (p - 1) size

  ends : at + size - at ≡ size
  ends = omega arith

  pub share_is : take (at + size - at) (drop at l) ≡ share_of size l p
  share_is = ap (λ (k : ℕ). take k (drop at l)) ends ∙ ap (λ (k : ℕ). take size (drop k l)) starts

  -- and comes back changed in its place
  pub share_lent : (f : List A → List A) {x : List A} → x ≡ f (take (at + size - at) (drop at l)) → take at l ++ (x ++ drop (at + size - at) (drop at l)) ≡ with_share size l p (f (share_of size l p))
  share_lent f {x} h =
      ap (λ (y : List A). take at l ++ (y ++ drop (at + size - at) (drop at l))) (h ∙ ap f share_is)
      ∙ ap (λ (k : ℕ). take at l ++ (f (share_of size l p) ++ drop k (drop at l))) ends
      ∙ ap (λ (k : ℕ). take k l ++ (f (share_of size l p) ++ drop size (drop k l))) starts
