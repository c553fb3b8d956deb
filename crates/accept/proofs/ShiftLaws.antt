-- Places that move up by one, from the back, until a slot is free.
use Prim.Native.Nat.{ℕ, suc, ◌+◌, ◌-◌, ◌≤◌, ◌<◌}
use mathlib.Core.List.{List, [], ◌∷◌, ◌++◌}
use mathlib.Core.Path.{◌≡◌, sym, ap, ◌∙◌}
use native.Mathlib.Omega.{arith}
use native.Mathlib.Numerals.{add-one}
use lib.ListN.{length, take, drop, get_or, set, length-append, length-drop, get_or-append}
use lib.Seq.{take-suc, take_at, take-append-le, drop-append-le, drop-cons, append_snoc, take-set-lt, take-suc-set, set-append_left, get_or-take, length-take-le}

-- those behind place k have moved up
pub record Shifted (l m : List ℕ) (k : ℕ) : Type 0 where
  pub is : m ≡ take (suc k) l ++ take (length l - 1 - k) (drop k l)
  pub inside : k < length l

put_front : (l m : List ℕ) (k a : ℕ) → k < length l → set (take (suc k) l ++ m) k a ≡ take k l ++ (a ∷ m)
put_front l m k a h =
    let long : length (take (suc k) l) ≡ suc k = length-take-le (suc k) l (omega arith) in
    set-append_left (take (suc k) l) m k a (omega arith)
    ∙ ap (λ (x : List ℕ). x ++ m) (sym (take-set-lt (suc k) l k a (omega arith)) ∙ take-suc-set l k a h)
    ∙ append_snoc (take k l) a m

module _ {l m : List ℕ} {k : ℕ} (s : Shifted l m k) where
  pub shifted_more : 0 < k → Shifted l (set m k (get_or m (k - 1) 0)) (k - 1)
  shifted_more h =
      let long : length (take (suc k) l) ≡ suc k = length-take-le (suc k) l (omega (arith, s.inside)) in
      let left : length l - 1 - (k - 1) ≡ suc (length l - 1 - k) = omega (arith, s.inside) in
      let there : get_or m (k - 1) 0 ≡ get_or l (k - 1) 0 =
      ap (λ (x : List ℕ). get_or x (k - 1) 0) s.is ∙ get_or-append (take (suc k) l) (take (length l - 1 - k) (drop k l)) 0 (k - 1) (omega arith) ∙ get_or-take (suc k) l (k - 1) 0 (omega arith) in
      let same : suc (k - 1) ≡ k = omega arith in
      let behind : drop (k - 1) l ≡ get_or l (k - 1) 0 ∷ drop k l = drop-cons l (k - 1) 0 (omega (arith, s.inside)) ∙ ap (λ (i : ℕ). get_or l (k - 1) 0 ∷ drop i l) same in
      record {
        is =
            ap (λ (x : List ℕ). set x k (get_or m (k - 1) 0)) s.is
            ∙ put_front l (take (length l - 1 - k) (drop k l)) k (get_or m (k - 1) 0) s.inside
            ∙ ap (λ (a : ℕ). take k l ++ (a ∷ take (length l - 1 - k) (drop k l))) there
            ∙ sym (ap (λ (i : ℕ). take i l ++ take (length l - 1 - (k - 1)) (drop (k - 1) l)) same
            ∙ ap (λ (n : ℕ). take k l ++ take n (drop (k - 1) l)) left ∙ ap (λ (x : List ℕ). take k l ++ take (suc (length l - 1 - k)) x) behind);
        inside = omega (arith, s.inside);
      }

  pub shifted_put : {j : ℕ} (a : ℕ) → j ≡ k → set m j a ≡ take j l ++ (a ∷ take (length l - 1 - j) (drop j l))
  shifted_put a e = rw e (ap (λ (x : List ℕ). set x k a) s.is ∙ put_front l (take (length l - 1 - k) (drop k l)) k a s.inside)

-- a place put into a slot among the first n, in a part that has one more
module _ (p : List ℕ) (n j at : ℕ) (e ys : List ℕ) (h : n < length p) (k : j ≤ n) (part : e ≡ take (n + 1) p) (put : ys ≡ take j e ++ (at ∷ take (length e - 1 - j) (drop j e))) where
  abbrev q : List ℕ
  q = take n p

  long : length q ≡ n
  long = length-take-le n p (omega arith)

  split : e ≡ q ++ get_or p n 0 ∷ []
  split = part ∙ ap (λ (m : ℕ). take m p) (add-one n) ∙ take-suc p n 0 h

  part_long : length e ≡ n + 1
  part_long = ap length split ∙ length-append q (get_or p n 0 ∷ []) ∙ ap (λ (m : ℕ). m + 1) long

  front : take j e ≡ take j q
  front = ap (take j) split ∙ take-append-le j q (get_or p n 0 ∷ []) (omega (arith, long))

  back : take (length e - 1 - j) (drop j e) ≡ drop j q
  back =
      let m : length (drop j q) ≡ length e - 1 - j = length-drop j q ∙ omega (arith, long, part_long) in
      ap (λ (l : List ℕ). take (length e - 1 - j) (drop j l)) split
      ∙ ap (take (length e - 1 - j)) (drop-append-le j q (get_or p n 0 ∷ []) (omega (arith, long)))
      ∙ take_at (drop j q) (get_or p n 0 ∷ []) (length e - 1 - j) m

  inserted_is : ys ≡ take j q ++ (at ∷ drop j q)
  inserted_is = put ∙ ap (λ (l : List ℕ). l ++ (at ∷ take (length e - 1 - j) (drop j e))) front ∙ ap (λ (l : List ℕ). take j q ++ (at ∷ l)) back

  pub inserted_long : length ys ≡ n + 1
  inserted_long =
      let a : length (take j q) ≡ j = length-take-le j q (omega (arith, long)) in
      let b : length (drop j q) ≡ n - j = length-drop j q ∙ ap (λ (m : ℕ). m - j) long in
      ap length inserted_is ∙ length-append (take j q) (at ∷ drop j q) ∙ omega arith

  pub inserted : (tail : List ℕ) → take (n + 1) (ys ++ tail) ≡ take j q ++ (at ∷ drop j q)
  inserted tail = take_at ys tail (n + 1) inserted_long ∙ inserted_is
