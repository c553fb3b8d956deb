-- The steps by which a name's bytes are gone through, part by part.
use Rattle.std.proofs.Common.{◌≡◌, ℕ, suc, ◌+◌, ◌-◌, ◌<◌, ◌≤◌, Bool, true, false, not, ◌&&◌, eqb, List, [], ◌∷◌, ◌++◌, length, get_or, take, drop, sym, refl, ap, ◌∙◌, true≢false, add-one, arith, length-drop, drop_of_length-le, get_or-drop, drop-cons, take-suc, eq-eqb, ne_eqb, eqb-true}
use mathlib.Core.Bool.{and_assoc, and-true, and-false}
use borrow.Author.Tests.{not-true, eqb-false}
use Rattle.xdr.proofs.LeadLaws.{both}
use Rattle.order.specs.Order.{is_equal, compare_lists, part}
use Rattle.std.specs.declared.cmp.Ordering.{Ordering}
use Rattle.std.specs.declared.cmp.Ordering.TheVariants.{Less, Equal, Greater}
use Rattle.order.proofs.OrderLaws.{same_equal, equal_same}
use Rattle.record.specs.Name.{parts_from, dot, dots, is_exactly, is_part, are_parts, lacks, is_path}

-- a part that is exactly another

is_exactly_lem : (q : List ℕ) → is_exactly q q ≡ true
is_exactly_lem q = ap is_equal (same_equal q)

exactly_is : (q p : List ℕ) → is_exactly q p ≡ true → p ≡ q
exactly_is q p e = equal_same p q (go (compare_lists p q) e)
  where
    go : (o : Ordering) → is_equal o ≡ true → o ≡ Equal
    go Less h = absurd (true≢false (sym h))
    go Equal h = refl
    go Greater h = absurd (true≢false (sym h))

pub not_exactly : (q p : List ℕ) → (p ≡ q → ⊥) → is_exactly q p ≡ false
not_exactly q p n = go (is_exactly q p) refl
  where
    go : (b : Bool) → is_exactly q p ≡ b → b ≡ false
    go true e = absurd (n (exactly_is q p e))
    go false e = refl

-- a part leads down exactly if it is none of three

pub leads_down : (p : List ℕ) → (p ≡ [] → ⊥) → (p ≡ dot → ⊥) → (p ≡ dots → ⊥) → is_part p ≡ true
leads_down p e d u = rw (not_exactly [] p e, not_exactly dot p d, not_exactly dots p u) refl

other_than : (q p : List ℕ) → not (is_exactly q p) ≡ true → p ≡ q → ⊥
other_than q p n e = true≢false (sym (ap (is_exactly q) e ∙ is_exactly_lem q) ∙ not-true (is_exactly q p) n)

pub none_of : (p : List ℕ) → is_part p ≡ true → (p ≡ [] → ⊥) × (p ≡ dot → ⊥) × (p ≡ dots → ⊥)
none_of p t =
    let q = both (not (is_exactly [] p) && not (is_exactly dot p)) (not (is_exactly dots p)) t in
    let r = both (not (is_exactly [] p)) (not (is_exactly dot p)) q.0 in
    (other_than [] p r.0, other_than dot p r.1, other_than dots p q.1)

not_part : (p : List ℕ) → (is_part p ≡ true → ⊥) → is_part p ≡ false
not_part p n = go (is_part p) refl
  where
    go : (b : Bool) → is_part p ≡ b → b ≡ false
    go true e = absurd (n e)
    go false e = refl

-- by its length and its first bytes

pub empty_part : (p : List ℕ) → length p ≡ 0 → is_part p ≡ false
empty_part [] h = not_part [] (λ t. (none_of [] t).0 refl)
empty_part (a ∷ p) h = absurd (omega arith)

pub long_part : (p : List ℕ) → 2 < length p → is_part p ≡ true
long_part p h = leads_down p (λ e. omega (arith, ap length e)) (λ e. omega (arith, ap length e)) (λ e. omega (arith, ap length e))

first_byte : (p q : List ℕ) → p ≡ q → get_or p 0 0 ≡ get_or q 0 0
first_byte p q e = ap (λ (l : List ℕ). get_or l 0 0) e

pub plain_part : (p : List ℕ) → 0 < length p → (get_or p 0 0 ≡ 46 → ⊥) → is_part p ≡ true
plain_part p h n = leads_down p (λ e. omega (arith, ap length e)) (λ e. n (first_byte p dot e)) (λ e. n (first_byte p dots e))

pub one_byte : (p : List ℕ) → length p ≡ 1 → is_part p ≡ not (eqb (get_or p 0 0) 46)
one_byte [] h = absurd (omega arith)
one_byte (a ∷ []) h = go (eqb a 46) refl
  where
    go : (t : Bool) → eqb a 46 ≡ t → is_part (a ∷ []) ≡ not t
    go true f = not_part (a ∷ []) (λ t. (none_of (a ∷ []) t).1 (ap (λ (x : ℕ). x ∷ []) (eqb-true a 46 f)))
    go false f = plain_part (a ∷ []) (omega arith) (eqb-false a 46 f)
one_byte (a ∷ b ∷ p) h = absurd (omega arith)

pub two_bytes : (p : List ℕ) → length p ≡ 2 → get_or p 0 0 ≡ 46 → is_part p ≡ not (eqb (get_or p 1 0) 46)
two_bytes [] h e = absurd (omega arith)
two_bytes (a ∷ []) h e = absurd (omega arith)
two_bytes (a ∷ b ∷ []) h e = go (eqb b 46) refl
  where
    go : (t : Bool) → eqb b 46 ≡ t → is_part (a ∷ b ∷ []) ≡ not t
    go true f = let second : b ≡ 46 = eqb-true b 46 f in not_part (a ∷ b ∷ []) (λ t. (none_of (a ∷ b ∷ []) t).2 (cc))
    go false f =
        leads_down (a ∷ b ∷ []) (λ x. omega (arith, ap length x)) (λ x. omega (arith, ap length x))
        (λ x. eqb-false b 46 f (ap (λ (l : List ℕ). get_or l 1 0) x))
two_bytes (a ∷ b ∷ c ∷ p) h e = absurd (omega arith)

-- what is left to ask of a name, where a part has begun
abbrev pub path_from : (begun rest : List ℕ) → Bool
path_from p l = are_parts (parts_from p l) && lacks 0 l

from_zero : (p : List ℕ) (b : ℕ) (l : List ℕ) → b ≡ 0 → path_from p (b ∷ l) ≡ false
from_zero p b l e = rw (eq-eqb b 0 e) (and-false (are_parts (parts_from p (b ∷ l))))

pub from_slash : (p : List ℕ) (b : ℕ) (l : List ℕ) → b ≡ 47 → path_from p (b ∷ l) ≡ is_part p && path_from [] l
from_slash p b l e = rw (eq-eqb b 47 e, ne_eqb b 0 (λ z. omega arith)) (and_assoc (is_part p) (are_parts (parts_from [] l)) (lacks 0 l))

pub from_other : (p : List ℕ) (b : ℕ) (l : List ℕ) → (b ≡ 47 → ⊥) → (b ≡ 0 → ⊥) → path_from p (b ∷ l) ≡ path_from (p ++ (b ∷ [])) l
from_other p b l n m = rw (ne_eqb b 47 n, ne_eqb b 0 m) refl

-- the bytes of a name are gone through up to i, where the part that began at start goes on, and what is asked of the whole is what is left to ask
pub record Gone (s : List ℕ) (start i : ℕ) : Type 0 where
  pub ordered : start ≤ i
  pub inside : i ≤ length s
  pub left : is_path s ≡ path_from (part s start i) (drop i s)

pub gone_none : (s : List ℕ) → Gone s 0 0
unfolding is_path
gone_none s = record { ordered = omega arith; inside = omega arith; left = refl }

module _ {s : List ℕ} {start i : ℕ} (g : Gone s start i) (h : i < length s) where
  next_byte : is_path s ≡ path_from (part s start i) (get_or s i 0 ∷ drop (i + 1) s)
  next_byte = g.left ∙ ap (path_from (part s start i)) (drop-cons s i 0 h ∙ ap (λ (k : ℕ). get_or s i 0 ∷ drop k s) (sym (add-one i)))

  pub gone_zero : get_or s i 0 ≡ 0 → is_path s ≡ false
  gone_zero e = next_byte ∙ from_zero (part s start i) (get_or s i 0) (drop (i + 1) s) e

  to_part : get_or s i 0 ≡ 47 → is_path s ≡ is_part (part s start i) && path_from [] (drop (i + 1) s)
  to_part e = next_byte ∙ from_slash (part s start i) (get_or s i 0) (drop (i + 1) s) e

  pub gone_broken : get_or s i 0 ≡ 47 → is_part (part s start i) ≡ false → is_path s ≡ false
  gone_broken e p = to_part e ∙ rw p refl

  pub gone_part : {k : ℕ} → get_or s i 0 ≡ 47 → is_part (part s start i) ≡ true → k ≡ i + 1 → Gone s k (i + 1)
  gone_part {k} e p n =
      let none : i + 1 - k ≡ 0 = omega arith in
      record { ordered = omega arith; inside = omega arith; left = rw none (to_part e ∙ rw p refl) }

  part_more : part s start i ++ (get_or s i 0 ∷ []) ≡ part s start (i + 1)
  part_more =
      let from : start ≤ i = g.ordered in
      let at : start + (i - start) ≡ i = omega arith in
      let more : i + 1 - start ≡ suc (i - start) = omega arith in
      sym (ap (λ (k : ℕ). take k (drop start s)) more
      ∙ take-suc (drop start s) (i - start) 0 (simp length-drop (omega arith))
      ∙ ap (λ (b : ℕ). part s start i ++ (b ∷ [])) (get_or-drop start s (i - start) 0 ∙ ap (λ (k : ℕ). get_or s k 0) at))

  pub gone_byte : {k : ℕ} → (get_or s i 0 ≡ 47 → ⊥) → (get_or s i 0 ≡ 0 → ⊥) → k ≡ start → Gone s k (i + 1)
  gone_byte {k} n m e =
      record {
        ordered = omega (arith, g.ordered);
        inside = omega arith;
        left =
            next_byte
            ∙ from_other (part s start i) (get_or s i 0) (drop (i + 1) s) n m
            ∙ ap (λ (p : List ℕ). path_from p (drop (i + 1) s)) (part_more ∙ ap (λ (j : ℕ). part s j (i + 1)) (sym e));
      }

pub gone_all : {s : List ℕ} {start i : ℕ} → Gone s start i → length s ≤ i → is_path s ≡ is_part (part s start (length s))
gone_all {s} {start} {i} g h =
    let all : i ≡ length s = omega (arith, g.inside) in
    g.left
    ∙ ap (path_from (part s start i)) (drop_of_length-le s h)
    ∙ and-true (is_part (part s start i) && true)
    ∙ and-true (is_part (part s start i))
    ∙ ap (λ (j : ℕ). is_part (part s start j)) all
