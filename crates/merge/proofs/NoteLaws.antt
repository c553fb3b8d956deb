-- Notes of records: how one is put among them, and what is put of them.
use Rattle.std.specs.Prelude.{Some, None}
use Rattle.std.specs.declared.option.Option.{Option}
use Prim.Native.Nat.{ℕ, zero, suc, ◌+◌, ◌-◌, ◌≤◌, ◌<◌}
use mathlib.Core.List.{List, [], ◌∷◌, ◌++◌, append_assoc, append-nil}
use mathlib.Core.Path.{◌≡◌, refl, sym, ap, subst, ◌∙◌}
use mathlib.Core.Logic.{◌⊎◌, inl, inr, ⊎_elim}
use mathlib.Core.Bool.{Bool, true, false, cond, ◌&&◌}
use native.Mathlib.Omega.{arith}
use native.Mathlib.Numerals.{add-one}
use borrow.Author.Tests.{le-leb, lt-leb, leb-true, leb-false, ltb-true, eqb-true}
use lib.ListN.{length, take, drop, set, length-append}
use lib.Seq.{drop-drop, sets-eq, take-add}
use lib.Dec.{leb, ltb, eqb}
use Rattle.xdr.specs.Buffer.{over, put, put_count, Puts}
use Rattle.xdr.proofs.BufferLaws.{over_over, length_over}
use Rattle.order.specs.Order.{part}
use Rattle.merge.specs.Steps.Notes.{noted, noted_all, joined_of}
use Rattle.record.proofs.RisingLaws.{both_true}

-- two stores where there is room for them
pub pair_put : (l : List ℕ) (at x y : ℕ) → at + 2 ≤ length l → (2 ≡ put_count l at (x ∷ y ∷ [])) × (set (set l at x) (at + 1) y ≡ put l at (x ∷ y ∷ []))
pair_put l at x y h = (
  simp (le-leb (at + 2) (length l) h),
  ap (λ (k : ℕ). set (set l at x) k y) (add-one at)
      ∙ sets-eq (x ∷ y ∷ []) l at h
      ∙ append_assoc (take at l) (x ∷ y ∷ []) (drop (at + 2) l)
      ∙ ap (λ (r : List ℕ). take at l ++ (x ∷ y ∷ r)) (sym (drop-drop 2 at l))
      ∙ simp (le-leb (at + 2) (length l) h),
)

pub noted_by : (a b : List ℕ) (x y : ℕ) {t : Bool} → leb x y ≡ t → cond t (part a x y) (part b y x) ≡ noted a b x y
noted_by a b x y e = ap (λ (u : Bool). cond u (part a x y) (part b y x)) (sym e)

-- a place goes on by what is put there, and not past the buffer
pub put_within : (out : List ℕ) (at : ℕ) (l : List ℕ) (m : ℕ) {n : ℕ} → at ≤ m → length out ≤ m → n ≡ put_count out at l → at + n ≤ m
put_within out at l m {n} h r e = go (leb (at + length l) (length out)) refl e
  where
    go : (t : Bool) → leb (at + length l) (length out) ≡ t → n ≡ cond t (length l) 0 → at + n ≤ m
    go true f e = omega (arith, leb-true (at + length l) (length out) f)
    go false f e = omega arith

pub put_length : (out : List ℕ) (at : ℕ) (l : List ℕ) → length (put out at l) ≡ length out
put_length out at l = go (leb (at + length l) (length out)) refl
  where
    go : (t : Bool) → leb (at + length l) (length out) ≡ t → length (cond t (over out at l) out) ≡ length out
    go true f = length_over out at l (leb-true (at + length l) (length out) f)
    go false f = refl

-- where there is room
pub put_fits : (out : List ℕ) (at : ℕ) (l : List ℕ) → at + length l ≤ length out → put out at l ≡ over out at l
put_fits out at l h = simp (le-leb (at + length l) (length out) h)

pub count_fits : (out : List ℕ) (at : ℕ) (l : List ℕ) → at + length l ≤ length out → put_count out at l ≡ length l
count_fits out at l h = simp (le-leb (at + length l) (length out) h)

-- parts of one table that stand together are one
part_join : (s : List ℕ) (x y z : ℕ) → x ≤ y → y ≤ z → part s x z ≡ part s x y ++ part s y z
part_join s x y z h k =
    let sum : z - x ≡ (y - x) + (z - y) = omega arith in
    let place : x + (y - x) ≡ y = omega arith in
    ap (λ (n : ℕ). take n (drop x s)) sum
    ∙ take-add (y - x) (z - y) (drop x s)
    ∙ ap (λ (l : List ℕ). part s x y ++ take (z - y) l) (drop-drop (y - x) x s ∙ ap (λ (n : ℕ). drop n s) place)

-- two notes are joined of the first table or of the second
record JoinedLeft (x y u v p q : ℕ) : Type 0 where
  low : x ≤ y
  high : y ≤ v
  next : u ≡ y
  first : p ≡ x
  last : q ≡ v

record JoinedRight (x y u v p q : ℕ) : Type 0 where
  low : y < x
  high : x < u
  next : v ≡ x
  first : p ≡ u
  last : q ≡ y

joined_by : (x y u v : ℕ) {p q : ℕ} → joined_of x y u v ≡ Some (p, q) → JoinedLeft x y u v p q ⊎ JoinedRight x y u v p q
joined_by x y u v {p} {q} e = go (leb x y) refl e
  where
    left : leb x y ≡ true → (t : Bool) → (eqb u y && leb u v) ≡ t → cond {A = Option (ℕ × ℕ)} t (Some (x, v)) None ≡ Some (p, q) → JoinedLeft x y u v p q
    left h true f g =
        let w = both_true (eqb u y) (leb u v) f in
        let same = eqb-true u y w.0 in
        let both : ◌≡◌ {A = ℕ × ℕ} (p, q) (x, v) = cc in
        record { low = leb-true x y h; high = omega (arith, same, leb-true u v w.1); next = same; first = ap (λ (z : ℕ × ℕ). z.0) both; last = ap (λ (z : ℕ × ℕ). z.1) both }
    left h false f g = cc

    right : leb x y ≡ false → (t : Bool) → (eqb v x && ltb v u) ≡ t → cond {A = Option (ℕ × ℕ)} t (Some (u, y)) None ≡ Some (p, q) → JoinedRight x y u v p q
    right h true f g =
        let w = both_true (eqb v x) (ltb v u) f in
        let same = eqb-true v x w.0 in
        let both : ◌≡◌ {A = ℕ × ℕ} (p, q) (u, y) = cc in
        record { low = leb-false x y h; high = omega (arith, same, ltb-true v u w.1); next = same; first = ap (λ (z : ℕ × ℕ). z.0) both; last = ap (λ (z : ℕ × ℕ). z.1) both }
    right h false f g = cc

    go : (t : Bool) → leb x y ≡ t → cond {A = Option (ℕ × ℕ)} t (cond (eqb u y && leb u v) (Some (x, v)) None) (cond (eqb v x && ltb v u) (Some (u, y)) None) ≡ Some (p, q)
        → JoinedLeft x y u v p q ⊎ JoinedRight x y u v p q
    go true h f = inl (left h (eqb u y && leb u v) refl f)
    go false h f = inr (right h (eqb v x && ltb v u) refl f)

module _ (a b : List ℕ) where
  noted_left : {x y : ℕ} → x ≤ y → noted a b x y ≡ part a x y
  noted_left {x} {y} h = sym (noted_by a b x y (le-leb x y h))

  noted_right : {x y : ℕ} → y < x → noted a b x y ≡ part b y x
  noted_right {x} {y} h = sym (noted_by a b x y (lt-leb x y h))

  -- their bytes stand together
  pub joined_noted : (x y u v : ℕ) {p q : ℕ} → joined_of x y u v ≡ Some (p, q) → noted a b p q ≡ noted a b x y ++ noted a b u v
  joined_noted x y u v {p} {q} e = ⊎_elim left right (joined_by x y u v e)
    where
      left : JoinedLeft x y u v p q → noted a b p q ≡ noted a b x y ++ noted a b u v
      left j = noted_left {x = p} {y = q} (omega (arith, j.low, j.high, j.first, j.last))
          ∙ ap (λ (i : ℕ). part a i q) j.first
          ∙ ap (part a x) j.last
          ∙ part_join a x y v j.low j.high
          ∙ ap (λ (l : List ℕ). l ++ part a y v) (sym (noted_left j.low))
          ∙ ap (λ (i : ℕ). noted a b x y ++ part a i v) (sym j.next)
          ∙ ap (λ (l : List ℕ). noted a b x y ++ l) (sym (noted_left {x = u} {y = v} (omega (arith, j.next, j.high))))

      right : JoinedRight x y u v p q → noted a b p q ≡ noted a b x y ++ noted a b u v
      right j = noted_right {x = p} {y = q} (omega (arith, j.low, j.high, j.first, j.last))
          ∙ ap (part b q) j.first
          ∙ ap (λ (i : ℕ). part b i u) j.last
          ∙ part_join b y x u (omega (arith, j.low)) (omega (arith, j.high))
          ∙ ap (λ (l : List ℕ). l ++ part b x u) (sym (noted_right j.low))
          ∙ ap (λ (i : ℕ). noted a b x y ++ part b i u) (sym j.next)
          ∙ ap (λ (l : List ℕ). noted a b x y ++ l) (sym (noted_right {x = u} {y = v} (omega (arith, j.next, j.high))))

  -- the first of those that are left
  noted_next : (u v : ℕ) (rest : List ℕ) → noted_all a b (u ∷ v ∷ rest) ≡ noted a b u v ++ noted_all a b rest
  unfolding noted_all
  noted_next u v rest = refl

  noted_none : (l : List ℕ) → length l < 2 → noted_all a b l ≡ []
  unfolding noted_all
  noted_none [] h = refl
  noted_none (x ∷ []) h = refl
  noted_none (x ∷ y ∷ l) h = absurd (omega arith)

  -- what is left to put into a buffer makes of it what all make of the first: a stretch that is not put yet, and the notes behind it
  pub record ToPut (notes out₀ : List ℕ) (at : ℕ) (out : List ℕ) (to x y : ℕ) (left : List ℕ) : Type 0 where
    pub makes : over out to (noted a b x y ++ noted_all a b left) ≡ over out₀ at (noted_all a b notes)
    pub room : to + length (noted a b x y ++ noted_all a b left) ≤ length out

  module _ {notes out₀ : List ℕ} {at : ℕ} {out : List ℕ} {to x y u v : ℕ} {rest : List ℕ} (l : ToPut notes out₀ at out to x y (u ∷ v ∷ rest)) where
    -- the next goes with the stretch
    pub to_put_joined : {p q : ℕ} {r : Option (ℕ × ℕ)} → r ≡ joined_of x y u v → r ≡ Some (p, q) → ToPut notes out₀ at out to p q rest
    to_put_joined {p} {q} e f =
        let same : noted a b p q ++ noted_all a b rest ≡ noted a b x y ++ noted_all a b (u ∷ v ∷ rest) =
        ap (λ (n : List ℕ). n ++ noted_all a b rest) (joined_noted x y u v (sym e ∙ f))
        ∙ append_assoc (noted a b x y) (noted a b u v) (noted_all a b rest)
        ∙ ap (λ (n : List ℕ). noted a b x y ++ n) (sym (noted_next u v rest)) in
        record { makes = ap (over out to) same ∙ l.makes; room = subst (λ (n : List ℕ). to + length n ≤ length out) (sym same) l.room }

    -- the stretch is put, and the next begins another
    fits : to + length (noted a b x y) ≤ length out
    fits = omega (arith, l.room, length-append (noted a b x y) (noted_all a b (u ∷ v ∷ rest)))

    pub to_put_next : {n : ℕ} {o : List ℕ} → Puts (noted a b x y) out to n o → ToPut notes out₀ at o (to + n) u v rest
    to_put_next {n} {o} p =
        let z = noted a b x y in
        let same : noted a b u v ++ noted_all a b rest ≡ noted_all a b (u ∷ v ∷ rest) = sym (noted_next u v rest) in
        let is : o ≡ over out to z = p.1 ∙ put_fits out to z fits in
        let count : n ≡ length z = p.0 ∙ count_fits out to z fits in
        record {
          makes = ap (λ (w : List ℕ). over w (to + n) (noted a b u v ++ noted_all a b rest)) is
              ∙ ap (λ (m : ℕ). over (over out to z) (to + m) (noted a b u v ++ noted_all a b rest)) count
              ∙ ap (over (over out to z) (to + length z)) same
              ∙ over_over out to z (noted_all a b (u ∷ v ∷ rest)) fits
              ∙ l.makes;
          room = omega (arith, ap length same, ap length is, length_over out to z fits, count, l.room, length-append z (noted_all a b (u ∷ v ∷ rest)));
        }

  pub to_put_last : {notes out₀ : List ℕ} {at : ℕ} {out : List ℕ} {to x y : ℕ} {left : List ℕ} → ToPut notes out₀ at out to x y left
      → {n : ℕ} {o : List ℕ} → length left < 2 → Puts (noted a b x y) out to n o → o ≡ over out₀ at (noted_all a b notes)
  to_put_last {out = out} {to = to} {x = x} {y = y} {left = left} l h p =
      let same : noted a b x y ++ noted_all a b left ≡ noted a b x y = ap (λ (m : List ℕ). noted a b x y ++ m) (noted_none left h) ∙ append-nil (noted a b x y) in
      p.1 ∙ put_fits out to (noted a b x y) (omega (arith, l.room, ap length same)) ∙ sym (ap (over out to) same) ∙ l.makes

  -- notes behind notes
  pub noted_append : (k : ℕ) (l m : List ℕ) → length l ≡ k + k → noted_all a b (l ++ m) ≡ noted_all a b l ++ noted_all a b m
  unfolding noted_all
  noted_append zero [] m e = refl
  noted_append zero (x ∷ l) m e = absurd (omega arith)
  noted_append (suc k) [] m e = absurd (omega arith)
  noted_append (suc k) (x ∷ []) m e = absurd (omega arith)
  noted_append (suc k) (x ∷ y ∷ l) m e = ap (λ (r : List ℕ). noted a b x y ++ r) (noted_append k l m (omega arith)) ∙ sym (append_assoc (noted a b x y) (noted_all a b l) (noted_all a b m))
