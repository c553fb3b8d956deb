-- A name is cut at its slashes, an accepted one has none of the faults that the request lists, and it leads down from a folder all the way.
use Rattle.std.proofs.Common.{◌≡◌, ℕ, zero, suc, ◌≤◌, Bool, true, false, cond, not, ◌&&◌, eqb, List, [], ◌∷◌, ◌++◌, length, take, drop, sym, refl, ap, ◌∙◌, ⊎_elim, true≢false, append-nil, arith, length-append, eqb-true}
use mathlib.Core.List.Memᴰ
use mathlib.Core.List.{Memᴰ}
use mathlib.Core.Bool.{and_assoc}
use borrow.Author.Tests.{not-true}
use lib.Seq.{append_snoc}
use Rattle.xdr.specs.Format.{AllOf}
use Rattle.xdr.proofs.LeadLaws.{both}
use Rattle.order.specs.Order.{compare_numbers, compare_lists}
use Rattle.record.specs.Name.{parts_from, parts, dot, dots, is_part, are_parts, lacks, is_path, Faultless, slashed, Cut, below, out, walked, StaysBelow}
use Rattle.record.proofs.PathSteps.{not_exactly, leads_down, none_of}

-- what holds of both outcomes of a test holds of what it chooses
by_test : {A : Type 0} (t : Bool) {x y : A} (P : A → Type 0) → (t ≡ true → P x) → (t ≡ false → P y) → P (cond t x y)
by_test true P f g = f refl
by_test false P f g = g refl

-- cutting

slashed_parts : (p l : List ℕ) → slashed (parts_from p l) ≡ 47 ∷ (p ++ l)
slashed_parts p [] = refl
slashed_parts p (b ∷ l) =
    by_test (eqb b 47) (λ ps. slashed ps ≡ 47 ∷ (p ++ (b ∷ l)))
    (λ e. ap (λ (m : List ℕ). 47 ∷ (p ++ m)) (slashed_parts [] l ∙ ap (λ (x : ℕ). x ∷ l) (sym (eqb-true b 47 e))))
    (λ e. slashed_parts (p ++ (b ∷ [])) l ∙ ap (λ (m : List ℕ). 47 ∷ m) (append_snoc p b l))

lacks_append : (k : ℕ) (p q : List ℕ) → lacks k (p ++ q) ≡ lacks k p && lacks k q
lacks_append k [] q = refl
lacks_append k (b ∷ p) q = ap (λ (t : Bool). not (eqb b k) && t) (lacks_append k p q) ∙ sym (and_assoc (not (eqb b k)) (lacks k p) (lacks k q))

parts_slash_free : (p l : List ℕ) → lacks 47 p ≡ true → AllOf (λ q. lacks 47 q ≡ true) (parts_from p l)
parts_slash_free p [] h = (h, tt)
parts_slash_free p (b ∷ l) h =
    by_test (eqb b 47) (λ ps. AllOf (λ q. lacks 47 q ≡ true) ps)
    (λ e. (h, parts_slash_free [] l refl))
    (λ e. parts_slash_free (p ++ (b ∷ [])) l (lacks_append 47 p (b ∷ []) ∙ rw (h, e) refl))

parts_some : (p l : List ℕ) → 1 ≤ length (parts_from p l)
parts_some p [] = omega arith
parts_some p (b ∷ l) = by_test (eqb b 47) (λ ps. 1 ≤ length ps) (λ e. omega arith) (λ e. parts_some (p ++ (b ∷ [])) l)

pub parts_cut : (l : List ℕ) → Cut l (parts l)
parts_cut l = record { some = parts_some [] l; slash_free = parts_slash_free [] l refl; joins = ap (drop 1) (slashed_parts [] l) }

-- no other parts do

run_on : (p q l : List ℕ) → lacks 47 q ≡ true → parts_from p (q ++ l) ≡ parts_from (p ++ q) l
run_on p [] l h = ap (λ (r : List ℕ). parts_from r l) (sym (append-nil p))
run_on p (b ∷ q) l h =
    let t = both (not (eqb b 47)) (lacks 47 q) h in
    rw (not-true (eqb b 47) t.0) (run_on (p ++ (b ∷ [])) q l t.1 ∙ ap (λ (r : List ℕ). parts_from r l) (append_snoc p b q))

cut_again : (p : List ℕ) (ps : List (List ℕ)) → AllOf (λ q. lacks 47 q ≡ true) ps → parts_from p (slashed ps) ≡ p ∷ ps
cut_again p [] h = refl
cut_again p (q ∷ ps) h = ap (λ (qs : List (List ℕ)). p ∷ qs) (run_on [] q (slashed ps) h.0 ∙ cut_again q ps h.1)

pub only_cut : (l : List ℕ) (ps : List (List ℕ)) → Cut l ps → ps ≡ parts l
only_cut l [] c = absurd (omega (arith, c.some))
only_cut l (p ∷ ps) c = sym (ap parts (sym c.joins) ∙ run_on [] p (slashed ps) c.slash_free.0 ∙ cut_again p ps c.slash_free.1)

-- what is asked of a path

asked : (l : List ℕ) → is_path l ≡ true → (are_parts (parts l) ≡ true) × (lacks 0 l ≡ true)
unfolding is_path
asked l h = both (are_parts (parts l)) (lacks 0 l) h

among : (p : List ℕ) (ps : List (List ℕ)) → are_parts ps ≡ true → Memᴰ p ps → is_part p ≡ true
among p [] h m = absurd (Memᴰ.not-nil m)
among p (q ∷ ps) h m =
    let t = both (is_part q) (are_parts ps) h in
    ⊎_elim (λ e. ap is_part e ∙ t.0) (λ n. among p ps t.1 n) (Memᴰ.cases_cons m)

-- the part behind a slash isn't empty

behind_slash : (p a b : List ℕ) → are_parts (parts_from p (a ++ (47 ∷ b))) ≡ true → are_parts (parts_from [] b) ≡ true
behind_slash p [] b h = (both (is_part p) (are_parts (parts_from [] b)) h).1
behind_slash p (c ∷ a) b h =
    by_test (eqb c 47) (λ ps. are_parts ps ≡ true → are_parts (parts_from [] b) ≡ true)
    (λ e k. behind_slash [] a b (both (is_part p) (are_parts (parts_from [] (a ++ (47 ∷ b)))) k).1)
    (λ e k. behind_slash (p ++ (c ∷ [])) a b k)
    h

not_empty : (ps : List (List ℕ)) → are_parts ([] ∷ ps) ≡ true → ⊥
not_empty ps h = (none_of [] (both (is_part []) (are_parts ps) h).0).0 refl

-- an accepted name has no fault of the list

pub path_faultless : (l : List ℕ) → is_path l ≡ true → (1 ≤ length l) × Faultless l
path_faultless l h = (
  some l (asked l h).0,
  record {
    begins = λ b e. not_empty (parts_from [] b) (cut e);
    ends = λ a e. not_empty [] (behind_slash [] a [] (cut e));
    zero_free = λ a b e. true≢false (sym (both (lacks 0 a) false (sym (lacks_append 0 a (0 ∷ b)) ∙ sym (ap (lacks 0) e) ∙ (asked l h).1)).1);
    apart = λ a b e. not_empty (parts_from [] b) (behind_slash [] a (47 ∷ b) (cut e));
    dotless = λ p m. let n = none_of p (among p (parts l) (asked l h).0 m) in (n.1, n.2);
  },
)
  where
    cut : {m : List ℕ} → l ≡ m → are_parts (parts m) ≡ true
    cut e = ap (λ (k : List ℕ). are_parts (parts k)) (sym e) ∙ (asked l h).0

    some : (k : List ℕ) → are_parts (parts k) ≡ true → 1 ≤ length k
    some [] t = absurd (not_empty [] t)
    some (b ∷ k) t = omega arith

-- and a name with none is accepted

nowhere : (k : ℕ) (l : List ℕ) → ((a b : List ℕ) → l ≡ a ++ (k ∷ b) → ⊥) → lacks k l ≡ true
nowhere k [] f = refl
nowhere k (b ∷ l) f = go (eqb b k) refl (nowhere k l (λ a c e. f (b ∷ a) c (ap (λ (m : List ℕ). b ∷ m) e)))
  where
    go : (t : Bool) → eqb b k ≡ t → lacks k l ≡ true → not t && lacks k l ≡ true
    go true e h = absurd (f [] l (ap (λ (x : ℕ). x ∷ l) (eqb-true b k e)))
    go false e h = h

-- a part comes next
abbrev Coming : List ℕ → Type 0
Coming [] = ⊥
Coming (b ∷ l) = b ≡ 47 → ⊥

-- no slash at the end, no two together, and no part of dots
abbrev Unended : List ℕ → Type 0
Unended l = (a : List ℕ) → l ≡ a ++ (47 ∷ []) → ⊥

abbrev Apart : List ℕ → Type 0
Apart l = (a b : List ℕ) → l ≡ a ++ (47 ∷ 47 ∷ b) → ⊥

abbrev Dotless : List (List ℕ) → Type 0
Dotless ps = (p : List ℕ) → Memᴰ p ps → (p ≡ dot → ⊥) × (p ≡ dots → ⊥)

coming : (b : ℕ) (l : List ℕ) → b ≡ 47 → Unended (b ∷ l) → Apart (b ∷ l) → Coming l
coming b [] h e t = e [] (ap (λ (x : ℕ). x ∷ []) h)
coming b (c ∷ l) h e t = λ z. t [] l (cc)

part_there : (p : List ℕ) (ps : List (List ℕ)) → (p ≡ [] → ⊥) → Dotless (p ∷ ps) → is_part p ≡ true
part_there p ps s d = let n = d p (Memᴰ.head refl) in leads_down p s n.0 n.1

faultless_parts : (p l : List ℕ) → (p ≡ [] → Coming l) → Unended l → Apart l → Dotless (parts_from p l) → are_parts (parts_from p l) ≡ true
faultless_parts p [] s e t d = rw (part_there p [] s d) refl
faultless_parts p (b ∷ l) s e t d =
    let unended : Unended l = λ a x. e (b ∷ a) (ap (λ (m : List ℕ). b ∷ m) x) in
    let apart : Apart l = λ a c x. t (b ∷ a) c (ap (λ (m : List ℕ). b ∷ m) x) in
    by_test (eqb b 47) (λ ps. Dotless ps → are_parts ps ≡ true)
    (λ f k.
    let slash : b ≡ 47 = eqb-true b 47 f in
    rw (part_there p (parts_from [] l) (λ z. s z slash) k)
    (faultless_parts [] l (λ z. coming b l slash e t) unended apart (λ q m. k q (Memᴰ.tail m))))
    (λ f k. faultless_parts (p ++ (b ∷ [])) l (λ z. absurd (omega (arith, simp length-append at (ap length z)))) unended apart k)
    d

pub faultless_path : (l : List ℕ) → 1 ≤ length l → Faultless l → is_path l ≡ true
unfolding is_path
faultless_path l h f = rw (faultless_parts [] l (λ z. next l h f.begins) f.ends f.apart f.dotless, nowhere 0 l f.zero_free) refl
  where
    next : (m : List ℕ) → 1 ≤ length m → ((b : List ℕ) → m ≡ 47 ∷ b → ⊥) → Coming m
    next [] k g = absurd (omega arith)
    next (b ∷ m) k g = λ z. g m (ap (λ (x : ℕ). x ∷ m) z)

-- walking

down_all : (ps w : List (List ℕ)) → are_parts ps ≡ true → walked ps (below w) ≡ below (w ++ ps)
down_all [] w h = ap below (sym (append-nil w))
down_all (p ∷ ps) w h =
    let t = both (is_part p) (are_parts ps) h in
    let n = none_of p t.0 in
    rw (not_exactly [] p n.0, not_exactly dot p n.1, not_exactly dots p n.2)
    (down_all ps (w ++ (p ∷ [])) t.1 ∙ ap below (append_snoc w p ps))

some_parts : (n : ℕ) (ps : List (List ℕ)) → are_parts ps ≡ true → are_parts (take n ps) ≡ true
some_parts zero ps h = refl
some_parts (suc n) [] h = refl
some_parts (suc n) (p ∷ ps) h = let t = both (is_part p) (are_parts ps) h in rw t.0 (some_parts n ps t.1)

pub path_stays_below : (l : List ℕ) → is_path l ≡ true → StaysBelow l
path_stays_below l h n = down_all (take n (parts l)) [] (some_parts n (parts l) (asked l h).0)

-- `../show.mov` leaves the folder at its first part, and `...` passes

abbrev climbing : List ℕ
climbing = 46 ∷ 46 ∷ 47 ∷ 115 ∷ 104 ∷ 111 ∷ 119 ∷ 46 ∷ 109 ∷ 111 ∷ 118 ∷ []

pub climbs_out : (is_path climbing ≡ false) × (walked (take 1 (parts climbing)) (below []) ≡ out)
unfolding is_path compare_lists compare_numbers
climbs_out = (refl, refl)

pub three_dots : is_path (46 ∷ 46 ∷ 46 ∷ []) ≡ true
unfolding is_path compare_lists compare_numbers
three_dots = refl
