-- Merging changes nothing but what the records change: order, grouping and repetition of the tables don't matter, and a merged table is good
-- where it is within the limits.
use Prim.Native.Nat.{ℕ}
use mathlib.Core.List.Memᴰ
use mathlib.Core.List.{List, [], ◌∷◌, ◌++◌, append_assoc, append-nil}
use mathlib.Core.Path.{◌≡◌, refl, sym, ap, subst, ◌∙◌}
use mathlib.Core.Logic.{◌⊎◌, inl, inr, ⊎_elim}
use mathlib.Core.Bool.{Bool, true, false, cond}
use native.Mathlib.Omega.{arith}
use borrow.Author.Tests.{leb-true}
use lib.ListN.{length}
use lib.Dec.{leb}
use Rattle.xdr.specs.Number.{IsBytes}
use Rattle.xdr.specs.Format.{Valid}
use Rattle.record.specs.File.{File, file}
use Rattle.table.specs.Limits.{records_limit, bytes_limit}
use Rattle.table.specs.Table.{is_good, is_within, records, table_of, resulting_table}
use Rattle.xdr.specs.Filling.{gives, refuses}
use Rattle.record.proofs.RisingLaws.{Rising, rising_is, both_true}
use Rattle.table.specs.Steps.Standing.{AllValid}
use Rattle.table.proofs.TableLaws.{GoodTable, good_table}
use Rattle.merge.specs.Merged.{merged_of}
use Rattle.merge.specs.Highest.{joined, Covered, Highest}
use Rattle.merge.specs.Answer.{merged_records, merge_outcome}
use Rattle.merge.proofs.TwoLaws.{insert_none}
use Rattle.merge.proofs.AnswerLaws.{both_good}
use Rattle.merge.proofs.HighestLaws.{◌∈◌, through, AllOK, Within, merged_highest, highest_same}

-- valid records, as a list and one by one

pub all_ok : (fs : List File) → AllValid fs → AllOK fs
all_ok [] v f m = absurd (Memᴰ.not-nil m)
all_ok (g ∷ gs) v f m = go (Memᴰ.cases_cons m) (λ k. all_ok gs v.1 f k)
  where
    go : (f ≡ g) ⊎ (f ∈ gs) → (f ∈ gs → Valid file f) → Valid file f
    go (inl e) ih = rw e v.0
    go (inr k) ih = ih k

pub all_valid : (fs : List File) → AllOK fs → AllValid fs
all_valid [] v = tt
all_valid (g ∷ gs) v = (v g (Memᴰ.head refl), all_valid gs (λ f m. v f (Memᴰ.tail m)))

both_ok : (a b : List File) → AllOK a → AllOK b → AllOK (a ++ b)
both_ok a b p q f m = ⊎_elim (λ k. p f k) (λ k. q f k) (Memᴰ.append_cases a m)

-- by which records there are
pub merged_same : (ts us : List (List File)) → AllOK (joined us) → Within (joined ts) (joined us) → Within (joined us) (joined ts) → merged_of ts ≡ merged_of us
merged_same ts us ok p q = highest_same (joined ts) (joined us) (merged_of ts) (merged_of us) ok (merged_highest ts) (merged_highest us) p q

pub merged_rising : (ts : List (List File)) → Rising (merged_of ts)
merged_rising ts = rising_is (merged_of ts) (merged_highest ts).rising

pub merged_ok : (ts : List (List File)) → AllOK (joined ts) → AllOK (merged_of ts)
merged_ok ts ok f m = ok f ((merged_highest ts).from f m)

-- one table
pub merged_one : (a : List File) → Rising a → merged_of (a ∷ []) ≡ a
unfolding merged_of
merged_one a r = insert_none a r

-- two tables

module _ (a b : List File) where
  pub joined_two : joined (a ∷ b ∷ []) ≡ a ++ b
  joined_two = ap (λ (l : List File). a ++ l) (append-nil b)

  pub highest_two : Highest (a ++ b) (merged_of (a ∷ b ∷ []))
  highest_two = subst (λ (l : List File). Highest l (merged_of (a ∷ b ∷ []))) joined_two (merged_highest (a ∷ b ∷ []))

  reversed_round : Within (a ++ b) (b ++ a)
  reversed_round f m = ⊎_elim (λ k. Memᴰ.append_right b k) (λ k. Memᴰ.append_left a k) (Memᴰ.append_cases a m)

pub merged_commutes : (a b : List File) → AllOK a → AllOK b → merged_of (a ∷ b ∷ []) ≡ merged_of (b ∷ a ∷ [])
merged_commutes a b p q =
    highest_same (a ++ b) (b ++ a) (merged_of (a ∷ b ∷ [])) (merged_of (b ∷ a ∷ [])) (both_ok b a q p) (highest_two a b) (highest_two b a) (reversed_round a b) (reversed_round b a)

pub merged_idempotent : (a : List File) → Rising a → AllOK a → merged_of (a ∷ a ∷ []) ≡ a
merged_idempotent a r ok =
    merged_same (a ∷ a ∷ []) (a ∷ []) (subst AllOK (sym (append-nil a)) ok) (λ f m. ⊎_elim (λ k. Memᴰ.append_left [] k) (λ k. k) (Memᴰ.append_cases a m)) (λ f m. Memᴰ.append_right a m)
    ∙ merged_one a r

-- merged tables merged

two_highest : (fs gs a b m : List File) → Highest fs a → Highest gs b → Highest (a ++ b) m → Highest (fs ++ gs) m
two_highest fs gs a b m h k j =
    record {
      rising = j.rising;
      from = λ f i. ⊎_elim (λ p. Memᴰ.append_left gs (h.from f p)) (λ p. Memᴰ.append_right fs (k.from f p)) (Memᴰ.append_cases a (j.from f i));
      covers = λ f i. ⊎_elim (λ p. up f (h.covers f p) (λ x q. Memᴰ.append_left b q)) (λ p. up f (k.covers f p) (λ x q. Memᴰ.append_right a q)) (Memᴰ.append_cases fs i);
    }
  where
    up : (f : File) {l : List File} → Covered l f → ((x : File) → x ∈ l → x ∈ (a ++ b)) → Covered m f
    up f t p = through m f t.cover t.named t.high (j.covers t.cover (p t.cover t.within))

pub joined_append : (ts us : List (List File)) → joined (ts ++ us) ≡ joined ts ++ joined us
joined_append [] us = refl
joined_append (t ∷ ts) us = rw (joined_append ts us) (sym (append_assoc t (joined ts) (joined us)))

pub merged_merged : (ts us : List (List File)) → AllOK (joined (ts ++ us)) → merged_of (merged_of ts ∷ merged_of us ∷ []) ≡ merged_of (ts ++ us)
merged_merged ts us ok =
    let j = two_highest (joined ts) (joined us) (merged_of ts) (merged_of us) (merged_of (merged_of ts ∷ merged_of us ∷ [])) (merged_highest ts) (merged_highest us) (highest_two (merged_of ts) (merged_of us)) in
    highest_same (joined ts ++ joined us) (joined (ts ++ us)) (merged_of (merged_of ts ∷ merged_of us ∷ [])) (merged_of (ts ++ us)) ok j (merged_highest (ts ++ us))
    (λ f m. subst (λ (l : List File). f ∈ l) (sym (joined_append ts us)) m) (λ f m. subst (λ (l : List File). f ∈ l) (joined_append ts us) m)

-- two tables that are merged tables of others
pub merged_origins : (a b : List ℕ) (ts us : List (List File)) → records a ≡ merged_of ts → records b ≡ merged_of us → AllOK (joined (ts ++ us)) → merged_records a b ≡ merged_of (ts ++ us)
unfolding merged_records
merged_origins a b ts us e f ok =
    ap (λ (l : List File). merged_of (l ∷ records b ∷ [])) e ∙ ap (λ (l : List File). merged_of (merged_of ts ∷ l ∷ [])) f ∙ merged_merged ts us ok

-- so merging them goes by the merged table of all the others
pub outcome_by_origins : (a b : List ℕ) (ts us : List (List File)) → is_good a ≡ true → is_good b ≡ true → records a ≡ merged_of ts → records b ≡ merged_of us → AllOK (joined (ts ++ us))
    → merge_outcome a b ≡ resulting_table (merged_of (ts ++ us))
outcome_by_origins a b ts us g h e f ok = both_good a b g h ∙ ap resulting_table (merged_origins a b ts us e f ok)

pub merged_repeated : (ts : List (List File)) → AllOK (joined ts) → merged_of (ts ++ ts) ≡ merged_of ts
merged_repeated ts ok =
    merged_same (ts ++ ts) ts ok
    (λ f m. ⊎_elim (λ k. k) (λ k. k) (Memᴰ.append_cases (joined ts) (subst (λ (l : List File). f ∈ l) (joined_append ts ts) m)))
    (λ f m. subst (λ (l : List File). f ∈ l) (sym (joined_append ts ts)) (Memᴰ.append_left (joined ts) m))

pub merged_associates : (a b c : List File) → Rising a → Rising c → AllOK a → AllOK b → AllOK c
    → merged_of (merged_of (a ∷ b ∷ []) ∷ c ∷ []) ≡ merged_of (a ∷ merged_of (b ∷ c ∷ []) ∷ [])
merged_associates a b c r s p q u =
    let ok : AllOK (a ++ (b ++ (c ++ []))) = both_ok a (b ++ (c ++ [])) p (both_ok b (c ++ []) q (both_ok c [] u (λ f m. absurd (Memᴰ.not-nil m)))) in
    ap (λ (l : List File). merged_of (merged_of (a ∷ b ∷ []) ∷ l ∷ [])) (sym (merged_one c s))
    ∙ merged_merged (a ∷ b ∷ []) (c ∷ []) ok
    ∙ sym (merged_merged (a ∷ []) (b ∷ c ∷ []) ok)
    ∙ ap (λ (l : List File). merged_of (l ∷ merged_of (b ∷ c ∷ []) ∷ [])) (merged_one a r)

-- the bytes of a merged table

pub merged_good : (ts : List (List File)) → AllOK (joined ts) → is_within (length (merged_of ts)) (length (table_of (merged_of ts))) ≡ true → GoodTable (table_of (merged_of ts)) (merged_of ts)
merged_good ts ok e =
    let q = both_true (leb (length (merged_of ts)) records_limit) (leb (length (table_of (merged_of ts))) bytes_limit) e in
    record {
      is = refl;
      valid = all_valid (merged_of ts) (merged_ok ts ok);
      few = leb-true (length (merged_of ts)) records_limit q.0;
      rising = merged_rising ts;
      short = leb-true (length (table_of (merged_of ts))) bytes_limit q.1;
    }

-- what a merge tells that gives bytes
pub record MergeGiven (a b l : List ℕ) : Type 0 where
  pub first : is_good a ≡ true
  pub second : is_good b ≡ true
  pub within : is_within (length (merged_records a b)) (length (table_of (merged_records a b))) ≡ true
  pub is : l ≡ table_of (merged_records a b)

gave_by : (p q r : Bool) (m l : List ℕ) → cond p (cond q (cond r (gives m) (refuses 19 0)) (refuses 15 0)) (refuses 15 0) ≡ gives l → (p ≡ true) × (q ≡ true) × (r ≡ true) × (l ≡ m)
gave_by true true true m l e = (refl, refl, refl, cc)
gave_by true true false m l e = let z : ◌≡◌ {A = ℕ} 0 1 = cc in absurd (omega arith)
gave_by true false r m l e = let z : ◌≡◌ {A = ℕ} 0 1 = cc in absurd (omega arith)
gave_by false q r m l e = let z : ◌≡◌ {A = ℕ} 0 1 = cc in absurd (omega arith)

pub merge_gave : (a b l : List ℕ) → merge_outcome a b ≡ gives l → MergeGiven a b l
unfolding merge_outcome
merge_gave a b l e =
    let m : List ℕ = table_of (merged_records a b) in
    let q = gave_by (is_good a) (is_good b) (is_within (length (merged_records a b)) (length m)) m l e in
    record { first = q.0; second = q.1; within = q.2; is = q.3 }

-- its result is a good table of the merged records
pub merge_result : (a b l : List ℕ) → IsBytes a → IsBytes b → merge_outcome a b ≡ gives l → GoodTable l (merged_records a b)
unfolding merged_records
merge_result a b l p q e =
    let r = merge_gave a b l e in
    let u = good_table a p r.first in
    let w = good_table b q r.second in
    let ok : AllOK (joined (records a ∷ records b ∷ [])) = subst AllOK (sym (joined_two (records a) (records b))) (both_ok (records a) (records b) (all_ok (records a) u.valid) (all_ok (records b) w.valid)) in
    subst (λ (t : List ℕ). GoodTable t (merged_records a b)) (sym r.is) (merged_good (records a ∷ records b ∷ []) ok r.within)
