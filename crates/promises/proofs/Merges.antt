-- After any list of merges, every result that nobody wrote into is byte for byte the merged table of exactly the starting tables that went into it.
use Prim.Native.Nat.{ℕ}
use mathlib.Core.List.Memᴰ
use mathlib.Core.List.{List, [], ◌∷◌, ◌++◌, map, map-append, append-nil, Memᴰ}
use mathlib.Core.Path.{◌≡◌, refl, sym, ap, subst, ◌∙◌}
use mathlib.Core.Logic.{◌⊎◌, inl, inr, ⊎_elim}
use mathlib.Core.Bool.{Bool, true, false, ◌&&◌, cond}
use native.Mathlib.Omega.{arith}
use lib.ListN.{length}
use Rattle.record.specs.File.{File}
use Rattle.xdr.specs.Filling.{Outcome, gives, refuses, in_room, buffer_after}
use Rattle.table.specs.Table.{is_good, all_good, is_within, records, table_of, resulting_table}
use Rattle.xdr.proofs.FillingLaws.{not_given, given_room}
use Rattle.record.proofs.RisingLaws.{both_true}
use Rattle.table.proofs.TableLaws.{GoodTable, good_table, table_good, records_of}
use Rattle.merge.specs.Merged.{merged_of}
use Rattle.merge.specs.Highest.{joined, Highest}
use Rattle.merge.specs.Answer.{merged_records}
use Rattle.merge.proofs.AnswerLaws.{first_bad_lem, second_bad}
use Rattle.merge.proofs.HighestLaws.{AllOK, Within, merged_highest}
use Rattle.merge.proofs.MergeLaws.{all_ok, joined_append, merged_one, merged_good, merged_origins, merged_same, outcome_by_origins, merge_gave}
use Rattle.promises.specs.Memory.{Memory, Region, bytes_from, bytes_in, written, is_apart}
use Rattle.promises.specs.Merges.{Slice, State, Action, call, write, starting, start, untouched, slices_after, merging, step, run, Allowed, AllAllowed, merged_table, Kept, Throughout, HoldsBytes, SameTables}
use Rattle.promises.proofs.MemoryLaws.{bytes_written, bytes_apart, written_back, written_filled, holds_bytes}

abbrev ◌∈◌ : Slice → List Slice → Type 0
x ∈ l = Memᴰ x l

infix 40 ◌∈◌
-- what stays was there, and lies apart from what was written

stays_in : (r : Region) (l : List Slice) (x : Slice) → x ∈ untouched r l → (x ∈ l) × (is_apart x.region r ≡ true)
stays_in r [] x m = absurd (Memᴰ.not-nil m)
stays_in r (y ∷ ys) x m = go (is_apart y.region r) refl (stays_in r ys x) m
  where
    go : (t : Bool) → is_apart y.region r ≡ t → (x ∈ untouched r ys → (x ∈ ys) × (is_apart x.region r ≡ true)) → x ∈ cond t (y ∷ untouched r ys) (untouched r ys)
        → (x ∈ (y ∷ ys)) × (is_apart x.region r ≡ true)
    go true e ih k =
        ⊎_elim (λ f. (Memᴰ.head f, subst (λ (z : Slice). is_apart z.region r ≡ true) (sym f) e)) (λ i. (Memᴰ.tail (ih i).0, (ih i).1)) (Memᴰ.cases_cons k)
    go false e ih k = (Memᴰ.tail (ih k).0, (ih k).1)

-- and all that lies apart stays: no slice goes but by a write into it
pub stays : (r : Region) (l : List Slice) (x : Slice) → x ∈ l → is_apart x.region r ≡ true → x ∈ untouched r l
stays r [] x m a = m
stays r (y ∷ ys) x m a = go (is_apart y.region r) refl (λ k. stays r ys x k a) (Memᴰ.cases_cons m)
  where
    go : (t : Bool) → is_apart y.region r ≡ t → (x ∈ ys → x ∈ untouched r ys) → (x ≡ y) ⊎ (x ∈ ys) → x ∈ cond t (y ∷ untouched r ys) (untouched r ys)
    go true e ih (inl f) = Memᴰ.head f
    go true e ih (inr k) = Memᴰ.tail (ih k)
    go false e ih (inl f) = let q = subst (λ (z : Slice). is_apart z.region r ≡ true) f a in let z : ◌≡◌ {A = ℕ} 0 1 = cc in absurd (omega arith)
    go false e ih (inr k) = ih k

-- the records of origins

abbrev pub Origins : List (List ℕ) → Type 0
Origins ts = AllOK (joined (map records ts))

pub good_append : (ts us : List (List ℕ)) → all_good ts ≡ true → all_good us ≡ true → all_good (ts ++ us) ≡ true
good_append [] us p q = q
good_append (t ∷ ts) us p q = let b = both_true (is_good t) (all_good ts) p in rw b.0 (good_append ts us b.1 q)

pub records_append : (ts us : List (List ℕ)) → Origins ts → Origins us → AllOK (joined (map records ts ++ map records us))
records_append ts us p q f m =
    ⊎_elim (λ k. p f k) (λ k. q f k) (Memᴰ.append_cases (joined (map records ts)) (subst (λ (l : List File). Memᴰ f l) (joined_append (map records ts) (map records us)) m))

pub origins_append : (ts us : List (List ℕ)) → Origins ts → Origins us → Origins (ts ++ us)
origins_append ts us p q = subst (λ (l : List (List File)). AllOK (joined l)) (sym (map-append records ts us)) (records_append ts us p q)

-- what is known of a slice: it is a starting slice and no good table, or a good table of its origins' merged records

data Known (m : Memory) (x : Slice) : Type 0 where
  bad : x.is_result ≡ false → is_good (bytes_in m x.region) ≡ false → all_good x.origins ≡ false → Known m x
  good : all_good x.origins ≡ true → Origins x.origins → GoodTable (bytes_in m x.region) (merged_of (map records x.origins)) → Known m x

moved : (m n : Memory) (x : Slice) → bytes_in n x.region ≡ bytes_in m x.region → Known m x → Known n x
moved m n x e (bad f b g) = bad f (ap is_good e ∙ b) g
moved m n x e (good g o t) = good g o (subst (λ (l : List ℕ). GoodTable l (merged_of (map records x.origins))) (sym e) t)

-- two slices merged
by_origins : (m : Memory) (x y : Slice) → Known m x → Known m y
    → merging m x y ≡ cond (all_good x.origins && all_good y.origins) (resulting_table (merged_of (map records (x.origins ++ y.origins)))) (refuses 15 0)
by_origins m x y (bad f b g) k = first_bad_lem (bytes_in m x.region) (bytes_in m y.region) b ∙ rw g refl
by_origins m x y (good g o t) (bad f b h) =
    second_bad (bytes_in m x.region) (bytes_in m y.region) (table_good (bytes_in m x.region) (merged_of (map records x.origins)) t) b ∙ rw (g, h) refl
by_origins m x y (good g o t) (good h p u) =
    let a = bytes_in m x.region in
    let b = bytes_in m y.region in
    let ts = map records x.origins in
    let us = map records y.origins in
    outcome_by_origins a b ts us (table_good a (merged_of ts) t) (table_good b (merged_of us) u) (records_of a (merged_of ts) t) (records_of b (merged_of us) u) (records_append x.origins y.origins o p)
    ∙ ap (λ (l : List (List File)). resulting_table (merged_of l)) (sym (map-append records x.origins y.origins))
    ∙ rw (g, h) refl

-- all slices

abbrev AllKnown : Memory → List Slice → Type 0
AllKnown m slices = (x : Slice) → x ∈ slices → Known m x

written_known : (m : Memory) (slices : List Slice) (at : ℕ) (l : List ℕ) → AllKnown m slices → AllKnown (written m at l) (untouched (record { at = at; size = length l }) slices)
written_known m slices at l h x i =
    let p = stays_in (record { at = at; size = length l }) slices x i in
    moved m (written m at l) x (bytes_apart m at l x.region p.1) (h x p.0)

-- the result of an accepted call
result_known : (m : Memory) (x y : Slice) (b : Region) (l : List ℕ) → Known m x → Known m y → merging m x y ≡ gives l
    → Known (written m b.at l) (record { region = record { at = b.at; size = length l }; is_result = true; origins = x.origins ++ y.origins })
result_known m x y b l (bad f c g) k e = not_given (sym (first_bad_lem (bytes_in m x.region) (bytes_in m y.region) c) ∙ e)
result_known m x y b l (good g o t) (bad f c h) e =
    not_given (sym (second_bad (bytes_in m x.region) (bytes_in m y.region) (table_good (bytes_in m x.region) (merged_of (map records x.origins)) t) c) ∙ e)
result_known m x y b l (good g o t) (good h p u) e =
    let a = bytes_in m x.region in
    let c = bytes_in m y.region in
    let ts = map records x.origins in
    let us = map records y.origins in
    let os : List (List File) = map records (x.origins ++ y.origins) in
    let ok : Origins (x.origins ++ y.origins) = origins_append x.origins y.origins o p in
    let r = merge_gave a c l e in
    let same : merged_records a c ≡ merged_of os =
    merged_origins a c ts us (records_of a (merged_of ts) t) (records_of c (merged_of us) u) (records_append x.origins y.origins o p)
    ∙ ap merged_of (sym (map-append records x.origins y.origins)) in
    let there : bytes_from (written m b.at l) b.at (length l) ≡ table_of (merged_of os) = bytes_written m b.at l ∙ r.is ∙ ap table_of same in
    let fit = subst (λ (fs : List File). is_within (length fs) (length (table_of fs)) ≡ true) same r.within in
    good (good_append x.origins y.origins g h) ok (subst (λ (v : List ℕ). GoodTable v (merged_of os)) (sym there) (merged_good os ok fit))

call_known : (m : Memory) (slices : List Slice) (x y : Slice) (b : Region) (o : Outcome) → in_room b.size (merging m x y) ≡ o → x ∈ slices → y ∈ slices → AllKnown m slices
    → AllKnown (written m b.at (buffer_after o (bytes_in m b))) (slices_after o x y b.at slices)
call_known m slices x y b (refuses k p) e i j h = subst (λ (n : Memory). AllKnown n slices) (sym (written_back m b.at b.size)) h
call_known m slices x y b (gives l) e i j h =
    subst (λ (n : Memory). AllKnown n (slices_after (gives l) x y b.at slices)) (sym (written_filled m b.at l b.size (given_room b.size (merging m x y) l e).1)) all
  where
    all : AllKnown (written m b.at l) (slices_after (gives l) x y b.at slices)
    all z k = ⊎_elim (λ f. subst (λ (w : Slice). Known (written m b.at l) w) (sym f) (result_known m x y b l (h x i) (h y j) (given_room b.size (merging m x y) l e).0)) (λ q. written_known m slices b.at l h z q) (Memᴰ.cases_cons k)

step_known : (s : State) (e : Action) → Allowed s e → AllKnown s.memory s.slices → AllKnown (step s e).memory (step s e).slices
step_known s (call x y b) a h = call_known s.memory s.slices x y b (in_room b.size (merging s.memory x y)) refl a.0 a.1 h
step_known s (write at l) a h = written_known s.memory s.slices at l h

-- the start

starting_known : (m : Memory) (r : Region) → HoldsBytes m → Known m (starting m r)
starting_known m r h = go (is_good (bytes_in m r)) refl
  where
    go : (t : Bool) → is_good (bytes_in m r) ≡ t → Known m (starting m r)
    go true e =
        let g = good_table (bytes_in m r) (holds_bytes m r.at r.size h) e in
        let fs = records (bytes_in m r) in
        good (rw e refl) (subst AllOK (sym (append-nil fs)) (all_ok fs g.valid)) (subst (λ (l : List File). GoodTable (bytes_in m r) l) (sym (merged_one fs g.rising)) g)
    go false e = bad refl e (rw e refl)

start_known : (m : Memory) (rs : List Region) → HoldsBytes m → AllKnown m (map (starting m) rs)
start_known m [] h x i = absurd (Memᴰ.not-nil i)
start_known m (r ∷ rs) h x i = ⊎_elim (λ e. subst (λ (w : Slice). Known m w) (sym e) (starting_known m r h)) (λ j. start_known m rs h x j) (Memᴰ.cases_cons i)

-- the claim

kept : (s : State) → AllKnown s.memory s.slices → Kept s
kept s h =
    record {
      results = λ x i e. result x e (h x i);
      good = λ x i. same_test x (h x i);
      same = λ x i e. same_bytes x e (h x i);
      highest = λ x i e. highest_records x e (h x i);
      answers = λ x y i j. by_origins s.memory x y (h x i) (h y j);
    }
  where
    result : (x : Slice) → x.is_result ≡ true → Known s.memory x → all_good x.origins ≡ true
    result x e (bad f b g) = let z : ◌≡◌ {A = ℕ} 0 1 = cc in absurd (omega arith)
    result x e (good g o t) = g

    same_test : (x : Slice) → Known s.memory x → is_good (bytes_in s.memory x.region) ≡ all_good x.origins
    same_test x (bad f b g) = b ∙ sym g
    same_test x (good g o t) = table_good (bytes_in s.memory x.region) (merged_of (map records x.origins)) t ∙ sym g

    same_bytes : (x : Slice) → all_good x.origins ≡ true → Known s.memory x → bytes_in s.memory x.region ≡ merged_table x.origins
    same_bytes x e (bad f b g) = let z : ◌≡◌ {A = ℕ} 0 1 = cc in absurd (omega arith)
    same_bytes x e (good g o t) = t.is

    highest_records : (x : Slice) → all_good x.origins ≡ true → Known s.memory x → Highest (joined (map records x.origins)) (records (bytes_in s.memory x.region))
    highest_records x e (bad f b g) = let z : ◌≡◌ {A = ℕ} 0 1 = cc in absurd (omega arith)
    highest_records x e (good g o t) =
        let ts : List (List File) = map records x.origins in
        subst (λ (l : List File). Highest (joined ts) l) (sym (records_of (bytes_in s.memory x.region) (merged_of ts) t)) (merged_highest ts)

throughout : (s : State) (es : List Action) → AllAllowed s es → AllKnown s.memory s.slices → Throughout s es
throughout s [] a h = kept s h
throughout s (e ∷ es) a h = (kept s h, throughout (step s e) es a.1 (step_known s e a.0 h))

-- from any starting slices, good tables or not, through any list of calls and writes
pub list_of_merges : (m : Memory) (rs : List Region) (es : List Action) → HoldsBytes m → AllAllowed (start m rs) es → Throughout (start m rs) es
list_of_merges m rs es h a = throughout (start m rs) es a (start_known m rs h)

-- two lists of merges, wherever they began: results and good starting tables of the same origins are the same, whatever the order, grouping and repetition

run_known : (s : State) (es : List Action) → AllAllowed s es → AllKnown s.memory s.slices → AllKnown (run s es).memory (run s es).slices
run_known s [] a h = h
run_known s (e ∷ es) a h = run_known (step s e) es a.1 (step_known s e a.0 h)

in_joined : (us : List (List ℕ)) (t : List ℕ) (f : File) → Memᴰ t us → Memᴰ f (records t) → Memᴰ f (joined (map records us))
in_joined [] t f i m = absurd (Memᴰ.not-nil i)
in_joined (u ∷ us) t f i m =
    ⊎_elim (λ e. Memᴰ.append_left (joined (map records us)) (subst (λ (v : List ℕ). Memᴰ f (records v)) e m)) (λ j. Memᴰ.append_right (records u) (in_joined us t f j m)) (Memᴰ.cases_cons i)

pub same_joined : (ts us : List (List ℕ)) → ((t : List ℕ) → Memᴰ t ts → Memᴰ t us) → Within (joined (map records ts)) (joined (map records us))
same_joined [] us h f m = absurd (Memᴰ.not-nil m)
same_joined (t ∷ ts) us h f m =
    ⊎_elim (λ k. in_joined us t f (h t (Memᴰ.head refl)) k) (λ k. same_joined ts us (λ u i. h u (Memᴰ.tail i)) f k) (Memᴰ.append_cases (records t) m)

same_known : (m n : Memory) (x y : Slice) → all_good x.origins ≡ true → all_good y.origins ≡ true → SameTables x.origins y.origins → Known m x → Known n y → bytes_in m x.region ≡ bytes_in n y.region
same_known m n x y e f s (bad p b g) k = let z : ◌≡◌ {A = ℕ} 0 1 = cc in absurd (omega arith)
same_known m n x y e f s (good g o t) (bad p b h) = let z : ◌≡◌ {A = ℕ} 0 1 = cc in absurd (omega arith)
same_known m n x y e f s (good g o t) (good h p u) =
    t.is ∙ ap table_of (merged_same (map records x.origins) (map records y.origins) p (same_joined x.origins y.origins s.0) (same_joined y.origins x.origins s.1)) ∙ sym u.is

pub whatever_order : (m n : Memory) (rs qs : List Region) (es fs : List Action) → HoldsBytes m → HoldsBytes n → AllAllowed (start m rs) es → AllAllowed (start n qs) fs
    → (x y : Slice) → x ∈ (run (start m rs) es).slices → y ∈ (run (start n qs) fs).slices → all_good x.origins ≡ true → all_good y.origins ≡ true → SameTables x.origins y.origins
    → bytes_in (run (start m rs) es).memory x.region ≡ bytes_in (run (start n qs) fs).memory y.region
whatever_order m n rs qs es fs h k a b x y i j e f s =
    same_known (run (start m rs) es).memory (run (start n qs) fs).memory x y e f s
    (run_known (start m rs) es a (start_known m rs h) x i) (run_known (start n qs) fs b (start_known n qs k) y j)

-- what is at hand after some actions, where its origins are good tables
pub at_hand : (m : Memory) (rs : List Region) (es : List Action) → HoldsBytes m → AllAllowed (start m rs) es → (x : Slice) → x ∈ (run (start m rs) es).slices → all_good x.origins ≡ true
    → Origins x.origins × GoodTable (bytes_in (run (start m rs) es).memory x.region) (merged_of (map records x.origins))
at_hand m rs es h a x i e = go (run_known (start m rs) es a (start_known m rs h) x i)
  where
    go : Known (run (start m rs) es).memory x → Origins x.origins × GoodTable (bytes_in (run (start m rs) es).memory x.region) (merged_of (map records x.origins))
    go (bad f b g) = let z : ◌≡◌ {A = ℕ} 0 1 = cc in absurd (omega arith)
    go (good g o t) = (o, t)

pub kept_finally : (m : Memory) (rs : List Region) (es : List Action) → HoldsBytes m → AllAllowed (start m rs) es → Kept (run (start m rs) es)
kept_finally m rs es h a = kept (run (start m rs) es) (run_known (start m rs) es a (start_known m rs h))
