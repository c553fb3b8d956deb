-- Laying links out in words, and taking them up.
use Prim.Native.Nat.{ℕ, zero, suc, ◌+◌, ◌*◌, ◌-◌, ◌<◌, ◌≤◌}
use native.Mathlib.Numerals.{add-one}
use native.Mathlib.Omega.{arith}
use native.Mathlib.Decide.{dec_lt}
use mathlib.Core.Path.{◌≡◌, refl, sym, ap, ◌∙◌}
use mathlib.Core.List.{List, [], ◌∷◌, ◌++◌, append-nil, append_assoc}
use lib.ListN.{length, length-append, length-set, take, drop, get_or, set, replicate, drop_of_length-le, length-drop, get_or-append}
use lib.Seq.{paste, paste-suc, set_at, append_snoc, take_all, take-suc, get_or-drop, get_or-append_seam}
use mathlib.Core.Bool.{◌&&◌}
use lib.Dec.{leb}
use Rattle.message.specs.Limits.{id_limit}
use Rattle.link.specs.Requests.{blank}
use Rattle.link.specs.OneLink.{window_fits, shape_fits}
use Rattle.link.specs.declared.request.Request.{Request}
use Rattle.link.specs.declared.list.Link.{Link}
use Rattle.queue_lent.specs.Words.{tabulated, entry_at, link_in, pairs, link_words}

-- twice a number, one further
twice : (n : ℕ) → 2 * suc n ≡ suc (suc (2 * n))
twice n = omega arith

pub length_pairs : (es : List Request) → length (pairs es) ≡ 2 * length es
length_pairs [] = refl
length_pairs (e ∷ es) = ap (λ (k : ℕ). suc (suc k)) (length_pairs es) ∙ sym (twice (length es))

pair_id : (es : List Request) (i : ℕ) → get_or (pairs es) (2 * i) 0 ≡ (get_or es i blank).id
pair_id [] i = refl
pair_id (e ∷ es) zero = refl
pair_id (e ∷ es) (suc i) = ap (λ (k : ℕ). get_or (pairs (e ∷ es)) k 0) (twice i) ∙ pair_id es i

pair_length : (es : List Request) (i : ℕ) → get_or (pairs es) (suc (2 * i)) 0 ≡ (get_or es i blank).size
pair_length [] i = refl
pair_length (e ∷ es) zero = refl
pair_length (e ∷ es) (suc i) = ap (λ (k : ℕ). get_or (pairs (e ∷ es)) (suc k) 0) (twice i) ∙ pair_length es i

-- a turn that stores one entry
pub put_more : (d : List ℕ) (i : ℕ) (es : List Request) → 4 + 2 * i < length d → i < length es
    → set (set (paste d 3 (pairs es) (2 * i)) (3 + 2 * i) (get_or es i blank).id) (4 + 2 * i) (get_or es i blank).size
    ≡ paste d 3 (pairs es) (2 * (i + 1))
put_more d i es hd he =
    let p : List ℕ = pairs es in
    let x : ℕ = (get_or es i blank).size in
    let lp : length p ≡ 2 * length es = length_pairs es in
    let k : 4 + 2 * i ≡ 3 + suc (2 * i) = omega arith in
    let n : suc (suc (2 * i)) ≡ 2 * (i + 1) = omega arith in
    ap (λ (v : ℕ). set (set (paste d 3 p (2 * i)) (3 + 2 * i) v) (4 + 2 * i) x) (sym (pair_id es i))
    ∙ ap (λ (l : List ℕ). set l (4 + 2 * i) x) (paste-suc d 3 p (2 * i) 0 (omega arith) (omega arith))
    ∙ ap (λ (v : ℕ). set (paste d 3 p (suc (2 * i))) (4 + 2 * i) v) (sym (pair_length es i))
    ∙ ap (λ (j : ℕ). set (paste d 3 p (suc (2 * i))) j (get_or p (suc (2 * i)) 0)) k
    ∙ paste-suc d 3 p (suc (2 * i)) 0 (omega arith) (omega arith)
    ∙ ap (paste d 3 p) n

-- a turn that takes up one entry
length_tabulated : {X : Type 0} (f : ℕ → X) (n : ℕ) → length (tabulated f n) ≡ n
length_tabulated f zero = refl
length_tabulated f (suc n) = length-append (tabulated f n) (f n ∷ []) ∙ rw (length_tabulated f n) (add-one n)

pub tabulated_more : {X : Type 0} (f : ℕ → X) (b : X) (n i : ℕ) → i < n
    → set (tabulated f i ++ replicate (n - i) b) i (f i) ≡ tabulated f (i + 1) ++ replicate (n - (i + 1)) b
tabulated_more {X} f b n i h =
    let e : n - i ≡ suc (n - (i + 1)) = omega arith in
    ap (λ (k : ℕ). set (tabulated f i ++ replicate k b) i (f i)) e
    ∙ set_at (tabulated f i) b (replicate (n - (i + 1)) b) (f i) i (length_tabulated f i)
    ∙ sym (append_snoc (tabulated f i) (f i) (replicate (n - (i + 1)) b))
    ∙ ap (λ (k : ℕ). tabulated f k ++ replicate (n - (i + 1)) b) (sym (add-one i))

heads : (ws : List ℕ) (a b c : ℕ) → 3 ≤ length ws → take 3 (set (set (set ws 0 a) 1 b) 2 c) ≡ a ∷ b ∷ c ∷ []
heads [] a b c h = absurd (omega arith)
heads (x ∷ []) a b c h = absurd (omega arith)
heads (x ∷ y ∷ []) a b c h = absurd (omega arith)
heads (x ∷ y ∷ z ∷ ws) a b c h = refl

-- the whole
pub packed : (ws : List ℕ) (q : Link) → length ws ≡ 35 → length q.entries ≡ 16
    → paste (set (set (set ws 0 q.window) 1 q.next) 2 q.count) 3 (pairs q.entries) 32 ≡ link_words q
packed ws q l e =
    let d : List ℕ = set (set (set ws 0 q.window) 1 q.next) 2 q.count in
    let h : List ℕ = q.window ∷ q.next ∷ q.count ∷ [] in
    let p : List ℕ = pairs q.entries in
    let ld : length d ≡ 35 = simp length-set l in
    let lp : length p ≡ 32 = length_pairs q.entries ∙ ap (λ (k : ℕ). 2 * k) e in
    let none : drop 35 d ≡ [] = drop_of_length-le d {i = 35} (omega arith) in
    ap (λ (x : List ℕ). x ++ take 32 p ++ drop 35 d) (heads ws q.window q.next q.count (omega arith))
    ∙ ap (λ (x : List ℕ). h ++ x ++ drop 35 d) (take_all 32 p (omega arith))
    ∙ ap (λ (x : List ℕ). h ++ p ++ x) none
    ∙ append-nil _

pairs_append : (a b : List Request) → pairs (a ++ b) ≡ pairs a ++ pairs b
pairs_append [] b = refl
pairs_append (e ∷ a) b = ap (λ (l : List ℕ). e.id ∷ e.size ∷ l) (pairs_append a b)

-- the words of the entries that were taken up
pairs_tabulated : (ws : List ℕ) (n : ℕ) → 3 + 2 * n ≤ length ws → pairs (tabulated (entry_at ws) n) ≡ take (2 * n) (drop 3 ws)
pairs_tabulated ws zero h = refl
pairs_tabulated ws (suc n) h =
    let r : List ℕ = drop 3 ws in
    let lr : length r ≡ length ws - 3 = length-drop 3 ws in
    let one : take (suc (2 * n)) r ≡ take (2 * n) r ++ (get_or r (2 * n) 0 ∷ []) = take-suc r (2 * n) 0 (omega arith) in
    let two : take (suc (suc (2 * n))) r ≡ take (suc (2 * n)) r ++ (get_or r (suc (2 * n)) 0 ∷ []) = take-suc r (suc (2 * n)) 0 (omega arith) in
    let k : 3 + suc (2 * n) ≡ 4 + 2 * n = omega arith in
    let id_is : get_or ws (3 + 2 * n) 0 ≡ get_or r (2 * n) 0 = sym (get_or-drop 3 ws (2 * n) 0) in
    let length_is : get_or ws (4 + 2 * n) 0 ≡ get_or r (suc (2 * n)) 0 = ap (λ (j : ℕ). get_or ws j 0) (sym k) ∙ sym (get_or-drop 3 ws (suc (2 * n)) 0) in
    pairs_append (tabulated (entry_at ws) n) (entry_at ws n ∷ [])
    ∙ ap (λ (l : List ℕ). l ++ (get_or ws (3 + 2 * n) 0 ∷ get_or ws (4 + 2 * n) 0 ∷ [])) (pairs_tabulated ws n (omega arith))
    ∙ ap (λ (x : ℕ). take (2 * n) r ++ (x ∷ get_or ws (4 + 2 * n) 0 ∷ [])) id_is
    ∙ ap (λ (x : ℕ). take (2 * n) r ++ (get_or r (2 * n) 0 ∷ x ∷ [])) length_is
    ∙ sym (append_assoc (take (2 * n) r) (get_or r (2 * n) 0 ∷ []) (get_or r (suc (2 * n)) 0 ∷ []))
    ∙ ap (λ (l : List ℕ). l ++ (get_or r (suc (2 * n)) 0 ∷ [])) (sym one)
    ∙ sym two
    ∙ ap (λ (j : ℕ). take j r) (sym (twice n))

heads_back : (ws : List ℕ) → 3 ≤ length ws → get_or ws 0 0 ∷ get_or ws 1 0 ∷ get_or ws 2 0 ∷ drop 3 ws ≡ ws
heads_back [] h = absurd (omega arith)
heads_back (x ∷ []) h = absurd (omega arith)
heads_back (x ∷ y ∷ []) h = absurd (omega arith)
heads_back (x ∷ y ∷ z ∷ ws) h = refl

-- words taken up and laid out again are the same
pub words_back : (ws : List ℕ) → length ws ≡ 35 → link_words (link_in ws) ≡ ws
unfolding link_in
words_back ws l =
    let short : length (drop 3 ws) ≤ 32 = rw (length-drop 3 ws) (omega arith) in
    ap (λ (r : List ℕ). get_or ws 0 0 ∷ get_or ws 1 0 ∷ get_or ws 2 0 ∷ r) (pairs_tabulated ws 16 (omega arith) ∙ take_all 32 (drop 3 ws) short)
    ∙ heads_back ws (omega arith)

-- a link laid out and taken up again is the same

tabulated_same : {X : Type 0} (f g : ℕ → X) → ((i : ℕ) → f i ≡ g i) → (n : ℕ) → tabulated f n ≡ tabulated g n
tabulated_same f g e zero = refl
tabulated_same f g e (suc n) = ap (λ (l : List _). l ++ (f n ∷ [])) (tabulated_same f g e n) ∙ ap (λ (x : _). tabulated g n ++ (x ∷ [])) (e n)

tabulated_take : (es : List Request) (n : ℕ) → n ≤ length es → tabulated (λ i. get_or es i blank) n ≡ take n es
tabulated_take es zero h = refl
tabulated_take es (suc n) h = ap (λ (l : List Request). l ++ (get_or es n blank ∷ [])) (tabulated_take es n (omega arith)) ∙ sym (take-suc es n blank (omega arith))

entry_back : (q : Link) (i : ℕ) → entry_at (link_words q) i ≡ get_or q.entries i blank
entry_back q i =
    let ws : List ℕ = link_words q in
    let a : 3 + 2 * i ≡ suc (suc (suc (2 * i))) = omega arith in
    let c : 4 + 2 * i ≡ suc (suc (suc (suc (2 * i)))) = omega arith in
    let id : get_or ws (3 + 2 * i) 0 ≡ (get_or q.entries i blank).id = ap (λ (k : ℕ). get_or ws k 0) a ∙ pair_id q.entries i in
    let size : get_or ws (4 + 2 * i) 0 ≡ (get_or q.entries i blank).size = ap (λ (k : ℕ). get_or ws k 0) c ∙ pair_length q.entries i in
    ap (λ (k : ℕ). record { id = k; size = get_or ws (4 + 2 * i) 0 }) id ∙ ap (λ (k : ℕ). record { id = (get_or q.entries i blank).id; size = k }) size

pub link_back : (q : Link) → length q.entries ≡ 16 → link_in (link_words q) ≡ q
unfolding link_in
link_back q long =
    ap (λ (es : List Request). record { window = q.window; next = q.next; count = q.count; entries = es })
    (tabulated_same (entry_at (link_words q)) (λ i. get_or q.entries i blank) (entry_back q) 16 ∙ tabulated_take q.entries 16 (omega (arith, long)) ∙ take_all 16 q.entries (omega (arith, long)))

-- what a link's words tell

pub entries_long : (ws : List ℕ) → length (link_in ws).entries ≡ 16
unfolding link_in
entries_long ws = length_tabulated (entry_at ws) 16

get_or_tabulated : {X : Type 0} (f : ℕ → X) (d : X) (n i : ℕ) → i < n → get_or (tabulated f n) i d ≡ f i
get_or_tabulated f d zero i h = absurd (omega arith)
get_or_tabulated {X} f d (suc n) i h = go (dec_lt i n) (λ b. get_or_tabulated f d n i b)
  where
    long : length (tabulated f n) ≡ n
    long = length_tabulated f n

    go : Dec (i < n) → (i < n → get_or (tabulated f n) i d ≡ f i) → get_or (tabulated f n ++ (f n ∷ [])) i d ≡ f i
    go (yes b) k = get_or-append (tabulated f n) (f n ∷ []) d i (omega (arith, long)) ∙ k b
    go (no b) k =
        let same : i ≡ n = omega arith in
        let here : i ≡ length (tabulated f n) = omega (arith, long) in
        ap (λ (m : ℕ). get_or (tabulated f n ++ (f n ∷ [])) m d) here ∙ get_or-append_seam (tabulated f n) (f n) [] d ∙ ap f (sym same)

pub entry_at_lem : (ws : List ℕ) (i : ℕ) → i < 16 → get_or (link_in ws).entries i blank ≡ entry_at ws i
unfolding link_in
entry_at_lem ws i h = get_or_tabulated (entry_at ws) blank 16 i h

pub count_is : (ws : List ℕ) → (link_in ws).count ≡ get_or ws 2 0
unfolding link_in
count_is ws = refl

pub next_is : (ws : List ℕ) → (link_in ws).next ≡ get_or ws 1 0
unfolding link_in
next_is ws = refl

pub shape_is : (ws : List ℕ) → shape_fits (link_in ws) ≡ (window_fits (get_or ws 0 0) && (leb (get_or ws 2 0) (get_or ws 0 0) && leb (get_or ws 1 0) id_limit))
unfolding link_in
shape_is ws = refl
