-- Counting a record's blocks that are not held, and how long lists of wanted blocks are.
use Prim.Native.Nat.{ℕ, zero, suc, ◌+◌, ◌-◌, ◌≤◌, ◌<◌}
use mathlib.Core.List.{List, [], ◌∷◌}
use mathlib.Core.Path.{◌≡◌, refl, sym, ap, ◌∙◌}
use mathlib.Core.Bool.{Bool, true, false, cond}
use native.Mathlib.Omega.{arith}
use lib.ListN.{length, length-append}
use Rattle.record.specs.Block.{Block}
use Rattle.record.specs.File.{File}
use Rattle.record.specs.Outline.{block_place}
use Rattle.want.specs.Listing.{is_held}
use Rattle.want.specs.Steps.Blocks.{block_here, blocks_from}
use Rattle.want.specs.Wanted.{wanted_block, wanted_blocks}
use Rattle.want.specs.Steps.Places.{wanted_count}
use Rattle.want.specs.declared.list.Wanted.{Wanted}

-- what the loop keeps: so many of the blocks before j are not held
pub record Counting (local : List File) (t : List ℕ) (first count n j : ℕ) : Type 0 where
  pub same : wanted_count local (blocks_from t first 0 count) ≡ n + wanted_count local (blocks_from t first j (count - j))
  pub few : n ≤ j

one_or_none : (b : Bool) → cond b 0 1 ≤ 1
one_or_none true = omega arith
one_or_none false = omega arith

pub counting_starts : (local : List File) (t : List ℕ) (first count : ℕ) → Counting local t first count 0 0
counting_starts local t first count =
    let all : count ≡ count - 0 = omega arith in
    let same : wanted_count local (blocks_from t first 0 count) ≡ wanted_count local (blocks_from t first 0 (count - 0)) = ap (λ (k : ℕ). wanted_count local (blocks_from t first 0 k)) all in
    record { same = omega (arith, same); few = omega arith }

module _ {local : List File} {t : List ℕ} {first count n j : ℕ} (w : Counting local t first count n j) where
  pub counting_turn : {p r : ℕ} → j < count → p ≡ block_place first j → r ≡ cond (is_held local (block_here t p)) 0 1 → Counting local t first count (n + r) (j + 1)
  counting_turn {p} {r} h q d =
      let e : r ≡ cond (is_held local (block_here t (block_place first j))) 0 1 = d ∙ ap (λ (k : ℕ). cond (is_held local (block_here t k)) 0 1) q in
      let left : count - j ≡ suc (count - (j + 1)) = omega arith in
      let next : wanted_count local (blocks_from t first j (count - j)) ≡ r + wanted_count local (blocks_from t first (j + 1) (count - (j + 1))) =
      ap (λ (k : ℕ). wanted_count local (blocks_from t first j k)) left ∙ ap (λ (k : ℕ). k + wanted_count local (blocks_from t first (j + 1) (count - (j + 1)))) (sym e) in
      record { same = omega (arith, w.same, next); few = omega (arith, w.few, e, one_or_none (is_held local (block_here t (block_place first j)))) }

  pub counting_small : (p : ℕ) {r : ℕ} → r ≡ cond (is_held local (block_here t p)) 0 1 → r ≤ 1
  counting_small p e = omega (arith, e, one_or_none (is_held local (block_here t p)))

  pub counting_ends : count ≤ j → n ≡ wanted_count local (blocks_from t first 0 count)
  counting_ends h =
      let none : count - j ≡ 0 = omega arith in
      let nothing : wanted_count local (blocks_from t first j (count - j)) ≡ 0 = ap (λ (k : ℕ). wanted_count local (blocks_from t first j k)) none in
      omega (arith, w.same, nothing)

-- as many as are wanted

block_count_lem : (local : List File) (peer : ℕ → Block → ℕ) (file block offset : ℕ) (b : Block) → length (wanted_block local peer file block offset b) ≡ cond (is_held local b) 0 1
block_count_lem local peer file block offset b = go (is_held local b)
  where
    w : Wanted
    w = record { file = file; block = block; offset = offset; size = b.size; peer = peer offset b }

    go : (v : Bool) → length (cond v [] (w ∷ [])) ≡ cond v 0 1
    go true = refl
    go false = refl

pub wanted_count_lem : (local : List File) (peer : ℕ → Block → ℕ) (file block offset : ℕ) (l : List Block) → length (wanted_blocks local peer file block offset l) ≡ wanted_count local l
wanted_count_lem local peer file block offset [] = refl
wanted_count_lem local peer file block offset (b ∷ l) =
    let k = wanted_count_lem local peer file (block + 1) (offset + b.size) l in
    let n = block_count_lem local peer file block offset b in
    omega (arith, length-append (wanted_block local peer file block offset b) (wanted_blocks local peer file (block + 1) (offset + b.size) l))

pub count_few : (local : List File) (l : List Block) → wanted_count local l ≤ length l
count_few local [] = omega arith
count_few local (b ∷ l) = omega (arith, count_few local l, one_or_none (is_held local b))

pub length_from : (t : List ℕ) (first j n : ℕ) → length (blocks_from t first j n) ≡ n
length_from t first j zero = refl
length_from t first j (suc n) = ap suc (length_from t first (j + 1) n)

-- whom to ask goes by what is answered
pub same_peers : (local : List File) (p q : ℕ → Block → ℕ) → ((offset : ℕ) (b : Block) → p offset b ≡ q offset b) → (file block offset : ℕ) (l : List Block)
    → wanted_blocks local p file block offset l ≡ wanted_blocks local q file block offset l
same_peers local p q e file block offset [] = refl
same_peers local p q e file block offset (b ∷ l) =
    rw (e offset b, same_peers local p q e file (block + 1) (offset + b.size) l) refl
