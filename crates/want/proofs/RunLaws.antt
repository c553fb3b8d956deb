-- Runs of blocks: looking for a block from a mark on, and passing the blocks before an offset.
use Prim.Native.Nat.{ℕ, suc, ◌+◌, ◌-◌, ◌≤◌, ◌<◌}
use mathlib.Core.List.{List, [], ◌∷◌}
use mathlib.Core.Path.{◌≡◌, refl, sym, ap, ◌∙◌}
use mathlib.Core.Bool.{Bool, true, false, ◌&&◌, ◌||◌}
use native.Mathlib.Omega.{arith}
use borrow.Author.Tests.{ne_eqb}
use lib.ListN.{length}
use lib.Dec.{eqb}
use Rattle.record.specs.Block.{Block}
use Rattle.record.specs.Outline.{word_at, blocks_size, block_place}
use Rattle.want.specs.Listing.{is_same, has_there}
use Rattle.want.specs.Steps.Blocks.{block_here, blocks_from}
use Rattle.want.specs.Steps.Runs.{is_ahead, mark_of, MarkIn, Marked}
use Rattle.want.specs.declared.run.Run.{Run}
use Rattle.want.specs.declared.run.Mark.{Mark}

abbrev pub run_of : (first count : ℕ) → Run
run_of first count = record { first = first; count = count }

-- the block at a mark, and the mark after it
module _ {t : List ℕ} {first count j from : ℕ} (w : MarkIn t (run_of first count) (mark_of j from)) (h : j < count) where
  pub mark_there : block_place first j + 40 ≤ length t
  mark_there = omega (arith, w.whole)

  pub mark_next : {n : ℕ} → n < 4294967296 → MarkIn t (run_of first count) (mark_of (j + 1) (from + n))
  mark_next m = record { whole = w.whole; few = omega arith; small = omega (arith, w.small) }

  next_ahead : (o : ℕ) (b : Block)
      → is_ahead t (run_of first count) (mark_of j from) o b
      ≡ ((eqb from o && is_same (block_here t (block_place first j)) b) || is_ahead t (run_of first count) (mark_of (j + 1) (from + word_at t (block_place first j))) o b)
  next_ahead o b = let left : count - j ≡ suc (count - (j + 1)) = omega arith in ap (λ (k : ℕ). has_there from (blocks_from t first j k) o b) left

  module _ {p : ℕ} (q : p ≡ block_place first j) (o : ℕ) (b : Block) {r : Bool} (e : r ≡ (eqb from o && is_same (block_here t p) b)) where
    here : r ≡ (eqb from o && is_same (block_here t (block_place first j)) b)
    here = e ∙ ap (λ (k : ℕ). eqb from o && is_same (block_here t k) b) q

    ahead_found : r ≡ true → true ≡ is_ahead t (run_of first count) (mark_of j from) o b
    ahead_found f = sym (next_ahead o b ∙ rw (sym here ∙ f) refl)

    ahead_next : {n : ℕ} → n ≡ word_at t p → r ≡ false → is_ahead t (run_of first count) (mark_of j from) o b ≡ is_ahead t (run_of first count) (mark_of (j + 1) (from + n)) o b
    ahead_next k f =
        next_ahead o b
        ∙ rw (sym here ∙ f) (ap (λ (m : ℕ). is_ahead t (run_of first count) (mark_of (j + 1) (from + m)) o b) (sym (k ∙ ap (word_at t) q)))

-- looking for a block: what was asked of all is asked of those from the mark on
pub record Looking (t : List ℕ) (first count offset : ℕ) (b : Block) (asked : Bool) (j from : ℕ) : Type 0 where
  pub same : asked ≡ is_ahead t (run_of first count) (mark_of j from) offset b
  pub marks : MarkIn t (run_of first count) (mark_of j from)

-- the same mark in a run of two numbers
pub mark_in : {t : List ℕ} {r : Run} {m : Mark} → MarkIn t r m → MarkIn t (run_of r.first r.count) (mark_of m.j m.from)
mark_in w = record { whole = w.whole; few = w.few; small = w.small }

pub look_starts : (t : List ℕ) (r : Run) (m : Mark) (offset : ℕ) (b : Block) → MarkIn t r m → Looking t r.first r.count offset b (is_ahead t r m offset b) m.j m.from
look_starts t r m offset b w = record { same = refl; marks = mark_in w }

-- no block is at an offset that is passed
passed : (l : List Block) (from offset : ℕ) (b : Block) → offset < from → false ≡ has_there from l offset b
passed [] from offset b h = refl
passed (c ∷ l) from offset b h = rw (ne_eqb from offset (λ e. omega arith)) (passed l (from + c.size) offset b (omega arith))

module _ {t : List ℕ} {first count offset : ℕ} {b : Block} {asked : Bool} {j from : ℕ} (w : Looking t first count offset b asked j from) where
  pub look_passed : offset < from → false ≡ asked
  look_passed h = passed (blocks_from t first j (count - j)) from offset b h ∙ sym w.same

  pub look_ends : count ≤ j → false ≡ asked
  look_ends h =
      let none : count - j ≡ 0 = omega arith in
      sym (w.same ∙ ap (λ (k : ℕ). has_there from (blocks_from t first j k) offset b) none)

  module _ {p : ℕ} {r : Bool} (h : j < count) (q : p ≡ block_place first j) (e : r ≡ (eqb from offset && is_same (block_here t p) b)) where
    pub look_finds : r ≡ true → true ≡ asked
    look_finds f = ahead_found w.marks h q offset b e f ∙ sym w.same

    pub look_goes_on : {n : ℕ} → r ≡ false → n ≡ word_at t p → n < 4294967296 → Looking t first count offset b asked (j + 1) (from + n)
    look_goes_on f k m = record { same = w.same ∙ ahead_next w.marks h q offset b e k f; marks = mark_next w.marks h m }

-- passing the blocks before an offset
pub marked_turn : {t : List ℕ} {first count offset j from p n : ℕ} → Marked t (run_of first count) (mark_of j from) offset → j < count → from < offset → p ≡ block_place first j → n ≡ word_at t p → n < 4294967296
    → Marked t (run_of first count) (mark_of (j + 1) (from + n)) offset
marked_turn {t} {first} {count} {offset} {j} {from} w h l q k m =
    record {
      within = mark_next w.within h m;
      told = λ o b g. w.told o b g ∙ ahead_next w.within h q o b refl k (rw (ne_eqb from o (λ e. omega arith)) refl);
    }

-- a run, and the same by its two numbers

pub marked_in : {t : List ℕ} {r : Run} {m : Mark} {offset : ℕ} → Marked t r m offset → Marked t (run_of r.first r.count) (mark_of m.j m.from) offset
marked_in w = record { within = mark_in w.within; told = w.told }

pub marked_out : {t : List ℕ} {r : Run} {j from offset : ℕ} → Marked t (run_of r.first r.count) (mark_of j from) offset → Marked t r (mark_of j from) offset
marked_out w = record { within = record { whole = w.within.whole; few = w.within.few; small = w.within.small }; told = w.told }

-- a mark at the front of a run
pub marked_first : {t : List ℕ} {r : Run} (offset : ℕ) → r.first + blocks_size r.count ≤ length t → Marked t r (mark_of 0 0) offset
marked_first {t} {r} offset h =
    let all : r.count ≡ r.count - 0 = omega arith in
    record {
      within = record { whole = h; few = omega arith; small = omega arith };
      told = λ o b g. ap (λ (k : ℕ). has_there 0 (blocks_from t r.first 0 k) o b) all;
    }

-- a higher offset
pub marked_later : {t : List ℕ} {r : Run} {m : Mark} {offset later : ℕ} → Marked t r m offset → offset ≤ later → Marked t r m later
marked_later w h = record { within = w.within; told = λ o b g. w.told o b (omega arith) }
