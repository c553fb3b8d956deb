-- Blocks by number: what stands where they were read, and the offset of each.
use Rattle.std.proofs.Common.{◌≡◌, ℕ, zero, suc, ◌+◌, ◌≤◌, List, [], ◌∷◌, length, take, drop, sym, refl, ◌∙◌, subst, add-zero, arith, drop-cons, eqb-true}
use Rattle.std.specs.Prelude.{Some}
use Rattle.xdr.specs.Reading.{taken}
use Rattle.xdr.proofs.Steps.{Reads, opened, passed, ends_word}
use Rattle.xdr.proofs.Parts.{Elements, via_parts, pair_parts, test_passed}
use Rattle.record.specs.Block.{Block, block, total_size}
use Rattle.record.specs.Outline.{word_at, block_place, block_of, offset_of}
use Rattle.record.proofs.OutlineLaws.{word_read, block_whole}

-- a block that was read at a place
pub record BlockAt (s : List ℕ) (at : ℕ) (b : Block) (m : ℕ) : Type 0 where
  pub size_is : b.size ≡ word_at s at
  pub hash_is : b.hash ≡ take 32 (drop (at + 8) s)
  pub ends : m ≡ at + 40
  pub room : m ≤ length s

pub block_parts : {s : List ℕ} {at : ℕ} {b : Block} {m : ℕ} → Reads block s at (taken b m) → BlockAt s at b m
block_parts {s} {at} {b} {m} h =
    let p = pair_parts (via_parts h) in
    let n = word_read (passed p.1) in
    let o = opened p.2 in
    let w = ends_word (passed o.size) in
    let long : length b.hash ≡ 32 = eqb-true (length b.hash) 32 (test_passed o.size) in
    let start : o.start ≡ at + 8 = omega (arith, n.ends, w.0) in
    record {
      size_is = n.is;
      hash_is = o.contents_are ∙ rw (long, start) refl;
      ends = o.ends ∙ rw (long, start) (omega arith);
      room = let q = o.room in let e = o.ends in omega (arith, w.1);
    }

-- no block is beyond the last
none_left : {b : Block} {m : List Block} {P : Type 0} → [] ≡ b ∷ m → P
none_left e = let z : ◌≡◌ {A = ℕ} 0 1 = cc in absurd (omega arith)

-- block i of those that were read one after another
pub nth_block : (s : List ℕ) (l : List Block) (first next i : ℕ) (b : Block) (m : List Block) → Elements block s first l next → drop i l ≡ b ∷ m
    → BlockAt s (block_place first i) b (block_place first i + 40)
nth_block s [] first next zero b m e d = none_left d
nth_block s [] first next (suc i) b m e d = none_left d
nth_block s (a ∷ l) first next zero b m e d =
    let x = block_parts e.1 in
    let same : a ≡ b = cc in
    rw (add-zero, ← same) (record { size_is = x.size_is; hash_is = x.hash_is; ends = refl; room = omega (arith, x.ends, x.room) })
nth_block s (a ∷ l) first next (suc i) b m e d =
    let x = block_parts e.1 in
    let place : block_place e.0 i ≡ block_place first (suc i) = omega (arith, x.ends) in
    subst (λ (p : ℕ). BlockAt s p b (p + 40)) place (nth_block s l e.0 next i b m e.2 d)

pub nth_outline : (s : List ℕ) (l : List Block) (first next i : ℕ) (b : Block) (m : List Block) → Elements block s first l next → drop i l ≡ b ∷ m
    → block_of s first i ≡ Some (record { size = b.size; hash = block_place first i + 8 })
nth_outline s l first next i b m e d =
    let x = nth_block s l first next i b m e d in
    sym (block_whole s first i b.size (block_place first i + 8) x.size_is refl x.room)

-- they end 40 bytes a block after the first one begins
pub blocks_end : (s : List ℕ) (l : List Block) (first next : ℕ) → Elements block s first l next → next ≡ block_place first (length l)
blocks_end s [] first next e = e ∙ sym (add-zero first)
blocks_end s (a ∷ l) first next e =
    let x = block_parts e.1 in
    let place : block_place e.0 (length l) ≡ block_place first (suc (length l)) = omega (arith, x.ends) in
    blocks_end s l e.0 next e.2 ∙ place

-- the offset of block i is the sum of the Lengths before it

total_next : (l : List Block) (i : ℕ) (b : Block) (m : List Block) → drop i l ≡ b ∷ m → total_size (take i l) + b.size ≡ total_size (take (suc i) l)
total_next [] zero b m d = none_left d
total_next [] (suc i) b m d = none_left d
total_next (a ∷ l) zero b m d = let same : a ≡ b = cc in rw same (omega arith)
total_next (a ∷ l) (suc i) b m d = let e = total_next l i b m d in omega arith

pub offset_is : (s : List ℕ) (l : List Block) (first next i : ℕ) → Elements block s first l next → i ≤ length l → offset_of s first i ≡ total_size (take i l)
offset_is s l first next zero e h = refl
offset_is s l first next (suc i) e h =
    let d = drop-cons l i (record { size = 0; hash = [] }) h in
    rw (offset_is s l first next i e (omega arith), nth_outline s l first next i _ _ e d) (total_next l i _ _ d)
