-- Blocks that are all there: each is known by the eight bytes that it begins with.
use Rattle.std.proofs.Common.{◌≡◌, ℕ, zero, suc, ◌+◌, ◌*◌, ◌/◌, ◌%◌, ◌<◌, ◌≤◌, true, List, length, take, drop, sym, refl, ◌∙◌, subst, add-zero, arith, length-drop}
use native.Mathlib.Decide.{dec_lt}
use Rattle.xdr.specs.Reading.{taken}
use Rattle.xdr.specs.Fields.{word}
use Rattle.xdr.specs.Number.{big_endian, IsBytes}
use Rattle.xdr.proofs.NumberLaws.{bytes_drop, digits_read, two_words}
use Rattle.xdr.proofs.PadLaws.{zeros_zero}
use Rattle.xdr.proofs.Steps.{Reads, number_whole, checked_passed, via_taken, both_read, bytes_read}
use Rattle.xdr.proofs.Runs.{Progress, progress_none, progress_more}
use Rattle.record.specs.Block.{Block, is_size, to_block, block}
use Rattle.record.specs.Steps.{IsHead, SoundBlocks}
use Rattle.record.proofs.SizeRule.{size_fits}

-- what is left of a head when 1 and 32 are taken off its two numbers

pub head_is : (h left : ℕ) → h < 18446744073709551616 → (left + 4294967328) % 18446744073709551616 ≡ h → left % 4294967296 ≡ 0 → left / 4294967296 < 131072 → IsHead h
head_is h left b e z k =
    let small : left + 4294967328 < 18446744073709551616 = omega arith in
    let whole : h ≡ left + 4294967328 = omega arith in
    let high : h / 4294967296 ≡ left / 4294967296 + 1 = omega arith in
    let low : h % 4294967296 ≡ 32 = omega arith in
    (size_fits (h / 4294967296) (omega (arith, high)) (omega (arith, high)), low)

module _ (s : List ℕ) (b : IsBytes s) (at : ℕ) (room : at + 40 ≤ length s) (h : IsHead (big_endian 8 (drop at s))) where
  second_small : big_endian 4 (drop (at + 4) s) < 4294967296
  second_small = (digits_read 4 (drop (at + 4) s) (bytes_drop (at + 4) s b) (simp length-drop (omega arith))).1

  high : big_endian 8 (drop at s) / 4294967296 ≡ big_endian 4 (drop at s)
  high = let t = two_words s at in let k = second_small in omega arith

  low : big_endian 8 (drop at s) % 4294967296 ≡ big_endian 4 (drop (at + 4) s)
  low = let t = two_words s at in let k = second_small in omega arith

  -- it is a block
  pub head_block : (v : Block) × Reads block s at (taken v (at + 40))
  head_block =
      let size = checked_passed (number_whole s at 4 (omega arith)) (subst (λ (n : ℕ). is_size n ≡ true) high h.0) in
      let second : Reads word s (at + 4) (taken 32 (at + 4 + 4)) = subst (λ (n : ℕ). Reads word s (at + 4) (taken n (at + 4 + 4))) (sym low ∙ h.1) (number_whole s (at + 4) 4 (omega arith)) in
      let contents = bytes_read (checked_passed second refl) (omega arith) (zeros_zero 0) in
      let past : at + 4 + 4 + 32 ≡ at + 40 = omega arith in
      let v = to_block (big_endian 4 (drop at s), take 32 (drop (at + 4 + 4) s)) in
      (v, subst (λ (m : ℕ). Reads block s at (taken v m)) past (via_taken (both_read size contents)))

-- a block more

pub sound_none : (s : List ℕ) (first : ℕ) → first ≤ length s → SoundBlocks s first 0
sound_none s first h = (omega arith, λ i k. absurd (omega arith))

pub sound_more : (s : List ℕ) (first n : ℕ) → SoundBlocks s first n → IsHead (big_endian 8 (drop (first + n * 40) s)) → first + (n + 1) * 40 ≤ length s → SoundBlocks s first (n + 1)
sound_more s first n h k r = (r, λ i l. go i (dec_lt i n) l)
  where
    go : (i : ℕ) → Dec (i < n) → i < n + 1 → IsHead (big_endian 8 (drop (first + i * 40) s))
    go i (yes l) m = h.1 i l
    go i (no l) m = let e : n ≡ i = omega arith in subst (λ (j : ℕ). IsHead (big_endian 8 (drop (first + j * 40) s))) e k

-- and all of them are read
pub sound_progress : (s : List ℕ) → IsBytes s → (first n : ℕ) → SoundBlocks s first n → Progress block s first n (first + n * 40)
sound_progress s b first zero h = subst (λ (m : ℕ). Progress block s first 0 m) (sym (add-zero first)) (progress_none (omega (arith, h.0)))
sound_progress s b first (suc n) h =
    let before = sound_progress s b first n (omega (arith, h.0), λ i k. h.1 i (omega arith)) in
    let last = head_block s b (first + n * 40) (omega (arith, h.0)) (h.1 n (omega arith)) in
    let past : first + n * 40 + 40 ≡ first + suc n * 40 = omega arith in
    let one : n + 1 ≡ suc n = omega arith in
    subst (λ (m : ℕ). Progress block s first (suc n) m) past (subst (λ (k : ℕ). Progress block s first k (first + n * 40 + 40)) one (progress_more before last.1))
