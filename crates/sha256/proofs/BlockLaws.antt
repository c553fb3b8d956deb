-- Blocks of bytes that are joined.
use Rattle.std.proofs.Common.{◌≡◌, ℕ, zero, suc, ◌+◌, ◌-◌, ◌*◌, ◌/◌, ◌%◌, ◌≤◌, List, [], ◌∷◌, ◌++◌, length, take, drop, replicate, sym, refl, ap, ◌∙◌, append-nil, suc-add, zero-add, arith, length-append, length-drop, drop_of_length-le, take_all, drop-drop, take_at}
use native.Mathlib.Nat.{sub-zero, zero-sub}
use lib.ListN.{get_or-append}
use lib.Seq.{drop-append-le, take-length, drop-append-add, paste}
use Rattle.sha256.specs.Hash.{word_of, words_of, hash_block, hash_blocks, hash_all}
use Rattle.sha256.specs.Stream.{rest}
use Rattle.sha256.specs.declared.state.State.{State}

-- ---- what follows the bytes that are read makes no difference

word_append : (b r : List ℕ) → 4 ≤ length b → word_of (b ++ r) ≡ word_of b
unfolding word_of
word_append b r h =
    rw (get_or-append b r 0 0 (omega arith), get_or-append b r 0 1 (omega arith), get_or-append b r 0 2 (omega arith), get_or-append b r 0 3 (omega arith)) refl

words_append : (n : ℕ) (b r : List ℕ) → 4 * n ≤ length b → words_of n (b ++ r) ≡ words_of n b
unfolding words_of
words_append zero b r h = refl
words_append (suc n) b r h =
    ap (λ (w : ℕ). w ∷ words_of n (drop 4 (b ++ r))) (word_append b r (omega arith))
    ∙ ap (λ (l : List ℕ). word_of b ∷ words_of n l) (drop-append-le 4 b r (omega arith))
    ∙ ap (λ (l : List ℕ). word_of b ∷ l) (words_append n (drop 4 b) r (omega (arith, length-drop 4 b)))

block_append : (s : State) (b r : List ℕ) → 64 ≤ length b → hash_block s (b ++ r) ≡ hash_block s b
unfolding hash_block
block_append s b r h = rw (words_append 16 b r (omega arith)) refl

blocks_append : (n : ℕ) (s : State) (b r : List ℕ) → n * 64 ≤ length b → hash_blocks n s (b ++ r) ≡ hash_blocks n s b
unfolding hash_blocks
blocks_append zero s b r h = refl
blocks_append (suc n) s b r h =
    ap (λ (t : State). hash_blocks n t (drop 64 (b ++ r))) (block_append s b r (omega arith))
    ∙ ap (λ (l : List ℕ). hash_blocks n (hash_block s b) l) (drop-append-le 64 b r (omega arith))
    ∙ blocks_append n (hash_block s b) (drop 64 b) r (omega (arith, length-drop 64 b))

-- ---- some blocks, and then some more

blocks_add : (j k : ℕ) (s : State) (l : List ℕ) → hash_blocks (j + k) s l ≡ hash_blocks k (hash_blocks j s l) (drop (j * 64) l)
unfolding hash_blocks
blocks_add zero k s l = rw (zero-add k) refl
blocks_add (suc j) k s l =
    let e : 64 + j * 64 ≡ suc j * 64 = omega arith in
    ap (λ (n : ℕ). hash_blocks n s l) (suc-add j k)
    ∙ blocks_add j k (hash_block s l) (drop 64 l)
    ∙ ap (λ (d : List ℕ). hash_blocks k (hash_blocks j (hash_block s l) (drop 64 l)) d) (drop-drop (j * 64) 64 l ∙ ap (λ (n : ℕ). drop n l) e)

blocks_split : (j k : ℕ) (s : State) (b r : List ℕ) → j * 64 ≤ length b
    → hash_blocks (j + k) s (b ++ r) ≡ hash_blocks k (hash_blocks j s b) (drop (j * 64) b ++ r)
blocks_split j k s b r h =
    blocks_add j k s (b ++ r)
    ∙ ap (λ (t : State). hash_blocks k t (drop (j * 64) (b ++ r))) (blocks_append j s b r h)
    ∙ ap (λ (l : List ℕ). hash_blocks k (hash_blocks j s b) l) (drop-append-le (j * 64) b r h)

-- ---- the rest of a message

module _ (l : List ℕ) where
  pub rest_long : length (rest l) ≡ length l % 64
  rest_long = length-drop (length l / 64 * 64) l ∙ (omega arith)

  -- the whole blocks of a message, and then those of its rest with what follows
  pub all_append : (s : State) (p : List ℕ) → hash_all s (l ++ p) ≡ hash_all (hash_all s l) (rest l ++ p)
  all_append s p =
      let n : length (l ++ p) / 64 ≡ length l / 64 + length (rest l ++ p) / 64 = omega (arith, length-append l p, length-append (rest l) p, rest_long) in
      ap (λ (k : ℕ). hash_blocks k s (l ++ p)) n ∙ blocks_split (length l / 64) (length (rest l ++ p) / 64) s l p (omega arith)

  -- one block, and then those of what follows
  pub all_first : (s : State) (p : List ℕ) → length l ≡ 64 → hash_all s (l ++ p) ≡ hash_all (hash_all s l) p
  all_first s p h =
      let n : length l ≤ length l / 64 * 64 = omega arith in
      all_append s p ∙ ap (λ (x : List ℕ). hash_all (hash_all s l) (x ++ p)) (drop_of_length-le l {i = length l / 64 * 64} n)

  pub left_append : (p : List ℕ) → length (rest l ++ p) % 64 ≡ length (l ++ p) % 64
  left_append p = omega (arith, length-append (rest l) p, length-append l p, rest_long)

  pub rest_append : (p : List ℕ) → rest (rest l ++ p) ≡ rest (l ++ p)
  rest_append p =
      let k = length l / 64 * 64 in
      let at : k + length (rest l ++ p) / 64 * 64 ≡ length (l ++ p) / 64 * 64 = omega (arith, length-append l p, length-append (rest l) p, rest_long) in
      ap (λ (x : List ℕ). drop (length (rest l ++ p) / 64 * 64) x) (sym (drop-append-le k l p (omega arith)))
      ∙ drop-drop (length (rest l ++ p) / 64 * 64) k (l ++ p)
      ∙ ap (λ (n : ℕ). drop n (l ++ p)) at

-- ---- bytes laid into a block

abbrev pub blank : ℕ → List ℕ
blank n = replicate n 0

pub drop_zeros : (k n : ℕ) → drop k (blank n) ≡ blank (n - k)
drop_zeros zero n = rw (sub-zero n) refl
drop_zeros (suc k) zero = rw (zero-sub (suc k)) refl
drop_zeros (suc k) (suc n) =
    let e : n - k ≡ suc n - suc k = omega arith in
    drop_zeros k n ∙ ap blank e

-- over the zeros that follow some bytes
pub laid_zeros : (b p : List ℕ) (at n : ℕ) → length b ≡ at
    → paste (b ++ blank n) at p (length p) ≡ b ++ p ++ blank (n - length p)
laid_zeros b p at n h =
    let behind : at + length p ≡ length b + length p = omega arith in
    ap (λ (x : List ℕ). x ++ take (length p) p ++ drop (at + length p) (b ++ blank n)) (take_at b (blank n) at h)
    ∙ ap (λ (x : List ℕ). b ++ x ++ drop (at + length p) (b ++ blank n)) (take-length p)
    ∙ ap (λ (k : ℕ). b ++ p ++ drop k (b ++ blank n)) behind
    ∙ ap (λ (x : List ℕ). b ++ p ++ x) (drop-append-add b (blank n) (length p) ∙ drop_zeros (length p) n)

-- over zeros only
pub laid_first : (p : List ℕ) (n : ℕ) → paste (blank n) 0 p (length p) ≡ p ++ blank (n - length p)
laid_first p n = laid_zeros [] p 0 n refl

-- up to the end
pub laid_last : (b p : List ℕ) (at : ℕ) → at + length p ≡ length b → paste b at p (length p) ≡ take at b ++ p
laid_last b p at h =
    ap (λ (x : List ℕ). take at b ++ x ++ drop (at + length p) b) (take-length p)
    ∙ ap (λ (x : List ℕ). take at b ++ p ++ x) (drop_of_length-le b {i = at + length p} (omega arith))
    ∙ append-nil (take at b ++ p)

-- the part from a place to the end
pub to_end : (s : List ℕ) (k : ℕ) → take (length s - k) (drop k s) ≡ drop k s
to_end s k = take_all (length s - k) (drop k s) (omega (arith, length-drop k s))
