-- Words in bytes.
use Rattle.std.proofs.Common.{◌≡◌, ℕ, suc, ◌+◌, ◌*◌, ◌<◌, List, [], ◌∷◌, length, get_or, take, drop, refl, add-zero, add_assoc, add-one, get_or-drop, drop-cons, drop-drop}
use Rattle.sha256.specs.Hash.{word_of, words_of}

module _ (s : List ℕ) (at : ℕ) where
  -- the word at a place, by the bytes there
  pub word_here : word_of (drop at s) ≡ get_or s at 0 * 16777216 + get_or s (at + 1) 0 * 65536 + get_or s (at + 2) 0 * 256 + get_or s (at + 3) 0
  unfolding word_of
  word_here = simp (get_or-drop, add-zero)

  words_step : (n : ℕ) → words_of (suc n) (drop at s) ≡ word_of (drop at s) ∷ words_of n (drop (at + 4) s)
  unfolding words_of
  words_step n = rw drop-drop refl

  -- the sixteen words at a place
  pub block_words :
      words_of 16 (drop at s) ≡
      word_of (drop at s) ∷ word_of (drop (at + 4) s) ∷ word_of (drop (at + 8) s) ∷ word_of (drop (at + 12) s) ∷
      word_of (drop (at + 16) s) ∷ word_of (drop (at + 20) s) ∷ word_of (drop (at + 24) s) ∷ word_of (drop (at + 28) s) ∷
      word_of (drop (at + 32) s) ∷ word_of (drop (at + 36) s) ∷ word_of (drop (at + 40) s) ∷ word_of (drop (at + 44) s) ∷
      word_of (drop (at + 48) s) ∷ word_of (drop (at + 52) s) ∷ word_of (drop (at + 56) s) ∷ word_of (drop (at + 60) s) ∷ []
  unfolding words_of
  block_words = simp (drop-drop, add_assoc)

  -- the first of some elements at a place
  pub take_step : (n : ℕ) → at < length s → take (suc n) (drop at s) ≡ get_or s at 0 ∷ take n (drop (at + 1) s)
  take_step n h = rw (drop-cons s at 0, add-one)

-- two lists by their elements
pub both : {x y : ℕ} {xs ys : List ℕ} → x ≡ y → xs ≡ ys → ◌≡◌ {A = List ℕ} (x ∷ xs) (y ∷ ys)
both e f = cc
