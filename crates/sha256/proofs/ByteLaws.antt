-- A number's bytes.
use Rattle.std.proofs.Common.{◌≡◌, ℕ, zero, suc, ◌+◌, ◌-◌, ◌*◌, ◌/◌, ◌%◌, ◌^◌, ◌<◌, List, [], ◌∷◌, ◌++◌, length, get_or, take, drop, sym, refl, ap, ◌∙◌, append_assoc, append-nil, div-one, add-one, arith, length-append, length-take-le, take-suc, take_at, drop-drop}
use lib.ListN.{length-replicate}
use borrow.Rule.Slice.PartMut.{put_mid}
use lib.Seq.{drop-append-add}
use Rattle.sha256.specs.Hash.{bytes_of, word_of, words_of, state_bytes}
use Rattle.sha256.specs.declared.state.State.{State}
use Rattle.sha256.proofs.BlockLaws.{blank, drop_zeros}

pub four_bytes : (n : ℕ) → n / 16777216 % 256 ∷ n / 65536 % 256 ∷ n / 256 % 256 ∷ n % 256 ∷ [] ≡ bytes_of 4 n
unfolding bytes_of
four_bytes n = simp div-one

pub eight_bytes : (n : ℕ) →
    n / 72057594037927936 % 256 ∷ n / 281474976710656 % 256 ∷ n / 1099511627776 % 256 ∷ n / 4294967296 % 256 ∷
    n / 16777216 % 256 ∷ n / 65536 % 256 ∷ n / 256 % 256 ∷ n % 256 ∷ [] ≡ bytes_of 8 n
unfolding bytes_of
eight_bytes n = simp div-one

pub eight_long : (n : ℕ) → length (bytes_of 8 n) ≡ 8
unfolding bytes_of
eight_long n = refl

-- ---- eight bytes go by the number modulo 2 ^ 64

module _ (x : ℕ) where
  b0 : x % 2 ^ 64 / 256 ^ 0 % 256 ≡ x / 256 ^ 0 % 256
  b0 = omega arith

  b1 : x % 2 ^ 64 / 256 ^ 1 % 256 ≡ x / 256 ^ 1 % 256
  b1 = omega arith

  b2 : x % 2 ^ 64 / 256 ^ 2 % 256 ≡ x / 256 ^ 2 % 256
  b2 = omega arith

  b3 : x % 2 ^ 64 / 256 ^ 3 % 256 ≡ x / 256 ^ 3 % 256
  b3 = omega arith

  b4 : x % 2 ^ 64 / 256 ^ 4 % 256 ≡ x / 256 ^ 4 % 256
  b4 = omega arith

  b5 : x % 2 ^ 64 / 256 ^ 5 % 256 ≡ x / 256 ^ 5 % 256
  b5 = omega arith

  b6 : x % 2 ^ 64 / 256 ^ 6 % 256 ≡ x / 256 ^ 6 % 256
  b6 = omega arith

  b7 : x % 2 ^ 64 / 256 ^ 7 % 256 ≡ x / 256 ^ 7 % 256
  b7 = omega arith

  pub wrapped_bytes : bytes_of 8 (x % 2 ^ 64) ≡ bytes_of 8 x
  unfolding bytes_of
  wrapped_bytes = rw (b7, b6, b5, b4, b3, b2, b1, b0) refl

-- ---- a word and its four bytes

-- digit by digit
joined : (a b c d x y w : ℕ) → w ≡ x * 256 + d → x ≡ y * 256 + c → y ≡ a * 256 + b → a * 16777216 + b * 65536 + c * 256 + d ≡ w
joined a b c d x y w e f g = omega arith

-- a word's bytes make the word
pub word_bytes : (w : ℕ) (t : List ℕ) → w < 2 ^ 32 → word_of (bytes_of 4 w ++ t) ≡ w
unfolding word_of
word_bytes w t h =
    ap (λ (l : List ℕ). word_of (l ++ t)) (sym (four_bytes w))
    ∙ joined (w / 16777216 % 256) (w / 65536 % 256) (w / 256 % 256) (w % 256) (w / 256) (w / 65536) w (omega arith) (omega arith) (omega arith)

-- and a word that four bytes make has these bytes
module _ (a b c d : ℕ) (ha : a < 256) (hb : b < 256) (hc : c < 256) (hd : d < 256) where
  word : ℕ
  word = a * 16777216 + b * 65536 + c * 256 + d

  first : word / 16777216 % 256 ≡ a
  unfolding word
  first = omega arith

  second : word / 65536 % 256 ≡ b
  unfolding word
  second = omega arith

  third : word / 256 % 256 ≡ c
  unfolding word
  third = omega arith

  fourth : word % 256 ≡ d
  unfolding word
  fourth = omega arith

  pub bytes_word : (t : List ℕ) → bytes_of 4 (word_of (a ∷ b ∷ c ∷ d ∷ t)) ≡ a ∷ b ∷ c ∷ d ∷ []
  unfolding word word_of
  bytes_word t = sym (four_bytes word) ∙ rw (first, second, third, fourth) refl

-- ---- words in their bytes, one after another

abbrev pub all_bytes : List ℕ → List ℕ
all_bytes [] = []
all_bytes (w ∷ ws) = bytes_of 4 w ++ all_bytes ws

all_join : (vs ws : List ℕ) → all_bytes (vs ++ ws) ≡ all_bytes vs ++ all_bytes ws
all_join [] ws = refl
all_join (v ∷ vs) ws = ap (λ (l : List ℕ). bytes_of 4 v ++ l) (all_join vs ws) ∙ sym (append_assoc (bytes_of 4 v) (all_bytes vs) (all_bytes ws))

all_long : (ws : List ℕ) → length (all_bytes ws) ≡ 4 * length ws
unfolding bytes_of
all_long [] = refl
all_long (w ∷ ws) = omega (arith, all_long ws)

-- a word's bytes put where zeros follow the words so far
module _ (ws out : List ℕ) (i : ℕ) (below : i < 8) (long : length ws ≡ 8) (so_far : out ≡ all_bytes (take i ws) ++ blank (32 - 4 * i)) where
  done : List ℕ
  done = all_bytes (take i ws)

  done_long : length done ≡ 4 * i
  unfolding done
  done_long = all_long (take i ws) ∙ ap (λ (n : ℕ). 4 * n) (length-take-le i ws (omega arith))

  out_long : length out ≡ 32
  unfolding done
  out_long = ap length so_far ∙ length-append done (blank (32 - 4 * i)) ∙ omega (arith, done_long, length-replicate (32 - 4 * i) zero)

  behind : drop (4 * i + 4) out ≡ blank (32 - 4 * (i + 1))
  unfolding done
  behind =
      let at : 4 * i + 4 ≡ length done + 4 = omega (arith, done_long) in
      let n : 32 - 4 * i - 4 ≡ 32 - 4 * (i + 1) = omega arith in
      ap (λ (k : ℕ). drop k out) at ∙ ap (drop (length done + 4)) so_far ∙ drop-append-add done (blank (32 - 4 * i)) 4 ∙ drop_zeros 4 (32 - 4 * i) ∙ ap blank n

  pub word_put : (k : ℕ) (ys : List ℕ) → k ≡ 4 → ys ≡ bytes_of 4 (get_or ws i 0) → put_mid (4 * i) k out ys ≡ all_bytes (take (i + 1) ws) ++ blank (32 - 4 * (i + 1))
  unfolding done
  word_put k ys e f =
      ap (λ (n : ℕ). put_mid (4 * i) n out ys) e
      ∙ ap (λ (l : List ℕ). put_mid (4 * i) 4 out l) f
      ∙ sym (append_assoc (take (4 * i) out) (bytes_of 4 (get_or ws i 0)) (drop 4 (drop (4 * i) out)))
      ∙ ap (λ (l : List ℕ). take (4 * i) out ++ bytes_of 4 (get_or ws i 0) ++ l) (drop-drop 4 (4 * i) out ∙ behind)
      ∙ ap (λ (l : List ℕ). l ++ bytes_of 4 (get_or ws i 0) ++ blank (32 - 4 * (i + 1))) (ap (take (4 * i)) so_far ∙ take_at done (blank (32 - 4 * i)) (4 * i) done_long)
      ∙ ap (λ (l : List ℕ). l ++ blank (32 - 4 * (i + 1)))
      (ap (λ (l : List ℕ). done ++ l) (sym (append-nil (bytes_of 4 (get_or ws i 0)))) ∙ sym (all_join (take i ws) (get_or ws i 0 ∷ [])) ∙ ap all_bytes (sym (take-suc ws i 0 (omega arith)) ∙ ap (λ (n : ℕ). take n ws) (sym (add-one i))))

-- words that fit have their bytes for words
pub words_bytes : (ws : List ℕ) → ((i : ℕ) → get_or ws i 0 < 2 ^ 32) → words_of (length ws) (all_bytes ws) ≡ ws
unfolding words_of bytes_of
words_bytes [] h = refl
words_bytes (w ∷ ws) h =
    ap (λ (v : ℕ). v ∷ words_of (length ws) (all_bytes ws)) (word_bytes w (all_bytes ws) (h 0))
    ∙ ap (λ (l : List ℕ). w ∷ l) (words_bytes ws (λ i. h (suc i)))

-- and bytes, by four, have their words for bytes
pub bytes_words : (n : ℕ) (l : List ℕ) → length l ≡ 4 * n → ((i : ℕ) → get_or l i 0 < 256) → all_bytes (words_of n l) ≡ l
unfolding words_of
bytes_words zero [] e h = refl
bytes_words zero (a ∷ l) e h = absurd (omega arith)
bytes_words (suc n) [] e h = absurd (omega arith)
bytes_words (suc n) (a ∷ []) e h = absurd (omega arith)
bytes_words (suc n) (a ∷ b ∷ []) e h = absurd (omega arith)
bytes_words (suc n) (a ∷ b ∷ c ∷ []) e h = absurd (omega arith)
bytes_words (suc n) (a ∷ b ∷ c ∷ d ∷ l) e h =
    ap (λ (x : List ℕ). x ++ all_bytes (words_of n l)) (bytes_word a b c d (h 0) (h 1) (h 2) (h 3) l)
    ∙ ap (λ (x : List ℕ). a ∷ b ∷ c ∷ d ∷ x) (bytes_words n l (omega arith) (λ i. h (suc (suc (suc (suc i))))))

-- ---- a hash value in its words, and in its bytes

abbrev pub in_words : State → List ℕ
in_words s = s.a ∷ s.b ∷ s.c ∷ s.d ∷ s.e ∷ s.f ∷ s.g ∷ s.h ∷ []

pub state_bytes_lem : (s : State) → all_bytes (in_words s) ≡ state_bytes s
unfolding state_bytes bytes_of
state_bytes_lem s = refl

pub state_long : (s : State) → length (state_bytes s) ≡ 32
unfolding state_bytes bytes_of
state_long s = refl

-- 32 bytes are a hash value's where their words are
pub state_words : (s : State) (l : List ℕ) → length l ≡ 32 → ((i : ℕ) → get_or l i 0 < 256) → words_of 8 l ≡ in_words s → l ≡ state_bytes s
state_words s l e h f = sym (bytes_words 8 l e h) ∙ ap all_bytes f ∙ state_bytes_lem s

-- and only there
pub words_state : (s : State) (l : List ℕ) → ((i : ℕ) → get_or (in_words s) i 0 < 2 ^ 32) → l ≡ state_bytes s → words_of 8 l ≡ in_words s
words_state s l h e = ap (words_of 8) (e ∙ sym (state_bytes_lem s)) ∙ words_bytes (in_words s) h
