-- The end of a message.
use Rattle.std.proofs.Common.{◌≡◌, ℕ, zero, suc, ◌+◌, ◌-◌, ◌*◌, ◌%◌, ◌^◌, ◌<◌, ◌≤◌, List, ◌∷◌, ◌++◌, length, set, sym, refl, ap, ◌∙◌, append_assoc, append-nil, arith, length-append}
use lib.ListN.{length-replicate, replicate-append-replicate}
use lib.Seq.{set_at, paste}
use Rattle.sha256.specs.Hash.{bytes_of, zeros, padding, hash_all}
use Rattle.sha256.specs.declared.state.State.{State}
use Rattle.sha256.proofs.ByteLaws.{eight_long, wrapped_bytes}
use Rattle.sha256.proofs.BlockLaws.{blank, all_first, laid_zeros, laid_first}

blank_add : (m n : ℕ) → blank m ++ blank n ≡ blank (m + n)
blank_add m n = replicate-append-replicate m n 0

zeros_wrapped : (n : ℕ) → zeros (n % 2 ^ 64) ≡ zeros n
zeros_wrapped n = omega arith

bits_wrapped : (n : ℕ) → bytes_of 8 (8 * (n % 2 ^ 64)) ≡ bytes_of 8 (8 * n)
bits_wrapped n =
    let e : 8 * (n % 2 ^ 64) % 2 ^ 64 ≡ 8 * n % 2 ^ 64 = omega arith in
    sym (wrapped_bytes (8 * (n % 2 ^ 64))) ∙ ap (bytes_of 8) e ∙ wrapped_bytes (8 * n)

-- the padding goes by the size modulo 2 ^ 64
pub padding_wrapped : (n : ℕ) → padding (n % 2 ^ 64) ≡ padding n
unfolding padding
padding_wrapped n =
    ap (λ (k : ℕ). 128 ∷ blank k ++ bytes_of 8 (8 * (n % 2 ^ 64))) (zeros_wrapped n)
    ∙ ap (λ (x : List ℕ). 128 ∷ blank (zeros n) ++ x) (bits_wrapped n)

-- l are the bytes after the last whole block
module _ (l : List ℕ) (state : State) (size held : ℕ) (long : length l ≡ held) (place : held ≡ size % 64) where
  bits : List ℕ
  bits = bytes_of 8 (8 * size)

  bits_long : length bits ≡ 8
  unfolding bits
  bits_long = eight_long (8 * size)

  bits_laid : (bs : List ℕ) → bs ≡ bytes_of 8 ((size * 2 ^ 3) % 2 ^ 64) → bs ≡ bits
  unfolding bits
  bits_laid bs e =
      let m : (size * 2 ^ 3) % 2 ^ 64 ≡ 8 * size % 2 ^ 64 = omega arith in
      e ∙ ap (bytes_of 8) m ∙ wrapped_bytes (8 * size)

  -- the bytes and the 1 bit
  marked : (b : List ℕ) → b ≡ paste (blank 64) 0 l (length l) → set b held 128 ≡ l ++ (128 ∷ blank (63 - held))
  marked b e =
      let n : 64 - length l ≡ suc (63 - held) = omega arith in
      ap (λ (x : List ℕ). set x held 128) (e ∙ laid_first l 64 ∙ ap (λ (m : ℕ). l ++ blank m) n)
      ∙ set_at l 0 (blank (63 - held)) 128 held long

  -- ---- the length goes into the same block
  module _ (h : held < 56) where
    front : List ℕ
    front = l ++ (128 ∷ blank (55 - held))

    front_long : length front ≡ 56
    unfolding front
    front_long = length-append l (128 ∷ blank (55 - held)) ∙ omega (arith, length-replicate (55 - held) zero)

    split : (b : List ℕ) → b ≡ paste (blank 64) 0 l (length l) → set b held 128 ≡ front ++ blank 8
    unfolding front
    split b e =
        let n : 63 - held ≡ (55 - held) + 8 = omega arith in
        marked b e ∙ ap (λ (m : ℕ). l ++ (128 ∷ blank m)) n ∙ ap (λ (x : List ℕ). l ++ (128 ∷ x)) (sym (blank_add (55 - held) 8))
        ∙ sym (append_assoc l (128 ∷ blank (55 - held)) (blank 8))

    padded_short : front ++ bits ≡ l ++ padding size
    unfolding front padding bits
    padded_short =
        let z : 55 - held ≡ zeros size = omega arith in
        append_assoc l (128 ∷ blank (55 - held)) bits ∙ ap (λ (m : ℕ). l ++ (128 ∷ blank m ++ bits)) z

    pub closed_short : (b bs full : List ℕ) (r : State) → b ≡ paste (blank 64) 0 l (length l) → bs ≡ bytes_of 8 ((size * 2 ^ 3) % 2 ^ 64)
        → full ≡ paste (set b held 128) 56 bs (length bs) → r ≡ hash_all state full → r ≡ hash_all state (l ++ padding size)
    closed_short b bs full r e eb ef er =
        er ∙ ap (hash_all state)
        (ef ∙ ap (λ (x : List ℕ). paste (set b held 128) 56 x (length x)) (bits_laid bs eb)
        ∙ ap (λ (x : List ℕ). paste x 56 bits (length bits)) (split b e)
        ∙ laid_zeros front bits 56 8 front_long
        ∙ ap (λ (m : ℕ). front ++ bits ++ blank (8 - m)) bits_long
        ∙ append-nil (front ++ bits)
        ∙ padded_short)

  -- ---- the length goes into a block of its own
  module _ (h : 56 ≤ held) where
    filled : List ℕ
    filled = l ++ (128 ∷ blank (63 - held))

    filled_long : length filled ≡ 64
    unfolding filled
    filled_long = length-append l (128 ∷ blank (63 - held)) ∙ omega (arith, length-replicate (63 - held) zero)

    last_block : (b bs : List ℕ) → bs ≡ bytes_of 8 ((size * 2 ^ 3) % 2 ^ 64) → b ≡ paste (blank 64) 56 bs (length bs) → b ≡ blank 56 ++ bits
    last_block b bs eb e =
        e ∙ ap (λ (x : List ℕ). paste (blank 64) 56 x (length x)) (bits_laid bs eb)
        ∙ laid_zeros (blank 56) bits 56 8 refl
        ∙ ap (λ (m : ℕ). blank 56 ++ bits ++ blank (8 - m)) bits_long
        ∙ append-nil (blank 56 ++ bits)

    padded_long : filled ++ (blank 56 ++ bits) ≡ l ++ padding size
    unfolding filled padding bits
    padded_long =
        let z : (63 - held) + 56 ≡ zeros size = omega arith in
        append_assoc l (128 ∷ blank (63 - held)) (blank 56 ++ bits)
        ∙ ap (λ (x : List ℕ). l ++ (128 ∷ x)) (sym (append_assoc (blank (63 - held)) (blank 56) bits))
        ∙ ap (λ (x : List ℕ). l ++ (128 ∷ x ++ bits)) (blank_add (63 - held) 56)
        ∙ ap (λ (m : ℕ). l ++ (128 ∷ blank m ++ bits)) z

    pub closed_long : (b bs last : List ℕ) (first r : State) → b ≡ paste (blank 64) 0 l (length l) → bs ≡ bytes_of 8 ((size * 2 ^ 3) % 2 ^ 64)
        → first ≡ hash_all state (set b held 128) → last ≡ paste (blank 64) 56 bs (length bs) → r ≡ hash_all first last → r ≡ hash_all state (l ++ padding size)
    unfolding filled
    closed_long b bs last first r e eb ef el er =
        er ∙ ap (λ (x : List ℕ). hash_all first x) (last_block last bs eb el)
        ∙ ap (λ (s : State). hash_all s (blank 56 ++ bits)) (ef ∙ ap (hash_all state) (marked b e))
        ∙ sym (all_first filled state (blank 56 ++ bits) filled_long)
        ∙ ap (hash_all state) padded_long
