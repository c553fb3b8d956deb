-- Bytes that follow those pending in a hasher.
use Rattle.std.proofs.Common.{◌≡◌, ℕ, ◌+◌, ◌-◌, ◌*◌, ◌/◌, ◌%◌, ◌^◌, ◌<◌, ◌≤◌, List, ◌++◌, length, take, drop, sym, ap, ◌∙◌, append_assoc, arith, length-append, take-append-drop, length-take-le}
use lib.Seq.{drop-append-add, paste}
use Rattle.sha256.specs.Hash.{hash_blocks, hash_all}
use Rattle.sha256.specs.Stream.{rest, pending, kept}
use Rattle.sha256.specs.declared.state.State.{State}
use Rattle.sha256.specs.declared.stream.Hasher.{Hasher}
use Rattle.sha256.proofs.BlockLaws.{blank, all_first, rest_long, laid_zeros, laid_first, laid_last}

-- the parts make what is kept
made_of : (s : State) (l : List ℕ) (n : ℕ) (state : State) (tail : List ℕ) (size : ℕ) → state ≡ hash_all s l → tail ≡ rest l ++ blank (64 - length l % 64) → size ≡ n % 2 ^ 64
    → ◌≡◌ {A = Hasher} (record { state = state; tail = tail; size = size }) (kept s l n)
made_of s l n state tail size e f g = cc

-- a hasher with a block of tail, and where its next byte belongs
module _ (h : Hasher) (held : ℕ) (long : length h.tail ≡ 64) (place : held ≡ h.size % 64) where
  pub held_within : held ≤ length h.tail
  held_within = omega arith

  pub held_long : length (take held h.tail) ≡ held
  held_long = length-take-le held h.tail held_within

  pub held_pending : take held h.tail ≡ pending h
  held_pending = ap (λ (n : ℕ). take n h.tail) place

-- l are the bytes pending, p those that follow
module _ (l p : List ℕ) (state : State) (n size held : ℕ) (long : length l ≡ held) (below : held < 64) (counted : size ≡ n % 2 ^ 64) where
  joined : length (l ++ p) ≡ length l + length p
  joined = length-append l p

  -- a piece that doesn't fill the block
  pub updated_short : (b t : List ℕ) → length p < 64 - held → b ≡ paste (blank 64) 0 l (length l) → t ≡ paste b held p (length p)
      → ◌≡◌ {A = Hasher} (record { state = state; tail = t; size = size }) (kept state (l ++ p) n)
  unfolding hash_blocks
  updated_short b t short eb et =
      let none : length (l ++ p) / 64 ≡ 0 = omega (arith, joined) in
      let m : 64 - length l - length p ≡ 64 - length (l ++ p) % 64 = omega (arith, joined) in
      made_of state (l ++ p) n state t size
      (sym (ap (λ (k : ℕ). hash_blocks k state (l ++ p)) none))
      (et ∙ ap (λ (x : List ℕ). paste x held p (length p)) (eb ∙ laid_first l 64)
      ∙ laid_zeros l p held (64 - length l) long
      ∙ ap (λ (k : ℕ). l ++ p ++ blank k) m
      ∙ ap (λ (k : ℕ). drop (k * 64) (l ++ p) ++ blank (64 - length (l ++ p) % 64)) (sym none))
      counted

  -- a piece that does
  module _ (tail : List ℕ) (is_Block : length tail ≡ 64) (is_first_lem : l ≡ take held tail) (fills : 64 - held ≤ length p) where
    room : ℕ
    room = 64 - held

    past : ℕ
    past = room + (length p - room) / 64 * 64

    -- the block that it fills
    filled : List ℕ
    filled = l ++ take room p

    part_long : length (take room p) ≡ 64 - held
    unfolding room
    part_long = length-take-le (64 - held) p fills

    filled_long : length filled ≡ 64
    unfolding filled
    filled_long = length-append l (take room p) ∙ omega (arith, part_long)

    block_filled : paste tail held (take room p) (length (take room p)) ≡ filled
    unfolding filled
    block_filled = laid_last tail (take room p) held (omega (arith, part_long)) ∙ ap (λ (x : List ℕ). x ++ take room p) (sym is_first_lem)

    all_filled : hash_all (hash_all state filled) (drop room p) ≡ hash_all state (l ++ p)
    unfolding filled
    all_filled =
        sym (all_first filled state (drop room p) filled_long)
        ∙ ap (hash_all state) (append_assoc l (take room p) (drop room p) ∙ ap (λ (x : List ℕ). l ++ x) (take-append-drop room p))

    rest_joined : drop past p ≡ rest (l ++ p)
    unfolding room past
    rest_joined =
        let e : length l + (64 - held + (length p - (64 - held)) / 64 * 64) ≡ length (l ++ p) / 64 * 64 = omega (arith, joined) in
        sym (drop-append-add l p (64 - held + (length p - (64 - held)) / 64 * 64)) ∙ ap (λ (k : ℕ). drop k (l ++ p)) e

    tail_long : paste (blank 64) 0 (drop past p) (length (drop past p)) ≡ rest (l ++ p) ++ blank (64 - length (l ++ p) % 64)
    tail_long =
        ap (λ (x : List ℕ). paste (blank 64) 0 x (length x)) rest_joined
        ∙ laid_first (rest (l ++ p)) 64
        ∙ ap (λ (k : ℕ). rest (l ++ p) ++ blank (64 - k)) (rest_long (l ++ p))

    pub updated_long : (b q u t : List ℕ) (first last : State)
        → b ≡ paste tail held (take (64 - held) p) (length (take (64 - held) p))
        → first ≡ hash_all state b
        → q ≡ drop (64 - held) p → last ≡ hash_all first q
        → u ≡ drop (64 - held + (length p - (64 - held)) / 64 * 64) p → t ≡ paste (blank 64) 0 u (length u)
        → ◌≡◌ {A = Hasher} (record { state = last; tail = t; size = size }) (kept state (l ++ p) n)
    unfolding room past
    updated_long b q u t first last eb ef eq el eu et =
        made_of state (l ++ p) n last t size
        (el ∙ ap (λ (x : List ℕ). hash_all first x) eq
        ∙ ap (λ (s : State). hash_all s (drop (64 - held) p)) (ef ∙ ap (hash_all state) (eb ∙ block_filled))
        ∙ all_filled)
        (et ∙ ap (λ (x : List ℕ). paste (blank 64) 0 x (length x)) eu ∙ tail_long)
        counted
