-- The steps of the rounds: the code's blocks of sixteen words as lists, and what eight rounds make.
use Rattle.std.specs.Prelude.{◌≡◌, ℕ, List, [], ◌∷◌, ◌++◌, take, drop}
use Rattle.sha256.specs.Constants.{K}
use Rattle.sha256.specs.Schedule.{extended}
use Rattle.sha256.specs.Hash.{rounds}
use Rattle.sha256.specs.declared.state.State.{State}
use Rattle.sha256.specs.declared.block.Block.{Block}

-- the first eight words of a block in their order
abbrev pub low_words : Block → List ℕ
low_words w = w.w0 ∷ w.w1 ∷ w.w2 ∷ w.w3 ∷ w.w4 ∷ w.w5 ∷ w.w6 ∷ w.w7 ∷ []

-- the other eight
abbrev pub high_words : Block → List ℕ
high_words w = w.w8 ∷ w.w9 ∷ w.w10 ∷ w.w11 ∷ w.w12 ∷ w.w13 ∷ w.w14 ∷ w.w15 ∷ []

-- all sixteen
abbrev pub words_in : Block → List ℕ
words_in w = low_words w ++ high_words w

-- eight rounds with the constants from a place on and the words ws, which vs follow: the state then, the words us that follow these in the
-- schedule, and that the others stay
pub record Eight (at : ℕ) (ws vs us vs' : List ℕ) (s r : State) : Type 0 where
  pub state : r ≡ rounds (take 8 (drop at K)) ws s
  pub words : extended 8 (ws ++ vs) ≡ ws ++ vs ++ us
  pub kept : vs' ≡ vs
