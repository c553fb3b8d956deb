-- What the calls on tables give that fill no buffer.
use Rattle.std.specs.Prelude.{Some, None}
use Rattle.std.specs.declared.option.Option.{Option}
use Rattle.std.specs.Prelude.{ℕ, List, [], ◌∷◌, ◌≡◌, Bool, cond}
use Rattle.record.specs.Outline.{outline_of}
use Rattle.record.specs.Missing.{missing_of}
use Rattle.record.specs.declared.outline.RecordFields.{RecordFields}
use Rattle.table.specs.Newest.{compare_at}
use Rattle.std.specs.declared.cmp.Ordering.{Ordering}
use Rattle.std.specs.declared.cmp.Ordering.TheVariants.{Less, Equal, Greater}

-- a good table, or 15
abbrev pub good_number : Bool → ℕ
good_number good = cond good 0 15

-- the first record is lower, equal, or higher
abbrev pub order_word : Ordering → ℕ
order_word Less = 0
order_word Equal = 1
order_word Greater = 2

-- two records that are wholly there are compared: 0; else 1
abbrev pub compared_number : Option RecordFields → Option RecordFields → ℕ
compared_number None o = 1
compared_number (Some f) None = 1
compared_number (Some f) (Some g) = 0

-- how two records compare that are wholly there; else the place of the field that isn't, of the first that is cut short
abbrev pub compared_words : List ℕ → ℕ → Option RecordFields → List ℕ → ℕ → Option RecordFields → List ℕ
compared_words a i None b j o = missing_of a i ∷ []
compared_words a i (Some f) b j None = missing_of b j ∷ []
compared_words a i (Some f) b j (Some g) = order_word (compare_at a f b g) ∷ []

-- the records at places of two tables are so compared
abbrev pub Compares : (a : List ℕ) → (i : ℕ) → (b : List ℕ) → (j number : ℕ) → (words : List ℕ) → Type 0
Compares a i b j number words = (number ≡ compared_number (outline_of a i) (outline_of b j)) × (words ≡ compared_words a i (outline_of a i) b j (outline_of b j))
