-- What only the steps of the code and their proofs need.
use Rattle.std.specs.Prelude.{◌≡◌, ℕ, ◌+◌, ◌*◌, ◌/◌, ◌%◌, ◌<◌, ◌≤◌, Bool, true, false, cond, List, length, drop, ◌==◌, ◌≢◌, nat_le, slice_index, Ok, Err, Some, None}
use Rattle.std.specs.declared.option.Option.{Option}
use Rattle.std.specs.declared.result.Result.{Result}
use Rattle.xdr.specs.declared.answer.Refusal.{Refusal}
use Rattle.xdr.specs.Number.{big_endian}
use Rattle.xdr.specs.Format.{read_at}
use Rattle.record.specs.Limits.{hash_length, block_bytes}
use Rattle.record.specs.Block.{is_size}
use Rattle.record.specs.Name.{is_path}
use Rattle.record.specs.File.{files}
use Rattle.record.specs.Rising.{is_rising_array}
use Rattle.record.specs.Answers.{array_answer}
use Rattle.record.specs.Outline.{word_at, past_string}
use Rattle.record.specs.declared.string_outline.StringFields.{StringFields}

-- a Length and a hash's length, side by side as one number of 64 bits
abbrev pub IsHead : ℕ → Type 0
IsHead h = (is_size (h / 4294967296) ≡ true) × (h % 4294967296 ≡ hash_length)

-- the number that text is refused with as a name, none where it is one
abbrev pub name_fault : List ℕ → Option ℕ
name_fault l = cond (nat_le 1 (length l)) (cond (is_path l) None (Some 24)) (Some 8)

-- a name's byte may stand before another: it isn't zero, and no slash before a dot or a slash
pub record Before (b c : ℕ) : Type 0 where
  pub some : b ≡ 0 → ⊥
  pub plain : b ≡ 47 → (c ≢ 46) × (c ≢ 47)

-- each of the first so many bytes may stand before the next
abbrev pub Smooth : List ℕ → ℕ → Type 0
Smooth s n = (i : ℕ) → i < n → Before (slice_index s i) (slice_index s (i + 1))

-- so many blocks from a place on are there, and each begins as it has to
abbrev pub SoundBlocks : List ℕ → (first n : ℕ) → Type 0
SoundBlocks s first n = (first + n * block_bytes ≤ length s) × ((i : ℕ) → i < n → IsHead (big_endian 8 (drop (first + i * block_bytes) s)))

-- an array that was read ends there
abbrev pub ends_at : ℕ → Result (ℕ × ℕ) Refusal → Bool
ends_at size (Ok p) = p.1 == size
ends_at size (Err r) = false

-- what reading an array of files answers; where their names are to rise, whether it ends with the bytes tells that they do
abbrev pub RunRead : (limit : ℕ) → (rising : Bool) → List ℕ → Result (ℕ × ℕ) Refusal → Type 0
RunRead limit rising s r = (rising ≡ false → r ≡ array_answer (read_at (files limit) s 0)) × (rising ≡ true → ends_at (length s) r ≡ is_rising_array limit s)

-- a string at a place: the length of its contents and where it ends, where that is within the bytes
unfoldable pub string_of : List ℕ → ℕ → Option StringFields
string_of s at = cond (nat_le (past_string s at) (length s)) (Some (record { length = word_at s at; past = past_string s at })) None
