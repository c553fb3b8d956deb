-- What only the steps of the code and their proofs need.
use Rattle.std.specs.Prelude.{ℕ, ◌+◌, ◌≤◌, List, [], ◌∷◌, cond, length, leb, eqb, Some, None, Ok, Err}
use Rattle.std.specs.Option.{option_copied}
use Rattle.std.specs.declared.option.Option.{Option}
use Rattle.std.specs.declared.result.Result.{Result}
use Rattle.xdr.specs.Reading.{Reading, taken, refused}
use Rattle.xdr.specs.Number.{digits}
use Rattle.xdr.specs.declared.answer.Refusal.{Refusal}
use Rattle.settings.specs.Field.{wrong}
use Rattle.settings.specs.Saving.{Setting, setting_bytes, tagged}
use Rattle.settings.specs.declared.answer.Settings.{Settings}
use Rattle.settings.specs.declared.saving.Given.{Given}

-- a number where it is not 0
abbrev pub unless_0 : ℕ → Option ℕ
unless_0 n = cond (eqb n 0) None (Some n)

-- the one byte of a number: 0 where it isn't there, and for a number that no byte holds, since neither is a window
abbrev pub byte_of : Option ℕ → List ℕ
byte_of None = 0 ∷ []
byte_of (Some n) = cond (leb n 255) n 0 ∷ []

-- its four bytes: zeros where it isn't there
abbrev pub word_of : Option ℕ → List ℕ
word_of None = digits 4 0
word_of (Some n) = digits 4 n

-- the four settings with their tags, as they are given
abbrev pub given : Given → List (ℕ × Setting)
given o = tagged (option_copied o.window) (option_copied o.allowance) (option_copied o.repository) (option_copied o.note)

-- how far a reading goes, or its refusal
abbrev pub end_answer : Reading Settings → Result ℕ Refusal
end_answer (taken so n) = Ok n
end_answer (refused k p) = Err (record { number = k; place = p })

-- where a setting ends that begins at a place, or what is wrong with it
unfoldable pub setting_end : (at tag : ℕ) → Setting → Result ℕ Refusal
setting_end at tag None = Ok at
setting_end at tag (Some l) =
    cond (eqb (wrong tag l) 0) (Ok (at + 3 + length l)) (Err (record { number = wrong tag l; place = at }))

-- each of four settings is short, and there is room for them and the carried fields
pub record Storable (w a r n : Setting) (carried room : ℕ) : Type 0 where
  pub window : length (setting_bytes 1 w) ≤ 258
  pub allowance : length (setting_bytes 2 a) ≤ 258
  pub repository : length (setting_bytes 3 r) ≤ 258
  pub note : length (setting_bytes 128 n) ≤ 258
  pub fits : length (setting_bytes 1 w) + length (setting_bytes 2 a) + length (setting_bytes 3 r) + length (setting_bytes 128 n) + carried ≤ room

-- the same of the four that are given
abbrev pub StorableGiven : Given → (carried room : ℕ) → Type 0
StorableGiven o = Storable (option_copied o.window) (option_copied o.allowance) (option_copied o.repository) (option_copied o.note)
