-- What reading and saving promise together.
use Rattle.std.specs.Prelude.{ℕ, zero, suc, ◌+◌, ◌≤◌, ◌<◌, List, [], ◌∷◌, ◌++◌, ◌≡◌, Bool, true, false, cond, leb, length, take, drop, Some, None}
use Rattle.std.specs.declared.option.Option.{Option}
use Rattle.xdr.specs.Reading.{taken, refused}
use Rattle.xdr.specs.Filling.{Outcome, gives, refuses}
use Rattle.settings.specs.Field.{size_of}
use Rattle.settings.specs.Reading.{read_from, reading}
use Rattle.settings.specs.Saving.{Setting, own_bytes, as_read, saving}
use Rattle.settings.specs.declared.answer.Settings.{Settings}
use Rattle.settings.specs.declared.answer.Span.{Span}

-- the setting that a span of some bytes is
abbrev pub of_span : List ℕ → Option Span → Setting
of_span s None = None
of_span s (Some p) = Some (take p.length (drop p.start s))

-- the carried fields among some bytes
abbrev pub carried_of : List ℕ → Settings → List ℕ
carried_of s so = drop so.carried s

-- saving what was read of some bytes
abbrev pub saving_again : List ℕ → Settings → Outcome
saving_again s so = saving so.window so.allowance (of_span s so.repository) (of_span s so.note) (carried_of s so)

-- some bytes without the fields whose tags are above 128: first so many bytes of a field are passed over, which are kept or not; then comes a tag
unfoldable pub kept_from : List ℕ → (skip : ℕ) (keep : Bool) → List ℕ
kept_from [] skip keep = []
kept_from (b ∷ l) (suc skip) keep = cond keep (b ∷ kept_from l skip keep) (kept_from l skip keep)
kept_from (b ∷ l) zero keep = cond (leb b 128) (b ∷ kept_from l (2 + size_of l) true) (kept_from l (2 + size_of l) false)

-- all of the bytes without those fields
abbrev pub without_carried : List ℕ → List ℕ
without_carried s = kept_from s 0 true

-- a span lies within some bytes
abbrev pub Inside : List ℕ → Option Span → Type 0
Inside s None = Unit {0}
Inside s (Some p) = p.start + p.length ≤ length s

-- of bytes that were read: they save to the same bytes, give the same settings without their tags above 128, behind which there are fields with
-- such tags alone, and what is told of them lies within them
pub record WhenRead (s : List ℕ) (so : Settings) : Type 0 where
  pub saves_same : saving_again s so ≡ gives s
  pub same_without : reading (without_carried s) ≡ taken so so.carried
  pub carried_alone : read_from (carried_of s so) 0 129 so.carried so ≡ taken so (length s)
  pub repository_inside : Inside s so.repository
  pub note_inside : Inside s so.note
  pub carried_inside : so.carried ≤ length s

-- of bytes that were refused: with 25 or 26, at a place among them
pub record WhenRefused (s : List ℕ) (number place : ℕ) : Type 0 where
  pub least : 25 ≤ number
  pub most : number ≤ 26
  pub within : place < length s

-- some bytes read to just these settings and these carried fields
pub record Says (s : List ℕ) (w a : Option ℕ) (r n : Setting) (carried : List ℕ) : Type 0 where
  pub settings : Settings
  pub reads : reading s ≡ taken settings (length s)
  pub window : settings.window ≡ w
  pub allowance : settings.allowance ≡ a
  pub repository : of_span s settings.repository ≡ r
  pub note : of_span s settings.note ≡ n
  pub behind : carried_of s settings ≡ carried

-- carried bytes whose first tag is above 128, where there is one
abbrev pub BeginsAbove : List ℕ → Type 0
BeginsAbove [] = Unit {0}
BeginsAbove (b ∷ l) = 128 < b

-- of settings and carried fields that are saved: what is saved reads to the same; saving gives what reading the result would, but that a first
-- carried tag up to 128 is 26 at its place (a later one is out of order behind one above 128); and there is no other number than 26
pub record WhenSaved (w a : Option ℕ) (r n : Setting) (carried : List ℕ) : Type 0 where
  pub reads_same : (m : List ℕ) → saving w a r n carried ≡ gives m → Says m w a r n carried
  pub as_result : BeginsAbove carried → saving w a r n carried ≡ as_read (own_bytes w a r n ++ carried) (reading (own_bytes w a r n ++ carried))
  pub own_refused : (k p : ℕ) → reading (own_bytes w a r n) ≡ refused k p → saving w a r n carried ≡ refuses k p
  pub low_carried : (b : ℕ) (l : List ℕ) → carried ≡ b ∷ l → b ≤ 128 → (so : Settings) (at : ℕ) → reading (own_bytes w a r n) ≡ taken so at → saving w a r n carried ≡ refuses 26 at
  pub only_26 : (k p : ℕ) → saving w a r n carried ≡ refuses k p → k ≡ 26
