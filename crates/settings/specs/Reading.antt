-- Reading settings as bytes (02 §14's stick): the fields one after another, from the left.
use Rattle.std.specs.Prelude.{ℕ, zero, suc, ◌+◌, List, [], ◌∷◌, cond, length, eqb, Some, None, Ok, Err}
use Rattle.std.specs.declared.result.Result.{Result}
use Rattle.xdr.specs.Reading.{Reading, taken, refused}
use Rattle.xdr.specs.Number.{big_endian}
use Rattle.xdr.specs.declared.answer.Refusal.{Refusal}
use Rattle.settings.specs.Field.{size_of, contents_of, fault}
use Rattle.settings.specs.declared.answer.Settings.{Settings}

-- no settings, and the carried fields begin at once
abbrev pub none : Settings
none = record { window = None; allowance = None; repository = None; note = None; carried = 0 }

-- settings with one field more, whose contents begin at a place: a setting, behind which the carried fields begin, or a carried field
unfoldable pub with_field : Settings → (start tag : ℕ) → List ℕ → Settings
with_field so start tag l =
    cond (eqb tag 1) (record { window = Some (big_endian 1 l); allowance = so.allowance; repository = so.repository; note = so.note; carried = start + length l })
    (cond (eqb tag 2) (record { window = so.window; allowance = Some (big_endian 4 l); repository = so.repository; note = so.note; carried = start + length l })
    (cond (eqb tag 3) (record { window = so.window; allowance = so.allowance; repository = Some (record { start = start; length = length l }); note = so.note; carried = start + length l })
    (cond (eqb tag 128) (record { window = so.window; allowance = so.allowance; repository = so.repository; note = Some (record { start = start; length = length l }); carried = start + length l })
    so)))

-- reading on at a place, with the settings so far: first so many bytes of a field that was read are passed over; then comes a tag, and the
-- least tag that is in order is given, which is one more than the tag before. A field at fault is refused at its tag
unfoldable pub read_from : List ℕ → (skip least at : ℕ) → Settings → Reading Settings
read_from [] skip least at so = taken so at
read_from (b ∷ l) (suc skip) least at so = read_from l skip least (suc at) so
read_from (b ∷ l) zero least at so =
    cond (eqb (fault least b l) 0)
    (read_from l (2 + size_of l) (suc b) (suc at) (with_field so (at + 3) b (contents_of l)))
    (refused (fault least b l) at)

-- all of the bytes: any tag is in order at first
abbrev pub reading : List ℕ → Reading Settings
reading s = read_from s 0 0 0 none

-- what reading answers
abbrev pub settings_answer : Reading Settings → Result Settings Refusal
settings_answer (taken so n) = Ok so
settings_answer (refused k p) = Err (record { number = k; place = p })
