-- Saving settings: those that are there, and then the carried fields as they are.
use Rattle.std.specs.Prelude.{ℕ, List, [], ◌∷◌, ◌++◌, Some, None}
use Rattle.std.specs.declared.option.Option.{Option}
use Rattle.xdr.specs.Reading.{Reading, taken, refused}
use Rattle.xdr.specs.Number.{digits}
use Rattle.xdr.specs.Filling.{Outcome, gives, refuses}
use Rattle.settings.specs.Field.{field}
use Rattle.settings.specs.Reading.{read_from, reading}
use Rattle.settings.specs.declared.answer.Settings.{Settings}

-- a setting that is to be saved: it is not there, or its contents are these
abbrev pub Setting : Type 0
Setting = Option (List ℕ)

-- a number of so many bytes
abbrev pub of_number : (bytes : ℕ) → Option ℕ → Setting
of_number k None = None
of_number k (Some n) = Some (digits k n)

-- a setting as bytes
abbrev pub setting_bytes : (tag : ℕ) → Setting → List ℕ
setting_bytes tag None = []
setting_bytes tag (Some l) = field tag l

-- settings with their tags, one after another
abbrev pub fields_of : List (ℕ × Setting) → List ℕ
fields_of [] = []
fields_of (p ∷ ps) = setting_bytes p.0 p.1 ++ fields_of ps

-- the four settings in the order of their tags
abbrev pub tagged : (window allowance repository note : Setting) → List (ℕ × Setting)
tagged w a r n = (1, w) ∷ (2, a) ∷ (3, r) ∷ (128, n) ∷ []

-- those of them that are there, as bytes
abbrev pub own_bytes : (window allowance : Option ℕ) (repository note : Setting) → List ℕ
own_bytes w a r n = fields_of (tagged (of_number 1 w) (of_number 4 a) r n)

-- reading carried fields behind settings that were read: the least tag that is in order is 129
abbrev pub read_on : Reading Settings → (carried : List ℕ) → Reading Settings
read_on (taken so n) carried = read_from carried 0 129 n so
read_on (refused k p) carried = refused k p

-- reading what would be saved: the settings as bytes, and behind them the carried fields
unfoldable pub read_back : (own carried : List ℕ) → Reading Settings
read_back own carried = read_on (reading own) carried

-- bytes are saved if reading them is not refused
abbrev pub as_read : List ℕ → Reading Settings → Outcome
as_read m (taken so n) = gives m
as_read m (refused k p) = refuses k p

-- saving settings as bytes and carried fields
unfoldable pub saving_bytes : (own carried : List ℕ) → Outcome
saving_bytes own carried = as_read (own ++ carried) (read_back own carried)

-- saving settings, each there or not, and carried fields
abbrev pub saving : (window allowance : Option ℕ) (repository note : Setting) (carried : List ℕ) → Outcome
saving w a r n carried = saving_bytes (own_bytes w a r n) carried
