-- The strings of messages and tables are UTF-8, and their Names lead down from a folder, so that a host may join them to one.
use Rattle.std.specs.Prelude.{ℕ, List}
use Rattle.xdr.specs.Format.{AllOf}
use Rattle.xdr.specs.Utf8.{IsUtf8}
use Rattle.record.specs.File.{File}
use Rattle.record.specs.Name.{Faultless, StaysBelow}
use Rattle.message.specs.Message.{Repository, Kind, is_index, is_request, is_response, is_ping, is_pong, is_index_update, is_options, Body}
use Rattle.message.specs.declared.edition.Edition.{Edition}
use Rattle.message.specs.declared.edition.Edition.TheVariants as E

-- P of the names of files
abbrev pub NamesHave : (P : List ℕ → Type 0) → List File → Type 0
NamesHave P fs = AllOf (λ f. P f.name) fs

-- P of a Repository, where there is one
abbrev pub RepositoryHas : (P : List ℕ → Type 0) (ed : Edition) → Repository ed → Type 0
RepositoryHas P E.Old u = Unit {0}
RepositoryHas P E.New r = P r

-- the strings of a body: P of Repository, Keys and Values, and Q of Names
abbrev pub StringsHave : (P Q : List ℕ → Type 0) (ed : Edition) (k : Kind) → Body ed k → Type 0
StringsHave P Q ed is_index b = RepositoryHas P ed b.0 × NamesHave Q b.1
StringsHave P Q ed is_request b = RepositoryHas P ed b.repository × Q b.name
StringsHave P Q ed is_response b = Unit {0}
StringsHave P Q ed is_ping b = Unit {0}
StringsHave P Q ed is_pong b = Unit {0}
StringsHave P Q ed is_index_update b = RepositoryHas P ed b.0 × NamesHave Q b.1
StringsHave P Q ed is_options b = AllOf (λ o. P o.key × P o.value) b

-- a name that has no fault of request §10's list, and by which a walk stays below the folder that it begins in
pub record LeadsDown (l : List ℕ) : Type 0 where
  pub faultless : Faultless l
  pub stays_below : StaysBelow l

-- every name is UTF-8
abbrev pub NamesAreUtf8 : List File → Type 0
NamesAreUtf8 fs = NamesHave IsUtf8 fs

-- every string of a body is UTF-8
abbrev pub StringsAreUtf8 : (ed : Edition) (k : Kind) → Body ed k → Type 0
StringsAreUtf8 ed k b = StringsHave IsUtf8 IsUtf8 ed k b

-- every Name of a body leads down
abbrev pub NamesLeadDown : (ed : Edition) (k : Kind) → Body ed k → Type 0
NamesLeadDown ed k b = StringsHave (λ l. Unit {0}) LeadsDown ed k b
