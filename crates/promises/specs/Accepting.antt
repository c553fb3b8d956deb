-- Which records an accepted table has, one by one.
use Rattle.std.specs.Prelude.{ℕ, ◌≡◌, ◌⊎◌, Bool, true}
use mathlib.Core.List.{List, Memᴰ}
use Rattle.xdr.specs.Reading.{taken}
use Rattle.xdr.specs.Format.{read}
use Rattle.record.specs.File.{File}
use Rattle.message.specs.Header.{type_of}
use Rattle.message.specs.Message.{kind_of, MessageValue, message}
use Rattle.message.specs.declared.edition.Edition.TheVariants as E
use Rattle.table.specs.Table.{is_good, records}
use Rattle.accept.specs.Accepting.{index_with, index_body}

-- no record of some has a name
abbrev pub NoneNamed : List ℕ → List File → Type 0
NoneNamed n fs = (g : File) → Memᴰ g fs → g.name ≡ n → ⊥

-- a record was sent; or it is an old one whose name is not mentioned, and the message is an IndexUpdate
abbrev pub Belongs : (update : Bool) → (sent old : List File) → File → Type 0
Belongs update sent old f = Memᴰ f sent ⊎ ((update ≡ true) × Memᴰ f old × NoneNamed f.name sent)

-- a message was accepted over an old table for a Repository, and filled in a table
pub record Accepted (old bytes repository table : List ℕ) : Type 0 where
  -- the bytes were read as an Index or an IndexUpdate that sends files for the Repository
  pub value : MessageValue E.New
  pub end : ℕ
  pub reads : read (message E.New) bytes ≡ taken value end
  pub update : Bool
  pub sent : List File
  pub sends : index_body (kind_of (type_of value.0)) value.1 ≡ index_with update (repository, sent)
  -- the table is good, and its records are exactly those that belong
  pub good : is_good table ≡ true
  pub only : (f : File) → Memᴰ f (records table) → Belongs update sent (records old) f
  pub all : (f : File) → Belongs update sent (records old) f → Memᴰ f (records table)
