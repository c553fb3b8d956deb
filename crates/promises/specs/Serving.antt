-- By a good table a Request is served exactly if the Repository that it names is ours and our own table lists that block there; otherwise it gets the reply.
use Rattle.std.specs.Prelude.{ℕ, ◌/◌, ◌%◌, List, [], ◌∷◌, true, ◌≡◌}
use Rattle.xdr.specs.Filling.{gives}
use Rattle.message.specs.Message.{RequestBody}
use Rattle.message.specs.Answers.{span_bytes}
use Rattle.message.specs.declared.answer.Span.{Span}
use Rattle.message.specs.declared.edition.Edition.TheVariants as E
use Rattle.table.specs.Table.{records}
use Rattle.want.specs.Listing.{lists_there, block_with}
use Rattle.serve.specs.Ruling.{serves, fills, ruling_of}

-- the bytes of a Response with an ID and no data
abbrev pub reply_bytes : (id : ℕ) → List ℕ
reply_bytes id = id / 256 ∷ id % 256 ∷ 3 ∷ 0 ∷ 0 ∷ 0 ∷ 0 ∷ 0 ∷ []

-- by the fields of a Request: it names our Repository, and our table lists that block there
abbrev pub IsForUs : (table repository : List ℕ) → RequestBody E.New → Type 0
IsForUs table repository b = (b.repository ≡ repository) × (lists_there (records table) b.name b.offset (block_with b.size b.hash) ≡ true)

-- the ruling by a good table on bytes that were read as a Request with an ID and fields
pub record ServedExactly (table repository s : List ℕ) (id : ℕ) (b : RequestBody E.New) : Type 0 where
  -- it is served, with its own Name, Offset and Length, if it is for us
  pub if : IsForUs table repository b → (name : Span) × (ruling_of table repository s ≡ serves name b.offset b.size) × (span_bytes s name ≡ b.name)
  -- and only then
  pub only_if : (name : Span) (offset size : ℕ) → ruling_of table repository s ≡ serves name offset size → IsForUs table repository b
  -- otherwise the reply has its ID and no data
  pub otherwise : (IsForUs table repository b → ⊥) → ruling_of table repository s ≡ fills (gives (reply_bytes id))
