-- The seven messages: a header word, and a body by the type that it names.
use Rattle.std.specs.Prelude.{ℕ, List, refl, cond, eqb}
use Rattle.xdr.specs.Format.{Format, nothing, pair, via}
use Rattle.xdr.specs.Fields.{hyper, opaque, text}
use Rattle.record.specs.Block.{size, hash}
use Rattle.record.specs.File.{File, name, files}
use Rattle.record.specs.KeyValue.{KeyValue, options}
use Rattle.message.specs.Limits.{repository_limit, files_limit, data_limit, options_limit}
use Rattle.message.specs.Header.{type_of, header}
use Rattle.message.specs.declared.edition.Edition.{Edition}
use Rattle.message.specs.declared.edition.Edition.TheVariants as E

-- what a message says of its Repository: in the old edition nothing
abbrev pub Repository : Edition → Type 0
Repository E.Old = Unit {0}
Repository E.New = List ℕ

-- Repository: a string, or not there
abbrev pub repository : (e : Edition) → Format (Repository e)
repository E.Old = nothing
repository E.New = text repository_limit

-- Index and IndexUpdate: Repository and files
abbrev pub index : (e : Edition) → Format (Repository e × List File)
index e = pair (repository e) λ r. files files_limit

-- a Request as a value: `size` is the Length
pub record RequestBody (e : Edition) : Type 0 where
  pub repository : Repository e
  pub name : List ℕ
  pub offset : ℕ
  pub size : ℕ
  pub hash : List ℕ

-- the Request with these fields
abbrev pub to_request : {e : Edition} → Repository e × (List ℕ × (ℕ × (ℕ × List ℕ))) → RequestBody e
to_request p = record { repository = p.0; name = p.1.0; offset = p.1.1.0; size = p.1.1.1.0; hash = p.1.1.1.1 }

-- the fields of a Request
abbrev pub from_request : {e : Edition} → RequestBody e → Repository e × (List ℕ × (ℕ × (ℕ × List ℕ)))
from_request b = (b.repository, (b.name, (b.offset, (b.size, b.hash))))

-- the fields of a Request behind the Repository: Name, Offset, Length and Hash
abbrev pub piece : Format (List ℕ × (ℕ × (ℕ × List ℕ)))
piece = pair name λ n. pair hyper λ o. pair size λ l. hash

-- Request: Repository, and those fields
abbrev pub request : (e : Edition) → Format (RequestBody e)
request e = via to_request from_request (λ p. refl) (λ b. refl) (pair (repository e) λ r. piece)

-- Response: Data
abbrev pub response : Format (List ℕ)
response = opaque data_limit

-- the kinds of messages, by their types 1 to 7 (no other passes the header)
pub data Kind : Type 0 where
  is_index is_request is_response is_ping is_pong is_index_update is_options : Kind

-- the kind of a type: 1 Index, 2 Request, 3 Response, 4 Ping, 5 Pong, 6 IndexUpdate, 7 Options
abbrev pub kind_of : ℕ → Kind
kind_of t =
    cond (eqb t 1) is_index (cond (eqb t 2) is_request (cond (eqb t 3) is_response
    (cond (eqb t 4) is_ping (cond (eqb t 5) is_pong (cond (eqb t 6) is_index_update is_options)))))

-- what the body of each kind says
abbrev pub Body : Edition → Kind → Type 0
Body e is_index = Repository e × List File
Body e is_request = RequestBody e
Body e is_response = List ℕ
Body e is_ping = Unit {0}
Body e is_pong = Unit {0}
Body e is_index_update = Repository e × List File
Body e is_options = List KeyValue

-- the body of each kind (the header of the old edition lets no Options pass)
abbrev pub body : (e : Edition) (k : Kind) → Format (Body e k)
body e is_index = index e
body e is_request = request e
body e is_response = response
body e is_ping = nothing
body e is_pong = nothing
body e is_index_update = index e
body e is_options = options options_limit

-- a message as a value: its header word and what its body says
abbrev pub MessageValue : Edition → Type 0
MessageValue e = (h : ℕ) × Body e (kind_of (type_of h))

-- a message: the header, and the body of the kind that its type names
abbrev pub message : (e : Edition) → Format (MessageValue e)
message e = pair (header e) λ h. body e (kind_of (type_of h))
