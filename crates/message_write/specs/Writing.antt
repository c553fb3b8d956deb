-- Writing a message: what reading the bytes that would be written gives decides.
use Rattle.std.specs.Prelude.{ℕ, List, [], ◌++◌, cond, take, leb}
use Rattle.xdr.specs.Reading.{Reading, taken, refused}
use Rattle.xdr.specs.Format.{Format, bytes, read, encode}
use Rattle.xdr.specs.Fields.{word, hyper}
use Rattle.xdr.specs.Filling.{Outcome, gives, refuses}
use Rattle.message.specs.Limits.{id_limit}
use Rattle.message.specs.Header.{header_of}
use Rattle.message.specs.Message.{Repository}
use Rattle.message.specs.declared.edition.Edition.{Edition}
use Rattle.message.specs.declared.edition.Edition.TheVariants as E

-- the Repository as it would be written: in the old edition not at all
abbrev pub repository_bytes : (e : Edition) → Repository e → List ℕ
repository_bytes E.Old u = []
repository_bytes E.New r = encode (bytes word) r

-- the body of an Index or an IndexUpdate as it would be written: the files are given encoded (the options too, which are all of their body)
abbrev pub index_bytes : (e : Edition) → Repository e → (files : List ℕ) → List ℕ
index_bytes e r files = repository_bytes e r ++ files

-- the fields of a Request behind its Repository as they would be written
abbrev pub piece_bytes : (name : List ℕ) (offset size : ℕ) (hash : List ℕ) → List ℕ
piece_bytes name offset size hash = encode (bytes word) name ++ (encode hyper offset ++ (encode word size ++ encode (bytes word) hash))

-- the body of a Request as it would be written
abbrev pub request_bytes : (e : Edition) → Repository e → (name : List ℕ) (offset size : ℕ) (hash : List ℕ) → List ℕ
request_bytes e r name offset size hash = repository_bytes e r ++ piece_bytes name offset size hash

-- the body of a Response as it would be written
abbrev pub response_bytes : List ℕ → List ℕ
response_bytes l = encode (bytes word) l

-- a message as it would be written: its header, and its body
abbrev pub message_bytes : (id type : ℕ) → List ℕ → List ℕ
message_bytes id type b = encode word (header_of id type) ++ b

-- what a reading of the bytes m leaves to write: the bytes that it takes, or its refusal
abbrev pub as_read : {A : Type 0} → (m : List ℕ) → Reading A → Outcome
as_read m (taken v n) = gives (take n m)
as_read m (refused k p) = refuses k p

-- writing a message of some format: the Message ID comes first (5), and then what reading the message's bytes gives
unfoldable pub writing : {A : Type 0} → Format A → (id type : ℕ) → List ℕ → Outcome
writing F id type b = cond (leb id id_limit) (as_read (message_bytes id type b) (read F (message_bytes id type b))) (refuses 5 0)
