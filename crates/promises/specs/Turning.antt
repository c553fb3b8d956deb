-- Turning a message into the other edition: it says the same but for the Repository, and turned back it is the same bytes.
use Rattle.std.specs.Prelude.{ℕ, List, [], ◌++◌, ◌≡◌, length, take}
use Rattle.xdr.specs.Number.{IsBytes}
use Rattle.xdr.specs.Filling.{gives}
use Rattle.message.specs.declared.edition.Edition.TheVariants as E
use Rattle.edition.specs.Turning.{upgrading, downgrading}
use Rattle.promises.specs.RoundTrips.{MessageFields, an_index, a_request, a_response, a_ping, a_pong, an_index_update, some_options, finds, found}

-- the fields of an old message, with a Repository where a message of that type has one
abbrev pub with_repository : List ℕ → MessageFields E.Old → MessageFields E.New
with_repository r (an_index u f) = an_index r f
with_repository r (a_request u n o size h) = a_request r n o size h
with_repository r (a_response d) = a_response d
with_repository r a_ping = a_ping
with_repository r a_pong = a_pong
with_repository r (an_index_update u f) = an_index_update r f
with_repository r (some_options o) = some_options o

-- the fields of a new message without the Repository
abbrev pub without_repository : MessageFields E.New → MessageFields E.Old
without_repository (an_index r f) = an_index tt f
without_repository (a_request r n o size h) = a_request tt n o size h
without_repository (a_response d) = a_response d
without_repository a_ping = a_ping
without_repository a_pong = a_pong
without_repository (an_index_update r f) = an_index_update tt f
without_repository (some_options o) = some_options o

-- the Repository among the fields of a new message; nothing where it has none
abbrev pub repository_of : MessageFields E.New → List ℕ
repository_of (an_index r f) = r
repository_of (a_request r n o size h) = r
repository_of (a_response d) = []
repository_of a_ping = []
repository_of a_pong = []
repository_of (an_index_update r f) = r
repository_of (some_options o) = []

-- an old message s with these fields was turned up to l: ID and fields are found in l, whatever follows it, and l turned down is the message's own bytes
pub record TurnsUp (s repository l : List ℕ) (id : ℕ) (fields : MessageFields E.Old) (end : ℕ) : Type 0 where
  pub says : (u : List ℕ) → IsBytes (l ++ u) → found E.New (l ++ u) ≡ finds id (with_repository repository fields) (length l)
  pub back : (u : List ℕ) → downgrading (l ++ u) ≡ gives (take end s)

-- a new message was turned down: likewise, and turned up with its own Repository it is its own bytes
pub record TurnsDown (s l : List ℕ) (id : ℕ) (fields : MessageFields E.New) (end : ℕ) : Type 0 where
  pub says : (u : List ℕ) → IsBytes (l ++ u) → found E.Old (l ++ u) ≡ finds id (without_repository fields) (length l)
  pub back : (u : List ℕ) → upgrading (l ++ u) (repository_of fields) ≡ gives (take end s)
