-- A message of one edition turned into the other: up with the Repository that the caller gives, down without it. The other fields stay.
use Rattle.std.specs.Prelude.{ℕ, List, [], Bool, true, false, cond}
use Rattle.xdr.specs.Reading.{Reading, taken, refused, shifted}
use Rattle.xdr.specs.Format.{read, encode}
use Rattle.xdr.specs.Filling.{Outcome, gives, refuses}
use Rattle.message.specs.Header.{type_of}
use Rattle.message.specs.Message.{repository, Kind, is_index, is_request, is_response, is_ping, is_pong, is_index_update, is_options, kind_of, Body, MessageValue, message}
use Rattle.message.specs.declared.edition.Edition.TheVariants as E
use Rattle.message_write.specs.Writing.{repository_bytes}

-- which messages have a Repository in the new edition
abbrev pub has_repository : Kind → Bool
has_repository is_index = true
has_repository is_request = true
has_repository is_response = false
has_repository is_ping = false
has_repository is_pong = false
has_repository is_index_update = true
has_repository is_options = false

-- which have a meaning in both
abbrev pub in_both : Kind → Bool
in_both is_index = true
in_both is_request = true
in_both is_response = true
in_both is_ping = true
in_both is_pong = true
in_both is_index_update = true
in_both is_options = false

-- an old body with a Repository, where its kind has one
abbrev pub raised_body : (repository : List ℕ) (k : Kind) → Body E.Old k → Body E.New k
raised_body r is_index b = (r, b.1)
raised_body r is_request b = record { repository = r; name = b.name; offset = b.offset; size = b.size; hash = b.hash }
raised_body r is_response b = b
raised_body r is_ping b = b
raised_body r is_pong b = b
raised_body r is_index_update b = (r, b.1)
raised_body r is_options b = b

-- a new body without its Repository
abbrev pub lowered_body : (k : Kind) → Body E.New k → Body E.Old k
lowered_body is_index b = (tt, b.1)
lowered_body is_request b = record { repository = tt; name = b.name; offset = b.offset; size = b.size; hash = b.hash }
lowered_body is_response b = b
lowered_body is_ping b = b
lowered_body is_pong b = b
lowered_body is_index_update b = (tt, b.1)
lowered_body is_options b = b

-- the kind of a message
abbrev pub kind_in : (h : ℕ) → Kind
kind_in h = kind_of (type_of h)

-- a message turned up, and down: its header stays, and so do ID and type
abbrev pub raised : (repository : List ℕ) → MessageValue E.Old → MessageValue E.New
raised r m = (m.0, raised_body r (kind_in m.0) m.1)

abbrev pub lowered : MessageValue E.New → MessageValue E.Old
lowered m = (m.0, lowered_body (kind_in m.0) m.1)

-- the Repository that is given, as it reads behind the header of the new message (5, 7)
abbrev pub repository_given : List ℕ → Reading (List ℕ)
repository_given r = shifted 4 (read (repository E.New) (repository_bytes E.New r))

-- what comes of a reading that is taken; one that is refused decides
abbrev pub once_taken : {A : Type 0} → Reading A → (A → Outcome) → Outcome
once_taken (taken a n) f = f a
once_taken (refused k p) f = refuses k p

-- up: the message is read as an old one, and then the Repository is checked, unless the message has none
unfoldable pub upgrading : (sent repository : List ℕ) → Outcome
upgrading s r =
    once_taken (read (message E.Old) s) λ m.
    let turned = gives (encode (message E.New) (raised r m)) in
    cond (has_repository (kind_in m.0)) (once_taken (repository_given r) λ _. turned) turned

-- down: the message is read as a new one, and then Options are refused (18)
unfoldable pub downgrading : (sent : List ℕ) → Outcome
downgrading s = once_taken (read (message E.New) s) λ m. cond (in_both (kind_in m.0)) (gives (encode (message E.Old) (lowered m))) (refuses 18 0)

-- the Repository that a new body has; one that has none says nothing
abbrev pub own_repository : (k : Kind) → Body E.New k → List ℕ
own_repository is_index b = b.0
own_repository is_request b = b.repository
own_repository is_response b = []
own_repository is_ping b = []
own_repository is_pong b = []
own_repository is_index_update b = b.0
own_repository is_options b = []
