-- Turning the bytes of a message that was read: its header and its other fields stay as they are.
use Rattle.std.specs.Prelude.{Ok, Err}
use Rattle.std.specs.declared.result.Result.{Result}
use Rattle.xdr.specs.declared.answer.Refusal.{Refusal}
use Rattle.std.specs.Prelude.{ℕ, List, ◌++◌, ◌≡◌, Bool, true, false, take, drop}
use Rattle.xdr.specs.Reading.{Reading, taken, refused}
use Rattle.xdr.specs.Format.{read_at}
use Rattle.xdr.specs.Fields.{opaque}
use Rattle.xdr.specs.Filling.{Outcome, gives, refuses}
use Rattle.message.specs.Limits.{repository_limit}
use Rattle.message.specs.Answers.{message_in}
use Rattle.message.specs.declared.answer.ResponseSpan.{ResponseSpan}
use Rattle.message.specs.declared.answer.Message.{Message}
use Rattle.message.specs.declared.answer.Message.TheVariants as M
use Rattle.message.specs.declared.edition.Edition.{Edition}
use Rattle.message.specs.declared.edition.Edition.TheVariants as E
use Rattle.message_write.specs.Writing.{repository_bytes}
use Rattle.edition.specs.Turning.{repository_given, once_taken}
use Rattle.edition.specs.declared.extent.Extent.{Extent}
use Rattle.edition.specs.declared.extent.Extent.TheVariants as X

-- what of a message stays
abbrev pub extent_of : Result Message Refusal → Result Extent Refusal
extent_of (Ok (M.Index id x)) = Ok (X.Named x.end)
extent_of (Ok (M.Request id x)) = Ok (X.Named x.end)
extent_of (Ok (M.Response id x)) = Ok (X.Same x.end)
extent_of (Ok (M.Ping id end)) = Ok (X.Same end)
extent_of (Ok (M.Pong id end)) = Ok (X.Same end)
extent_of (Ok (M.IndexUpdate id x)) = Ok (X.Named x.end)
extent_of (Ok (M.Options id x)) = Ok (X.Same x.end)
extent_of (Err r) = Err r

-- a Response at the front of some bytes, up to a place
pub record ResponseTo (e : Edition) (s : List ℕ) (end : ℕ) : Type 0 where
  pub id : ℕ
  pub span : ResponseSpan
  pub is : message_in e s ≡ Ok (M.Response id span)
  pub ends : span.end ≡ end

-- whether it is Options
abbrev pub is_options_in : Result Message Refusal → Bool
is_options_in (Ok (M.Index id x)) = false
is_options_in (Ok (M.Request id x)) = false
is_options_in (Ok (M.Response id x)) = false
is_options_in (Ok (M.Ping id end)) = false
is_options_in (Ok (M.Pong id end)) = false
is_options_in (Ok (M.IndexUpdate id x)) = false
is_options_in (Ok (M.Options id x)) = true
is_options_in (Err r) = false

-- the bytes of an old message with a Repository behind the header
abbrev pub with_repository : (old repository : List ℕ) → Outcome
with_repository m r = once_taken (repository_given r) λ _. gives (take 4 m ++ (repository_bytes E.New r ++ drop 4 m))

-- what a reading of the Repository leaves of a message's bytes
abbrev pub behind_repository : List ℕ → Reading (List ℕ) → Outcome
behind_repository m (taken r next) = gives (take 4 m ++ drop next m)
behind_repository m (refused k p) = refuses k p

-- the bytes of a new message without it
unfoldable pub without_repository : (new : List ℕ) → Outcome
without_repository m = behind_repository m (read_at (opaque repository_limit) m 4)
