-- Bytes after the end of a message belong to the next one.
use Rattle.std.specs.Prelude.{ℕ, List, ◌++◌, ◌≡◌}
use Rattle.xdr.specs.Reading.{refused}
use Rattle.xdr.specs.Format.{read}
use Rattle.message.specs.Message.{message}
use Rattle.message.specs.Answers.{message_in}
use Rattle.message.specs.declared.edition.Edition.{Edition}
use Rattle.message.specs.declared.edition.Edition.TheVariants as E
use Rattle.edition.specs.Turning.{upgrading, downgrading}
use Rattle.accept.specs.Accepting.{accept_outcome}
use Rattle.serve.specs.Ruling.{ruling_of}
use Rattle.queue.specs.Queue.{answer_of}
use Rattle.queue.specs.declared.queue.RequestQueue.{RequestQueue}

-- the bytes are enough to tell: they are taken as a message of an edition, or refused with another number than 1
abbrev pub IsEnough : Edition → List ℕ → Type 0
IsEnough ed s = (p : ℕ) → read (message ed) s ≡ refused 1 p → ⊥

-- each call that is given a message does the same when bytes follow it
pub record Unchanged (s t : List ℕ) : Type 0 where
  pub reading : message_in E.New (s ++ t) ≡ message_in E.New s
  pub turning : downgrading (s ++ t) ≡ downgrading s
  pub accepting : (old repository : List ℕ) → accept_outcome old (s ++ t) repository ≡ accept_outcome old s repository
  pub answering : (q : RequestQueue) (peer : ℕ) → answer_of q peer (s ++ t) ≡ answer_of q peer s
  pub serving : (table repository : List ℕ) → ruling_of table repository (s ++ t) ≡ ruling_of table repository s

-- those that are given an old one too
pub record OldUnchanged (s t : List ℕ) : Type 0 where
  pub reading : message_in E.Old (s ++ t) ≡ message_in E.Old s
  pub turning : (repository : List ℕ) → upgrading (s ++ t) repository ≡ upgrading s repository
