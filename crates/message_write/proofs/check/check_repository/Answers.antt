-- In the old edition no bytes, in the new one a string.
use Rattle.std.specs.declared.result.Result.{Result}
use Rattle.xdr.specs.declared.answer.Refusal.{Refusal}
use mathlib.Core.List.{List, []}
use Prim.Native.Nat.{ℕ}
use mathlib.Core.Path.{◌≡◌, sym, ap, subst, ◌∙◌}
use Rattle.xdr.specs.Format.{bytes, encode, read_at}
use Rattle.xdr.specs.Fields.{word}
use Rattle.message.specs.Message.{repository}
use Rattle.message.specs.Steps.{repository_answer}
use Rattle.message.specs.declared.edition.Edition.{Edition}
use Rattle.message.specs.declared.edition.Edition.TheVariants as E
use Rattle.message.proofs.ByKind.{nothing_read}
use Rattle.message.proofs.RepositoryLaws.{new_answer}
use Rattle.message_write.specs.Steps.{given_bytes}
use Rattle.message_write.proofs.check.check_repository.Goals as goal

-- by the edition that it is
in-edition : {e x : Edition} {w : Result (ℕ × ℕ) Refusal} (l : List ℕ) → e ≡ x → w ≡ repository_answer x (read_at (repository x) (given_bytes x l) 0) → w ≡ repository_answer e (read_at (repository e) (given_bytes e l) 0)
in-edition {w = w} l same a = subst (λ (y : Edition). w ≡ repository_answer y (read_at (repository y) (given_bytes y l) 0)) (sym same) a

pub returns-in-Old : goal.returns-in-Old
returns-in-Old c = in-edition c.args.repository.now c.in-Old.is (ap (repository_answer E.Old) (sym (nothing_read [] 0).is))

pub returns-in-New : goal.returns-in-New
returns-in-New c =
    let l : List ℕ = c.args.repository.now in
    in-edition l c.in-New.is (c.check_text.ensures ∙ new_answer (read_at (repository E.New) (encode (bytes word) l) 0))
