-- In the old edition no bytes, in the new one a string.
use Rattle.std.proofs.Common.{◌≡◌, ℕ, List, sym, ap, subst, ◌∙◌}
use Rattle.std.specs.declared.result.Result.{Result}
use Rattle.xdr.specs.Format.{read_at}
use Rattle.xdr.specs.declared.answer.Refusal.{Refusal}
use Rattle.message.specs.Message.{repository}
use Rattle.message.specs.Steps.{repository_answer}
use Rattle.message.specs.declared.edition.Edition.{Edition}
use Rattle.message.specs.declared.edition.Edition.TheVariants as E
use Rattle.message.proofs.ByKind.{nothing_read}
use Rattle.message.proofs.RepositoryLaws.{new_answer}
use Rattle.message.proofs.reading.read_repository.Goals as goal

-- by the edition that it is
in-edition : {e x : Edition} {w : Result (ℕ × ℕ) Refusal} (s : List ℕ) → e ≡ x → w ≡ repository_answer x (read_at (repository x) s 4) → w ≡ repository_answer e (read_at (repository e) s 4)
in-edition {w = w} s same a = subst (λ (y : Edition). w ≡ repository_answer y (read_at (repository y) s 4)) (sym same) a

pub returns-in-Old : goal.returns-in-Old
returns-in-Old c = in-edition c.args.s.now c.in-Old.is (ap (repository_answer E.Old) (sym (nothing_read c.args.s.now 4).is))

pub returns-in-New : goal.returns-in-New
returns-in-New c = in-edition c.args.s.now c.in-New.is (c.read_text.ensures ∙ new_answer (read_at (repository E.New) c.args.s.now 4))
