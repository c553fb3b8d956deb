-- A Repository that was read, in either edition.
use Prim.Native.Nat.{ℕ, ◌≤◌}
use mathlib.Core.List.{List}
use mathlib.Core.Path.{◌≡◌, refl, sym, ap, ◌∙◌}
use native.Mathlib.Omega.{arith}
use lib.ListN.{length}
use Rattle.xdr.specs.Reading.{Reading, taken, refused}
use Rattle.std.specs.Prelude.{Ok, Err}
use Rattle.std.specs.declared.result.Result.{Result}
use Rattle.xdr.specs.Answers.{bytes_answer}
use Rattle.xdr.specs.Format.{read_at}
use Rattle.xdr.specs.declared.answer.Refusal.{Refusal}
use Rattle.xdr.proofs.Answered.{bytes_taken, bytes_refused}
use Rattle.xdr.proofs.Steps.{Reads, passed}
use Rattle.xdr.proofs.Strings.{string_ends, string_within}
use Rattle.message.specs.Message.{Repository, repository}
use Rattle.message.specs.Answers.{repository_length, past_repository}
use Rattle.message.specs.Steps.{repository_answer}
use Rattle.message.specs.declared.edition.Edition.{Edition}
use Rattle.message.specs.declared.edition.Edition.TheVariants as E
use Rattle.message.proofs.ByKind.{nothing_read}

-- the answer for a string is that for a Repository of the new edition
pub new_answer : (r : Reading (List ℕ)) → bytes_answer r ≡ repository_answer E.New r
new_answer (taken l next) = refl
new_answer (refused k p) = refl

-- one that is taken: what it says, where it stands
pub record Named (e : Edition) (s : List ℕ) (n next : ℕ) : Type 0 where
  pub value : Repository e
  pub reads : Reads (repository e) s 4 (taken value next)
  pub long : repository_length e value ≡ n
  pub ends : next ≡ past_repository e value
  pub within : 4 ≤ length s → next ≤ length s

pub repository_taken : (e : Edition) {s : List ℕ} {w : Result (ℕ × ℕ) Refusal} {n next : ℕ} → w ≡ repository_answer e (read_at (repository e) s 4) → w ≡ Ok (n, next) → Named e s n next
repository_taken E.Old {s} {w} {n} {next} a g =
    let q : ◌≡◌ {A = Result (ℕ × ℕ) Refusal} (Ok (n, next)) (Ok (0, 4)) = sym g ∙ a ∙ ap (repository_answer E.Old) (nothing_read s 4).is in
    let both : (n, next) ≡ (0, 4) = cc in
    let long : 0 ≡ n = sym (ap (λ (p : ℕ × ℕ). p.0) both) in
    let there : 4 ≡ next = sym (ap (λ (p : ℕ × ℕ). p.1) both) in
    record { value = tt; reads = rw (sym there) (nothing_read s 4); long = long; ends = sym there; within = λ h. omega arith }
repository_taken E.New {s} {w} a g =
    let q = bytes_taken (a ∙ sym (new_answer (read_at (repository E.New) s 4))) g in
    record { value = q.0; reads = q.1; long = q.2; ends = string_ends (passed q.1); within = λ h. string_within (passed q.1) }

-- one that is refused
pub repository_refused : (e : Edition) {s : List ℕ} {w : Result (ℕ × ℕ) Refusal} {g : Refusal} → w ≡ repository_answer e (read_at (repository e) s 4) → w ≡ Err g
    → Reads (repository e) s 4 (refused g.number g.place)
repository_refused E.Old {s} a b = cc (a, b, (nothing_read s 4).is)
repository_refused E.New {s} a b = bytes_refused (a ∙ sym (new_answer (read_at (repository E.New) s 4))) b
