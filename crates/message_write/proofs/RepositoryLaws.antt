-- The Repository of either edition, given as bytes: checked by itself, and read behind the header.
use Prim.Native.Nat.{ℕ, ◌+◌, ◌≤◌}
use mathlib.Core.List.{List, [], ◌∷◌, ◌++◌}
use mathlib.Core.Path.{◌≡◌, refl, sym, ap, subst, ◌∙◌}
use native.Mathlib.Omega.{arith}
use borrow.Author.Tests.{leb-true}
use lib.ListN.{length}
use Rattle.xdr.specs.Reading.{Reading, taken, refused, shifted}
use Rattle.xdr.specs.Format.{nothing, bytes, encode, read_at}
use Rattle.xdr.specs.Fields.{word}
use Rattle.xdr.specs.Pad.{padded}
use Rattle.xdr.specs.declared.answer.Refusal.{Refusal}
use Rattle.std.specs.Prelude.{Ok, Err}
use Rattle.std.specs.declared.result.Result.{Result}
use Rattle.xdr.proofs.Answered.{bytes_taken, bytes_refused}
use Rattle.xdr.proofs.Steps.{Reads, passed}
use Rattle.xdr.proofs.Told.{Wide, encoded_at, told_there}
use Rattle.message.specs.Message.{Repository, repository}
use Rattle.message.specs.Steps.{repository_answer}
use Rattle.message.specs.declared.edition.Edition.{Edition}
use Rattle.message.specs.declared.edition.Edition.TheVariants as E
use Rattle.message.proofs.ByKind.{nothing_read}
use Rattle.message.proofs.RepositoryLaws.{new_answer}
use Rattle.message_write.specs.Steps.{given_bytes}
use Rattle.message_write.proofs.Behind.{behind, string_size, string_refused, string_taken}

-- one that was taken: what it says, and how many bytes it takes
pub record Checked (e : Edition) (l : List ℕ) (size : ℕ) : Type 0 where
  pub value : Repository e
  pub reads : Reads (repository e) (given_bytes e l) 0 (taken value size)
  pub ends : size ≡ length (given_bytes e l)
  pub small : length (given_bytes e l) ≤ 68

pub repository_checked : (e : Edition) (l : List ℕ) {w : Result (ℕ × ℕ) Refusal} {n size : ℕ} → w ≡ repository_answer e (read_at (repository e) (given_bytes e l) 0) → w ≡ Ok (n, size) → Checked e l size
repository_checked E.Old l {w} {n} {size} a g =
    let none = nothing_read [] 0 in
    let q : ◌≡◌ {A = Result (ℕ × ℕ) Refusal} (Ok (n, size)) (Ok (0, 0)) = sym g ∙ a ∙ ap (repository_answer E.Old) none.is in
    let both : (n, size) ≡ (0, 0) = cc in
    let same : 0 ≡ size = sym (ap (λ (p : ℕ × ℕ). p.1) both) in
    record { value = tt; reads = rw (sym same) none; ends = sym same; small = omega arith }
repository_checked E.New l {w} {n} {size} a g =
    let q = bytes_taken (a ∙ sym (new_answer (read_at (repository E.New) (encode (bytes word) l) 0))) g in
    let s = string_taken l (passed q.1) in
    record { value = q.0; reads = q.1; ends = s.0 ∙ sym (string_size l); small = omega (arith, s.1, string_size l) }

-- one that is refused, within its bytes
pub repository_unfit : (e : Edition) (l : List ℕ) {w : Result (ℕ × ℕ) Refusal} {g : Refusal} → w ≡ repository_answer e (read_at (repository e) (given_bytes e l) 0) → w ≡ Err g
    → Reads (repository e) (given_bytes e l) 0 (refused g.number g.place) × (g.place ≤ 4 + padded (length l))
repository_unfit E.Old l a b = cc (a, b, (nothing_read [] 0).is)
repository_unfit E.New l a b =
    let h = bytes_refused (a ∙ sym (new_answer (read_at (repository E.New) (encode (bytes word) l) 0))) b in
    (h, string_refused l h)

-- right behind the header it is read as it is alone
pub repository_there : (e : Edition) (l t : List ℕ) {r : Reading (Repository e)} → Reads (repository e) (given_bytes e l) 0 r → Reads (repository e) (behind (given_bytes e l ++ t)) 4 (shifted 4 r)
unfolding encode Wide
repository_there E.Old l t h =
    let same = sym (nothing_read [] 0).is ∙ h.is in
    subst (λ (x : Reading (Unit {0})). Reads nothing (behind t) 4 (shifted 4 x)) same (nothing_read (behind t) 4)
repository_there E.New l t h = encoded_at {F = repository E.New} l (0 ∷ 0 ∷ 0 ∷ 0 ∷ []) t (omega arith) refl refl h

-- one that was taken there ends where its bytes do, and is short
pub repository_told : (e : Edition) (l t : List ℕ) {v : Repository e} {n : ℕ} → Reads (repository e) (behind (given_bytes e l ++ t)) 4 (taken v n) → (n ≡ 4 + length (given_bytes e l)) × (length (given_bytes e l) ≤ 68)
repository_told E.Old l t {n = n} h =
    let same : 4 ≡ n = cc (sym (nothing_read (behind t) 4).is ∙ h.is) in (sym same, omega arith)
repository_told E.New l t h =
    let q = told_there l (0 ∷ 0 ∷ 0 ∷ 0 ∷ []) t refl (passed h) in
    let long = leb-true (length l) 64 q.2 in
    (omega (arith, q.1, string_size l), omega (arith, long, string_size l))
