-- What the answers of the readers tell of what was read.
use Rattle.std.proofs.Common.{◌≡◌, ℕ, List, length, ap}
use Rattle.std.specs.Prelude.{Ok, Err}
use Rattle.std.specs.declared.result.Result.{Result}
use Rattle.xdr.specs.Reading.{taken, refused}
use Rattle.xdr.specs.Format.{Format, read_at}
use Rattle.xdr.specs.declared.answer.Refusal.{Refusal}
use Rattle.xdr.proofs.Answered.{answer_taken, answer_refused, pair_taken}
use Rattle.xdr.proofs.Steps.{Reads}
use Rattle.record.specs.Answers.{block_answer, array_answer, file_span, file_answer, option_span, option_answer}
use Rattle.record.specs.Block.{Block}
use Rattle.record.specs.File.{File}
use Rattle.record.specs.KeyValue.{KeyValue}
use Rattle.record.specs.declared.file.FileSpan.{FileSpan}
use Rattle.record.specs.declared.option.OptionSpan.{OptionSpan}

-- by the answer w that was given, and the variant that it is

module _ {G : Format Block} {s : List ℕ} {at : ℕ} {w : Result (ℕ × ℕ) Refusal} (e : w ≡ block_answer (read_at G s at)) where
  pub block_taken : {n m : ℕ} → w ≡ Ok (n, m) → (b : Block) × Reads G s at (taken b m)
  block_taken v = let q = pair_taken {F = G} (λ b. b.size) e v in (q.0, q.1)

  pub block_refused : {g : Refusal} → w ≡ Err g → Reads G s at (refused g.number g.place)
  block_refused v = answer_refused {F = G} (λ b next. (b.size, next)) e v

module _ {A : Type 0} {G : Format (List A)} {s : List ℕ} {at : ℕ} {w : Result (ℕ × ℕ) Refusal} (e : w ≡ array_answer (read_at G s at)) where
  pub array_taken : {n m : ℕ} → w ≡ Ok (n, m) → (l : List A) × Reads G s at (taken l m) × (length l ≡ n)
  array_taken v = pair_taken {F = G} length e v

  pub array_refused : {g : Refusal} → w ≡ Err g → Reads G s at (refused g.number g.place)
  array_refused v = answer_refused {F = G} (λ l next. (length l, next)) e v

module _ {G : Format File} {s : List ℕ} {at : ℕ} {w : Result FileSpan Refusal} (e : w ≡ file_answer (read_at G s at)) where
  pub file_taken : {v : FileSpan} → w ≡ Ok v → (f : File) × Reads G s at (taken f v.next)
  file_taken {v} h =
      let q = answer_taken {F = G} file_span e h in
      let there : q.1 ≡ v.next = ap (λ (x : FileSpan). x.next) q.3 in
      (q.0, rw there at q.2)

  pub file_refused : {g : Refusal} → w ≡ Err g → Reads G s at (refused g.number g.place)
  file_refused h = answer_refused {F = G} file_span e h

module _ {G : Format KeyValue} {s : List ℕ} {at : ℕ} {w : Result OptionSpan Refusal} (e : w ≡ option_answer (read_at G s at)) where
  pub option_taken : {v : OptionSpan} → w ≡ Ok v → (o : KeyValue) × Reads G s at (taken o v.next)
  option_taken {v} h =
      let q = answer_taken {F = G} option_span e h in
      let there : q.1 ≡ v.next = ap (λ (x : OptionSpan). x.next) q.3 in
      (q.0, rw there at q.2)

  pub option_refused : {g : Refusal} → w ≡ Err g → Reads G s at (refused g.number g.place)
  option_refused h = answer_refused {F = G} option_span e h
