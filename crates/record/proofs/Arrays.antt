-- How a loop reads an array: each element from the part that begins at it, and all of them at the end.
use Rattle.std.specs.Prelude.{Err}
use Rattle.std.specs.declared.result.Result.{Result}
use Rattle.xdr.specs.declared.answer.Refusal.{Refusal}
use Rattle.std.proofs.Common.{◌≡◌, ℕ, ◌+◌, ◌-◌, List, length, take, drop, sym, ap, ◌∙◌}
use borrow.Author.Rules.{part_to_end}
use Rattle.xdr.specs.Reading.{Reading, taken, refused}
use Rattle.xdr.specs.Answers.{answer}
use Rattle.xdr.proofs.Answered.{answer_taken, answer_refused, pair_taken}
use Rattle.xdr.specs.Format.{Format, array, read_at}
use Rattle.xdr.proofs.Steps.{Reads, answered, part_read_lem}
use Rattle.xdr.proofs.Runs.{Progress, array_read}
use Rattle.record.specs.Answers.{array_answer, option_answer}
use Rattle.record.specs.KeyValue.{KeyValue, key_value}
use Rattle.record.specs.declared.option.OptionSpan.{OptionSpan}
use Rattle.record.proofs.Answered.{option_taken}
use Rattle.std.specs.Prelude.{Ok}

-- the answer for a part that goes from a place to the end
pub part_of : {A B : Type 0} (answer : Reading A → B) (F : Format A) (s : List ℕ) (n : ℕ) {w : B}
    → w ≡ answer (read_at F (take (length s - n) (drop n s)) 0) → w ≡ answer (read_at F (drop n s) 0)
part_of answer F s n e = e ∙ ap (λ (p : List ℕ). answer (read_at F p 0)) (part_to_end s n)

-- what is read at a place, by the answer for the part that begins there
module _ {A B : Type 0} {F : Format A} (f : A → ℕ → B) (s : List ℕ) (at : ℕ) {w : Result B Refusal} (e : w ≡ answer f (read_at F (take (length s - at) (drop at s)) 0)) where
  pub next_taken : {b : B} → w ≡ Ok b → (a : A) × (m : ℕ) × Reads F s at (taken a (at + m)) × (f a m ≡ b)
  next_taken v = let q = answer_taken {F = F} f (part_of (answer f) F s at e) v in (q.0, q.1, part_read_lem q.2, q.3)

  pub next_refused : {g : Refusal} → w ≡ Err g → Reads F s at (refused g.number (at + g.place))
  next_refused v = part_read_lem (answer_refused {F = F} f (part_of (answer f) F s at e) v)

-- of a value with the place after it
module _ {A B : Type 0} {F : Format A} (f : A → B) (s : List ℕ) (at : ℕ) {w : Result (B × ℕ) Refusal} (e : w ≡ answer (λ a next. (f a, next)) (read_at F (take (length s - at) (drop at s)) 0)) where
  pub next_pair : {b : B} {m : ℕ} → w ≡ Ok (b, m) → (a : A) × Reads F s at (taken a (at + m)) × (f a ≡ b)
  next_pair v = let q = pair_taken {F = F} f (part_of (answer (λ a next. (f a, next))) F s at e) v in (q.0, part_read_lem q.1, q.2)

-- the option at a place
pub next_option : (s : List ℕ) (at : ℕ) {w : Result OptionSpan Refusal} {v : OptionSpan} → w ≡ option_answer (read_at key_value (take (length s - at) (drop at s)) 0) → w ≡ Ok v
    → (o : KeyValue) × Reads key_value s at (taken o (at + v.next))
next_option s at e v = let q = option_taken {G = key_value} (part_of option_answer key_value s at e) v in (q.0, part_read_lem q.1)

-- the answer once as many elements have been read as the count says
pub array_done : {A : Type 0} {C : Format ℕ} {F : Format A} {s : List ℕ} {at n from i to : ℕ}
    → Reads C s at (taken n from) → Progress F s from i to → i ≡ n → Ok (n, to) ≡ array_answer (read_at (array C F) s at)
array_done {to = to} c p e =
    let all = p.counted ∙ e in
    ap (λ (k : ℕ). Ok (k, to)) (sym all) ∙ answered array_answer (array_read c p.run all)
