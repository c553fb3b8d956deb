-- What is put of a table, by its size and the notes of its records.
use Rattle.std.specs.Prelude.{Ok}
use Rattle.std.specs.declared.result.Result.{Result}
use Rattle.xdr.specs.declared.answer.Refusal.{Refusal}
use Prim.Native.Nat.{ℕ, ◌+◌, ◌≤◌, ◌<◌}
use mathlib.Core.List.{List}
use mathlib.Core.Path.{◌≡◌, sym, ap, ◌∙◌}
use mathlib.Core.Bool.{true, false, and-eq-true_iff}
use native.Mathlib.Omega.{arith}
use borrow.Author.Tests.{leb-true}
use lib.ListN.{length, take}
use lib.Dec.{leb}
use Rattle.xdr.specs.Fields.{word}
use Rattle.xdr.specs.Format.{encode}
use Rattle.xdr.specs.Buffer.{over, put}
use Rattle.xdr.specs.Filling.{refuses, filling_answer, Fills}
use Rattle.xdr.proofs.FillingLaws.{fills_refused, fills_short, fills_given}
use Rattle.record.specs.File.{File}
use Rattle.table.specs.Limits.{records_limit, bytes_limit}
use Rattle.table.specs.Table.{is_within, table_of, resulting_table}
use Rattle.table.specs.Steps.Standing.{bytes_of}
use Rattle.table.proofs.TableLaws.{table_length, result_large, result_within, table_filled}
use Rattle.merge.specs.Steps.Notes.{noted_all, PutsNotes, Measured, Noted, PutsTable}
use Rattle.merge.specs.declared.notes.Size.{Size}
use Rattle.merge.proofs.NoteLaws.{put_length}

-- a table within the limits has few enough records
few : (count size : ℕ) → is_within count size ≡ true → count ≤ records_limit
few count size e = leb-true count records_limit ((and-eq-true_iff (leb count records_limit) (leb size bytes_limit)).0 e).0

module _ (a b notes : List ℕ) (size : Size) (out : List ℕ) (fs : List File) (m : Measured a b notes fs size) where
  within : is_within (length fs) (length (table_of fs)) ≡ is_within size.count size.bytes
  within = sym (ap (λ (x : ℕ). is_within x size.bytes) m.counted ∙ ap (λ (x : ℕ). is_within (length fs) x) m.sized)

  -- it is above the limits, too long for the buffer, or put: all that is noted is written
  pub put_large : {r : Result ℕ Refusal} → is_within size.count size.bytes ≡ false → r ≡ filling_answer (refuses 19 0) → Fills (resulting_table fs) out r out
  put_large e f = fills_refused out (result_large fs (within ∙ e)) f

  pub put_short : {r : Result ℕ Refusal} → is_within size.count size.bytes ≡ true → length out < size.bytes → r ≡ filling_answer (refuses 14 0) → Fills (resulting_table fs) out r out
  put_short e h f = fills_short out (result_within fs (within ∙ e)) (omega (arith, m.sized)) f

  pub put_filled : {o p : List ℕ} → is_within size.count size.bytes ≡ true → size.bytes ≤ length out → o ≡ put out 0 (encode word size.count) → PutsNotes a b notes o 4 p
      → Fills (resulting_table fs) out (Ok size.bytes) p
  put_filled {o} e h f g =
      let same : noted_all a b notes ≡ bytes_of fs = m.are (few size.count size.bytes e) in
      let room : 4 + length (noted_all a b notes) ≤ length o = omega (arith, ap length f, put_length out 0 (encode word size.count), ap length same, table_length fs, m.sized) in
      fills_given out (result_within fs (within ∙ e)) (omega (arith, m.sized)) m.sized
      (table_filled out fs m.counted (omega (arith, m.sized)) f (g room ∙ ap (over o 4) same))

-- with the notes lent as far as they go
pub table_put : (a b notes : List ℕ) (size : Size) (out : List ℕ) {fs : List File} {r : Result ℕ Refusal} {o : List ℕ} → Noted a b notes fs size
    → PutsTable a b (take size.noted notes) size out r o → Fills (resulting_table fs) out r o
table_put a b notes size out {fs} n p = p fs n.measured
