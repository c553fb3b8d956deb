-- For the steps that make a table: the records that it takes, noted in two numbers each, and what is put of them.
use Rattle.std.specs.Prelude.{ℕ, ◌+◌, ◌≤◌, List, [], ◌∷◌, ◌++◌, ◌≡◌, cond, ◌&&◌, length, take, leb, ltb, eqb, Some, None}
use Rattle.std.specs.declared.result.Result.{Result}
use Rattle.std.specs.declared.option.Option.{Option}
use Rattle.xdr.specs.declared.answer.Refusal.{Refusal}
use Rattle.xdr.specs.Buffer.{over}
use Rattle.xdr.specs.Filling.{Fills}
use Rattle.record.specs.File.{File}
use Rattle.order.specs.Order.{part}
use Rattle.table.specs.Limits.{records_limit}
use Rattle.table.specs.Table.{table_of, resulting_table}
use Rattle.table.specs.Steps.Standing.{bytes_of}
use Rattle.merge.specs.declared.next.Pick.{Pick}
use Rattle.merge.specs.declared.notes.Size.{Size}

-- a record of the first table is noted as where it starts and where it ends, one of the second the other way round
abbrev pub note_of : Pick → List ℕ
note_of s = cond s.left (s.start ∷ s.end ∷ []) (s.end ∷ s.start ∷ [])

-- the bytes of a record that is noted
abbrev pub noted : List ℕ → List ℕ → (x y : ℕ) → List ℕ
noted a b x y = cond (leb x y) (part a x y) (part b y x)

-- the bytes of all that are noted, one after another
unfoldable pub noted_all : (a b notes : List ℕ) → List ℕ
noted_all a b [] = []
noted_all a b (x ∷ []) = []
noted_all a b (x ∷ y ∷ l) = noted a b x y ++ noted_all a b l

-- two notes as one, where the second goes on in the same table at the place where the first ends
abbrev pub joined_of : (x y u v : ℕ) → Option (ℕ × ℕ)
joined_of x y u v = cond (leb x y) (cond (eqb u y && leb u v) (Some (x, v)) None) (cond (eqb v x && ltb v u) (Some (u, y)) None)

-- all that are noted are put into a buffer from a place on, where there is room for them
abbrev pub PutsNotes : (a b notes out : List ℕ) → (at : ℕ) → (after : List ℕ) → Type 0
PutsNotes a b notes out at after = at + length (noted_all a b notes) ≤ length out → after ≡ over out at (noted_all a b notes)

-- the size is that of the records, and they are noted where a table may have so many
pub record Measured (a b notes : List ℕ) (fs : List File) (size : Size) : Type 0 where
  pub counted : size.count ≡ length fs
  pub sized : size.bytes ≡ length (table_of fs)
  pub are : size.count ≤ records_limit → noted_all a b notes ≡ bytes_of fs

-- they are noted in the first of some notes
pub record Noted (a b notes : List ℕ) (fs : List File) (size : Size) : Type 0 where
  pub inside : size.noted ≤ length notes
  pub measured : Measured a b (take size.noted notes) fs size

-- the table of the records that were measured and noted is put into a buffer
abbrev pub PutsTable : (a b notes : List ℕ) → Size → (out : List ℕ) → Result ℕ Refusal → (after : List ℕ) → Type 0
PutsTable a b notes size out r after = (fs : List File) → Measured a b notes fs size → Fills (resulting_table fs) out r after
