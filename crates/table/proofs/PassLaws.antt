-- A pass over the records of a resulting table, which counts them and their bytes.
use Prim.Native.Nat.{ℕ, ◌+◌, ◌-◌}
use mathlib.Core.List.{List, [], ◌∷◌}
use mathlib.Core.Path.{◌≡◌, sym, ap, subst, ◌∙◌}
use native.Mathlib.Omega.{arith}
use native.Mathlib.Nat.{zero-add}
use lib.ListN.{length, length-append}
use Rattle.xdr.specs.Format.{encode}
use Rattle.record.specs.File.{File, file}
use Rattle.table.specs.Table.{table_of}
use Rattle.table.specs.Steps.Standing.{bytes_of}
use Rattle.table.proofs.TableLaws.{table_length}

-- so many records and bytes of all were counted, and the rest is to come
pub record Counted (all rest : List File) (count bytes : ℕ) : Type 0 where
  pub counted : count + length rest ≡ length all
  pub sized : bytes + length (bytes_of rest) ≡ length (table_of all)

pub counted_none : (all : List File) → Counted all all 0 4
counted_none all = record { counted = zero-add (length all); sized = sym (table_length all) }

module _ {all rest : List File} {count bytes : ℕ} (c : Counted all rest count bytes) where
  counted_more : {f : File} {others : List File} → rest ≡ f ∷ others → Counted all others (count + 1) (bytes + length (encode file f))
  counted_more {f} {others} e =
      let k : length (bytes_of rest) ≡ length (encode file f) + length (bytes_of others) = ap (λ (l : List File). length (bytes_of l)) e ∙ length-append (encode file f) (bytes_of others) in
      record { counted = omega (arith, c.counted, ap length e); sized = omega (arith, c.sized) }

  -- by the places where it starts and ends
  pub counted_step : {f : File} {others : List File} (start end : ℕ) → rest ≡ f ∷ others → end ≡ start + length (encode file f) → Counted all others (count + 1) (bytes + (end - start))
  counted_step {f} {others} start end e h =
      let n : length (encode file f) ≡ end - start = omega arith in
      subst (λ (k : ℕ). Counted all others (count + 1) (bytes + k)) n (counted_more e)

  pub counted_all : rest ≡ [] → (count ≡ length all) × (bytes ≡ length (table_of all))
  counted_all e =
      let k : length (bytes_of rest) ≡ 0 = ap (λ (l : List File). length (bytes_of l)) e in
      (omega (arith, c.counted, ap length e), omega (arith, c.sized))
