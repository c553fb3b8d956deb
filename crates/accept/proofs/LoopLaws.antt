-- The pass over the resulting records: what is left at the places of both sources, and the turns.
use Rattle.std.specs.Prelude.{Some, None}
use Rattle.std.specs.declared.option.Option.{Option}
use Prim.Native.Nat.{ℕ, ◌+◌, ◌≤◌}
use mathlib.Core.List.{List, []}
use mathlib.Core.Path.{◌≡◌, sym, ap, subst, ◌∙◌}
use mathlib.Core.Bool.{Bool, true, false, cond}
use native.Mathlib.Omega.{arith}
use lib.ListN.{length, drop}
use Rattle.xdr.specs.Number.{IsBytes}
use Rattle.record.specs.File.{File}
use Rattle.table.specs.Limits.{records_limit, bytes_limit}
use Rattle.table.specs.Table.{is_good, records, table_of}
use Rattle.table.proofs.TableLaws.{table_length, good_table}
use Rattle.table.specs.Steps.Standing.{bytes_of, At}
use Rattle.table.proofs.WalkLaws.{at_start_lem, at_last}
use Rattle.table.specs.Newest.{bit}
use Rattle.table.proofs.UnionLaws.{union}
use Rattle.table.proofs.PassLaws.{Counted, counted_none}
use Rattle.merge.specs.declared.next.Pick.{Pick}
use Rattle.merge.proofs.NotingLaws.{Noting, noting_none}
use Rattle.accept.specs.Steps.Next.{place_of, next_over}
use Rattle.accept.specs.Resulting.{replacing, by_name, resulting}
use Rattle.accept.specs.Steps.Sorted.{Places, SortedPlaces}
use Rattle.accept.proofs.InsertLaws.{by_name_count, by_name_size}
use Rattle.accept.proofs.OverlayLaws.{overlay_sorted}
use Rattle.accept.proofs.KeptLaws.{resulting_is}
use Rattle.accept.proofs.StepLaws.{Took, Steps, steps}

-- the records that are left, at number i of the message's and at place j of the old table
pub record Left (s places old : List ℕ) (i j : ℕ) : Type 0 where
  pub fs : List File
  pub gs : List File
  pub left : Places s (drop i places) fs
  pub inside : i ≤ length places
  pub right : At old j gs

abbrev pub rest : {s places old : List ℕ} {i j : ℕ} → Left s places old i j → List File
rest l = union replacing l.fs l.gs

-- before the first step all are
module _ (s places old : List ℕ) (update : Bool) (p : SortedPlaces s places) (b : IsBytes old) (g : is_good old ≡ true) where
  abbrev all : List File
  all = resulting update (records s) (records old)

  abbrev source : List File
  source = cond update (records old) []

  starts : (u : Bool) → At old (cond u 4 (length old)) (cond u (records old) [])
  starts true = at_start_lem (good_table old b g)
  starts false = at_last old

  abbrev starting : {j : ℕ} → j ≡ cond update 4 (length old) → Left s places old 0 j
  starting e = record { fs = by_name (records s) []; gs = source; left = p.standing; inside = omega arith; right = subst (λ (k : ℕ). At old k source) (sym e) (starts update) }

  result_is : all ≡ by_name (records s) source
  result_is = resulting_is update (records s) (records old) p.distinct (good_table old b g).rising

  starting_all : union replacing (by_name (records s) []) source ≡ all
  starting_all = overlay_sorted (records s) source ∙ sym result_is

  pub starting_noting : (notes : List ℕ) → length notes ≡ 1024 → {j : ℕ} → j ≡ cond update 4 (length old) → (l : Left s places old 0 j) × Counted all (rest l) 0 4 × Noting s old all (rest l) notes 0 0
  starting_noting notes h e = (
    starting e,
    subst (λ (l : List File). Counted all l 0 4) (sym starting_all) (counted_none all),
    subst (λ (l : List File). Noting s old all l notes 0 0) (sym starting_all) (noting_none s old all notes h),
  )

  -- what the sizes can be at most
  source_few : (u : Bool) → (length (cond u (records old) []) ≤ records_limit) × (4 + length (bytes_of (cond u (records old) [])) ≤ bytes_limit)
  source_few true = let t = good_table old b g in (t.few, omega (arith, t.short, ap length t.is, table_length (records old)))
  source_few false = (omega arith, omega arith)

  pub result_few : length all ≤ 1024
  result_few = omega (arith, ap length result_is, by_name_count (records s) source, (source_few update).0, p.array.few)

  pub result_short : length (table_of all) ≤ length s + bytes_limit
  result_short =
      omega (arith, table_length all, ap (λ (l : List File). length (bytes_of l)) result_is, by_name_size (records s) source, (source_few update).1, ap length p.array.is, table_length (records s))

module _ {s places old : List ℕ} {i j : ℕ} (l : Left s places old i j) where
  -- the next step, by the answer that was given

  next : {at : ℕ} {r n : Option Pick} → at ≡ place_of s places i → r ≡ next_over s at old j → r ≡ n → Steps s places i l.fs old j l.gs n
  next e f g =
      subst (Steps s places i l.fs old j l.gs) (sym (sym g ∙ f ∙ ap (λ (k : ℕ). next_over s k old j) e)) (steps s places i old j l.fs l.gs l.inside l.left l.right)

  pub took : {at : ℕ} {r : Option Pick} {t : Pick} → at ≡ place_of s places i → r ≡ next_over s at old j → r ≡ Some t → Took s places i l.fs old j l.gs t
  took e f g = next e f g

  pub none_left : {at : ℕ} {r : Option Pick} → at ≡ place_of s places i → r ≡ next_over s at old j → r ≡ None → rest l ≡ []
  none_left e f g = next e f g

  -- what is left after it
  abbrev pub after : {n : ℕ} {t : Pick} → n ≡ bit t.left → Took s places i l.fs old j l.gs t → Left s places old (i + n) t.j
  after {n} e t = record { fs = t.lefts; gs = t.rights; left = subst (λ (k : ℕ). Places s (drop (i + k) places) t.lefts) (sym e) t.left; inside = omega (arith, e, t.inside); right = t.right }
