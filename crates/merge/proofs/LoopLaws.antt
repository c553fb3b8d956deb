-- The pass over the merged records: what is left at the places of both tables.
use Rattle.std.specs.Prelude.{Some, None}
use Rattle.std.specs.declared.option.Option.{Option}
use Prim.Native.Nat.{ℕ, ◌+◌, ◌≤◌}
use mathlib.Core.List.{List, []}
use mathlib.Core.Path.{◌≡◌, sym, subst, ◌∙◌}
use mathlib.Core.Bool.{true}
use lib.ListN.{length}
use Rattle.xdr.specs.Number.{IsBytes}
use Rattle.record.specs.File.{File}
use Rattle.table.specs.Limits.{bytes_limit}
use Rattle.table.specs.Table.{is_good, records}
use Rattle.table.proofs.TableLaws.{good_table}
use Rattle.table.specs.Steps.Standing.{At}
use Rattle.table.proofs.WalkLaws.{at_start_lem}
use Rattle.table.proofs.UnionLaws.{union}
use Rattle.table.proofs.PassLaws.{Counted, counted_none}
use Rattle.merge.specs.Merged.{higher}
use Rattle.merge.specs.Answer.{merged_records}
use Rattle.merge.specs.Steps.Next.{next_of}
use Rattle.merge.specs.declared.next.Pick.{Pick}
use Rattle.merge.proofs.TwoLaws.{merged_two}
use Rattle.merge.proofs.StepLaws.{Took, Steps, steps}
use Rattle.merge.proofs.NotingLaws.{Noting, noting_none}

-- the records of two good tables that are left, at a place of each
pub record Left (a b : List ℕ) (i j : ℕ) : Type 0 where
  pub fs : List File
  pub gs : List File
  pub left : At a i fs
  pub right : At b j gs
  pub short_left : length a ≤ bytes_limit
  pub short_right : length b ≤ bytes_limit

abbrev pub rest : {a b : List ℕ} {i j : ℕ} → Left a b i j → List File
rest l = union higher l.fs l.gs

-- before the first step all are
module _ (a b : List ℕ) (p : IsBytes a) (q : IsBytes b) (g : is_good a ≡ true) (h : is_good b ≡ true) where
  abbrev starting : Left a b 4 4
  starting =
      record {
        fs = records a;
        gs = records b;
        left = at_start_lem (good_table a p g);
        right = at_start_lem (good_table b q h);
        short_left = (good_table a p g).short;
        short_right = (good_table b q h).short;
      }

  starting_all : union higher (records a) (records b) ≡ merged_records a b
  unfolding merged_records
  starting_all = merged_two (records a) (records b) (good_table a p g).rising (good_table b q h).rising

  pub starting_noting : (notes : List ℕ) → length notes ≡ 1024 → (l : Left a b 4 4) × Counted (merged_records a b) (rest l) 0 4 × Noting a b (merged_records a b) (rest l) notes 0 0
  starting_noting notes e = (
    starting,
    subst (λ (l : List File). Counted (merged_records a b) l 0 4) (sym starting_all) (counted_none (merged_records a b)),
    subst (λ (l : List File). Noting a b (merged_records a b) l notes 0 0) (sym starting_all) (noting_none a b (merged_records a b) notes e),
  )

module _ {a b : List ℕ} {i j : ℕ} (l : Left a b i j) where
  -- the next step, by the answer that was given

  pub took : {r : Option Pick} {s : Pick} → r ≡ next_of a i b j → r ≡ Some s → Took a l.fs b l.gs (i + j) s
  took e f = subst (Steps a i l.fs b j l.gs) (sym e ∙ f) (steps l.fs l.gs l.left l.right)

  pub none_left : {r : Option Pick} → r ≡ next_of a i b j → r ≡ None → rest l ≡ []
  none_left e f = subst (Steps a i l.fs b j l.gs) (sym e ∙ f) (steps l.fs l.gs l.left l.right)

  -- what is left after it
  abbrev pub after : {s : Pick} → Took a l.fs b l.gs (i + j) s → Left a b s.i s.j
  after t = record { fs = t.lefts; gs = t.rights; left = t.left; right = t.right; short_left = l.short_left; short_right = l.short_right }
