-- The entries of the blocks, by the runs of the record's name.
use Prim.Native.Nat.{◌+◌, ◌≤◌}
use mathlib.Core.List.{List, map}
use mathlib.Core.Path.{refl, sym, ap, subst, ◌∙◌}
use native.Mathlib.Omega.{arith}
use lib.ListN.{length}
use Rattle.xdr.specs.Buffer.{over}
use Rattle.want.specs.Wanted.{list_bytes}
use Rattle.want.specs.Steps.Places.{table_at}
use Rattle.want.specs.Steps.Runs.{runs_from}
use Rattle.want.specs.declared.list.Wanted.{Wanted}
use Rattle.want.proofs.PlaceLaws.{element, within_lent}
use Rattle.want.proofs.PeerLaws.{runs_inside, run_lent}
use Rattle.want.proofs.EntryLaws.{run_nothing}
use Rattle.want.proofs.list.fill_record.Goals as goal

pub returns-then-turn-eq0 : goal.returns-then-turn-eq0
returns-then-turn-eq0 c =
    let s = c.args in
    let q = run_nothing (map (λ x. x.now) s.tables) (runs_from (map (λ x. x.now) s.tables) s.places s.past) s.file (table_at (map (λ x. x.now) s.tables) s.best) s.turn.first c.if-turn-eq0.true s.out.now s.at in record { value = q.0; out_after = q.1 }

pub offset_bounds-tables-best : goal.offset_bounds-tables-best
offset_bounds-tables-best c = omega (arith, c.requires.best_bound.0)

pub bounds-tables-best : goal.bounds-tables-best
bounds-tables-best c = c.requires.best_bound.0

pub fill_blocks-requires : goal.fill_blocks-requires
fill_blocks-requires c =
    let ts = map (λ x. x.now) c.args.tables in
    let e = c.runs_at-runs.ensures in
    record {
      tables_value = c.requires.tables_value;
      serves = c.requires.serves;
      in_tables = runs_inside ts c.args.places c.args.past e;
      count_in_bounds = within_lent (λ x. x.now) c.args.tables _ _ refl c.requires.best_bound.1;
      count_in_bounds_2 = subst (λ (l : List Wanted). c.args.at + length (list_bytes l) ≤ length c.args.out.now)
          (sym (run_lent ts e c.args.file (element (λ x. x.now) c.args.tables c.args.best _ refl) c.args.turn.first c.args.turn.count)) c.requires.file_in_bounds;
    }

pub returns : goal.returns
returns c =
    let s = c.args in
    let q = run_lent (map (λ x. x.now) s.tables) c.runs_at-runs.ensures s.file (element (λ x. x.now) s.tables s.best _ refl) s.turn.first s.turn.count in
    let f = c.fill_blocks.ensures in
    record { value = f.value ∙ ap (λ (l : List Wanted). s.at + length (list_bytes l)) q; out_after = f.out_after ∙ ap (λ (l : List Wanted). over s.out.now s.at (list_bytes l)) q }
