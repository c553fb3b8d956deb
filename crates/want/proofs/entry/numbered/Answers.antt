-- So many names are passed, as far as there are any; then the next record is the one.
use Rattle.std.specs.Prelude.{None}
use Rattle.std.specs.declared.option.Option.{Option}
use Prim.Native.Nat.{ℕ, suc, ◌+◌, ◌-◌}
use mathlib.Core.List.{List, [], map}
use mathlib.Core.Path.{◌≡◌, sym, subst}
use native.Mathlib.Omega.{arith}
use lib.ListN.{get_or}
use Rattle.record.specs.declared.outline.RecordFields.{RecordFields}
use Rattle.want.specs.Steps.Places.{starts}
use Rattle.want.specs.Steps.Entry.{Numbered}
use Rattle.want.proofs.NumberLaws.{Ahead, ahead_starts, ahead_none, ahead_turn, ahead_here}
use Rattle.want.proofs.entry.numbered.Goals as goal

none_left : {ts : List (List ℕ)} {file : ℕ} {r : Option (ℕ × RecordFields)} → r ≡ None → Numbered ts file None → Numbered ts file r
none_left {ts} {file} e n = subst (λ (x : Option (ℕ × RecordFields)). Numbered ts file x) (sym e) n

pub loop-init : goal.loop-init
loop-init c =
    let all : c.args.file ≡ c.args.file - 0 = omega arith in
    subst (λ (n : ℕ). Ahead (map (λ x. x.now) c.args.tables) starts c.args.file n) all (ahead_starts (map (λ x. x.now) c.args.tables) c.args.file c.requires)

pub next_places-requires : goal.next_places-requires
next_places-requires c k s = let a = c.loop.invariant in (get_or a.ls k [], a.walk.here k s)

pub returns-in_err-places : goal.returns-in_err-places
returns-in_err-places c = let p = c.next_places.ensures in none_left c.from_residual.ensures (ahead_none c.loop.invariant p.headed (p.none c.in_err-places.was))

pub loop-preserved : goal.loop-preserved
loop-preserved c =
    let p = c.next_places.ensures in
    let s = p.some c.in_ok-places.places c.in_ok-places.was in
    let left : c.args.file - c.loop.counter ≡ suc (c.args.file - (c.loop.counter + 1)) = omega (arith, c.loop-test.true) in
    subst (λ (l : List ℕ). Ahead (map (λ x. x.now) c.args.tables) l c.args.file (c.args.file - (c.loop.counter + 1))) (sym s.0) (ahead_turn c.loop.invariant p.headed s.2 left)

pub next_head-head-requires : goal.next_head-head-requires
next_head-head-requires c k s = let a = c.loop.invariant in (get_or a.ls k [], a.walk.here k s)

pub returns-in_err-fields : goal.returns-in_err-fields
returns-in_err-fields c = none_left c.from_residual-in_err-fields.ensures (ahead_none c.loop.invariant c.next_head-head.ensures c.in_err-fields.was)

pub returns : goal.returns
returns c = ahead_here c.loop.invariant c.next_head-head.ensures c.in_ok-fields.was c.requires (omega (arith, c.loop-test.false))
