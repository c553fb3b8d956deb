use Rattle.std.specs.Prelude.{Some, None}
use Rattle.std.specs.declared.option.Option.{Option}
use Prim.Native.Nat.{ℕ}
use mathlib.Core.List.{List, map}
use mathlib.Core.Path.{◌≡◌, refl, sym, subst, ◌∙◌}
use Rattle.want.specs.Steps.Places.{Begun}
use Rattle.want.specs.declared.list.Start.{Start}
use native.Mathlib.Omega.{arith}
use Rattle.want.proofs.RankLaws.{headed_lowest}
use Rattle.want.proofs.TurnLaws.{headed_after, turn_ended, turn_goes}
use Rattle.want.proofs.DoneLaws.{total_small, begun_done, begun_turn, done_stand, done_all, done_less}
use Rattle.want.proofs.list.seek.Goals as goal

none_some : {A P : Type 0} {r : Option A} {s : A} → r ≡ None → r ≡ Some s → P
none_some {s = s} e f = let k : None ≡ Some s = sym e ∙ f in cc

start_is : (ts : List (List ℕ)) (file : ℕ) (ps : List ℕ) {s : Start} → Begun ts file ps → ◌≡◌ {A = Option Start} (Some (record { places = ps; file = file })) (Some s) → Begun ts s.file s.places
start_is ts file ps {s} b e = let k : record { places = ps; file = file } ≡ s = cc in subst (λ (x : Start). Begun ts x.file x.places) k b

pub loop-turn-init : goal.loop-turn-init
loop-turn-init c = refl

pub next_head-head-requires : goal.next_head-head-requires
next_head-head-requires c = done_stand (begun_done (map (λ x. x.now) c.args.tables) c.requires c.loop-turn.file c.loop-turn.places c.loop-turn.invariant)

pub returns-in_err-turn : goal.returns-in_err-turn
returns-in_err-turn c =
    let l = c.loop-turn in
    let h = c.next_head-head.ensures in
    record {
      some = λ s e. none_some c.from_residual.ensures e;
      none = λ e. sym (done_all (begun_done (map (λ x. x.now) c.args.tables) c.requires l.file l.places l.invariant) (headed_lowest h) h.fields_are (turn_ended c.next_head-head.result.best c.next_head-head.result.fields c.turn_of.ensures c.in_err-turn.was));
    }

pub returns-then-turn-ne0 : goal.returns-then-turn-ne0
returns-then-turn-ne0 c = record { some = λ s e. start_is (map (λ x. x.now) c.args.tables) c.loop-turn.file c.loop-turn.places c.loop-turn.invariant e; none = λ e. cc }

pub overflow_add-file : goal.overflow_add-file
overflow_add-file c =
    let l = c.loop-turn in
    let d = begun_done (map (λ x. x.now) c.args.tables) c.requires l.file l.places l.invariant in
    omega (arith, d.few, total_small c.requires d.walk)

pub loop-turn-smaller : goal.loop-turn-smaller
loop-turn-smaller c =
    let l = c.loop-turn in
    let h = c.next_head-head.ensures in
    let g = turn_goes c.next_head-head.result.best c.next_head-head.result.fields c.turn_of.ensures c.in_ok-turn.was in
    done_less (begun_done (map (λ x. x.now) c.args.tables) c.requires l.file l.places l.invariant) c.requires (headed_lowest h) h.fields_are g.is (headed_after h g.is)

pub loop-turn-preserved : goal.loop-turn-preserved
loop-turn-preserved c =
    let l = c.loop-turn in
    let h = c.next_head-head.ensures in
    let g = turn_goes c.next_head-head.result.best c.next_head-head.result.fields c.turn_of.ensures c.in_ok-turn.was in
    begun_turn l.file l.invariant h g.is (sym g.count_is ∙ c.if-turn-ne0.false)
