use mathlib.Core.Path.{refl, sym, ap, ◌∙◌}
use Prim.Native.Nat.{◌+◌, ◌-◌}
use native.Mathlib.Omega.{arith}
use lib.ListN.{take}
use Rattle.feed.specs.declared.state.Cursor.{Cursor}
use Rattle.feed.specs.declared.state.Scan.{Scan}
use Rattle.feed.specs.declared.state.Rule.{Rule}
use Rattle.feed.proofs.CodeLaws.{limit_most, fits_at, bounded_at, wants_at}
use Rattle.feed.specs.Steps.Next.{settled}
use Rattle.feed.specs.Rest.{scanned}
use lib.Seq.{length-take-le}
use Rattle.feed.proofs.ContentsLaws.{contents_moves}
use Rattle.feed.proofs.moves.contents_move.Goals as goal

pub byte_move-requires : goal.byte_move-requires
byte_move-requires c = (c.requires.0, wants_at c.args.state _ c.requires.1 refl, c.requires.3)

pub slice_bounds-scan_over-end : goal.slice_bounds-scan_over-end
slice_bounds-scan_over-end c = sym (length-take-le c.least-k.result c.args.part.now c.least-k.ensures.1)

pub scan_over-q-requires : goal.scan_over-q-requires
scan_over-q-requires c = let i = (fits_at c.requires.1 c.requires.0).1 c.requires.2 in omega (arith, i.parts, i.limited, limit_most c.args.string, c.least-k.ensures.0, length-take-le c.least-k.result c.args.part.now c.least-k.ensures.1)

pub overflow_add-state : goal.overflow_add-state
overflow_add-state c = let i = (fits_at c.requires.1 c.requires.0).1 c.requires.2 in omega (arith, i.parts, i.limited, limit_most c.args.string, c.least-k.ensures.0)

pub overflow_sub-todo : goal.overflow_sub-todo
overflow_sub-todo c = omega (arith, c.least-k.ensures.0)

pub settled-requires : goal.settled-requires
settled-requires c = let i = (fits_at c.requires.1 c.requires.0).1 c.requires.2 in (omega (arith, bounded_at c.args.state _ c.requires.1 c.requires.0), omega (arith, i.limited, limit_most c.args.string), omega (arith, i.within, i.limited, limit_most c.args.string))

pub returns : goal.returns
returns c = contents_moves c.args.state c.args.part.now _ c.args.string c.least-k.result c.requires.0 c.requires.1 c.requires.2
    (c.least-k.ensures.2 (omega (arith, c.if-todo-eq0.false)) (omega (arith, c.requires.3))) c.least-k.ensures.0 c.least-k.ensures.1
    (ap (λ (x : Cursor). record { state = x; taken = c.least-k.result }) (c.settled.ensures
    ∙ ap (λ (x : Scan). settled c.args.string c.args.state.place c.args.state.value (c.args.state.at + c.least-k.result) (c.args.state.todo - c.least-k.result) c.args.state.pad x c.args.state.zeros c.args.state.bad)
    (c.scan_over-q.ensures ∙ ap (λ (x : Rule). scanned x c.args.state.scan c.args.state.at (take c.least-k.result c.args.part.now)) c.rule_of.ensures)))
