-- A record stands at the place of each.
use Rattle.std.specs.declared.option.Option.{Option}
use mathlib.Core.Path.{sym, ap}
use Rattle.record.specs.Outline.{outline_of}
use Rattle.want.specs.Steps.Head.{name_in, order_in}
use Rattle.want.proofs.FieldLaws.{outline_none, stands_there, within, whole_there}
use Rattle.want.proofs.RankLaws.{names_by}
use Rattle.want.proofs.PassLaws.{none_last, names_compared}
use Rattle.record.specs.declared.outline.RecordFields.{RecordFields}
use Rattle.want.proofs.pass.compare_at.Goals as goal

pub returns-then-b-j : goal.returns-then-b-j
returns-then-b-j c = let s = c.args in ap (λ (o : Option RecordFields). order_in (name_in s.a.now (outline_of s.a.now s.i)) (name_in s.b.now o)) (outline_none s.b.now s.j c.if-b-j.true)

pub returns-then-a-i : goal.returns-then-a-i
returns-then-a-i c =
    let s = c.args in
    none_last s.a.now s.b.now (whole_there s.b.now s.j (stands_there c.args.b.now c.args.j c.requires.stands_2 c.if-b-j.false)) (sym (outline_none s.a.now s.i c.if-a-i.true))

pub name_at-requires : goal.name_at-requires
name_at-requires c = (within (stands_there c.args.a.now c.args.i c.requires.stands c.if-a-i.false)).inside

pub name_at-requires-2 : goal.name_at-requires-2
name_at-requires-2 c = (within (stands_there c.args.b.now c.args.j c.requires.stands_2 c.if-b-j.false)).inside

pub returns : goal.returns
returns c =
    let s = c.args in
    names_compared s.a.now s.b.now (whole_there s.b.now s.j (stands_there c.args.b.now c.args.j c.requires.stands_2 c.if-b-j.false)) (whole_there s.a.now s.i (stands_there c.args.a.now c.args.i c.requires.stands c.if-a-i.false))
    (names_by c.name_at.ensures c.name_at-2.ensures c.compare_bytes.ensures)
