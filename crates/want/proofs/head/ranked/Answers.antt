-- By names first, and by the records where they are the same.
use mathlib.Core.Path.{sym, subst}
use Rattle.record.specs.declared.outline.RecordFields.{RecordFields}
use Rattle.table.specs.Newest.{compare_at}
use Rattle.want.specs.Steps.Head.{fields_at, Stood}
use Rattle.want.proofs.FieldLaws.{within}
use Rattle.want.proofs.RankLaws.{names_by, rank_names, rank_equal}
use Rattle.want.proofs.head.ranked.Goals as goal

pub between-requires : goal.between-requires
between-requires c = let w = within c.requires.stood in (w.named, w.named_inside)

pub name_at-requires : goal.name_at-requires
name_at-requires c = (within c.requires.stood_2).inside

pub fields_at-requires : goal.fields_at-requires
fields_at-requires c = (within c.requires.stood_2).inside

pub by_records-requires : goal.by_records-requires
by_records-requires c =
    record { stood = c.requires.stood; stood_2 = subst (λ (g : RecordFields). Stood c.args.b.now g) (sym c.fields_at.ensures) c.requires.stood_2 }

pub returns-in-Less : goal.returns-in-Less
returns-in-Less c =
    let s = c.args in
    rank_names (compare_at s.a.now s.f s.b.now (fields_at s.b.now s.at)) c.in-Less.is (names_by c.between.ensures c.name_at.ensures c.compare_names.ensures)

pub returns-in-Greater : goal.returns-in-Greater
returns-in-Greater c =
    let s = c.args in
    rank_names (compare_at s.a.now s.f s.b.now (fields_at s.b.now s.at)) c.in-Greater.is (names_by c.between.ensures c.name_at.ensures c.compare_names.ensures)

pub returns-in-Equal : goal.returns-in-Equal
returns-in-Equal c =
    let s = c.args in
    rank_equal s.a.now s.f s.b.now c.in-Equal.is (names_by c.between.ensures c.name_at.ensures c.compare_names.ensures) c.by_records.ensures c.fields_at.ensures
