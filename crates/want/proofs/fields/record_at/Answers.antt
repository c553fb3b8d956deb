use Rattle.want.proofs.FieldLaws.{outline_none, outline_whole, stands_there, within}
use Rattle.want.proofs.fields.record_at.Goals as goal

pub returns-then-t-at : goal.returns-then-t-at
returns-then-t-at c = let s = c.args in outline_none s.t.now s.at c.if-t-at.true

pub fields_at-requires : goal.fields_at-requires
fields_at-requires c = (within (stands_there c.args.t.now c.args.at c.requires c.if-t-at.false)).inside

pub returns : goal.returns
returns c =
    outline_whole c.args.t.now c.args.at c.fields_at.ensures (within (stands_there c.args.t.now c.args.at c.requires c.if-t-at.false)).inside
