use mathlib.Core.Path.{◌∙◌}
use Rattle.want.proofs.HashLaws.{differ_end, hash_long, hash_differs}
use Rattle.want.proofs.block.is_block.Goals as goal

pub ends_alike-requires : goal.ends_alike-requires
ends_alike-requires c = hash_long c.args.s.now c.args.p c.hash_at.ensures c.requires

pub returns-else-ends_alike : goal.returns-else-ends_alike
returns-else-ends_alike c =
    let s = c.args in
    c.if-ends_alike.false
    ∙ hash_differs s.s.now s.p c.hash_at.ensures s.size s.hash.now (differ_end _ _ (hash_long s.s.now s.p c.hash_at.ensures c.requires) c.ends_alike.ensures c.if-ends_alike.false)
