use mathlib.Core.List.{map}
use mathlib.Core.Path.{refl, ◌∙◌}
use Rattle.table.specs.Table.{records}
use Rattle.want.specs.Steps.Blocks.{block_here}
use Rattle.want.specs.Steps.Places.{table_at}
use Rattle.want.specs.Steps.Runs.{peer_in}
use Rattle.want.proofs.EntryLaws.{good_first, serves_first, held_first, wanted_same, block_held, room_wanted, block_wanted}
use Rattle.want.proofs.list.fill_block.Goals as goal

pub holds-requires : goal.holds-requires
holds-requires c = record { local_value = good_first (λ x. x.now) c.args.tables _ refl c.requires.tables_value; serves = serves_first (λ x. x.now) c.args.tables _ refl c.requires.serves; p_in_bounds = c.requires.p_in_bounds }

pub returns-then-holds : goal.returns-then-holds
returns-then-holds c =
    let s = c.args in
    let b = block_here s.t.now s.p in
    let w = block_held (records (table_at (map (λ x. x.now) s.tables) 0)) (peer_in (map (λ x. x.now) s.tables) s.runs) s.file s.block s.offset b s.out.now s.at (held_first (λ x. x.now) s.tables _ refl b c.holds.ensures) c.if-holds.true in
    record { value = w.0; out_after = w.1; along_2 = c.requires.along }

pub put_wanted-requires : goal.put_wanted-requires
put_wanted-requires c =
    let s = c.args in
    let b = block_here s.t.now s.p in
    room_wanted (records (table_at (map (λ x. x.now) s.tables) 0)) (peer_in (map (λ x. x.now) s.tables) s.runs) s.file s.block s.offset b s.out.now s.at (held_first (λ x. x.now) s.tables _ refl b c.holds.ensures) c.if-holds.false c.requires.p_in_bounds_2

pub returns : goal.returns
returns c =
    let s = c.args in
    let b = block_here s.t.now s.p in
    let w = block_wanted (records (table_at (map (λ x. x.now) s.tables) 0)) (peer_in (map (λ x. x.now) s.tables) s.runs) s.file s.block s.offset b s.out.now s.at _ (held_first (λ x. x.now) s.tables _ refl b c.holds.ensures) c.if-holds.false
    (wanted_same s.t.now s.p c.size_at-size.ensures c.hash_at.ensures s.file s.block s.offset (peer_in (map (λ x. x.now) s.tables) s.runs) (c.unwrap_or-peer.ensures ∙ c.ask.ensures.value)) c.put_wanted.ensures in
    record { value = w.0; out_after = w.1; along_2 = c.ask.ensures.along }
