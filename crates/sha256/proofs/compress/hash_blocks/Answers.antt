-- A block more, and none at the end.
use Rattle.std.proofs.Common.{◌≡◌, ◌<◌, length, sym, ap, ◌∙◌, arith}
use Rattle.sha256.specs.Hash.{hash_all}
use Rattle.sha256.proofs.BlockLaws.{all_first}
use Rattle.sha256.proofs.HashLaws.{block_hashed, one_block, no_block}
use Rattle.sha256.proofs.compress.hash_blocks.Goals as goal

pub loop-bytes-preserved : goal.loop-bytes-preserved
loop-bytes-preserved c =
    let l = c.loop-bytes in
    let block = c.in-Some.bytes.now in
    let rest = c.next.new.self.rest.now in
    let steps = c.in-Some.ensures.steps in
    let long : length block ≡ 64 = omega (arith, l.invariant.0) in
    let hashed = block_hashed block c.block_of.result l.state c.rounds.result c.added-state.result c.block_of.ensures c.rounds.ensures c.added-state.ensures in (
      steps.0 ∙ l.invariant.0,
      l.invariant.1 ∙ ap (hash_all l.state) steps.1.0 ∙ all_first block l.state rest long ∙ ap (λ s. hash_all s rest) (one_block block l.state long ∙ sym hashed),
    )

pub returns : goal.returns
returns c =
    let l = c.loop-bytes in
    let few : length l.bytes-iterator.rest.now < 64 = omega (arith, l.invariant.0, c.in-None.ensures.steps.1.0) in
    sym (l.invariant.1 ∙ no_block l.bytes-iterator.rest.now l.state few)
