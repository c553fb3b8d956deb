-- The whole blocks, and then the rest with the padding.
use Rattle.std.proofs.Common.{◌*◌, ◌/◌, ◌++◌, length, sym, ap, ◌∙◌}
use Rattle.sha256.specs.Constants.{H⁰}
use Rattle.sha256.specs.Hash.{padding, hash_all, hash_value}
use Rattle.sha256.specs.Stream.{rest}
use Rattle.sha256.proofs.BlockLaws.{to_end, all_append}
use Rattle.sha256.proofs.stream.hash_value.Goals as goal

pub returns : goal.returns
unfolding hash_value
returns c =
    let s = c.args.message.now in
    let h = c.hashed-state in
    let i = c.initial in
    c.closed.ensures
    ∙ ap (λ x. hash_all h.result (x ++ padding (length s))) (to_end s (length s / 64 * 64))
    ∙ ap (λ x. hash_all x (rest s ++ padding (length s))) (h.ensures ∙ ap (λ x. hash_all x s) i.ensures)
    ∙ sym (all_append s H⁰ (padding (length s)))
