-- The bytes pending are the first of the tail.
use Rattle.std.proofs.Common.{ℕ, List, ◌++◌, sym, ap, ◌∙◌, rules}
use Rattle.sha256.specs.Hash.{padding, hash_all}
use Rattle.sha256.specs.Stream.{ended}
use Rattle.sha256.proofs.StreamLaws.{held_within, held_long, held_pending}
use Rattle.sha256.proofs.stream.Hasher.value.Goals as goal

pub slice_bounds-tail-end : goal.slice_bounds-tail-end
slice_bounds-tail-end c = held_within c.args.self _ (search rules) c.place-held.ensures

pub slice_bounds-closed-end : goal.slice_bounds-closed-end
slice_bounds-closed-end c = sym (held_long c.args.self _ (search rules) c.place-held.ensures)

pub closed-requires : goal.closed-requires
closed-requires c = held_long c.args.self _ (search rules) c.place-held.ensures ∙ c.place-held.ensures

pub returns : goal.returns
unfolding ended
returns c =
    let h = c.args.self in
    c.closed.ensures ∙ ap (λ (l : List ℕ). hash_all h.state (l ++ padding h.size)) (held_pending h _ (search rules) c.place-held.ensures)
