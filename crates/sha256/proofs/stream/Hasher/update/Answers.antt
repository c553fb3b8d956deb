-- The bytes fill a block, or they don't.
use Rattle.std.proofs.Common.{◌≡◌, ℕ, ◌+◌, ◌-◌, ◌*◌, ◌/◌, ◌%◌, ◌^◌, List, ◌++◌, length, take, drop, refl, ap, ◌∙◌, arith, rules}
use Rattle.sha256.specs.Stream.{kept, continued}
use Rattle.sha256.proofs.BlockLaws.{to_end}
use Rattle.sha256.proofs.StreamLaws.{held_long, held_pending, updated_short, updated_long}
use Rattle.sha256.proofs.stream.Hasher.update.Goals as goal

pub returns-then-s-room : goal.returns-then-s-room
unfolding continued
returns-then-s-room c =
    let h = c.args.self in
    let s = c.args.s.now in
    let at = c.place-held in
    let long : length h.tail ≡ 64 = search rules in
    updated_short (take at.result h.tail) s h.state (h.size + length s) ((h.size + length s) % 2 ^ 64) at.result
    (held_long h at.result long at.ensures) (omega arith) refl
    c.laid-before.result c.laid-longer.result (omega arith) c.laid-before.ensures c.laid-longer.ensures
    ∙ ap (λ (l : List ℕ). kept h.state (l ++ s) (h.size + length s)) (held_pending h at.result long at.ensures)

pub returns : goal.returns
unfolding continued
returns c =
    let h = c.args.self in
    let s = c.args.s.now in
    let at = c.place-held in
    let long : length h.tail ≡ 64 = search rules in
    let room : ℕ = 64 - at.result in
    let past : ℕ = room + (length s - room) / 64 * 64 in
    updated_long (take at.result h.tail) s h.state (h.size + length s) ((h.size + length s) % 2 ^ 64) at.result
    (held_long h at.result long at.ensures) (omega arith) refl
    h.tail long refl (omega arith) c.laid-block.result (take (length s - room) (drop room s)) (take (length s - past) (drop past s)) c.laid-left.result c.hashed-first.result c.hashed-last.result
    c.laid-block.ensures c.hashed-first.ensures (to_end s room) c.hashed-last.ensures (to_end s past) c.laid-left.ensures
    ∙ ap (λ (l : List ℕ). kept h.state (l ++ s) (h.size + length s)) (held_pending h at.result long at.ensures)
