-- One link more each turn, which is a share of the words.
use Prim.Native.Nat.{ℕ, ◌+◌, ◌-◌, ◌*◌, ◌<◌, ◌≤◌}
use mathlib.Core.List.{List, []}
use mathlib.Core.Path.{◌≡◌, refl, sym, ap, ◌∙◌}
use native.Mathlib.Omega.{arith}
use lib.ListN.{length, take, drop, get_or}
use Rattle.std.specs.Prelude.{Some, None}
use Rattle.std.specs.declared.option.Option.{Option}
use Rattle.link.specs.Steps.{orderly_bytes}
use Rattle.queue.specs.Queue.{peers, no_link}
use Rattle.queue.proofs.QueueLaws.{Passed, passed_more, passed_not, passed_all, bytes_most, unsound_order, unsound_bytes, sound_told}
use Rattle.queue_lent.specs.Words.{link_size, link_in, links_in, queue_of}
use Rattle.queue_lent.proofs.LaidLaws.{links_long, links_at}
use Rattle.queue_lent.proofs.shares.sound_bytes.Goals as goal

-- the tally of one share is that of the link that it is
at-link : (ws : List ℕ) (i : ℕ) {t : Option ℕ} → i < 4 → t ≡ orderly_bytes (link_in (take (i * link_size + link_size - i * link_size) (drop (i * link_size) ws)))
    → t ≡ orderly_bytes (get_or (links_in peers ws) i no_link)
at-link ws i h e =
    let size : i * link_size + link_size - i * link_size ≡ link_size = omega arith in
    let at : i * link_size ≡ link_size * i = omega arith in
    e
    ∙ ap (λ (n : ℕ). orderly_bytes (link_in (take n (drop (i * link_size) ws)))) size
    ∙ ap (λ (n : ℕ). orderly_bytes (link_in (take link_size (drop n ws)))) at
    ∙ ap orderly_bytes (sym (links_at peers ws i h))

pub loop-i-init : goal.loop-i-init
loop-i-init c = (omega arith, (omega arith, record { ordered = refl; summed = omega arith }))

pub returns-in_err-n : goal.returns-in_err-n
returns-in_err-n c =
    let ws = c.args.words.now in
    let below : c.loop-i.i < length (links_in peers ws) = omega (arith, links_long peers ws) in
    let none : None ≡ orderly_bytes (get_or (links_in peers ws) c.loop-i.i no_link) = at-link ws c.loop-i.i (omega arith) (sym c.in_err-n.was ∙ c.tally.ensures) in
    c.from_residual.ensures ∙ unsound_order (queue_of ws []) (passed_not no_link (links_in peers ws) c.loop-i.i c.loop-i.sum below c.loop-i.invariant.1.1 none)

pub overflow_add-sum : goal.overflow_add-sum
overflow_add-sum c =
    let few : c.in_ok-n.n ≤ 2097152 = bytes_most _ _ (at-link c.args.words.now c.loop-i.i (omega arith) (sym c.in_ok-n.was ∙ c.tally.ensures)) in
    omega arith

pub loop-i-preserved : goal.loop-i-preserved
loop-i-preserved c =
    let ws = c.args.words.now in
    let below : c.loop-i.i < length (links_in peers ws) = omega (arith, links_long peers ws) in
    let is : Some c.in_ok-n.n ≡ orderly_bytes (get_or (links_in peers ws) c.loop-i.i no_link) = at-link ws c.loop-i.i (omega arith) (sym c.in_ok-n.was ∙ c.tally.ensures) in
    let few : c.in_ok-n.n ≤ 2097152 = bytes_most _ _ is in
    (omega arith, (omega arith, passed_more no_link (links_in peers ws) c.loop-i.i c.loop-i.sum below c.in_ok-n.n c.loop-i.invariant.1.1 is))

pub returns-then-sum-gt-ALLOWANCE : goal.returns-then-sum-gt-ALLOWANCE
returns-then-sum-gt-ALLOWANCE c =
    let ws = c.args.words.now in
    let p : Passed (links_in peers ws) [] c.loop-i.sum = passed_all c.loop-i.i (omega (arith, links_long peers ws)) c.loop-i.invariant.1.1 in
    unsound_bytes (queue_of ws []) c.loop-i.sum p c.if-sum-gt-ALLOWANCE.true

pub returns : goal.returns
returns c =
    let ws = c.args.words.now in
    let p : Passed (links_in peers ws) [] c.loop-i.sum = passed_all c.loop-i.i (omega (arith, links_long peers ws)) c.loop-i.invariant.1.1 in
    sound_told (queue_of ws []) c.loop-i.sum p c.if-sum-gt-ALLOWANCE.false
