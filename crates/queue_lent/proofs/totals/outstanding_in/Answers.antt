-- One Length more each turn.
use Prim.Native.Nat.{◌+◌, ◌*◌, ◌≤◌}
use mathlib.Core.Path.{◌≡◌, refl, sym, ap, ◌∙◌}
use native.Mathlib.Omega.{arith}
use lib.ListN.{length}
use lib.Seq.{take_all}
use Rattle.link.specs.Requests.{total}
use Rattle.link.specs.OneLink.{outstanding}
use Rattle.link.proofs.RequestLaws.{total_next}
use Rattle.queue_lent.specs.Words.{link_in}
use Rattle.queue_lent.proofs.TotalLaws.{count_out, length_out}
use Rattle.queue_lent.proofs.totals.outstanding_in.Goals as goal

pub loop-i-init : goal.loop-i-init
loop-i-init c =
    let all = c.min-count.ensures ∙ sym (count_out c.args.words.now) in
    (c.requires, (omega arith, (all, (omega arith, refl))))

pub overflow_add-bytes : goal.overflow_add-bytes
overflow_add-bytes c =
    let l = c.loop-i in
    omega (arith, count_out c.args.words.now)

pub loop-i-preserved : goal.loop-i-preserved
loop-i-preserved c =
    let l = c.loop-i in
    let ws = c.args.words.now in
    let long = l.invariant.1.1.0 in
    let more = total_next (outstanding (link_in ws)) l.i (omega (arith, long)) in
    let here = length_out ws l.i (omega (arith, long)) in
    (l.invariant.0, (omega arith, (long, (omega (arith, c.type_inv.words (4 + 2 * l.i)), omega (arith, more, here)))))

pub returns : goal.returns
returns c =
    let l = c.loop-i in
    let ws = c.args.words.now in
    let long = l.invariant.1.1.0 in
    let few : length (outstanding (link_in ws)) ≤ 16 = omega (arith, count_out ws) in
    let all : l.i ≡ length (outstanding (link_in ws)) = omega (arith, long) in
    record {
      count_is = long;
      bytes_are = l.invariant.1.1.1.1 ∙ ap total (take_all l.i (outstanding (link_in ws)) (omega (arith, all)));
      few = omega (arith, long, few);
      small = omega (arith, all, few);
    }
