-- One entry a turn.
use Rattle.std.proofs.Common.{rules}
use Prim.Native.Nat.{◌*◌}
use mathlib.Core.Path.{◌≡◌, ap, ◌∙◌}
use native.Mathlib.Omega.{arith}
use lib.ListN.{length-set}
use lib.Seq.{paste, paste-zero}
use Rattle.link.proofs.OwnedArray.{unmapped}
use Rattle.queue_lent.specs.Words.{pairs}
use Rattle.queue_lent.proofs.WordLaws.{put_more}
use Rattle.queue_lent.proofs.words.put_entries.Goals as goal

pub loop-i-init : goal.loop-i-init
loop-i-init c = (omega arith, (c.requires, (c.requires, (search (rules, unmapped), paste-zero c.args.words.now 3 (pairs c.args.entries)))))

pub bounds-words-i-in-loop-i : goal.bounds-words-i-in-loop-i
bounds-words-i-in-loop-i c = simp length-set (omega (arith, c.loop-i.invariant.1.1.0))

pub loop-i-preserved : goal.loop-i-preserved
loop-i-preserved c =
    let l = c.loop-i in
    let s = c.args in (
      omega arith,
      (
        l.invariant.1.0,
        (
          search rules,
          (l.invariant.1.1.1.0, rw l.invariant.1.1.1.1 (put_more s.words.now l.i s.entries (omega (arith, l.invariant.1.0)) (omega (arith, l.invariant.1.1.1.0)))),
        ),
      ),
    )

pub returns : goal.returns
returns c =
    let l = c.loop-i in
    let e : 2 * l.i ≡ 32 = omega arith in
    l.invariant.1.1.1.1 ∙ ap (paste c.args.words.now 3 (pairs c.args.entries)) e
