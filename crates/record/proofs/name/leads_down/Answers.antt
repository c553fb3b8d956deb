-- The steps of eight and the last nine bytes are all of them.
use Rattle.std.proofs.Common.{◌-◌, length, rules}
use Rattle.record.proofs.SmoothLaws.{smooth_path, smooth_on}
use Rattle.record.proofs.name.leads_down.Goals as goal

pub returns : goal.returns
returns c = λ e.
    let s = c.args.s.now in
    smooth_path s (search rules) c.if-s-eq46.false c.if-s-eq47.false c.if-last-eq0.false c.if-last-eq47.false
    (smooth_on s (length s - 9) (length s) (search rules) (search rules) c.past_eights.result (length s - 1) (search rules) (search rules) c.past_eights.ensures.1 (c.is_smooth.ensures e))
