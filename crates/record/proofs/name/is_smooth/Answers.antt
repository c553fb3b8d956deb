-- The loop's invariant: where no fault was met, each byte up to the one before i may stand before the next.
use Rattle.std.proofs.Common.{◌≡◌, ◌-◌, true, get_or, sym, ◌∙◌, true≢false, arith}
use Rattle.record.proofs.SmoothLaws.{smooth_none, smooth_more}
use Rattle.record.proofs.name.is_smooth.Goals.{then-b-eq0, else-b-eq0, then-b-eq47+then-c-eq47, then-c-eq46, else-c-eq46, then-b-eq47+else-c-eq47, else-b-eq47}
use Rattle.record.proofs.name.is_smooth.Goals as goal

pub loop-i-init : goal.loop-i-init
loop-i-init c = (omega arith, λ e. smooth_none c.args.s.now)

pub loop-i-preserved : goal.loop-i-preserved
loop-i-preserved c = (
  omega arith,
  λ e.
      let t = c.args.s.now in
      let slash : (c.if-b-eq0.smooth ≡ true) × (get_or t (c.loop-i.i - 1) 0 ≡ 47 → (get_or t c.loop-i.i 0 ≡ 46 → ⊥) × (get_or t c.loop-i.i 0 ≡ 47 → ⊥)) =
      elim c.if-b-eq47.branch [
        | then-b-eq47+then-c-eq47 w ↦ absurd (true≢false (sym e ∙ w.smooth-is))
        | then-b-eq47+else-c-eq47 w ↦ elim w.if-c-eq46.branch [
          | then-c-eq46 x ↦ absurd (true≢false (sym e ∙ w.smooth-is ∙ x.smooth-is))
          | else-c-eq46 x ↦ (sym x.smooth-is ∙ sym w.smooth-is ∙ e, λ z. (x.if-c-eq46.false, w.if-c-eq47.false))
        ]
        | else-b-eq47 w ↦ (sym w.smooth-is ∙ e, λ z. absurd (w.if-b-eq47.false z))
      ] in
      elim c.if-b-eq0.branch [
        | then-b-eq0 w ↦ absurd (true≢false (sym slash.0 ∙ w.smooth-is))
        | else-b-eq0 w ↦ smooth_more t c.loop-i.i c.loop-i.invariant.0 (c.loop-i.invariant.1 (sym w.smooth-is ∙ slash.0)) (record { some = w.if-b-eq0.false; plain = slash.1 })
      ],
)

pub returns : goal.returns
returns c = λ e k h. c.loop-i.invariant.1 e k (omega arith)
