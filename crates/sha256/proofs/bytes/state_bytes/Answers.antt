-- A word more, and all eight at the end.
use Rattle.std.proofs.Common.{◌≡◌, ℕ, ◌-◌, ◌*◌, ◌++◌, take, refl, ap, ◌∙◌, append-nil, arith}
use Rattle.sha256.proofs.BlockLaws.{blank}
use Rattle.sha256.proofs.ByteLaws.{four_bytes, all_bytes, in_words, word_put, state_bytes_lem}
use Rattle.sha256.proofs.bytes.state_bytes.Goals as goal

pub loop-i-init : goal.loop-i-init
loop-i-init c = refl

pub loop-i-preserved : goal.loop-i-preserved
loop-i-preserved c =
    word_put (in_words c.args.s) c.loop-i.out c.loop-i.i (omega arith) refl c.loop-i.invariant _ _ (omega arith) (c.copy_from_slice.ensures.after ∙ c.to_be_bytes.ensures ∙ four_bytes _)

pub returns : goal.returns
returns c =
    let e : c.loop-i.i ≡ 8 = omega arith in
    c.loop-i.invariant ∙ ap (λ (n : ℕ). all_bytes (take n (in_words c.args.s)) ++ blank (32 - 4 * n)) e
    ∙ append-nil (all_bytes (in_words c.args.s)) ∙ state_bytes_lem c.args.s
