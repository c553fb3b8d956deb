-- The loop's invariant: so many blocks are in order, and end where the next begins.
use Rattle.std.proofs.Common.{◌≡◌, ℕ, ◌+◌, ◌-◌, drop, ◌∙◌, subst, arith, rules}
use Rattle.xdr.specs.Number.{big_endian}
use Rattle.xdr.proofs.Answered.{word_taken}
use Rattle.xdr.proofs.NumberLaws.{number_first}
use Rattle.xdr.proofs.Parts.{number_value}
use Rattle.record.specs.Steps.{IsHead, SoundBlocks}
use Rattle.record.proofs.HeadLaws.{sound_none, sound_more}
use Rattle.record.proofs.block.sound_blocks.Goals as goal

pub returns-then-s-first : goal.returns-then-s-first
returns-then-s-first c = (search rules, sound_none c.args.s.now c.args.first c.requires)

pub loop-i-init : goal.loop-i-init
loop-i-init c = (search rules, omega arith, sound_none c.args.s.now c.args.first (search rules))

pub returns-in_default : goal.returns-in_default
returns-in_default c = let i = c.loop-i.invariant in (i.0, i.2)

pub returns-then-not-is_head : goal.returns-then-not-is_head
returns-then-not-is_head c = let i = c.loop-i.invariant in (i.0, i.2)

pub loop-i-preserved : goal.loop-i-preserved
loop-i-preserved c =
    (search rules, omega (arith, c.loop-i.invariant.1), sound_more c.args.s.now c.args.first c.loop-i.i c.loop-i.invariant.2 (let n = number_value (word_taken c.read_hyper.ensures c.in-Ok.is) in let whole = number_first 8 (c.loop-i.at + 40 - c.loop-i.at) (drop c.loop-i.at c.args.s.now) (omega arith) in subst (λ (p : ℕ). IsHead (big_endian 8 (drop p c.args.s.now))) c.loop-i.invariant.1 (subst IsHead (n ∙ whole) (c.is_head.ensures c.if-not-is_head.false))) (omega arith))

pub returns : goal.returns
returns c = let i = c.loop-i.invariant in let all : c.loop-i.i ≡ c.args.count = omega arith in (omega arith, subst (SoundBlocks c.args.s.now c.args.first) all i.2)
