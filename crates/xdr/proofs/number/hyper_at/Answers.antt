-- A number of eight bytes is its two words.
use native.Mathlib.Omega.{arith}
use Rattle.xdr.proofs.NumberLaws.{two_words}
use Rattle.xdr.proofs.number.hyper_at.Goals as goal

pub returns : goal.returns
returns c = omega (arith, c.word_at.ensures, c.word_at-2.ensures, two_words c.args.s.now c.args.at)
