-- The four bytes of a word, and the rest as it was.
use Prim.Native.Nat.{◌/◌, ◌%◌}
use mathlib.Core.Path.{◌≡◌}
use native.Mathlib.Omega.{arith}
use Rattle.xdr.specs.Format.{encode}
use Rattle.xdr.specs.Fields.{word}
use Rattle.xdr.proofs.NumberLaws.{word_digits}
use Rattle.xdr.proofs.put.store_word.Goals as goal

pub returns : goal.returns
unfolding encode
returns c =
    let w = c.args.w in
    let first : w / 16777216 % 256 ≡ w / 16777216 = omega arith in
    let same : c.copy_from_slice.new.self ≡ encode word w = rw (c.copy_from_slice.ensures.after, c.to_be_bytes.ensures, first) (word_digits w) in
    rw same
