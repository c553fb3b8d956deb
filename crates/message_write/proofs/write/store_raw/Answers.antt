-- The bytes go right behind the header.
use mathlib.Core.Path.{refl}
use native.Mathlib.Omega.{arith}
use Rattle.xdr.specs.Format.{encode}
use Rattle.xdr.specs.Fields.{word}
use Rattle.xdr.proofs.EncodedSize.{number_size}
use Rattle.xdr.proofs.BufferLaws.{filled_none, put_next}
use Rattle.message_write.proofs.write.store_raw.Goals as goal

pub returns : goal.returns
returns c = (put_next (let a = c.args in put_next (filled_none a.out.now) (encode word a.head) (number_size 4 a.head) (omega arith) c.put_word.ensures.1) c.args.b.now refl (omega arith) c.put_raw.ensures.1).fills
