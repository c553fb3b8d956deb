-- The opaque goes right behind the header.
use mathlib.Core.Path.{sym}
use native.Mathlib.Omega.{arith}
use Rattle.xdr.specs.Format.{encode}
use Rattle.xdr.specs.Fields.{word}
use Rattle.xdr.proofs.EncodedSize.{number_size}
use Rattle.xdr.proofs.BufferLaws.{filled_none, put_next, opaque_count, opaque_next}
use Rattle.message_write.proofs.write.store_opaque.Goals as goal

pub overflow_add-result : goal.overflow_add-result
overflow_add-result c =
    omega (arith, opaque_count (let a = c.args in put_next (filled_none a.out.now) (encode word a.head) (number_size 4 a.head) (omega arith) c.put_word.ensures.1) c.args.l.now (omega arith) c.requires.1 c.put_bytes.ensures.0)

pub returns : goal.returns
returns c =
    let put = opaque_next (let a = c.args in put_next (filled_none a.out.now) (encode word a.head) (number_size 4 a.head) (omega arith) c.put_word.ensures.1) c.args.l.now (omega arith) c.requires.1 c.put_bytes.ensures.0 c.put_bytes.ensures.1 in
    (sym put.long, put.fills)
