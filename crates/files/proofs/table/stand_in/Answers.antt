use Rattle.xdr.specs.Format.{encode}
use Rattle.files.proofs.table.stand_in.Goals as goal

pub returns-then-absent-clause-puts : goal.returns-then-absent-clause-puts
unfolding encode
returns-then-absent-clause-puts c = rw c.if-absent.true c.put_word.ensures
