-- The eight bytes of a number, and the rest as it was.
use mathlib.Core.Path.{◌≡◌, ◌∙◌}
use native.Mathlib.Omega.{arith}
use Rattle.xdr.specs.Format.{encode}
use Rattle.xdr.specs.Fields.{hyper}
use Rattle.xdr.proofs.EncodedBytes.{hyper_bytes}
use Rattle.xdr.proofs.put.store_hyper.Goals as goal

pub returns : goal.returns
unfolding encode
returns c =
    let same : c.copy_from_slice.new.self ≡ encode hyper c.args.n = c.copy_from_slice.ensures.after ∙ c.to_be_bytes.ensures ∙ hyper_bytes c.args.n (omega arith) in
    rw same
