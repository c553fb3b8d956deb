use mathlib.Core.List.{map}
use mathlib.Core.Path.{ap}
use native.Mathlib.Omega.{arith}
use Prim.Native.Nat.{ℕ}
use lib.Dec.{leb}
use Rattle.want.proofs.OutcomeLaws.{request_size}
use Rattle.want.proofs.list.fits.Goals as goal

pub overflow_mul-result : goal.overflow_mul-result
overflow_mul-result c = omega (arith, c.count.ensures.1)

pub returns-else-most-room : goal.returns-else-most-room
returns-else-most-room c = let s = c.args in ap (λ (n : ℕ). leb n s.room) (request_size (map (λ x. x.now) s.tables) c.count.ensures.0)
