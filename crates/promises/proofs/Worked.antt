-- The worked cases hold of what the calls answer, by computation.
use mathlib.Core.Path.{◌≡◌, refl}
use Rattle.xdr.specs.Format.{read, read_at, AllOf}
use Rattle.xdr.specs.Text.{sound_up_to}
use Rattle.xdr.specs.Pad.{all_zero}
use Rattle.record.specs.File.{File}
use Rattle.table.specs.Newest.{compare_files}
use Rattle.order.specs.Order.{compare_numbers, compare_lists}
use Rattle.std.specs.declared.cmp.Ordering.TheVariants.{Greater}
use Rattle.promises.specs.Vectors.{Holds, vectors}

zero_newer : (f g : File) → f.modified ≡ 0 → g.modified ≡ 0xFFFFFFFFFFFFFFFF → compare_files f g ≡ Greater
unfolding compare_files compare_lists compare_numbers
zero_newer f g p q = rw (p, q) refl

pub worked : AllOf Holds vectors
unfolding read read_at sound_up_to all_zero vectors
worked = (refl, (refl, (refl, (refl, (refl, (refl, (refl, (refl, (refl, (zero_newer, tt))))))))))
