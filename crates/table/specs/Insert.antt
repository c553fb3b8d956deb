-- A record put among records whose names rise.
use Rattle.std.specs.Prelude.{List, [], ◌∷◌}
use Rattle.record.specs.File.{File}
use Rattle.order.specs.Order.{compare_lists}
use Rattle.std.specs.declared.cmp.Ordering.{Ordering}
use Rattle.std.specs.declared.cmp.Ordering.TheVariants.{Less, Equal, Greater}

-- before, in place of or after the first of them, by their names: `stays` is which of two records of one name stays, `later` the case after
abbrev pub placed : (stays : File → File → File) → Ordering → (f g : File) → (gs later : List File) → List File
placed stays Less f g gs later = f ∷ g ∷ gs
placed stays Equal f g gs later = stays f g ∷ gs
placed stays Greater f g gs later = g ∷ later

-- a record among them
abbrev pub insert : (stays : File → File → File) → File → List File → List File
insert stays f [] = f ∷ []
insert stays f (g ∷ gs) = placed stays (compare_lists f.name g.name) f g gs (insert stays f gs)
