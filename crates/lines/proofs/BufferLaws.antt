-- A buffer is untouched where each byte of it is the fill.
use Prim.Native.Nat.{ℕ}
use mathlib.Core.List.{List, [], ◌∷◌}
use mathlib.Core.Path.{◌≡◌, refl}
use mathlib.Core.Bool.{Bool, true, false, cond, ◌&&◌}
use lib.Dec.{eqb}
use Rattle.std.specs.List.{list_all}
use Rattle.lines.specs.Buffer.{is_untouched}

abbrev pub is_fill : ℕ → Bool
is_fill b = eqb b 238

pub fills : (l : List ℕ) → is_untouched l ≡ list_all is_fill l
fills [] = refl
fills (b ∷ l) = go (is_fill b) (fills l)
  where
    go : (t : Bool) → is_untouched l ≡ list_all is_fill l → cond t (is_untouched l) false ≡ (t && list_all is_fill l)
    go true e = e
    go false e = refl
