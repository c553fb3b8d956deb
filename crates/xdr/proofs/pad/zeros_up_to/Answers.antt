-- The count of zeros is the position of the first byte that is none.
use Prim.Native.Nat.{ℕ, suc, ◌+◌, ◌≤◌}
use mathlib.Core.List.{List}
use mathlib.Core.Bool.{Bool, true, false, cond, not}
use mathlib.Core.Path.{◌≡◌, refl, sym, ◌∙◌}
use native.Mathlib.Omega.{arith}
use borrow.Author.Rules.{rules}
use borrow.Author.Tests.{tests, ltb-false}
use lib.Dec.{eqb, ltb}
use lib.ListN.{length}
use Rattle.std.specs.Prelude.{Some, None}
use Rattle.std.specs.List.{position_or_len}
use Rattle.std.specs.Option.{unwrap_or}
use Rattle.std.proofs.lemmas.Iterator.{YieldsList-from_slice}
use Rattle.std.proofs.lemmas.Iterator.Search.{position_from_yields_List}
use Rattle.std.proofs.lemmas.List.Recursion.{is_position_or_len}
use Rattle.std.proofs.lemmas.List.Sums.{prefix_len-le-length}
use Rattle.xdr.specs.Pad.{zeros_up_to}
use Rattle.xdr.proofs.pad.zeros_up_to.Goals as goal

-- a byte that is not zero
abbrev set_byte : ℕ → Bool
set_byte b = not (eqb b 0)

counted : (l : List ℕ) → zeros_up_to l ≡ position_or_len set_byte l
counted l = is_position_or_len zeros_up_to set_byte refl (λ b m. go (eqb b 0) (zeros_up_to m)) l
  where
    go : (t : Bool) (n : ℕ) → cond t (suc n) 0 ≡ cond (not t) 0 (1 + n)
    go true n = omega arith
    go false n = refl

-- a place that is found, or the end
found : (n m : ℕ) → n ≤ m → unwrap_or (cond (ltb n m) (Some n) None) m ≡ n
found n m h = go (ltb n m) refl
  where
    go : (t : Bool) → ltb n m ≡ t → unwrap_or (cond t (Some n) None) m ≡ n
    go true e = refl
    go false e = let g = ltb-false n m e in omega arith

pub returns : goal.returns
returns c =
    let s = c.args.s.now in
    let at = position_from_yields_List set_byte _ _ c.position.result c.position.ensures.ran (YieldsList-from_slice s cc) (λ x b q k. search (rules, tests)) in
    rw (c.unwrap_or.ensures, at) (found (position_or_len set_byte s) (length s) (prefix_len-le-length (λ b. not (set_byte b)) s) ∙ sym (counted s))
