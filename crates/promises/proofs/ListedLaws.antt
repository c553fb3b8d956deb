-- The blocks that a record lists: all that it has, where it is valid and undeleted.
use Prim.Native.Nat.{ℕ}
use mathlib.Core.List.{List, [], ◌∷◌, ◌++◌}
use mathlib.Core.Path.{◌≡◌, refl, sym, ap, ◌∙◌}
use mathlib.Core.Bool.{Bool, true, false, cond, not, ◌&&◌}
use native.Mathlib.Omega.{arith}
use Rattle.record.specs.Block.{Block}
use Rattle.record.specs.File.{File, is_deleted, is_invalid}
use Rattle.want.specs.Listing.{is_current, listed}
use Rattle.promises.proofs.HeldLaws.{differ}

pub current_parts : (flags : ℕ) → is_current flags ≡ true → (is_deleted flags ≡ false) × (is_invalid flags ≡ false)
current_parts flags e = go (is_invalid flags) (is_deleted flags) refl refl e
  where
    go : (i d : Bool) → is_invalid flags ≡ i → is_deleted flags ≡ d → (not i && not d) ≡ true → (is_deleted flags ≡ false) × (is_invalid flags ≡ false)
    go false false p q k = (q, p)
    go false true p q k = absurd (differ (sym k))
    go true d p q k = absurd (differ (sym k))

pub current_is : (flags : ℕ) → is_deleted flags ≡ false → is_invalid flags ≡ false → is_current flags ≡ true
current_is flags d i = rw (d, i) refl

pub listed_all : (f : File) → is_deleted f.flags ≡ false → is_invalid f.flags ≡ false → listed f ≡ f.blocks
listed_all f d i = ap (λ (x : Bool). cond x f.blocks []) (current_is f.flags d i)

-- a record that lists a block is one, and lists all its blocks
pub lists_some : (f : File) (front : List Block) (b : Block) (rest : List Block) → listed f ≡ front ++ (b ∷ rest) → is_current f.flags ≡ true
lists_some f front b rest e = go (is_current f.flags) refl e
  where
    some : (l : List Block) → [] ≡ l ++ (b ∷ rest) → ⊥
    some [] q = let z : ◌≡◌ {A = ℕ} 0 1 = cc in omega arith
    some (c ∷ l) q = let z : ◌≡◌ {A = ℕ} 0 1 = cc in omega arith

    go : (v : Bool) → is_current f.flags ≡ v → cond v f.blocks [] ≡ front ++ (b ∷ rest) → is_current f.flags ≡ true
    go true p q = p
    go false p q = absurd (some front q)

pub all_listed : (f : File) (front : List Block) (b : Block) (rest : List Block) → listed f ≡ front ++ (b ∷ rest) → f.blocks ≡ front ++ (b ∷ rest)
all_listed f front b rest e = let w = current_parts f.flags (lists_some f front b rest e) in sym (listed_all f w.0 w.1) ∙ e
