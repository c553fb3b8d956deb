-- Whether a block is held, in words: a record lists a block of its Length and hash.
use Prim.Native.Nat.{ℕ}
use mathlib.Core.List.Memᴰ
use mathlib.Core.List.{List, [], ◌∷◌, Memᴰ}
use mathlib.Core.Path.{◌≡◌, refl, sym, ap, subst, ◌∙◌}
use mathlib.Core.Logic.{⊎_elim}
use mathlib.Core.Bool.{Bool, true, false, ◌||◌}
use native.Mathlib.Omega.{arith}
use borrow.Author.Tests.{eq-eqb, eqb-true}
use lib.Dec.{eqb}
use Rattle.record.specs.Block.{Block}
use Rattle.record.specs.File.{File}
use Rattle.order.specs.Order.{is_equal, compare_lists}
use Rattle.order.proofs.OrderLaws.{same_equal}
use Rattle.order.proofs.SameLaws.{is_same_lem}
use Rattle.record.proofs.RisingLaws.{both_true}
use Rattle.want.specs.Listing.{is_same, listed, has_block, is_held}
use Rattle.promises.specs.Why.{NoneSame}

pub differ : true ≡ false → ⊥
differ e = let z : ◌≡◌ {A = ℕ} 0 1 = cc in omega arith

pub neither : (a b : Bool) → (a || b) ≡ false → (a ≡ false) × (b ≡ false)
neither true b e = absurd (differ e)
neither false b e = (refl, e)

-- the same Length and hash

pub alike : (b c : Block) → b.size ≡ c.size → b.hash ≡ c.hash → is_same b c ≡ true
alike b c p q = rw (eq-eqb b.size c.size p, ap (compare_lists b.hash) (sym q) ∙ same_equal b.hash) refl

pub alike_parts : (b c : Block) → is_same b c ≡ true → (b.size ≡ c.size) × (b.hash ≡ c.hash)
alike_parts b c e =
    let t = both_true (eqb b.size c.size) (is_equal (compare_lists b.hash c.hash)) e in
    (eqb-true b.size c.size t.0, is_same_lem b.hash c.hash t.1)

-- no block of some has them

pub has_none : (l : List Block) (b : Block) → has_block l b ≡ false → NoneSame l b
has_none [] b e c m p q = Memᴰ.not-nil m
has_none (d ∷ l) b e c m p q =
    let n = neither (is_same d b) (has_block l b) e in
    ⊎_elim (λ k. differ (sym (subst (λ (x : Block). is_same x b ≡ true) k (alike c b p q)) ∙ n.0)) (λ k. has_none l b n.1 c k p q) (Memᴰ.cases_cons m)

pub none_has : (l : List Block) (b : Block) → NoneSame l b → has_block l b ≡ false
none_has [] b h = refl
none_has (d ∷ l) b h = go (is_same d b) refl (none_has l b (λ c m. h c (Memᴰ.tail m)))
  where
    go : (v : Bool) → is_same d b ≡ v → has_block l b ≡ false → (v || has_block l b) ≡ false
    go true e ih = let p = alike_parts d b e in absurd (h d (Memᴰ.head refl) p.0 p.1)
    go false e ih = ih

-- no record of some lists one that has them

pub unheld_words : (fs : List File) (b : Block) → is_held fs b ≡ false → (f : File) → Memᴰ f fs → NoneSame (listed f) b
unheld_words [] b e f m = absurd (Memᴰ.not-nil m)
unheld_words (g ∷ fs) b e f m =
    let n = neither (has_block (listed g) b) (is_held fs b) e in
    ⊎_elim (λ k. subst (λ (x : File). NoneSame (listed x) b) (sym k) (has_none (listed g) b n.0)) (λ k. unheld_words fs b n.1 f k) (Memᴰ.cases_cons m)

pub words_unheld : (fs : List File) (b : Block) → ((f : File) → Memᴰ f fs → NoneSame (listed f) b) → is_held fs b ≡ false
words_unheld [] b h = refl
words_unheld (g ∷ fs) b h = rw (none_has (listed g) b (h g (Memᴰ.head refl))) (words_unheld fs b (λ f m. h f (Memᴰ.tail m)))
