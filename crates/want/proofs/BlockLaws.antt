-- Blocks at places as they were read, and what is told of blocks that are the same.
use Prim.Native.Nat.{ℕ, ◌+◌, ◌<◌}
use mathlib.Core.List.{List}
use mathlib.Core.Path.{◌≡◌, refl, ap, ◌∙◌}
use mathlib.Core.Bool.{Bool, true, false, ◌&&◌}
use native.Mathlib.Omega.{arith}
use borrow.Author.Tests.{eq-eqb, eqb-true}
use lib.ListN.{take, drop}
use lib.Dec.{eqb}
use Rattle.record.specs.Block.{Block}
use Rattle.record.specs.File.{File}
use Rattle.record.specs.Outline.{word_at}
use Rattle.order.specs.Order.{is_equal, compare_lists}
use Rattle.order.proofs.OrderLaws.{same_equal}
use Rattle.order.proofs.SameLaws.{is_same_lem}
use Rattle.want.specs.Listing.{is_same, is_held, block_with}
use Rattle.want.specs.Steps.Blocks.{block_here}
use Rattle.want.specs.Steps.Index.{key_of, next_slot}

-- a block by its Length and hash, as they were read
module _ (t : List ℕ) (at : ℕ) {n : ℕ} {h : List ℕ} (e : n ≡ word_at t at) (g : h ≡ take 32 (drop (at + 8) t)) where
  pub read_here : block_with n h ≡ block_here t at
  read_here = ap (λ (k : ℕ). block_with k h) e ∙ ap (λ (l : List ℕ). block_with (word_at t at) l) g

  pub held_here : (fs : List File) {r : Bool} → r ≡ is_held fs (block_with n h) → r ≡ is_held fs (block_here t at)
  held_here fs f = f ∙ ap (is_held fs) read_here

and_both : (a b : Bool) → (a && b) ≡ true → (a ≡ true) × (b ≡ true)
and_both true b e = (refl, e)
and_both false b e = cc

-- the same Length and hash are the same block
pub same_is : (b c : Block) → is_same b c ≡ true → b ≡ c
same_is b c e =
    let p = and_both (eqb b.size c.size) (is_equal (compare_lists b.hash c.hash)) e in
    ap (λ (n : ℕ). block_with n b.hash) (eqb-true b.size c.size p.0) ∙ ap (block_with c.size) (is_same_lem b.hash c.hash p.1)

pub same_self : (b : Block) → is_same b b ≡ true
same_self b = rw (eq-eqb b.size b.size refl, same_equal b.hash) refl

-- slots are below 8,192

pub key_below : (h : List ℕ) → key_of h < 8192
unfolding key_of
key_below h = omega arith

pub next_below : (i : ℕ) → next_slot i < 8192
next_below i = omega arith
