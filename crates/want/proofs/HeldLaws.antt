-- The blocks that a record lists are held by the records that it is one of.
use Prim.Native.Nat.{ℕ, ◌+◌}
use mathlib.Core.List.Memᴰ
use mathlib.Core.List.{List, [], ◌∷◌, ◌++◌, append_assoc}
use mathlib.Core.Path.{◌≡◌, refl, sym, ap, subst, ◌∙◌}
use mathlib.Core.Logic.{◌⊎◌, inl, inr}
use mathlib.Core.Bool.{Bool, true, false, ◌||◌}
use Rattle.record.specs.Block.{Block}
use Rattle.record.specs.File.{File}
use Rattle.merge.proofs.HighestLaws.{◌∈◌}
use Rattle.want.specs.Listing.{is_same, listed, has_block, is_held}
use Rattle.want.specs.Wanted.{wanted_blocks}
use Rattle.want.proofs.BlockLaws.{same_self}

pub or_true : (a : Bool) → (a || true) ≡ true
or_true true = refl
or_true false = refl

pub has_itself : (front : List Block) (b : Block) (rest : List Block) → has_block (front ++ (b ∷ rest)) b ≡ true
has_itself [] b rest = rw (same_self b) refl
has_itself (c ∷ front) b rest = rw (has_itself front b rest) (or_true (is_same c b))

pub held_by_record : (fs : List File) (f : File) (b : Block) → f ∈ fs → has_block (listed f) b ≡ true → is_held fs b ≡ true
held_by_record [] f b m e = absurd (Memᴰ.not-nil m)
held_by_record (g ∷ fs) f b m e = go (Memᴰ.cases_cons m) (λ k. held_by_record fs f b k e)
  where
    go : (f ≡ g) ⊎ (f ∈ fs) → (f ∈ fs → is_held fs b ≡ true) → is_held (g ∷ fs) b ≡ true
    go (inl q) ih = rw (subst (λ (x : File). has_block (listed x) b ≡ true) q e) refl
    go (inr k) ih = rw (ih k) (or_true (has_block (listed g) b))

-- so none of them is wanted
none_wanted : (fs : List File) (peer : ℕ → Block → ℕ) (front l : List Block) → ((b : Block) → has_block (front ++ l) b ≡ true → is_held fs b ≡ true) → (file j offset : ℕ) → wanted_blocks fs peer file j offset l ≡ []
none_wanted fs peer front [] h file j offset = refl
none_wanted fs peer front (b ∷ l) h file j offset =
    rw (h b (has_itself front b l))
    (none_wanted fs peer (front ++ (b ∷ [])) l (λ c e. h c (ap (λ (x : List Block). has_block x c) (sym (append_assoc front (b ∷ []) l)) ∙ e)) file (j + 1) (offset + b.size))

pub own_held : (fs : List File) (f : File) → f ∈ fs → (peer : ℕ → Block → ℕ) (file j offset : ℕ) → wanted_blocks fs peer file j offset (listed f) ≡ []
own_held fs f m peer file j offset = none_wanted fs peer [] (listed f) (λ b e. held_by_record fs f b m e) file j offset
