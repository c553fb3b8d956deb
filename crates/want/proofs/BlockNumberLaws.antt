-- Block number n of a record that stands at a place.
use Rattle.std.specs.Prelude.{Some, None}
use Rattle.std.specs.declared.option.Option.{Option}
use Prim.Native.Nat.{ℕ, zero, suc, ◌+◌, ◌-◌, ◌≤◌, ◌<◌}
use mathlib.Core.List.{List, [], ◌∷◌, ◌++◌}
use mathlib.Core.Path.{◌≡◌, refl, sym, ap, ◌∙◌}
use native.Mathlib.Omega.{arith}
use native.Mathlib.Nat.{add-zero, zero-add}
use native.Mathlib.Decide.{dec_lt}
use borrow.Author.Tests.{le-leb, lt-leb}
use lib.ListN.{length, get_or, take, drop}
use lib.Seq.{drop-cons, take-append_seam, drop-append_seam}
use Rattle.record.specs.Block.{Block, total_size}
use Rattle.record.specs.File.{File}
use Rattle.record.specs.Outline.{block_place, block_of, size_of, offset_of, fields_of}
use Rattle.record.specs.declared.outline.RecordFields.{RecordFields}
use Rattle.record.specs.declared.outline.BlockFields.{BlockFields}
use Rattle.order.specs.Order.{part}
use Rattle.record.proofs.BlockLaws.{nth_block, nth_outline, offset_is}
use Rattle.record.proofs.FileLaws.{encoding_parts}
use Rattle.table.specs.Steps.Standing.{bytes_of, At}
use Rattle.want.specs.Listing.{block_numbered, block_with}
use Rattle.want.specs.Details.{details_at}
use Rattle.want.specs.Steps.Entry.{details_block, details_by}
use Rattle.want.specs.declared.entry.Details.{Details}

-- by the blocks before it

module _ {A : Type 0} (none : A) (told : ℕ → Block → A) where
  pub numbered_none : (n offset : ℕ) (l : List Block) → length l ≤ n → block_numbered none told n offset l ≡ none
  numbered_none n offset [] h = refl
  numbered_none zero offset (b ∷ l) h = absurd (omega arith)
  numbered_none (suc n) offset (b ∷ l) h = numbered_none n (offset + b.size) l (omega arith)

  pub numbered_at : (n offset : ℕ) (l : List Block) (b : Block) (m : List Block) → drop n l ≡ b ∷ m → block_numbered none told n offset l ≡ told (offset + total_size (take n l)) b
  numbered_at zero offset [] b m d = cc
  numbered_at (suc n) offset [] b m d = cc
  numbered_at zero offset (c ∷ l) b m d = let same : c ≡ b = cc in ap (told offset) same ∙ ap (λ (k : ℕ). told k b) (sym (add-zero offset))
  numbered_at (suc n) offset (c ∷ l) b m d =
      let sum : offset + c.size + total_size (take n l) ≡ offset + (c.size + total_size (take n l)) = omega arith in
      numbered_at n (offset + c.size) l b m d ∙ ap (λ (k : ℕ). told k b) sum

  pub numbered_split : (front : List Block) (b : Block) (rest l : List Block) → l ≡ front ++ (b ∷ rest) → block_numbered none told (length front) 0 l ≡ told (total_size front) b
  numbered_split front b rest l e =
      numbered_at (length front) 0 l b rest (ap (drop (length front)) e ∙ drop-append_seam front (b ∷ rest))
      ∙ ap (λ (o : ℕ). told o b) (zero-add _ ∙ ap total_size (ap (take (length front)) e ∙ take-append_seam front (b ∷ rest)))

-- a block by the table and the fields of its record, its offset and Length, and its hash's place
abbrev pub details_with : (k : ℕ) → RecordFields → (offset size hash : ℕ) → Details
details_with k f offset size hash = record { table = k; name = f.name; stop = f.stop; offset = offset; size = size; hash = hash }

-- by what was told of it and of the record's fields

module _ (t : List ℕ) (k n : ℕ) (f : RecordFields) where
  pub by_beyond : f.blocks ≤ n → None ≡ details_by t k n f
  by_beyond h = rw (le-leb f.blocks n h) refl

  module _ (h : n < f.blocks) where
    within : details_by t k n f ≡ details_block k f (offset_of t f.first n) (block_of t f.first n)
    within = rw (lt-leb f.blocks n h) refl

    pub by_short : block_of t f.first n ≡ None → None ≡ details_by t k n f
    by_short e = sym (within ∙ ap (details_block k f (offset_of t f.first n)) e)

    pub by_whole : {size hash offset : ℕ} → block_of t f.first n ≡ Some (record { size = size; hash = hash }) → offset ≡ offset_of t f.first n → Some (details_with k f offset size hash) ≡ details_by t k n f
    by_whole {size} {hash} e o = ap (λ (x : ℕ). Some (details_with k f x size hash)) o ∙ sym (within ∙ ap (details_block k f (offset_of t f.first n)) e)

-- by its place

abbrev hash_of : Option BlockFields → ℕ
hash_of (Some b) = b.hash
hash_of None = 0

abbrev fields_with : (size hash : ℕ) → BlockFields
fields_with size hash = record { size = size; hash = hash }

module _ {t : List ℕ} {at : ℕ} {f : File} {fs : List File} (w : At t at (f ∷ fs)) where
  pub record BlockThere (n : ℕ) (b : Block) : Type 0 where
    pub outline_is : block_of t (fields_of at f).first n ≡ Some (record { size = b.size; hash = block_place (fields_of at f).first n + 8 })
    pub hash_is : take 32 (drop (block_place (fields_of at f).first n + 8) t) ≡ b.hash

  pub block_there : (n : ℕ) (b : Block) (m : List Block) → drop n f.blocks ≡ b ∷ m → BlockThere n b
  block_there n b m d =
      let p = encoding_parts f t at (bytes_of fs) w.valid.0 w.here in
      record {
        outline_is = nth_outline t f.blocks (fields_of at f).first _ n b m p.blocks_are d;
        hash_is = sym (nth_block t f.blocks (fields_of at f).first _ n b m p.blocks_are d).hash_is;
      }

  offset_there : (n : ℕ) → n ≤ length f.blocks → offset_of t (fields_of at f).first n ≡ total_size (take n f.blocks)
  offset_there n h = let p = encoding_parts f t at (bytes_of fs) w.valid.0 w.here in offset_is t f.blocks (fields_of at f).first _ n p.blocks_are h

  -- by its outline
  module _ (n : ℕ) (h : n < length f.blocks) where
    abbrev this : Block
    this = get_or f.blocks n (record { size = 0; hash = [] })

    here : drop n f.blocks ≡ this ∷ drop (suc n) f.blocks
    here = drop-cons f.blocks n (record { size = 0; hash = [] }) h

    pub outline_whole : {P : Type 0} → block_of t (fields_of at f).first n ≡ None → P
    outline_whole e =
        let k : None ≡ Some (fields_with this.size (block_place (fields_of at f).first n + 8)) = sym e ∙ (block_there n this _ here).outline_is in
        cc

    this_is : {size hash : ℕ} → block_of t (fields_of at f).first n ≡ Some (record { size = size; hash = hash }) → block_with size (part t hash (hash + 32)) ≡ this
    this_is {size} {hash} e =
        let w : Some (fields_with size hash) ≡ Some (fields_with this.size (block_place (fields_of at f).first n + 8)) = sym e ∙ (block_there n this _ here).outline_is in
        let s : size ≡ this.size = ap (λ (x : Option BlockFields). size_of x) w in
        let p : hash ≡ block_place (fields_of at f).first n + 8 = ap hash_of w in
        let many : hash + 32 - hash ≡ 32 = omega arith in
        let l : part t hash (hash + 32) ≡ this.hash =
        ap (λ (m : ℕ). take m (drop hash t)) many ∙ ap (λ (m : ℕ). take 32 (drop m t)) p ∙ (block_there n this _ here).hash_is in
        ap (λ (m : ℕ). block_with m (part t hash (hash + 32))) s ∙ ap (block_with this.size) l

    pub numbered_there : {A : Type 0} (none : A) (told : ℕ → Block → A) {size hash : ℕ} → block_of t (fields_of at f).first n ≡ Some (record { size = size; hash = hash })
        → block_numbered none told n 0 f.blocks ≡ told (offset_of t (fields_of at f).first n) (block_with size (part t hash (hash + 32)))
    numbered_there none told e =
        numbered_at none told n 0 f.blocks this _ here
        ∙ ap (λ (o : ℕ). told o this) (zero-add (total_size (take n f.blocks)) ∙ sym (offset_there n (omega arith)))
        ∙ ap (told (offset_of t (fields_of at f).first n)) (sym (this_is e))

  -- what the fields of the record tell is what the record does
  pub details_by_lem : (k n : ℕ) → details_by t k n (fields_of at f) ≡ details_at k at n f
  details_by_lem k n = go (dec_lt n (length f.blocks))
    where
      told : ℕ → Block → Option Details
      told offset b = Some (details_with k (fields_of at f) offset b.size (block_place (fields_of at f).first n + 8))

      go : Dec (n < length f.blocks) → details_by t k n (fields_of at f) ≡ block_numbered None told n 0 f.blocks
      go (yes h) =
          let d = drop-cons f.blocks n (record { size = 0; hash = [] }) h in
          sym (numbered_at None told n 0 f.blocks _ _ d ∙ by_whole t k n (fields_of at f) h (block_there n _ _ d).outline_is (zero-add (total_size (take n f.blocks)) ∙ sym (offset_there n (omega arith))))
      go (no h) = sym (numbered_none None told n 0 f.blocks (omega arith) ∙ by_beyond t k n (fields_of at f) (omega arith))
