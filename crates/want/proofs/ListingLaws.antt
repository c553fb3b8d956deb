-- The record at a place of a table, and the blocks that it lists.
use Rattle.std.specs.Prelude.{Some, None}
use Rattle.std.specs.declared.option.Option.{Option}
use Prim.Native.Nat.{ℕ, ◌+◌, ◌*◌, ◌≤◌}
use mathlib.Core.List.{List, [], ◌∷◌}
use mathlib.Core.Path.{◌≡◌, refl, sym, ap, ◌∙◌}
use mathlib.Core.Bool.{Bool, true, false, cond}
use native.Mathlib.Omega.{arith}
use lib.ListN.{length, drop}
use lib.Seq.{drop-drop}
use Rattle.xdr.proofs.Parts.{Elements}
use Rattle.record.specs.Block.{Block, block}
use Rattle.record.specs.File.{File}
use Rattle.record.specs.Outline.{outline_of, fields_of, block_place}
use Rattle.record.specs.declared.outline.RecordFields.{RecordFields}
use Rattle.record.proofs.BlockLaws.{nth_block}
use Rattle.record.proofs.FileLaws.{encoding_parts}
use Rattle.table.specs.Steps.Standing.{bytes_of, At}
use Rattle.table.proofs.WalkLaws.{at_end, standing}
use Rattle.want.specs.Listing.{is_current, listed}
use Rattle.want.specs.Steps.Blocks.{block_here, blocks_from, listed_count}

-- blocks that were read one after another
blocks_by : (s : List ℕ) (l : List Block) (first next : ℕ) → Elements block s first l next → (m : List Block) (i : ℕ) → drop i l ≡ m → blocks_from s first i (length m) ≡ m
blocks_by s l first next e [] i d = refl
blocks_by s l first next e (b ∷ m) i d =
    let x = nth_block s l first next i b m e d in
    let same : block_here s (block_place first i) ≡ b = rw (← x.size_is, ← x.hash_is) refl in
    let after : drop (i + 1) l ≡ m = sym (drop-drop 1 i l) ∙ ap (drop 1) d in
    let rest : blocks_from s first (i + 1) (length m) ≡ m = blocks_by s l first next e m (i + 1) after in
    ap (λ (c : Block). c ∷ blocks_from s first (i + 1) (length m)) same ∙ ap (λ (k : List Block). b ∷ k) rest

pub listed_few : (b : Bool) (n : ℕ) → cond b n 0 ≤ n
listed_few true n = omega arith
listed_few false n = omega arith

-- the record at the front of those that are left, by its outline
pub record Heads (t : List ℕ) (at : ℕ) (l : List File) (f : RecordFields) : Type 0 where
  pub head : File
  pub tail : List File
  pub is : l ≡ head ∷ tail
  pub fields_are : f ≡ fields_of at head
  pub here : At t at (head ∷ tail)

module _ {t : List ℕ} {at : ℕ} where
  pub heads : (l : List File) {x : Option RecordFields} {f : RecordFields} → At t at l → x ≡ outline_of t at → x ≡ Some f → Heads t at l f
  heads [] {x} {f} w e g = let same : None ≡ Some f = sym (at_end w) ∙ sym e ∙ g in cc
  heads (h ∷ hs) {x} {f} w e g =
      let same : Some (fields_of at h) ≡ Some f = sym (standing w).outline_is ∙ sym e ∙ g in
      record { head = h; tail = hs; is = refl; fields_are = cc; here = w }

  pub none_here : (l : List File) {x : Option RecordFields} → At t at l → x ≡ outline_of t at → x ≡ None → l ≡ []
  none_here [] {x} w e g = refl
  none_here (h ∷ hs) {x} w e g = let same : Some (fields_of at h) ≡ None = sym (standing w).outline_is ∙ sym e ∙ g in cc

  module _ {f : File} {fs : List File} (w : At t at (f ∷ fs)) where
    -- the blocks that it lists
    pub listed_blocks : blocks_from t (fields_of at f).first 0 (listed_count (fields_of at f)) ≡ listed f
    listed_blocks = go (is_current f.flags)
      where
        all : blocks_from t (fields_of at f).first 0 (length f.blocks) ≡ f.blocks
        all = let p = encoding_parts f t at (bytes_of fs) w.valid.0 w.here in blocks_by t f.blocks (fields_of at f).first _ p.blocks_are f.blocks 0 refl

        go : (b : Bool) → blocks_from t (fields_of at f).first 0 (cond b (length f.blocks) 0) ≡ cond b f.blocks []
        go true = all
        go false = refl

    -- are within the bytes
    pub listed_within : (fields_of at f).first + listed_count (fields_of at f) * 40 ≤ length t
    listed_within = omega (arith, (standing w).next.inside, listed_few (is_current f.flags) (length f.blocks))
