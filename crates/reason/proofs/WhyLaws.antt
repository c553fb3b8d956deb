-- The reason by the record that was found, and by the block of a number.
use Rattle.std.specs.Prelude.{Ok, Err, Some, None}
use Rattle.std.specs.declared.option.Option.{Option}
use Prim.Native.Nat.{ℕ, ◌+◌, ◌≤◌, ◌<◌}
use mathlib.Core.List.{List, [], ◌∷◌, map}
use mathlib.Core.Path.{◌≡◌, refl, sym, ap, ◌∙◌}
use mathlib.Core.Bool.{Bool, true, false, cond}
use native.Mathlib.Omega.{arith}
use borrow.Author.Tests.{leb-true}
use lib.ListN.{length}
use lib.Dec.{leb}
use Rattle.xdr.specs.Answers.{at_start}
use Rattle.order.specs.Order.{is_equal, compare_lists, part}
use Rattle.record.specs.Block.{Block}
use Rattle.record.specs.File.{File, is_deleted, is_invalid}
use Rattle.record.specs.Outline.{word_at, block_place, block_of, size_of, offset_of, fields_of}
use Rattle.record.specs.declared.outline.RecordFields.{RecordFields}
use Rattle.record.specs.declared.outline.BlockFields.{BlockFields}
use Rattle.table.specs.Table.{is_good, all_good, records}
use Rattle.merge.specs.Merged.{merged_of}
use Rattle.table.specs.Steps.Standing.{At}
use Rattle.want.specs.Found.{found_from, found_in}
use Rattle.want.specs.Listing.{block_numbered, block_with}
use Rattle.want.specs.Wanted.{peer_from}
use Rattle.want.proofs.BlockNumberLaws.{numbered_none, outline_whole, numbered_there}
use Rattle.reason.specs.Reasons.{held_or, why_record, why_named, why_of}
use Rattle.reason.specs.Steps.{lookup}
use Rattle.reason.specs.declared.reasons.Reason.{Reason}
use Rattle.reason.specs.declared.reasons.Reason.TheVariants as R

-- the search in a good table
pub found_good : (t : List ℕ) (b : Block) → is_good t ≡ true → found_in t b ≡ Ok (found_from 0 (records t) b)
unfolding found_in
found_good t b g = ap (λ (x : Bool). cond x (Ok (found_from 0 (records t) b)) (Err (at_start 15))) g

-- by the record of the name
pub why_none : (why : File → Reason) (name : List ℕ) (l : List File) → lookup name l ≡ [] → why_named why name l ≡ R.NoSuchName
why_none why name [] e = refl
why_none why name (f ∷ l) e = go (is_equal (compare_lists f.name name)) e (λ q. why_none why name l q)
  where
    go : (b : Bool) → cond b (f ∷ []) (lookup name l) ≡ [] → (lookup name l ≡ [] → why_named why name l ≡ R.NoSuchName) → cond b (why f) (why_named why name l) ≡ R.NoSuchName
    go true q ih = cc
    go false q ih = ih q

pub why_some : (why : File → Reason) (name : List ℕ) (l : List File) {g : File} → lookup name l ≡ g ∷ [] → why_named why name l ≡ why g
why_some why name [] e = cc
why_some why name (f ∷ l) {g} e = go (is_equal (compare_lists f.name name)) e (λ q. why_some why name l q)
  where
    go : (b : Bool) → cond b (f ∷ []) (lookup name l) ≡ g ∷ [] → (lookup name l ≡ g ∷ [] → why_named why name l ≡ why g) → cond b (why f) (why_named why name l) ≡ why g
    go true q ih = let same : f ≡ g = cc in ap why same
    go false q ih = ih q

-- a block by its outline

abbrev pub fields_with : (size hash : ℕ) → BlockFields
fields_with size hash = record { size = size; hash = hash }

abbrev hash_of : Option BlockFields → ℕ
hash_of (Some b) = b.hash
hash_of None = 0

module _ (t : List ℕ) (first n : ℕ) where
  block_told : {size hash : ℕ} → block_of t first n ≡ Some (fields_with size hash) → (size ≡ word_at t (block_place first n)) × (hash ≡ block_place first n + 8) × (block_place first n + 40 ≤ length t)
  unfolding block_of
  block_told {size} {hash} e = go (leb (block_place first n + 40) (length t)) refl e
    where
      go : (b : Bool) → leb (block_place first n + 40) (length t) ≡ b → cond b (Some (fields_with (word_at t (block_place first n)) (block_place first n + 8))) None ≡ Some (fields_with size hash)
          → (size ≡ word_at t (block_place first n)) × (hash ≡ block_place first n + 8) × (block_place first n + 40 ≤ length t)
      go true q k = (ap size_of (sym k), ap hash_of (sym k), leb-true (block_place first n + 40) (length t) q)
      go false q k = cc

  pub block_inside : {size hash : ℕ} → block_of t first n ≡ Some (fields_with size hash) → hash + 32 ≤ length t
  block_inside e = let w = block_told e in omega (arith, w.1, w.2)

-- the reason by the fields of the highest record
module _ (local : List File) (peers : List (List File)) (n : ℕ) {f : RecordFields} {t : List ℕ} {at : ℕ} {g : File} {gs : List File} (w : At t at (g ∷ gs)) (e : f ≡ fields_of at g) where
  abbrev by : ℕ → Block → Reason
  by offset b = held_or (found_from 0 local b) (peer_from 1 peers g.name offset b)

  flags_are : f.flags ≡ g.flags
  flags_are = ap (λ (y : RecordFields). y.flags) e

  first_is : f.first ≡ (fields_of at g).first
  first_is = ap (λ (y : RecordFields). y.first) e

  many : f.blocks ≡ length g.blocks
  many = ap (λ (y : RecordFields). y.blocks) e

  pub record_deleted : is_deleted f.flags ≡ true → R.Deleted ≡ why_record local peers n g
  record_deleted d = sym (ap (λ (x : Bool). cond x R.Deleted (cond (is_invalid g.flags) R.Invalid (block_numbered R.NoSuchBlock by n 0 g.blocks))) (ap is_deleted (sym flags_are) ∙ d))

  module _ (d : is_deleted f.flags ≡ false) where
    undeleted : is_deleted g.flags ≡ false
    undeleted = ap is_deleted (sym flags_are) ∙ d

    passed : why_record local peers n g ≡ cond (is_invalid g.flags) R.Invalid (block_numbered R.NoSuchBlock by n 0 g.blocks)
    passed = ap (λ (x : Bool). cond x R.Deleted (cond (is_invalid g.flags) R.Invalid (block_numbered R.NoSuchBlock by n 0 g.blocks))) undeleted

    pub record_invalid : is_invalid f.flags ≡ true → R.Invalid ≡ why_record local peers n g
    record_invalid i = sym (passed ∙ ap (λ (x : Bool). cond x R.Invalid (block_numbered R.NoSuchBlock by n 0 g.blocks)) (ap is_invalid (sym flags_are) ∙ i))

    module _ (i : is_invalid f.flags ≡ false) where
      valid : is_invalid g.flags ≡ false
      valid = ap is_invalid (sym flags_are) ∙ i

      blocks_of_lem : why_record local peers n g ≡ block_numbered R.NoSuchBlock by n 0 g.blocks
      blocks_of_lem = passed ∙ ap (λ (x : Bool). cond x R.Invalid (block_numbered R.NoSuchBlock by n 0 g.blocks)) valid

      pub record_beyond : f.blocks ≤ n → R.NoSuchBlock ≡ why_record local peers n g
      record_beyond h = sym (blocks_of_lem ∙ numbered_none R.NoSuchBlock by n 0 g.blocks (omega (arith, many)))

      module _ (h : n < f.blocks) where
        there : n < length g.blocks
        there = omega (arith, many)

        at_first : {x : Option BlockFields} → block_of t f.first n ≡ x → block_of t (fields_of at g).first n ≡ x
        at_first q = ap (λ (p : ℕ). block_of t p n) (sym first_is) ∙ q

        pub record_short : {P : Type 0} → block_of t f.first n ≡ None → P
        record_short q = outline_whole w n there (at_first q)

        pub record_block : {size hash : ℕ} → block_of t f.first n ≡ Some (fields_with size hash) → {name : List ℕ} → g.name ≡ name → {offset : ℕ} → offset ≡ offset_of t f.first n → {l : List ℕ} → l ≡ part t hash (hash + 32)
            → held_or (found_from 0 local (block_with size l)) (peer_from 1 peers name offset (block_with size l)) ≡ why_record local peers n g
        record_block {size} {hash} q {name} m {offset} o {l} p =
            ap (λ (x : List ℕ). held_or (found_from 0 local (block_with size x)) (peer_from 1 peers name offset (block_with size x))) p
            ∙ ap (λ (x : List ℕ). held_or (found_from 0 local (block_with size (part t hash (hash + 32)))) (peer_from 1 peers x offset (block_with size (part t hash (hash + 32))))) (sym m)
            ∙ ap (λ (x : ℕ). by x (block_with size (part t hash (hash + 32)))) (o ∙ ap (λ (x : ℕ). offset_of t x n) first_is)
            ∙ sym (blocks_of_lem ∙ numbered_there w n there R.NoSuchBlock by (at_first q))

-- by whether the tables are good
module _ (local : List ℕ) (peers : List (List ℕ)) (name : List ℕ) (n : ℕ) {t : Bool} (e : t ≡ all_good (local ∷ peers)) where
  pub why_bad : t ≡ false → Err (at_start 15) ≡ why_of local peers name n
  unfolding why_of
  why_bad q = sym (ap (λ (x : Bool). cond x (Ok (why_named (why_record (records local) (map records peers) n) name (merged_of (map records (local ∷ peers))))) (Err (at_start 15))) (sym e ∙ q))

  pub why_good : t ≡ true → why_of local peers name n ≡ Ok (why_named (why_record (records local) (map records peers) n) name (merged_of (map records (local ∷ peers))))
  unfolding why_of
  why_good q = ap (λ (x : Bool). cond x (Ok (why_named (why_record (records local) (map records peers) n) name (merged_of (map records (local ∷ peers))))) (Err (at_start 15))) (sym e ∙ q)
