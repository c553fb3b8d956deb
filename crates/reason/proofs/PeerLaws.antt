-- The lowest peer that lists a block under a name, by the record of that name in each table.
use Prim.Native.Nat.{ℕ, ◌+◌, ◌≤◌, ◌<◌}
use mathlib.Core.List.{List, [], ◌∷◌, map}
use mathlib.Core.Path.{◌≡◌, refl, sym, ap, ◌∙◌}
use mathlib.Core.Bool.{Bool, true, false, cond}
use native.Mathlib.Omega.{arith}
use native.Mathlib.Numerals.{add-one}
use lib.ListN.{drop, drop_of_length-le}
use lib.Seq.{drop-cons}
use Rattle.order.specs.Order.{is_equal, compare_lists}
use Rattle.record.specs.Block.{Block}
use Rattle.record.specs.File.{File}
use Rattle.record.specs.Outline.{outline_of, fields_of}
use Rattle.table.specs.Table.{records}
use Rattle.table.specs.Steps.Standing.{At}
use Rattle.table.proofs.WalkLaws.{at_end, standing}
use Rattle.want.specs.Listing.{listed, has_there, lists_there}
use Rattle.want.specs.Wanted.{peer_from}
use Rattle.want.specs.Steps.Blocks.{blocks_from, listed_count}
use Rattle.want.specs.Steps.Places.{table_at, lists_by, lists_at, Five}
use Rattle.want.proofs.ListingLaws.{listed_blocks}
use Rattle.reason.specs.Steps.{named_from}

-- the record of a name has it
named_first : (name : List ℕ) (l : List File) {f : File} {fs : List File} → named_from name l ≡ f ∷ fs → is_equal (compare_lists f.name name) ≡ true
named_first name [] e = cc
named_first name (g ∷ l) {f} {fs} e = go (is_equal (compare_lists g.name name)) refl e (λ q. named_first name l q)
  where
    go : (b : Bool) → is_equal (compare_lists g.name name) ≡ b → cond b (g ∷ l) (named_from name l) ≡ f ∷ fs → (named_from name l ≡ f ∷ fs → is_equal (compare_lists f.name name) ≡ true)
        → is_equal (compare_lists f.name name) ≡ true
    go true q k ih = let same : g ≡ f = cc in ap (λ (x : File). is_equal (compare_lists x.name name)) (sym same) ∙ q
    go false q k ih = ih k

-- only it is looked at
module _ (name : List ℕ) (offset : ℕ) (b : Block) where
  lists_named : (l : List File) → lists_there l name offset b ≡ lists_there (named_from name l) name offset b
  lists_named [] = refl
  lists_named (f ∷ l) = go (is_equal (compare_lists f.name name)) refl (lists_named l)
    where
      go : (v : Bool) → is_equal (compare_lists f.name name) ≡ v → lists_there l name offset b ≡ lists_there (named_from name l) name offset b
          → cond v (has_there 0 (listed f) offset b) (lists_there l name offset b) ≡ lists_there (cond v (f ∷ l) (named_from name l)) name offset b
      go true q ih = sym (ap (λ (v : Bool). cond v (has_there 0 (listed f) offset b) (lists_there l name offset b)) q)
      go false q ih = ih

  pub lists_found : {t : List ℕ} {at : ℕ} → At t at (named_from name (records t)) → lists_at t at name offset b ≡ lists_there (records t) name offset b
  unfolding lists_at
  lists_found {t} {at} w = go (named_from name (records t)) refl w ∙ sym (lists_named (records t))
    where
      go : (l : List File) → named_from name (records t) ≡ l → At t at l → lists_by t name offset b (outline_of t at) ≡ lists_there l name offset b
      go [] q v = ap (lists_by t name offset b) (at_end v)
      go (f ∷ fs) q v =
          let has : is_equal (compare_lists f.name name) ≡ true = named_first name (records t) q in
          ap (lists_by t name offset b) (standing v).outline_is
          ∙ ap (λ (n : List ℕ). cond (is_equal (compare_lists n name)) (has_there 0 (blocks_from t (fields_of at f).first 0 (listed_count (fields_of at f))) offset b) false) (standing v).name_is
          ∙ ap (λ (x : Bool). cond x (has_there 0 (blocks_from t (fields_of at f).first 0 (listed_count (fields_of at f))) offset b) false) has
          ∙ ap (λ (l : List Block). has_there 0 l offset b) (listed_blocks v)
          ∙ sym (ap (λ (x : Bool). cond x (has_there 0 (listed f) offset b) (lists_there fs name offset b)) has)

  -- the peers from number k on
  abbrev pub peers_from : List (List ℕ) → ℕ → ℕ
  peers_from ts k = peer_from k (map records (drop k ts)) name offset b

  module _ {ts : List (List ℕ)} (v : Five ts) where
    next_peer : (k : ℕ) → k < 5 → peers_from ts k ≡ cond (lists_there (records (table_at ts k)) name offset b) k (peers_from ts (k + 1))
    next_peer k h =
        ap (λ (l : List (List ℕ)). peer_from k (map records l) name offset b) (drop-cons ts k [] (omega (arith, v.many)))
        ∙ ap (λ (i : ℕ). cond (lists_there (records (table_at ts k)) name offset b) k (peer_from (k + 1) (map records (drop i ts)) name offset b)) (sym (add-one k))

    pub peer_found : (k : ℕ) → k < 5 → lists_there (records (table_at ts k)) name offset b ≡ true → peers_from ts k ≡ k
    peer_found k h e = next_peer k h ∙ ap (λ (x : Bool). cond x k (peers_from ts (k + 1))) e

    pub peer_on : (k : ℕ) → k < 5 → lists_there (records (table_at ts k)) name offset b ≡ false → peers_from ts k ≡ peers_from ts (k + 1)
    peer_on k h e = next_peer k h ∙ ap (λ (x : Bool). cond x k (peers_from ts (k + 1))) e

    pub peer_none : (k : ℕ) → 5 ≤ k → peers_from ts k ≡ 0
    peer_none k h = ap (λ (l : List (List ℕ)). peer_from k (map records l) name offset b) (drop_of_length-le ts {i = k} (omega (arith, v.many)))
