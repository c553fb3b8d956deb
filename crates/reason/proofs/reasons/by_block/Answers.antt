-- By what the search finds in the local table, which is good.
use Prim.Native.Nat.{ℕ}
use mathlib.Core.Path.{◌≡◌, refl, sym, ap, ◌∙◌}
use mathlib.Core.List.{List, [], map}
use native.Mathlib.Omega.{arith}
use lib.ListN.{get_or, drop}
use Rattle.std.specs.Prelude.{Ok, Err}
use Rattle.std.specs.declared.option.Option.{Option}
use Rattle.std.specs.declared.result.Result.{Result}
use Rattle.xdr.specs.declared.answer.Refusal.{Refusal}
use Rattle.record.specs.Block.{Block}
use Rattle.table.specs.Table.{records}
use Rattle.want.specs.Found.{found_from, found_in}
use Rattle.want.specs.Listing.{block_with}
use Rattle.want.specs.Wanted.{peer_from}
use Rattle.want.specs.Steps.Places.{table_at, Five}
use Rattle.want.specs.declared.search.Found.{Found}
use Rattle.want.proofs.PlaceLaws.{element}
use Rattle.reason.specs.Reasons.{held_or}
use Rattle.reason.specs.declared.reasons.Reason.TheVariants as R
use Rattle.reason.proofs.WhyLaws.{found_good}
use Rattle.reason.proofs.reasons.by_block.Goals as goal

module _ {A : Type 0} (f : A → List ℕ) (l : List A) (d : A) (z : f d ≡ []) (g : Five (map f l)) (b : Block) {w : Result (Option Found) Refusal} (e : w ≡ found_in (f (get_or l 0 d)) b) where
  search_is : w ≡ Ok (found_from 0 (records (table_at (map f l) 0)) b)
  search_is = e ∙ ap (λ (t : List ℕ). found_in t b) (element f l 0 d z) ∙ found_good (table_at (map f l) 0) b (g.good 0 (omega arith))

  found_is : {y : Option Found} → w ≡ Ok y → y ≡ found_from 0 (records (table_at (map f l) 0)) b
  found_is {y} q = let k : ◌≡◌ {A = Result (Option Found) Refusal} (Ok y) (Ok (found_from 0 (records (table_at (map f l) 0)) b)) = sym q ∙ search_is in cc

  unrefused : {r : Refusal} {P : Type 0} → w ≡ Err r → P
  unrefused {r} q = let k : ◌≡◌ {A = Result (Option Found) Refusal} (Err r) (Ok (found_from 0 (records (table_at (map f l) 0)) b)) = sym q ∙ search_is in cc

pub returns-in_err-found : goal.returns-in_err-found
returns-in_err-found c = unrefused (λ x. x.now) c.args.tables _ refl c.requires (block_with c.args.size c.args.hash.now) c.find_local.ensures c.in_err-found.was

pub returns-in_default : goal.returns-in_default
returns-in_default c =
    let b = block_with c.args.size c.args.hash.now in
    let e = found_is (λ x. x.now) c.args.tables _ refl c.requires b c.find_local.ensures c.in_ok-found.was in
    ap (λ (n : ℕ). Ok (R.Wanted n)) (c.unwrap_or-peer.ensures ∙ c.lowest.ensures)
    ∙ ap (λ (x : Option Found). Ok (held_or x (peer_from 1 (map records (drop 1 (map (λ x. x.now) c.args.tables))) c.args.name.now c.args.offset b))) (sym c.in_default.is ∙ e)

pub returns : goal.returns
returns c =
    let b = block_with c.args.size c.args.hash.now in
    let e = found_is (λ x. x.now) c.args.tables _ refl c.requires b c.find_local.ensures c.in_ok-found.was in
    ap (λ (x : Option Found). Ok (held_or x (peer_from 1 (map records (drop 1 (map (λ x. x.now) c.args.tables))) c.args.name.now c.args.offset b))) (sym c.in-Some.is ∙ e)
