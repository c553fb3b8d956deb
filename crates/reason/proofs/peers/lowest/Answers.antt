-- One peer a turn.
use Prim.Native.Nat.{ℕ}
use mathlib.Core.Path.{◌≡◌, refl, sym, ap, subst, ◌∙◌}
use mathlib.Core.List.{List, [], map}
use mathlib.Core.Bool.{Bool}
use native.Mathlib.Omega.{arith}
use lib.ListN.{get_or}
use Rattle.record.specs.Block.{Block}
use Rattle.table.specs.Table.{is_good, records}
use Rattle.table.specs.Steps.Standing.{At}
use Rattle.want.specs.Listing.{block_with, lists_there}
use Rattle.want.specs.Steps.Places.{table_at, lists_at}
use Rattle.want.proofs.PlaceLaws.{element}
use Rattle.reason.specs.Steps.{named_from}
use Rattle.reason.proofs.PeerLaws.{lists_found, peer_found, peer_on, peer_none}
use Rattle.reason.proofs.peers.lowest.Goals as goal

-- whether a peer lists it
asked : {A : Type 0} (f : A → List ℕ) (l : List A) (k : ℕ) (d : A) → f d ≡ [] → (name : List ℕ) (offset : ℕ) (b : Block) {at : ℕ} {r : Bool} → At (f (get_or l k d)) at (named_from name (records (f (get_or l k d))))
    → r ≡ lists_at (f (get_or l k d)) at name offset b → r ≡ lists_there (records (table_at (map f l) k)) name offset b
asked f l k d z name offset b {at} w e =
    let t : f (get_or l k d) ≡ table_at (map f l) k = element f l k d z in
    e ∙ ap (λ (s : List ℕ). lists_at s at name offset b) t ∙ lists_found name offset b (subst (λ (s : List ℕ). At s at (named_from name (records s))) t w)

pub loop-k-init : goal.loop-k-init
loop-k-init c = refl

pub find-requires : goal.find-requires
find-requires c = ap is_good (element (λ x. x.now) c.args.tables c.loop-k.k _ refl) ∙ c.requires.good c.loop-k.k c.loop-k-test.true

pub returns-then-lists_at : goal.returns-then-lists_at
returns-then-lists_at c =
    let a = c.args in
    let b = block_with a.size a.hash.now in
    sym (c.loop-k.invariant ∙ peer_found a.name.now a.offset b c.requires c.loop-k.k c.loop-k-test.true (sym (asked (λ x. x.now) a.tables c.loop-k.k _ refl a.name.now a.offset b c.find.ensures c.lists_at.ensures) ∙ c.if-lists_at.true))

pub loop-k-preserved : goal.loop-k-preserved
loop-k-preserved c =
    let a = c.args in
    let b = block_with a.size a.hash.now in
    c.loop-k.invariant ∙ peer_on a.name.now a.offset b c.requires c.loop-k.k c.loop-k-test.true (sym (asked (λ x. x.now) a.tables c.loop-k.k _ refl a.name.now a.offset b c.find.ensures c.lists_at.ensures) ∙ c.if-lists_at.false)

pub returns : goal.returns
returns c =
    let a = c.args in
    sym (c.loop-k.invariant ∙ peer_none a.name.now a.offset (block_with a.size a.hash.now) c.requires c.loop-k.k (omega (arith, c.loop-k-test.false)))
