-- The list of good tables: nothing is wanted, it doesn't fit, or it is filled in.
use mathlib.Core.List.{List, [], ◌∷◌}
use mathlib.Core.Path.{sym, ap, ◌∙◌}
use native.Mathlib.Omega.{arith}
use borrow.Author.Tests.{leb-true, leb-false}
use lib.ListN.{length}
use Rattle.xdr.specs.Buffer.{filled}
use Rattle.xdr.proofs.FillingLaws.{fills_refused, fills_short, fills_given}
use Rattle.want.specs.Wanted.{list_bytes}
use Rattle.want.specs.Steps.Places.{list_of}
use Rattle.want.specs.declared.list.Wanted.{Wanted}
use Rattle.want.proofs.IndexLaws.{zeros_empty}
use Rattle.want.proofs.OutcomeLaws.{request_bad, request_good, five_good}
use Rattle.want.proofs.list.request_list.Goals as goal

pub returns-then-not-all_good : goal.returns-then-not-all_good
returns-then-not-all_good c =
    let s = c.args in
    fills_refused s.out.now (request_bad s.local.now (s.peer1.now ∷ s.peer2.now ∷ s.peer3.now ∷ s.peer4.now ∷ []) c.all_good.ensures c.if-not-all_good.true) c.refused.ensures

pub seek-requires : goal.seek-requires
seek-requires c =
    let s = c.args in
    five_good s.local.now s.peer1.now s.peer2.now s.peer3.now s.peer4.now (λ i. (c.type_inv.local i).fits) (λ i. (c.type_inv.peer1 i).fits) (λ i. (c.type_inv.peer2 i).fits) (λ i. (c.type_inv.peer3 i).fits) (λ i. (c.type_inv.peer4 i).fits) c.all_good.ensures c.if-not-all_good.false

-- nothing is wanted
pub returns-in_default : goal.returns-in_default
returns-in_default c =
    let s = c.args in
    let none = c.seek.ensures.none c.in_default.is in
    fills_given s.out.now (request_good s.local.now (s.peer1.now ∷ s.peer2.now ∷ s.peer3.now ∷ s.peer4.now ∷ []) c.all_good.ensures c.if-not-all_good.false)
    (omega (arith, ap (λ (l : List Wanted). length (list_bytes l)) none))
    (sym (ap (λ (l : List Wanted). length (list_bytes l)) none))
    (sym (ap (λ (l : List Wanted). filled s.out.now (list_bytes l)) none))

pub index_of-index-requires : goal.index_of-index-requires
index_of-index-requires c =
    let s = c.args in
    let five = five_good s.local.now s.peer1.now s.peer2.now s.peer3.now s.peer4.now (λ i. (c.type_inv.local i).fits) (λ i. (c.type_inv.peer1 i).fits) (λ i. (c.type_inv.peer2 i).fits) (λ i. (c.type_inv.peer3 i).fits) (λ i. (c.type_inv.peer4 i).fits) c.all_good.ensures c.if-not-all_good.false in
    record { t_value = five.good 0 (omega arith); empty = zeros_empty }

pub fits-requires : goal.fits-requires
fits-requires c =
    let s = c.args in
    let five = five_good s.local.now s.peer1.now s.peer2.now s.peer3.now s.peer4.now (λ i. (c.type_inv.local i).fits) (λ i. (c.type_inv.peer1 i).fits) (λ i. (c.type_inv.peer2 i).fits) (λ i. (c.type_inv.peer3 i).fits) (λ i. (c.type_inv.peer4 i).fits) c.all_good.ensures c.if-not-all_good.false in
    record { five = five; serves = c.index_of-index.ensures; begun = c.seek.ensures.some c.in-Some.start c.in-Some.is }

pub returns-then-not-fits : goal.returns-then-not-fits
returns-then-not-fits c =
    let s = c.args in
    fills_short s.out.now (request_good s.local.now (s.peer1.now ∷ s.peer2.now ∷ s.peer3.now ∷ s.peer4.now ∷ []) c.all_good.ensures c.if-not-all_good.false)
    (leb-false (length (list_bytes (list_of (s.local.now ∷ (s.peer1.now ∷ s.peer2.now ∷ s.peer3.now ∷ s.peer4.now ∷ []))))) (length s.out.now) (sym c.fits.ensures ∙ c.if-not-fits.true)) c.refused-then-not-fits.ensures

pub fill-requires : goal.fill-requires
fill-requires c =
    let s = c.args in
    let five = five_good s.local.now s.peer1.now s.peer2.now s.peer3.now s.peer4.now (λ i. (c.type_inv.local i).fits) (λ i. (c.type_inv.peer1 i).fits) (λ i. (c.type_inv.peer2 i).fits) (λ i. (c.type_inv.peer3 i).fits) (λ i. (c.type_inv.peer4 i).fits) c.all_good.ensures c.if-not-all_good.false in
    record {
      five = five;
      serves = c.index_of-index.ensures;
      begun = c.seek.ensures.some c.in-Some.start c.in-Some.is;
      tables_in_bounds = leb-true _ _ (sym c.fits.ensures ∙ c.if-not-fits.false);
    }

pub returns : goal.returns
returns c =
    let s = c.args in
    fills_given s.out.now (request_good s.local.now (s.peer1.now ∷ s.peer2.now ∷ s.peer3.now ∷ s.peer4.now ∷ []) c.all_good.ensures c.if-not-all_good.false) (leb-true _ _ (sym c.fits.ensures ∙ c.if-not-fits.false)) c.fill.ensures.value c.fill.ensures.out_after
