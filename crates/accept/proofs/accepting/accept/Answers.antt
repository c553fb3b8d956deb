use Rattle.std.proofs.Common.{ℕ, List, length, sym, ap, subst, ◌∙◌, arith}
use Rattle.order.specs.Order.{is_equal, compare_lists}
use Rattle.xdr.proofs.Answered.{handed_on}
use Rattle.xdr.proofs.FillingLaws.{fills_refused, fills_same}
use Rattle.accept.specs.Steps.Sorted.{IsArray, of_array}
use Rattle.accept.proofs.MessageLaws.{found_list, repository_fits, repository_part, files_fit, files_array, another_repository, this_repository, old_bad, message_refused}
use Rattle.accept.proofs.accepting.accept.Goals as goal

pub returns-then-not-is_good : goal.returns-then-not-is_good
returns-then-not-is_good c = let a = c.args in fills_refused a.out.now (old_bad a.old.now a.message.now a.repository.now (sym c.is_good.ensures ∙ c.if-not-is_good.true)) c.refused.ensures

pub returns-in_err-found : goal.returns-in_err-found
returns-in_err-found c =
    let a = c.args in
    fills_refused a.out.now (message_refused a.old.now a.message.now a.repository.now (sym c.is_good.ensures ∙ c.if-not-is_good.false) c.read_index.ensures c.in_err-found.was) (handed_on c.from_residual.result c.from_residual.ensures.1)

pub overflow_add-stop : goal.overflow_add-stop
overflow_add-stop c = omega (arith, c.well_formed, repository_fits (λ i. (c.type_inv.message i).fits) (found_list c.args.message.now c.read_index.ensures c.in_ok-found.was))

pub returns-then-not-same_bytes : goal.returns-then-not-same_bytes
returns-then-not-same_bytes c =
    let a = c.args in
    let l = found_list c.args.message.now c.read_index.ensures c.in_ok-found.was in
    let there = c.part.ensures ∙ repository_part (λ i. (c.type_inv.message i).fits) l in
    fills_refused a.out.now
    (another_repository (λ i. (c.type_inv.message i).fits) l a.old.now a.repository.now (sym c.is_good.ensures ∙ c.if-not-is_good.false)
    (sym (c.same_bytes.ensures ∙ ap (λ (p : List ℕ). is_equal (compare_lists p a.repository.now)) there) ∙ c.if-not-same_bytes.true))
    c.refused-then-not-same_bytes.ensures

pub accept_list-requires : goal.accept_list-requires
accept_list-requires c =
    let l = found_list c.args.message.now c.read_index.ensures c.in_ok-found.was in
    let files = c.part-2.ensures in (
      subst IsArray (sym files) (files_array (λ i. (c.type_inv.message i).fits) l),
      (sym c.is_good.ensures ∙ c.if-not-is_good.false),
      omega (arith, c.well_formed, files_fit (λ i. (c.type_inv.message i).fits) l, ap length files),
    )

pub returns : goal.returns
returns c =
    let a = c.args in
    let l = found_list c.args.message.now c.read_index.ensures c.in_ok-found.was in
    let x = c.in_ok-found.found in
    let there = c.part.ensures ∙ repository_part (λ i. (c.type_inv.message i).fits) l in
    fills_same a.out.now
    (this_repository (λ i. (c.type_inv.message i).fits) l a.old.now a.repository.now (sym c.is_good.ensures ∙ c.if-not-is_good.false)
    (sym (c.same_bytes.ensures ∙ ap (λ (p : List ℕ). is_equal (compare_lists p a.repository.now)) there) ∙ c.if-not-same_bytes.false)
    ∙ ap (λ (p : List ℕ). of_array x.update x.index.files.start p a.old.now) (sym c.part-2.ensures))
    c.accept_list.ensures
