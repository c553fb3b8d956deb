use mathlib.Core.Path.{refl, subst}
use native.Mathlib.Omega.{arith}
use Rattle.xdr.proofs.FillingLaws.{fills_refused, fills_same}
use Rattle.table.specs.Table.{resulting_table}
use Rattle.accept.specs.Steps.Sorted.{result_of, SortedTo}
use Rattle.accept.proofs.accepting.accept_list.Goals as goal

pub overflow_add-result : goal.overflow_add-result
overflow_add-result c = omega (arith, (subst (SortedTo c.args.s.now c.sort.new.places) c.in-Err.is c.sort.ensures).0, c.requires.2)

pub fill-requires : goal.fill-requires
fill-requires c = ((subst (SortedTo c.args.s.now c.sort.new.places) c.in-Ok.is c.sort.ensures).1, c.requires.1)

pub returns-in-Err : goal.returns-in-Err
returns-in-Err c =
    let a = c.args in
    fills_refused a.out.now ((subst (SortedTo c.args.s.now c.sort.new.places) c.in-Err.is c.sort.ensures).1 a.start (resulting_table (result_of a.update a.s.now a.old.now))) refl

pub returns-in-Ok : goal.returns-in-Ok
returns-in-Ok c =
    let a = c.args in
    fills_same a.out.now ((subst (SortedTo c.args.s.now c.sort.new.places) c.in-Ok.is c.sort.ensures).1.unrefused a.start (resulting_table (result_of a.update a.s.now a.old.now))) c.fill.ensures
