use Rattle.std.proofs.Common.{ap, sym, subst}
use Rattle.mw_logic.specs.Term.{Variable}
use Rattle.mw_logic.specs.Preregular.{IsSortOf}
use Rattle.mw_term.specs.Raws.{raw_term}
use Rattle.mw_tests.specs.Numbers.{numbers, IsTerm}
use Rattle.mw_tests.proofs.Numbers.{variable_term, applied_list}
use Rattle.mw_tests.proofs.numerals.+test.Goals as goal

pub is_term-returns-in-Nat : goal.is_term-returns-in-Nat
is_term-returns-in-Nat t c = λ h. subst (λ r. IsTerm (raw_term r)) (sym c.in-Nat.is) c.shows_numeral.ensures

pub is_term-returns-in-Var : goal.is_term-returns-in-Var
is_term-returns-in-Var t c = λ h. subst (λ r. IsTerm (raw_term r)) (sym c.in-Var.is) (variable_term c.in-Var.x (subst (IsSortOf numbers) (ap (λ (x : Variable). x.sort) c.x.view_is) (c.is_sort.ensures h)))

pub is_term-returns-then-may_take : goal.is_term-returns-then-may_take
is_term-returns-then-may_take t c = λ h.
    subst (λ r. IsTerm (raw_term r)) (sym c.in-Op.is)
    (applied_list c.in-Op.operator c.as_slice-args.result.now c.in-Op.args c.as_slice-args.ensures (c.may_take.ensures c.if-may_take.true) (c.are_terms.ensures h))
