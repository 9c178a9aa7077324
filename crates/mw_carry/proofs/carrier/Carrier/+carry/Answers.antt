use Rattle.std.proofs.Common.{◌∙◌, sym, ap, subst, arith}
use Rattle.std.proofs.lemmas.List.{drop_all}
use Rattle.mw_logic.specs.Term.{Variable, numeral, quoted, variable, apply}
use Rattle.mw_logic.specs.NormalForm.{height, highest}
use Rattle.mw_logic.specs.Signature.{IsRawTerm, AreRawTerms}
use Rattle.mw_logic.specs.Preregular.{IsSortOf}
use Rattle.mw_logic.proofs.SameConditions.{same_variable-refl}
use Rattle.mw_term.specs.Raws.{raw_term, raw_terms}
use Rattle.mw_carry.specs.Carried.{IsSameOperator, IsCarried, AreCarried, a_numeral, a_quoted, a_variable, an_operator}
use Rattle.mw_carry.specs.Carriage.{Carriage, HaveSortsOf}
use Rattle.mw_carry.specs.Laws.{HasSortsOf}
use Rattle.mw_carry.proofs.Carrying.{raw_low, applied_raw, left_at, carried_at, carried_all}
use Rattle.mw_carry.proofs.carrier.Carrier.+carry.Goals as goal

pub carry-sort-sort-requires : goal.carry-sort-sort-requires
carry-sort-sort-requires t c =
    let from = c.args.self.now.from in
    let sorts : HasSortsOf from (variable c.in-Var.variable) = subst (λ r. HasSortsOf from (raw_term r)) c.in-Var.is c.requires.sorts in
    subst (λ (x : Variable). IsSortOf from x.sort) (sym c.variable.view_is) (sorts c.in-Var.variable (same_variable-refl c.in-Var.variable))

pub carry-operator-requires : goal.carry-operator-requires
carry-operator-requires t c =
    let (o, is, raw) = applied_raw (subst (λ r. IsRawTerm c.args.self.now.from (raw_term r)) c.in-Op.is c.requires.raw) in
    (o, is)

pub carry-carry_all-requires : goal.carry-carry_all-requires
carry-carry_all-requires t c =
    let from = c.args.self.now.from in
    let (o, is, raw) = applied_raw (subst (λ r. IsRawTerm from (raw_term r)) c.in-Op.is c.requires.raw) in
    let high = ap highest c.as_slice.ensures in
    let top = ap (λ r. height (raw_term r)) c.in-Op.is in
    let same = sym c.in_ok-same-in-Op.ensures.same in
    let raws : AreRawTerms from (raw_terms c.as_slice.result.now) o.args = subst (λ ts. AreRawTerms from ts o.args) (sym c.as_slice.ensures) raw in
    let sorts : HaveSortsOf from c.in-Op.args = subst (λ r. HasSortsOf from (raw_term r)) c.in-Op.is c.requires.sorts in (
      omega (arith, high, top, c.decreases),
      (
        (o.args, subst (λ (b : Carriage). AreRawTerms b.from (raw_terms c.as_slice.result.now) o.args) same raws),
        subst (λ (b : Carriage). HaveSortsOf b.from (raw_terms c.as_slice.result.now)) same (subst (λ ts. HaveSortsOf from ts) (sym c.as_slice.ensures) sorts),
      ),
    )

pub carry-returns-in-Nat-clause-carried : goal.carry-returns-in-Nat-clause-carried
carry-returns-in-Nat-clause-carried t c =
    subst (λ r. IsCarried c.args.self.now.from c.args.self.now.to (raw_term r) (numeral c.in-Nat.number)) (sym c.in-Nat.is) (a_numeral c.in-Nat.number)

pub carry-returns-in_ok-copy_name-in-Qid-clause-carried : goal.carry-returns-in_ok-copy_name-in-Qid-clause-carried
carry-returns-in_ok-copy_name-in-Qid-clause-carried t c =
    let both = c.args.self.now in
    let name = c.in_ok-copy_name-in-Qid.field-0 in
    subst (λ u. IsCarried both.from both.to u (quoted name)) (ap quoted c.in_ok-copy_name-in-Qid.ensures ∙ ap raw_term (sym c.in-Qid.is)) (a_quoted name)

pub carry-returns-in_ok-name-in-Var-clause-carried : goal.carry-returns-in_ok-name-in-Var-clause-carried
carry-returns-in_ok-name-in-Var-clause-carried t c =
    let both = c.args.self.now in
    let y : Variable = record { name = c.in_ok-name-in-Var.name; sort = c.sort-sort.result } in
    let x : Variable = record { name = c.variable.inside.name; sort = c.variable.inside.sort } in
    subst (λ u. IsCarried both.from both.to u (variable y)) (ap variable c.variable.view_is ∙ ap raw_term (sym c.in-Var.is))
    (a_variable x y (sym c.in_ok-name-in-Var.ensures) c.sort-sort.ensures)

pub carry-returns-in_ok-carried-in-Op-clause-carried : goal.carry-returns-in_ok-carried-in-Op-clause-carried
carry-returns-in_ok-carried-in-Op-clause-carried t c =
    let both = c.args.self.now in
    let f = c.in-Op.operator in
    let g = c.in_ok-same-in-Op.same in
    let slice = raw_terms c.as_slice.result.now in
    let us = raw_terms c.in_ok-carried-in-Op.carried.items in
    let is : IsSameOperator both.from both.to f g = c.in_ok-same-in-Op.ensures.found in
    let args : AreCarried both.from both.to slice us = subst (λ (b : Carriage). AreCarried b.from b.to slice us) c.in_ok-same-in-Op.ensures.same c.in_ok-carried-in-Op.ensures.carried in
    subst (λ v. IsCarried both.from both.to (raw_term c.args.term.now) (apply g v)) (sym c.of.ensures)
    (subst (λ u. IsCarried both.from both.to u (apply g us)) (ap (apply f) c.as_slice.ensures ∙ ap raw_term (sym c.in-Op.is)) (an_operator f g slice us is args))

pub carry_all-carry-requires : goal.carry_all-carry-requires
carry_all-carry-requires t c =
    let h = raw_low c.args.terms.now c.loop-term.term-index c.term-item.result c.term-item.result c.loop-term-test.true c.term-item.is in
    let (raw, sorts, rest) = left_at c.args.self.now.from c.args.terms.now c.loop-term.term-index c.term-item.result c.loop-term-test.true c.term-item.is c.loop-term.invariant.left in
    let same = sym c.loop-term.invariant.same in (
      omega (arith, h, c.decreases),
      (
        subst (λ (b : Carriage). IsRawTerm b.from (raw_term c.term-item.result)) same raw,
        subst (λ (b : Carriage). HasSortsOf b.from (raw_term c.term-item.result)) same sorts,
      ),
    )

pub carry_all-loop-term-preserved : goal.carry_all-loop-term-preserved
carry_all-loop-term-preserved t c =
    let both = c.args.self.now in
    let one = c.in_ok-one.one in
    let (raw, sorts, rest) = left_at both.from c.args.terms.now c.loop-term.term-index c.term-item.result c.loop-term-test.true c.term-item.is c.loop-term.invariant.left in
    let is : IsCarried both.from both.to (raw_term c.term-item.result) (raw_term one) =
    subst (λ (b : Carriage). IsCarried b.from b.to (raw_term c.term-item.result) (raw_term one)) c.loop-term.invariant.same c.in_ok-one.ensures.carried in
    record {
      same = c.in_ok-one.ensures.same ∙ c.loop-term.invariant.same;
      left = rest;
      carried = carried_at both.from both.to (raw_terms c.args.terms.now) c.args.terms.now c.loop-term.term-index c.term-item.result c.loop-term-test.true c.term-item.is
          c.loop-term.carried.items _ one c.in_ok-push.ensures.items is c.loop-term.invariant.carried;
    }

pub carry_all-returns-clause-carried : goal.carry_all-returns-clause-carried
carry_all-returns-clause-carried t c =
    let both = c.args.self.now in
    carried_all both.from both.to (raw_terms c.args.terms.now) _ (raw_terms c.loop-term.carried.items)
    (ap raw_terms (drop_all c.loop-term.term-index c.args.terms.now c.loop-term-test.false)) c.loop-term.invariant.carried
