use Rattle.std.proofs.Common.{[], ◌∷◌, sym, subst}
use Rattle.mw_logic.specs.Module as logic
use Rattle.mw_term.specs.Raws.{raw_term}
use Rattle.mw_term.specs.Signatures.{sorted_of}
use Rattle.mw_term.specs.Statements.{fragment_of}
use Rattle.mw_carry.specs.Carried.{IsCarriedFragment, an_equation, a_match, a_test, a_truth}
use Rattle.mw_build.specs.Imported.{HaveSortsAmong}
use Rattle.mw_build.proofs.FragmentTerms.{left_of_two, right_of_two, of_one}
use Rattle.mw_build.proofs.carrying.fragment.Goals as goal

pub both-requires-clause-left_sorts : goal.both-requires-clause-left_sorts
both-requires-clause-left_sorts c =
    let from = c.args.carrier.now.from in
    left_of_two from (raw_term c.in-Equal.left) (raw_term c.in-Equal.right) (subst (λ f. HaveSortsAmong from (fragment_of f ∷ [])) c.in-Equal.is c.requires.sorts)

pub both-requires-clause-right_sorts : goal.both-requires-clause-right_sorts
both-requires-clause-right_sorts c =
    let from = c.args.carrier.now.from in
    right_of_two from (raw_term c.in-Equal.left) (raw_term c.in-Equal.right) (subst (λ f. HaveSortsAmong from (fragment_of f ∷ [])) c.in-Equal.is c.requires.sorts)

pub both-requires-in-Match-clause-left_sorts : goal.both-requires-in-Match-clause-left_sorts
both-requires-in-Match-clause-left_sorts c =
    let from = c.args.carrier.now.from in
    left_of_two from (raw_term c.in-Match.pattern) (raw_term c.in-Match.term) (subst (λ f. HaveSortsAmong from (fragment_of f ∷ [])) c.in-Match.is c.requires.sorts)

pub both-requires-in-Match-clause-right_sorts : goal.both-requires-in-Match-clause-right_sorts
both-requires-in-Match-clause-right_sorts c =
    let from = c.args.carrier.now.from in
    right_of_two from (raw_term c.in-Match.pattern) (raw_term c.in-Match.term) (subst (λ f. HaveSortsAmong from (fragment_of f ∷ [])) c.in-Match.is c.requires.sorts)

pub carry-requires-clause-sorts : goal.carry-requires-clause-sorts
carry-requires-clause-sorts c =
    let from = c.args.carrier.now.from in
    of_one from (raw_term c.in-HasSort.term) (subst (λ f. HaveSortsAmong from (fragment_of f ∷ [])) c.in-HasSort.is c.requires.sorts)

pub carry-requires-in-Holds-clause-sorts : goal.carry-requires-in-Holds-clause-sorts
carry-requires-in-Holds-clause-sorts c =
    let from = c.args.carrier.now.from in
    of_one from (raw_term c.in-Holds.term) (subst (λ f. HaveSortsAmong from (fragment_of f ∷ [])) c.in-Holds.is c.requires.sorts)

pub returns-in_ok-left-in-Equal-clause-carried : goal.returns-in_ok-left-in-Equal-clause-carried
returns-in_ok-left-in-Equal-clause-carried c =
    let k = c.args.carrier.now in
    let left = raw_term c.in_ok-left-in-Equal.left in
    let right = raw_term c.in_ok-left-in-Equal.right in
    subst (λ f. IsCarriedFragment k.from k.to (fragment_of f) (logic.equal left right)) (sym c.in-Equal.is)
    (an_equation (raw_term c.in-Equal.left) (raw_term c.in-Equal.right) left right c.in_ok-left-in-Equal.ensures.left c.in_ok-left-in-Equal.ensures.right)

pub returns-in_ok-pattern-in-Match-clause-carried : goal.returns-in_ok-pattern-in-Match-clause-carried
returns-in_ok-pattern-in-Match-clause-carried c =
    let k = c.args.carrier.now in
    let pattern = raw_term c.in_ok-pattern-in-Match.pattern in
    let term = raw_term c.in_ok-pattern-in-Match.term in
    subst (λ f. IsCarriedFragment k.from k.to (fragment_of f) (logic.matches pattern term)) (sym c.in-Match.is)
    (a_match (raw_term c.in-Match.pattern) (raw_term c.in-Match.term) pattern term c.in_ok-pattern-in-Match.ensures.left c.in_ok-pattern-in-Match.ensures.right)

pub returns-in_ok-term-in-HasSort-clause-carried : goal.returns-in_ok-term-in-HasSort-clause-carried
returns-in_ok-term-in-HasSort-clause-carried c =
    let k = c.args.carrier.now in
    let term = raw_term c.in_ok-term-in-HasSort.term in
    let sorted = sorted_of c.sorted-sorted.result in
    subst (λ f. IsCarriedFragment k.from k.to (fragment_of f) (logic.has_sort term sorted)) (sym c.in-HasSort.is)
    (a_test (raw_term c.in-HasSort.term) term (sorted_of c.in-HasSort.sorted) sorted c.in_ok-term-in-HasSort.ensures.carried c.sorted-sorted.ensures)

pub returns-in_ok-term-in-Holds-clause-carried : goal.returns-in_ok-term-in-Holds-clause-carried
returns-in_ok-term-in-Holds-clause-carried c =
    let k = c.args.carrier.now in
    let term = raw_term c.in_ok-term-in-Holds.term in
    subst (λ f. IsCarriedFragment k.from k.to (fragment_of f) (logic.is_true term)) (sym c.in-Holds.is)
    (a_truth (raw_term c.in-Holds.term) term c.in_ok-term-in-Holds.ensures.carried)
