use Rattle.std.proofs.Common.{sym, subst}
use Rattle.std.proofs.lemmas.Bool.{both_ways}
use Rattle.mw_logic.specs.Terms.{terms_of}
use Rattle.mw_check.specs.Parts.{TakesSeveral}
use Rattle.mw_check.proofs.Taking.{not_taken, is_taken}
use Rattle.mw_check.proofs.parts.taken.Goals as goal

pub returns-then-not-may_be_taken : goal.returns-then-not-may_be_taken
returns-then-not-may_be_taken c =
    not_taken c.args.facts.now c.shows.ensures c.in-Op.operator c.in-Op.args.now c.args.term.now c.in-Op.ensures c.args.numbers.now c.in-Associative.comm c.in-Associative.ensures.1
    (λ h. both_ways _ c.if-not-may_be_taken.true (c.may_be_taken.ensures.1 h))

pub returns : goal.returns
returns c =
    let may = c.may_be_taken.ensures.0 c.if-not-may_be_taken.false in
    subst (TakesSeveral c.args.facts.now c.args.numbers.now c.args.term.now) (sym c.in_ok-part.ensures)
    (is_taken c.args.facts.now c.shows.ensures c.in-Op.operator c.in-Op.args.now c.args.term.now c.in-Op.ensures c.args.numbers.now c.in-Associative.comm c.in-Associative.ensures.1 c.in-Associative.ensures.0 may
    (terms_of c.in_ok-copies.field-0.items) (c.in_ok-copies.ensures may.rise))
