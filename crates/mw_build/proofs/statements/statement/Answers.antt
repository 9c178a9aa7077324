use Rattle.std.proofs.Common.{Result, MatchResult, subst}
use Rattle.mw_term.specs.declared.raw.Raw.{Raw}
use Rattle.mw_term.specs.Raws.{raw_term}
use Rattle.mw_module.specs.declared.faults.FaultKind.{FaultKind}
use Rattle.mw_module.specs.Words.{texts}
use Rattle.mw_text.proofs.RawTerms.{spelled_raw}
use Rattle.mw_text.specs.Readings.{ReadsPair}
use Rattle.mw_build.specs.Fragments.{PairFault}
use Rattle.mw_build.specs.Statements.{bad_sides}
use Rattle.mw_build.proofs.statements.statement.Goals as goal

pub with_condition-requires-clause-left : goal.with_condition-requires-clause-left
with_condition-requires-clause-left c =
    let (variables, grammar) = c.requires.grammar in
    let e = c.args.written.now in
    let read : ReadsPair c.args.reader.facts.now variables (texts e.left.now) (texts e.right.now) (raw_term c.in-Ok.left, raw_term c.in-Ok.right) =
    subst (λ (r : Result (Raw × Raw) FaultKind). MatchResult r (λ p. ReadsPair c.args.reader.facts.now variables (texts e.left.now) (texts e.right.now) (raw_term p.0, raw_term p.1))
    (PairFault c.args.reader.facts.now variables (texts e.left.now) (texts e.right.now))) c.in-Ok.is (c.in_ok-left.ensures c.args.reader.facts.now variables grammar) in
    spelled_raw c.args.reader.facts.now c.shows.ensures variables read.only.0.first.spells

pub with_condition-requires-clause-right : goal.with_condition-requires-clause-right
with_condition-requires-clause-right c =
    let (variables, grammar) = c.requires.grammar in
    let e = c.args.written.now in
    let read : ReadsPair c.args.reader.facts.now variables (texts e.left.now) (texts e.right.now) (raw_term c.in-Ok.left, raw_term c.in-Ok.right) =
    subst (λ (r : Result (Raw × Raw) FaultKind). MatchResult r (λ p. ReadsPair c.args.reader.facts.now variables (texts e.left.now) (texts e.right.now) (raw_term p.0, raw_term p.1))
    (PairFault c.args.reader.facts.now variables (texts e.left.now) (texts e.right.now))) c.in-Ok.is (c.in_ok-left.ensures c.args.reader.facts.now variables grammar) in
    spelled_raw c.args.reader.facts.now c.shows.ensures variables read.only.0.second.spells

pub returns-in-Ok : goal.returns-in-Ok
returns-in-Ok c = λ variables grammar.
    let e = c.args.written.now in
    c.with_condition.ensures variables grammar
    (subst (λ (r : Result (Raw × Raw) FaultKind). MatchResult r (λ p. ReadsPair c.args.reader.facts.now variables (texts e.left.now) (texts e.right.now) (raw_term p.0, raw_term p.1))
    (PairFault c.args.reader.facts.now variables (texts e.left.now) (texts e.right.now))) c.in-Ok.is (c.in_ok-left.ensures c.args.reader.facts.now variables grammar))

pub returns-in-Err : goal.returns-in-Err
returns-in-Err c = λ variables grammar.
    let e = c.args.written.now in
    bad_sides
    (subst (λ (r : Result (Raw × Raw) FaultKind). MatchResult r (λ p. ReadsPair c.args.reader.facts.now variables (texts e.left.now) (texts e.right.now) (raw_term p.0, raw_term p.1))
    (PairFault c.args.reader.facts.now variables (texts e.left.now) (texts e.right.now))) c.in-Err.is (c.in_ok-left.ensures c.args.reader.facts.now variables grammar))
