use Rattle.std.proofs.Common.{◌+◌, take, subst, sym, refl, [], MatchResult}
use Rattle.std.proofs.lemmas.List.{take_all, append-nil}
use Rattle.std.specs.Prelude.{option_map}
use denote.Ref.{Bor}
use Rattle.mw_omod.specs.declared.classes.Classes.{Classes}
use Rattle.mw_build.specs.Sides.{seen_sides, all_seen_sides}
use Rattle.mw_build.specs.Pairwise.{IsFirstWrong}
use Rattle.mw_build.specs.Statements.{IsReadAs, StatementFault, AreReadAs, HasFault}
use Rattle.mw_build.proofs.Pairwise.{related_more, wrong_at}
use Rattle.mw_build.proofs.statements.statements_of.Goals as goal

pub returns-in-Err : goal.returns-in-Err
returns-in-Err c = λ variables grammar.
    let sig = c.args.reader.facts.now in
    let objects = option_map (λ (K : Bor Classes). K.now) c.args.reader.classes in
    let e = c.written-item.result in
    let wrong : StatementFault sig variables objects (seen_sides e) c.in-Err.kind =
    subst (λ r. MatchResult r (IsReadAs sig variables objects (seen_sides e)) (λ kind. StatementFault sig variables objects (seen_sides e) kind)) c.in-Err.is (c.in_ok-statement.ensures variables grammar) in
    let W = HasFault sig variables objects (record { line = e.line; kind = c.in-Err.kind }) in
    subst (IsFirstWrong (IsReadAs sig variables objects) W) (append-nil (all_seen_sides c.args.statements.now))
    (wrong_at (IsReadAs sig variables objects) seen_sides [] c.args.statements.now c.loop-written.written-index e c.loop-written-test.true c.written-item.is W [] c.loop-written.found.items
    (c.loop-written.invariant variables grammar) (wrong, refl))

pub loop-written-preserved : goal.loop-written-preserved
loop-written-preserved c = λ variables grammar.
    let sig = c.args.reader.facts.now in
    let objects = option_map (λ (K : Bor Classes). K.now) c.args.reader.classes in
    let e = c.written-item.result in
    let right : IsReadAs sig variables objects (seen_sides e) c.in-Ok.statement =
    subst (λ r. MatchResult r (IsReadAs sig variables objects (seen_sides e)) (λ kind. StatementFault sig variables objects (seen_sides e) kind)) c.in-Ok.is (c.in_ok-statement.ensures variables grammar) in
    subst (AreReadAs sig variables objects (all_seen_sides (take (c.loop-written.written-index + 1) c.args.statements.now))) (sym c.in_ok-push-in-Ok.ensures.items)
    (related_more (IsReadAs sig variables objects) seen_sides [] c.args.statements.now c.loop-written.written-index e c.loop-written-test.true c.written-item.is
    c.loop-written.found.items c.in-Ok.statement (c.loop-written.invariant variables grammar) right)

pub returns : goal.returns
returns c = λ variables grammar.
    let sig = c.args.reader.facts.now in
    let objects = option_map (λ (K : Bor Classes). K.now) c.args.reader.classes in
    let whole = take_all c.loop-written.written-index c.args.statements.now c.loop-written-test.false in
    subst (λ es. AreReadAs sig variables objects (all_seen_sides es) c.loop-written.found.items) whole (c.loop-written.invariant variables grammar)
