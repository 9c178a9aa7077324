use Rattle.std.proofs.Common.{◌≡◌, IfOk, MatchResult, Bool, map, ap, subst}
use Rattle.mw_logic.specs.Signature.{Signature}
use Rattle.mw_logic.specs.Module.{Statement}
use Rattle.mw_term.specs.Raws.{raw_term}
use Rattle.mw_term.specs.Statements.{fragment_of}
use Rattle.mw_carry.specs.Carried.{IsCarried, AreCarriedFragments}
use Rattle.mw_carry.proofs.Kept.{IsRawTerm-carried}
use Rattle.mw_build.specs.Statements.{IsStatementOf, TermsFault}
use Rattle.mw_build.proofs.FragmentTerms.{raws_carried}
use Rattle.mw_build.proofs.Imported.{of_carried}
use Rattle.mw_build.proofs.carrying.statement.Goals as goal

pub statement_of-requires-clause-left : goal.statement_of-requires-clause-left
statement_of-requires-clause-left c =
    let from = c.args.carrier.now.from in
    let carried : IsCarried from c.args.facts.now c.args.statement.now.left (raw_term c.in_ok-left.field-0.left) =
    subst (λ (S : Signature). IsCarried from S c.args.statement.now.left (raw_term c.in_ok-left.field-0.left)) c.requires.to c.in_ok-left.ensures.left in
    IsRawTerm-carried from c.args.facts.now c.requires.part c.requires.numbers c.shows.ensures carried c.requires.sides.left

pub statement_of-requires-clause-right : goal.statement_of-requires-clause-right
statement_of-requires-clause-right c =
    let from = c.args.carrier.now.from in
    let carried : IsCarried from c.args.facts.now c.args.statement.now.right (raw_term c.in_ok-left.field-0.right) =
    subst (λ (S : Signature). IsCarried from S c.args.statement.now.right (raw_term c.in_ok-left.field-0.right)) c.requires.to c.in_ok-left.ensures.right in
    IsRawTerm-carried from c.args.facts.now c.requires.part c.requires.numbers c.shows.ensures carried c.requires.sides.right

pub statement_of-requires-clause-fragments : goal.statement_of-requires-clause-fragments
statement_of-requires-clause-fragments c =
    let from = c.args.carrier.now.from in
    let C = map fragment_of c.in_ok-left.field-0.fragments.items in
    let carried : AreCarriedFragments from c.args.facts.now c.args.statement.now.fragments C =
    subst (λ (S : Signature). AreCarriedFragments from S c.args.statement.now.fragments C) c.requires.to c.in_ok-left.ensures.fragments in
    raws_carried from c.args.facts.now c.requires.part c.requires.numbers c.shows.ensures c.args.statement.now.fragments C carried c.requires.sides.fragments

pub returns-clause-imported : goal.returns-clause-imported
returns-clause-imported c =
    let from = c.args.carrier.now.from in
    let sig = c.args.facts.now in
    let st = c.args.statement.now in
    let left = raw_term c.in_ok-left.field-0.left in
    let right = raw_term c.in_ok-left.field-0.right in
    let C = map fragment_of c.in_ok-left.field-0.fragments.items in
    let rule : c.statement.inside.rule ≡ st.rule = ap (λ (s : Statement). s.rule) c.statement.view_is in
    let executable : c.statement.inside.executable ≡ st.executable = ap (λ (s : Statement). s.executable) c.statement.view_is in
    of_carried from sig c.requires.part c.requires.numbers c.shows.ensures st c.requires.sides c.requires.ordinary left right C
    (subst (λ (S : Signature). IsCarried from S st.left left) c.requires.to c.in_ok-left.ensures.left)
    (subst (λ (S : Signature). IsCarried from S st.right right) c.requires.to c.in_ok-left.ensures.right)
    (subst (λ (S : Signature). AreCarriedFragments from S st.fragments C) c.requires.to c.in_ok-left.ensures.fragments) c.statement_of.result
    (subst (λ (b : Bool). IfOk c.statement_of.result (λ r. MatchResult r (IsStatementOf sig left right C st.rule b) (λ kind. TermsFault sig left right C b kind))) executable
    (subst (λ (b : Bool). IfOk c.statement_of.result (λ r. MatchResult r (IsStatementOf sig left right C b c.statement.inside.executable) (λ kind. TermsFault sig left right C c.statement.inside.executable kind))) rule
    c.statement_of.ensures))
