use Rattle.std.proofs.Common.{map, Result, MatchResult, subst, sym}
use Rattle.std.specs.Prelude.{option_map, IfOk}
use Rattle.std.specs.Global.{Vec}
use denote.Ref.{Bor}
use Rattle.mw_logic.specs.Signature.{IsRawTerm}
use Rattle.mw_logic.specs.Module as logic
use Rattle.mw_term.specs.Raws.{raw_term}
use Rattle.mw_term.specs.Statements.{fragment_of}
use Rattle.mw_term.specs.declared.statement.Fragment.{Fragment}
use Rattle.mw_least.specs.Conditions.{AreRawFragments}
use Rattle.mw_module.specs.declared.faults.FaultKind.{FaultKind}
use Rattle.mw_module.specs.Conditions.{seen_fragments}
use Rattle.mw_omod.specs.declared.classes.Classes.{Classes}
use Rattle.mw_build.specs.Fragments.{AreFragments, FirstFragmentFault}
use Rattle.mw_build.specs.Sides.{seen_sides}
use Rattle.mw_build.specs.Statements.{bad_fragment, IsOwn, OwnFault}
use Rattle.mw_build.proofs.FragmentTerms.{fragments_raw}
use Rattle.mw_build.proofs.Reading.{of_terms}
use Rattle.mw_build.proofs.statements.with_condition.Goals as goal

pub own_statement-requires-clause-left : goal.own_statement-requires-clause-left
own_statement-requires-clause-left c = subst (λ (s : logic.Statement). IsRawTerm c.args.reader.facts.now s.left) (sym c.in_ok-statement-in-Ok.ensures) c.requires.left

pub own_statement-requires-clause-right : goal.own_statement-requires-clause-right
own_statement-requires-clause-right c = subst (λ (s : logic.Statement). IsRawTerm c.args.reader.facts.now s.right) (sym c.in_ok-statement-in-Ok.ensures) c.requires.right

pub own_statement-requires-clause-fragments : goal.own_statement-requires-clause-fragments
own_statement-requires-clause-fragments c =
    let (variables, grammar) = c.requires.grammar in
    let sig = c.args.reader.facts.now in
    let ws = seen_fragments c.args.written.now.fragments.now in
    let are : AreFragments sig variables ws (map fragment_of c.in-Ok.fragments.items) =
    subst (λ (r : Result (Vec Fragment) FaultKind). MatchResult r (λ fs. AreFragments sig variables ws (map fragment_of fs.items)) (FirstFragmentFault sig variables ws)) c.in-Ok.is
    (c.in_ok-fragments.ensures sig variables grammar) in
    subst (λ (s : logic.Statement). AreRawFragments sig s.fragments) (sym c.in_ok-statement-in-Ok.ensures) (fragments_raw sig c.shows.ensures variables ws (map fragment_of c.in-Ok.fragments.items) are)

pub returns-in_ok-statement-in-Ok : goal.returns-in_ok-statement-in-Ok
returns-in_ok-statement-in-Ok c = λ variables grammar read.
    let sig = c.args.reader.facts.now in
    let objects = option_map (λ (K : Bor Classes). K.now) c.args.reader.classes in
    let ws = seen_fragments c.args.written.now.fragments.now in
    let are : AreFragments sig variables ws (map fragment_of c.in-Ok.fragments.items) =
    subst (λ (r : Result (Vec Fragment) FaultKind). MatchResult r (λ fs. AreFragments sig variables ws (map fragment_of fs.items)) (FirstFragmentFault sig variables ws)) c.in-Ok.is
    (c.in_ok-fragments.ensures sig variables grammar) in
    of_terms sig variables objects (seen_sides c.args.written.now) (raw_term c.args.left) (raw_term c.args.right) (map fragment_of c.in-Ok.fragments.items) read are c.own_statement.result
    (subst (λ (s : logic.Statement). IfOk c.own_statement.result (λ r. MatchResult r (IsOwn sig objects s) (λ kind. OwnFault sig objects s kind))) c.in_ok-statement-in-Ok.ensures c.own_statement.ensures)

pub returns-in-Err : goal.returns-in-Err
returns-in-Err c = λ variables grammar read.
    let sig = c.args.reader.facts.now in
    let ws = seen_fragments c.args.written.now.fragments.now in
    bad_fragment (raw_term c.args.left) (raw_term c.args.right) read
    (subst (λ (r : Result (Vec Fragment) FaultKind). MatchResult r (λ fs. AreFragments sig variables ws (map fragment_of fs.items)) (FirstFragmentFault sig variables ws)) c.in-Err.is
    (c.in_ok-fragments.ensures sig variables grammar))
