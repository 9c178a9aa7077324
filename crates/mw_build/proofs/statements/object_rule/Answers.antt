use Rattle.std.proofs.Common.{Result, subst}
use Rattle.std.specs.Prelude.{IfOk, IfErr}
use Rattle.mw_logic.specs.Module.{Statement}
use Rattle.mw_omod.specs.declared.CompletionError.{CompletionError}
use Rattle.mw_omod.specs.Causes.{HasCause}
use Rattle.mw_omod.specs.Completion.{IsCompletion, IsBad}
use Rattle.mw_build.proofs.Owned.{completed_left, completed_right, rule_so, told_so}
use Rattle.mw_build.proofs.statements.object_rule.Goals as goal

pub checked-requires-clause-left : goal.checked-requires-clause-left
checked-requires-clause-left c =
    completed_left c.args.facts.now c.shows.ensures c.args.classes.now c.requires.classes c.args.rule c.in-Ok.completed
    (subst (λ (r : Result Statement CompletionError). IfOk r (IsCompletion c.args.facts.now c.args.classes.now c.args.rule)) c.in-Ok.is c.complete.ensures.completed) c.requires.left c.requires.right

pub checked-requires-clause-right : goal.checked-requires-clause-right
checked-requires-clause-right c =
    completed_right c.args.facts.now c.shows.ensures c.args.classes.now c.requires.classes c.args.rule c.in-Ok.completed
    (subst (λ (r : Result Statement CompletionError). IfOk r (IsCompletion c.args.facts.now c.args.classes.now c.args.rule)) c.in-Ok.is c.complete.ensures.completed) c.requires.left c.requires.right

pub returns-in-Ok : goal.returns-in-Ok
returns-in-Ok c =
    rule_so c.args.facts.now c.args.classes.now c.args.rule c.in-Ok.completed
    (subst (λ (r : Result Statement CompletionError). IfOk r (IsCompletion c.args.facts.now c.args.classes.now c.args.rule)) c.in-Ok.is c.complete.ensures.completed)
    c.checked.result c.checked.ensures

pub returns-in-Err-BadObject : goal.returns-in-Err-BadObject
returns-in-Err-BadObject c =
    told_so c.args.facts.now c.args.classes.now c.args.rule
    (subst (HasCause (IsBad c.args.facts.now c.args.classes.now c.args.rule.left c.args.rule.right)) c.in-Err-BadObject.field-0-is
    (subst (λ (r : Result Statement CompletionError). IfErr r (HasCause (IsBad c.args.facts.now c.args.classes.now c.args.rule.left c.args.rule.right))) c.in-Err-BadObject.is c.complete.ensures.cause))
    c.in_ok-fault.fault c.told.result c.in_ok-fault.ensures c.told.ensures
