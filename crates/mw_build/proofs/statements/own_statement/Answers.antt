use Rattle.std.proofs.Common.{◌∙◌, Option, ap, subst, sym}
use Rattle.std.specs.Prelude.{option_map, IfOk, MatchResult}
use denote.Ref.{Bor}
use Rattle.mw_logic.specs.Module.{Statement}
use Rattle.mw_omod.specs.declared.classes.Classes.{Classes}
use Rattle.mw_build.specs.Statements.{IsOwn, OwnFault}
use Rattle.mw_build.proofs.Owned.{own_rule_so, own_equation_so, own_statement_so}
use Rattle.mw_build.proofs.statements.own_statement.Goals as goal

pub returns-then-statement : goal.returns-then-statement
returns-then-statement c =
    let sig = c.args.reader.facts.now in
    let e = c.args.statement in
    subst (λ (o : Option (Bor Classes)). IfOk c.object_rule.result (λ r. MatchResult r (IsOwn sig (option_map (λ (K : Bor Classes). K.now) o) e) (λ kind. OwnFault sig (option_map (λ (K : Bor Classes). K.now) o) e kind)))
    (sym c.in-Some.is) (own_rule_so sig c.in-Some.classes.now e (ap (λ (s : Statement). s.rule) (sym c.statement.view_is) ∙ c.if-statement.true) c.object_rule.result c.object_rule.ensures)

pub returns-else-statement : goal.returns-else-statement
returns-else-statement c =
    let sig = c.args.reader.facts.now in
    let e = c.args.statement in
    subst (λ (o : Option (Bor Classes)). IfOk c.checked.result (λ r. MatchResult r (IsOwn sig (option_map (λ (K : Bor Classes). K.now) o) e) (λ kind. OwnFault sig (option_map (λ (K : Bor Classes). K.now) o) e kind)))
    (sym c.in-Some.is) (own_equation_so sig c.in-Some.classes.now e (ap (λ (s : Statement). s.rule) (sym c.statement.view_is) ∙ c.if-statement.false) c.checked.result c.checked.ensures)

pub returns-in-None : goal.returns-in-None
returns-in-None c =
    let sig = c.args.reader.facts.now in
    let e = c.args.statement in
    subst (λ (o : Option (Bor Classes)). IfOk c.checked-in-None.result (λ r. MatchResult r (IsOwn sig (option_map (λ (K : Bor Classes). K.now) o) e) (λ kind. OwnFault sig (option_map (λ (K : Bor Classes). K.now) o) e kind)))
    (sym c.in-None.is) (own_statement_so sig e c.checked-in-None.result c.checked-in-None.ensures)
