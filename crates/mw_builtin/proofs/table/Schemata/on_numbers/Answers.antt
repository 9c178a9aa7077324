use Rattle.std.proofs.Common.{sym, subst}
use Rattle.std.specs.Prelude.{MatchOption}
use Rattle.mw_logic.specs.Term.{apply}
use Rattle.mw_logic.specs.Terms.{terms_of}
use Rattle.mw_builtin.specs.Results.{HasNoPair}
use Rattle.mw_builtin.specs.Places.{IsPairAt}
use Rattle.mw_builtin.specs.Schemata.{on_numbers}
use Rattle.mw_builtin.specs.Steps.{IsStepOf, IsSide}
use Rattle.mw_builtin.specs.declared.schema.Schema.TheVariants.{Number}
use Rattle.mw_builtin.proofs.NoRows.{no_numbers}
use Rattle.mw_builtin.proofs.Stepping.{schema_of, numbers_in_order, number_met}
use Rattle.mw_builtin.proofs.table.Schemata.on_numbers.Goals as goal

pub returns-in_default : goal.returns-in_default
returns-in_default c sig f q is comm =
    let b = on_numbers c.args.operator in
    let found = c.first_pair.ensures sig q.schemata (numbers_in_order sig c.args.self.now f c.args.args.now q b is c.args.comm comm) in
    let none = subst (λ x. MatchOption x (HasNoPair sig b c.args.comm (terms_of c.args.args.now)) (IsPairAt sig b c.args.comm c.args.args.now)) c.in_default.is found in
    no_numbers sig q.accepted f (terms_of c.args.args.now) c.args.operator (schema_of sig c.args.self.now q.schemata f (Number c.args.operator) is) (subst (λ d. HasNoPair sig b d (terms_of c.args.args.now)) comm none)

pub returns : goal.returns
returns c sig f q is comm =
    let b = on_numbers c.args.operator in
    let found = c.first_pair.ensures sig q.schemata (numbers_in_order sig c.args.self.now f c.args.args.now q b is c.args.comm comm) in
    let some = subst (λ x. MatchOption x (HasNoPair sig b c.args.comm (terms_of c.args.args.now)) (IsPairAt sig b c.args.comm c.args.args.now)) c.in-Some.is found in
    subst (IsStepOf sig (IsSide sig f c.args.args.now) (apply f (terms_of c.args.args.now))) (sym c.in_ok-met.ensures) (number_met sig c.args.self.now f c.args.args.now q b is c.args.comm comm c.in-Some.pair some c.in_ok-take.take c.in_ok-take.ensures)
