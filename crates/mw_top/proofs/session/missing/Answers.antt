use Rattle.std.proofs.Common.{◌∙◌, sym, ap, subst, option_map}
use Rattle.std.specs.Borrow.{Bor}
use Rattle.mw_lex.specs.declared.token.Token.{Token}
use Rattle.mw_module.specs.declared.faults.FaultKind.TheVariants.{UnknownModule}
use Rattle.mw_command.specs.Commands.{seen_command}
use Rattle.mw_top.specs.Commands.{CommandFault, nowhere, unknown}
use Rattle.mw_top.proofs.session.missing.Goals as goal

pub returns-in_ok-to_vec-in-Some : goal.returns-in_ok-to_vec-in-Some
returns-in_ok-to_vec-in-Some c = λ ms none.
    subst (λ n. CommandFault ms (seen_command c.args.command.now) (UnknownModule n)) (sym (c.of-name.ensures ∙ c.in_ok-to_vec-in-Some.ensures.items_if_clones_equal (λ x y e. e) ∙ c.as_slice.ensures))
    (unknown _ (ap (option_map (λ (t : Bor Token). t.now.text)) c.in-Some.is) none)

pub returns-in-None : goal.returns-in-None
returns-in-None c = λ ms none. nowhere (ap (option_map (λ (t : Bor Token). t.now.text)) c.in-None.is) none
