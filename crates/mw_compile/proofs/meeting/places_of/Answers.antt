use Rattle.std.proofs.Common.{◌≡◌, ◌∙◌, List, ap, subst, sym}
use Rattle.std.proofs.lemmas.List.{take_all, length-map}
use Rattle.std.proofs.Common.{arith}
use Rattle.mw_logic.specs.Term.{variable}
use Rattle.mw_position.specs.Variables.{AreDistinct, bound_variables, met}
use Rattle.mw_term.specs.declared.subst.Binding.{Binding}
use Rattle.mw_compile.proofs.ByPosition.{variables_in, bound_in, met_pair}
use Rattle.mw_compile.proofs.meeting.places_of.Goals as goal

pub loop-pair-preserved : goal.loop-pair-preserved
loop-pair-preserved c =
    let bs : List Binding = c.as_slice-pair-items.result.now in
    let e : variables_in bs ≡ bound_variables c.args.given.now =
    ap variables_in c.as_slice-pair-items.ensures ∙ sym (bound_in c.given.inside.pairs) ∙ ap bound_variables c.given.view_is in
    c.in_ok-meet.ensures.ok ∙ ap (λ xs. met xs (variable c.pair-item.result.variable)) c.loop-pair.invariant ∙ met_pair bs c.loop-pair.pair-index c.pair-item.result c.loop-pair-test.true c.pair-item.is (subst AreDistinct (sym e) c.requires)

pub returns : goal.returns
returns c =
    let bs : List Binding = c.as_slice-pair-items.result.now in
    let e : variables_in bs ≡ bound_variables c.args.given.now =
    ap variables_in c.as_slice-pair-items.ensures ∙ sym (bound_in c.given.inside.pairs) ∙ ap bound_variables c.given.view_is in
    let n = length-map bs (λ (b : Binding). b.variable) in
    let l = c.loop-pair-test.false in
    c.loop-pair.invariant ∙ take_all c.loop-pair.pair-index (variables_in bs) (omega (arith, n, l)) ∙ e
