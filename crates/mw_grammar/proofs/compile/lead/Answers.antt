use Rattle.std.proofs.Common.{ℕ, ◌≡◌, ◌∙◌, ◌-◌, ◌+◌, List, [], ◌∷◌, length, drop, sym, ap, subst, arith}
use Rattle.std.proofs.lemmas.Grind.{common_steps}
use Rattle.mw_chart.proofs.Lists.{get_item}
use Rattle.mw_grammar.specs.declared.parts.Symbol.{Symbol}
use Rattle.mw_grammar.specs.Compiled.{Leads, there}
use Rattle.mw_grammar.proofs.ItemByItem.{drop-got}
use Rattle.mw_grammar.proofs.Made.{leads_grow, Extends-same, Extends-trans}
use Rattle.mw_grammar.proofs.compile.lead.Goals as goal

pub loop-left-init : goal.loop-left-init
loop-left-init c =
    let none : drop (length c.args.parts.now) c.args.parts.now ≡ [] = grind (arith, common_steps) in
    record {
      within = omega arith;
      steps = Extends-same c.args.steps.now.items;
      names = Extends-same c.args.names.now;
      leads = subst (λ (ps : List Symbol). Leads c.args.steps.now.items c.args.names.now c.args.last ps c.args.last) (sym none) (there c.args.last);
    }

pub loop-left-preserved : goal.loop-left-preserved
loop-left-preserved c =
    let i = c.loop-left.left - 1 in
    let part = c.index-parts-left.result in
    let next : i + 1 ≡ c.loop-left.left = omega arith in
    let got = get_item c.args.parts.now i part (omega arith) c.index-parts-left.is in
    let rest : drop i c.args.parts.now ≡ part ∷ drop c.loop-left.left c.args.parts.now = drop-got c.args.parts.now i part got ∙ ap (λ (m : ℕ). part ∷ drop m c.args.parts.now) next in
    let grown = leads_grow c.loop-left.steps.items c.push_step.new.steps.items c.loop-left.names c.push_step.new.names c.loop-left.state c.args.last (drop c.loop-left.left c.args.parts.now)
    c.in_ok-state.ensures.steps c.in_ok-state.ensures.names c.loop-left.invariant.leads in
    let led = c.in_ok-state.ensures.leads (drop c.loop-left.left c.args.parts.now) c.args.last grown in
    record {
      within = omega arith;
      steps = Extends-trans c.args.steps.now.items c.loop-left.steps.items c.push_step.new.steps.items c.loop-left.invariant.steps c.in_ok-state.ensures.steps;
      names = Extends-trans c.args.names.now c.loop-left.names c.push_step.new.names c.loop-left.invariant.names c.in_ok-state.ensures.names;
      leads = subst (λ (ps : List Symbol). Leads c.push_step.new.steps.items c.push_step.new.names c.in_ok-state.state ps c.args.last) (sym rest) led;
    }
