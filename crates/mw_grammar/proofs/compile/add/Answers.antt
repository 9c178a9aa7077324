use Rattle.std.proofs.Common.{◌∙◌, ◌++◌, ◌∷◌, [], refl, ap}
use Rattle.mw_chart.specs.declared.table.Next.TheVariants.{Whole}
use Rattle.mw_chart.specs.declared.table.Production.{Production}
use Rattle.mw_grammar.specs.Notations.{Notation}
use Rattle.mw_grammar.proofs.Made.{get_grows, Extends-trans}
use Rattle.mw_grammar.proofs.Writing.{adds_production}
use Rattle.mw_grammar.proofs.compile.add.Goals as goal

pub returns : goal.returns
returns c =
    let F : Notation = record { kind = c.args.kind; precedence = c.args.precedence; operator = c.args.operator; parts = c.args.parts.now } in
    let s : Production = record { state = c.in_ok-state.state; operator = F.operator } in
    adds_production c.args.making.now _ c.args.names.now c.lead.new.names s F
    (Extends-trans c.args.making.now.steps.items c.whole.new.making.steps.items c.lead.new.steps.items c.in_ok-last.ensures.steps c.in_ok-state.ensures.steps)
    c.in_ok-state.ensures.names (c.in_ok-push.ensures.items ∙ ap (λ v. v.items ++ s ∷ []) c.in_ok-last.ensures.productions)
    (record {
      operator = refl;
      last = c.in_ok-last.last;
      leads = c.in_ok-state.ensures.leads;
      whole = get_grows c.whole.new.making.steps.items c.lead.new.steps.items c.in_ok-last.last (Whole F.kind F.precedence) c.in_ok-state.ensures.steps c.in_ok-last.ensures.whole;
    })
