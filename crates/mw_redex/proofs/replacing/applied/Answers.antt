use Rattle.std.proofs.Common.{◌∙◌, ap, sym}
use Rattle.mw_logic.specs.NormalForm.{has_largest}
use Rattle.mw_logic.specs.Terms.{terms_of}
use Rattle.mw_redex.specs.Largest.{counts_past}
use Rattle.mw_redex.proofs.Flags.{applied_largest, flag_up, flag_put}
use Rattle.mw_redex.proofs.replacing.applied.Goals as goal
use Rattle.mw_redex.proofs.replacing.applied.Goals.{then-large, else-large}

pub returns-clause-large : goal.returns-clause-large
returns-clause-large c =
    let law = applied_largest c.args.facts.now c.shows.ensures c.args.operator (terms_of c.args.args.items) c.axioms-axioms.result c.axioms-axioms.ensures in
    elim c.if-large.branch [
      | then-large w ↦ flag_up c.args.large.now c.if-large.large _ _ c.requires w.if-large.true (w.large-is ∙ w.if-large.true)
      | else-large w ↦ flag_put c.args.large.now c.if-large.large _ _ c.requires w.if-large.false (w.large-is ∙ w.counts_past.ensures ∙ ap (λ ts. counts_past c.axioms-axioms.result (terms_of ts)) w.as_slice.ensures.value)
    ] ∙ sym (ap (has_largest c.args.facts.now) c.in_ok-term.ensures ∙ law)
