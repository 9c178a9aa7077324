use Rattle.std.proofs.Common.{◌≡◌, ◌∙◌, subst, sym}
use Rattle.std.proofs.lemmas.Result.{IfOk-weaker}
use Rattle.mw_logic.specs.Parts.{nested}
use Rattle.mw_logic.specs.NormalForm.{normal_form}
use Rattle.mw_redex.proofs.Flags.{admitted_small}
use Rattle.mw_redex.proofs.Kept.{replaced_canonical}
use Rattle.mw_redex.proofs.replacing.replace.Goals as goal

pub replaced-requires-clause-term : goal.replaced-requires-clause-term
replaced-requires-clause-term c = admitted_small c.args.facts.now c.shows.ensures c.args.term.now c.requires.term

pub replaced-requires-clause-with : goal.replaced-requires-clause-with
replaced-requires-clause-with c = admitted_small c.args.facts.now c.shows.ensures c.args.with c.requires.with

pub returns-clause-canonical : goal.returns-clause-canonical
returns-clause-canonical c =
    IfOk-weaker c.limited.result _ _
    (λ t e. subst (λ u. normal_form c.args.facts.now (nested c.args.facts.now u) ≡ u) (sym (e ∙ c.in_ok-replaced.ensures.is))
    (replaced_canonical c.args.facts.now c.shows.ensures c.as_slice-path.result.now c.args.place.now.take c.args.with c.args.term.now c.requires.with c.requires.term))
    c.limited.ensures.is
