use Rattle.std.specs.Prelude.{◌≡◌, [], Some}
use Rattle.std.specs.List.{zip}
use Rattle.std.proofs.Common.{ap, ◌∙◌}
use Rattle.mw_match.specs.Levels.{taken_by}
use Rattle.mw_match.proofs.NextPicks.{handed_out}
use Rattle.mw_match.proofs.levels.Levels.hand_out.Goals as goal

pub returns-clause-ok : goal.returns-clause-ok
returns-clause-ok c =
    let s = c.args.self.now in
    let xs = c.as_slice-variables.result.now in
    let us = c.in-Some.values in
    let subst_is : c.in_ok-subst.subst ≡ zip s.compiled.now.variables us = c.in_ok-subst.ensures ∙ ap (zip xs) c.as_slice-2.ensures ∙ ap (λ ys. zip ys us) c.as_slice-variables.ensures in
    let take_is = ap (λ ks. Some ks) (c.in_ok-take.ensures ∙ ap (taken_by []) c.as_slice.ensures.value) in
    handed_out s us (record { subst = c.in_ok-subst.subst; take = Some c.in_ok-take.take }) c.in-Some.is c.requires.whole subst_is take_is
