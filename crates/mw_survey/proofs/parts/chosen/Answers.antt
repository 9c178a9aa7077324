use Rattle.std.proofs.Common.{◌∙◌, ◌++◌, ◌∷◌, [], ap, sym}
use Rattle.mw_survey.proofs.Numbers.{chosen_more, none_missing}
use Rattle.mw_survey.proofs.parts.chosen.Goals as goal
use Rattle.mw_survey.proofs.parts.chosen.Goals.{in-Some+in_ok-copy+in_ok-push, in_default}

pub loop-number-preserved : goal.loop-number-preserved
loop-number-preserved c =
    let h = c.requires in
    let args = c.args.args.now in
    let ks = c.args.numbers.now in
    let i = c.loop-number.number-index in
    let part = c.loop-number.made.items in
    elim c.match-numbered.branch [
      | in-Some+in_ok-copy+in_ok-push w ↦ chosen_more args part c.match-numbered.made.items ks i w.in-Some.arg.now h c.loop-number-test.true (sym w.in-Some.ensures)
          (ap (λ v. v.items) w.made-is ∙ w.in_ok-push.ensures.items ∙ ap (λ t. part ++ t ∷ []) w.in_ok-copy.ensures) c.loop-number.invariant
      | in_default w ↦ absurd (none_missing args ks i h c.loop-number-test.true (sym w.in_default.ensures))
    ]
