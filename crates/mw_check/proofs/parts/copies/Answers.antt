use Rattle.std.proofs.Common.{◌∙◌, ◌++◌, ◌∷◌, [], ap, sym}
use Rattle.mw_check.proofs.Chosen.{chosen_more, none_missing}
use Rattle.mw_check.proofs.parts.copies.Goals as goal
use Rattle.mw_check.proofs.parts.copies.Goals.{in-Some+in_ok-copy+in_ok-push, in_default}

pub loop-number-preserved : goal.loop-number-preserved
loop-number-preserved c = λ h.
    let args = c.args.args.now in
    let ks = c.args.numbers.now in
    let i = c.loop-number.number-index in
    let part = c.loop-number.part.items in
    elim c.match-numbered.branch [
      | in-Some+in_ok-copy+in_ok-push w ↦ chosen_more args part c.match-numbered.part.items ks i w.in-Some.arg.now h c.loop-number-test.true (sym w.in-Some.ensures)
          (ap (λ v. v.items) w.part-is ∙ w.in_ok-push.ensures.items ∙ ap (λ t. part ++ t ∷ []) w.in_ok-copy.ensures) (c.loop-number.invariant h)
      | in_default w ↦ absurd (none_missing args ks i h c.loop-number-test.true (sym w.in_default.ensures))
    ]
