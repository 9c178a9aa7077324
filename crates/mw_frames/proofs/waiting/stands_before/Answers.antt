use Rattle.std.proofs.Common.{◌≡◌, ◌∙◌, true, false, is_gt, subst, ap}
use Rattle.mw_logic.specs.TermOrder.{stands_after}
use Rattle.mw_frames.specs.Jobs.{term_of}
use Rattle.mw_frames.proofs.JobOrder.{test_before, test_behind}
use Rattle.mw_frames.proofs.waiting.stands_before.Goals as goal

pub returns-in-Some-Some-clause-before : goal.returns-in-Some-Some-clause-before
returns-in-Some-Some-clause-before c = λ h sig vs.
    subst (λ t. stands_after t (term_of sig vs c.args.other.now) ≡ false) (c.in-Some-Some.ensures sig vs)
    (subst (λ u. stands_after c.in-Some-Some.own.now u ≡ false) (c.in-Some-Some.ensures' sig vs)
    (test_before c.in-Some-Some.own.now c.in-Some-Some.term.now c.is_gt.result (c.is_gt.ensures ∙ ap is_gt c.compare.ensures) h))

pub returns-in-Some-Some-clause-behind : goal.returns-in-Some-Some-clause-behind
returns-in-Some-Some-clause-behind c = λ h a b sig vs.
    subst (λ t. stands_after t (term_of sig vs c.args.other.now) ≡ true) (c.in-Some-Some.ensures sig vs)
    (subst (λ u. stands_after c.in-Some-Some.own.now u ≡ true) (c.in-Some-Some.ensures' sig vs)
    (test_behind c.in-Some-Some.own.now c.in-Some-Some.term.now c.is_gt.result (c.is_gt.ensures ∙ ap is_gt c.compare.ensures) h))

pub returns-in_default-clause-behind : goal.returns-in_default-clause-behind
returns-in_default-clause-behind c = λ h a b sig vs. absurd (c.in_default.ensures' b)

pub returns-in_default-2-clause-behind : goal.returns-in_default-2-clause-behind
returns-in_default-2-clause-behind c = λ h a b sig vs. absurd (c.in_default.ensures a)
