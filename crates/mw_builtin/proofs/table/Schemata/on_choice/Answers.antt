use Rattle.std.proofs.Common.{◌∙◌, subst}
use Rattle.std.specs.Prelude.{Bool, MatchOption}
use Rattle.mw_logic.specs.Module.{IsTruth}
use Rattle.mw_builtin.proofs.Stepping.{three_args, nothing_chosen, chosen_branch}
use Rattle.mw_builtin.proofs.table.Schemata.on_choice.Goals as goal

pub returns-then-args-ne3 : goal.returns-then-args-ne3
returns-then-args-ne3 c sig f q is = absurd (c.if-args-ne3.true (three_args sig c.args.self.now f c.args.args.now q is))

pub returns-in_default : goal.returns-in_default
returns-in_default c sig f q is =
    let t = c.index-args-0.result in
    nothing_chosen sig c.args.self.now f c.args.args.now q is t c.index-args-0.is (subst (λ x. MatchOption x ((b : Bool) → IsTruth sig b t → ⊥) (λ b. IsTruth sig b t)) c.in_default.is (c.truth.ensures sig q.schemata))

pub returns : goal.returns
returns c sig f q is =
    let t = c.index-args-0.result in
    let truth = subst (λ x. MatchOption x ((b : Bool) → IsTruth sig b t → ⊥) (λ b. IsTruth sig b t)) c.in-Some.is (c.truth.ensures sig q.schemata) in
    chosen_branch sig c.args.self.now f c.args.args.now q is c.in-Some.truth t c.index-args-1.result c.index-args-2.result c.index-args-0.is c.index-args-1.is c.index-args-2.is truth c.in_ok-to.to (c.in_ok-to.ensures ∙ c.branch-truth.ensures)
