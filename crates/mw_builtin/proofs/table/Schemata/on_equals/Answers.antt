use Rattle.std.proofs.Common.{sym, subst}
use Rattle.mw_logic.specs.Term.{apply}
use Rattle.mw_logic.specs.Terms.{terms_of}
use Rattle.mw_builtin.specs.Schemata.{IsConstantFor, IsNamedTruth}
use Rattle.mw_builtin.specs.Steps.{IsStepOf, IsSide}
use Rattle.mw_builtin.proofs.Stepping.{two_or_more, truth_there, test_met}
use Rattle.mw_builtin.proofs.table.Schemata.on_equals.Goals as goal

pub returns-in_default : goal.returns-in_default
returns-in_default c sig f q is = two_or_more sig c.args.self.now f c.args.args.now q c.args.where_same is c.in_default.len_below

pub returns-in_default-constant : goal.returns-in_default-constant
returns-in_default-constant c sig f q is = truth_there sig c.args.self.now f c.args.args.now q c.args.where_same is c.tested-truth.result (subst (IsConstantFor sig c.tested-truth.result) c.in_default-constant.is (c.constant.ensures sig q.schemata))

pub returns : goal.returns
returns c sig f q is =
    let named = subst (IsConstantFor sig c.tested-truth.result) c.in-Some.is (c.constant.ensures sig q.schemata) in
    subst (IsStepOf sig (IsSide sig f c.args.args.now) (apply f (terms_of c.args.args.now))) (sym c.in_ok-met.ensures)
    (test_met sig c.args.self.now f c.args.args.now q c.args.where_same is c.first-item.result c.second-item.result c.in-len2-up.len_at_least c.first-item.is c.second-item.is c.in_ok-take.take c.in_ok-take.ensures c.same.result c.same.ensures c.in-Some.constant
    (subst (λ b. IsNamedTruth sig b c.in-Some.constant) c.tested-truth.ensures named))
