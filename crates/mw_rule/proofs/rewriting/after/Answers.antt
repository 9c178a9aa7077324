use Rattle.std.proofs.Common.{sym, subst}
use Rattle.mw_rule.specs.Stepped.{IsStepped}
use Rattle.mw_rule.proofs.Ended.{ends_deep, ends_large}
use Rattle.mw_rule.proofs.rewriting.after.Goals as goal

pub returns-in-Goes : goal.returns-in-Goes
returns-in-Goes c = λ K k side old new t rank e fired same. (rw c.in-Goes.is at fired)

pub returns-in-TooDeep : goal.returns-in-TooDeep
returns-in-TooDeep c = λ K k side old new t rank e fired same.
    let is = rw c.in-TooDeep.is at fired in
    subst (IsStepped K k side new) (sym c.ended.ensures) (ends_deep K rank k side old new t c.in-TooDeep.whole e is.0 (rw c.in-TooDeep.is at same) is.1)

pub returns-in-TooLarge : goal.returns-in-TooLarge
returns-in-TooLarge c = λ K k side old new t rank e fired same.
    let is = rw c.in-TooLarge.is at fired in
    subst (IsStepped K k side new) (sym c.ended-in-TooLarge.ensures) (ends_large K rank k side old new t c.in-TooLarge.whole e is.0 (rw c.in-TooLarge.is at same) is.1)
