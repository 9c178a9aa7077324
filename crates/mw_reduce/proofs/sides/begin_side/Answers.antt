use Rattle.std.proofs.Common.{sym, subst, ◌∙◌}
use Rattle.mw_reduce.proofs.SideRuns.{side_begins, side_deep, side_large}
use Rattle.mw_reduce.proofs.sides.begin_side.Goals as goal

pub returns-in_ok-running-in-Ok : goal.returns-in_ok-running-in-Ok
returns-in_ok-running-in-Ok c = λ M xs t work facts asked is bound.
    let e = c.in-Ok.ensures.term in
    let begins = side_begins M work xs c.args.values.now bound t asked c.args.side.now is c.in-Ok.term (rw facts at e) c.in-Ok.ensures.low (rw facts at c.in-Ok.ensures.small bound.small) in
    let from = c.in_ok-running-in-Ok.ensures.from in
    (subst (Rattle.mw_canon.specs.Canonical.IsAdmittedTerm M.signature) (sym from) begins.0, from ∙ begins.1, c.in_ok-running-in-Ok.ensures.machine)

pub returns-in-Err-Deep : goal.returns-in-Err-Deep
returns-in-Err-Deep c = λ M xs t work facts asked is bound. side_deep M work xs c.args.values.now bound t asked c.args.side.now is (rw facts at c.in-Err-Deep.ensures.deep c.in-Err-Deep.field-0-is)

pub returns-in-Err-Nat : goal.returns-in-Err-Nat
returns-in-Err-Nat c = λ M xs t work facts asked is bound.
    let z = rw c.in-Err-Nat.field-0-is at (rw facts at c.in-Err-Nat.ensures.cause bound.small) in
    side_large M work xs c.args.values.now bound t asked c.args.side.now is z.1 z.0
