use Rattle.mw_reduce.proofs.Beginnings.{ended_normal, found_reducible, met_reducible, decided_reducible, big_stops, halted_stops}
use Rattle.mw_reduce.proofs.judging.judged.Goals as goal

pub returns-in-Ended : goal.returns-in-Ended
returns-in-Ended c = λ M n side t d m rest work a h. ended_normal M work n t a d c.in-Ended.field-0 (rw c.in-Ended.is at h)

pub returns-in-Big : goal.returns-in-Big
returns-in-Big c = λ M n side t d m rest work a h. big_stops M work n t a side d c.in-Big.field-0 c.in-Big.field-1 (rw c.in-Big.is at h)

pub returns-in-Halts : goal.returns-in-Halts
returns-in-Halts c = λ M n side t d m rest work a h. halted_stops M work n t a side d c.in-Halts.field-0 c.in-Halts.field-1 c.in-Halts.reason (rw c.in-Halts.is at h)

pub returns-in-Applies : goal.returns-in-Applies
returns-in-Applies c = λ M n side t d m rest work a h. found_reducible M work n t a d c.in-Applies.field-0 c.in-Applies.field-1 c.in-Applies.field-2.items (rw c.in-Applies.is at h)

pub returns-in-Met : goal.returns-in-Met
returns-in-Met c = λ M n side t d m rest work a h. met_reducible M work n t a d c.in-Met.field-0 c.in-Met.field-1 c.in-Met.field-2 (rw c.in-Met.is at h)

pub returns-in-Decides : goal.returns-in-Decides
returns-in-Decides c = λ M n side t d m rest work a h. decided_reducible M work n t a d c.in-Decides.field-0 c.in-Decides.field-1 (rw c.in-Decides.is at h)
