use Rattle.mw_frames.specs.Machines.{data_of}
use Rattle.mw_reduce.proofs.drive.go_on.Goals as goal

pub returns-in_ok-fired-in-Applies : goal.returns-in_ok-fired-in-Applies
returns-in_ok-fired-in-Applies c = λ K k side run here some h.
    let f = rw c.in-Applies.is at h in
    c.after.ensures K k side c.args.left (data_of K.over c.apply.new.machine) some (c.in_ok-fired-in-Applies.ensures K k (rw c.facts-facts.ensures run) f)

pub returns-in_ok-next-in-Met : goal.returns-in_ok-next-in-Met
returns-in_ok-next-in-Met c = λ K k side run here some h. c.in_ok-next-in-Met.ensures K k run here some (rw c.in-Met.is at h) side

pub returns-in_ok-end-in-Big : goal.returns-in_ok-end-in-Big
returns-in_ok-end-in-Big c = λ K k side run here some h. c.in_ok-end-in-Big.ensures K k (rw c.facts-facts.ensures run) (rw c.in-Big.is at h) side

pub returns-in_ok-fired-in-Decides : goal.returns-in_ok-fired-in-Decides
returns-in_ok-fired-in-Decides c = λ K k side run here some h.
    let f = rw c.in-Decides.is at h in
    c.after-in-Decides.ensures K k side c.args.left (data_of K.over c.decide.new.machine) some (c.in_ok-fired-in-Decides.ensures K k (rw c.facts-facts.ensures run) f)

pub returns-in_ok-end-in-Halts : goal.returns-in_ok-end-in-Halts
returns-in_ok-end-in-Halts c = λ K k side run here some h. c.in_ok-end-in-Halts.ensures K k side (rw c.facts-facts.ensures run) (rw c.in-Halts.is at h)
