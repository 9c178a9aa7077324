use Rattle.mw_logic.specs.Parts.{nested}
use Rattle.mw_frames.specs.Machines.{data_of}
use Rattle.mw_reduce.proofs.Halting.{ends_halted}
use Rattle.mw_reduce.proofs.drive.halt_there.Goals as goal

pub returns : goal.returns
returns c = λ K k side run h.
    let a = h.halting in
    let (z, p) = c.in_ok-term.ensures K k a.part (nested K.over.signature a.part) run h.asked (rw run.signature at a.taken) a.raw a.clean a.is in
    ends_halted K k side (data_of K.over c.halt.new.machine) c.in_ok-term.term c.args.reason z (nested K.over.signature a.part, p, a.halting)
