use Rattle.std.proofs.Common.{sym, subst}
use Rattle.mw_frames.specs.Machines.{data_of}
use Rattle.mw_rule.specs.Stepped.{IsStepped}
use Rattle.mw_rule.proofs.Ended.{ends_final, ends_untold}
use Rattle.mw_rule.proofs.rewriting.step.Goals as goal

pub returns-in-Nothing : goal.returns-in-Nothing
returns-in-Nothing c = λ K k run here rank e.
    let d = data_of K.over c.look.new.machine in
    let (is, final) = rw c.in-Nothing.is at (c.in_ok-look.ensures K k run here rank e) in
    subst (IsStepped K k c.args.side d) (sym c.ended.ensures) (ends_final K rank k c.args.side d c.args.term is final)

pub returns-in-Halts : goal.returns-in-Halts
returns-in-Halts c = λ K k run here rank e.
    let d = data_of K.over c.look.new.machine in
    let (is, untold) = rw c.in-Halts.is at (c.in_ok-look.ensures K k run here rank e) in
    subst (IsStepped K k c.args.side d) (sym c.ended-in-Halts.ensures) (ends_untold K rank k c.args.side d c.args.term is c.in-Halts.reason untold)

pub returns-in-Fires : goal.returns-in-Fires
returns-in-Fires c = λ K k run here rank e.
    let d = data_of K.over c.look.new.machine in
    let (fired, same) = rw c.in-Fires.is at (c.in_ok-look.ensures K k run here rank e) in
    c.after.ensures K k c.args.side (data_of K.over c.args.machine.now) d c.args.term rank e fired same

pub returns : goal.returns
returns c = λ K k run here rank e.
    let (is, of) = rw c.in-Takes.is at (c.in_ok-look.ensures K k run here rank e) in
    let (fired, same) = c.in_ok-fired-in-Takes.ensures K k run here is of in
    c.after-in-Takes.ensures K k c.args.side (data_of K.over c.look.new.machine) (data_of K.over c.fire_whole.new.machine) c.args.term rank is fired same
