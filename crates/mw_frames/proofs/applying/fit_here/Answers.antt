use Rattle.mw_frames.specs.Machines.{data_of}
use Rattle.mw_frames.proofs.FitsThere.{FitsIn, fits_there}
use Rattle.mw_frames.proofs.applying.fit_here.Goals as goal

pub returns : goal.returns
returns c = λ K k ss w run h is.
    let a = c.all_around-around.ensures in
    let told : FitsIn c.args.facts.now (data_of K.over c.args.machine.now) c.args.by c.args.values.now c.in_ok-fit.fit = rw (a.values, a.frames, a.done, a.jobs) at c.in_ok-fit.ensures in
    fits_there K c.args.facts.now run k (data_of K.over c.args.machine.now) w h c.args.by ss c.args.values.now is c.in_ok-fit.fit told
