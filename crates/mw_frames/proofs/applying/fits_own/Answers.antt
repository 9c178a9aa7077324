use Rattle.std.proofs.Common.{rules, ◌≡◌, reverse, take}
use Rattle.std.specs.Prelude.{None}
use Rattle.mw_trail.specs.Tracks.{moves}
use Rattle.mw_frames.specs.State.{Data}
use Rattle.mw_frames.proofs.FitsThere.{FitsIn, fits_there}
use Rattle.mw_frames.proofs.applying.fits_own.Goals as goal

pub returns-in-Fits : goal.returns-in-Fits
returns-in-Fits c = λ K k ss t run h is yes.
    let m = c.args.machine.now in
    let none : c.args.take.now ≡ None = search rules in
    let inside : Data = record { frames = reverse m.frames.items; done = take c.args.top.from m.done.items; jobs = m.jobs.items; values = m.kept.values; moves = moves K.over m.kept } in
    let told : FitsIn c.args.facts.now inside c.args.by c.args.values.now c.in_ok-fit.fit =
    rw (c.values.ensures, c.as_slice.ensures.value, c.cut.ensures.front, c.as_slice-2.ensures.value, c.as_slice-3.ensures.value) at c.in_ok-fit.ensures in
    (none, rw c.in-Fits.is at (fits_there K c.args.facts.now run k inside t h c.args.by ss c.args.values.now (is none) c.in_ok-fit.fit told))
