use Rattle.std.proofs.Common.{subst, refl}
use Rattle.mw_frames.specs.declared.job.Job.TheVariants.{Normal, Built}
use Rattle.mw_frames.specs.Machines.{data_of}
use Rattle.mw_frames.specs.State.{InHand}
use Rattle.mw_frames.proofs.Turning.{normal_leaves, built_made}
use Rattle.mw_frames.proofs.stepping.one.Goals as goal

pub returns-in_ok-step-in-Normal-clause-means : goal.returns-in_ok-step-in-Normal-clause-means
returns-in_ok-step-in-Normal-clause-means c = λ K k run h.
    let t = c.in-Normal.term in
    let d = data_of K.over c.args.machine.now in
    let i : InHand K k d (Normal t) = subst (InHand K k d) c.in-Normal.is h in
    c.in_ok-step-in-Normal.ensures.means K k (Normal t) run refl i (λ e. i.job) (λ f fs e. normal_leaves K run.accepted run.sorted k d t run.start i f.op)

pub returns-in_ok-hand-in-Walk-clause-means : goal.returns-in_ok-hand-in-Walk-clause-means
returns-in_ok-hand-in-Walk-clause-means c = λ K k run h. c.in_ok-hand-in-Walk.ensures.means K k run (subst (InHand K k (data_of K.over c.args.machine.now)) c.in-Walk.is h)

pub returns-in_ok-hand-in-Made-clause-means : goal.returns-in_ok-hand-in-Made-clause-means
returns-in_ok-hand-in-Made-clause-means c = λ K k run h. c.in_ok-hand-in-Made.ensures.means K k run (subst (InHand K k (data_of K.over c.args.machine.now)) c.in-Made.is h)

pub returns-in_ok-hand-in-Built-clause-means : goal.returns-in_ok-hand-in-Built-clause-means
returns-in_ok-hand-in-Built-clause-means c = λ K k run h.
    let b = c.in-Built in
    let d = data_of K.over c.args.machine.now in
    let i : InHand K k d (Built b._built b.pattern b.base b.top) = subst (InHand K k d) b.is h in
    c.in_ok-hand-in-Built.ensures.means K k run (built_made K run.accepted run.sorted k d b._built b.pattern b.base b.top i)
