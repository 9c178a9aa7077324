use Rattle.std.proofs.Common.{Some, ap, sym, subst, ◌∙◌}
use Rattle.mw_frames.specs.Machines.{data_of}
use Rattle.mw_frames.specs.Fires.{IsOpenTo}
use Rattle.mw_frames.proofs.applying.fire_term.Goals as goal

pub returns-in_ok-fired-in-Some-clause-means : goal.returns-in_ok-fired-in-Some-clause-means
returns-in_ok-fired-in-Some-clause-means c = λ K k w run a part is free.
    let t = rw c.in-Some.is at part in
    c.in_ok-fired-in-Some.ensures.means K k w run a (rw c.as_slice.ensures t) is (λ z. subst (λ n. IsOpenTo K k (data_of K.over c.args.machine.now) c.args.term n) (c.in-Some.is ∙ ap Some (sym c.as_slice.ensures)) (free z))

pub returns-in_ok-fired-in-Some-clause-same : goal.returns-in_ok-fired-in-Some-clause-same
returns-in_ok-fired-in-Some-clause-same c = λ K k w t run a part all.
    let z = rw c.in-Some.is at part in
    c.in_ok-fired-in-Some.ensures.same K k w t run a (rw c.as_slice.ensures z) all

pub returns-in_ok-fired-in-None-clause-same : goal.returns-in_ok-fired-in-None-clause-same
returns-in_ok-fired-in-None-clause-same c = λ K k w t run a part all. c.in_ok-fired-in-None.ensures.same K k t run a all
