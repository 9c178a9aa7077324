use Rattle.std.proofs.Common.{subst}
use Rattle.mw_frames.specs.Machines.{data_of}
use Rattle.mw_frames.specs.Steps.{IsAskedFor, asked_term}
use Rattle.mw_frames.specs.Fires.{IsPartTaken, IsOpenTo}
use Rattle.mw_frames.proofs.applying.fire.Goals as goal

pub returns-in_ok-fired-in-Term-clause-means : goal.returns-in_ok-fired-in-Term-clause-means
returns-in_ok-fired-in-Term-clause-means c = λ K k w run a part is free.
    let d = data_of K.over c.args.machine.now in
    c.in_ok-fired-in-Term.ensures.means K k w run (subst (IsAskedFor K k d) c.in-Term.is a)
    (subst (λ x. IsPartTaken c.args.facts.now c.args.take.now (asked_term d x) w) c.in-Term.is part) is
    (λ z. subst (λ x. IsOpenTo K k d (asked_term d x) c.args.take.now) c.in-Term.is (free z))

pub returns-in_ok-fired-in-Own-clause-means : goal.returns-in_ok-fired-in-Own-clause-means
returns-in_ok-fired-in-Own-clause-means c = λ K k w run a part is free.
    let d = data_of K.over c.args.machine.now in
    c.in_ok-fired-in-Own.ensures.means K k w run (subst (IsAskedFor K k d) c.in-Own.is a)
    (subst (λ x. IsPartTaken c.args.facts.now c.args.take.now (asked_term d x) w) c.in-Own.is part) is
    (λ z. subst (λ x. IsOpenTo K k d (asked_term d x) c.args.take.now) c.in-Own.is (free z))

pub returns-in_ok-fired-in-Term-clause-same : goal.returns-in_ok-fired-in-Term-clause-same
returns-in_ok-fired-in-Term-clause-same c = λ K k w t run a part all.
    let d = data_of K.over c.args.machine.now in
    c.in_ok-fired-in-Term.ensures.same K k w t run (subst (IsAskedFor K k d) c.in-Term.is a) (subst (λ x. IsPartTaken c.args.facts.now c.args.take.now (asked_term d x) w) c.in-Term.is part) all

pub returns-in_ok-fired-in-Own-clause-same : goal.returns-in_ok-fired-in-Own-clause-same
returns-in_ok-fired-in-Own-clause-same c = λ K k w t run a part all.
    let d = data_of K.over c.args.machine.now in
    c.in_ok-fired-in-Own.ensures.same K k w t run (subst (IsAskedFor K k d) c.in-Own.is a) (subst (λ x. IsPartTaken c.args.facts.now c.args.take.now (asked_term d x) w) c.in-Own.is part) all
