use Rattle.std.proofs.Common.{◌≡◌, ◌++◌, ◌∙◌, ℕ, length, subst, refl}
use Rattle.mw_matching.specs.Matches.{evaluated}
use Rattle.mw_pattern.specs.Clean.{clean}
use Rattle.mw_frames.specs.Machines.{data_of, all_moves}
use Rattle.mw_frames.specs.Jobs.{term_of}
use Rattle.mw_frames.specs.State.{IsJob, IsKnownIn}
use Rattle.mw_frames.specs.Arrivals.{IsOver, StandsFor}
use Rattle.mw_frames.proofs.Applications.{instance_behind, known_applied}
use Rattle.mw_frames.proofs.applying.go_whole.Goals as goal

pub returns : goal.returns
returns c = λ K k w run may is on leaf.
    let m = c.args.machine.now in
    let vs = c.args.values.now.items in
    let p = clean c.args.by.right.now in
    let b : ℕ = c.known_by.result in
    let x = c.in_ok-job.job in
    let (us, base, new) = c.in_ok-base.ensures.values in
    let M = K.over in
    let same : c.values.result.now ≡ us ++ vs = c.values.ensures ∙ new in
    let s : StandsFor c.args.facts.now (us ++ vs) (length us) b p x =
    subst (λ zs. StandsFor c.args.facts.now zs (length us) b p x) same (subst (λ n. StandsFor c.args.facts.now c.values.result.now n b p x) base c.in_ok-job.ensures.stands) in
    let over : IsOver M c.args.facts.now = record { signature = run.signature; accepted = run.accepted; sorted = run.sorted } in
    let known : IsKnownIn M K.rank (us ++ vs) (length us) b p = known_applied K c.args.facts.now run k (data_of M m) w (let i = may.stands.in_hand in record { stand = i.stand; leads = i.leads; opened = i.opened; hand = i.hand; good = i.good; job = may.known }) us c.args.by (all_moves M c.args.sides.now.items) vs is c.args.top b on leaf c.known_by.ensures.sure c.known_by.ensures.unsure in
    let e : term_of M.signature (us ++ vs) x ≡ evaluated M.signature vs p = rw run.signature (s.term ∙ instance_behind c.args.facts.now us vs (us ++ vs) p (length us) refl refl) in
    let j : IsJob M K.rank (us ++ vs) x = s.known M K.rank over known in
    c.in_ok-base.ensures.means K c.args.by.rule k c.args.facts.now p w run may x (rw new e) (rw new j)
