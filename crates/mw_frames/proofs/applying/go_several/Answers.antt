use Rattle.std.proofs.Common.{◌≡◌, ◌++◌, ◌∙◌, suc, length, reverse, ap, sym, subst}
use Rattle.mw_logic.specs.Term.{RawTerm}
use Rattle.mw_matching.specs.Matches.{evaluated}
use Rattle.mw_pattern.specs.Clean.{clean}
use Rattle.mw_stack.specs.Own.{spread}
use Rattle.mw_trail.specs.Tracks.{moves}
use Rattle.mw_frames.specs.Machines.{data_of, all_moves}
use Rattle.mw_frames.specs.Jobs.{instance_of}
use Rattle.mw_frames.specs.State.{Run, after_one, IsRun, IsKnownIn}
use Rattle.mw_frames.specs.Arrivals.{Comes}
use Rattle.mw_frames.specs.Redex.{HasInHand}
use Rattle.mw_frames.specs.Taking.{Receives}
use Rattle.mw_frames.proofs.FiringHere.{run_after}
use Rattle.mw_frames.proofs.Applications.{instance_behind, several_settled, part_known}
use Rattle.mw_frames.proofs.applying.go_several.Goals as goal

pub returns : goal.returns
returns c = λ K k w S run part may is.
    let L : Run = after_one c.args.by.rule K in
    let after_it : IsRun L c.args.facts.now = run_after c.args.by.rule K c.args.facts.now run in
    let m = c.args.machine.now in
    let vs = c.args.values.now.items in
    let p = clean c.args.by.right.now in
    let (us, base, new) = c.in_ok-base.ensures.values in
    let applied = c.apply_whole.new.machine in
    let old = c.leave_hole.new.machine in
    let after = c.wait_parts.new.machine in
    let f = c.args.frame in
    let sig = K.over.signature in
    let v : RawTerm = evaluated sig vs p in
    let h : HasInHand L (suc k) (data_of K.over applied) v = c.in_ok-base.ensures.means K c.args.by.rule k c.args.facts.now p w run may in
    let inner = ap reverse c.in_ok-base.ensures.frames ∙ part.inner in
    let r : Receives L (suc k) (data_of K.over old) f v = c.in_ok-leave_hole.ensures.means L (suc k) c.args.facts.now f part.outer v after_it inner part.assoc h in
    let kept : old.kept.values ≡ us ++ vs = c.in_ok-leave_hole.ensures.values ∙ new in
    let known : IsKnownIn K.over K.rank (us ++ vs) (length us) f.op p = part_known K c.args.facts.now run k (data_of K.over m) f w S part us c.args.by (all_moves K.over c.args.sides.now.items) vs is in
    let i : instance_of sig old.kept.values p c.in_ok-base.base ≡ v = instance_behind sig us vs old.kept.values p c.in_ok-base.base kept base in
    let comes : Comes sig old.kept.values f (spread sig f.op v) (λ M n. IsKnownIn M n old.kept.values c.in_ok-base.base f.op p) old.done.items after.done.items old.jobs.items after.jobs.items =
    subst (λ t. Comes sig old.kept.values f (spread sig f.op t) (λ M n. IsKnownIn M n old.kept.values c.in_ok-base.base f.op p) old.done.items after.done.items old.jobs.items after.jobs.items) i
    (subst (λ s. Comes s old.kept.values f (spread s f.op (instance_of s old.kept.values p c.in_ok-base.base)) (λ M n. IsKnownIn M n old.kept.values c.in_ok-base.base f.op p) old.done.items after.done.items old.jobs.items after.jobs.items) (sym run.signature) c.in_ok-wait_parts.ensures.comes) in
    let z = several_settled L c.args.facts.now after_it (suc k) old.kept.values (moves K.over old.kept) f (reverse old.frames.items) old.done.items after.done.items old.jobs.items after.jobs.items v _ r
    (rw (kept, base) known) comes in
    rw (c.in_ok-wait_parts.ensures.keeps.frames, c.in_ok-wait_parts.ensures.keeps.kept) z
