use Rattle.std.proofs.Common.{◌≡◌, ◌+◌, reverse, ap, arith}
use Rattle.mw_logic.specs.Terms.{terms_of}
use Rattle.mw_frames.specs.declared.job.Job.TheVariants.{Walk}
use Rattle.mw_frames.specs.Jobs.{size, sizes}
use Rattle.mw_frames.specs.Machines.{data_of}
use Rattle.mw_frames.proofs.OpeningTerms.{walk_opened, work_more}
use Rattle.mw_frames.proofs.opening.open_term.Goals as goal

pub returns-in-Op-clause-means : goal.returns-in-Op-clause-means
returns-in-Op-clause-means c = λ K k run h.
    walk_opened K k c.args.facts.now run (data_of K.over c.args.machine.now) (Walk c.args.term) h c.in-Op.operator (terms_of c.in-Op.args.now) c.in_ok-frame-in-Op.frame c.wait_terms.new.jobs.items c.in-Op.ensures c.in_ok-frame-in-Op.ensures
    (c.in_ok-wait_terms-in-Op.ensures.joins K.over.signature c.args.machine.now.kept.values)

pub returns-in-Op-clause-falls : goal.returns-in-Op-clause-falls
returns-in-Op-clause-falls c = λ M e.
    let w = c.in_ok-wait_terms-in-Op.ensures.weight M.signature c.args.machine.now.kept.values in
    let s : size c.args.term ≡ 5 + sizes (terms_of c.in-Op.args.now) = ap size c.in-Op.ensures in
    let h = work_more M.signature c.args.machine.now.kept.values (reverse c.args.machine.now.frames.items) c.args.machine.now.jobs.items c.wait_terms.new.jobs.items (sizes (terms_of c.in-Op.args.now)) (omega (arith, w)) in
    omega (arith, s, h)
