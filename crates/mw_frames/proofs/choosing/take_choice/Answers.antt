use Rattle.std.proofs.Common.{rules, ◌≡◌, ◌∙◌, ◌++◌, ◌∷◌, [], Some, cond, suc, take, ap, sym, subst, refl}
use Rattle.mw_logic.specs.Term.{RawTerm}
use Rattle.mw_frames.specs.declared.job.Job.{Job}
use Rattle.mw_frames.specs.Jobs.{term_of}
use Rattle.mw_frames.specs.State.{Data, IsJob}
use Rattle.mw_frames.specs.Machines.{data_of}
use Rattle.mw_frames.specs.Choosing.{decided_term, round_choice}
use Rattle.mw_frames.specs.Redex.{IsRowOf, MayMeetRow, HasInHand}
use Rattle.mw_frames.proofs.Deciding.{choice_in_hand, choice_seen, choice_row, branch_job, branches_wait}
use Rattle.mw_frames.proofs.Growing.{term_grown, job_grown}
use Rattle.mw_frames.proofs.RowsMet.{meets_so}
use Rattle.mw_frames.proofs.choosing.take_choice.Goals as goal

same_some : {x y : Job} → Some x ≡ Some y → x ≡ y
same_some e = cc

pub returns : goal.returns
returns c = λ K k sig run h e z.
    let m = c.args.machine.now in
    let M = K.over in
    let here = K.over.signature in
    let d : Data = data_of M m in
    let f = c.args.top in
    let t : RawTerm = c.args.to in
    let inside : Data = round_choice d f in
    let w : RawTerm = decided_term here d f in
    let x : Job = cond c.args.truth h.first h.second in
    let row : IsRowOf M K.rank w t = subst (IsRowOf M K.rank w) (sym e) (choice_row K sig run k d f c.args.truth h) in
    let may : MayMeetRow K k inside w t = record { row = row; stands = record { in_hand = choice_in_hand K sig run k d f c.args.truth h; seen = choice_seen K sig run k d f c.args.truth h; low = z.0; small = z.1 } } in
    let wait = branches_wait K sig run k d f c.args.truth h in
    let done : c.truncate.new.self.items ≡ take f.from m.done.items = search rules in
    let left : c.take_branch.new.jobs.items ≡ take f.waits m.jobs.items = c.in-Some.ensures.left _ _ _ wait in
    let taken : c.in-Some.job ≡ x = same_some (c.in-Some.ensures.taken _ _ _ wait) in
    let n : Data = data_of M (record { frames = m.frames; done = c.truncate.new.self; jobs = c.take_branch.new.jobs; kept = c.row.new.self; near = m.near }) in
    let i : HasInHand K (suc k) n t = meets_so K sig run k inside n w t may refl done left c.in_ok-row.ensures.values (c.in_ok-row.ensures.moves M) in
    let vs = m.kept.values ++ t ∷ [] in
    let known = branch_job K sig run k d f c.args.truth h in
    let p : term_of here vs c.in-Some.job ≡ t = ap (term_of here vs) taken ∙ term_grown M K.rank (t ∷ []) m.kept.values x known ∙ sym e in
    let q : IsJob M K.rank vs c.in-Some.job = subst (IsJob M K.rank vs) (sym taken) (job_grown M K.rank (t ∷ []) m.kept.values x known) in
    let (a, b) = c.in_ok-job.ensures M K.rank vs p q in
    i c.in_ok-job.job (subst (λ us. term_of here us c.in_ok-job.job ≡ t) (sym c.in_ok-row.ensures.values) a) (subst (λ us. IsJob M K.rank us c.in_ok-job.job) (sym c.in_ok-row.ensures.values) b)
