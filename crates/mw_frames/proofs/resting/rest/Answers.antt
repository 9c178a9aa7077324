use Rattle.std.proofs.Common.{rules, ◌≡◌, subst, take, drop}
use Rattle.mw_logic.specs.Term.{apply}
use Rattle.mw_logic.specs.Terms.{terms_of}
use Rattle.mw_logic.specs.NormalForm.{applied_in}
use Rattle.mw_logic.specs.Judgements.{admitted_judgements}
use Rattle.mw_deduction.specs.Tops.{NothingAtTops}
use Rattle.mw_frames.specs.Machines.{data_of}
use Rattle.mw_frames.specs.Steps.{IsAskedFor, asked_term}
use Rattle.mw_frames.proofs.Asking.{asked_rests, complete_asked, plain_applied}
use Rattle.mw_frames.proofs.Turning.{own_fair}
use Rattle.mw_frames.proofs.resting.rest.Goals as goal
use Rattle.mw_trail.specs.Tracks.{moves}
use Rattle.mw_stack.specs.Own.{own}

pub returns-in-Term-clause-means : goal.returns-in-Term-clause-means
returns-in-Term-clause-means c = λ K k run a nothing.
    let d = data_of K.over c.args.machine.now in
    asked_rests K c.args.facts.now run k d c.in-Term.term (subst (IsAskedFor K k d) c.in-Term.is a)
    (subst (λ x. NothingAtTops K.over (admitted_judgements K.over K.rank).Fails (asked_term d x)) c.in-Term.is nothing)

pub returns-in_ok-term-in-Own-clause-means : goal.returns-in_ok-term-in-Own-clause-means
returns-in_ok-term-in-Own-clause-means c = λ K k run a nothing.
    let m = c.args.machine.now in
    let d = data_of K.over m in
    let f = c.in-Own.top in
    let h = subst (IsAskedFor K k d) c.in-Own.is a in
    let n = subst (λ x. NothingAtTops K.over (admitted_judgements K.over K.rank).Fails (asked_term d x)) c.in-Own.is nothing in
    let o = own_fair K run.accepted run.sorted k m.kept.values (moves K.over m.kept) f _ m.done.items m.jobs.items h.settled h.all in
    let e : c.in_ok-term-in-Own.term ≡ applied_in K.over.signature f.op (own f.from m.done.items) =
    rw run.signature (c.in_ok-term-in-Own.ensures.is (rw⁻¹ run.signature o.0) (rw⁻¹ run.signature o.1) (rw⁻¹ run.signature o.2)) in
    let p : c.in_ok-term-in-Own.term ≡ apply f.op (terms_of (drop f.from m.done.items)) = rw (plain_applied K.over.signature f.op (own f.from m.done.items) h.plain) at e in
    let z : c.close.new.done.items ≡ take f.from m.done.items = search rules in
    rw (p, z) (asked_rests K c.args.facts.now run k _ _ (complete_asked K c.args.facts.now run k d f h) n)
