use Rattle.std.proofs.Common.{rules, subst, ◌≡◌, take, drop}
use Rattle.mw_logic.specs.Term.{apply}
use Rattle.mw_logic.specs.Terms.{terms_of}
use Rattle.mw_logic.specs.NormalForm.{applied_in}
use Rattle.mw_stack.specs.Own.{own}
use Rattle.mw_trail.specs.Tracks.{moves}
use Rattle.mw_frames.specs.Machines.{data_of}
use Rattle.mw_frames.specs.State.{Data}
use Rattle.mw_frames.specs.Steps.{IsAskedFor, asked_term}
use Rattle.mw_frames.specs.Fires.{IsPartTaken}
use Rattle.mw_frames.proofs.Asking.{complete_asked, plain_applied}
use Rattle.mw_frames.proofs.Turning.{own_fair}
use Rattle.mw_frames.proofs.meeting.halt.Goals as goal

pub returns-in_ok-whole-in-Term : goal.returns-in_ok-whole-in-Term
returns-in_ok-whole-in-Term c = λ K k w form run a part raw clean is.
    let d = data_of K.over c.args.machine.now in
    c.in_ok-whole-in-Term.ensures K k w form run (subst (IsAskedFor K k d) c.in-Term.is a)
    (subst (λ x. IsPartTaken c.args.facts.now c.args.take.now (asked_term d x) w) c.in-Term.is part) raw clean is

pub returns-in_ok-whole-in-Own : goal.returns-in_ok-whole-in-Own
returns-in_ok-whole-in-Own c = λ K k w form run a0 part0 raw clean is.
    let m = c.args.machine.now in
    let f = c.in-Own.top in
    let d : Data = data_of K.over m in
    let h = subst (IsAskedFor K k d) c.in-Own.is a0 in
    let part = subst (λ x. IsPartTaken c.args.facts.now c.args.take.now (asked_term d x) w) c.in-Own.is part0 in
    let o = own_fair K run.accepted run.sorted k m.kept.values (moves K.over m.kept) f _ m.done.items m.jobs.items h.settled h.all in
    let e : c.in_ok-term-in-Own.term ≡ applied_in K.over.signature f.op (own f.from m.done.items) =
    rw run.signature (c.in_ok-term-in-Own.ensures.is (rw⁻¹ run.signature o.0) (rw⁻¹ run.signature o.1) (rw⁻¹ run.signature o.2)) in
    let p : c.in_ok-term-in-Own.term ≡ apply f.op (terms_of (drop f.from m.done.items)) = rw (plain_applied K.over.signature f.op (own f.from m.done.items) h.plain) at e in
    let z : c.close.new.done.items ≡ take f.from m.done.items = search rules in
    let a = complete_asked K c.args.facts.now run k d f h in
    c.in_ok-whole-in-Own.ensures K k w form run (rw (p, z) a) (rw p part) raw clean is
