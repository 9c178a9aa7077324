use Rattle.std.specs.Prelude.{None}
use Rattle.std.proofs.Common.{rules, ◌≡◌, ◌∙◌, ℕ, sym, subst, take, drop}
use Rattle.mw_logic.specs.Term.{RawTerm, RawTerms, apply}
use Rattle.mw_logic.specs.Terms.{terms_of}
use Rattle.mw_logic.specs.NormalForm.{applied_in}
use Rattle.mw_pattern.specs.Clean.{clean}
use Rattle.mw_stack.specs.Own.{own}
use Rattle.mw_trail.specs.Tracks.{moves}
use Rattle.mw_frames.specs.Machines.{data_of, all_moves}
use Rattle.mw_frames.specs.Redex.{MayFire, walked}
use Rattle.mw_frames.specs.State.{Data}
use Rattle.mw_frames.specs.Fires.{IsApplied}
use Rattle.mw_frames.proofs.Asking.{complete_asked, plain_applied}
use Rattle.mw_frames.proofs.Turning.{own_fair}
use Rattle.mw_frames.proofs.applying.fire_own.Goals as goal

same_operator : {f g : ℕ} {ts us : RawTerms} → apply f ts ≡ apply g us → g ≡ f
same_operator e = cc

pub returns-then-branch-clause-means : goal.returns-then-branch-clause-means
returns-then-branch-clause-means c = λ K k w run h part is free.
    let m = c.args.machine.now in
    let f = c.args.top in
    let vs = c.args.values.now.items in
    let ss = all_moves K.over c.args.sides.now.items in
    let p = clean c.args.by.right.now in
    let d : Data = data_of K.over m in
    let t : RawTerm = apply f.op (terms_of (drop f.from m.done.items)) in
    let a = complete_asked K c.args.facts.now run k d f h in
    let inside : Data = record { frames = d.frames; done = take f.from m.done.items; jobs = d.jobs; values = d.values; moves = d.moves } in
    let there : c.args.take.now ≡ None → IsApplied K.over K.rank c.args.by ss c.as_slice.result.now t = λ none. rw c.as_slice.ensures.value (let e : w ≡ t = rw none at part in subst (IsApplied K.over K.rank c.args.by ss vs) e is) in
    let (none, fits) = c.in_ok-fits_own.ensures K k ss t run (walked K k inside t a.holds) there (search rules) in
    let z = rw c.as_slice.ensures.value at fits in
    let e : w ≡ t = rw none at part in
    let may : MayFire K c.args.by.rule k inside c.args.by.number ss vs p w =
    rw e (let r : IsApplied K.over K.rank c.args.by ss vs t = subst (IsApplied K.over K.rank c.args.by ss vs) e is in record { redex = r.redex; rule = r.rule; known = a.holds.job; stands = record { in_hand = walked K k inside t a.holds; seen = a.seen; low = z.0; small = z.1 }; free = λ q. (free q).around a.holds.stand a.holds.leads }) in
    let y : c.truncate.new.self.items ≡ take f.from m.done.items = search rules in
    c.in_ok-hand.ensures K k w run (rw y may) is (λ g ts q. same_operator (sym e ∙ q)) (λ q. absurd (q f.op _ e))

pub returns-clause-means : goal.returns-clause-means
returns-clause-means c = λ K k w run h part is free.
    let m = c.args.machine.now in
    let f = c.args.top in
    let d : Data = data_of K.over m in
    let o = own_fair K run.accepted run.sorted k m.kept.values (moves K.over m.kept) f _ m.done.items m.jobs.items h.settled h.all in
    let e : c.in_ok-term.term ≡ applied_in K.over.signature f.op (own f.from m.done.items) =
    rw run.signature (c.in_ok-term.ensures.is (rw⁻¹ run.signature o.0) (rw⁻¹ run.signature o.1) (rw⁻¹ run.signature o.2)) in
    let p : c.in_ok-term.term ≡ apply f.op (terms_of (drop f.from m.done.items)) = rw (plain_applied K.over.signature f.op (own f.from m.done.items) h.plain) at e in
    let z : c.close.new.done.items ≡ take f.from m.done.items = search rules in
    let a = complete_asked K c.args.facts.now run k d f h in
    c.in_ok-fired.ensures.means K k w run (rw (p, z) a) (rw p part) is
    (λ q. let o = free q in record { around = o.around; inside = λ ks g ts s u. o.inside ks g ts s (sym p ∙ u) })

pub returns-clause-same : goal.returns-clause-same
returns-clause-same c = λ K k w t run h part all.
    let m = c.args.machine.now in
    let f = c.args.top in
    let d : Data = data_of K.over m in
    let o = own_fair K run.accepted run.sorted k m.kept.values (moves K.over m.kept) f _ m.done.items m.jobs.items h.settled h.all in
    let e : c.in_ok-term.term ≡ applied_in K.over.signature f.op (own f.from m.done.items) =
    rw run.signature (c.in_ok-term.ensures.is (rw⁻¹ run.signature o.0) (rw⁻¹ run.signature o.1) (rw⁻¹ run.signature o.2)) in
    let p : c.in_ok-term.term ≡ apply f.op (terms_of (drop f.from m.done.items)) = rw (plain_applied K.over.signature f.op (own f.from m.done.items) h.plain) at e in
    let z : c.close.new.done.items ≡ take f.from m.done.items = search rules in
    let a = complete_asked K c.args.facts.now run k d f h in
    c.in_ok-fired.ensures.same K k w t run (rw (p, z) a) (rw p part) all
