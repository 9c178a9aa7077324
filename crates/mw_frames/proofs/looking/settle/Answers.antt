use Rattle.std.specs.Prelude.{IfOk}
use Rattle.std.proofs.Common.{ap, sym, subst, ◌∙◌, ◌≡◌, ◌+◌, ◌∷◌, ◌++◌, [], List, reverse, refl}
use Rattle.std.proofs.lemmas.List.{reverse-append}
use Rattle.mw_trail.specs.Tracks.{moves}
use Rattle.mw_stack.proofs.Under.{keeps_order}
use Rattle.mw_frames.specs.Jobs.{work}
use Rattle.mw_frames.specs.Steps.{FallsBelow}
use Rattle.mw_frames.specs.State.{InHand}
use Rattle.mw_frames.specs.declared.job.Frame.{Frame}
use Rattle.mw_frames.proofs.looking.settle.Goals as goal

pub returns-in_ok-leave-in-Plain-clause-means : goal.returns-in_ok-leave-in-Plain-clause-means
returns-in_ok-leave-in-Plain-clause-means c = λ K k x run e h whole done.
    let m = c.args.machine.now in
    let fs : List Frame = reverse c.pop.new.self.items in
    let p : m.frames.items ≡ c.pop.new.self.items ++ c.in-Some.top ∷ [] = c.in-Some.ensures.items in
    let q : reverse m.frames.items ≡ c.in-Some.top ∷ fs = ap reverse p ∙ reverse-append c.pop.new.self.items (c.in-Some.top ∷ []) in
    let (a, b) = keeps_order c.args.facts.now c.in-Some.top.op c.axioms.result c.axioms.ensures c.in-Plain.is in
    c.in_ok-leave-in-Plain.ensures.means K k c.args.facts.now fs x run a b refl e (subst (λ gs. InHand K k (record { frames = gs; done = m.done.items; jobs = m.jobs.items; values = m.kept.values; moves = moves K.over m.kept }) x) q h) (done c.in-Some.top fs q)

pub returns-in_default-clause-means : goal.returns-in_default-clause-means
returns-in_default-clause-means c = λ K k x run e h whole done.
    let m = c.args.machine.now in
    let fs : List Frame = reverse c.pop.new.self.items in
    let p : m.frames.items ≡ c.pop.new.self.items ++ c.in-Some.top ∷ [] = c.in-Some.ensures.items in
    let q : reverse m.frames.items ≡ c.in-Some.top ∷ fs = ap reverse p ∙ reverse-append c.pop.new.self.items (c.in-Some.top ∷ []) in
    c.go_out.ensures.means K k fs x run refl e (subst (λ gs. InHand K k (record { frames = gs; done = m.done.items; jobs = m.jobs.items; values = m.kept.values; moves = moves K.over m.kept }) x) q h) (done c.in-Some.top fs q)

pub returns-in_default-clause-falls : goal.returns-in_default-clause-falls
returns-in_default-clause-falls c = λ M w l.
    let m = c.args.machine.now in
    let fs : List Frame = reverse c.pop.new.self.items in
    let p : m.frames.items ≡ c.pop.new.self.items ++ c.in-Some.top ∷ [] = c.in-Some.ensures.items in
    let q : reverse m.frames.items ≡ c.in-Some.top ∷ fs = ap reverse p ∙ reverse-append c.pop.new.self.items (c.in-Some.top ∷ []) in
    subst (λ gs. IfOk c.go_out.result (FallsBelow M (w + work M.signature m.kept.values gs m.jobs.items) c.go_out.new.machine)) (sym q) (c.go_out.ensures.falls M w l)
