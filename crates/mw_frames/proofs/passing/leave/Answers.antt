use Rattle.std.proofs.Common.{sym, subst, ap, ◌∙◌, ◌≡◌, ◌∷◌, ◌++◌, [], take, reverse, false}
use Rattle.mw_logic.specs.NormalForm.{is_comm, arranged}
use Rattle.mw_logic.specs.Term.{join}
use Rattle.mw_logic.specs.Parts.{is_assoc}
use Rattle.mw_deduction.specs.Replay.{Leaves}
use Rattle.mw_stack.specs.Own.{own, spread}
use Rattle.mw_stack.proofs.Piles.{own_pushed}
use Rattle.mw_stack.proofs.Under.{spread_alone}
use Rattle.std.proofs.lemmas.List.{take-append-le}
use Rattle.mw_trail.specs.Tracks.{moves}
use Rattle.mw_frames.specs.Jobs.{term_of}
use Rattle.mw_logic.proofs.Canonical.{Each}
use Rattle.mw_frames.specs.State.{Settled, IsDone}
use Rattle.mw_frames.proofs.Turning.{leaves}
use Rattle.mw_frames.proofs.passing.leave.Goals as goal

pub returns-clause-means : goal.returns-clause-means
returns-clause-means c = λ K k S fs x run a b q e h d.
    let m = c.args.machine.now in
    let f = c.args.top in
    let sig = K.over.signature in
    let t = term_of sig m.kept.values x in
    let l : Leaves (moves K.over m.kept) (moves K.over c.leave.new.self) = c.in_ok-leave.ensures.moves K.over in
    let fv : c.leave.new.self.values ≡ m.kept.values = c.in_ok-leave.ensures.values in
    let ds = c.push.new.self.items in
    let pushed : ds ≡ m.done.items ++ t ∷ [] = c.in_ok-push.ensures.items ∙ ap (λ u. m.done.items ++ u ∷ []) (sym e) in
    let p : take f.from ds ≡ take f.from m.done.items = ap (take f.from) pushed ∙ take-append-le f.from m.done.items (t ∷ []) h.good.1 in
    let n : is_assoc sig f.op ≡ false = subst (λ Z. is_assoc Z f.op ≡ false) (sym run.signature) a in
    let o : is_comm sig f.op ≡ false = subst (λ Z. is_comm Z f.op ≡ false) (sym run.signature) b in
    let r : own f.from ds ≡ arranged (is_comm sig f.op) (join (own f.from m.done.items) (spread sig f.op t)) =
    own_pushed m.done.items ds t f.from pushed h.good.1
    ∙ sym (ap (λ i. arranged i (join (own f.from m.done.items) (spread sig f.op t))) o ∙ ap (join (own f.from m.done.items)) (spread_alone sig f.op t n)) in
    let z = leaves K run.accepted run.sorted k m.kept.values (moves K.over m.kept) (moves K.over c.leave.new.self) f fs m.done.items ds m.jobs.items x run.start h l p r (subst (λ u. Each (IsDone K.over K.rank f.op) (spread sig f.op u)) (sym e) d) in
    subst (λ vs. Settled K k (record { frames = reverse m.frames.items; done = ds; jobs = m.jobs.items; values = vs; moves = moves K.over c.leave.new.self }) f) (sym fv)
    (subst (λ gs. Settled K k (record { frames = gs; done = ds; jobs = m.jobs.items; values = m.kept.values; moves = moves K.over c.leave.new.self }) f) (sym q) z)
