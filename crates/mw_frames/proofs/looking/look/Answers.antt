use Rattle.std.proofs.Common.{rules, sym, subst, ◌∙◌, ◌≡◌, ◌∷◌, [], List, reverse, refl}
use Rattle.mw_logic.proofs.Canonical.{Each}
use Rattle.mw_stack.specs.Own.{spread}
use Rattle.mw_stack.specs.Hidden.{IsHidden}
use Rattle.mw_frames.specs.declared.job.Job.TheVariants.{Try}
use Rattle.mw_frames.specs.declared.job.Frame.{Frame}
use Rattle.mw_logic.specs.Term.{RawTerm}
use Rattle.mw_logic.specs.Signature.{Signature}
use Rattle.mw_frames.specs.State.{IsDone}
use Rattle.mw_frames.specs.Redex.{IsSeenIn}
use Rattle.mw_frames.proofs.Turning.{hidden_done, same_head}
use Rattle.mw_frames.proofs.looking.look.Goals as goal

pub returns-then-is_hidden-clause-means : goal.returns-then-is_hidden-clause-means
returns-then-is_hidden-clause-means c = λ K k run h.
    let m = c.args.machine.now in
    let v : c.as_slice.result.now ≡ m.frames.items = c.as_slice.ensures.value in
    let (f, fs, p, z) = c.is_hidden.ensures.yes (search rules) in
    let q : reverse m.frames.items ≡ f ∷ fs = rw v at p in
    let y : IsHidden K.over.signature f.op c.args.term = rw run.signature z in
    c.in_ok-step.ensures.means K k (Try c.args.term) run refl h (λ e. absurd (empty (sym e ∙ q)))
    (λ g gs r. subst (λ g'. Each (IsDone K.over K.rank g'.op) (spread K.over.signature g'.op c.args.term)) (same_head (sym q ∙ r)) (hidden_done K run.accepted run.sorted k f.op c.args.term y))
  where
    empty : {f : Frame} {fs : List Frame} → [] ≡ f ∷ fs → ⊥
    empty e = cc

pub returns-clause-means : goal.returns-clause-means
returns-clause-means c = λ K k run h.
    let m = c.args.machine.now in
    let v : c.as_slice.result.now ≡ m.frames.items = c.as_slice.ensures.value in
    let no : ((f : Frame) (fs : List Frame) → reverse m.frames.items ≡ f ∷ fs → IsHidden K.over.signature f.op c.args.term → ⊥) = λ f fs p z. c.is_hidden.ensures.no (search rules) f fs (rw v p) (rw run.signature at z) in
    record { holds = h; seen = seen_by (K.over.signature) c.args.term (reverse m.frames.items) no }
  where
    seen_by : (sig : Signature) (t : RawTerm) (gs : List Frame) → ((f : Frame) (fs : List Frame) → gs ≡ f ∷ fs → IsHidden sig f.op t → ⊥) → IsSeenIn sig gs t
    seen_by sig t [] h = tt
    seen_by sig t (f ∷ fs) h = h f fs refl
