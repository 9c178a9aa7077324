-- Several arguments of the term that the machine has in hand are gone into, as one term of their own.
use Rattle.std.specs.Prelude.{◌≡◌, ◌<◌, ℕ, List, [], ◌∷◌, ◌++◌, length, refl}
use Rattle.std.proofs.Common.{sym, subst, ap, ◌∙◌}
use Rattle.mw_logic.specs.Term.{RawTerm, apply, nil}
use Rattle.mw_logic.specs.Signature.{Signature}
use Rattle.mw_logic.specs.Parts.{is_assoc, number_of_terms}
use Rattle.mw_logic.proofs.Canonical.{assoc-true}
use Rattle.mw_arguments.specs.Places.{chosen, Takes}
use Rattle.mw_deduction.specs.Replay.{among, opened, whole}
use Rattle.mw_frames.specs.declared.job.Job.{Job}
use Rattle.mw_frames.specs.declared.job.Job.TheVariants.{Try}
use Rattle.mw_frames.specs.declared.job.Frame.{Frame}
use Rattle.mw_frames.specs.State.{Run, Data, IsRun, InHand}
use Rattle.mw_frames.specs.Steps.{IsAsked}
use Rattle.mw_frames.specs.Arrivals.{level_over, IsNewFrame}
use Rattle.mw_frames.specs.Redex.{hole_level}
use Rattle.mw_frames.specs.Taking.{before_taken, behind_taken, IsLeft, IsPartAsked}
use Rattle.mw_frames.proofs.TakingPart.{takes}

-- the level of a new frame
level_is : (sig : Signature) (fs : List Frame) (g : ℕ) → level_over sig fs g ≡ hole_level sig fs (apply g nil)
level_is sig [] g = refl
level_is sig (f ∷ fs) g = refl

-- what is taken has a number
pub some_number : (sig : Signature) (ks : List ℕ) (t w : RawTerm) → Takes sig ks t w → (k : ℕ) × (ls : List ℕ) × (ks ≡ k ∷ ls)
some_number sig [] t w m = absurd m.several
some_number sig (k ∷ ks) t w m = (k, ks, refl)

pub same_data : (m n : Data) → n.frames ≡ m.frames → n.done ≡ m.done → n.jobs ≡ m.jobs → n.values ≡ m.values → n.moves ≡ m.moves → n ≡ m
same_data m n ef ed ej ev em =
    ap (λ fs. record { frames = fs; done = n.done; jobs = n.jobs; values = n.values; moves = n.moves }) ef
    ∙ ap (λ ds. record { frames = m.frames; done = ds; jobs = n.jobs; values = n.values; moves = n.moves }) ed
    ∙ ap (λ js. record { frames = m.frames; done = m.done; jobs = js; values = n.values; moves = n.moves }) ej
    ∙ ap (λ vs. record { frames = m.frames; done = m.done; jobs = m.jobs; values = vs; moves = n.moves }) ev
    ∙ ap (λ ms. record { frames = m.frames; done = m.done; jobs = m.jobs; values = m.values; moves = ms }) em

module _ (K : Run) (sig : Signature) (run : IsRun K sig) (count : ℕ) where
  abbrev here : Signature
  here = K.over.signature

  pub part_asked : (m n : Data) (f : Frame) (t w : RawTerm) (ks : List ℕ) (os : List RawTerm) (ys : List Job) → (h : InHand K count m (Try t)) → IsNewFrame sig m.frames m.done m.jobs f.op f
      → (k : Takes here ks t w) → f.op ≡ k.operator → length ks < number_of_terms k.args → IsLeft here k.operator ks k.args os ys
      → n.frames ≡ f ∷ m.frames → n.done ≡ m.done ++ os → n.jobs ≡ m.jobs ++ ys → n.values ≡ m.values → n.moves ≡ m.moves ++ among ks ∷ [] → IsPartAsked K count n f w h.stand
  part_asked m n f t w ks os ys h new k e proper l ef ed ej ev em =
      let level : f.level ≡ hole_level here m.frames (apply f.op nil) = new.level ∙ level_is sig m.frames f.op ∙ ap (λ s. hole_level s m.frames (apply f.op nil)) (sym run.signature) in
      let inside : Data = record { frames = f ∷ m.frames; done = m.done ++ os; jobs = m.jobs ++ ys; values = m.values; moves = m.moves ++ among ks ∷ [] } in
      let (i, seen, same, opens) = takes K sig run count m.values m.moves m.frames m.done m.jobs t w h ks k proper f e new.from new.waits level os ys l in
      let b = before_taken ks k.args in
      let a = behind_taken ks k.args in
      let There : Data → Type 0 = λ d. (z : IsAsked K count d w) × (z.holds.stand.opens ≡ opened f.op b a ∷ h.stand.opens) × (whole here z.holds.stand.opens z.holds.stand.hand ≡ whole here h.stand.opens h.stand.hand) in
      let there : There inside = (record { holds = i; seen = seen }, opens ∙ ap (λ g. opened g b a ∷ h.stand.opens) (sym e), same) in
      let (asked, round, all) = subst There (sym (same_data inside n ef ed ej ev em)) there in
      record {
        asked = asked;
        outer = m.frames;
        inner = ef;
        assoc = ap (is_assoc here) e ∙ assoc-true here k.operator k.assoc.operator k.assoc.is_there k.assoc.assoc;
        args = chosen 1 ks k.args;
        is = k.part ∙ ap (λ g. apply g (chosen 1 ks k.args)) (sym e);
        before = b;
        after = a;
        opens = round;
        same = all;
      }
