-- What statements are asked for.
use Rattle.std.specs.Prelude.{◌≡◌, ◌<◌, ℕ, List, [], ◌∷◌, length, take, drop, refl}
use Rattle.std.proofs.Common.{sym, ap, ◌∙◌, arith, ⊎_elim, true≢false}
use Rattle.std.proofs.lemmas.List.{length-drop}
use Rattle.mw_logic.proofs.Canonical.{is_identity-arguments}
use Rattle.mw_logic.specs.Term.{RawTerm, numeral, apply, RawTerms, cons}
use Rattle.mw_logic.specs.Terms.{terms_of}
use Rattle.mw_logic.specs.Signature.{Signature}
use Rattle.mw_logic.specs.Parts.{nested}
use Rattle.mw_logic.specs.NormalForm.{identity_of, applied_in}
use Rattle.mw_logic.specs.Judgements.{admitted_judgements}
use Rattle.mw_deduction.specs.Tops.{NothingAtTops}
use Rattle.mw_logic.proofs.Inside.{raw_inside}
use Rattle.mw_canon.proofs.Ordered.{uncounted}
use Rattle.mw_canon.specs.Axioms.{HasAxioms}
use Rattle.mw_canon.specs.declared.axioms.Axioms.TheVariants.{Plain}
use Rattle.mw_position.proofs.Grounded.{part_ground}
use Rattle.mw_solving.specs.Values.{IsValue}
use Rattle.mw_deduction.specs.Standing.{round}
use Rattle.mw_frames.specs.declared.job.Job.TheVariants.{Normal}
use Rattle.mw_frames.specs.declared.job.Frame.{Frame}
use Rattle.mw_frames.specs.declared.looking.Asked.{Asked}
use Rattle.mw_frames.specs.declared.looking.Asked.TheVariants.{Term, Own}
use Rattle.mw_frames.specs.State.{Run, Data, IsRun, InHand}
use Rattle.mw_frames.specs.Redex.{IsSeenIn}
use Rattle.mw_frames.specs.Steps.{IsAsked, IsComplete, IsAskedFor, asked_term}
use Rattle.mw_frames.proofs.FiringHere.{at_term, seen_in}
use Rattle.mw_frames.proofs.Turning.{finishes, normal_here}

-- an operator without axioms stays as it is
pub plain_applied : (sig : Signature) (f : ℕ) (ts : RawTerms) → HasAxioms sig f Plain → applied_in sig f ts ≡ apply f ts
plain_applied sig f ts h = rw (h.0, h.1, h.2) (uncounted f ts)

-- an operator on some argument is seen everywhere
pub branch_seen : (sig : Signature) (fs : List Frame) (f : ℕ) (t : RawTerm) (ts : RawTerms) → IsSeenIn sig fs (apply f (cons t ts))
branch_seen sig [] f t ts = tt
branch_seen sig (g ∷ fs) f t ts = λ h. ⊎_elim (λ i. true≢false (sym i.1 ∙ is_identity-arguments (identity_of sig g.op) f t ts)) (λ n. not_numeral n.number n.is) h
  where
    not_numeral : (n : ℕ) → apply f (cons t ts) ≡ numeral n → ⊥
    not_numeral n e = cc

own_seen : (sig : Signature) (fs : List Frame) (f n : ℕ) (ds : List RawTerm) → n < length ds → IsSeenIn sig fs (apply f (terms_of (drop n ds)))
own_seen sig fs f n ds l = by_list (drop n ds) refl
  where
    by_list : (xs : List RawTerm) → drop n ds ≡ xs → IsSeenIn sig fs (apply f (terms_of xs))
    by_list [] e = let q : length (drop n ds) ≡ 0 = ap length e in let p = length-drop n ds in absurd (omega (arith, q, p, l))
    by_list (x ∷ xs) e = branch_seen sig fs f x (terms_of xs)

-- The term over a frame's own arguments, all of them done, is in hand.
module _ (K : Run) (sig : Signature) (run : IsRun K sig) (count : ℕ) where
  pub complete_asked : (d : Data) (f : Frame) → IsComplete K count d f
      → IsAsked K count (record { frames = d.frames; done = take f.from d.done; jobs = d.jobs; values = d.values; moves = d.moves }) (apply f.op (terms_of (drop f.from d.done)))
  complete_asked d f h = record {
    holds = finishes K run.accepted run.sorted count d.values d.moves f d.frames d.done d.jobs (apply f.op (terms_of (drop f.from d.done))) h.settled h.all (sym (plain_applied K.over.signature f.op (terms_of (drop f.from d.done)) h.plain));
    seen = own_seen K.over.signature d.frames f.op f.from d.done h.some;
  }

  -- it is a ground term in canonical form
  pub asked_value : (d : Data) (t : RawTerm) → IsAsked K count d t → IsValue K.over.signature t
  asked_value d t h =
      let at = at_term K sig run count d.moves h.holds.stand t h.holds.leads h.holds.hand in
      record {
        canonical = at.canonical;
        raw = raw_inside K.over.signature run.accepted (round K.over.signature h.holds.stand.opens) (nested K.over.signature t) at.raw;
        ground = part_ground (round K.over.signature h.holds.stand.opens) (nested K.over.signature t) at.admitted.ground;
      }

  pub asked_for_value : (d : Data) (a : Asked) → IsAskedFor K count d a → IsValue K.over.signature (asked_term d a)
  asked_for_value d (Term t) h = asked_value d t h
  asked_for_value d (Own f) h = asked_value (record { frames = d.frames; done = take f.from d.done; jobs = d.jobs; values = d.values; moves = d.moves }) (apply f.op (terms_of (drop f.from d.done))) (complete_asked d f h)

  -- where nothing applies it is normal
  pub asked_rests : (d : Data) (t : RawTerm) → IsAsked K count d t → NothingAtTops K.over (admitted_judgements K.over K.rank).Fails t → InHand K count d (Normal t)
  asked_rests d t h nothing =
      normal_here K run.accepted run.sorted count d.values d.moves d.frames d.done d.jobs t run.start h.holds
      (seen_in K sig run count d.values d.frames d.done d.jobs h.holds.stand.opens t h.holds.opened h.seen) nothing
