-- What is known of the term that statements are asked for, and of several of its arguments.
use Rattle.std.specs.Prelude.{◌≡◌, ◌++◌, ℕ, List, [], ◌∷◌, length, Bool, true, false, Option, Some, None, refl}
use Rattle.std.proofs.Common.{sym, subst}
use Rattle.std.proofs.lemmas.Bool.{both_ways}
use Rattle.mw_logic.specs.Term.{RawTerm, RawTerms, apply, nil, join, plug}
use Rattle.mw_logic.specs.Terms.{list_of}
use Rattle.mw_logic.specs.Signature.{Signature}
use Rattle.mw_logic.specs.Axioms.{done}
use Rattle.mw_logic.specs.Parts.{nested, IsPart, IsAdmitted}
use Rattle.mw_logic.specs.NormalForm.{is_comm, has_largest}
use Rattle.mw_solving.specs.Values.{IsValue}
use Rattle.mw_deduction.specs.Standing.{round}
use Rattle.mw_deduction.specs.Replay.{among}
use Rattle.mw_deduction.proofs.Clear.{clear_clean}
use Rattle.mw_deduction.proofs.NormalParts.{part_admitted}
use Rattle.mw_frames.specs.declared.job.Job.{Job}
use Rattle.mw_frames.specs.declared.job.Frame.{Frame}
use Rattle.mw_frames.specs.declared.looking.Asked.{Asked}
use Rattle.mw_frames.specs.declared.looking.Asked.TheVariants.{Term, Own}
use Rattle.mw_frames.specs.State.{Run, Data, IsRun}
use Rattle.mw_frames.specs.Redex.{hole_level, walked}
use Rattle.mw_frames.specs.Several.{IsSeveral}
use Rattle.mw_frames.specs.Steps.{IsAsked, IsAskedFor, asked_term}
use Rattle.mw_frames.specs.Taking.{before_taken, behind_taken, waiting_normal, IsLeft}
use Rattle.mw_frames.specs.Fires.{IsPartTaken}
use Rattle.mw_frames.proofs.Asking.{complete_asked, asked_value}
use Rattle.mw_frames.proofs.FiringHere.{at_it, seen_there, small_here}
use Rattle.mw_frames.proofs.LeftOver.{terms_of-list_of}
use Rattle.mw_frames.proofs.TakingPart.{takes}

-- what is left of the arguments can be kept in a frame
left_over : (sig : Signature) (f : ℕ) (ks : List ℕ) (args : RawTerms) → (os : List RawTerm) × (ys : List Job) × IsLeft sig f ks args os ys
left_over sig f ks args = by_comm (is_comm sig f) refl
  where
    before : List RawTerm
    before = list_of (before_taken ks args)

    behind : List RawTerm
    behind = list_of (behind_taken ks args)

    by_comm : (c : Bool) → is_comm sig f ≡ c → (os : List RawTerm) × (ys : List Job) × IsLeft sig f ks args os ys
    by_comm true c = (
      list_of (join (before_taken ks args) (behind_taken ks args)),
      [],
      record { behind = []; jobs = refl; together = λ h. (terms_of-list_of (join (before_taken ks args) (behind_taken ks args)), refl); apart = λ h. absurd (both_ways _ h c) },
    )
    by_comm false c = (
      before,
      waiting_normal behind,
      record { behind = behind; jobs = refl; together = λ h. absurd (both_ways _ c h); apart = λ h. (terms_of-list_of (before_taken ks args), terms_of-list_of (behind_taken ks args)) },
    )

module _ (K : Run) (sig : Signature) (run : IsRun K sig) (count : ℕ) where
  abbrev here : Signature
  here = K.over.signature

  abbrev IsAskedThere : RawTerm → Type 0
  IsAskedThere w = (d : Data) × IsAsked K count d w

  -- several arguments may be in hand as one term
  several_asked : (d : Data) (t w : RawTerm) (ks : List ℕ) → IsAsked K count d t → IsSeveral here ks t w → IsAskedThere w
  several_asked d t w ks a part =
      let f : Frame = record { op = part.takes.operator; level = hole_level here d.frames (apply part.takes.operator nil); from = length d.done; waits = length d.jobs } in
      let (os, ys, left) = left_over here part.takes.operator ks part.takes.args in
      let (i, seen, same, opens) = takes K sig run count d.values d.moves d.frames d.done d.jobs t w a.holds ks part.takes part.proper f refl refl refl refl os ys left in
      (record { frames = f ∷ d.frames; done = d.done ++ os; jobs = d.jobs ++ ys; values = d.values; moves = d.moves ++ among ks ∷ [] }, record { holds = i; seen = seen })

  part_asked : (d : Data) (t w : RawTerm) → IsAsked K count d t → (take : Option (List ℕ)) → IsPartTaken here take t w → IsAskedThere w
  part_asked d t w a None e = (d, subst (IsAsked K count d) (sym e) a)
  part_asked d t w a (Some ks) part = several_asked d t w ks a part

  asked_there : (d : Data) (a : Asked) → IsAskedFor K count d a → IsAskedThere (asked_term d a)
  asked_there d (Term t) h = (d, h)
  asked_there d (Own f) h = (_, complete_asked K sig run count d f h)

  -- `s_` stands on the largest numeral nowhere in a term that is in hand, and it is admitted
  small_asked : (d : Data) (t : RawTerm) → IsAsked K count d t → has_largest here t ≡ false
  small_asked d t a = let (clear, beside, small) = small_here K sig run count d t (walked K count d t a.holds) in small

  admitted_asked : (d : Data) (t : RawTerm) → IsAsked K count d t → IsAdmitted here (nested here t)
  admitted_asked d t a =
      let h = walked K count d t a.holds in
      let os = h.stand.opens in
      let at = at_it K sig run count d t h in
      let p : IsPart here (plug (round here os) (nested here t)) (round here os) (nested here t) = record {
        clean = clear_clean here run.accepted os t at.clear at.canonical (seen_there K sig run count d t h a.seen);
        equal = done;
      } in
      part_admitted here run.accepted (round here os) (nested here t) at.raw at.admitted p

  module _ (d : Data) (a : Asked) (h : IsAskedFor K count d a) (take : Option (List ℕ)) (w : RawTerm) (part : IsPartTaken here take (asked_term d a) w) where
    pub there : IsAskedThere w
    there = let (e, i) = asked_there d a h in part_asked e (asked_term d a) w i take part

    -- the same of what is asked for, and of several of its arguments; and each is a ground term in canonical form
    pub asked_small : has_largest here w ≡ false
    asked_small = small_asked there.0 w there.1

    pub asked_admitted : IsAdmitted here (nested here w)
    asked_admitted = admitted_asked there.0 w there.1

    pub asked_part_value : IsValue here w
    asked_part_value = asked_value K sig run count there.0 w there.1
