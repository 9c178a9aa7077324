-- What a proof at a place carries out.
use Rattle.std.specs.Prelude.{◌≡◌, ℕ, [], ◌∷◌, ◌++◌, refl}
use Rattle.std.proofs.Common.{sym, subst, ap, append-nil}
use Rattle.mw_logic.specs.Term.{RawTerm, RawTerms, nil, cons, join, Frame, Context, plug}
use Rattle.mw_logic.specs.Signature.{Signature}
use Rattle.mw_logic.specs.Axioms.{EqualModulo, done}
use Rattle.mw_logic.specs.Substitution.{Substitution, SameSolution}
use Rattle.mw_logic.specs.Proof.{Proof}
use Rattle.mw_logic.proofs.SortLaws.{join-nil, join_assoc}
use Rattle.mw_logic.proofs.Building.{untouched, beside, under_frame, in_frames, at_place}
use Rattle.mw_deduction.specs.Runs.{Dones, none, more, both, Carries, CarriesIn}

pub both_none : (ds : Dones) → both ds none ≡ ds
both_none none = refl
both_none (more d ds) = ap (more d) (both_none ds)

module _ (sig : Signature) where
  pub same_itself : (s : Substitution) → SameSolution sig s s
  same_itself s = (λ x t e. (t, e, done), λ x t e. (t, e, done))

  untouched_carries : (C : Context) (f : ℕ) (finished ts : RawTerms) → CarriesIn sig C f finished (untouched ts) ts ts none
  untouched_carries C f finished nil = (refl, refl, refl)
  untouched_carries C f finished (cons t ts) = (t, t, ts, ts, none, none, refl, refl, refl, (refl, refl), untouched_carries C f (join finished (cons t nil)) ts)

  beside_carries : (C : Context) (f : ℕ) (finished before : RawTerms) (p : Proof) (t u : RawTerm) (after : RawTerms) (ds : Dones) →
      Carries sig (record { operator = f; before = join finished before; after = after } ∷ C) p t u ds →
      CarriesIn sig C f finished (beside before p after) (join before (cons t after)) (join before (cons u after)) ds
  beside_carries C f finished nil p t u after ds l =
      (t, u, after, after, ds, none, refl, refl, sym (both_none ds), subst (λ b. Carries sig (record { operator = f; before = b; after = after } ∷ C) p t u ds) (join-nil finished) l, untouched_carries C f (join finished (cons u nil)) after)
  beside_carries C f finished (cons b before) p t u after ds l = (
    b,
    b,
    join before (cons t after),
    join before (cons u after),
    none,
    ds,
    refl,
    refl,
    refl,
    (refl, refl),
    beside_carries C f (join finished (cons b nil)) before p t u after ds (subst (λ d. Carries sig (record { operator = f; before = d; after = after } ∷ C) p t u ds) (sym (join_assoc finished (cons b nil) before)) l),
  )

  under_frame_carries : (c : Frame) (C : Context) (p : Proof) (t u : RawTerm) (ds : Dones) → Carries sig (c ∷ C) p t u ds → Carries sig C (under_frame c p) (plug (c ∷ []) t) (plug (c ∷ []) u) ds
  under_frame_carries c C p t u ds l = (c.operator, join c.before (cons t c.after), join c.before (cons u c.after), refl, refl, beside_carries C c.operator nil c.before p t u c.after ds l)

  pub in_frames_carries : (C D : Context) (p : Proof) (t u : RawTerm) (ds : Dones) → Carries sig (C ++ D) p t u ds → Carries sig D (in_frames C p) (plug C t) (plug C u) ds
  in_frames_carries [] D p t u ds l = l
  in_frames_carries (c ∷ C) D p t u ds l = in_frames_carries C D (under_frame c p) (plug (c ∷ []) t) (plug (c ∷ []) u) ds (under_frame_carries c (C ++ D) p t u ds l)

  pub at_place_carries : (C : Context) (p : Proof) (T t u U : RawTerm) (ds : Dones) → EqualModulo sig T (plug C t) → Carries sig C p t u ds → EqualModulo sig (plug C u) U → Carries sig [] (at_place C p) T U ds
  at_place_carries C p T t u U ds a l b = (
    plug C t,
    none,
    ds,
    refl,
    (a, refl),
    (plug C u, ds, none, sym (both_none ds), in_frames_carries C [] p t u ds (subst (λ E. Carries sig E p t u ds) (sym (append-nil C)) l), (b, refl)),
  )
