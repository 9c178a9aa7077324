-- Runs one after another, and evidence that comes to wait.
use Rattle.std.specs.Prelude.{◌≡◌, List, [], ◌∷◌, ◌++◌, refl}
use Rattle.std.proofs.Common.{sym, subst, ap, ◌∙◌}
use Rattle.mw_logic.specs.Term.{RawTerm, Context, plug}
use Rattle.mw_logic.specs.Signature.{Signature}
use Rattle.mw_logic.specs.Axioms.{EqualModulo}
use Rattle.mw_logic.specs.Proof.{Proof, equality, transitivity, Proofs}
use Rattle.mw_logic.specs.Proof as proof
use Rattle.mw_logic.proofs.Building.{in_frames}
use Rattle.mw_deduction.specs.Places.{place_of, around_all, step_at}
use Rattle.mw_deduction.specs.Chains.{Replacement, proof_of}
use Rattle.mw_deduction.specs.Reading.{Reading, flat, behind, applying}
use Rattle.mw_deduction.specs.Runs.{Dones, none, more, both, Run, run, Runs, end, another, Carries, CarriesAll, SameDones, SameRuns, SameRun}
use Rattle.mw_deduction.specs.Replay.{put_behind}
use Rattle.mw_deduction.proofs.PlaceLaws.{in_frames_is}
use Rattle.mw_deduction.proofs.Carrying.{both_none, at_place_carries}

pub both-assoc : (ds es fs : Dones) → both (both ds es) fs ≡ both ds (both es fs)
both-assoc none es fs = refl
both-assoc (more d ds) es fs = ap (more d) (both-assoc ds es fs)

module _ (sig : Signature) where
  -- one list of replacements and then another
  pub carries_then : (rs qs : List Replacement) (t u v : RawTerm) (ds es : Dones) → Carries sig [] (proof_of rs) t u ds → Carries sig [] (proof_of qs) u v es → Carries sig [] (proof_of (rs ++ qs)) t v (both ds es)
  carries_then [] qs t u v ds es (a, e) c =
      subst (λ d. Carries sig [] (proof_of qs) t v (both d es)) (sym e) (subst (λ x. Carries sig [] (proof_of qs) x v es) (sym a) c)
  carries_then (r ∷ rs) qs t u v ds es (m, d, e, is, a, b) c =
      (m, d, both e es, ap (λ x. both x es) is ∙ both-assoc d e es, a, carries_then rs qs m u v e es b c)

  -- one more replacement, in a context with the levels that were entered
  pub carries_step : (R : Reading) (C : Context) (p : Proof) (t0 W t u U : RawTerm) (ds es : Dones) → flat R.entered ≡ place_of C
      → Carries sig [] (proof_of R.done) t0 W ds → EqualModulo sig W (plug C t) → Carries sig C p t u es → EqualModulo sig (plug C u) U
      → Carries sig [] (proof_of (applying p R).done) t0 U (both ds es)
  carries_step R C p t0 W t u U ds es e a w c z =
      let k : in_frames C p ≡ around_all (flat R.entered) p = in_frames_is C p ∙ ap (λ ls. around_all ls p) (sym e) in
      let P : Proof → Type 0 = λ q. Carries sig [] (transitivity equality (transitivity q equality)) W U es in
      let b : Carries sig [] (step_at (flat R.entered) p) W U es = subst P k (at_place_carries sig C p W t u U es w c z) in
      carries_then R.done (record { place = flat R.entered; step = p } ∷ []) t0 W U ds es a (U, es, none, sym (both_none es), b, (refl, refl))

  pub same_both : (ds es fs gs : Dones) → SameDones sig ds es → SameDones sig fs gs → SameDones sig (both ds fs) (both es gs)
  same_both none none fs gs a b = b
  same_both none (more e es) fs gs a b = absurd a
  same_both (more d ds) none fs gs a b = absurd a
  same_both (more d ds) (more e es) fs gs a b = (a.0, same_both ds es fs gs a.1 b)

  -- evidence behind evidence
  pub carries_behind : (es : Proofs) (rs : Runs) (p : Proof) (t u : RawTerm) (ds : Dones) → CarriesAll sig es rs → Carries sig [] p t u ds → CarriesAll sig (behind es p) (put_behind rs (run t u ds))
  carries_behind proof.nil rs p t u ds h c = subst (λ r. CarriesAll sig (proof.cons p proof.nil) (put_behind r (run t u ds))) (sym h) (t, u, ds, end, refl, c, refl)
  carries_behind (proof.cons q qs) rs p t u ds (v, w, es, rest, is, a, b) c =
      subst (λ r. CarriesAll sig (behind (proof.cons q qs) p) (put_behind r (run t u ds))) (sym is) (v, w, es, put_behind rest (run t u ds), refl, a, carries_behind qs rest p t u ds b c)

  pub same_behind : (rs qs : Runs) (r q : Run) → SameRuns sig rs qs → SameRun sig r q → SameRuns sig (put_behind rs r) (put_behind qs q)
  same_behind end end r q a b = (b, tt)
  same_behind end (another y ys) r q a b = absurd a
  same_behind (another x xs) end r q a b = absurd a
  same_behind (another x xs) (another y ys) r q a b = (a.0, same_behind xs ys r q a.1 b)
