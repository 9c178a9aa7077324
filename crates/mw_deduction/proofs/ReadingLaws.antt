-- One more replacement behind those that were read, and what is counted.
use Rattle.std.specs.Prelude.{◌≡◌, ◌+◌, List, [], ◌∷◌, refl}
use Rattle.std.proofs.Common.{sym, subst, ap, ◌∙◌, arith, append-nil}
use Rattle.mw_logic.specs.Term.{RawTerm, Context, plug}
use Rattle.mw_logic.specs.Axioms.{EqualModulo}
use Rattle.mw_logic.specs.Substitution.{Substitution}
use Rattle.mw_logic.specs.Module.{Fragment, Module}
use Rattle.mw_logic.specs.Proof.{Proof, reflexivity, equality, transitivity, replacement, row, Proofs, rules, steps, count, count_of}
use Rattle.mw_logic.specs.Proof as proof
use Rattle.mw_logic.specs.Judgements.{StepTest, Leads}
use Rattle.mw_logic.proofs.Building.{in_frames, in_frames_leads}
use Rattle.mw_deduction.specs.Places.{place_of, around_all}
use Rattle.mw_deduction.specs.Reading.{Reading, flat, behind, applying, given, counted}
use Rattle.mw_deduction.specs.Chains.{Replacement, proof_of}
use Rattle.mw_deduction.proofs.PlaceLaws.{in_frames_is, step_at-counts}
use Rattle.mw_deduction.proofs.Joining.{leads_then, counts-append}

module _ (M : Module) (Step : StepTest) (H : List Fragment → Substitution → Proofs → Substitution → Type 0) (F : List Fragment → Substitution → Type 0) where
  -- one more step, in a context with the levels that were entered; all before and after it modulo the axioms
  pub leads_step : (R : Reading) (C : Context) (p : Proof) (t0 W t u U : RawTerm) → flat R.entered ≡ place_of C
      → Leads M Step H F [] (proof_of R.done) t0 W → EqualModulo M.signature W (plug C t) → Leads M Step H F C p t u → EqualModulo M.signature (plug C u) U
      → Leads M Step H F [] (proof_of (applying p R).done) t0 U
  leads_step R C p t0 W t u U e a w l z =
      let k : in_frames C p ≡ around_all (flat R.entered) p = in_frames_is C p ∙ ap (λ ls. around_all ls p) (sym e) in
      let P : Context → Type 0 = λ D. Leads M Step H F D p t u in
      let b : Leads M Step H F [] (in_frames C p) (plug C t) (plug C u) = in_frames_leads M Step H F C [] p t u (subst P (sym (append-nil C)) l) in
      let Q : Proof → Type 0 = λ q. Leads M Step H F [] q (plug C t) (plug C u) in
      leads_then M Step H F R.done (record { place = flat R.entered; step = p } ∷ []) t0 W U a (U, (plug C t, w, (plug C u, subst Q k b, z)), refl)

-- each step that is read counts one more in all
behind-count : (ps : Proofs) (p : Proof) → count_of (behind ps p) ≡ count_of ps + count p
behind-count proof.nil p = omega arith
behind-count (proof.cons q qs) p = let h = behind-count qs p in omega (arith, h)

-- one more step
pub one : (p : Proof) (R : Reading) → (rules (proof_of (applying p R).done) ≡ rules (proof_of R.done) + rules p) × (steps (proof_of (applying p R).done) ≡ steps (proof_of R.done) + steps p) × (count (proof_of (applying p R).done) ≡ count (proof_of R.done) + count p)
one p R =
    let r : Replacement = record { place = flat R.entered; step = p } in
    let (a, b, c) = counts-append R.done (r ∷ []) in
    let (d, e, f) = step_at-counts (flat R.entered) p in (omega (arith, a, d), omega (arith, b, e), omega (arith, c, f))

pub counted_applying : (p : Proof) (R : Reading) → count p ≡ 1 + count_of R.ready → counted (applying p R) ≡ counted R + 1
counted_applying p R e = let (a, b, c) = one p R in omega (arith, c, e)

-- a side that was shown counts in the statement that it waits for
pub counted_given : (R Q : Reading) → R.ready ≡ proof.nil → counted (given (proof_of R.done) Q) ≡ counted R + counted Q
counted_given R Q e = let h = behind-count Q.ready (transitivity equality (transitivity (proof_of R.done) equality)) in let k : count_of R.ready ≡ 0 = rw e refl in omega (arith, h, k)
