-- What a run to a normal term shows: a side's evaluation; and final terms by their flattened parts.
use Rattle.std.specs.Prelude.{◌≡◌, ℕ, zero, suc, [], true, IsTrue}
use Rattle.std.proofs.Common.{subst, arith}
use Rattle.mw_logic.specs.Term.{RawTerm}
use Rattle.mw_logic.specs.Signature.{IsRawTerm}
use Rattle.mw_logic.specs.Axioms.{EqualModulo}
use Rattle.mw_logic.specs.Accepted.{IsAccepted, IsWellSorted}
use Rattle.mw_logic.specs.Substitution.{Substitution, IsSolution}
use Rattle.mw_logic.specs.Parts.{nested}
use Rattle.mw_logic.specs.NormalForm.{normal_form}
use Rattle.mw_logic.specs.CanonicalPart.{IsPartOf}
use Rattle.mw_logic.specs.Module.{Module, Statement, IsStatement}
use Rattle.mw_logic.specs.Proof.{Proof, equality, transitivity, rules}
use Rattle.mw_logic.specs.Judgements.{judgements_with, admitted_judgements, Leads, AdmittedStep, Evaluates, IsNormalBy, IsNormal, Fails}
use Rattle.mw_logic.specs.Ends.{IsFinal}
use Rattle.mw_logic.proofs.Soundness.{normal_form-sound}
use Rattle.mw_logic.proofs.RawKept.{raw_kept}
use Rattle.mw_logic.proofs.Inside.{raw_inside}
use Rattle.mw_logic.proofs.PartsOfNormalForm.{part_kept}
use Rattle.mw_logic.proofs.SolutionLaws.{solution_kept}
use Rattle.mw_logic.specs.Axioms.{done}
use Rattle.mw_deduction.specs.Chains.{proof_of}
use Rattle.mw_deduction.specs.Reading.{Reading}
use Rattle.mw_deduction.specs.Standing.{At}

by_rank : (M : Module) → IsAccepted M.signature → (n : ℕ) (side : RawTerm) (p : Proof) (v u : RawTerm) → IsRawTerm M.signature side
    → Leads M (AdmittedStep M) (admitted_judgements M n).Held (admitted_judgements M n).Fails [] p (nested M.signature (normal_form M.signature side)) v → EqualModulo M.signature v u
    → (admitted_judgements M n).Proves (transitivity equality (transitivity p equality)) side u
unfolding judgements_with
by_rank M ok zero side p v u r l e = (_, normal_form-sound M.signature ok r, (v, l, e))
by_rank M ok (suc n) side p v u r l e = (_, normal_form-sound M.signature ok r, (v, l, e))

normal_at : (M : Module) (n : ℕ) (u : RawTerm) → IsNormalBy M (admitted_judgements M n).Fails u → (admitted_judgements M n).Normal u
unfolding judgements_with
normal_at M zero u h = h
normal_at M (suc n) u h = h

-- A side that was reduced to a normal term evaluates to that, by equality, the replacements that were read, and equality.
pub side_evaluates : (M : Module) → IsAccepted M.signature → (n : ℕ) (side : RawTerm) (R : Reading) (t : RawTerm) → IsRawTerm M.signature side
    → At M (admitted_judgements M n).Held (admitted_judgements M n).Fails (nested M.signature (normal_form M.signature side)) R [] t → rules (proof_of R.done) ≡ 0 → IsNormalBy M (admitted_judgements M n).Fails (nested M.signature t)
    → Evaluates (admitted_judgements M n) side (transitivity equality (transitivity (proof_of R.done) equality)) (nested M.signature t)
side_evaluates M ok n side R t r at z normal = record {
  proves = by_rank M ok n side (proof_of R.done) at.whole (nested M.signature t) r at.leads at.is;
  equational = omega (arith, z);
  normal = normal_at M n (nested M.signature t) normal;
}

-- A normal term is final where, at each part for rules of its flattened form, each rule's every solution fails.
pub final_found : (M : Module) → IsAccepted M.signature → IsWellSorted M.signature → (u : RawTerm) → IsRawTerm M.signature (nested M.signature u) → normal_form M.signature (nested M.signature u) ≡ u → IsNormal M 63 (nested M.signature u)
    → ((w : RawTerm) → IsPartOf M.signature true u w → (k : ℕ) (r : Statement) → IsStatement M k r → IsTrue r.rule → (s : Substitution) → IsSolution M.signature r.left (nested M.signature w) [] s → Fails M 63 r.fragments s)
    → IsFinal M (nested M.signature u)
final_found M ok sorted u raw k normal tried = record {
  normal = normal;
  no_rule = λ C w p number r is rule s sol.
      let q : IsPartOf M.signature true (normal_form M.signature (nested M.signature u)) (normal_form M.signature w) = part_kept M.signature ok C w (λ t. p.not_frozen) raw p.part in
      let z : IsRawTerm M.signature w = raw_inside M.signature ok C w ((raw_kept M.signature ok p.part.equal).0 raw) in
      tried (normal_form M.signature w) (subst (λ x. IsPartOf M.signature true x (normal_form M.signature w)) k q) number r is rule s (solution_kept M.signature ok sorted done (normal_form-sound M.signature ok z) sol);
}
