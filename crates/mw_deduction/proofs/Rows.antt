-- Plain terms by their top parts; and where the operators on numbers meet a row.
use Rattle.std.specs.Prelude.{◌≡◌, ℕ, List, [], Bool, true, false, IsFalse, refl}
use Rattle.mw_logic.specs.Term.{RawTerm, numeral, apply, nil, cons, binary, Context}
use Rattle.mw_logic.specs.Signature.{Signature, IsRawTerm}
use Rattle.mw_logic.specs.Axioms.{done}
use Rattle.mw_logic.specs.Accepted.{IsAccepted, IsWellSorted}
use Rattle.mw_logic.specs.Substitution.{Substitution, IsSolution}
use Rattle.mw_logic.specs.Parts.{is_assoc, nested, IsClean, IsTopPart, whole, proper}
use Rattle.mw_logic.specs.NormalForm.{is_comm, arranged, normal_form}
use Rattle.mw_logic.specs.Module.{Fragment, Module, Statement, IsStatement, MeetsRow, IsTooBigPair}
use Rattle.mw_logic.specs.Judgements.{IsPlainBy}
use Rattle.mw_logic.proofs.RawKept.{raw_kept}
use Rattle.mw_logic.proofs.Soundness.{normal_form-sound}
use Rattle.mw_logic.proofs.CleanForms.{assoc_form, plain_form}
use Rattle.mw_logic.proofs.Inside.{raw_inside, clean_inside}
use Rattle.mw_logic.proofs.SolutionLaws.{solution_kept}
use Rattle.mw_logic.specs.Parts.{IsPart}
use Rattle.mw_deduction.specs.Tops.{IsTop}
use Rattle.mw_deduction.proofs.TopParts.{top_part_kept}

-- a clean operator on two numerals is flattened to itself, in order
pub pair_form : (sig : Signature) → IsAccepted sig → (f m n : ℕ) → IsRawTerm sig (binary f (numeral m) (numeral n)) → IsClean sig (binary f (numeral m) (numeral n))
    → normal_form sig (binary f (numeral m) (numeral n)) ≡ apply f (arranged (is_comm sig f) (cons (numeral m) (cons (numeral n) nil)))
pair_form sig ok f m n r c = by_assoc (is_assoc sig f) refl
  where
    by_assoc : (b : Bool) → is_assoc sig f ≡ b → normal_form sig (binary f (numeral m) (numeral n)) ≡ apply f (arranged (is_comm sig f) (cons (numeral m) (cons (numeral n) nil)))
    by_assoc true h = assoc_form sig ok f h (numeral m) (numeral n) c tt tt
    by_assoc false h = plain_form sig ok f h (cons (numeral m) (cons (numeral n) nil)) c (tt, (tt, tt))

-- w is plain where at the top parts of its flattened form no ordinary equation, no row and no big pair is met
pub plain_built : (M : Module) → IsAccepted M.signature → IsWellSorted M.signature → (F : List Fragment → Substitution → Type 0) (t : RawTerm) → IsRawTerm M.signature (nested M.signature t) → normal_form M.signature (nested M.signature t) ≡ t
    → ((w : RawTerm) → IsTop M.signature t w → (k : ℕ) (e : Statement) → IsStatement M k e → IsFalse e.rule → IsFalse e.owise → (s : Substitution) → IsSolution M.signature e.left (nested M.signature w) [] s → F e.fragments s)
    → ((w : RawTerm) → IsRawTerm M.signature w → IsClean M.signature w → IsTop M.signature t (normal_form M.signature w) → ¬ MeetsRow M.signature w)
    → ((w : RawTerm) → IsRawTerm M.signature w → IsClean M.signature w → IsTop M.signature t (normal_form M.signature w) → ¬ IsTooBigPair M.signature w)
    → IsPlainBy M F (nested M.signature t)
plain_built M ok sorted F t r k equations rows pairs = record {
  no_equation = λ C v p number e is eq ow s sol. let x = part_of C v p in equations (normal_form M.signature v) (top_part_kept M.signature ok t k r C v p) number e is eq ow s (solution_kept M.signature ok sorted done (normal_form-sound M.signature ok x.0) sol);
  no_row = λ C v p. let x = part_of C v p in rows v x.0 x.1 (top_part_kept M.signature ok t k r C v p);
  no_pair = λ C v p. let x = part_of C v p in pairs v x.0 x.1 (top_part_kept M.signature ok t k r C v p);
}
  where
    is_part : (C : Context) (v : RawTerm) → IsTopPart M.signature (nested M.signature t) C v → IsPart M.signature (nested M.signature t) C v
    is_part C v (whole e p) = p
    is_part C _ (proper A fs p) = p

    part_of : (C : Context) (v : RawTerm) → IsTopPart M.signature (nested M.signature t) C v → IsRawTerm M.signature v × IsClean M.signature v
    part_of C v p = let q = is_part C v p in (raw_inside M.signature ok C v ((raw_kept M.signature ok q.equal).0 r), clean_inside M.signature ok C v q.clean)
