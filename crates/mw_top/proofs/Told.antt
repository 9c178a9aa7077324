-- What is known of a pattern and a subject that were read, from what is known of their canonical forms.
use Rattle.std.proofs.Common.{◌≡◌, ◌≢◌, List, ℕ, IsTrue, Result, Ok, Err, MatchResult, inl, inr, refl, sym, subst}
use Rattle.mw_logic.specs.Term.{RawTerm, is_ground}
use Rattle.mw_logic.specs.Signature.{Signature, IsRawTerm}
use Rattle.mw_logic.specs.Parts.{IsTooDeep}
use Rattle.mw_logic.specs.NormalForm.{normal_form}
use Rattle.mw_canon.specs.Canonical.{IsAdmittedTerm}
use Rattle.mw_least.specs.Workable.{IsWorkable}
use Rattle.mw_solving.proofs.Admitted.{admitted_value}
use Rattle.mw_text.specs.Readings.{ReadsPair}
use Rattle.mw_module.specs.declared.faults.FaultKind.{FaultKind}
use Rattle.mw_module.specs.declared.faults.FaultKind.TheVariants.{TooDeep}
use Rattle.mw_build.specs.Statements.{FitsIn, Oversized, deep, large}
use Rattle.mw_build.specs.Modules.{Accepted}
use Rattle.mw_top.specs.declared.matching.Sides.{Sides}
use Rattle.mw_top.specs.Matches.{AreCanonicalSides, AreOversized, deep as one_deep, large as one_large, SidesFault, big}
use Rattle.mw_top.proofs.Answering.{canonical_admitted}

pub too_deep : (sig : Signature) (t : RawTerm) (kind : FaultKind) → kind ≡ TooDeep → Oversized sig t kind → IsTooDeep sig t
too_deep sig t kind e (deep k) = k
too_deep sig t kind e (large n k) = cc

-- of two terms that are kept out, where it isn't the first one's depth, what keeps the second one out is told
pub second_told : (a : Accepted) (p t : RawTerm) (first second : FaultKind) → first ≢ TooDeep → Oversized a.module.signature p first → Oversized a.module.signature t second → AreOversized a p t second
second_told a p t first second other (deep k) h = absurd (other refl)
second_told a p t first second other (large n k) (deep d) = one_deep (inr d)
second_told a p t first second other (large n k) (large m l) = one_large n m (inl k)

-- where one alone is kept out
pub first_alone : (a : Accepted) (p t : RawTerm) (kind : FaultKind) → Oversized a.module.signature p kind → FitsIn a.module.signature t → AreOversized a p t kind
first_alone a p t kind (deep k) f = one_deep (inl k)
first_alone a p t kind (large n k) f = one_large n f.not_deep (inl k)

pub second_alone : (a : Accepted) (p t : RawTerm) (kind : FaultKind) → FitsIn a.module.signature p → Oversized a.module.signature t kind → AreOversized a p t kind
second_alone a p t kind f (deep k) = one_deep (inr k)
second_alone a p t kind f (large n k) = one_large f.not_deep n (inr k)

-- the canonical forms of sides that were read
pub sides_so : (a : Accepted) → IsWorkable a.module → (left right : List (List ℕ)) (p t : RawTerm) → ReadsPair a.module.signature a.variables left right (p, t) → IsRawTerm a.module.signature p → IsRawTerm a.module.signature t
    → IsTrue (is_ground t) → (r : Result Sides FaultKind)
    → MatchResult r (λ (s : Sides). FitsIn a.module.signature p × FitsIn a.module.signature t × (s.pattern ≡ normal_form a.module.signature p) × (s.subject ≡ normal_form a.module.signature t)) (AreOversized a p t)
    → MatchResult r (AreCanonicalSides a left right) (SidesFault a left right)
sides_so a work left right p t read raw_p raw_t ground (Ok s) (f, g, is_p, is_t) =
    let ok = work.signature.accepted in
    let admitted : IsAdmittedTerm a.module.signature s.subject = subst (IsAdmittedTerm a.module.signature) (sym is_t) (canonical_admitted a.module.signature ok work.numbers t raw_t ground g) in
    record {
      p = p;
      t = t;
      are = record { read = read; ground = ground; pattern_fits = f; subject_fits = g };
      raw = raw_p;
      pattern_is = is_p;
      subject_is = is_t;
      value = admitted_value a.module.signature ok s.subject admitted;
      admitted = admitted;
    }
sides_so a work left right p t read raw_p raw_t ground (Err kind) h = big p t kind read ground h
