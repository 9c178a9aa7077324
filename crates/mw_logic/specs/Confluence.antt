-- Tame modules, and reducible terms. In a well-formed and tame module whose equations are confluent no condition both
-- holds and fails, so a normal term is not reducible; and the normal terms that equations reach from one term are equal
-- modulo the axioms. (Maude Manual, chapter 4, "Admissible functional modules".)
use Rattle.std.specs.Prelude.{ℕ, List, [], ◌∷◌, Bool, ◌||◌, IsTrue, IsFalse, ⊤}
use Rattle.mw_logic.specs.Term.{Variable, RawTerm, Context}
use Rattle.mw_logic.specs.Signature.{Member, IsRawTerm}
use Rattle.mw_logic.specs.Substitution.{Substitution, occurs, IsSolution}
use Rattle.mw_logic.specs.Parts.{IsPart}
use Rattle.mw_logic.specs.Module.{Fragment, equal, matches, has_sort, is_true, Statement, Module, IsStatement, MeetsRow}
use Rattle.mw_logic.specs.Proof.{Proofs}
use Rattle.mw_logic.specs.Judgements.{Held}
use Rattle.mw_logic.specs.Ends.{IsSide}

-- each variable of the term is one of these
abbrev pub HasOnly : (Variable → Bool) → RawTerm → Type 0
HasOnly b t = (x : Variable) → IsTrue (occurs x t) → IsTrue (b x)

-- Each side of the fragments has only bound variables: these ones, and behind a match those of its pattern too.
abbrev pub AreBound : (Variable → Bool) → List Fragment → Type 0
AreBound b [] = ⊤
AreBound b (equal u v ∷ C) = HasOnly b u × HasOnly b v × AreBound b C
AreBound b (is_true t ∷ C) = HasOnly b t × AreBound b C
AreBound b (has_sort t S ∷ C) = HasOnly b t × AreBound b C
AreBound b (matches p t ∷ C) = HasOnly b t × AreBound (λ x. b x || occurs x p) C

-- In a tame module each side of a condition is a raw term, all of whose variables are bound when it is evaluated: by the
-- left side of the statement, or by an earlier match. Each module that is read is tame, since its statements have no
-- conditions; what reads conditions has to ask this of them.
pub record IsTame (M : Module) : Type 0 where
  pub bound : (k : ℕ) (st : Statement) → IsStatement M k st → AreBound (λ x. occurs x st.left) st.fragments
  pub raw : (k : ℕ) (st : Statement) → IsStatement M k st
      → (f : Fragment) → Member f st.fragments → (t : RawTerm) → IsSide f t → IsRawTerm M.signature t

-- t is reducible at rank n: at a part of it an equation has a solution for which its condition holds, or a row is met. As
-- in `IsNormalBy`, an `owise` equation counts like others.
pub data IsReducible (M : Module) (n : ℕ) (t : RawTerm) : Type 0 where
  by_equation : (C : Context) (w : RawTerm) → IsPart M.signature t C w
      → (k : ℕ) (e : Statement) → IsStatement M k e → IsFalse e.rule
      → (s r : Substitution) (es : Proofs) → IsSolution M.signature e.left w [] s → Held M n e.fragments s es r
      → IsReducible M n t
  by_row : (C : Context) (w : RawTerm) → IsPart M.signature t C w → MeetsRow M.signature w → IsReducible M n t
