-- The lists of canonical arguments on which an operator gives a term.
use Rattle.std.specs.Prelude.{◌≡◌, ◌≤◌, ℕ, true, false}
use Rattle.mw_logic.specs.Term.{RawTerm, RawTerms}
use Rattle.mw_logic.specs.Signature.{Signature}
use Rattle.mw_logic.specs.Parts.{is_assoc, number_of_terms}
use Rattle.mw_logic.specs.NormalForm.{is_comm, identity_of, flattened, arranged, applied_in}
use Rattle.mw_logic.proofs.Canonical.{AreCanonical}

-- vs are k canonical arguments on which f gives t
pub record Gives (sig : Signature) (f k : ℕ) (t : RawTerm) (vs : RawTerms) : Type 0 where
  pub canonical : AreCanonical sig vs
  pub size : number_of_terms vs ≡ k
  pub gives : applied_in sig f vs ≡ t

-- as many arguments as the axioms ask for
pub record HasArity (sig : Signature) (f k : ℕ) : Type 0 where
  pub some : is_assoc sig f ≡ true → 1 ≤ k
  pub two : is_assoc sig f ≡ false → is_comm sig f ≡ true → k ≡ 2

-- vs are k canonical arguments whose elements under f, joined and in order, are zs
pub record Spells (sig : Signature) (f k : ℕ) (zs vs : RawTerms) : Type 0 where
  pub canonical : AreCanonical sig vs
  pub size : number_of_terms vs ≡ k
  pub whole : arranged (is_comm sig f) (flattened (identity_of sig f) f vs) ≡ zs
