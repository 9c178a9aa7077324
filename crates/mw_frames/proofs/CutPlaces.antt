-- Where a term comes among a frame's own arguments these are cut.
use Rattle.std.specs.Prelude.{◌≡◌, ◌≤◌, ℕ, zero, suc, false, refl}
use Rattle.std.proofs.Common.{subst, arith}
use Rattle.mw_logic.specs.Term.{RawTerm, RawTerms, nil, cons}
use Rattle.mw_logic.specs.Terms.{skip}
use Rattle.mw_logic.specs.Signature.{Signature}
use Rattle.mw_logic.specs.Parts.{number_of_terms}
use Rattle.mw_logic.specs.NormalForm.{is_comm, arranged}
use Rattle.mw_stack.specs.Places.{IsPlace}
use Rattle.mw_stack.proofs.Cutting.{place_cuts}
use Rattle.mw_frames.specs.Machines.{IsCutAt}

pub is_cut : (sig : Signature) (f : ℕ) (ts : RawTerms) (x : RawTerm) (i : ℕ) → i ≤ number_of_terms ts → IsPlace (is_comm sig f) ts x i → arranged (is_comm sig f) ts ≡ ts → IsCutAt sig f ts x i
is_cut sig f ts x i b p o = record { bound = b; behind = λ z. none z p; cut = λ waiting q. place_cuts (is_comm sig f) ts x waiting i o p q }
  where
    all : (j : ℕ) (us : RawTerms) → j ≡ number_of_terms us → skip j us ≡ nil
    all zero nil e = refl
    all zero (cons u us) e = cc
    all (suc j) nil e = refl
    all (suc j) (cons u us) e = all j us (omega (arith, e))

    none : is_comm sig f ≡ false → IsPlace (is_comm sig f) ts x i → skip i ts ≡ nil
    none z p = all i ts (subst (λ c. IsPlace c ts x i) z p)
