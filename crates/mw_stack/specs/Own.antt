-- The arguments of an operator that are done: they stand in a list of terms from a place on.
use Rattle.std.specs.Prelude.{◌≡◌, ℕ, List, drop, Bool, true, false}
use Rattle.mw_logic.specs.Term.{RawTerm, apply, RawTerms, nil, cons, join}
use Rattle.mw_logic.specs.Terms.{terms_of}
use Rattle.mw_logic.specs.Signature.{Signature, IsRawTerm}
use Rattle.mw_logic.specs.Parts.{is_assoc, all_nested}
use Rattle.mw_logic.specs.NormalForm.{is_comm, identity_of, elements, arranged}
use Rattle.mw_logic.proofs.Canonical.{Each, IsElement, AreCanonical}

abbrev pub own : ℕ → List RawTerm → RawTerms
own from ds = terms_of (drop from ds)

-- what t is under f: its elements where f is associative, else t alone
abbrev pub spread : Signature → ℕ → RawTerm → RawTerms
spread sig f t = by_assoc (is_assoc sig f)
  where
    by_assoc : Bool → RawTerms
    by_assoc true = elements (identity_of sig f) f t
    by_assoc false = cons t nil

-- f's own from a place on with what t is under it behind them, or, where it is commutative, in order among them
abbrev pub own_with : Signature → ℕ → ℕ → List RawTerm → RawTerm → RawTerms
own_with sig f from ds t = arranged (is_comm sig f) (join (own from ds) (spread sig f t))

-- they are in order under f
abbrev pub IsOrdered : Signature → ℕ → RawTerms → Type 0
IsOrdered sig f ts = arranged (is_comm sig f) ts ≡ ts

-- what stands under f: nothing of it has to be flattened, and where f isn't associative, f on it means a raw term
pub record IsFair (sig : Signature) (f : ℕ) (ts : RawTerms) : Type 0 where
  pub canonical : AreCanonical sig ts
  pub elements : is_assoc sig f ≡ true → Each (IsElement (identity_of sig f) f) ts
  pub raw : is_assoc sig f ≡ false → IsRawTerm sig (apply f (all_nested sig ts))
