-- An operator on arguments that are in order already.
use Rattle.std.specs.Prelude.{◌≡◌, ℕ, true, false, refl}
use Rattle.mw_logic.specs.Term.{numeral, quoted, variable, apply, RawTerms, nil, cons}
use Rattle.mw_logic.specs.Signature.{Signature}
use Rattle.mw_logic.specs.Parts.{is_assoc}
use Rattle.mw_logic.specs.Kinds.{is_successor}
use Rattle.mw_logic.specs.NormalForm.{is_comm, identity_of, rebuilt, arranged, counted, applied_in}
use Rattle.mw_logic.proofs.Canonical.{Each, IsElement, flattened-elements}

-- an operator that isn't the successor counts nothing
pub uncounted : (f : ℕ) (ts : RawTerms) → counted false f ts ≡ apply f ts
uncounted f nil = refl
uncounted f (cons (numeral n) nil) = refl
uncounted f (cons (quoted q) nil) = refl
uncounted f (cons (variable x) nil) = refl
uncounted f (cons (apply g us) nil) = refl
uncounted f (cons t (cons u us)) = refl

-- elements in order are all that an associative operator has
pub elements_in_order : (sig : Signature) (f : ℕ) (ts : RawTerms) → is_assoc sig f ≡ true → Each (IsElement (identity_of sig f) f) ts → arranged (is_comm sig f) ts ≡ ts → rebuilt (identity_of sig f) f ts ≡ applied_in sig f ts
elements_in_order sig f ts h e o = rw (h, flattened-elements (identity_of sig f) f ts e, o) refl

-- and other arguments in order stand under their operator, or are counted on
pub arguments_in_order : (sig : Signature) (f : ℕ) (ts : RawTerms) → is_assoc sig f ≡ false → is_successor sig f ≡ false → arranged (is_comm sig f) ts ≡ ts → apply f ts ≡ applied_in sig f ts
arguments_in_order sig f ts h n o = rw (h, n, o, uncounted f ts) refl

pub counted_in_order : (sig : Signature) (f : ℕ) (ts : RawTerms) → is_assoc sig f ≡ false → is_successor sig f ≡ true → arranged (is_comm sig f) ts ≡ ts → counted true f ts ≡ applied_in sig f ts
counted_in_order sig f ts h n o = rw (h, n, o) refl
