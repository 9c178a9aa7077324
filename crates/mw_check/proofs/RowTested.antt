-- Tests of two terms, as the program sees them.
use Rattle.std.specs.Prelude.{◌≡◌, ◌≤◌, ◌<◌, ℕ, List, [], ◌∷◌, length, get_or, Option}
use Rattle.std.proofs.Common.{sym, subst, arith}
use Rattle.mw_logic.specs.Term.{RawTerm, apply}
use Rattle.mw_logic.specs.Terms.{terms_of}
use Rattle.mw_logic.specs.Signature.{Signature}
use Rattle.mw_logic.specs.Module.{Module}
use Rattle.mw_logic.specs.Judgements.{IsNormal}
use Rattle.mw_canon.specs.Canonical.{IsAdmittedTerm}
use Rattle.mw_solving.proofs.Parts.{several_number}
use Rattle.mw_least.specs.Workable.{IsWorkable}
use Rattle.mw_builtin.specs.Steps.{IsTestOf, IsSide, IsGiven}
use Rattle.mw_builtin.proofs.BuiltLaws.{test_args}
use Rattle.mw_builtin.proofs.Forms.{are_several, listed_number}
use Rattle.mw_check.specs.Answers.{IsComputation}
use Rattle.mw_check.specs.RowSides.{AreTold}
use Rattle.mw_check.specs.declared.normal.Normal.TheVariants as normal
use Rattle.mw_check.specs.declared.rows.Computed.TheVariants as computed
use Rattle.mw_check.proofs.RowForms.{canonical_term}
use Rattle.mw_check.proofs.RowPairs.{named_test, first_admitted, second_admitted, gives_equal, told_normal, told_reducible, told_stopped}
use Rattle.mw_check.proofs.RowSeveral.{spelled_test}

-- a test has two arguments or more
pub two_args : (M : Module) → IsWorkable M → (f : ℕ) (xs : List RawTerm) → IsAdmittedTerm M.signature (apply f (terms_of xs)) → IsTestOf M.signature f → 2 ≤ length xs
two_args M work f xs a test =
    let sig = M.signature in
    let ok = work.signature.accepted in
    let (e, p) = named_test sig f test in
    let (K, two) = test_args sig p.0 (work.built.shapes f p.0 p.1 p.3) (spelled_test e p.2) in
    let n = several_number (terms_of xs) (are_several sig ok f (terms_of xs) (canonical_term sig ok (apply f (terms_of xs)) a) a.raw p.0 K K p.1 two) in
    let l = listed_number xs in
    omega (arith, n, l)

-- these two
pub two_listed : (xs : List RawTerm) (x y : RawTerm) → 2 ≤ length xs → length xs < 3 → x ≡ get_or xs 0 x → y ≡ get_or xs 1 y → xs ≡ x ∷ y ∷ []
two_listed [] x y l h p q = absurd (omega (arith, l))
two_listed (z ∷ []) x y l h p q = absurd (omega (arith, l))
two_listed (z ∷ w ∷ []) x y l h p q = cc
two_listed (z ∷ w ∷ v ∷ xs) x y l h p q = absurd (omega (arith, h))

module _ (M : Module) (work : IsWorkable M) (f : ℕ) (xs : List RawTerm) (x y : RawTerm) (is : xs ≡ x ∷ y ∷ []) (a : IsAdmittedTerm M.signature (apply f (terms_of xs))) where
  abbrev sig : Signature
  sig = M.signature

  whole_admitted : IsAdmittedTerm sig (apply f (terms_of (x ∷ y ∷ [])))
  whole_admitted = subst (λ ys. IsAdmittedTerm sig (apply f (terms_of ys))) is a

  pub first_arg : IsAdmittedTerm sig x
  first_arg = first_admitted M work f x y whole_admitted

  pub second_arg : IsAdmittedTerm sig y
  second_arg = second_admitted M work f x y whole_admitted

  module _ (to : RawTerm) (given : (take : Option (List ℕ)) × IsGiven sig (IsSide sig f xs) (apply f (terms_of xs)) take to) (most n : ℕ) where
    given_two : IsGiven sig (IsSide sig f (x ∷ y ∷ [])) (apply f (terms_of (x ∷ y ∷ []))) given.0 to
    given_two = subst (λ ys. IsGiven sig (IsSide sig f ys) (apply f (terms_of ys)) given.0 to) is given.1

    pub tested_same : x ≡ y → IsComputation M most n (apply f (terms_of xs)) (computed.Gives to)
    tested_same e = subst (λ ys. IsComputation M most n (apply f (terms_of ys)) (computed.Gives to)) (sym is) (gives_equal M work f x y whole_admitted given.0 to given_two (IsNormal M n) e)

    pub tested_normal : AreTold M most n x y normal.Yes → IsComputation M most n (apply f (terms_of xs)) (computed.Gives to)
    tested_normal h = subst (λ ys. IsComputation M most n (apply f (terms_of ys)) (computed.Gives to)) (sym is) (told_normal M work f x y whole_admitted given.0 to given_two most n h)

    pub tested_reducible : IsTestOf sig f → (x ≡ y → ⊥) → AreTold M most n x y normal.No → IsComputation M most n (apply f (terms_of xs)) computed.NotNormal
    tested_reducible t d h = subst (λ ys. IsComputation M most n (apply f (terms_of ys)) computed.NotNormal) (sym is) (told_reducible M work f x y whole_admitted given.0 to given_two t d most n h)

    pub tested_stopped : IsTestOf sig f → (x ≡ y → ⊥) → AreTold M most n x y normal.Stopped → IsComputation M most n (apply f (terms_of xs)) (computed.Stopped to)
    tested_stopped t d h = subst (λ ys. IsComputation M most n (apply f (terms_of ys)) (computed.Stopped to)) (sym is) (told_stopped M work f x y whole_admitted given.0 to given_two t d most n h)
