-- Tests of three or more arguments, as the program sees them.
use Rattle.std.specs.Prelude.{◌≡◌, ◌≤◌, ℕ, List, [], ◌∷◌, length, get_or, Bool, true, false, Option, IsTrue, ◌↔◌, refl}
use Rattle.std.proofs.Common.{ap, sym, subst, ◌∙◌, arith}
use Rattle.std.proofs.lemmas.Bool.{both_ways}
use Rattle.mw_logic.specs.Term.{RawTerm, apply, cons}
use Rattle.mw_logic.specs.Terms.{terms_of}
use Rattle.mw_logic.specs.Signature.{Signature}
use Rattle.mw_logic.specs.Parts.{is_assoc, number_of_terms}
use Rattle.mw_logic.specs.NormalForm.{is_comm, arranged}
use Rattle.mw_logic.specs.Module.{Module, IsPolymorphic, IsTruth}
use Rattle.mw_canon.specs.Axioms.{HasAxioms}
use Rattle.mw_canon.specs.Canonical.{IsAdmittedTerm}
use Rattle.mw_canon.specs.declared.axioms.Axioms.{Axioms}
use Rattle.mw_canon.specs.declared.axioms.Axioms.TheVariants.{Plain, Commutative, Successor, Associative}
use Rattle.mw_term.specs.declared.signature.Identity.{Identity}
use Rattle.mw_least.specs.Workable.{IsWorkable}
use Rattle.mw_builtin.specs.Steps.{IsTestOf, IsGroundTerm}
use Rattle.mw_builtin.proofs.Forms.{listed_number}
use Rattle.mw_verdict.proofs.RowKinds.{test_name}
use Rattle.mw_check.specs.Answers.{IsComputation}
use Rattle.mw_check.specs.RowSides.{IsTwice}
use Rattle.mw_check.specs.declared.rows.Computed.TheVariants as computed
use Rattle.mw_check.proofs.RowPairs.{named_test}
use Rattle.mw_check.proofs.RowSeveral.{associates, in_order, computed_once, computed_twice, pair_ground}

module _ (M : Module) (work : IsWorkable M) (f : ℕ) (xs : List RawTerm) (a : IsAdmittedTerm M.signature (apply f (terms_of xs))) (test : IsTestOf M.signature f) (many : 3 ≤ length xs) where
  abbrev sig : Signature
  sig = M.signature

  abbrev e : Bool
  e = (named_test sig f test).0

  abbrev p : IsPolymorphic sig f (test_name e)
  p = (named_test sig f test).1

  more : 3 ≤ number_of_terms (terms_of xs)
  more = let l = listed_number xs in omega (arith, l, many)

  pub is_associative : is_assoc sig f ≡ true
  is_associative = associates M work f e p (terms_of xs) a more

  -- of the axioms of operators these have
  pub not_other : (facts : Signature) → facts ≡ sig → (x : Axioms) → HasAxioms facts f x → ((comm : Bool) (i : Option Identity) → x ≡ Associative comm i → ⊥) → ⊥
  not_other facts is x h none = by_axioms x (subst (λ g. HasAxioms g f x) is h) none
    where
      by_axioms : (x : Axioms) → HasAxioms sig f x → ((comm : Bool) (i : Option Identity) → x ≡ Associative comm i → ⊥) → ⊥
      by_axioms Plain h none = both_ways _ h.0 is_associative
      by_axioms Commutative h none = both_ways _ h.0 is_associative
      by_axioms Successor h none = both_ways _ h.0 is_associative
      by_axioms (Associative c i) h none = none c i refl

  module _ (facts : Signature) (is : facts ≡ sig) (comm : Bool) (commutes : is_comm facts f ≡ comm) where
    comm_is : is_comm sig f ≡ comm
    comm_is = ap (λ g. is_comm g f) (sym is) ∙ commutes

    pub ordered : arranged comm (terms_of xs) ≡ terms_of xs
    ordered = subst (λ c. arranged c (terms_of xs) ≡ terms_of xs) comm_is (in_order M work f e p (terms_of xs) a more)

    pub shared_once : (b : Bool) → IsTrue b ↔ IsTwice comm (terms_of xs) → b ≡ false → (most n : ℕ) → IsComputation M most n (apply f (terms_of xs)) computed.NotNormal
    shared_once b tells found most n =
        computed_once M work f e p (terms_of xs) a more n (λ t. both_ways _ found (tells.1 (subst (λ c. IsTwice c (terms_of xs)) comm_is t))) most

    pub shared_twice : (b : Bool) → IsTrue b ↔ IsTwice comm (terms_of xs) → b ≡ true → (to : RawTerm) → ((e : Bool) → IsPolymorphic sig f (test_name e) → IsTruth sig e to) → (most n : ℕ)
        → IsComputation M most n (apply f (terms_of xs)) (computed.Gives to)
    shared_twice b tells found to truth most n =
        computed_twice M work f e p (terms_of xs) a more (subst (λ c. IsTwice c (terms_of xs)) (sym comm_is) (tells.0 found)) most n to (truth e p)

  pub first_pair : (x : RawTerm) → x ≡ get_or xs 0 x → IsGroundTerm sig (apply f (terms_of (x ∷ x ∷ [])))
  first_pair x q = by_list xs refl q
    where
      by_list : (ys : List RawTerm) → xs ≡ ys → x ≡ get_or ys 0 x → IsGroundTerm sig (apply f (terms_of (x ∷ x ∷ [])))
      by_list [] e q = let l = ap length e in absurd (omega (arith, l, many))
      by_list (y ∷ ys) i q = pair_ground M work f e p (terms_of xs) a more x (terms_of ys) (ap terms_of i ∙ ap (λ z. cons z (terms_of ys)) (sym q))
