-- What an operator's axioms say of its identity, and which terms are elements.
use Rattle.std.specs.Prelude.{◌≡◌, ℕ, suc, List, [], ◌∷◌, length, ◌==◌, not, Bool, true, false, nat_eq, Option, Some, None, cond, refl}
use Rattle.std.proofs.Common.{◌∙◌, ap, sym, arith}
use Rattle.std.proofs.lemmas.Bool.{both_ways, eq-eqb}
use Rattle.mw_logic.specs.Term.{RawTerm, numeral, quoted, variable, apply, RawTerms, nil, cons}
use Rattle.mw_logic.specs.Terms.{terms_of}
use Rattle.mw_logic.specs.Signature.{Signature, IsAssociative, Identity}
use Rattle.mw_logic.specs.Accepted.{IsAccepted}
use Rattle.mw_logic.specs.Parts.{is_assoc}
use Rattle.mw_logic.specs.NormalForm.{identity_of, is_identity, own_arguments, elements}
use Rattle.mw_logic.proofs.Canonical.{assoc-true, assoc_operator, identity_operator}
use Rattle.mw_canon.specs.Axioms.{HasAxioms}
use Rattle.mw_canon.specs.declared.axioms.Axioms.{Axioms}
use Rattle.mw_canon.specs.declared.axioms.Axioms.TheVariants.{Plain, Commutative, Successor, Associative}
use Rattle.mw_term.specs.declared.signature.Identity.{Identity as Named}
use Rattle.mw_matching.specs.Found.{are_none, stands}

-- what passes the test is associative
pub associative : (sig : Signature) (f : ℕ) → is_assoc sig f ≡ true → IsAssociative sig f
associative sig f h = let p : _ = assoc_operator sig f h in record { operator = p.0; is_there = p.1; assoc = p.2 }

-- what isn't associative has no identity
pub no_identity : (sig : Signature) (f : ℕ) → IsAccepted sig → is_assoc sig f ≡ false → identity_of sig f ≡ None
no_identity sig f ok h = by_option (identity_of sig f) refl
  where
    by_option : (o : Option Identity) → identity_of sig f ≡ o → identity_of sig f ≡ None
    by_option None e = e
    by_option (Some i) e =
        let p : _ = identity_operator sig f i e in
        absurd (both_ways _ h (assoc-true sig f p.0 p.1 (ok.identity f p.0 i p.1 p.2).0))

-- an identity is what has no elements
pub no_elements : (e : Option Identity) (f : ℕ) (t : RawTerm) → are_none (elements e f t) ≡ is_identity e t
no_elements e f t = by_test (is_identity e t) (own_arguments f t) (some_own t)
  where
    some_own : (t : RawTerm) → are_none (own_arguments f t) ≡ false
    some_own (numeral n) = refl
    some_own (quoted q) = refl
    some_own (variable x) = refl
    some_own (apply g nil) = refl
    some_own (apply g (cons t ts)) = either (nat_eq f g)
      where
        either : (b : Bool) → are_none (cond b (cons t ts) (cons (apply g (cons t ts)) nil)) ≡ false
        either true = refl
        either false = refl

    by_test : (b : Bool) (ts : RawTerms) → are_none ts ≡ false → are_none (cond b nil ts) ≡ b
    by_test true ts h = refl
    by_test false ts h = h

-- and what the table says is not
pub no_identity_by : (sig : Signature) (f : ℕ) (x : Axioms) → ((c : Bool) (i : Option Named) → x ≡ Associative c i → ⊥) → IsAccepted sig → HasAxioms sig f x → identity_of sig f ≡ None
no_identity_by sig f Plain n ok h = no_identity sig f ok h.0
no_identity_by sig f Commutative n ok h = no_identity sig f ok h.0
no_identity_by sig f Successor n ok h = no_identity sig f ok h.0
no_identity_by sig f (Associative c i) n ok h = absurd (n c i refl)

pub nothing_is : (e : Option Identity) (t : RawTerm) → e ≡ None → false ≡ is_identity e t
nothing_is e t h = ap (λ i. is_identity i t) (sym h)

-- lists without elements
pub none_empty : (ts : List RawTerm) → (length ts == 0) ≡ are_none (terms_of ts)
none_empty [] = refl
none_empty (t ∷ ts) = apart (length ts)
  where
    apart : (n : ℕ) → (suc n == 0) ≡ false
    apart n = grind arith

-- an operator stands on arguments where there are some
pub stands_where : (f g : ℕ) (ts : List RawTerm) → f ≡ g → not (length ts == 0) ≡ stands f (apply g (terms_of ts))
stands_where f g [] e = refl
stands_where f g (t ∷ ts) e = ap not (none_empty (t ∷ ts)) ∙ sym (eq-eqb f g e)
