-- An operator without an identity, which isn't the successor of numbers, stays on top of each canonical instance; and
-- so does another one on two arguments on which such operators are on top, or that are numerals or quoted identifiers.
use Rattle.std.specs.Prelude.{◌≡◌, ℕ, suc, List, [], Bool, true, false, Option, Some, None, option_map, is_some, not, IsTrue, ◌⊎◌, ⊤, cond, refl}
use Rattle.std.proofs.Common.{sym, ap, subst, ◌∙◌, arith, inl, inr}
use Rattle.std.proofs.lemmas.Bool.{both_ways}
use Rattle.std.proofs.lemmas.Option.{none-some}
use Rattle.mw_logic.specs.Term.{Variable, RawTerm, numeral, quoted, variable, apply, RawTerms, nil, cons, join}
use Rattle.mw_logic.specs.Signature.{Signature, Identity, constant_of, numeral_of, IsRawTerm}
use Rattle.mw_logic.specs.Accepted.{IsAccepted, IsWellSorted}
use Rattle.mw_logic.specs.Axioms.{EqualModulo, done}
use Rattle.mw_logic.specs.CanonicalPart.{AreSeveral}
use Rattle.mw_logic.specs.Kinds.{is_successor}
use Rattle.mw_logic.specs.Parts.{is_assoc, nested, number_of_terms}
use Rattle.mw_logic.specs.NormalForm.{is_comm, identity_of, is_identity, own_arguments, elements, flattened, rebuilt, arranged, counted, applied, applied_in, normal_form, height}
use Rattle.mw_logic.specs.Substitution.{Substitution, IsSolution}
use Rattle.mw_logic.proofs.Canonical.{Each, IsElement, IsCanonical, AreCanonical, assoc-true, arranged-nil, arranged-one, canonical}
use Rattle.mw_logic.proofs.CanonicalTerms.{not_successor}
use Rattle.mw_logic.proofs.Successor.{is_successor-sound}
use Rattle.mw_logic.proofs.SolutionLaws.{solution_kept}
use Rattle.mw_logic.proofs.Soundness.{IsLong, own_arguments-long, long-join, long-arranged, several-join, several-arranged, rebuilt-several, normal_form-sound}
use Rattle.mw_logic.proofs.RawKept.{raw_kept}
use Rattle.mw_position.specs.Variables.{met, placed, all_placed}
use Rattle.mw_matching.specs.Matches.{Theory, evaluated, evaluated_all, IsMatch}
use Rattle.mw_matching.proofs.Matches.{number_evaluated}
use Rattle.mw_solving.specs.Values.{IsValue, AreValues}
use Rattle.mw_solving.proofs.Parts.{part_value, arguments_several}
use Rattle.mw_solving.proofs.Solved.{solved, solution_matches}
use Rattle.mw_term.specs.Signatures.{identity_of as identity_named}
use Rattle.mw_term.specs.declared.signature.Identity.{Identity as Named}
use Rattle.mw_deduction.specs.Tops.{IsTop, whole, several}
use Rattle.mw_index.specs.Index.{Asks, operator_of}
use Rattle.mw_index.specs.Sections.{OperatorStays, TopStays, OneStays, TwoStay, IsLeaf, IsSectionOf}
use Rattle.mw_index.specs.declared.index.Section.{Section}
use Rattle.mw_index.specs.declared.index.Section.TheVariants.{Operator, Any, Leaves}
use Rattle.mw_index.proofs.PlainTerms.{uncounted}

-- none or several
abbrev pub IsNotOne : RawTerms → Type 0
IsNotOne nil = ⊤
IsNotOne (cons t nil) = ⊥
IsNotOne (cons t (cons u us)) = ⊤

-- as many terms
number_not_one : (us ts : RawTerms) → number_of_terms us ≡ number_of_terms ts → IsNotOne ts → IsNotOne us
number_not_one nil ts e h = tt
number_not_one (cons v nil) nil e h = absurd (omega (arith, e))
number_not_one (cons v nil) (cons t nil) e h = h
number_not_one (cons v nil) (cons t (cons u ts)) e h = absurd (omega (arith, e))
number_not_one (cons v (cons w us)) ts e h = tt

number_long : (us ts : RawTerms) → number_of_terms us ≡ number_of_terms ts → IsLong ts → IsLong us
number_long nil nil e h = h
number_long nil (cons t ts) e h = absurd (omega (arith, e))
number_long (cons u us) ts e h = tt

number_several : (us ts : RawTerms) → number_of_terms us ≡ number_of_terms ts → AreSeveral ts → AreSeveral us
number_several us nil e h = absurd h
number_several us (cons t nil) e h = absurd h
number_several nil (cons t (cons u ts)) e h = absurd (omega (arith, e))
number_several (cons v nil) (cons t (cons u ts)) e h = absurd (omega (arith, e))
number_several (cons v (cons w us)) (cons t (cons u ts)) e h = tt

number_placed : (xs : List Variable) (ts : RawTerms) → number_of_terms (all_placed xs ts) ≡ number_of_terms ts
number_placed xs nil = refl
number_placed xs (cons t ts) = ap suc (number_placed xs ts)

flattened_long : (f : ℕ) (t : RawTerm) (ts : RawTerms) → IsLong (flattened None f (cons t ts))
flattened_long f t ts = long-join _ (flattened None f ts) (own_arguments-long f t)

several_long : (ts : RawTerms) → AreSeveral ts → IsLong ts
several_long nil h = absurd h
several_long (cons t ts) h = tt

-- behind other terms
long_behind : (ts us : RawTerms) → IsLong us → IsLong (join ts us)
long_behind nil us h = h
long_behind (cons t ts) us h = tt

several_behind : (ts us : RawTerms) → AreSeveral us → AreSeveral (join ts us)
several_behind nil us h = h
several_behind (cons t nil) nil h = h
several_behind (cons t nil) (cons u us) h = tt
several_behind (cons t (cons v ts)) us h = tt

-- no associative operator is the successor of numbers
pub not_both : (sig : Signature) → IsAccepted sig → (f : ℕ) → is_assoc sig f ≡ true → is_successor sig f ≡ false
not_both sig ok f h = by_test (is_successor sig f) refl
  where
    by_test : (b : Bool) → is_successor sig f ≡ b → is_successor sig f ≡ false
    by_test false e = e
    by_test true e = absurd (not_successor sig ok f h (is_successor-sound sig f e))

-- what isn't there as the table has it isn't there
pub is_not_there : (o : Option Identity) (i : Option Named) (b : Bool) → o ≡ option_map identity_named i → is_some i ≡ not b → IsTrue b → o ≡ None
is_not_there o None b e n h = e
is_not_there o (Some i) b e n h = absurd (both_ways true (n ∙ ap not h) refl)

module _ (sig : Signature) where
  -- what an operator that stays gives has it on top, on arguments where there are some
  pub applied_on : (f : ℕ) (vs : RawTerms) → OperatorStays sig f → (is_assoc sig f ≡ true → IsNotOne vs) → (us : RawTerms) × (applied_in sig f vs ≡ apply f us) × (IsLong vs → IsLong us)
  applied_on f vs (n, s) h = by_assoc (is_assoc sig f) refl
    where
      joined : (vs : RawTerms) → IsNotOne vs → (us : RawTerms) × (rebuilt None f (arranged (is_comm sig f) (flattened None f vs)) ≡ apply f us) × (IsLong vs → IsLong us)
      joined nil o = (nil, ap (rebuilt None f) (arranged-nil (is_comm sig f)), λ l. l)
      joined (cons t nil) o = absurd o
      joined (cons t (cons u us)) o =
          let several = several-arranged (is_comm sig f) _ (several-join _ _ (own_arguments-long f t) (flattened_long f u us)) in
          (_, rebuilt-several None f _ several, λ l. several_long _ several)

      by_assoc : (b : Bool) → is_assoc sig f ≡ b → (us : RawTerms) × (applied b (is_comm sig f) (is_successor sig f) (identity_of sig f) f vs ≡ apply f us) × (IsLong vs → IsLong us)
      by_assoc false a = (arranged (is_comm sig f) vs, ap (λ s. counted s f (arranged (is_comm sig f) vs)) s ∙ uncounted f (arranged (is_comm sig f) vs), long-arranged (is_comm sig f) vs)
      by_assoc true a =
          let (us, e, l) = joined vs (h a) in
          (us, ap (λ i. rebuilt i f (arranged (is_comm sig f) (flattened i f vs))) n ∙ e, l)

  -- an associative operator of a canonical term doesn't stand on one argument
  not_one : (f : ℕ) (args : RawTerms) → is_assoc sig f ≡ true → IsCanonical sig (apply f args) → IsNotOne args
  not_one f nil h k = tt
  not_one f (cons t nil) h k =
      let one : elements (identity_of sig f) f t ≡ cons t nil = (k.2 h).0 in
      let again : rebuilt (identity_of sig f) f (arranged (is_comm sig f) (flattened (identity_of sig f) f (cons t nil))) ≡ apply f (cons t nil) = rw h at k.1 in
      let is_t : t ≡ apply f (cons t nil) = sym (ap (rebuilt (identity_of sig f) f) (ap (λ ts. arranged (is_comm sig f) (join ts nil)) one ∙ arranged-one (is_comm sig f) t)) ∙ again in
      let high : height t ≡ height (apply f (cons t nil)) = ap height is_t in
      absurd (omega (arith, high))
  not_one f (cons t (cons u us)) h k = tt

-- two are several
two_several : (sig : Signature) (ts : RawTerms) → TwoStay sig ts → AreSeveral ts
two_several sig nil h = absurd h
two_several sig (cons t nil) (inl h) = absurd h.1
two_several sig (cons t nil) (inr h) = absurd h
two_several sig (cons t (cons u us)) h = tt

counted_several : (s : Bool) (f : ℕ) (ts : RawTerms) → AreSeveral ts → counted s f ts ≡ apply f ts
counted_several s f nil h = absurd h
counted_several s f (cons t nil) h = absurd h
counted_several s f (cons t (cons u us)) h = refl

-- an operator on arguments that isn't the identity isn't it on others
other_still : (e : Option Identity) (g : ℕ) (ts us : RawTerms) → (IsLong ts → IsLong us) → is_identity e (apply g ts) ≡ false → is_identity e (apply g us) ≡ false
other_still None g ts us l h = refl
other_still (Some (numeral_of n)) g ts us l h = refl
other_still (Some (constant_of c)) g nil nil l h = h
other_still (Some (constant_of c)) g (cons t ts) nil l h = absurd (l tt)
other_still (Some (constant_of c)) g ts (cons u us) l h = refl

-- an element isn't the identity
element_other : (e : Option Identity) (f : ℕ) (t : RawTerm) → IsElement e f t → is_identity e t ≡ false
element_other e f t h = by_name (is_identity e t) refl
  where
    by_name : (b : Bool) → is_identity e t ≡ b → is_identity e t ≡ false
    by_name false i = i
    by_name true i = absurd (subst IsLong (sym (ap (λ b. cond b nil (own_arguments f t)) (sym i) ∙ h)) tt)

-- and what isn't the identity has elements
elements_long : (e : Option Identity) (f : ℕ) (t : RawTerm) → is_identity e t ≡ false → IsLong (elements e f t)
elements_long e f t i = subst (λ b. IsLong (cond b nil (own_arguments f t))) (sym i) (own_arguments-long f t)

-- any term may stand at a position, and an operator gives nothing
abbrev pub free_theory : Theory
free_theory = record { has = λ i u. true; splits = λ f qs t. [] }

pub none_valued : (sig : Signature) → AreValues sig []
none_valued sig i u e = absurd (none-some u e)

-- instances of canonical terms, with variables at positions
module _ (sig : Signature) (ok : IsAccepted sig) (xs : List Variable) (us : List RawTerm) where
  abbrev made : RawTerm → RawTerm
  made t = evaluated sig us (placed xs t)

  abbrev all_made : RawTerms → RawTerms
  all_made ts = evaluated_all sig us (all_placed xs ts)

  number_made : (ts : RawTerms) → number_of_terms (all_made ts) ≡ number_of_terms ts
  number_made ts = number_evaluated sig ok free_theory us _ ∙ number_placed xs ts

  operator_made : (g : ℕ) (ts : RawTerms) → OperatorStays sig g → IsCanonical sig (apply g ts) → (vs : RawTerms) × (made (apply g ts) ≡ apply g vs) × (IsLong ts → IsLong vs)
  operator_made g ts s k =
      let (vs, e, l) = applied_on sig g (all_made ts) s (λ a. number_not_one _ _ (number_made ts) (not_one sig g ts a k)) in
      (vs, e, λ m. l (number_long _ _ (number_made ts) m))

  -- where what is on top stays, no instance is an identity that the term isn't
  other_made : (e : Option Identity) (t : RawTerm) → TopStays sig t → IsCanonical sig t → is_identity e t ≡ false → is_identity e (made t) ≡ false
  other_made e (numeral n) s k i = i
  other_made e (quoted q) s k i = i
  other_made e (variable x) s k i = absurd s
  other_made e (apply g ts) s k i =
      let (vs, is, l) = operator_made g ts s k in
      ap (is_identity e) is ∙ other_still e g ts vs l i

  element_made : (e : Option Identity) (f : ℕ) (t : RawTerm) → TopStays sig t → IsCanonical sig t → IsElement e f t → IsLong (elements e f (made t))
  element_made e f t s k i = elements_long e f (made t) (other_made e t s k (element_other e f t i))

  one_made : (e : Option Identity) (f : ℕ) (ts : RawTerms) → OneStays sig ts → AreCanonical sig ts → Each (IsElement e f) ts → IsLong (flattened e f (all_made ts))
  one_made e f nil h k i = absurd h
  one_made e f (cons t ts) (inl h) k i = long-join _ (flattened e f (all_made ts)) (element_made e f t h k.0 i.0)
  one_made e f (cons t ts) (inr h) k i = long_behind (elements e f (made t)) _ (one_made e f ts h k.1 i.1)

  two_made : (e : Option Identity) (f : ℕ) (ts : RawTerms) → TwoStay sig ts → AreCanonical sig ts → Each (IsElement e f) ts → AreSeveral (flattened e f (all_made ts))
  two_made e f nil h k i = absurd h
  two_made e f (cons t ts) (inl (h, r)) k i = several-join _ _ (element_made e f t h k.0 i.0) (one_made e f ts r k.1 i.1)
  two_made e f (cons t ts) (inr h) k i = several_behind (elements e f (made t)) _ (two_made e f ts h k.1 i.1)

  -- an operator on two such arguments is on top of each instance
  several_made : (f : ℕ) (ts : RawTerms) → TwoStay sig ts → IsCanonical sig (apply f ts) → operator_of (made (apply f ts)) ≡ Some f
  several_made f ts h k = by_assoc (is_assoc sig f) refl
    where
      by_assoc : (b : Bool) → is_assoc sig f ≡ b → operator_of (applied b (is_comm sig f) (is_successor sig f) (identity_of sig f) f (all_made ts)) ≡ Some f
      by_assoc false a = ap operator_of (counted_several (is_successor sig f) f _ (several-arranged (is_comm sig f) _ (number_several _ ts (number_made ts) (two_several sig ts h))))
      by_assoc true a = ap operator_of (rebuilt-several (identity_of sig f) f _ (several-arranged (is_comm sig f) _ (two_made (identity_of sig f) f ts h k.0 (k.2 a))))

-- a solution of a raw term p gives, by the canonical values of its variables, the canonical form of p
module _ (sig : Signature) (ok : IsAccepted sig) (fitting : IsWellSorted sig) (p : RawTerm) (raw : IsRawTerm sig p) where
  abbrev pub form : RawTerm
  form = normal_form sig p

  pub form_equal : EqualModulo sig p (nested sig form)
  form_equal = normal_form-sound sig ok raw

  pub form_raw : IsRawTerm sig (nested sig form)
  form_raw = (raw_kept sig ok form_equal).0 raw

  module _ (w : RawTerm) (v : IsValue sig w) (s : Substitution) (sol : IsSolution sig p (nested sig w) [] s) where
    pub form_solution : IsSolution sig (nested sig form) (nested sig w) [] s
    form_solution = solution_kept sig ok fitting form_equal done sol

    abbrev pub form_values : List RawTerm
    form_values = solved sig ok form form_raw [] tt (none_valued sig) w v s form_solution

    pub form_matches : IsMatch sig free_theory (placed (met [] form) form) w [] form_values
    form_matches = solution_matches sig ok form form_raw [] tt (none_valued sig) w v s form_solution free_theory (λ i S u e k h. refl)

    -- so the operator on top of p's canonical form stands on top, where it stays or two of its arguments do
    pub section_asked : (q : Section) → IsSectionOf sig form q → Asks q (operator_of w)
    section_asked (Operator f) (args, e, h) =
        let gives : evaluated sig form_values (placed (met [] form) form) ≡ w = form_matches.gives in
        let k : IsCanonical sig (apply f args) = subst (IsCanonical sig) e (canonical sig ok p) in
        ap operator_of (sym gives ∙ ap (λ t. evaluated sig form_values (placed (met [] form) t)) e) ∙ on_top k h
      where
        on_top : IsCanonical sig (apply f args) → OperatorStays sig f ⊎ TwoStay sig args → operator_of (evaluated sig form_values (placed (met [] form) (apply f args))) ≡ Some f
        on_top k (inl s) = ap operator_of (operator_made sig ok (met [] form) form_values f args s k).1
        on_top k (inr s) = several_made sig ok (met [] form) form_values f args s k
    section_asked Any h = tt
    section_asked Leaves h = leaf form h form_matches.gives
      where
        leaf : (t : RawTerm) → IsLeaf t → evaluated sig form_values (placed (met [] form) t) ≡ w → operator_of w ≡ None
        leaf (numeral n) h e = ap operator_of (sym e)
        leaf (quoted q) h e = ap operator_of (sym e)
        leaf (variable x) h e = absurd h
        leaf (apply f ts) h e = absurd h

-- a top part has the operator of the whole on top
pub top_operator : (sig : Signature) (t w : RawTerm) → IsTop sig t w → operator_of w ≡ operator_of t
top_operator sig t _ whole = refl
top_operator sig _ _ (several a s c) = refl

-- and is a value where the whole is
pub top_value : (sig : Signature) → IsAccepted sig → (t w : RawTerm) → IsTop sig t w → IsValue sig t → IsValue sig w
top_value sig ok t _ whole v = v
top_value sig ok _ _ (several {f} {ts} {us} a s c) v =
    let h : is_assoc sig f ≡ true = assoc-true sig f a.operator a.is_there a.assoc in
    part_value sig ok f h ts us (arguments_several sig ok f h ts v) v s c
