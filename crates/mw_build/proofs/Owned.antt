-- Own statements of a module, as they are written or completed.
use Rattle.std.proofs.Common.{◌≡◌, ◌∙◌, true, false, Option, Some, None, IsTrue, Result, Ok, Err, IfOk, MatchOption, MatchResult, sym, subst}
use Rattle.std.specs.Prelude.{IfSome, option_map}
use denote.Ref.{Bor}
use Rattle.mw_logic.specs.Signature.{Signature, IsRawTerm}
use Rattle.mw_logic.specs.Accepted.{IsAccepted}
use Rattle.mw_logic.specs.Module.{Statement}
use Rattle.mw_least.specs.Conditions.{mentioned, AreRawFragments}
use Rattle.mw_least.specs.Workable.{AreSides, IsOrdinary}
use Rattle.mw_omod.specs.declared.classes.Classes.{Classes}
use Rattle.mw_omod.specs.Workable.{AreClasses}
use Rattle.mw_omod.specs.Completion.{IsCompletion, IsBad}
use Rattle.mw_omod.proofs.Kept.{sides_stay}
use Rattle.mw_omod.proofs.RawSides.{left_stays_raw, right_stays_raw}
use Rattle.mw_module.specs.declared.faults.FaultKind.{FaultKind}
use Rattle.mw_module.specs.declared.faults.FaultKind.TheVariants.{BadObject}
use Rattle.mw_build.specs.Imported.{IsNotOwise}
use Rattle.mw_build.specs.Statements.{IsFine, HasFaultOfTerms, IsApplicable, IsObjectRule, ObjectRuleFault, bad_completed, bad_written, bad_object, IsOwn, own_rule, own_equation, own_statement, OwnFault, of_rule, of_equation, of_statement}
use Rattle.mw_build.proofs.Bound.{right_bound, fragments_bound}

-- what can stand in a context
pub record CanStand (sig : Signature) (st : Statement) : Type 0 where
  pub sides : AreSides sig st
  pub ordinary : IsTrue st.executable → IsOrdinary sig st

-- a statement that can be applied is one that contexts hold
pub fine_ordinary : (sig : Signature) (e : Statement) → IsFine sig e → e.variables ≡ mentioned e → e.owise ≡ false → IsTrue e.executable → IsOrdinary sig e
fine_ordinary sig e fine variables owise h =
    let applicable : IsApplicable sig e.left e.right e.fragments = fine.applicable h in
    record {
      ordinary = owise;
      not_lone = λ x k. applicable.not_lone (x, k);
      variables = variables;
      bound = right_bound e.left e.right e.fragments applicable.bound;
      bound_in_turn = fragments_bound e.left e.right e.fragments applicable.bound;
    }

module _ (sig : Signature) (ok : IsAccepted sig) where
  pub own_stands : (objects : Option Classes) → IfSome objects (AreClasses sig) → (e st : Statement) → IsOwn sig objects e st → AreSides sig e → e.variables ≡ mentioned e → e.owise ≡ false → CanStand sig st
  own_stands objects classes e st (own_statement d fine) sides variables owise = record { sides = sides; ordinary = fine_ordinary sig d fine variables owise }
  own_stands objects classes e st (own_equation K d equation fine) sides variables owise = record { sides = sides; ordinary = fine_ordinary sig d fine variables owise }
  own_stands objects classes e st (own_rule K d c rule is) sides variables owise = record {
    sides = sides_stay sig K d c ok classes is.completed sides;
    ordinary = fine_ordinary sig c is.fine is.completed.variables (is.completed.owise ∙ owise);
  }

-- none of them is `owise`
pub own_not_owise : (sig : Signature) (objects : Option Classes) (e st : Statement) → IsOwn sig objects e st → e.owise ≡ false → IsNotOwise st
own_not_owise sig objects e st (own_statement d fine) owise = owise
own_not_owise sig objects e st (own_equation K d equation fine) owise = owise
own_not_owise sig objects e st (own_rule K d c rule is) owise = is.completed.owise ∙ owise

-- the terms of a completed rule are raw terms
module _ (sig : Signature) (ok : IsAccepted sig) (K : Classes) (classes : AreClasses sig K) (e d : Statement) (is : IsCompletion sig K e d) (left : IsRawTerm sig e.left) (right : IsRawTerm sig e.right) where
  pub completed_left : IsRawTerm sig d.left
  completed_left = (left_stays_raw sig ok K classes e.left e.right d.left is.sides.left_is left right).0

  pub completed_right : IsRawTerm sig d.right
  completed_right = (right_stays_raw sig ok K classes e.left e.right d.right is.sides.right_is left right).0

  pub completed_fragments : AreRawFragments sig e.fragments → AreRawFragments sig d.fragments
  completed_fragments raw = subst (AreRawFragments sig) (sym is.fragments) raw

-- what is told of the terms of a statement that stays as it is
abbrev pub IsChecked : Signature → Statement → Result Statement FaultKind → Type 0
IsChecked sig e r = MatchResult r (λ st. IsFine sig e × (st ≡ e)) (λ kind. HasFaultOfTerms sig e kind)

module _ (sig : Signature) where
  -- of a completed rule
  pub rule_so : {E : Type 0} (K : Classes) (e d : Statement) → IsCompletion sig K e d → (r : Result (Result Statement FaultKind) E) → IfOk r (IsChecked sig d)
      → IfOk r (λ s. MatchResult s (IsObjectRule sig K e) (λ kind. ObjectRuleFault sig K e kind))
  rule_so K e d is (Err x) h = h
  rule_so K e d is (Ok (Ok st)) h = subst (IsObjectRule sig K e) (sym h.1) (record { completed = is; fine = h.0 })
  rule_so K e d is (Ok (Err kind)) h = bad_completed d kind is h

  -- of a rule in which a bad object stands
  pub told_so : (K : Classes) (e : Statement) → IsBad sig K e.left e.right → (o : Option FaultKind) (kind : FaultKind) → MatchOption o (IsFine sig e) (λ k. HasFaultOfTerms sig e k)
      → MatchOption o (kind ≡ BadObject) (λ k. kind ≡ k) → ObjectRuleFault sig K e kind
  told_so K e bad None kind fine is = subst (ObjectRuleFault sig K e) (sym is) (bad_object bad fine)
  told_so K e bad (Some k) kind fault is = subst (ObjectRuleFault sig K e) (sym is) (bad_written k bad fault)

  -- and of own statements
  pub own_rule_so : {E : Type 0} (K : Classes) (e : Statement) → e.rule ≡ true → (r : Result (Result Statement FaultKind) E)
      → IfOk r (λ s. MatchResult s (IsObjectRule sig K e) (λ kind. ObjectRuleFault sig K e kind)) → IfOk r (λ s. MatchResult s (IsOwn sig (Some K) e) (λ kind. OwnFault sig (Some K) e kind))
  own_rule_so K e rule (Err x) h = h
  own_rule_so K e rule (Ok (Ok st)) h = own_rule K e st rule h
  own_rule_so K e rule (Ok (Err kind)) h = of_rule K e kind rule h

  pub own_equation_so : {E : Type 0} (K : Classes) (e : Statement) → e.rule ≡ false → (r : Result (Result Statement FaultKind) E) → IfOk r (IsChecked sig e)
      → IfOk r (λ s. MatchResult s (IsOwn sig (Some K) e) (λ kind. OwnFault sig (Some K) e kind))
  own_equation_so K e rule (Err x) h = h
  own_equation_so K e rule (Ok (Ok st)) h = subst (IsOwn sig (Some K) e) (sym h.1) (own_equation K e rule h.0)
  own_equation_so K e rule (Ok (Err kind)) h = of_equation K e kind rule h

  pub own_statement_so : {E : Type 0} (e : Statement) → (r : Result (Result Statement FaultKind) E) → IfOk r (IsChecked sig e) → IfOk r (λ s. MatchResult s (IsOwn sig None e) (λ kind. OwnFault sig None e kind))
  own_statement_so e (Err x) h = h
  own_statement_so e (Ok (Ok st)) h = subst (IsOwn sig None e) (sym h.1) (own_statement e h.0)
  own_statement_so e (Ok (Err kind)) h = of_statement e kind h

-- what holds of an image that is there
pub some_mapped : {A B : Type 0} (f : A → B) (P : B → Type 0) (o : Option A) → IfSome o (λ a. P (f a)) → IfSome (option_map f o) P
some_mapped f P None h = h
some_mapped f P (Some a) h = h

pub some_copied : {A : Type 0} (P : A → Type 0) (o : Option (Bor A)) → IfSome (option_map (λ (a : Bor A). a.now) o) P → IfSome o (λ a. P a.now)
some_copied P None h = h
some_copied P (Some a) h = h
