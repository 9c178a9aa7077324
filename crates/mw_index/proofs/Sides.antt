-- The sides of a module's equations and their variables.
use Rattle.std.specs.Prelude.{◌≡◌, ℕ, List, [], ◌++◌, length, map, true, ◌||◌, IsTrue, refl}
use Rattle.std.specs.List.{zip}
use Rattle.std.proofs.Common.{sym, ap, subst, ◌∙◌}
use Rattle.std.proofs.lemmas.Bool.{or_left, or_right}
use Rattle.mw_logic.specs.Term.{Variable, RawTerm, numeral, quoted, variable, apply, RawTerms, nil, cons}
use Rattle.mw_logic.specs.Signature.{Signature, IsRawTerm}
use Rattle.mw_logic.specs.Accepted.{IsAccepted}
use Rattle.mw_logic.specs.Module.{Module, Statement, IsStatement}
use Rattle.mw_logic.specs.NormalForm.{normal_form}
use Rattle.mw_logic.specs.Substitution.{occurs, occurs_in}
use Rattle.mw_logic.proofs.InstanceLaws.{occurs_kept}
use Rattle.mw_logic.proofs.SameConditions.{same_variable-refl}
use Rattle.mw_logic.proofs.Soundness.{normal_form-sound}
use Rattle.mw_least.specs.Workable.{IsWorkable, IsOrdinary}
use Rattle.mw_least.specs.Conditions.{mentioned, occurs_among}
use Rattle.mw_compile.specs.Compiled.{IsCompiled, AreAmong}
use Rattle.mw_compile.specs.declared.compiled.Compiled.{Compiled}
use Rattle.mw_position.specs.Positions.{position}
use Rattle.mw_position.specs.Variables.{is_in, met, placed, all_placed, AreDistinct, bound_variables}
use Rattle.mw_position.proofs.Meeting.{is_in-met, AreDistinct-met, met_grows, place-append}
use Rattle.mw_solving.proofs.Nesting.{nested_occurs}
use Rattle.mw_solving.proofs.Compiled.{compiled_equal}
use Rattle.mw_term.specs.declared.subst.Binding.{Binding}
use Rattle.mw_index.specs.Sections.{AreIn}
use Rattle.mw_index.proofs.Fragments.{HasFront, front_behind, front_met_fragments, zip_front, distinct_met_fragments, in_met_fragments}
use Rattle.mw_index.proofs.SameMembers.{member_in}

-- the canonical form has the same variables
pub form_occurs : (sig : Signature) → IsAccepted sig → (p : RawTerm) → IsRawTerm sig p → (x : Variable) → occurs x (normal_form sig p) ≡ occurs x p
form_occurs sig ok p raw x = sym (nested_occurs sig x (normal_form sig p)) ∙ sym (occurs_kept sig x (normal_form-sound sig ok raw))

-- variables behind those of a term change no position
mutual
  pub placed_front : (xs zs : List Variable) (t : RawTerm) → ((x : Variable) → IsTrue (occurs x t) → IsTrue (is_in x xs)) → placed (xs ++ zs) t ≡ placed xs t
  placed_front xs zs (numeral n) h = refl
  placed_front xs zs (quoted q) h = refl
  placed_front xs zs (variable x) h = ap (λ n. variable (position n)) (place-append x xs zs (h x (same_variable-refl x)))
  placed_front xs zs (apply f ts) h = ap (apply f) (all_placed_front xs zs ts h)

  all_placed_front : (xs zs : List Variable) (ts : RawTerms) → ((x : Variable) → IsTrue (occurs_in x ts) → IsTrue (is_in x xs)) → all_placed (xs ++ zs) ts ≡ all_placed xs ts
  all_placed_front xs zs nil h = refl
  all_placed_front xs zs (cons t ts) h =
      ap (λ u. cons u (all_placed (xs ++ zs) ts)) (placed_front xs zs t (λ x o. h x (or_left (occurs x t) (occurs_in x ts) o)))
      ∙ ap (cons (placed xs t)) (all_placed_front xs zs ts (λ x o. h x (or_right (occurs x t) (occurs_in x ts) o)))

-- a pattern that was compiled behind variables has these and its own
pub compiled_occurs : (sig : Signature) → IsAccepted sig → (p : RawTerm) → IsRawTerm sig p → (xs : List Variable) (c : Compiled) → IsCompiled sig (normal_form sig p) xs c → (x : Variable) → is_in x c.variables ≡ (is_in x xs || occurs x p)
compiled_occurs sig ok p raw xs c h x =
    ap (is_in x) h.variables ∙ is_in-met x xs h.q ∙ ap (λ b. is_in x xs || b) (sym (nested_occurs sig x h.q) ∙ sym (occurs_kept sig x (compiled_equal sig ok raw h.reordered)))

-- the variables of a statement's left side
module _ (e : Statement) where
  pub lefts_distinct : AreDistinct (met [] e.left)
  lefts_distinct = AreDistinct-met [] e.left tt

  pub in_lefts : (x : Variable) → is_in x (met [] e.left) ≡ occurs x e.left
  in_lefts x = is_in-met x [] e.left

module _ (M : Module) (ok : IsWorkable M) (k : ℕ) (e : Statement) (is : IsStatement M k e) where
  abbrev eq : IsOrdinary M.signature e
  eq = ok.statements k e is

  -- are the first ones of the statement
  pub variables_front : HasFront (met [] e.left) e.variables
  variables_front = subst (HasFront (met [] e.left)) (sym eq.variables)
      (front_behind (met [] e.left) (met (met [] e.left) e.right) (mentioned e) (met_grows (met [] e.left) e.right) (front_met_fragments (met (met [] e.left) e.right) e.fragments))

  -- so values for them are bound to the same
  pub left_zipped : (us : List RawTerm) → length us ≡ length (met [] e.left) → zip e.variables us ≡ zip (met [] e.left) us
  left_zipped us l = zip_front (met [] e.left) e.variables us variables_front l

  pub variables_distinct : AreDistinct e.variables
  variables_distinct = subst AreDistinct (sym eq.variables) (distinct_met_fragments (met (met [] e.left) e.right) e.fragments (AreDistinct-met (met [] e.left) e.right (lefts_distinct e)))

  pub in_variables : (x : Variable) → is_in x e.variables ≡ ((occurs x e.left || occurs x e.right) || occurs_among x e.fragments)
  in_variables x =
      ap (is_in x) eq.variables ∙ in_met_fragments x (met (met [] e.left) e.right) e.fragments
      ∙ ap (λ b. b || occurs_among x e.fragments) (is_in-met x (met [] e.left) e.right ∙ ap (λ b. b || occurs x e.right) (in_lefts e x))

  pub left_raw : IsRawTerm M.signature e.left
  left_raw = (ok.sides k e is.is_there).left

  pub right_raw : IsRawTerm M.signature e.right
  right_raw = (ok.sides k e is.is_there).right

  pub left_among : AreAmong (met [] e.left) (normal_form M.signature e.left)
  left_among x o = in_lefts e x ∙ sym (form_occurs M.signature ok.signature.accepted e.left left_raw x) ∙ o

  pub right_among : AreAmong e.variables (normal_form M.signature e.right)
  right_among x o =
      let r : occurs x e.right ≡ true = sym (form_occurs M.signature ok.signature.accepted e.right right_raw x) ∙ o in
      in_variables x ∙ or_left (occurs x e.left || occurs x e.right) (occurs_among x e.fragments) (or_right (occurs x e.left) (occurs x e.right) r)

  module _ (c : Compiled) (h : IsCompiled M.signature (normal_form M.signature e.left) [] c) where
    pub compiled_distinct : AreDistinct c.variables
    compiled_distinct = subst AreDistinct (sym h.variables) (AreDistinct-met [] h.q tt)

    pub compiled_in : (x : Variable) → is_in x c.variables ≡ occurs x e.left
    compiled_in x = compiled_occurs M.signature ok.signature.accepted e.left left_raw [] c h x

    pub compiled_has : AreIn (met [] e.left) c.variables
    compiled_has x m = compiled_in x ∙ sym (in_lefts e x) ∙ member_in x (met [] e.left) m

-- a pattern that was compiled with no values given
pub compiled_from : (sig : Signature) (p q : RawTerm) (bs : List Binding) (c : Compiled) → bs ≡ [] → p ≡ q → IsCompiled sig p (bound_variables (map (λ (b : Binding). (b.variable, b.value)) bs)) c → IsCompiled sig q [] c
compiled_from sig p q bs c e i h = subst (λ t. IsCompiled sig t [] c) i (subst (λ bs. IsCompiled sig p (bound_variables (map (λ (b : Binding). (b.variable, b.value)) bs)) c) e h)
