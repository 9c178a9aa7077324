-- Operators that a table holds.
use Rattle.std.proofs.Common.{◌≡◌, ◌∙◌, ◌+◌, not, suc, List, [], ◌∷◌, length, map, Bool, true, false, cond, position, Some, None, if◌then◌else◌, refl, sym, ap}
use Rattle.std.specs.List.{position_or_len}
use Rattle.std.proofs.lemmas.Option.{same_Some}
use Rattle.std.specs.Map.{lookup, set_value, keys_of}
use Rattle.indexmap.specs.IndexMap.{insert_entry}
use Rattle.mw_logic.specs.Signature.{Declaration}
use Rattle.mw_module.specs.Attributes.{Attributes}
use Rattle.mw_declare.specs.declared.operators.Profile.{Profile}
use Rattle.mw_declare.specs.declared.operators.Said.{Said}
use Rattle.mw_declare.specs.Operators.{Profile as ProfileOf, same_profile, Declared, declared_again, with_operator}
use Rattle.mw_declare.specs.Seen.{seen_profile, seen_operator}

abbrev pub operators_held : List (Profile × Said) → List Declared
operators_held es = map seen_operator es

-- an operator is declared again where it is this one, or else one of those behind it is
abbrev either_of : Declared → List Declared → ProfileOf → Declaration → Attributes → Bool → List Declared
either_of o os p d said here = if here then declared_again o d said ∷ os else o ∷ with_operator os p d said

module _ (eq : Profile → Profile → Bool) (same : (p q : Profile) → eq p q ≡ same_profile (seen_profile p) (seen_profile q)) (p : Profile) (d : Declaration) (said : Attributes) (w : Said) where
  -- a declaration of an operator that is there
  pub held_again : (v : Said) → ((q : Profile) → seen_operator (q, w) ≡ declared_again (seen_operator (q, v)) d said) → (es : List (Profile × Said)) → lookup (eq p) es ≡ Some v
      → operators_held (set_value (eq p) es w) ≡ with_operator (operators_held es) (seen_profile p) d said
  held_again v is [] found = cc
  held_again v is (e ∷ es) found = of (eq p e.0) (sym (same p e.0)) found (held_again v is es)
    where
      of : (b : Bool) → same_profile (seen_profile p) (seen_profile e.0) ≡ b → cond b (Some e.1) (lookup (eq p) es) ≡ Some v
          → (lookup (eq p) es ≡ Some v → operators_held (set_value (eq p) es w) ≡ with_operator (operators_held es) (seen_profile p) d said)
          → operators_held (if b then (e.0, w) ∷ es else e ∷ set_value (eq p) es w) ≡ with_operator (operators_held (e ∷ es)) (seen_profile p) d said
      of true s found more =
          let old : e.1 ≡ v = same_Some e.1 v found in
          ap (λ o. o ∷ operators_held es) (is e.0 ∙ ap (λ (k : Said). declared_again (seen_operator (e.0, k)) d said) (sym old))
          ∙ sym (ap (either_of (seen_operator e) (operators_held es) (seen_profile p) d said) s)
      of false s found more = ap (λ os. seen_operator e ∷ os) (more found) ∙ sym (ap (either_of (seen_operator e) (operators_held es) (seen_profile p) d said) s)

  -- an operator that is new
  pub held_new : seen_operator (p, w) ≡ record { profile = seen_profile p; declarations = d ∷ []; attributes = said } → (es : List (Profile × Said)) → lookup (eq p) es ≡ None
      → operators_held (insert_entry eq es p w) ≡ with_operator (operators_held es) (seen_profile p) d said
  held_new is [] none = ap (λ o. o ∷ []) is
  held_new is (e ∷ es) none = of (eq p e.0) (sym (same p e.0)) none (held_new is es)
    where
      of : (b : Bool) → same_profile (seen_profile p) (seen_profile e.0) ≡ b → cond b (Some e.1) (lookup (eq p) es) ≡ None
          → (lookup (eq p) es ≡ None → operators_held (insert_entry eq es p w) ≡ with_operator (operators_held es) (seen_profile p) d said)
          → operators_held (if b then (e.0, w) ∷ es else e ∷ insert_entry eq es p w) ≡ with_operator (operators_held (e ∷ es)) (seen_profile p) d said
      of true s none more = cc
      of false s none more = ap (λ os. seen_operator e ∷ os) (more none) ∙ sym (ap (either_of (seen_operator e) (operators_held es) (seen_profile p) d said) s)

-- the place of a profile in the table is that of its operator
held_place : (p : ProfileOf) (es : List (Profile × Said)) → position_or_len (λ (k : Profile). same_profile p (seen_profile k)) (keys_of es) ≡ position_or_len (λ (o : Declared). same_profile p o.profile) (operators_held es)
held_place p [] = refl
held_place p (e ∷ es) = ap (λ i. cond (not (same_profile p (seen_profile e.0))) (1 + i) 0) (held_place p es)

held_size : (es : List (Profile × Said)) → length (keys_of es) ≡ length (operators_held es)
held_size [] = refl
held_size (e ∷ es) = ap suc (held_size es)

pub held_position : (p : ProfileOf) (es : List (Profile × Said)) → position (λ (k : Profile). same_profile p (seen_profile k)) (keys_of es) ≡ position (λ (o : Declared). same_profile p o.profile) (operators_held es)
held_position p es = rw (held_place p es, held_size es) refl
