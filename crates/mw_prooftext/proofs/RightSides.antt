-- What comes of a statement that is applied, as it is built.
use Rattle.std.specs.Prelude.{◌≡◌, List, map}
use Rattle.std.specs.List.{zip}
use Rattle.std.proofs.Common.{sym, subst, ap, ◌∙◌}
use Rattle.std.proofs.lemmas.Option.{same_Some}
use Rattle.mw_logic.specs.Term.{RawTerm}
use Rattle.mw_logic.specs.Signature.{Signature, IsRawTerm}
use Rattle.mw_logic.specs.Substitution.{Substitution, instance, IsSubstitution}
use Rattle.mw_logic.specs.Parts.{nested}
use Rattle.mw_logic.specs.NormalForm.{normal_form}
use Rattle.mw_logic.specs.Module.{Module, Statement}
use Rattle.mw_canon.specs.Canonical.{IsAdmittedTerm, HasAdmittedValues, meant}
use Rattle.mw_canon.specs.Causes.{HasCause}
use Rattle.mw_canon.specs.declared.CanonError.{CanonError}
use Rattle.mw_canon.specs.declared.CanonError.TheVariants.{Deep, Nat}
use Rattle.mw_solving.proofs.Positions.{meant_zip}
use Rattle.mw_least.specs.Workable.{IsWorkable}
use Rattle.mw_proof.proofs.Written.{written_raw, written_normal, never_deep, never_large}
use Rattle.mw_prooftext.specs.Applied.{IsApplied}
use Rattle.mw_prooftext.proofs.AdmittedValues.{has_admitted_values, right_admitted}

module _ (M : Module) (work : IsWorkable M) (e : Statement) (vs : List RawTerm) (h : IsApplied M e vs) where
  abbrev sig : Signature
  sig = M.signature

  abbrev full : Substitution
  full = zip e.variables (map (nested sig) vs)

  same : h.may.statement ≡ e
  same = same_Some h.may.statement e (sym h.may.is_there ∙ h.is_there)

  full_is : h.subst ≡ full
  full_is = h.may.values.are ∙ ap (λ (d : Statement). zip d.variables (map (nested sig) vs)) same

  values : HasAdmittedValues sig (zip e.variables vs)
  values = subst (λ (d : Statement). HasAdmittedValues sig (zip d.variables vs)) same (has_admitted_values M work h.stand h.stands h.number h.by_rule h.subst vs h.may)

  substitution : IsSubstitution sig full
  substitution = subst (IsSubstitution sig) full_is h.may.replaces.substitution

  raw : IsRawTerm sig e.right
  raw = (work.sides h.number e h.is_there).right

  admitted : IsAdmittedTerm sig (normal_form sig (instance full e.right))
  admitted =
      let a = right_admitted M work h.stand h.stands h.number h.by_rule h.subst vs h.may in
      subst (λ s. IsAdmittedTerm sig (normal_form sig (instance s e.right))) full_is (subst (λ (d : Statement). IsAdmittedTerm sig (normal_form sig (instance h.subst d.right))) same a)

  -- by a substitution and a term that are these, in a signature that is this one
  module _ (s : Substitution) (is_s : s ≡ zip e.variables vs) (t : RawTerm) (is_t : t ≡ e.right) (S : Signature) (is_S : S ≡ sig) where
    meant_is : meant sig s ≡ full
    meant_is = ap (meant sig) is_s ∙ meant_zip sig e.variables vs

    in_order : normal_form sig (instance (meant sig s) t) ≡ normal_form sig (instance full e.right)
    in_order = ap (λ r. normal_form sig (instance r t)) meant_is ∙ ap (λ u. normal_form sig (instance full u)) is_t

    its_substitution : IsSubstitution sig (meant sig s)
    its_substitution = subst (IsSubstitution sig) (sym meant_is) substitution

    its_raw : IsRawTerm sig t
    its_raw = subst (IsRawTerm sig) (sym is_t) raw

    its_admitted : IsAdmittedTerm sig (normal_form sig (instance (meant sig s) t))
    its_admitted = subst (IsAdmittedTerm sig) (sym in_order) admitted

    pub right_values : HasAdmittedValues S s
    right_values = subst (λ r. HasAdmittedValues S r) (sym is_s) (subst (λ z. HasAdmittedValues z (zip e.variables vs)) (sym is_S) values)

    pub right_raw : IsRawTerm S (instance (meant S s) (nested S t))
    right_raw = written_raw sig work.signature.accepted work.signature.well_sorted s its_substitution t its_raw S is_S

    pub right_is : normal_form S (instance (meant S s) (nested S t)) ≡ normal_form sig (instance full e.right)
    right_is = written_normal sig work.signature.accepted work.signature.well_sorted s its_substitution t its_raw S is_S ∙ in_order

    pub right_not_deep : (c : CanonError) → c ≡ Deep → HasCause S (instance (meant S s) (nested S t)) c → ⊥
    right_not_deep = never_deep sig work.signature.accepted work.signature.well_sorted s its_substitution t its_raw its_admitted S is_S

    pub right_not_large : (c : CanonError) → c ≡ Nat → HasCause S (instance (meant S s) (nested S t)) c → ⊥
    right_not_large = never_large sig work.signature.accepted work.signature.well_sorted s its_substitution t its_raw its_admitted S is_S
