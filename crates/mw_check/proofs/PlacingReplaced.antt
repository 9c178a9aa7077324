-- What a statement replaces at a place, by values of its variables, and what comes of it.
use Rattle.std.specs.Prelude.{◌≡◌, ◌↔◌, Bool, Option, None, IsTrue, refl}
use Rattle.std.proofs.Common.{sym, subst, ap, ◌∙◌}
use Rattle.mw_logic.specs.Term.{RawTerm}
use Rattle.mw_logic.specs.Signature.{Signature, IsRawTerm}
use Rattle.mw_logic.specs.Accepted.{IsAccepted, IsWellSorted}
use Rattle.mw_logic.specs.Substitution.{Substitution, instance, binds, IsSubstitution}
use Rattle.mw_logic.specs.Parts.{IsAdmitted}
use Rattle.mw_logic.specs.NormalForm.{normal_form}
use Rattle.mw_logic.specs.Module.{Statement}
use Rattle.mw_logic.proofs.Restricted.{binds_each, instance_ground}
use Rattle.mw_logic.proofs.SolutionLaws.{instance_raw}
use Rattle.mw_canon.specs.Canonical.{IsAdmittedTerm}
use Rattle.mw_redex.specs.Replaced.{replaced_at, IsOpenWay, way_of_place}
use Rattle.mw_search.specs.Lacking.{IsKnown}
use Rattle.mw_least.specs.Workable.{AreSides}
use Rattle.mw_items.specs.Items.{Spot}
use Rattle.mw_check.specs.Parts.{StandsAt}
use Rattle.mw_check.specs.Answers.{ReplacesBy, IsNext}
use Rattle.mw_check.proofs.PlacingInstances.{kinds_of_sides}
use Rattle.mw_check.proofs.PlacingParts.{part_term, form_admitted, put_in_admitted, whole_known}

module _ (sig : Signature) (ok : IsAccepted sig) (sorted : IsWellSorted sig) (st : Statement) (sides : AreSides sig st) (s : Substitution) (is : IsSubstitution sig s)
    (at : Spot) (t : RawTerm) (h : IsAdmittedTerm sig t) where
  abbrev W : RawTerm
  W = instance s st.left

  abbrev X : RawTerm
  X = instance s st.right

  abbrev Becomes : RawTerm → Type 0
  Becomes v = ReplacesBy sig st s at t v

  raw_left : IsRawTerm sig W
  raw_left = instance_raw sig ok sorted s is sides.left

  raw_right : IsRawTerm sig X
  raw_right = instance_raw sig ok sorted s is sides.right

  -- An instance that isn't admitted is no part of an admitted term.
  pub none_replaced : (IsAdmitted sig W → ⊥) → (v : RawTerm) → Becomes v → ⊥
  none_replaced deny v r = deny (form_admitted sig ok (normal_form sig W) W (part_term sig ok at.path at.take t (normal_form sig W) h r.0.part) raw_left refl)

  -- the left side's instance is another part than that at the place
  pub other_part : (left : RawTerm) → left ≡ normal_form sig W → (StandsAt sig at t left → ⊥) → (v : RawTerm) → Becomes v → ⊥
  other_part left e deny v r = deny (subst (StandsAt sig at t) (sym e) (record { part = r.0.part; some = r.1 }))

  -- it stands there, and so the statement replaces where the way is open
  pub same_part : (left : RawTerm) → left ≡ normal_form sig W → StandsAt sig at t left → (free : Bool) → (IsTrue free ↔ IsOpenWay sig st.rule (way_of_place at.path at.take) t)
      → (IsTrue free ↔ ((v : RawTerm) × Becomes v))
  same_part left e there free k =
      let stands : StandsAt sig at t (normal_form sig W) = subst (StandsAt sig at t) e there in
      (λ f. (replaced_at sig at.path at.take (normal_form sig X) t, (record { part = stands.part; open_way = k.0 f; becomes = refl }, stands.some)), λ r. k.1 r.1.0.open_way)

  -- With an instance that isn't admitted the next term isn't.
  pub next_missing : (IsAdmitted sig X → ⊥) → (v : RawTerm) → Becomes v → IsNext sig v None
  next_missing deny v r a = deny (put_in_admitted sig ok st.rule W X t v at.path at.take h raw_left r.0 raw_right (kinds_of_sides sig ok sorted s is st sides) a)

  -- else it is the term with the instance in its place, where that is admitted
  pub next_made : IsTrue (binds s st.right) → (right : RawTerm) → right ≡ normal_form sig X → (next : Option RawTerm)
      → (IsKnown sig (replaced_at sig at.path at.take right t) → IsNext sig (replaced_at sig at.path at.take right t) next) → (v : RawTerm) → Becomes v → IsNext sig v next
  next_made bound right e next make v r =
      let is_v : replaced_at sig at.path at.take right t ≡ v = ap (λ x. replaced_at sig at.path at.take x t) e ∙ sym r.0.becomes in
      let known : IsKnown sig v =
      whole_known sig ok st.rule W X t v at.path at.take h raw_left r.0 raw_right (kinds_of_sides sig ok sorted s is st sides) (instance_ground sig s is st.right (binds_each s st.right bound)) in
      subst (λ w. IsNext sig w next) is_v (make (subst (IsKnown sig) (sym is_v) known))
