-- The values of a statement's variables, by name.
use Rattle.std.specs.Prelude.{◌≡◌, ℕ, List, length, Option, IsTrue}
use Rattle.std.specs.List.{zip}
use Rattle.std.proofs.Common.{sym, subst, ap, ◌∙◌}
use Rattle.mw_logic.specs.Term.{Variable, RawTerm}
use Rattle.mw_logic.specs.Signature.{Signature}
use Rattle.mw_logic.specs.Substitution.{Substitution, IsSubstitution}
use Rattle.mw_logic.specs.Module.{Statement, Module, IsStatement, binds_statement}
use Rattle.mw_canon.specs.Canonical.{HasAdmittedValues, meant}
use Rattle.mw_position.specs.Variables.{AreDistinct}
use Rattle.mw_solving.proofs.Positions.{meant_zip}
use Rattle.mw_least.specs.Workable.{IsWorkable}
use Rattle.mw_items.specs.Items.{Spot}
use Rattle.mw_check.specs.Answers.{AreAdmittedTerms, values_by_name, ReplacesBy, IsNext, IsPlaced}
use Rattle.mw_check.specs.declared.placing.Placed.TheVariants as placed
use Rattle.mw_check.proofs.PlacingValues.{admitted_by_name, distinct, all_bound}

-- as many variables and values as these, which are the statement's and the step's
module _ (M : Module) (work : IsWorkable M) (k : ℕ) (st : Statement) (is : IsStatement M k st) (vs : List RawTerm) (admitted : AreAdmittedTerms M.signature vs)
    (xs : List Variable) (xs_are : xs ≡ st.variables) (us : List RawTerm) (us_are : us ≡ vs) (same : length us ≡ length xs) where
  abbrev sig : Signature
  sig = M.signature

  abbrev s : Substitution
  s = values_by_name sig st.variables vs

  size : length vs ≡ length st.variables
  size = sym (ap length us_are) ∙ same ∙ ap length xs_are

  named_is : values_by_name sig xs us ≡ s
  named_is = ap (λ ys. values_by_name sig ys us) xs_are ∙ ap (values_by_name sig st.variables) us_are

  pub each_once : AreDistinct xs
  each_once = subst AreDistinct (sym xs_are) (distinct M work k st is)

  module _ (values : Substitution) (values_are : values ≡ zip xs us) where
    meant_is : meant sig values ≡ s
    meant_is = ap (meant sig) (values_are ∙ ap (λ ys. zip ys us) xs_are ∙ ap (zip st.variables) us_are) ∙ meant_zip sig st.variables vs

    pub are_admitted : HasAdmittedValues sig values
    are_admitted = subst (HasAdmittedValues sig) (sym (values_are ∙ ap (zip xs) us_are)) (admitted_by_name sig xs vs admitted)

    pub are_bound : IsTrue (binds_statement (meant sig values) st)
    are_bound = subst (λ r. IsTrue (binds_statement r st)) (sym meant_is) (all_bound M work k st is vs size)

    module _ (sorted : IsSubstitution sig (values_by_name sig xs us)) where
      here_sorted : IsSubstitution sig s
      here_sorted = subst (IsSubstitution sig) named_is sorted

      pub are_sorted : IsSubstitution sig (meant sig values)
      are_sorted = subst (IsSubstitution sig) (sym meant_is) here_sorted

      -- there is no part, or this is next
      pub no_part : (at : Spot) (t : RawTerm) → (((whole : RawTerm) × ReplacesBy sig st (meant sig values) at t whole) → ⊥) → IsPlaced M st at vs t placed.NoPart
      no_part at t deny = (size, (here_sorted, λ v r. deny (v, subst (λ z. ReplacesBy sig st z at t v) (sym meant_is) r)))

      pub next_is : (at : Spot) (t : RawTerm) → ((whole : RawTerm) × ReplacesBy sig st (meant sig values) at t whole) → (next : Option RawTerm)
          → ((whole : RawTerm) → ReplacesBy sig st (meant sig values) at t whole → IsNext sig whole next) → IsPlaced M st at vs t (placed.Next values next)
      next_is at t found next h = (
        size,
        (
          here_sorted,
          record {
            values_are = meant_is;
            admitted = are_admitted;
            binds = all_bound M work k st is vs size;
            whole = found.0;
            replaces = subst (λ z. ReplacesBy sig st z at t found.0) meant_is found.1;
            next_is = h found.0 found.1;
          },
        ),
      )
