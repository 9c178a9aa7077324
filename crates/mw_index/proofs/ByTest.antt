-- What those need who evaluate a condition's tests.
use Rattle.std.specs.Prelude.{◌≡◌, ℕ, List, [], ◌∷◌, length, map, Option, Some, None, MatchOption, refl}
use Rattle.std.specs.List.{zip}
use Rattle.std.proofs.Common.{sym, ap, ◌∙◌}
use Rattle.mw_logic.specs.Term.{Variable, RawTerm}
use Rattle.mw_logic.specs.Signature.{Signature}
use Rattle.mw_logic.specs.Module.{Module, Statement, IsStatement, Fragment}
use Rattle.mw_least.specs.Workable.{IsWorkable}
use Rattle.mw_position.specs.Variables.{met, place}
use Rattle.mw_position.proofs.Placing.{values_of, values_zip}
use Rattle.mw_index.specs.Choices.{in_order}
use Rattle.mw_index.specs.Conditions.{AreTests, IsConditionOf, all_bound}
use Rattle.mw_index.specs.declared.conditions.Condition.{Condition}
use Rattle.mw_index.proofs.Bound.{bound_distinct, variables_bound}
use Rattle.mw_index.proofs.Orders.{order_values}

pub of_none : (sig : Signature) (xs : List Variable) (C : List Fragment) → AreTests sig xs C [] → C ≡ []
of_none sig xs [] h = refl
of_none sig xs (f ∷ C) h = absurd h

-- Values in the order in which variables are bound, put into the order of the statement's variables, are the values that these have.
module _ (M : Module) (ok : IsWorkable M) (k : ℕ) (e : Statement) (is : IsStatement M k e) (c : Condition) (condition : IsConditionOf M.signature e c) (us : List RawTerm) where
  abbrev bound : List Variable
  bound = all_bound (met [] e.left) c.tests

  pub put_in_order : length us ≡ length bound → MatchOption c.order (us ≡ values_of (zip bound us) e.variables) (λ ns. in_order us ns ≡ values_of (zip bound us) e.variables)
  put_in_order l = by_order c.order condition.order
    where
      by_order : (o : Option (List ℕ)) → MatchOption o (bound ≡ e.variables) (λ ns. ns ≡ map (λ x. place x bound) e.variables) → MatchOption o (us ≡ values_of (zip bound us) e.variables) (λ ns. in_order us ns ≡ values_of (zip bound us) e.variables)
      by_order None h = sym (values_zip bound us (bound_distinct M ok k e is c.tests condition.tests) l) ∙ ap (values_of (zip bound us)) h
      by_order (Some ns) h =
          ap (in_order us) h ∙ order_values bound us (bound_distinct M ok k e is c.tests condition.tests) l e.variables (variables_bound M ok k e is c.tests condition.tests)
