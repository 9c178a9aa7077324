-- What an evaluation says of a condition that is asked of by itself.
use Rattle.std.specs.Prelude.{MatchOption, ◌≡◌, ◌≤◌, ℕ, suc, List, [], ◌∷◌, map, refl}
use Rattle.std.specs.List.{zip}
use Rattle.std.proofs.Common.{sym, subst, ap, ◌∙◌, arith, inr}
use Rattle.mw_logic.specs.Term.{Variable, RawTerm}
use Rattle.mw_logic.specs.Signature.{Signature}
use Rattle.mw_logic.specs.Accepted.{IsAccepted}
use Rattle.mw_logic.specs.Substitution.{Substitution, Extends}
use Rattle.mw_logic.specs.Module.{Module, Statement}
use Rattle.mw_logic.specs.Judgements.{AdmittedStep, FailsAbove, Fails, admitted_judgements}
use Rattle.mw_logic.proofs.Ranks.{admitted_within, within_above}
use Rattle.mw_canon.specs.Canonical.{meant}
use Rattle.mw_position.specs.Variables.{is_in, met, bound_values}
use Rattle.mw_position.proofs.Placing.{values_of}
use Rattle.mw_solving.proofs.Candidates.{variables_zipped, values_zipped}
use Rattle.mw_logic.specs.Parts.{nested}
use Rattle.mw_deduction.specs.Replay.{all_sides, begun_sides}
use Rattle.mw_deduction.proofs.Frontiers.{Held_before}
use Rattle.mw_least.specs.Workable.{IsWorkable}
use Rattle.mw_proof.specs.Deductions.{Deduction}
use Rattle.mw_proof.specs.Replacing.{AreBelow}
use Rattle.mw_proof.specs.Failures.{IsFailure}
use Rattle.mw_proof.specs.declared.reason.Reason.{Reason}
use Rattle.mw_index.specs.Choices.{in_order}
use Rattle.mw_index.specs.Conditions.{AreTests, all_bound}
use Rattle.mw_index.specs.declared.conditions.Condition.{Condition}
use Rattle.mw_index.proofs.Bound.{bound_variables_are, unconditional_variables}
use Rattle.mw_index.proofs.ByTest.{of_none, put_in_order}
use Rattle.mw_index.proofs.Rearranging.{zip_parts}
use Rattle.mw_index.proofs.Sides.{variables_distinct}
use Rattle.mw_reduce.specs.Evaluations.{AreBoundTo, bound_to, deduction_of, proofs_of, starts_of, IsHeldBy, IsStoppedInside}
use Rattle.mw_reduce.specs.Judgements.{IsAskedOf, IsHeldWith, IsUntold}
use Rattle.mw_reduce.specs.declared.sides.Reduced.{Reduced}
use Rattle.mw_reduce.proofs.Applying.{nothing_held, fails_above, in_their_order}
use Rattle.mw_reduce.proofs.Values.{reordered_extends, reordered_bound}

-- sides in a rank are below the next one
all_below : (M : Module) (m : ℕ) (rs : List Reduced) → AreBelow M (suc m) (map (deduction_of M m) rs)
all_below M m [] = tt
all_below M m (r ∷ rs) = (refl, omega arith, all_below M m rs)

-- deductions begin where their sides do
starts_deduced : (M : Module) (m : ℕ) (rs : List Reduced) → map (λ (d : Deduction). nested M.signature d.from) (map (deduction_of M m) rs) ≡ starts_of M rs
starts_deduced M m [] = refl
starts_deduced M m (r ∷ rs) = ap (λ ts. nested M.signature r.from ∷ ts) (starts_deduced M m rs)

module _ (M : Module) (work : IsWorkable M) (number : ℕ) (c : Condition) (s : Substitution) (e : Statement) (a : IsAskedOf M number c s e) (us : List RawTerm) (given : us ≡ bound_values s) where
  abbrev sig : Signature
  sig = M.signature

  abbrev ok : IsAccepted sig
  ok = work.signature.accepted

  abbrev lefts : List Variable
  lefts = met [] e.left

  pub asked_bound : AreBoundTo M lefts us
  asked_bound = subst (AreBoundTo M lefts) (sym given) a.bound

  -- the values mean what the substitution does
  given_meant : bound_to sig lefts us ≡ meant sig s
  given_meant = ap (λ vs. meant sig (zip lefts vs)) given ∙ ap (λ xs. meant sig (zip xs (bound_values s))) (sym a.variables) ∙ ap (meant sig) (zip_parts s)

  -- without a condition it holds by these
  pub holds_at_once : (n : ℕ) → c.tests ≡ [] → IsHeldWith M n e s s []
  holds_at_once n bare =
      let none : e.fragments ≡ [] = of_none sig lefts e.fragments (subst (AreTests sig lefts e.fragments) bare a.condition.tests) in
      let all : e.variables ≡ lefts = unconditional_variables M work number e a.is_there none in
      record {
        reached = meant sig s;
        holds = nothing_held M n e.fragments (meant sig s) none;
        reaches = λ x u k. k;
        variables = a.variables ∙ sym all;
        bound = subst (λ xs. AreBoundTo M xs (bound_values s)) (sym all) a.bound;
        below = tt;
        starts = ap (λ D. begun_sides sig (meant sig s) (all_sides D)) (sym none);
      }

  -- where it holds, by values that are put in order
  pub holds_so : (m : ℕ) (ws vs : List RawTerm) (sides : List Reduced) → IsHeldBy M m e c.tests (bound_to sig lefts us) ws sides
      → MatchOption c.order (vs ≡ ws) (λ ns. vs ≡ in_order ws ns) → IsHeldWith M (suc m) e s (zip e.variables vs) (map (deduction_of M m) sides)
  holds_so m ws vs sides held put =
      let bs : List Variable = all_bound lefts c.tests in
      let xs : List Variable = e.variables in
      let ordered : vs ≡ values_of (zip bs ws) xs = in_their_order ws c.order put (put_in_order M work number e a.is_there c a.condition ws held.bound.size) in
      let alike : (y : Variable) → is_in y xs ≡ is_in y bs = λ y. sym (bound_variables_are M work number e a.is_there c.tests a.condition.tests y) in
      let bound : AreBoundTo M xs vs = subst (AreBoundTo M xs) (sym ordered) (reordered_bound M ok bs ws held.bound xs alike (variables_distinct M work number e a.is_there)) in
      let reaches : Extends (bound_to sig bs ws) (bound_to sig xs vs) = subst (λ us. Extends (bound_to sig bs ws) (bound_to sig xs us)) (sym ordered) (reordered_extends M ok bs ws held.bound xs alike) in
      record {
        reached = bound_to sig bs ws;
        holds = subst (λ r. (admitted_judgements M (suc m)).Held e.fragments r (proofs_of M m sides) (bound_to sig bs ws)) given_meant (Held_before M (AdmittedStep M) m e.fragments (bound_to sig lefts us) (proofs_of M m sides) (bound_to sig bs ws) held.holds);
        reaches = reaches;
        variables = variables_zipped xs vs bound.size;
        bound = subst (AreBoundTo M xs) (sym (values_zipped xs vs bound.size)) bound;
        below = all_below M m sides;
        starts = starts_deduced M m sides ∙ held.starts (bound_to sig xs vs) reaches;
      }

  -- where it fails it fails in each rank above
  pub fails_so : (m : ℕ) → FailsAbove M (admitted_judgements M m) e.fragments (bound_to sig lefts us) → (n : ℕ) → suc m ≤ n → Fails M n e.fragments (meant sig s)
  fails_so m f n l = (admitted_within M n).Fails e.fragments (meant sig s) ((within_above M (suc m) n l).Fails e.fragments (meant sig s)
      (subst ((admitted_judgements M (suc m)).Fails e.fragments) given_meant (fails_above M m e.fragments (bound_to sig lefts us) f)))

  pub failure : (m : ℕ) → suc m ≤ 63 → FailsAbove M (admitted_judgements M m) e.fragments (bound_to sig lefts us) → IsFailure (record { over = M; statement = number; subst = s })
  failure m low f = record { statement = e; is_there = a.is_there.is_there; fails = fails_so m f 63 low }

  pub stops_so : (m side : ℕ) (why : Reason) → IsStoppedInside M m side e.fragments (bound_to sig lefts us) why → IsUntold M (suc m) side e s why
  stops_so m side why h = inr (m, refl, subst (λ r. IsStoppedInside M m side e.fragments r why) given_meant h)
