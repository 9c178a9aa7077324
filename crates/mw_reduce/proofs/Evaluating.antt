-- One step of an evaluation.
use Rattle.std.specs.Prelude.{◌≡◌, ◌<◌, ℕ, List, ◌∷◌, length, Some, slice_get}
use Rattle.std.proofs.Common.{sym, subst, ap, ◌∙◌, get_or}
use Rattle.std.proofs.lemmas.Option.{slice_get-get_or}
use Rattle.mw_logic.specs.Term.{Variable, RawTerm}
use Rattle.mw_logic.specs.Substitution.{Substitution}
use Rattle.mw_logic.specs.Module.{Fragment, Module, Statement}
use Rattle.mw_index.specs.Conditions.{IsTestOf, AreReady, bound_by}
use Rattle.mw_index.specs.declared.conditions.Test.{Test}
use Rattle.mw_reduce.specs.Evaluations.{AreBoundTo, IsTested, IsTrial, IsAt}
use Rattle.mw_reduce.specs.declared.sides.Reduced.{Reduced}
use Rattle.mw_reduce.specs.declared.evaluation.Other.{Other}
use Rattle.mw_reduce.specs.declared.evaluation.Tested.{Tested}
use Rattle.mw_reduce.proofs.Going.{at_test}

-- the test at a place in a list
pub here_at : (ts us : List Test) (i : ℕ) (t : Test) → us ≡ ts → i < length us → t ≡ get_or us i t → slice_get ts i ≡ Some t
here_at ts us i t e l g = ap (λ xs. slice_get xs i) (sym e) ∙ slice_get-get_or us i t l ∙ ap Some (sym g)

-- what comes of it is about the fragment that is at hand
pub tested_at : (M : Module) (n limit : ℕ) (e : Statement) (tests : List Test) (s : Substitution) (at : ℕ) (t : Test) (vs ws : List RawTerm) (sides : List Reduced) (os : List Other) (x : Tested)
    → slice_get tests at ≡ Some t → IsTrial M n e tests s at vs sides os → ws ≡ vs
    → ((f : Fragment) (C : List Fragment) (xs : List Variable) → IsTestOf M.signature xs f t → AreReady M.signature e.variables xs (f ∷ C) → AreBoundTo M xs ws → IsTested M n limit f xs ws (bound_by xs t) x)
    → (f : Fragment) × (C : List Fragment) × (xs : List Variable) × ((h : IsAt M n e tests s at f C xs vs sides os) × IsTested M n limit f xs vs (bound_by xs h.test) x)
tested_at M n limit e tests s at t vs ws sides os x g h same told =
    let (f, C, is, test, here) = at_test M n e tests s at t g vs sides os h in
    let xs : List Variable = h.variables in
    let a : IsAt M n e tests s at f C xs vs sides os = here.0 in
    let z : IsTested M n limit f xs ws (bound_by xs t) x = told f C xs test a.place.ready (subst (AreBoundTo M xs) (sym same) a.bound) in
    (f, C, xs, (a, subst (λ u. IsTested M n limit f xs vs (bound_by xs u) x) (sym here.1) (subst (λ us. IsTested M n limit f xs us (bound_by xs t) x) same z)))
