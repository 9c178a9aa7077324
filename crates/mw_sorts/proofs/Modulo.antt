-- Where no test of a signature's operators finds a fault, it is preregular modulo its axioms.
use Rattle.std.proofs.Common.{ℕ, List, [], ◌∷◌, refl, inl, inr}
use Rattle.std.specs.Prelude.{IsTrue}
use Rattle.mw_logic.specs.Signature.{Signature, Sorted, Operator, IsOperator}
use Rattle.mw_logic.specs.Preregular.{AreOfKinds}
use Rattle.mw_sorting.specs.ComputedSorts.{IsResultOn}
use Rattle.mw_sorting.specs.PreregularModulo.{HasNaturals, IsPreregularModulo}
use Rattle.mw_sorts.specs.Groupings.{IsOrderSorted, AllGroupAlike}
use Rattle.mw_sorts.specs.Leaving.{AllKeepLow}

pub preregular-modulo : (sig : Signature) → IsOrderSorted sig → ((f : ℕ) (o : Operator) → IsOperator sig f o → (Ss : List Sorted) → AreOfKinds sig Ss o.args → (R : Sorted) × IsResultOn sig o Ss R) → AllGroupAlike sig → AllKeepLow sig
    → (IsTrue sig.nat → HasNaturals sig) → IsPreregularModulo sig
preregular-modulo sig ok results alike low naturals = record {
  accepted = ok.accepted;
  well_sorted = ok.fitting;
  results = results;
  associative = λ f o is a S T U P Q V W s t u p v q w.
      alike f o is a (S ∷ T ∷ U ∷ []) (s, (t, (u, tt))) V W (record { first = S; middle = T; last = U; sorts = refl; front = P; front_is = p; front_gives = v; back = Q; back_is = q; back_gives = w });
  identity = λ f o i is named E S R e s. (λ r. low f o is S s E (i, named, e) R (inl r), λ r. low f o is S s E (i, named, e) R (inr r));
  naturals = naturals;
}
