-- What the diagram of an operator with two arguments leads to.
use Rattle.std.proofs.Common.{◌≡◌, ℕ, List, [], ◌∷◌, refl, ap, sym, subst}
use Rattle.std.specs.Prelude.{slice_get}
use Rattle.mw_logic.specs.Signature.{Signature, Sorted, Operator}
use Rattle.mw_sorting.specs.ComputedSorts.{IsResultOn}
use Rattle.mw_sorting.specs.PreregularModulo.{IsOfKind}
use Rattle.mw_term.specs.Signatures.{sorted_of}
use Rattle.mw_term.specs.declared.signature.Sorted.{Sorted as Held}
use Rattle.mw_sorts.specs.declared.diagram.Diagram.{Diagram}
use Rattle.mw_sorts.specs.Diagrams.{Level, LeadsTo, EndsIn, IsDiagram}
use Rattle.mw_sorts.specs.Squares.{LeadsBy, EndsBy}

-- by S and T it leads to o's result on them
pub record TwoSteps (sig : Signature) (places : List ℕ) (o : Operator) (d : Diagram) (S T : Sorted) : Type 0 where
  pub row : ℕ
  pub result : Held
  pub leads : LeadsBy places d S row
  pub ends : EndsBy places d row T result
  pub is : IsResultOn sig o (S ∷ T ∷ []) (sorted_of result)

pub two_steps : (sig : Signature) (places : List ℕ) (o : Operator) (d : Diagram) (K L : ℕ) (S T : Sorted) → IsDiagram sig places o d → o.args ≡ K ∷ L ∷ [] → IsOfKind sig K S → IsOfKind sig L T → TwoSteps sig places o d S T
two_steps sig places o d K L S T h a s t = by_levels d.levels refl (subst (λ (Ks : List ℕ). LeadsTo sig places d.levels 0 Ks (EndsIn sig o d.ends)) a h.leads)
  where
    by_levels : (ls : List Level) → ls ≡ d.levels → LeadsTo sig places ls 0 (K ∷ L ∷ []) (EndsIn sig o d.ends) → TwoSteps sig places o d S T
    by_levels [] e le = absurd le
    by_levels (l ∷ []) e le = absurd ((le.2 S s).2)
    by_levels (l ∷ m ∷ n ∷ ls) e le = let (q, g, more) = le.2 S s in let (r, k, end) = more.2 T t in absurd end
    by_levels (l ∷ m ∷ []) e le =
        let (row, at_row, on) = le in
        let (q, g, more) = on S s in
        let (next, at_next, behind) = more in
        let (r, k, (R, there, is)) = behind T t in
        record {
          row = q;
          result = R;
          leads = (l, row, ap (λ (xs : List Level). slice_get xs 0) (sym e), at_row, g);
          ends = (m, next, r, ap (λ (xs : List Level). slice_get xs 1) (sym e), at_next, k, there);
          is = is;
        }
