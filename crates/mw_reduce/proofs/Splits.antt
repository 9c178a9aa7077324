-- Sides begin at those of what is held of a condition, by what is bound and by what extends it.
use Rattle.std.specs.Prelude.{◌≡◌, List, [], ◌∷◌, ◌++◌, refl}
use Rattle.std.specs.List.{zip}
use Rattle.std.proofs.Common.{sym, ap, ◌∙◌, append_assoc, append-nil}
use Rattle.mw_logic.specs.Term.{Variable, RawTerm}
use Rattle.mw_logic.specs.Signature.{Signature}
use Rattle.mw_logic.specs.Substitution.{Substitution, instance, is_bound, Extends}
use Rattle.mw_logic.specs.Parts.{nested}
use Rattle.mw_logic.specs.NormalForm.{normal_form}
use Rattle.mw_logic.specs.Module.{Fragment, equal, matches, has_sort, is_true, Module}
use Rattle.mw_logic.specs.Confluence.{AreBound}
use Rattle.mw_logic.proofs.Restricted.{AreBound-same}
use Rattle.mw_position.specs.Variables.{is_in}
use Rattle.mw_position.proofs.Placing.{bound_zip}
use Rattle.mw_solving.proofs.Positions.{meant_bound}
use Rattle.mw_deduction.specs.Replay.{sides_of, all_sides, begun_sides}
use Rattle.mw_deduction.proofs.Extended.{instance_extended}
use Rattle.mw_reduce.specs.Evaluations.{AreBoundTo, bound_to, starts_of, IsSplit}
use Rattle.mw_reduce.specs.declared.sides.Reduced.{Reduced}
use Rattle.mw_reduce.proofs.Evidence.{starts_together}

all_sides_behind : (D : List Fragment) (f : Fragment) → all_sides (D ++ f ∷ []) ≡ all_sides D ++ sides_of f
all_sides_behind [] f = append-nil (sides_of f)
all_sides_behind (g ∷ D) f = ap (λ ts. sides_of g ++ ts) (all_sides_behind D f) ∙ sym (append_assoc (sides_of g) (all_sides D) (sides_of f))

begun_together : (sig : Signature) (s : Substitution) (ts us : List RawTerm) → begun_sides sig s (ts ++ us) ≡ begun_sides sig s ts ++ begun_sides sig s us
begun_together sig s [] us = refl
begun_together sig s (t ∷ ts) us = ap (λ vs. nested sig (normal_form sig (instance s t)) ∷ vs) (begun_together sig s ts us)

-- the sides of a fragment have the same instances where more is bound
module _ (sig : Signature) (s q : Substitution) (e : Extends s q) (C : List Fragment) where
  abbrev form : RawTerm → RawTerm
  form t = nested sig (normal_form sig t)

  sides_kept : (f : Fragment) → AreBound (is_bound s) (f ∷ C) → begun_sides sig s (sides_of f) ≡ begun_sides sig q (sides_of f)
  sides_kept (equal u v) b = ap (λ t. form t ∷ form (instance s v) ∷ []) (instance_extended s q e u b.0) ∙ ap (λ t. form (instance q u) ∷ form t ∷ []) (instance_extended s q e v b.1)
  sides_kept (matches l t) b = ap (λ t. form t ∷ []) (instance_extended s q e t b.0)
  sides_kept (has_sort t S) b = ap (λ t. form t ∷ []) (instance_extended s q e t b.0)
  sides_kept (is_true t) b = ap (λ t. form t ∷ []) (instance_extended s q e t b.0)

-- what is bound are the variables that have values
pub bound_by_values : (M : Module) (xs : List Variable) (vs : List RawTerm) → AreBoundTo M xs vs → (C : List Fragment) → AreBound (λ x. is_in x xs) C → AreBound (is_bound (bound_to M.signature xs vs)) C
bound_by_values M xs vs b C h = AreBound-same C (λ x. sym (meant_bound M.signature (zip xs vs) x ∙ bound_zip xs vs x b.size)) h

-- at the beginning
pub first_split : (M : Module) (C : List Fragment) (r : Substitution) → IsSplit M C r [] C
first_split M C r = record { held = []; is = refl; starts = λ q x. refl }

-- one more fragment is held, by its sides
pub split_more : (M : Module) (D : List Fragment) (f : Fragment) (C : List Fragment) (r s : Substitution) (sides ts : List Reduced) → Extends r s → AreBound (is_bound r) (f ∷ C) → IsSplit M D r sides (f ∷ C)
    → starts_of M ts ≡ begun_sides M.signature r (sides_of f) → IsSplit M D s (sides ++ ts) C
split_more M D f C r s sides ts e b h own = record {
  held = h.held ++ f ∷ [];
  is = h.is ∙ sym (append_assoc h.held (f ∷ []) C);
  starts = λ q x.
      let y : Extends r q = λ z t k. x z t (e z t k) in
      starts_together M sides ts ∙ ap (λ us. us ++ starts_of M ts) (h.starts q y)
      ∙ ap (λ us. begun_sides M.signature q (all_sides h.held) ++ us) (own ∙ sides_kept M.signature r q y C f b)
      ∙ sym (begun_together M.signature q (all_sides h.held) (sides_of f)) ∙ ap (begun_sides M.signature q) (sym (all_sides_behind h.held f));
}

-- nothing is left
pub whole_split : (M : Module) (C : List Fragment) (r : Substitution) (sides : List Reduced) (rest : List Fragment) → IsSplit M C r sides rest → rest ≡ []
    → (q : Substitution) → Extends r q → starts_of M sides ≡ begun_sides M.signature q (all_sides C)
whole_split M C r sides rest h none q x =
    let is : C ≡ h.held = h.is ∙ ap (λ D. h.held ++ D) none ∙ append-nil h.held in
    h.starts q x ∙ ap (λ D. begun_sides M.signature q (all_sides D)) (sym is)
