-- Lists as a set holds them, each with its number.
use Rattle.std.proofs.Common.{◌≡◌, ◌∙◌, ◌⊎◌, ℕ, List, [], ◌∷◌, ◌++◌, map, Bool, true, false, if◌then◌else◌, refl, ap, sym, subst, inl, inr}
use Rattle.std.proofs.Math.Dec.{eqb}
use Rattle.std.proofs.lemmas.Bool.{and_parts, and_from, eqb-true, eq-eqb}
use lib.Pointwise.{pointwise}
use Rattle.std.specs.Prelude.{slice_get, Some}
use Rattle.std.specs.Global.{Vec}
use Rattle.std.proofs.lemmas.List.{map-append}
use Rattle.mw_logic.specs.Signature.{Declaration}
use Rattle.mw_sorts.specs.States.{AreKept, AreStatesOf, AreNumbersOf}
use Rattle.mw_sorts.proofs.Getting.{get-left, get-push}

abbrev pub held : List (Vec ℕ) → List (List ℕ)
held ks = map (λ (l : Vec ℕ). l.items) ks

-- the list is there already, or it comes behind the others
pub record Holds (old new : List (List ℕ)) (list : List ℕ) : Type 0 where
  pub kept : AreKept old new
  pub only : (q : ℕ) (l : List ℕ) → slice_get new q ≡ Some l → (slice_get old q ≡ Some l) ⊎ (l ≡ list)

pub holds : (b : Bool) (ks new : List (Vec ℕ)) (list : Vec ℕ) → new ≡ (if b then ks else ks ++ list ∷ []) → Holds (held ks) (held new) list.items
holds true ks new list e = record {
  kept = λ q l g. subst (λ (xs : List (Vec ℕ)). slice_get (held xs) q ≡ Some l) (sym e) g;
  only = λ q l g. inl (subst (λ (xs : List (Vec ℕ)). slice_get (held xs) q ≡ Some l) e g);
}
holds false ks new list e =
    let more : held new ≡ held ks ++ list.items ∷ [] = ap (λ (xs : List (Vec ℕ)). held xs) e ∙ map-append (λ (l : Vec ℕ). l.items) ks (list ∷ []) in
    record {
      kept = λ q l g. subst (λ (xs : List (List ℕ)). slice_get xs q ≡ Some l) (sym more) (get-left (held ks) (list.items ∷ []) q l g);
      only = λ q l g. elim (get-push (held ks) list.items q l (subst (λ (xs : List (List ℕ)). slice_get xs q ≡ Some l) more g)) [ inl a ↦ inl a | inr b ↦ inr (sym b.1) ];
    }

pub holds-states : (old new : List (List ℕ)) (list : List ℕ) → Holds old new list → (ds : List Declaration) → AreStatesOf ds old → AreNumbersOf ds list → AreStatesOf ds new
holds-states old new list h ds s n q l g = elim (h.only q l g) [ inl a ↦ s q l a | inr e ↦ subst (λ (xs : List ℕ). AreNumbersOf ds xs) (sym e) n ]

-- lists that are equal number by number
pub same_numbers : (xs ys : List ℕ) → pointwise eqb xs ys ≡ true → xs ≡ ys
same_numbers [] [] e = refl
same_numbers [] (y ∷ ys) e = cc
same_numbers (x ∷ xs) [] e = cc
same_numbers (x ∷ xs) (y ∷ ys) e = let b = and_parts (eqb x y) (pointwise eqb xs ys) e in ap (λ z. z ∷ xs) (eqb-true x y b.0) ∙ ap (λ zs. y ∷ zs) (same_numbers xs ys b.1)

pub numbers_same : (xs : List ℕ) → pointwise eqb xs xs ≡ true
numbers_same [] = refl
numbers_same (x ∷ xs) = and_from (eqb x x) (pointwise eqb xs xs) (eq-eqb x x refl) (numbers_same xs)
