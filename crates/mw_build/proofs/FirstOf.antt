-- The first of a list that has a property.
use Rattle.std.proofs.Common.{◌≡◌, List, [], ◌∷◌, ◌++◌, inl, inr, refl, sym, subst}
use Rattle.mw_logic.specs.Signature.{Member}
use Rattle.mw_logic.proofs.Members.{member-append}
use Rattle.mw_build.specs.Classes.{IsFirst, here, behind}

module _ {X : Type 0} (P : X → Type 0) where
  -- there is one at most
  pub first_one : {x y : X} {xs : List X} → IsFirst P x xs → IsFirst P y xs → x ≡ y
  first_one (here x xs p) (here _ _ q) = refl
  first_one (here x xs p) (behind y _ _ lacks f) = absurd (lacks p)
  first_one (behind x y ys lacks f) (here _ _ q) = absurd (lacks q)
  first_one (behind x y ys lacks f) (behind z _ _ not g) = first_one f g

  pub first_among : {x : X} {xs : List X} → IsFirst P x xs → Member x xs × P x
  first_among (here x xs p) = (inl refl, p)
  first_among (behind x y ys lacks f) = let (m, p) = first_among f in (inr m, p)

  -- it stays the first with others behind
  pub first_before : {x : X} {xs : List X} (ys : List X) → IsFirst P x xs → IsFirst P x (xs ++ ys)
  first_before ys (here x xs p) = here x (xs ++ ys) p
  first_before ys (behind x y zs lacks f) = behind x y (zs ++ ys) lacks (first_before ys f)

  -- one behind others that lack the property
  pub first_last : (x : X) (xs : List X) → ((y : X) → Member y xs → P y → ⊥) → P x → IsFirst P x (xs ++ x ∷ [])
  first_last x [] lacks p = here x [] p
  first_last x (y ∷ ys) lacks p = behind x y (ys ++ x ∷ []) (lacks y (inl refl)) (first_last x ys (λ z m. lacks z (inr m)) p)

  -- and still none, where it lacks it too
  pub none_more : (x : X) (xs : List X) → ((y : X) → Member y xs → P y → ⊥) → (P x → ⊥) → (y : X) → Member y (xs ++ x ∷ []) → P y → ⊥
  none_more x xs lacks not y m p = elim (member-append y xs (x ∷ []) m) [ inl k ↦ lacks y k p | inr k ↦ elim k [ inl e ↦ not (subst P (sym e) p) | inr k ↦ k ] ]
