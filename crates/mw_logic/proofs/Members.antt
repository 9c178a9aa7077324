-- Members of joined lists.
use Rattle.std.specs.Prelude.{◌⊎◌}
use Rattle.std.proofs.Common.{List, [], ◌∷◌, ◌++◌, inl, inr}
use Rattle.mw_logic.specs.Signature.{Member}

pub member-left : {X : Type 0} (x : X) (xs ys : List X) → Member x xs → Member x (xs ++ ys)
member-left x [] ys m = absurd m
member-left x (y ∷ xs) ys (inl e) = inl e
member-left x (y ∷ xs) ys (inr m) = inr (member-left x xs ys m)

pub member-right : {X : Type 0} (x : X) (xs ys : List X) → Member x ys → Member x (xs ++ ys)
member-right x [] ys m = m
member-right x (y ∷ xs) ys m = inr (member-right x xs ys m)

pub member-append : {X : Type 0} (x : X) (xs ys : List X) → Member x (xs ++ ys) → Member x xs ⊎ Member x ys
member-append x [] ys m = inr m
member-append x (y ∷ xs) ys (inl e) = inl (inl e)
member-append x (y ∷ xs) ys (inr m) = elim (member-append x xs ys m) [ inl k ↦ inl (inr k) | inr k ↦ inr k ]
