-- What stands in a joined list stands in one of its parts.
use Rattle.std.proofs.Common.{◌⊎◌, List, [], ◌∷◌, ◌++◌, inl, inr}
use Rattle.mw_logic.specs.Signature.{Member}

pub Member-cases : {X : Type 0} (m : X) (xs ys : List X) → Member m (xs ++ ys) → Member m xs ⊎ Member m ys
Member-cases m [] ys h = inr h
Member-cases m (x ∷ xs) ys (inl e) = inl (inl e)
Member-cases m (x ∷ xs) ys (inr h) = elim (Member-cases m xs ys h) [ inl a ↦ inl (inr a) | inr b ↦ inr b ]

pub Member-left : {X : Type 0} (m : X) (xs ys : List X) → Member m xs → Member m (xs ++ ys)
Member-left m [] ys h = absurd h
Member-left m (x ∷ xs) ys (inl e) = inl e
Member-left m (x ∷ xs) ys (inr h) = inr (Member-left m xs ys h)

pub Member-right : {X : Type 0} (m : X) (xs ys : List X) → Member m ys → Member m (xs ++ ys)
Member-right m [] ys h = h
Member-right m (x ∷ xs) ys h = inr (Member-right m xs ys h)
