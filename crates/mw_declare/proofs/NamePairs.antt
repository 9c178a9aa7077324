-- The pairs of subsort statements by the names of their sorts.
use Rattle.std.proofs.Common.{◌≡◌, ◌∙◌, ℕ, List, [], ◌∷◌, ◌++◌, map, refl, sym, ap, subst, inl, inr}
use Rattle.std.proofs.lemmas.List.{map-append}
use Rattle.mw_logic.specs.Signature.{Member}
use Rattle.mw_logic.proofs.Members.{member-left, member-right, member-append}
use Rattle.mw_module.specs.Forms.{Shape, Sorts, Subsorts, Operators, Variables, Statement, Import, Class}
use Rattle.mw_module.specs.Units.{SeenLined, IsWithin}
use Rattle.mw_declare.specs.Meaning.{Name, number_of, numbers_of}
use Rattle.mw_declare.specs.Hierarchy.{pairs_between, pairs_behind, pairs_in, pairs_from}

-- each of the first names with each of the second
abbrev named_between : List Name → List Name → List (Name × Name)
named_between [] uppers = []
named_between (n ∷ lowers) uppers = map (λ (m : Name). (n, m)) uppers ++ named_between lowers uppers

-- each name of a group with each of the next, where `lowers` is the group before
abbrev named_behind : List Name → List (List Name) → List (Name × Name)
named_behind lowers [] = []
named_behind lowers (g ∷ gs) = named_between lowers g ++ named_behind g gs

-- the pairs of a statement
abbrev named_in : Shape → List (Name × Name)
named_in (Sorts names) = []
named_in (Subsorts groups) = named_behind [] groups
named_in (Operators names args result said) = []
named_in (Variables names S) = []
named_in (Statement rule left right fragments executable) = []
named_in (Import m) = []
named_in (Class c as_) = []

abbrev pub named_from : List SeenLined → List (Name × Name)
named_from [] = []
named_from (s ∷ ss) = named_in s.shape ++ named_from ss

-- two names by their numbers
abbrev pub numbered : List Name → Name × Name → ℕ × ℕ
numbered sorts e = (number_of sorts e.0, number_of sorts e.1)

-- pairs are those of the names, by their numbers
module _ (sorts : List Name) where
  abbrev numbers : List Name → List ℕ
  numbers = map (number_of sorts)

  numbers_are : (ts : List Name) → numbers_of sorts ts ≡ numbers ts
  numbers_are [] = refl
  numbers_are (t ∷ ts) = ap (λ ns. number_of sorts t ∷ ns) (numbers_are ts)

  below_are : (n : Name) (ms : List Name) → map (λ (T : ℕ). (number_of sorts n, T)) (numbers ms) ≡ map (numbered sorts) (map (λ (m : Name). (n, m)) ms)
  below_are n [] = refl
  below_are n (m ∷ ms) = ap (λ ps. (number_of sorts n, number_of sorts m) ∷ ps) (below_are n ms)

  between_are : (ns ms : List Name) → pairs_between (numbers ns) (numbers ms) ≡ map (numbered sorts) (named_between ns ms)
  between_are [] ms = refl
  between_are (n ∷ ns) ms =
      ap (λ ps. ps ++ pairs_between (numbers ns) (numbers ms)) (below_are n ms) ∙ ap (λ ps. map (numbered sorts) (map (λ (m : Name). (n, m)) ms) ++ ps) (between_are ns ms)
      ∙ sym (map-append (numbered sorts) (map (λ (m : Name). (n, m)) ms) (named_between ns ms))

  behind_are : (ns : List Name) (gs : List (List Name)) → pairs_behind sorts (numbers ns) gs ≡ map (numbered sorts) (named_behind ns gs)
  behind_are ns [] = refl
  behind_are ns (g ∷ gs) =
      ap (λ Ss. pairs_between (numbers ns) Ss ++ pairs_behind sorts Ss gs) (numbers_are g)
      ∙ ap (λ ps. ps ++ pairs_behind sorts (numbers g) gs) (between_are ns g) ∙ ap (λ ps. map (numbered sorts) (named_between ns g) ++ ps) (behind_are g gs)
      ∙ sym (map-append (numbered sorts) (named_between ns g) (named_behind g gs))

  in_are : (s : Shape) → pairs_in sorts s ≡ map (numbered sorts) (named_in s)
  in_are (Sorts names) = refl
  in_are (Subsorts groups) = behind_are [] groups
  in_are (Operators names args result said) = refl
  in_are (Variables names S) = refl
  in_are (Statement rule left right fragments executable) = refl
  in_are (Import m) = refl
  in_are (Class c as_) = refl

  pub pairs_are : (ss : List SeenLined) → pairs_from sorts ss ≡ map (numbered sorts) (named_from ss)
  pairs_are [] = refl
  pairs_are (s ∷ ss) =
      ap (λ ps. ps ++ pairs_from sorts ss) (in_are s.shape) ∙ ap (λ ps. map (numbered sorts) (named_in s.shape) ++ ps) (pairs_are ss)
      ∙ sym (map-append (numbered sorts) (named_in s.shape) (named_from ss))

-- what stands in a list that is mapped
pub member_mapped : {X Y : Type 0} (f : X → Y) (xs : List X) (y : Y) → Member y (map f xs) → (x : X) × Member x xs × (f x ≡ y)
member_mapped f [] y m = absurd m
member_mapped f (x ∷ xs) y (inl e) = (x, inl refl, e)
member_mapped f (x ∷ xs) y (inr m) = let (z, there, e) = member_mapped f xs y m in (z, inr there, e)

pub mapped_member : {X Y : Type 0} (f : X → Y) (xs : List X) (x : X) → Member x xs → Member (f x) (map f xs)
mapped_member f [] x m = absurd m
mapped_member f (y ∷ xs) x (inl e) = inl (ap f e)
mapped_member f (y ∷ xs) x (inr m) = inr (mapped_member f xs x m)

-- a pair is that of one of the statements
module _ (e : Name × Name) where
  comes_from : (ss : List SeenLined) → Member e (named_from ss) → (s : SeenLined) × Member s ss × Member e (named_in s.shape)
  comes_from [] m = absurd m
  comes_from (s ∷ ss) m = elim (member-append e (named_in s.shape) (named_from ss) m) [ inl k ↦ (s, inl refl, k) | inr k ↦ (let (t, there, at) = comes_from ss k in (t, inr there, at)) ]

  is_from : (ss : List SeenLined) (s : SeenLined) → Member s ss → Member e (named_in s.shape) → Member e (named_from ss)
  is_from [] s m k = absurd m
  is_from (t ∷ ss) s (inl is) k = member-left e (named_in t.shape) (named_from ss) (subst (λ (t : SeenLined). Member e (named_in t.shape)) (sym is) k)
  is_from (t ∷ ss) s (inr m) k = member-right e (named_in t.shape) (named_from ss) (is_from ss s m k)

  pub named_within : (A B : List SeenLined) → IsWithin A B → Member e (named_from A) → Member e (named_from B)
  named_within A B within m =
      let (s, there, k) = comes_from A m in
      let (t, here, same) = within s there in
      is_from B t here (subst (λ (f : Shape). Member e (named_in f)) (sym same) k)
