-- The values of solutions that are listed: those of the candidates that they were.
use Rattle.std.specs.Prelude.{◌≡◌, ◌<◌, ◌⊎◌, ℕ, zero, suc, List, [], ◌∷◌, ◌++◌, length, get_or, Some, slice_get, refl}
use Rattle.std.specs.List.{All}
use Rattle.std.specs.List.Sorted.{IsPermutation}
use Rattle.std.proofs.Common.{ap, subst, inl, inr, ⊎_elim, arith}
use Rattle.std.proofs.lemmas.List.Sorted.{All-permutation}
use Rattle.mw_logic.specs.Term.{Variable, RawTerm}
use Rattle.mw_logic.specs.Signature.{Signature, Member}
use Rattle.mw_logic.specs.Substitution.{Substitution}
use Rattle.mw_position.specs.Variables.{bound_values}
use Rattle.mw_solving.specs.Values.{IsValue}
use Rattle.mw_match.specs.declared.solutions.Solution.{Solution}
use Rattle.mw_match.specs.Solutions.{Coming, AreNamed}
use Rattle.mw_match.specs.Listing.{AreByName, none, one_more, AreFirst, HaveCanonicalValues}
use Rattle.mw_match.proofs.Picking.{picked_from}

-- what holds of each member holds at each index
member_here : {X : Type 0} (xs : List X) (k : ℕ) (d : X) → k < length xs → Member (get_or xs k d) xs
member_here [] k d h = absurd (omega (arith, h))
member_here (x ∷ xs) zero d h = inl refl
member_here (x ∷ xs) (suc k) d h = inr (member_here xs k d (omega (arith, h)))

pub all_members : {X : Type 0} (P : X → Type 0) (xs : List X) → ((x : X) → Member x xs → P x) → All P xs
all_members P xs h k d l = h (get_or xs k d) (member_here xs k d l)

at_end : {X : Type 0} (xs : List X) (y x : X) → Member x (xs ++ y ∷ []) → Member x xs ⊎ (y ≡ x)
at_end [] y x m = ⊎_elim (λ e. inr e) (λ n. absurd n) m
at_end (z ∷ xs) y x m = ⊎_elim (λ e. inl (inl e)) (λ n. ⊎_elim (λ k. inl (inr k)) (λ e. inr e) (at_end xs y x n)) m

before_end : {X : Type 0} (xs : List X) (y x : X) → Member x xs → Member x (xs ++ y ∷ [])
before_end [] y x m = absurd m
before_end (z ∷ xs) y x m = ⊎_elim (λ e. inl e) (λ n. inr (before_end xs y x n)) m

end_itself : {X : Type 0} (xs : List X) (y : X) → Member y (xs ++ y ∷ [])
end_itself [] y = inl refl
end_itself (z ∷ xs) y = inr (end_itself xs y)

-- each pair's value stands among the values
value_at : (s : Substitution) (b : Variable × RawTerm) → Member b s → (i : ℕ) × (slice_get (bound_values s) i ≡ Some b.1)
value_at [] b m = absurd m
value_at (c ∷ s) b m = ⊎_elim (λ e. (0, ap (λ (x : Variable × RawTerm). Some x.1) e)) (λ n. let (i, h) = value_at s b n in (suc i, h)) m

-- what holds of each pair of each solution that is found holds of each pair of those that are listed
module _ (P : Variable × RawTerm → Type 0) where
  abbrev IsAll : Solution → Type 0
  IsAll r = All P r.subst

  named_all : {qs rs : List Solution} → AreByName qs rs → ((q : Solution) → Member q qs → IsAll q) → (r : Solution) → Member r rs → IsAll r
  named_all none h r m = absurd m
  named_all (one_more {q} {r = s} {qs} {rs = ss} p n) h r m =
      ⊎_elim
      (λ k. named_all p (λ x i. h x (before_end qs q x i)) r k)
      (λ e. subst IsAll e (All-permutation P q.subst s.subst n.rearranged (h q (end_itself qs q))))
      (at_end ss s r m)

  pub listed_all : (found named listed : List Solution) → AreByName found named → IsPermutation named listed → ((q : Solution) → Member q found → IsAll q) → All IsAll listed
  listed_all found named listed by_name moved h = All-permutation IsAll named listed moved (all_members IsAll named (named_all by_name h))

pub listed_valued : (sig : Signature) (xs : List Variable) (c : Coming) → AreNamed sig xs c → (most : ℕ) (named listed : List Solution) → AreFirst most c named → IsPermutation named listed → HaveCanonicalValues sig listed
listed_valued sig xs c h most named listed f moved =
    let P : Variable × RawTerm → Type 0 = λ b. IsValue sig b.1 in
    listed_all P f.found named listed f.by_name moved
    (λ q m. all_members P q.subst (λ b k. let (i, e) = value_at q.subst b k in (h q (picked_from c f.picked q m).0).1 i b.1 e))
