-- Tables with one more entry.
use Rattle.std.proofs.Common.{◌≡◌, ◌∙◌, ◌+◌, ◌<◌, ℕ, suc, List, length, get_or, Bool, true, bytes_eq, slice_get, Some, refl, sym, ap, subst, arith}
use Rattle.std.proofs.lemmas.Slice.Eq.{bytes_eq-Decides}
use Rattle.std.proofs.lemmas.Option.{slice_get_read}
use Rattle.std.specs.Global.{Vec}
use Rattle.indexmap.specs.IndexMap.{insert_entry}
use Rattle.mw_logic.specs.Signature.{Signature, Operator, IsOperator, IsSortNamed}
use Rattle.mw_logic.specs.Preregular.{IsSortOf}
use Rattle.mw_poset.specs.Order.{IsSort}
use Rattle.mw_poset.specs.SortOrder.{SortOrder, order_of}
use Rattle.mw_carry.specs.declared.target.Profile.{Profile as ProfileHeld}
use Rattle.mw_carry.specs.Profiles.{HasProfile, IsProfiled}
use Rattle.mw_carry.specs.Tables.{FindSorts, FindOperators, IsFound, sort_in, operator_in, seen_profile, same_profile}
use Rattle.mw_carry.proofs.Lookups.{lookup_inserted, found_more}
use Rattle.mw_carry.proofs.Kept.{one_operator}
use Rattle.mw_carry.proofs.Profiles.{one_profile, profile_equal, profile_exact}

-- what is read at a place is what stands there
pub read_at : {X : Type 0} (xs ys : List X) (i : ℕ) (x : X) → xs ≡ ys → i < length xs → x ≡ get_or xs i x → slice_get ys i ≡ Some x
read_at xs ys i x e low is = ap (λ zs. slice_get zs i) (sym e) ∙ slice_get_read xs (length xs) i x refl low is

-- the sorts of a signature are those of its order
pub sort_ordered : (sig : Signature) (order : SortOrder) → order ≡ order_of sig → (S : ℕ) → IsSortOf sig S → IsSort order.sorts S
sort_ordered sig order e S is = subst (λ (o : SortOrder). IsSort o.sorts S) (sym e) is

module _ (sig : Signature) (i n : ℕ) (next : n ≡ i + 1) where
  number_is : n ≡ suc i
  number_is = omega arith

  pub sorts_more : (eq : Vec ℕ → Vec ℕ → Bool) → ((p q : Vec ℕ) → eq p q ≡ bytes_eq p.items q.items) → (key : Vec ℕ) (es new : List (Vec ℕ × ℕ))
      → slice_get sig.sorts i ≡ Some key.items → new ≡ insert_entry eq es key n → FindSorts sig i es → FindSorts sig n new
  sorts_more eq alike key es new there e all name =
      subst (IsFound n (λ S. IsSortNamed sig S name)) (sym (ap (λ es. sort_in es name) e ∙ lookup_inserted (λ (v : Vec ℕ). v.items) bytes_eq (λ m. (bytes_eq-Decides m m).1 refl) (λ m k. (bytes_eq-Decides m k).0) eq alike name es key n))
      (found_more (λ S. IsSortNamed sig S name) i n next (bytes_eq name key.items) (sort_in es name) is only (all name))
    where
      named : IsSortNamed sig n key.items
      named = subst (λ n. IsSortNamed sig n key.items) (sym number_is) there

      is : bytes_eq name key.items ≡ true → IsSortNamed sig n name
      is e = subst (λ name. IsSortNamed sig n name) (sym ((bytes_eq-Decides name key.items).0 e)) named

      only : IsSortNamed sig n name → bytes_eq name key.items ≡ true
      only d = (bytes_eq-Decides name key.items).1 (one name key.items d named)
        where
          one : (k m : List ℕ) → IsSortNamed sig n k → IsSortNamed sig n m → k ≡ m
          one k m d e = cc

  pub operators_more : (eq : ProfileHeld → ProfileHeld → Bool) → ((p q : ProfileHeld) → eq p q ≡ same_profile (seen_profile p) (seen_profile q)) → (key : ProfileHeld) (es new : List (ProfileHeld × ℕ)) (o : Operator)
      → slice_get sig.operators i ≡ Some o → HasProfile sig.pairs o (seen_profile key) → new ≡ insert_entry eq es key n → FindOperators sig i es → FindOperators sig n new
  operators_more eq alike key es new o there has e all p =
      subst (IsFound n (IsProfiled sig p)) (sym (ap (λ es. operator_in es p) e ∙ lookup_inserted seen_profile same_profile profile_equal profile_exact eq alike p es key n))
      (found_more (IsProfiled sig p) i n next (same_profile p (seen_profile key)) (operator_in es p) is only (all p))
    where
      numbered : IsOperator sig n o
      numbered = subst (λ n. IsOperator sig n o) (sym number_is) there

      is : same_profile p (seen_profile key) ≡ true → IsProfiled sig p n
      is e = record { operator = o; is_there = numbered; profile = subst (HasProfile sig.pairs o) (sym (profile_exact p (seen_profile key) e)) has }

      only : IsProfiled sig p n → same_profile p (seen_profile key) ≡ true
      only d =
          let mine : HasProfile sig.pairs o p = subst (λ (o : Operator). HasProfile sig.pairs o p) (one_operator sig n d.operator o d.is_there numbered) d.profile in
          let k : p ≡ seen_profile key = one_profile sig.pairs o p (seen_profile key) mine has in
          subst (λ q. same_profile p q ≡ true) k (profile_equal p)
