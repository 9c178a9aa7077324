-- Units that are gathered one after the other, each where it first stands.
use Rattle.std.proofs.Common.{◌≡◌, ◌⊎◌, ◌∙◌, ℕ, Bool, true, false, ◌||◌, nat_eq, List, [], ◌∷◌, ◌++◌, if◌then◌else◌, refl, sym, ap, inl, inr, append_assoc, subst}
use Rattle.std.proofs.lemmas.List.{append-nil}
use Rattle.mw_logic.specs.Signature.{Member}
use Rattle.mw_import.specs.Flat.{is_among, firsts_behind, firsts}
use Rattle.mw_import.specs.Gathering.{gathered_with, gathered}
use Rattle.mw_logic.proofs.Members.{member-left, member-right, member-append}
use Rattle.mw_import.proofs.Lists.{by_test, among_member, member_among, among-push}

pub gathered-append : (there xs ys : List ℕ) → gathered there (xs ++ ys) ≡ gathered (gathered there xs) ys
gathered-append there [] ys = refl
gathered-append there (x ∷ xs) ys = gathered-append (gathered_with there x) xs ys

-- what is gathered are the first ones behind those that are there
gathered-behind : (there seen ks : List ℕ) → ((j : ℕ) → is_among j there ≡ is_among j seen) → gathered there ks ≡ there ++ firsts_behind seen ks
gathered-behind there seen [] same = sym (append-nil there)
gathered-behind there seen (k ∷ ks) same =
    of (is_among k seen) (same k) (gathered-behind there seen ks same)
    (gathered-behind (there ++ k ∷ []) (k ∷ seen) ks (λ j. among-push j k there ∙ ap (λ b. nat_eq j k || b) (same j)))
  where
    of : (b : Bool) → is_among k there ≡ b → gathered there ks ≡ there ++ firsts_behind seen ks → gathered (there ++ k ∷ []) ks ≡ (there ++ k ∷ []) ++ firsts_behind (k ∷ seen) ks
        → gathered (gathered_with there k) ks ≡ there ++ (if b then firsts_behind seen ks else k ∷ firsts_behind (k ∷ seen) ks)
    of true e here new = ap (λ b. gathered (if b then there else there ++ k ∷ []) ks) e ∙ here
    of false e here new = ap (λ b. gathered (if b then there else there ++ k ∷ []) ks) e ∙ new ∙ append_assoc there (k ∷ []) (firsts_behind (k ∷ seen) ks)

pub gathered-firsts : (ks : List ℕ) → gathered [] ks ≡ firsts ks
gathered-firsts ks = gathered-behind [] [] ks (λ j. refl)

-- where all is there, it stays
pub gathered-there : (there ks : List ℕ) → ((j : ℕ) → Member j ks → Member j there) → gathered there ks ≡ there
gathered-there there [] h = refl
gathered-there there (k ∷ ks) h =
    ap (λ b. gathered (if b then there else there ++ k ∷ []) ks) (member_among k there (h k (inl refl))) ∙ gathered-there there ks (λ j m. h j (inr m))

-- what is gathered is what was there, and the units that come
pub member_gathered : (j : ℕ) (there ks : List ℕ) → Member j (gathered there ks) → Member j there ⊎ Member j ks
member_gathered j there [] m = inl m
member_gathered j there (k ∷ ks) m =
    elim (member_gathered j (gathered_with there k) ks m) [
      | inl n ↦ elim (of (is_among k there) n) [ inl i ↦ inl i | inr e ↦ inr (inl e) ]
      | inr n ↦ inr (inr n)
    ]
  where
    of : (b : Bool) → Member j (if b then there else there ++ k ∷ []) → Member j there ⊎ (k ≡ j)
    of true n = inl n
    of false n = elim (member-append j there (k ∷ []) n) [ inl i ↦ inl i | inr i ↦ elim i [ inl e ↦ inr e | inr f ↦ absurd f ] ]

gathered_before : (j : ℕ) (there ks : List ℕ) → Member j there → Member j (gathered there ks)
gathered_before j there [] m = m
gathered_before j there (k ∷ ks) m = gathered_before j (gathered_with there k) ks (of (is_among k there))
  where
    of : (b : Bool) → Member j (if b then there else there ++ k ∷ [])
    of true = m
    of false = member-left j there (k ∷ []) m

gathered_new : (j : ℕ) (there ks : List ℕ) → Member j ks → Member j (gathered there ks)
gathered_new j there [] m = absurd m
gathered_new j there (k ∷ ks) (inl e) = gathered_before j (gathered_with there k) ks (by_test (is_among k there) found lacking)
  where
    found : is_among k there ≡ true → Member j (gathered_with there k)
    found t = rw t (subst (λ j. Member j there) e (among_member k there t))

    lacking : is_among k there ≡ false → Member j (gathered_with there k)
    lacking f = rw f (member-right j there (k ∷ []) (inl e))
gathered_new j there (k ∷ ks) (inr m) = gathered_new j (gathered_with there k) ks m

pub gathered_member : (j : ℕ) (there ks : List ℕ) → Member j there ⊎ Member j ks → Member j (gathered there ks)
gathered_member j there ks (inl m) = gathered_before j there ks m
gathered_member j there ks (inr m) = gathered_new j there ks m

-- each unit stands among the first ones exactly where it stands among all
pub firsts_member : (j : ℕ) (ks : List ℕ) → Member j ks → Member j (firsts ks)
firsts_member j ks m = subst (λ l. Member j l) (gathered-firsts ks) (gathered_new j [] ks m)

pub member_firsts : (j : ℕ) (ks : List ℕ) → Member j (firsts ks) → Member j ks
member_firsts j ks m = elim (member_gathered j [] ks (subst (λ l. Member j l) (sym (gathered-firsts ks)) m)) [ inl n ↦ absurd n | inr n ↦ n ]
