-- What the import of a unit brings, and lists of units with which all that they bring is there.
use Rattle.std.proofs.Common.{◌≡◌, ◌⊎◌, ℕ, List, [], ◌∷◌, ◌++◌, flat_map, Option, None, Some, refl, sym, inl, inr, subst, slice_get}
use Rattle.mw_logic.specs.Signature.{Member}
use Rattle.mw_module.specs.Units.{SeenLined}
use Rattle.mw_import.specs.Flat.{FlatUnit, reached_by, brought_by, first_unit, firsts, IsFlat, AreAccepted}
use Rattle.mw_import.specs.Gathering.{gathered, IsClosed}
use Rattle.mw_logic.proofs.Members.{member-left, member-append}
use Rattle.mw_import.proofs.Lists.{member-flat_map, flat_map-member}
use Rattle.mw_import.proofs.Gathered.{member_gathered, gathered_member, gathered-there, firsts_member, member_firsts}

-- what a unit brings is itself, and what it reaches
pub member_brought : (us : List FlatUnit) (j k : ℕ) → Member j (brought_by us k) → (j ≡ k) ⊎ ((u : FlatUnit) × (slice_get us k ≡ Some u) × Member j u.reached)
member_brought us j k m = of (slice_get us k) refl m
  where
    of : (o : Option FlatUnit) → slice_get us k ≡ o → Member j (reached_by o ++ k ∷ []) → (j ≡ k) ⊎ ((u : FlatUnit) × (slice_get us k ≡ Some u) × Member j u.reached)
    of None e (inl h) = inl (sym h)
    of None e (inr h) = absurd h
    of (Some u) e h =
        elim (member-append j u.reached (k ∷ []) h) [
          | inl n ↦ inr (u, e, n)
          | inr n ↦ elim n [ inl i ↦ inl (sym i) | inr f ↦ absurd f ]
        ]

pub reached_brought : (us : List FlatUnit) (j k : ℕ) (u : FlatUnit) → slice_get us k ≡ Some u → Member j u.reached → Member j (brought_by us k)
reached_brought us j k u e m = subst (λ o. Member j (reached_by o ++ k ∷ [])) (sym e) (member-left j u.reached (k ∷ []) m)

module _ (us : List FlatUnit) (all : AreAccepted us) where
  -- all that comes with a unit comes with what brings it
  pub brought_closed : (k : ℕ) → IsClosed us (brought_by us k)
  brought_closed k j m i n =
      elim (member_brought us j k m) [
        | inl e ↦ subst (λ j. Member i (brought_by us j)) e n
        | inr h ↦ reached_brought us i k h.0 h.1 (all.closed k h.0 h.1 j h.2 i n)
      ]

  pub bring_closed : (there : List ℕ) (k : ℕ) → IsClosed us there → IsClosed us (gathered there (brought_by us k))
  bring_closed there k closed j m i n =
      elim (member_gathered j there (brought_by us k) m) [
        | inl h ↦ gathered_member i there (brought_by us k) (inl (closed j h i n))
        | inr h ↦ gathered_member i there (brought_by us k) (inr (brought_closed k j h i n))
      ]

  firsts_closed : (ks : List ℕ) → IsClosed us (firsts (flat_map (brought_by us) ks))
  firsts_closed ks j m i n =
      let from = flat_map-member (brought_by us) j ks (member_firsts j (flat_map (brought_by us) ks) m) in
      firsts_member i (flat_map (brought_by us) ks) (member-flat_map (brought_by us) i from.0 ks from.1 (brought_closed from.0 j from.2 i n))

  -- what a module reaches comes with all that it brings
  pub flat_closed : (ss : List SeenLined) (reached : List ℕ) → IsFlat us ss reached → IsClosed us reached
  flat_closed ss reached flat = subst (IsClosed us) (sym flat.flat) (firsts_closed (first_unit us ++ flat.numbers))

-- where a unit is there, nothing more comes with it
pub nothing_more : (us : List FlatUnit) (there : List ℕ) (k : ℕ) → IsClosed us there → Member k there → gathered there (brought_by us k) ≡ there
nothing_more us there k closed m = gathered-there there (brought_by us k) (λ j n. closed k m j n)
