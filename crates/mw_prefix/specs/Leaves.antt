-- The kinds of numerals and of quoted identifiers.
use Rattle.std.specs.Prelude.{ℕ, List, Bool, Option, Some, None, IsTrue, codes}
use Rattle.mw_logic.specs.Signature.{Signature, IsSortNamed}
use Rattle.mw_poset.specs.Order.{IsKindOf}
use Rattle.mw_prefix.specs.declared.leaves.LeafKinds.{LeafKinds}

-- the kind of a sort of this name; none where there is no such sort, or there are no terms of it
abbrev pub IsKindNamed : Signature → Bool → List ℕ → Option ℕ → Type 0
IsKindNamed sig there name None = IsTrue there → (S : ℕ) → IsSortNamed sig S name → ⊥
IsKindNamed sig there name (Some K) = IsTrue there × (S : ℕ) × IsSortNamed sig S name × IsKindOf sig.pairs S K

-- the kinds of numerals and of quoted identifiers, where the signature has them
pub record AreLeafKinds (sig : Signature) (kinds : LeafKinds) : Type 0 where
  pub numerals : IsKindNamed sig sig.nat (codes "Nat") kinds.numerals
  pub identifiers : IsKindNamed sig sig.qid (codes "Qid") kinds.identifiers
