-- Sorts of one kind: where one is there, so is the other, and they have one least sort.
use Rattle.std.proofs.Common.{◌≡◌, ℕ, refl}
use Rattle.mw_logic.specs.Signature.{Signature, SameKind, same, up, down}
use Rattle.mw_logic.specs.Preregular.{IsSortOf, HasItsSorts}
use Rattle.mw_logic.proofs.KindLaws.{SameKind-trans, SameKind-sym}
use Rattle.mw_poset.specs.Order.{IsKindOf}
use Rattle.mw_poset.proofs.Chains.{SameKind-connected, connected-SameKind}
use Rattle.mw_poset.proofs.Reading.{kinds_same}

pub there-with : (sig : Signature) → HasItsSorts sig → (S T : ℕ) → SameKind sig S T → IsSortOf sig T → IsSortOf sig S
there-with sig h S T same t = t
there-with sig h S T (up m p) t = (h.pairs _ _ m).0
there-with sig h S T (down m p) t = (h.pairs _ _ m).1

pub kind-there : (sig : Signature) → HasItsSorts sig → (S K : ℕ) → IsSortOf sig S → IsKindOf sig.pairs S K → IsSortOf sig K
kind-there sig h S K s k = there-with sig h K S (SameKind-sym (k.same sig refl)) s

pub kind-one : (sig : Signature) (S K L : ℕ) → IsKindOf sig.pairs S K → IsKindOf sig.pairs S L → K ≡ L
kind-one sig S K L k l = kinds_same sig.pairs sig S S K L k l refl same

pub kind-with : (sig : Signature) (S T K : ℕ) → SameKind sig T S → IsKindOf sig.pairs S K → IsKindOf sig.pairs T K
kind-with sig S T K p k = record {
  same = λ g e. SameKind-trans (in_each g e) (k.same g e);
  least = λ g e U q. k.least g e U (SameKind-trans (SameKind-sym (in_each g e)) q);
}
  where
    in_each : (g : Signature) → g.pairs ≡ sig.pairs → SameKind g T S
    in_each g e = connected-SameKind sig.pairs g e (SameKind-connected sig.pairs sig refl p)
