-- Chains of pairs, and kinds as chains of pairs that are walked either way.
use Rattle.std.specs.Prelude.{map}
use Rattle.std.proofs.Common.{◌≡◌, ◌⊎◌, ℕ, List, [], ◌∷◌, ap, sym, inl, inr, subst}
use Rattle.mw_logic.specs.Signature.{Signature, Member, SameKind, same, up, down}
use Rattle.mw_logic.specs.Sorts.{AtOrBelow}
use Rattle.mw_logic.proofs.BelowLaws.{AtOrBelow-trans}
use Rattle.mw_poset.specs.Order.{IsSort, ArePairsOf, IsKindOf}
use Rattle.mw_poset.specs.Tables.{turned_too, IsSymmetric, IsLeastReached}
use Rattle.mw_logic.proofs.Members.{member-left, member-right, member-append}
use Rattle.mw_poset.proofs.Members.{member-all}

pub AtOrBelow-then : {ps : List (ℕ × ℕ)} {S T U : ℕ} → AtOrBelow ps S T → Member (T, U) ps → AtOrBelow ps S U
AtOrBelow-then p m = AtOrBelow-trans p (AtOrBelow.above m AtOrBelow.same)

-- what each pair passes on holds at a chain's end
pub passed_on : (P : ℕ → Type 0) {ps : List (ℕ × ℕ)} {S T : ℕ} → ((A B : ℕ) → Member (A, B) ps → P A → P B) → AtOrBelow ps S T → P S → P T
passed_on P h AtOrBelow.same x = x
passed_on P h (AtOrBelow.above m p) x = passed_on P h p (h _ _ m x)

pub within-pair : (sorts : ℕ) (ps : List (ℕ × ℕ)) → ArePairsOf sorts ps → (S T : ℕ) → Member (S, T) ps → IsSort sorts S × IsSort sorts T
within-pair sorts ps a S T m = member-all (λ (p : ℕ × ℕ). IsSort sorts p.0 × IsSort sorts p.1) ps a (S, T) m

-- a chain from a sort that is there ends at one
pub within-chain : (sorts : ℕ) (ps : List (ℕ × ℕ)) → ArePairsOf sorts ps → {S T : ℕ} → AtOrBelow ps S T → IsSort sorts S → IsSort sorts T
within-chain sorts ps a p x = passed_on (λ (S : ℕ). IsSort sorts S) (λ A B m y. (within-pair sorts ps a A B m).1) p x

-- where each pair can be walked either way, so can a chain
pub AtOrBelow-turned : {ps : List (ℕ × ℕ)} {S T : ℕ} → IsSymmetric ps → AtOrBelow ps S T → AtOrBelow ps T S
AtOrBelow-turned h AtOrBelow.same = AtOrBelow.same
AtOrBelow-turned h (AtOrBelow.above m p) = AtOrBelow-then (AtOrBelow-turned h p) (h _ _ m)

turned-member : (ps : List (ℕ × ℕ)) (S T : ℕ) → Member (S, T) ps → Member {X = ℕ × ℕ} (T, S) (map (λ (p : ℕ × ℕ). (p.1, p.0)) ps)
turned-member [] S T m = absurd m
turned-member (p ∷ ps) S T (inl e) = inl (ap (λ (q : ℕ × ℕ). (q.1, q.0)) e)
turned-member (p ∷ ps) S T (inr m) = inr (turned-member ps S T m)

member-turned : (ps : List (ℕ × ℕ)) (S T : ℕ) → Member {X = ℕ × ℕ} (S, T) (map (λ (p : ℕ × ℕ). (p.1, p.0)) ps) → Member (T, S) ps
member-turned [] S T m = absurd m
member-turned (p ∷ ps) S T (inl e) = inl (ap (λ (q : ℕ × ℕ). (q.1, q.0)) e)
member-turned (p ∷ ps) S T (inr m) = inr (member-turned ps S T m)

pub turned_too-member : (ps : List (ℕ × ℕ)) (S T : ℕ) → Member (S, T) (turned_too ps) → Member (S, T) ps ⊎ Member (T, S) ps
turned_too-member ps S T m = elim (member-append (S, T) ps _ m) [ inl k ↦ inl k | inr k ↦ inr (member-turned ps S T k) ]

member-turned_too : (ps : List (ℕ × ℕ)) (S T : ℕ) → Member (S, T) ps → Member (S, T) (turned_too ps) × Member (T, S) (turned_too ps)
member-turned_too ps S T m = (member-left (S, T) ps _ m, member-right (T, S) ps _ (turned-member ps S T m))

pub turned_too-symmetric : (ps : List (ℕ × ℕ)) → IsSymmetric (turned_too ps)
turned_too-symmetric ps S T m = elim (turned_too-member ps S T m) [ inl k ↦ (member-turned_too ps S T k).1 | inr k ↦ (member-turned_too ps T S k).0 ]

-- a chain of pairs is one of pairs walked either way
pub AtOrBelow-connected : (ps : List (ℕ × ℕ)) {S T : ℕ} → AtOrBelow ps S T → AtOrBelow (turned_too ps) S T
AtOrBelow-connected ps AtOrBelow.same = AtOrBelow.same
AtOrBelow-connected ps (AtOrBelow.above m p) = AtOrBelow.above (member-turned_too ps _ _ m).0 (AtOrBelow-connected ps p)

SameKind-chain : (sig : Signature) {S T : ℕ} → SameKind sig S T → AtOrBelow (turned_too sig.pairs) S T
SameKind-chain sig same = AtOrBelow.same
SameKind-chain sig (up m p) = AtOrBelow.above (member-turned_too sig.pairs _ _ m).0 (SameKind-chain sig p)
SameKind-chain sig (down m p) = AtOrBelow.above (member-turned_too sig.pairs _ _ m).1 (SameKind-chain sig p)

chain-SameKind : (sig : Signature) {S T : ℕ} → AtOrBelow (turned_too sig.pairs) S T → SameKind sig S T
chain-SameKind sig AtOrBelow.same = same
chain-SameKind sig (AtOrBelow.above m p) = elim (turned_too-member sig.pairs _ _ m) [ inl k ↦ up k (chain-SameKind sig p) | inr k ↦ down k (chain-SameKind sig p) ]

-- of one kind: connected by a chain either way
pub SameKind-connected : (ps : List (ℕ × ℕ)) (sig : Signature) {S T : ℕ} → sig.pairs ≡ ps → SameKind sig S T → AtOrBelow (turned_too ps) S T
SameKind-connected ps sig {S} {T} e p = subst (λ (qs : List (ℕ × ℕ)). AtOrBelow (turned_too qs) S T) e (SameKind-chain sig p)

pub connected-SameKind : (ps : List (ℕ × ℕ)) (sig : Signature) {S T : ℕ} → sig.pairs ≡ ps → AtOrBelow (turned_too ps) S T → SameKind sig S T
connected-SameKind ps sig {S} {T} e p = chain-SameKind sig (subst (λ (qs : List (ℕ × ℕ)). AtOrBelow (turned_too qs) S T) (sym e) p)

-- the least that is connected is the kind
pub least-kind : (ps : List (ℕ × ℕ)) (S K : ℕ) → IsLeastReached (turned_too ps) S K → IsKindOf ps S K
least-kind ps S K h = record {
  same = λ sig e. connected-SameKind ps sig e h.reached;
  least = λ sig e T p. h.least T (SameKind-connected ps sig e p);
}
