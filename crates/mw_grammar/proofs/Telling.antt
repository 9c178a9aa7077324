-- Different trees of the chart stand for different terms.
use Rattle.std.proofs.Common.{ℕ, ◌≡◌, ◌⊎◌, ◌∙◌, List, length, Some, refl, sym, ap, subst, inl, inr, arith, ◌+◌}
use Rattle.std.specs.List.{slice_get}
use Rattle.mw_logic.specs.Term.{Variable, RawTerm, apply, RawTerms, nil, cons, join}
use Rattle.mw_logic.specs.Signature.{Signature}
use Rattle.mw_chart.specs.Tree.{Tree, leaf, head, app}
use Rattle.mw_chart.specs.Spelling.{NextAt, IsItem, predicted, scanned, completed, grouped, alone}
use Rattle.mw_chart.specs.declared.table.Next.TheVariants.{Whole}
use Rattle.mw_chart.specs.declared.table.Table.{Table}
use Rattle.mw_chart.specs.declared.terminal.Terminal.{Terminal}
use Rattle.mw_grammar.specs.Notations.{IsNotation}
use Rattle.mw_grammar.specs.Readable.{AreKinds, AreVariables}
use Rattle.mw_grammar.specs.Compiled.{IsCompiled}
use Rattle.mw_grammar.specs.Worded.{AllDiffer, AreWords}
use Rattle.mw_grammar.specs.Meaning.{leaf_at, with_last, term_of}
use Rattle.mw_grammar.proofs.LeafTerms.{IsLeafTerm, alone_leaf, alone_within}
use Rattle.mw_grammar.proofs.Placed.{some_at, member_at}
use Rattle.mw_grammar.proofs.Read.{one_there, below}

module _ (leaves : List RawTerm) (differ : AllDiffer leaves) where
  -- an operator on whole trees, and a whole tree
  mutual
    pub data IsSpine : Tree → Type 0 where
      spine_head : (f : ℕ) → IsSpine (head f)
      spine_app : (t u : Tree) → IsSpine t → IsValue u → IsSpine (app t u)

    pub data IsValue : Tree → Type 0 where
      of_spine : (t : Tree) → IsSpine t → IsValue t
      of_leaf : (v : ℕ) (t : RawTerm) → slice_get leaves v ≡ Some t → IsLeafTerm t → IsValue (leaf v)

  spine_term : (t : Tree) → IsSpine t → (f : ℕ) × (ts : RawTerms) × (term_of leaves t ≡ apply f ts)
  spine_term t (spine_head f) = (f, nil, refl)
  spine_term t (spine_app s u a b) = let r = spine_term s a in (r.0, join r.1 (cons (term_of leaves u) nil), ap (λ m. with_last m (term_of leaves u)) r.2)

  last_same : (ts us : RawTerms) (t u : RawTerm) → join ts (cons t nil) ≡ join us (cons u nil) → (ts ≡ us) × (t ≡ u)
  last_same nil nil t u e = (refl, (cc))
  last_same nil (cons x nil) t u e = let bad : ⊥ = (cc) in absurd bad
  last_same nil (cons x (cons y us)) t u e = let bad : ⊥ = (cc) in absurd bad
  last_same (cons x nil) nil t u e = let bad : ⊥ = (cc) in absurd bad
  last_same (cons x (cons y ts)) nil t u e = let bad : ⊥ = (cc) in absurd bad
  last_same (cons x ts) (cons y us) t u e =
      let heads : x ≡ y = (cc) in
      let tails : join ts (cons t nil) ≡ join us (cons u nil) = (cc) in
      let r = last_same ts us t u tails in
      (ap (λ m. cons m ts) heads ∙ ap (cons y) r.0, r.1)

  some_last : (f g : ℕ) (ts : RawTerms) (t : RawTerm) → apply f nil ≡ apply g (join ts (cons t nil)) → ⊥
  some_last f g nil t e = cc
  some_last f g (cons x ts) t e = cc

  -- the parts of two equal terms with a last argument
  parts_same : (a b : RawTerm) (t u : RawTerm) (f g : ℕ) (ts us : RawTerms) → a ≡ apply f ts → b ≡ apply g us → with_last a t ≡ with_last b u → (a ≡ b) × (t ≡ u)
  parts_same a b t u f g ts us p q e =
      let both : apply f (join ts (cons t nil)) ≡ apply g (join us (cons u nil)) = sym (ap (λ m. with_last m t) p) ∙ e ∙ ap (λ m. with_last m u) q in
      let fg : f ≡ g = (cc) in
      let args : join ts (cons t nil) ≡ join us (cons u nil) = (cc) in
      let r = last_same ts us t u args in
      (p ∙ ap (λ m. apply m ts) fg ∙ ap (apply g) r.0 ∙ sym q, r.1)

  same_leaf : (v w : ℕ) (t u : RawTerm) → slice_get leaves v ≡ Some t → slice_get leaves w ≡ Some u → term_of leaves (leaf v) ≡ term_of leaves (leaf w) → v ≡ w
  same_leaf v w t u p q e =
      let same : t ≡ u = sym (ap leaf_at p) ∙ e ∙ ap leaf_at q in
      differ v w t p (q ∙ ap (λ m. Some m) (sym same))

  -- a leaf is no operator on terms
  leaf_apart : (v : ℕ) (t : RawTerm) (f : ℕ) (ts : RawTerms) → slice_get leaves v ≡ Some t → IsLeafTerm t → term_of leaves (leaf v) ≡ apply f ts → ⊥
  leaf_apart v t f ts p h e = let same : t ≡ apply f ts = sym (ap leaf_at p) ∙ e in subst IsLeafTerm same h

  mutual
    same_spine : (a b : Tree) → IsSpine a → IsSpine b → term_of leaves a ≡ term_of leaves b → a ≡ b
    same_spine a b (spine_head f) (spine_head g) e = let same : f ≡ g = (cc) in ap head same
    same_spine a b (spine_head f) (spine_app t u p q) e =
        let r = spine_term t p in absurd (some_last f r.0 r.1 (term_of leaves u) (e ∙ ap (λ m. with_last m (term_of leaves u)) r.2))
    same_spine a b (spine_app t u p q) (spine_head f) e =
        let r = spine_term t p in absurd (some_last f r.0 r.1 (term_of leaves u) (sym e ∙ ap (λ m. with_last m (term_of leaves u)) r.2))
    same_spine a b (spine_app t u p q) (spine_app t2 u2 p2 q2) e =
        let r = spine_term t p in
        let s = spine_term t2 p2 in
        let parts = parts_same (term_of leaves t) (term_of leaves t2) (term_of leaves u) (term_of leaves u2) r.0 s.0 r.1 s.1 r.2 s.2 e in
        ap (λ m. app m u) (same_spine t t2 p p2 parts.0) ∙ ap (app t2) (same_value u u2 q q2 parts.1)

    pub same_value : (a b : Tree) → IsValue a → IsValue b → term_of leaves a ≡ term_of leaves b → a ≡ b
    same_value a b (of_spine t p) (of_spine u q) e = same_spine t u p q e
    same_value a b (of_spine t p) (of_leaf v x h l) e = let r = spine_term t p in absurd (leaf_apart v x r.0 r.1 h l (sym e ∙ r.2))
    same_value a b (of_leaf v x h l) (of_spine t p) e = let r = spine_term t p in absurd (leaf_apart v x r.0 r.1 h l (e ∙ r.2))
    same_value a b (of_leaf v x h l) (of_leaf w y k m) e = ap leaf (same_leaf v w x y h k e)

module _ (sig : Signature) (variables : List Variable) (kind : ℕ → ℕ) (ks : AreKinds sig kind) (vs : AreVariables sig variables) where
  module _ (names : List (List ℕ)) (g : Table) (compiled : IsCompiled (length sig.sorts) (IsNotation kind sig) names g) where
    module _ (leaves : List RawTerm) (full : List (List ℕ)) (words : List Terminal) (worded : AreWords sig variables kind names leaves full words) where
      abbrev IsStage : ℕ → Tree → Type 0
      IsStage s v = IsSpine leaves worded.differ v ⊎ (IsValue leaves worded.differ v × ((K : ℕ) × (p : ℕ) × NextAt g s (Whole K p)))

      value_of : (s : ℕ) (v : Tree) → IsStage s v → IsValue leaves worded.differ v
      value_of s v (inl a) = of_spine v a
      value_of s v (inr (a, w)) = a

      stage : (s : ℕ) (v : Tree) (i k : ℕ) → IsItem g words s v i k → IsStage s v
      stage s v i k (predicted s2 op i2 start) = inl (spine_head op)
      stage s v i k (scanned s2 next x v2 i2 k2 d st got) = elim (stage s2 v2 i2 k2 d) [
        | inl a ↦ inl a
        | inr (a, (K, p, w)) ↦ let bad : ⊥ = (let q = one_there g.steps.items s2 _ _ w st in cc) in absurd bad
      ]
      stage s v i k (completed s2 next K b v2 i2 k2 d st w p t e2 rd wh le) = elim (stage s2 v2 i2 k2 d) [
        | inl a ↦ inl (spine_app v2 t a (value_of w t (stage w t k2 e2 rd)))
        | inr (a, (K2, p2, w2)) ↦ let bad : ⊥ = (let q = one_there g.steps.items s2 _ _ w2 st in cc) in absurd bad
      ]
      stage s v i k (grouped w K p t i2 e2 o rd wh c s2 gr) =
          let q = compiled.groups.only K s2 gr in
          inr (value_of w t (stage w t (i2 + 1) e2 rd), (K, 0, subst (λ (m : ℕ). NextAt g m (Whole K 0)) (sym q.1) (compiled.kinds K q.0)))
      stage s v i k (alone s2 x i2 (word, at, leafs)) =
          let b = below words i2 word at in
          let n = worded.count in
          let r = some_at full i2 (omega (arith, b, n)) in
          let w = worded.each i2 r.0 word r.1 at in
          let y = w.sound leafs.1 (member_at word.leaves.items leafs.0 leafs.1 leafs.2) in
          let k = y.1.1 in
          let whole = compiled.kinds (kind k.one) (alone_within sig variables kind ks vs y.0 k.one k.has r.0 y.2) in
          inr (of_leaf x y.0 (ap (slice_get leaves) (sym leafs.4) ∙ y.1.0) (alone_leaf sig variables y.0 r.0 y.2), (kind k.one, 0, subst (λ (m : ℕ). NextAt g m (Whole (kind k.one) 0)) (sym (sym leafs.3 ∙ k.all k.one k.has)) whole))

      -- trees that stand for one term are one
      pub told : (s r : ℕ) (v u : Tree) (i k j l : ℕ) → IsItem g words s v i k → IsItem g words r u j l → term_of leaves v ≡ term_of leaves u → v ≡ u
      told s r v u i k j l d e same = same_value leaves worded.differ v u (value_of s v (stage s v i k d)) (value_of r u (stage r u j l e)) same
