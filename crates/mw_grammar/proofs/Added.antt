-- Leaves that are added.
use Rattle.std.proofs.Common.{ℕ, ◌≡◌, ◌∙◌, ◌⊎◌, List, [], ◌∷◌, ◌++◌, Option, Some, refl, sym, ap, subst, inl, inr}
use Rattle.std.specs.List.{slice_get}
use Rattle.mw_logic.specs.Term.{Variable, RawTerm, numeral, quoted, variable}
use Rattle.mw_logic.specs.Signature.{Member}
use Rattle.mw_chart.specs.declared.terminal.Leaf.{Leaf}
use Rattle.mw_text.proofs.Joined.{Member-cases, Member-left, Member-right}
use Rattle.mw_text.specs.Mixfix.{IsIdentifier}
use Rattle.mw_text.specs.Numerals.{number_in}
use Rattle.mw_grammar.specs.Compiled.{Extends}
use Rattle.mw_grammar.specs.Leaves.{IsLeaf, IsNumeralLeaf, IsIdentifierLeaf, IsVariableLeaf}
use Rattle.mw_grammar.specs.Worded.{AllDiffer, Adds}
use Rattle.mw_grammar.proofs.Made.{get_grows, Extends-same, Extends-trans}

-- nothing is added
pub adds_none : (leaves : List RawTerm) (found : List Leaf) (F : RawTerm → ℕ → Type 0) → ((t : RawTerm) (K : ℕ) → F t K → ⊥) → Adds leaves leaves found found F
adds_none leaves found F none = record {
  leaves = Extends-same leaves;
  differ = λ d. d;
  kept = λ l h. h;
  sound = λ l h. inl h;
  complete = λ t K h. absurd (none t K h);
}

-- a term that has a place, and a leaf for it
pub adds_one : (old new : List RawTerm) (before after : List Leaf) (l : Leaf) (t : RawTerm) → Extends old new → (AllDiffer old → AllDiffer new) → slice_get new l.value ≡ Some t
    → after ≡ before ++ l ∷ [] → Adds old new before after (IsLeaf t l.state)
adds_one old new before after l t e d at is = record {
  leaves = e;
  differ = d;
  kept = λ m h. subst (Member m) (sym is) (Member-left m before (l ∷ []) h);
  sound = λ m h. elim (Member-cases m before (l ∷ []) (subst (Member m) is h)) [
    | inl a ↦ inl a
    | inr (inl a) ↦ inr (t, subst (λ (n : Leaf). slice_get new n.value ≡ Some t) a at, (refl, sym (ap (λ (n : Leaf). n.state) a)))
    | inr (inr none) ↦ absurd none
  ];
  complete = λ u K h. (l, subst (Member l) (sym is) (Member-right l before (l ∷ []) (inl refl)), at ∙ ap (λ m. Some m) (sym h.0), sym h.1);
}

pub adds_same : (old new : List RawTerm) (before after : List Leaf) (F G : RawTerm → ℕ → Type 0) → ((t : RawTerm) (K : ℕ) → F t K → G t K) → ((t : RawTerm) (K : ℕ) → G t K → F t K)
    → Adds old new before after F → Adds old new before after G
adds_same old new before after F G to from a = record {
  leaves = a.leaves;
  differ = a.differ;
  kept = a.kept;
  sound = λ l h. elim (a.sound l h) [ inl p ↦ inl p | inr (t, p, q) ↦ inr (t, p, to t l.state q) ];
  complete = λ t K h. a.complete t K (from t K h);
}

pub adds_then : (one two three : List RawTerm) (a b c : List Leaf) (F G H : RawTerm → ℕ → Type 0) → ((t : RawTerm) (K : ℕ) → F t K ⊎ G t K → H t K)
    → ((t : RawTerm) (K : ℕ) → H t K → F t K ⊎ G t K) → Adds one two a b F → Adds two three b c G → Adds one three a c H
adds_then one two three a b c F G H to from p q = record {
  leaves = Extends-trans one two three p.leaves q.leaves;
  differ = λ d. q.differ (p.differ d);
  kept = λ l h. q.kept l (p.kept l h);
  sound = λ l h. elim (q.sound l h) [
    | inl r ↦ elim (p.sound l r) [ inl s ↦ inl s | inr (t, s, k) ↦ inr (t, get_grows two three l.value t q.leaves s, to t l.state (inl k)) ]
    | inr (t, s, k) ↦ inr (t, s, to t l.state (inr k))
  ];
  complete = λ t K h. elim (from t K h) [
    | inl r ↦ let s = p.complete t K r in (s.0, q.kept s.0 s.1, get_grows two three s.0.value t q.leaves s.2, s.3)
    | inr r ↦ q.complete t K r
  ];
}

-- one after another
pub adds_both : (one two three : List RawTerm) (a b c : List Leaf) (F G : RawTerm → ℕ → Type 0) → Adds one two a b F → Adds two three b c G → Adds one three a c (λ t K. F t K ⊎ G t K)
adds_both one two three a b c F G p q = adds_then one two three a b c F G (λ t K. F t K ⊎ G t K) (λ t K h. h) (λ t K h. h) p q

-- of variables
module _ (kind : ℕ → ℕ) where
  leaf_to : (P Q : Variable → Type 0) → ((x : Variable) → P x → Q x) → (t : RawTerm) (K : ℕ) → IsVariableLeaf kind P t K → IsVariableLeaf kind Q t K
  leaf_to P Q to t K (x, e, k, h) = (x, e, k, to x h)

  pub variables_same : (old new : List RawTerm) (before after : List Leaf) (P Q : Variable → Type 0) → ((x : Variable) → P x → Q x) → ((x : Variable) → Q x → P x)
      → Adds old new before after (IsVariableLeaf kind P) → Adds old new before after (IsVariableLeaf kind Q)
  variables_same old new before after P Q to from a = adds_same old new before after (IsVariableLeaf kind P) (IsVariableLeaf kind Q) (leaf_to P Q to) (leaf_to Q P from) a

  pub variables_then : (one two three : List RawTerm) (a b c : List Leaf) (P Q R : Variable → Type 0) → ((x : Variable) → P x ⊎ Q x → R x) → ((x : Variable) → R x → P x ⊎ Q x)
      → Adds one two a b (IsVariableLeaf kind P) → Adds two three b c (IsVariableLeaf kind Q) → Adds one three a c (IsVariableLeaf kind R)
  variables_then one two three a b c P Q R to from p q = adds_then one two three a b c (IsVariableLeaf kind P) (IsVariableLeaf kind Q) (IsVariableLeaf kind R) joined parted p q
    where
      joined : (t : RawTerm) (K : ℕ) → IsVariableLeaf kind P t K ⊎ IsVariableLeaf kind Q t K → IsVariableLeaf kind R t K
      joined t K (inl (x, e, k, h)) = (x, e, k, to x (inl h))
      joined t K (inr (x, e, k, h)) = (x, e, k, to x (inr h))

      parted : (t : RawTerm) (K : ℕ) → IsVariableLeaf kind R t K → IsVariableLeaf kind P t K ⊎ IsVariableLeaf kind Q t K
      parted t K (x, e, k, h) = elim (from x h) [ inl p ↦ inl (x, e, k, p) | inr p ↦ inr (x, e, k, p) ]

  -- the leaf of one variable
  pub variable_one : (old new : List RawTerm) (before after : List Leaf) (y : Variable) (u : RawTerm) (K : ℕ) → u ≡ variable y → K ≡ kind y.sort → Adds old new before after (IsLeaf u K)
      → Adds old new before after (IsVariableLeaf kind (λ x. x ≡ y))
  variable_one old new before after y u K e k a = adds_same old new before after (IsLeaf u K) (IsVariableLeaf kind (λ x. x ≡ y)) to from a
    where
      to : (t : RawTerm) (L : ℕ) → IsLeaf u K t L → IsVariableLeaf kind (λ x. x ≡ y) t L
      to t L (a, b) = (y, a ∙ e, b ∙ k, refl)

      from : (t : RawTerm) (L : ℕ) → IsVariableLeaf kind (λ x. x ≡ y) t L → IsLeaf u K t L
      from t L (x, a, b, same) = (a ∙ ap (λ (z : Variable). variable z) same ∙ sym e, b ∙ ap (λ (z : Variable). kind z.sort) same ∙ sym k)

-- the leaf of a numeral, and that of a quoted identifier
pub numeral_one : (numbers : Option ℕ) (token : List ℕ) (old new : List RawTerm) (before after : List Leaf) (n K : ℕ) → numbers ≡ Some K → number_in token ≡ Some n
    → Adds old new before after (IsLeaf (numeral n) K) → Adds old new before after (IsNumeralLeaf numbers token)
numeral_one numbers token old new before after n K k e a = adds_same old new before after (IsLeaf (numeral n) K) (IsNumeralLeaf numbers token) to from a
  where
    to : (t : RawTerm) (L : ℕ) → IsLeaf (numeral n) K t L → IsNumeralLeaf numbers token t L
    to t L (a, b) = (n, a, k ∙ ap (λ (m : ℕ). Some m) (sym b), e)

    from : (t : RawTerm) (L : ℕ) → IsNumeralLeaf numbers token t L → IsLeaf (numeral n) K t L
    from t L (m, a, b, f) =
        let number : Some m ≡ Some n = sym f ∙ e in
        let same : m ≡ n = (cc) in
        let kind : Some L ≡ Some K = sym b ∙ k in
        (a ∙ ap numeral same, (cc))

pub identifier_one : (identifiers : Option ℕ) (token : List ℕ) (old new : List RawTerm) (before after : List Leaf) (q : List ℕ) (K : ℕ) → q ≡ token → identifiers ≡ Some K → IsIdentifier token
    → Adds old new before after (IsLeaf (quoted q) K) → Adds old new before after (IsIdentifierLeaf identifiers token)
identifier_one identifiers token old new before after q K e k i a = adds_same old new before after (IsLeaf (quoted q) K) (IsIdentifierLeaf identifiers token) to from a
  where
    to : (t : RawTerm) (L : ℕ) → IsLeaf (quoted q) K t L → IsIdentifierLeaf identifiers token t L
    to t L (a, b) = (a ∙ ap quoted e, k ∙ ap (λ (m : ℕ). Some m) (sym b), i)

    from : (t : RawTerm) (L : ℕ) → IsIdentifierLeaf identifiers token t L → IsLeaf (quoted q) K t L
    from t L (a, b, i) = let kind : Some L ≡ Some K = sym b ∙ k in (a ∙ ap quoted (sym e), (cc))
