-- Notations that are added to a table.
use Rattle.std.proofs.Common.{ℕ, zero, suc, ◌≡◌, ◌∙◌, ◌≤◌, ◌+◌, ◌⊎◌, List, [], ◌∷◌, ◌++◌, length, IsTrue, IsFalse, Some, refl, sym, ap, subst, inl, inr, arith}
use Rattle.std.specs.List.{slice_get}
use Rattle.mw_chart.specs.declared.table.Production.{Production}
use Rattle.mw_chart.proofs.Lists.{get_last}
use Rattle.mw_logic.specs.Signature.{Signature, Operator, IsOperator}
use Rattle.mw_logic.proofs.Canonical.{same_operator}
use Rattle.mw_grammar.specs.Notations.{Notation}
use Rattle.std.proofs.lemmas.Bool.{true≢false}
use Rattle.mw_text.specs.Names.{items_of, has_hole, pieces}
use Rattle.mw_text.specs.Mixfix.{IsHead}
use Rattle.mw_grammar.specs.Notations.{prefix_notation, flattened_notation, tail_notation, IsHeaded, IsMixfix, IsWhole, IsNotationOf, is_prefix, is_mixfix, is_flattened, is_tail, IsNotation}
use Rattle.mw_grammar.specs.declared.compile.Making.{Making}
use Rattle.mw_grammar.specs.Compiled.{Extends, IsProductionOf, AddsNotations}
use Rattle.mw_grammar.proofs.Made.{get_grows, production_grows, Extends-trans, Extends-same}

pub back : {A : Type 0} (xs : List A) (x : A) (k : ℕ) (y : A) → slice_get (xs ++ x ∷ []) k ≡ Some y → (slice_get xs k ≡ Some y) ⊎ ((k ≡ length xs) × (x ≡ y))
back [] x zero y e = inr (refl, (cc))
back [] x (suc k) y e = let bad : ⊥ = (cc) in absurd bad
back (z ∷ xs) x zero y e = inl e
back (z ∷ xs) x (suc k) y e = elim (back xs x k y e) [ inl p ↦ inl p | inr (p, q) ↦ inr (ap suc p, q) ]

-- one start more
pub adds_production : (old new : Making) (ns ms : List (List ℕ)) (s : Production) (F : Notation) → Extends old.steps.items new.steps.items → Extends ns ms → new.productions.items ≡ old.productions.items ++ s ∷ []
    → IsProductionOf new.steps.items ms s F → AddsNotations old new ns ms (λ G. G ≡ F)
adds_production old new ns ms s F steps names pushed is = record {
  steps = steps;
  names = names;
  productions = (s ∷ [], pushed);
  sound = λ n r got. elim (back old.productions.items s n r (sym (ap (λ (ss : List Production). slice_get ss n) pushed) ∙ got)) [
    | inl p ↦ inl p
    | inr (p, q) ↦ inr (F, refl, subst (λ (t : Production). IsProductionOf new.steps.items ms t F) q is)
  ];
  complete = λ G e. (
    length old.productions.items,
    s,
    ap (λ (ss : List Production). slice_get ss (length old.productions.items)) pushed ∙ get_last old.productions.items s,
    subst (IsProductionOf new.steps.items ms s) (sym e) is,
  );
}

pub adds_nothing : (old : Making) (ns : List (List ℕ)) (Fresh : Notation → Type 0) → ((F : Notation) → Fresh F → ⊥) → AddsNotations old old ns ns Fresh
adds_nothing old ns Fresh none = record {
  steps = Extends-same old.steps.items;
  names = Extends-same ns;
  productions = Extends-same old.productions.items;
  sound = λ n s got. inl got;
  complete = λ F h. absurd (none F h);
}

pub adds_notations : (old new : Making) (ns ms : List (List ℕ)) (P Q : Notation → Type 0) → ((F : Notation) → P F → Q F) → ((F : Notation) → Q F → P F)
    → AddsNotations old new ns ms P → AddsNotations old new ns ms Q
adds_notations old new ns ms P Q to from a = record {
  steps = a.steps;
  names = a.names;
  productions = a.productions;
  sound = λ n s got. elim (a.sound n s got) [ inl h ↦ inl h | inr (F, h, k) ↦ inr (F, to F h, k) ];
  complete = λ F h. a.complete F (from F h);
}

pub adds_more : (one two three : Making) (ns ms ls : List (List ℕ)) (P Q R : Notation → Type 0) → ((F : Notation) → P F ⊎ Q F → R F) → ((F : Notation) → R F → P F ⊎ Q F)
    → AddsNotations one two ns ms P → AddsNotations two three ms ls Q → AddsNotations one three ns ls R
adds_more one two three ns ms ls P Q R to from a b = record {
  steps = Extends-trans one.steps.items two.steps.items three.steps.items a.steps b.steps;
  names = Extends-trans ns ms ls a.names b.names;
  productions = Extends-trans one.productions.items two.productions.items three.productions.items a.productions b.productions;
  sound = λ n s got. elim (b.sound n s got) [
    | inl h ↦ elim (a.sound n s h) [ inl k ↦ inl k | inr (F, k, st) ↦ inr (F, to F (inl k), production_grows two.steps.items three.steps.items ms ls s F b.steps b.names st) ]
    | inr (F, k, st) ↦ inr (F, to F (inr k), st)
  ];
  complete = λ F h. elim (from F h) [
    | inl k ↦ (let r = a.complete F k in (r.0, r.1, get_grows two.productions.items three.productions.items r.0 r.1 b.productions r.2, production_grows two.steps.items three.steps.items ms ls r.1 F b.steps b.names r.3))
    | inr k ↦ b.complete F k
  ];
}

-- the notations of one operator
module _ (kind : ℕ → ℕ) (tail f : ℕ) (o : Operator) where
  abbrev First : Notation → Type 0
  First F = IsHeaded kind tail f o (o.spelling ∷ []) F

  abbrev Second : Notation → Type 0
  Second F = IsHeaded kind tail f o (pieces (items_of o.spelling)) F

  pub headed_to : IsTrue o.assoc → (head : List (List ℕ)) (F : Notation) → (F ≡ prefix_notation kind f o head) ⊎ (F ≡ flattened_notation kind tail f o head) → IsHeaded kind tail f o head F
  headed_to a head F (inl e) = inl e
  headed_to a head F (inr e) = inr (a, e)

  pub headed_from : (head : List (List ℕ)) (F : Notation) → IsHeaded kind tail f o head F → (F ≡ prefix_notation kind f o head) ⊎ (F ≡ flattened_notation kind tail f o head)
  headed_from head F (inl e) = inl e
  headed_from head F (inr (a, e)) = inr e

  pub headed_alone : IsFalse o.assoc → (head : List (List ℕ)) (F : Notation) → IsHeaded kind tail f o head F → F ≡ prefix_notation kind f o head
  headed_alone none head F (inl e) = e
  headed_alone none head F (inr (a, e)) = absurd (true≢false (sym a ∙ none))

  pub mixed_to : IsTrue (has_hole (items_of o.spelling)) → (F : Notation) → First F ⊎ IsMixfix kind f o F → IsWhole kind tail f o F
  mixed_to hole F (inl h) = inl (o.spelling ∷ [], inl refl, h)
  mixed_to hole F (inr h) = inr (hole, h)

  pub mixed_from : IsTrue (has_hole (items_of o.spelling)) → (F : Notation) → IsWhole kind tail f o F → First F ⊎ IsMixfix kind f o F
  mixed_from hole F (inl (head, inl e, h)) = inl (subst (λ (m : List (List ℕ)). IsHeaded kind tail f o m F) e h)
  mixed_from hole F (inl (head, inr (none, e), h)) = absurd (true≢false (sym hole ∙ none))
  mixed_from hole F (inr (mixed, h)) = inr h

  pub plain_to : IsFalse (has_hole (items_of o.spelling)) → (F : Notation) → First F ⊎ Second F → IsWhole kind tail f o F
  plain_to none F (inl h) = inl (o.spelling ∷ [], inl refl, h)
  plain_to none F (inr h) = inl (pieces (items_of o.spelling), inr (none, refl), h)

  pub plain_from : IsFalse (has_hole (items_of o.spelling)) → (F : Notation) → IsWhole kind tail f o F → First F ⊎ Second F
  plain_from none F (inl (head, inl e, h)) = inl (subst (λ (m : List (List ℕ)). IsHeaded kind tail f o m F) e h)
  plain_from none F (inl (head, inr (no2, e), h)) = inr (subst (λ (m : List (List ℕ)). IsHeaded kind tail f o m F) e h)
  plain_from none F (inr (mixed, h)) = absurd (true≢false (sym mixed ∙ none))

  pub once_to : (F : Notation) → First F → IsWhole kind tail f o F
  once_to F h = inl (o.spelling ∷ [], inl refl, h)

  pub once_from : IsFalse (has_hole (items_of o.spelling)) → pieces (items_of o.spelling) ≡ o.spelling ∷ [] → (F : Notation) → IsWhole kind tail f o F → First F
  once_from none one F h = elim (plain_from none F h) [ inl k ↦ k | inr k ↦ subst (λ (m : List (List ℕ)). IsHeaded kind tail f o m F) one k ]

  of_headed : (head : List (List ℕ)) → IsHead o head → (F : Notation) → IsHeaded kind tail f o head F → IsNotationOf kind tail f o F
  of_headed head is F (inl e) = subst (IsNotationOf kind tail f o) (sym e) (is_prefix head is)
  of_headed head is F (inr (a, e)) = subst (IsNotationOf kind tail f o) (sym e) (is_flattened head a is)

  pub of_whole : (F : Notation) → IsWhole kind tail f o F → IsNotationOf kind tail f o F
  of_whole F (inl (head, is, h)) = of_headed head is F h
  of_whole F (inr (hole, (parts, e, q))) = subst (IsNotationOf kind tail f o) (sym q) (is_mixfix parts hole e)

  pub whole_alone : IsFalse o.assoc → (F : Notation) → IsNotationOf kind tail f o F → IsWhole kind tail f o F
  whole_alone none F (is_prefix head is) = inl (head, is, inl refl)
  whole_alone none F (is_mixfix parts hole e) = inr (hole, (parts, e, refl))
  whole_alone none F (is_flattened head a is) = absurd (true≢false (sym a ∙ none))
  whole_alone none F (is_tail rest a either) = absurd (true≢false (sym a ∙ none))

  abbrev pub Tails : Notation → Type 0
  Tails F = (F ≡ tail_notation kind tail f o (kind o.result)) ⊎ (F ≡ tail_notation kind tail f o tail)

  pub tails_to : IsTrue o.assoc → (F : Notation) → IsWhole kind tail f o F ⊎ Tails F → IsNotationOf kind tail f o F
  tails_to a F (inl h) = of_whole F h
  tails_to a F (inr (inl e)) = subst (IsNotationOf kind tail f o) (sym e) (is_tail (kind o.result) a (inl refl))
  tails_to a F (inr (inr e)) = subst (IsNotationOf kind tail f o) (sym e) (is_tail tail a (inr refl))

  pub tails_from : (F : Notation) → IsNotationOf kind tail f o F → IsWhole kind tail f o F ⊎ Tails F
  tails_from F (is_prefix head is) = inl (inl (head, is, inl refl))
  tails_from F (is_mixfix parts hole e) = inl (inr (hole, (parts, e, refl)))
  tails_from F (is_flattened head a is) = inl (inl (head, is, inr (a, refl)))
  tails_from F (is_tail rest a (inl e)) = inr (inl (ap (tail_notation kind tail f o) e))
  tails_from F (is_tail rest a (inr e)) = inr (inr (ap (tail_notation kind tail f o) e))

-- the notations of a signature's operators up to a number
abbrev pub IsEarly : (ℕ → ℕ) → Signature → ℕ → Notation → Type 0
IsEarly kind sig n F = (f : ℕ) × (o : Operator) × (f ≤ n) × IsOperator sig f o × IsNotationOf kind (length sig.sorts + f) f o F

module _ (kind : ℕ → ℕ) (sig : Signature) where
  pub none_early : (F : Notation) → IsEarly kind sig 0 F → ⊥
  none_early F (f, o, low, is, n) = none f low is
    where
      none : (f : ℕ) → f ≤ 0 → IsOperator sig f o → ⊥
      none zero low is = let bad : ⊥ = (cc) in bad
      none (suc f) low is = omega (arith, low)

  pub early_next : (i : ℕ) (o : Operator) → IsOperator sig (i + 1) o → (F : Notation) → IsEarly kind sig i F ⊎ IsNotationOf kind (length sig.sorts + (i + 1)) (i + 1) o F → IsEarly kind sig (i + 1) F
  early_next i o is F (inl (f, p, low, there, n)) = (f, p, omega (arith, low), there, n)
  early_next i o is F (inr n) = (i + 1, o, omega arith, is, n)

  pub early_from : (i : ℕ) (o : Operator) → IsOperator sig (i + 1) o → (F : Notation) → IsEarly kind sig (i + 1) F → IsEarly kind sig i F ⊎ IsNotationOf kind (length sig.sorts + (i + 1)) (i + 1) o F
  early_from i o is F (f, p, low, there, n) = elim (last_or f i low) [
    | inl h ↦ inl (f, p, h, there, n)
    | inr e ↦
        let here : IsOperator sig (i + 1) p = subst (λ (m : ℕ). IsOperator sig m p) e there in
        let of : IsNotationOf kind (length sig.sorts + (i + 1)) (i + 1) p F = subst (λ (m : ℕ). IsNotationOf kind (length sig.sorts + m) m p F) e n in
        inr (subst (λ (q : Operator). IsNotationOf kind (length sig.sorts + (i + 1)) (i + 1) q F) (same_operator sig (i + 1) p o here is) of)
  ]
    where
      last_or : (f i : ℕ) → f ≤ i + 1 → (f ≤ i) ⊎ (f ≡ i + 1)
      last_or zero i h = inl (omega arith)
      last_or (suc f) zero h = inr (omega (arith, h))
      last_or (suc f) (suc i) h = elim (last_or f i (omega (arith, h))) [ inl p ↦ inl (omega (arith, p)) | inr p ↦ inr (omega (arith, p)) ]

  pub early_all : (n : ℕ) (F : Notation) → IsEarly kind sig n F → IsNotation kind sig F
  early_all n F (f, o, low, is, of) = (f, o, is, of)

  pub all_early : (n : ℕ) → length sig.operators ≤ n → (F : Notation) → IsNotation kind sig F → IsEarly kind sig n F
  all_early n high F (f, o, is, of) = (f, o, below f is, is, of)
    where
      within : (os : List Operator) (i : ℕ) → slice_get os i ≡ Some o → suc i ≤ length os
      within [] i e = let bad : ⊥ = (cc) in absurd bad
      within (p ∷ os) zero e = omega arith
      within (p ∷ os) (suc i) e = (let h = within os i e in omega (arith, h))

      below : (f : ℕ) → IsOperator sig f o → f ≤ n
      below zero e = omega arith
      below (suc i) e = (let h = within sig.operators i e in omega (arith, h, high))
