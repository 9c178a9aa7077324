-- Terms that a set holds.
use Rattle.std.proofs.Common.{ℕ, zero, suc, ◌≡◌, ◌∙◌, ◌||◌, List, [], ◌∷◌, ◌++◌, map, Bool, true, false, nat_eq, bytes_eq, Some, if◌then◌else◌, refl, sym, ap, subst, inl, inr, append-nil}
use Rattle.std.specs.List.{list_any, slice_get}
use Rattle.std.proofs.lemmas.Bool.{eqb-true, true≢false}
use Rattle.std.proofs.lemmas.List.{map-append}
use Rattle.std.proofs.lemmas.Slice.Eq.{bytes_eq-Decides}
use Rattle.indexmap.specs.IndexSet.{insert_key}
use Rattle.mw_logic.specs.Term.{Variable, RawTerm, quoted, variable}
use Rattle.mw_logic.specs.Substitution.{same_variable}
use Rattle.mw_logic.proofs.Canonical.{nat_eq-refl}
use Rattle.mw_logic.proofs.SameConditions.{same_variable-refl, same_variable-is}
use Rattle.mw_grammar.specs.declared.alone.Alone.{Alone}
use Rattle.mw_grammar.specs.declared.alone.Alone.TheVariants.{Number, Identifier, Variable as VariableToken}
use Rattle.mw_grammar.specs.AloneTerms.{alone_term}
use Rattle.mw_grammar.specs.Compiled.{Extends}
use Rattle.mw_grammar.specs.Worded.{AllDiffer}
use Rattle.mw_grammar.proofs.Writing.{back}

abbrev pub terms_held : List Alone → List RawTerm
terms_held ks = map alone_term ks

-- they stand for one term
abbrev pub same_alone : Alone → Alone → Bool
same_alone (Number m) (Number n) = nat_eq m n
same_alone (Number m) (Identifier q) = false
same_alone (Number m) (VariableToken x S) = false
same_alone (Identifier p) (Number n) = false
same_alone (Identifier p) (Identifier q) = bytes_eq p.items q.items
same_alone (Identifier p) (VariableToken x S) = false
same_alone (VariableToken x S) (Number n) = false
same_alone (VariableToken x S) (Identifier q) = false
same_alone (VariableToken x S) (VariableToken y T) = same_variable (record { name = x.items; sort = S }) (record { name = y.items; sort = T })

equal_same : (k l : Alone) → alone_term k ≡ alone_term l → same_alone k l ≡ true
equal_same (Number m) (Number n) e = let same : m ≡ n = (cc) in ap (nat_eq m) (sym same) ∙ nat_eq-refl m
equal_same (Number m) (Identifier q) e = cc
equal_same (Number m) (VariableToken x S) e = cc
equal_same (Identifier p) (Number n) e = cc
equal_same (Identifier p) (Identifier q) e = let same : p.items ≡ q.items = (cc) in (bytes_eq-Decides p.items q.items).1 same
equal_same (Identifier p) (VariableToken x S) e = cc
equal_same (VariableToken x S) (Number n) e = cc
equal_same (VariableToken x S) (Identifier q) e = cc
equal_same (VariableToken x S) (VariableToken y T) e =
    let u : Variable = record { name = x.items; sort = S } in
    let v : Variable = record { name = y.items; sort = T } in
    let same : u ≡ v = (cc) in
    ap (same_variable u) (sym same) ∙ same_variable-refl u

pub same_equal : (k l : Alone) → same_alone k l ≡ true → alone_term k ≡ alone_term l
same_equal (Number m) (Number n) e = let same : m ≡ n = eqb-true m n e in rw same refl
same_equal (Number m) (Identifier q) e = cc
same_equal (Number m) (VariableToken x S) e = cc
same_equal (Identifier p) (Number n) e = cc
same_equal (Identifier p) (Identifier q) e = ap quoted ((bytes_eq-Decides p.items q.items).0 e)
same_equal (Identifier p) (VariableToken x S) e = cc
same_equal (VariableToken x S) (Number n) e = cc
same_equal (VariableToken x S) (Identifier q) e = cc
same_equal (VariableToken x S) (VariableToken y T) e = ap variable (same_variable-is (record { name = x.items; sort = S }) (record { name = y.items; sort = T }) e)

still_differ : (xs : List RawTerm) (x : RawTerm) → ((k : ℕ) → slice_get xs k ≡ Some x → ⊥) → AllDiffer xs → AllDiffer (xs ++ x ∷ [])
still_differ xs x is_new d v w y a b = elim (back xs x v y a) [
  | inl p ↦ elim (back xs x w y b) [
    | inl q ↦ d v w y p q
    | inr (q, e) ↦ absurd (is_new v (p ∙ ap (λ m. Some m) (sym e)))
  ]
  | inr (p, e) ↦ elim (back xs x w y b) [
    | inl q ↦ absurd (is_new w (q ∙ ap (λ m. Some m) (sym e)))
    | inr (q, f) ↦ p ∙ sym q
  ]
]

module _ (eq : Alone → Alone → Bool) (same : (k l : Alone) → eq k l ≡ same_alone k l) where
  is_there : (ks : List Alone) (k : Alone) (i : ℕ) → slice_get (terms_held ks) i ≡ Some (alone_term k) → list_any (eq k) ks ≡ true
  is_there [] k i e = cc
  is_there (l ∷ ks) k zero e =
      let is : alone_term l ≡ alone_term k = (cc) in
      let first : eq k l ≡ true = same k l ∙ equal_same k l (sym is) in
      rw first refl
  is_there (l ∷ ks) k (suc i) e = rw (is_there ks k i e) (either (eq k l))
    where
      either : (b : Bool) → (b || true) ≡ true
      either true = refl
      either false = refl

  pub held_extends : (ks : List Alone) (k : Alone) → Extends (terms_held ks) (terms_held (insert_key eq ks k))
  held_extends ks k = of (list_any (eq k) ks)
    where
      of : (b : Bool) → Extends (terms_held ks) (terms_held (if b then ks else ks ++ k ∷ []))
      of true = ([], sym (append-nil (terms_held ks)))
      of false = (alone_term k ∷ [], map-append alone_term ks (k ∷ []))

  pub held_differ : (ks : List Alone) (k : Alone) → AllDiffer (terms_held ks) → AllDiffer (terms_held (insert_key eq ks k))
  held_differ ks k d = of (list_any (eq k) ks) refl
    where
      of : (b : Bool) → list_any (eq k) ks ≡ b → AllDiffer (terms_held (if b then ks else ks ++ k ∷ []))
      of true e = d
      of false e = subst AllDiffer (sym (map-append alone_term ks (k ∷ []))) (still_differ (terms_held ks) (alone_term k) (λ i h. true≢false (sym (is_there ks k i h) ∙ e)) d)
