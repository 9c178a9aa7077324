-- Schemata by the spellings and kinds of operators.
use Rattle.std.specs.Prelude.{◌≡◌, ◌↔◌, ◌⊎◌, ◌<◌, ◌≤◌, ◌+◌, ◌++◌, ℕ, zero, suc, List, [], ◌∷◌, length, get_or, Bool, true, false, ◌==◌, nat_eq, Some, unwrap_or, IsTrue, codes, refl}
use Rattle.std.proofs.Common.{inl, inr, arith, ap, sym, subst, ◌∙◌}
use Rattle.std.proofs.Math.ListN.{get_or-append}
use Rattle.std.proofs.lemmas.Bool.{both_ways, cases_lt, eqb-true, eq-eqb}
use Rattle.std.proofs.lemmas.List.{get_or_push}
use Rattle.std.proofs.lemmas.Option.{slice_get_past, unwrap_or-slice_get}
use Rattle.mw_logic.specs.Signature.{Signature, Operator, IsOperator, SameKind, Member, at_number}
use Rattle.mw_logic.specs.Accepted.{IsAccepted}
use Rattle.mw_logic.specs.Module.{AreKindsOf, IsNamed, IsPolymorphic}
use Rattle.mw_logic.specs.Preregular.{HasItsSorts}
use Rattle.mw_logic.proofs.Canonical.{same_operator}
use Rattle.mw_logic.proofs.KindLaws.{SameKind-sym}
use Rattle.mw_poset.specs.SortOrder.{SortOrder, order_of}
use Rattle.mw_poset.specs.Order.{IsKindOf}
use Rattle.mw_poset.proofs.Reading.{kinds_agree, kinds_same}
use Rattle.mw_canon.proofs.Reading.{sort_there}
use Rattle.mw_canon.specs.Axioms.{IsKindNamed}
use Rattle.mw_builtin.specs.Kinds.{HasSorts}
use Rattle.mw_builtin.specs.Schemata.{Computes, IsSchemaOf, AreSchemas}
use Rattle.mw_builtin.specs.Spellings.{IsSpelled}
use Rattle.mw_builtin.specs.declared.schema.Schema.{Schema}
use Rattle.mw_builtin.specs.declared.schema.Schema.TheVariants.{Nothing, Number, Equality, Inequality, Choice, Truth}

-- a comparison of kinds tells whether a sort is of a named kind
pub of_kind : (sig : Signature) (order : SortOrder) (name : List ℕ) (K R S : ℕ) → IsAccepted sig → order ≡ order_of sig → IsKindNamed sig name (Some K) → IsKindOf order.pairs S R
    → IsTrue (nat_eq R K) ↔ AreKindsOf sig (S ∷ []) (name ∷ [])
of_kind sig order name K R S ok e k r = (there, back)
  where
    pairs : sig.pairs ≡ order.pairs
    pairs = ap (λ (o : SortOrder). o.pairs) (sym e)

    named : IsKindOf order.pairs k.0 K
    named = subst (λ (ps : List (ℕ × ℕ)). IsKindOf ps k.0 K) pairs k.2

    there : IsTrue (nat_eq R K) → AreKindsOf sig (S ∷ []) (name ∷ [])
    there t = (k.0, k.1, kinds_agree order.pairs k.0 S K named (subst (λ x. IsKindOf order.pairs S x) (eqb-true R K t) r) sig pairs, tt)

    back : AreKindsOf sig (S ∷ []) (name ∷ []) → IsTrue (nat_eq R K)
    back (T, is, alike, u) = eq-eqb R K (kinds_same order.pairs sig S k.0 R K r named pairs (SameKind-sym (subst (λ N. SameKind sig N S) (ok.sorts_differ T k.0 name is k.1) alike)))

-- a list of two
pub is_pair : (xs : List ℕ) → 2 ≤ length xs → length xs < 3 → xs ≡ get_or xs 0 0 ∷ get_or xs 1 0 ∷ []
is_pair [] h k = absurd (omega arith)
is_pair (x ∷ []) h k = absurd (omega arith)
is_pair (x ∷ y ∷ []) h k = refl
is_pair (x ∷ y ∷ z ∷ xs) h k = absurd (omega arith)

pub first_member : (xs : List ℕ) → 2 ≤ length xs → Member (get_or xs 0 0) xs
first_member [] h = absurd (omega arith)
first_member (x ∷ xs) h = inl refl

pub second_member : (xs : List ℕ) → 2 ≤ length xs → Member (get_or xs 1 0) xs
second_member [] h = absurd (omega arith)
second_member (x ∷ []) h = absurd (omega arith)
second_member (x ∷ y ∷ xs) h = inr (inl refl)

-- two sorts of a kind, one by one
pub both_kinds : (sig : Signature) (name xs : List ℕ) (a b : ℕ) → xs ≡ a ∷ b ∷ [] → AreKindsOf sig xs (name ∷ name ∷ []) ↔ (AreKindsOf sig (a ∷ []) (name ∷ []) × AreKindsOf sig (b ∷ []) (name ∷ []))
both_kinds sig name xs a b e = (λ h. apart (subst (λ (ys : List ℕ). AreKindsOf sig ys (name ∷ name ∷ [])) e h), λ h. subst (λ (ys : List ℕ). AreKindsOf sig ys (name ∷ name ∷ [])) (sym e) (h.0.0, h.0.1, h.0.2, h.1))
  where
    apart : AreKindsOf sig (a ∷ b ∷ []) (name ∷ name ∷ []) → AreKindsOf sig (a ∷ []) (name ∷ []) × AreKindsOf sig (b ∷ []) (name ∷ [])
    apart (S, n, k, rest) = ((S, n, k, tt), rest)

-- fewer or more sorts are not two
pub not_two : (sig : Signature) (name : List ℕ) (xs : List ℕ) → (length xs ≡ 2 → ⊥) → AreKindsOf sig xs (name ∷ name ∷ []) → ⊥
not_two sig name [] h k = k
not_two sig name (x ∷ []) h k = k.3
not_two sig name (x ∷ y ∷ []) h k = h refl
not_two sig name (x ∷ y ∷ z ∷ xs) h k = k.3.3

-- what an operator computes by
module _ (sig : Signature) (f : ℕ) (o : Operator) (is : IsOperator sig f o) where
  pub is_named : (spelling : List ℕ) (args : List (List ℕ)) (result : List ℕ) → spelling ≡ o.spelling → AreKindsOf sig o.args args → AreKindsOf sig (o.result ∷ []) (result ∷ []) → IsNamed sig f spelling args result
  is_named spelling args result s a r = record { operator = o; is_there = is; spelled = sym s; of_kinds = a; gives = r }

  pub named_args : {spelling : List ℕ} {args : List (List ℕ)} {result : List ℕ} → IsNamed sig f spelling args result → AreKindsOf sig o.args args
  named_args {spelling} {args} {result} n = subst (λ (p : Operator). AreKindsOf sig p.args args) (same_operator sig f n.operator o n.is_there is) n.of_kinds

  pub named_result : {spelling : List ℕ} {args : List (List ℕ)} {result : List ℕ} → IsNamed sig f spelling args result → AreKindsOf sig (o.result ∷ []) (result ∷ [])
  named_result {spelling} {args} {result} n = subst (λ (p : Operator). AreKindsOf sig (p.result ∷ []) (result ∷ [])) (same_operator sig f n.operator o n.is_there is) n.gives

  pub named_spelling : {spelling : List ℕ} {args : List (List ℕ)} {result : List ℕ} → IsNamed sig f spelling args result → spelling ≡ o.spelling
  named_spelling {spelling} {args} {result} n = sym n.spelled ∙ ap (λ (p : Operator). p.spelling) (same_operator sig f n.operator o n.is_there is)

  pub polymorphic_spelling : (spelling : List ℕ) → IsPolymorphic sig f spelling → spelling ≡ o.spelling
  polymorphic_spelling spelling (p, there, s, b) = sym s ∙ ap (λ (p : Operator). p.spelling) (same_operator sig f p o there is)

  pub polymorphic_built : (spelling : List ℕ) → IsPolymorphic sig f spelling → IsTrue o.built
  polymorphic_built spelling (p, there, s, b) = subst (λ (p : Operator). IsTrue p.built) (same_operator sig f p o there is) b

  -- an operator that computes by a schema is spelled so
  pub spelled_so : (s : Schema) → Computes sig f s → IsSpelled s o.spelling
  spelled_so Nothing h = h
  spelled_so (Number b) h = named_spelling h.1
  spelled_so Equality h = polymorphic_spelling (codes "_==_") h
  spelled_so Inequality h = polymorphic_spelling (codes "_=/=_") h
  spelled_so Choice h = polymorphic_spelling (codes "if_then_else_fi") h
  spelled_so (Truth b) h = named_spelling h

  -- by the only spelling, and whether the rest is as it must be
  pub schema_is : (s : Schema) → (s ≡ Nothing) ⊎ IsSpelled s o.spelling → ((other : Schema) → IsSpelled other o.spelling → other ≡ s) → (IsSpelled s o.spelling → Computes sig f s) → IsSchemaOf sig f s
  schema_is s (inl e) only h = record { computes = inl e; only = λ other k. only other (spelled_so other k) }
  schema_is s (inr e) only h = record { computes = inr (h e); only = λ other k. only other (spelled_so other k) }

  pub no_schema : (s : Schema) → (s ≡ Nothing) ⊎ IsSpelled s o.spelling → ((other : Schema) → IsSpelled other o.spelling → other ≡ s) → (IsSpelled s o.spelling → Computes sig f s → ⊥) → IsSchemaOf sig f Nothing
  no_schema s e only h = record { computes = inl refl; only = λ other k. absurd (by_spelling e (subst (Computes sig f) (only other (spelled_so other k)) k)) }
    where
      by_spelling : (s ≡ Nothing) ⊎ IsSpelled s o.spelling → Computes sig f s → ⊥
      by_spelling (inl n) k = subst (Computes sig f) n k
      by_spelling (inr d) k = h d k

-- no sorts
pub some_kinds : (sig : Signature) (xs ys : List ℕ) (b : Bool) → xs ≡ ys → b ≡ (length xs == 0) → b ≡ false → AreKindsOf sig ys [] → ⊥
some_kinds sig [] ys b e h k n = both_ways _ k h
some_kinds sig (x ∷ xs) ys b e h k n = subst (λ (zs : List ℕ). AreKindsOf sig zs []) (sym e) n

pub no_kinds : (sig : Signature) (xs ys : List ℕ) (b : Bool) → xs ≡ ys → b ≡ (length xs == 0) → b ≡ true → AreKindsOf sig ys []
no_kinds sig [] ys b e h k = subst (λ (zs : List ℕ). AreKindsOf sig zs []) e tt
no_kinds sig (x ∷ xs) ys b e h k = absurd (both_ways _ (zero_apart (length xs)) (sym h ∙ k))
  where
    zero_apart : (n : ℕ) → (suc n == 0) ≡ false
    zero_apart n = grind arith

-- the sorts of an operator are there
pub has_sorts : (sig : Signature) (order : SortOrder) → order ≡ order_of sig → HasItsSorts sig → (f : ℕ) (o : Operator) → IsOperator sig f o → HasSorts order.sorts o
has_sorts sig order e h f o is = record { args = λ K m. sort_there sig order K e (h.args f o is K m); result = sort_there sig order o.result e (h.results f o is) }

-- what is no operator computes nothing
none_computes : (sig : Signature) (f : ℕ) (s : Schema) → ((o : Operator) → IsOperator sig f o → ⊥) → Computes sig f s → ⊥
none_computes sig f Nothing h k = k
none_computes sig f (Number b) h k = h k.1.operator k.1.is_there
none_computes sig f Equality h k = h k.0 k.1
none_computes sig f Inequality h k = h k.0 k.1
none_computes sig f Choice h k = h k.0 k.1
none_computes sig f (Truth b) h k = h k.operator k.is_there

no_operator : (sig : Signature) (f : ℕ) → ((o : Operator) → IsOperator sig f o → ⊥) → IsSchemaOf sig f Nothing
no_operator sig f h = record { computes = inl refl; only = λ other k. absurd (none_computes sig f other h k) }

-- before the first operator, with one row more, and past the last operator
pub rows_begin : (sig : Signature) (rows : List Schema) (f : ℕ) → f ≤ 0 → IsSchemaOf sig f (unwrap_or (at_number rows f) Nothing)
rows_begin sig rows zero h = no_operator sig zero (λ o is. cc)
rows_begin sig rows (suc f) h = absurd (omega arith)

pub row_pushed : (sig : Signature) (rows after : List Schema) (n : ℕ) (row : Schema) → length rows ≡ n → after ≡ rows ++ row ∷ [] → ((f : ℕ) → f ≤ n → IsSchemaOf sig f (unwrap_or (at_number rows f) Nothing)) → IsSchemaOf sig (n + 1) row
    → (f : ℕ) → f ≤ n + 1 → IsSchemaOf sig f (unwrap_or (at_number after f) Nothing)
row_pushed sig rows after n row l e h k zero m = no_operator sig zero (λ o is. cc)
row_pushed sig rows after n row l e h k (suc i) m = subst (λ xs. IsSchemaOf sig (suc i) (unwrap_or (at_number xs (suc i)) Nothing)) (sym e) (by_case (cases_lt i n))
  where
    by_case : (i < n) ⊎ (n ≤ i) → IsSchemaOf sig (suc i) (unwrap_or (at_number (rows ++ row ∷ []) (suc i)) Nothing)
    by_case (inl b) = subst (IsSchemaOf sig (suc i)) (sym (unwrap_or-slice_get (rows ++ row ∷ []) i Nothing ∙ get_or-append rows (row ∷ []) Nothing i (omega (arith, l)) ∙ sym (unwrap_or-slice_get rows i Nothing))) (h (suc i) (omega arith))
    by_case (inr g) =
        let same : length rows ≡ i = omega (arith, l) in
        let one : n + 1 ≡ suc i = omega (arith, l) in
        subst (IsSchemaOf sig (suc i)) (sym (unwrap_or-slice_get (rows ++ row ∷ []) i Nothing ∙ get_or_push rows row Nothing i same)) (subst (λ f. IsSchemaOf sig f row) one k)

pub rows_end : (sig : Signature) (rows : List Schema) (n : ℕ) → length rows ≡ n → length sig.operators ≤ n → ((f : ℕ) → f ≤ n → IsSchemaOf sig f (unwrap_or (at_number rows f) Nothing)) → AreSchemas sig rows
rows_end sig rows n l m h zero = h zero (omega arith)
rows_end sig rows n l m h (suc i) = by_case (cases_lt i n)
  where
    absent : {o : Operator} → n ≤ i → IsOperator sig (suc i) o → ⊥
    absent {o} g is = let e = slice_get_past sig.operators i (omega arith) in cc

    by_case : (i < n) ⊎ (n ≤ i) → IsSchemaOf sig (suc i) (unwrap_or (at_number rows (suc i)) Nothing)
    by_case (inl b) = h (suc i) (omega arith)
    by_case (inr g) = subst (λ x. IsSchemaOf sig (suc i) (unwrap_or x Nothing)) (sym (slice_get_past rows i (omega (arith, l)))) (no_operator sig (suc i) (λ o is. absent g is))
