-- Frozen arguments, `owise` equations and terms that have only a kind. FZ has a, b, f with a frozen argument and h with a frozen second one, and the rule a => b.
-- OW has a, b, c and f, with f(a) = b, and f(X) = c [owise]. K has A below B, a of A, b of B, and f from A to A.
use Rattle.std.specs.Prelude.{◌≡◌, ◌⊎◌, ℕ, zero, suc, List, [], ◌∷◌, true, false, Some, None, codes, refl}
use Rattle.std.proofs.Common.{inl, inr, arith, ap, subst, sym, ◌∙◌}
use Rattle.std.proofs.lemmas.Bool.{both_ways}
use Rattle.mw_logic.specs.Term.{Variable, RawTerm, variable, apply, RawTerms, nil, cons, join, constant, unary, binary, Context, plug}
use Rattle.mw_logic.specs.Signature.{Signature, Operator, IsOperator, at_number, Sorted, sort, Declaration, Member, SameKind, HasKind, IsRawTerm, an_operator, AreRawTerms as arguments}
use Rattle.mw_logic.specs.Axioms.{done}
use Rattle.mw_logic.specs.Sorts.{DeclaredSort, DeclaredSorts, Takes, HasSort, AtOrBelow, IsBelow, AreBelow, Declares, same}
use Rattle.mw_logic.specs.Substitution.{Substitution, instance, IsSolution}
use Rattle.mw_logic.specs.Parts.{ReplacesPart, IsFrozen, IsFrozenArgument, number_of_terms, whole}
use Rattle.mw_logic.specs.Module.{Module, Statement, Fragment, IsStatement}
use Rattle.mw_logic.specs.Judgements.{IsPlain, IsPlainBy, judgements_with}
use Rattle.mw_logic.specs.Free.{IsFreeSignature}
use Rattle.mw_logic.proofs.RowsKit as kit
use Rattle.mw_logic.proofs.FreeSignature.{is_free-sound, bare_from_free, bare_meets_no_row, bare_no_pair, free_equal, free_part, free_top_part-is, free_replaces, free_replaces-is, free_solution}

abbrev a : RawTerm
a = constant 1

abbrev b : RawTerm
b = constant 2

-- In FZ a rule replaces a in h(a, a) at the first argument.
abbrev FZ : Signature
FZ = record {
  sorts = codes "T" ∷ [];
  pairs = [];
  operators =
      kit.an_operator (codes "a") [] (sort 1) ∷ kit.an_operator (codes "b") [] (sort 1) ∷ kit.with_frozen (1 ∷ []) (kit.an_operator (codes "f") (sort 1 ∷ []) (sort 1))
      ∷ kit.with_frozen (2 ∷ []) (kit.an_operator (codes "h") (sort 1 ∷ sort 1 ∷ []) (sort 1)) ∷ [];
  nat = false;
  qid = false;
}

FZ_free : IsFreeSignature FZ
FZ_free = is_free-sound FZ refl

one_two : ◌≡◌ {A = ℕ} 2 1 → ⊥
one_two e = omega (arith, e)

first_of_h : ReplacesPart FZ true (binary 4 a a) a b (binary 4 b a)
first_of_h = free_replaces FZ FZ_free true (record { operator = 4; before = nil; after = cons a nil } ∷ []) a b (λ h. not_frozen)
  where
    not_second : (o : Operator) → at_number FZ.operators 4 ≡ Some o → Member 1 o.frozen → ⊥
    not_second o e m =
        let k : kit.with_frozen (2 ∷ []) (kit.an_operator (codes "h") (sort 1 ∷ sort 1 ∷ []) (sort 1)) ≡ o = cc in
        elim (subst (λ (o : Operator). Member 1 o.frozen) (sym k) m) [ inl e ↦ one_two e | inr x ↦ x ]

    not_frozen : ¬ IsFrozen FZ (record { operator = 4; before = nil; after = cons a nil } ∷ [])
    not_frozen (inl (o, e, m)) = not_second o e m
    not_frozen (inr x) = x

-- But no rule replaces a in f(a), nor in the second argument of h.
only_argument : (f : ℕ) (before : RawTerms) (X : RawTerm) (after : RawTerms) → apply f (join before (cons X after)) ≡ unary 3 a → (f ≡ 3) × (before ≡ nil) × (X ≡ a)
only_argument f nil X after e = (cc, refl, cc)
only_argument f (cons y nil) X after e = cc
only_argument f (cons y (cons x ys)) X after e = cc

inside_f : (C : Context) (X : RawTerm) → plug C X ≡ unary 3 a → (X ≡ unary 3 a) ⊎ IsFrozen FZ C
inside_f [] X e = inl e
inside_f (c ∷ C) X e = by_case (inside_f C (apply c.operator (join c.before (cons X c.after))) e)
  where
    frozen_at : (f n : ℕ) → f ≡ 3 → n ≡ 1 → IsFrozenArgument FZ f n
    frozen_at f n e k = subst (λ f. IsFrozenArgument FZ f n) (sym e) (subst (λ n. IsFrozenArgument FZ 3 n) (sym k) (_, refl, inl refl))

    by_case : (apply c.operator (join c.before (cons X c.after)) ≡ unary 3 a) ⊎ IsFrozen FZ C → (X ≡ unary 3 a) ⊎ IsFrozen FZ (c ∷ C)
    by_case (inl k) = let (f, n, x) = only_argument c.operator c.before X c.after k in inr (inl (frozen_at c.operator (suc (number_of_terms c.before)) f (ap (λ b. suc (number_of_terms b)) n)))
    by_case (inr k) = inr (inr k)

not_inside_f : (v u : RawTerm) → ReplacesPart FZ true (unary 3 a) a v u → ⊥
not_inside_f v u p =
    let (C, e, d, open') = free_replaces-is FZ FZ_free true p in
    by_case C (inside_f C a (sym e)) (open' refl)
  where
    by_case : (C : Context) → (a ≡ unary 3 a) ⊎ IsFrozen FZ C → ¬ IsFrozen FZ C → ⊥
    by_case C (inl k) o = cc
    by_case C (inr k) o = o k

-- OW: f(a) is not plain, since the ordinary equation applies there; f(b) is plain, at each rank.
abbrev OW_signature : Signature
OW_signature = record {
  sorts = codes "T" ∷ [];
  pairs = [];
  operators = kit.an_operator (codes "a") [] (sort 1) ∷ kit.an_operator (codes "b") [] (sort 1) ∷ kit.an_operator (codes "f") (sort 1 ∷ []) (sort 1) ∷ kit.an_operator (codes "c") [] (sort 1) ∷ [];
  nat = false;
  qid = false;
}

abbrev X : Variable
X = kit.a_variable (codes "X") 1

abbrev ordinary : Statement
ordinary = kit.an_equation (unary 3 a) b [] []

abbrev otherwise : Statement
otherwise = record (kit.an_equation (unary 3 (variable X)) (constant 4) [] (X ∷ [])) { owise = true }

abbrev OW : Module
OW = record { signature = OW_signature; statements = ordinary ∷ otherwise ∷ [] }

OW_free : IsFreeSignature OW_signature
OW_free = is_free-sound OW_signature refl

no_variable : IsSolution OW_signature (unary 3 a) (unary 3 a) [] []
no_variable = record { substitution = tt; extends = λ x t e. e; variables = λ x. refl; matches = done }

f_a_not_plain : (n : ℕ) → IsPlain OW n (unary 3 a) → ⊥
unfolding judgements_with
f_a_not_plain zero h = h.no_equation [] (unary 3 a) (whole refl (free_part OW_signature OW_free [] (unary 3 a))) 1 ordinary (record { is_there = refl; executable = refl }) refl refl [] no_variable
f_a_not_plain (suc n) h = h.no_equation [] (unary 3 a) (whole refl (free_part OW_signature OW_free [] (unary 3 a))) 1 ordinary (record { is_there = refl; executable = refl }) refl refl [] no_variable

f_inj : {t u : RawTerm} → unary 3 t ≡ unary 3 u → t ≡ u
f_inj e = cc

a_b_apart : a ≡ b → ⊥
a_b_apart e = one_two (sym (constant_inj e))
  where
    constant_inj : {c d : ℕ} → constant c ≡ constant d → c ≡ d
    constant_inj e = cc

not_ordinary : (k : ℕ) (e : Statement) → IsStatement OW k e → e.owise ≡ false → (s : Substitution) → instance s e.left ≡ unary 3 b → ⊥
not_ordinary zero e is o s h = let k : None ≡ Some e = is.is_there in cc
not_ordinary (suc zero) e is o s h =
    let k : Some ordinary ≡ Some e = is.is_there in let q : ordinary ≡ e = cc in
    a_b_apart (f_inj (subst (λ (e : Statement). instance s e.left ≡ unary 3 b) (sym q) h))
not_ordinary (suc (suc zero)) e is o s h = let k : Some otherwise ≡ Some e = is.is_there in let q : otherwise ≡ e = cc in both_ways _ o (ap (λ (e : Statement). e.owise) (sym q))
not_ordinary (suc (suc (suc k))) e is o s h = let k : None ≡ Some e = is.is_there in cc

plain_by : (F : List Fragment → Substitution → Type 0) → IsPlainBy OW F (unary 3 b)
plain_by F = record {
  no_equation = λ C w p k e is eq ow s sol. absurd (not_ordinary k e is ow s (free_solution OW_signature OW_free sol ∙ sym (free_top_part-is OW_signature OW_free C w p)));
  no_row = λ C w p. bare_meets_no_row OW_signature (bare_from_free OW_signature OW_free) w;
  no_pair = λ C w p. bare_no_pair OW_signature (bare_from_free OW_signature OW_free) w;
}

f_b_plain : (n : ℕ) → IsPlain OW n (unary 3 b)
unfolding judgements_with
f_b_plain zero = plain_by _
f_b_plain (suc n) = plain_by _

-- K: f(a) has sort A; f(b) is a term of the kind, with no sort at all.
abbrev K : Signature
K = record {
  sorts = codes "A" ∷ codes "B" ∷ [];
  pairs = (1, 2) ∷ [];
  operators = kit.an_operator (codes "a") [] (sort 1) ∷ kit.an_operator (codes "b") [] (sort 2) ∷ kit.an_operator (codes "f") (sort 1 ∷ []) (sort 1) ∷ [];
  nat = false;
  qid = false;
}

K_free : IsFreeSignature K
K_free = is_free-sound K refl

f_a_sort : HasSort K (unary 3 a) (sort 1)
f_a_sort = kit.has_declared (kit.declared_sort _ refl refl (DeclaredSorts.next (kit.declared_sort _ refl refl DeclaredSorts.end tt) DeclaredSorts.end) (same, tt))

f_b_raw : IsRawTerm K (unary 3 b)
f_b_raw = an_operator _ refl (arguments.next (an_operator _ refl arguments.end) (HasKind.of_operator _ refl SameKind.same) arguments.end)

nothing_above_B : {S T : ℕ} → AtOrBelow K.pairs S T → S ≡ 2 → T ≡ 2
nothing_above_B AtOrBelow.same e = e
nothing_above_B (AtOrBelow.above {S} {T} m p) e = absurd (apart m)
  where
    apart : Member (S, T) K.pairs → ⊥
    apart (inl k) = let i : ◌≡◌ {A = ℕ} 1 S = ap (λ (q : ℕ × ℕ). q.0) k in omega (arith, i, e)
    apart (inr x) = x

-- b's declared sort is B
b_declared : {t : RawTerm} {D : Sorted} → DeclaredSort K t D → t ≡ b → D ≡ sort 2
b_declared (DeclaredSort.of_zero n) e = cc
b_declared (DeclaredSort.of_nonzero n) e = cc
b_declared (DeclaredSort.of_quoted n) e = cc
b_declared DeclaredSort.of_variable e = cc
b_declared (DeclaredSort.of_operator {f} {ts} {Ss} {R} o there ds takes least) e = sym (kit.one_result o [] (sort 2) Ss R (of_b f o (top e) there) takes)
  where
    top : {g : ℕ} {us : RawTerms} → apply g us ≡ b → g ≡ 2
    top e = cc

    of_b : (g : ℕ) (o : Operator) → g ≡ 2 → IsOperator K g o → o.declarations ≡ record { args = []; result = sort 2 } ∷ []
    of_b g o k there = let h : Some (kit.an_operator (codes "b") [] (sort 2)) ≡ Some o = subst (λ g. IsOperator K g o) k there in let q : kit.an_operator (codes "b") [] (sort 2) ≡ o = cc in ap (λ (o : Operator). o.declarations) (sym q)
b_declared (DeclaredSort.of_kind {f} {ts} {Ss} o there ds none) e = absurd (none (sort 2) (taken ds (arguments_of e)))
  where
    arguments_of : {g : ℕ} {us : RawTerms} → apply g us ≡ b → us ≡ nil
    arguments_of e = cc

    top : {g : ℕ} {us : RawTerms} → apply g us ≡ b → g ≡ 2
    top e = cc

    declarations : o.declarations ≡ record { args = []; result = sort 2 } ∷ []
    declarations = let h : Some (kit.an_operator (codes "b") [] (sort 2)) ≡ Some o = subst (λ g. IsOperator K g o) (top e) there in let q : kit.an_operator (codes "b") [] (sort 2) ≡ o = cc in ap (λ (o : Operator). o.declarations) (sym q)

    taken : {us : RawTerms} {Ss : List Sorted} → DeclaredSorts K us Ss → us ≡ nil → Takes K o Ss (sort 2)
    taken DeclaredSorts.end k = record { args = []; declares = inl (subst (λ ds. Member (record { args = []; result = sort 2 }) ds) (sym declarations) (inl refl)); fits = tt }
    taken (DeclaredSorts.next d ds) k = cc

f_b_declared : {t : RawTerm} {D : Sorted} (S : ℕ) → DeclaredSort K t D → t ≡ unary 3 b → IsBelow K D (sort S) → ⊥
f_b_declared S (DeclaredSort.of_zero n) e h = cc
f_b_declared S (DeclaredSort.of_nonzero n) e h = cc
f_b_declared S (DeclaredSort.of_quoted n) e h = cc
f_b_declared S DeclaredSort.of_variable e h = cc
f_b_declared S (DeclaredSort.of_kind o there ds none) e h = h
f_b_declared S (DeclaredSort.of_operator {f} {ts} {Ss} {R} o there ds takes least) e h = too_high takes.args (one_declaration takes.declares) takes.fits
  where
    top : {g : ℕ} {us : RawTerms} → apply g us ≡ unary 3 b → (g ≡ 3) × (us ≡ cons b nil)
    top e = (cc, cc)

    operator : kit.an_operator (codes "f") (sort 1 ∷ []) (sort 1) ≡ o
    operator = let k : Some (kit.an_operator (codes "f") (sort 1 ∷ []) (sort 1)) ≡ Some o = subst (λ g. IsOperator K g o) (top e).0 there in cc

    one_declaration : Declares o takes.args R → takes.args ≡ sort 1 ∷ []
    one_declaration (inl m) = elim (subst (λ (o : Operator). Member (record { args = takes.args; result = R }) o.declarations) (sym operator) m) [ inl k ↦ sym (ap (λ (d : Declaration). d.args) k) | inr x ↦ absurd x ]
    one_declaration (inr m) = absurd (both_ways _ (ap (λ (o : Operator). o.comm) (sym operator)) m.0)

    sorts_of : {us : RawTerms} {Ss : List Sorted} → DeclaredSorts K us Ss → us ≡ cons b nil → Ss ≡ sort 2 ∷ []
    sorts_of DeclaredSorts.end k = cc
    sorts_of (DeclaredSorts.next d DeclaredSorts.end) k = ap (λ S. S ∷ []) (b_declared d cc)
    sorts_of (DeclaredSorts.next d (DeclaredSorts.next c ds)) k = cc

    too_high : (args : List Sorted) → args ≡ sort 1 ∷ [] → AreBelow K Ss args → ⊥
    too_high args k fits =
        let l : AreBelow K (sort 2 ∷ []) (sort 1 ∷ []) = subst (λ Ss. AreBelow K Ss (sort 1 ∷ [])) (sorts_of ds (top e).1) (subst (λ args. AreBelow K Ss args) k fits) in
        let q : ◌≡◌ {A = ℕ} 1 2 = nothing_above_B l.0 refl in omega (arith, q)

f_b_no_sort : (S : ℕ) → HasSort K (unary 3 b) (sort S) → ⊥
f_b_no_sort S h = f_b_declared S h.is_declared (sym (free_equal K K_free h.equal)) h.below
