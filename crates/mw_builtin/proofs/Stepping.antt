-- The steps of each schema, at a term that is asked about.
use Rattle.std.specs.Prelude.{◌≡◌, ◌⊎◌, ◌↔◌, ◌<◌, ◌≤◌, ℕ, zero, suc, List, [], ◌∷◌, length, get_or, drop, Bool, true, false, not, cond, Option, None, unwrap_or, IsTrue, codes, refl}
use Rattle.std.proofs.Common.{inl, inr, arith, ap, sym, subst, ◌∙◌, ⊎_elim}
use Rattle.std.proofs.lemmas.Bool.{and_parts}
use Rattle.mw_logic.specs.Term.{RawTerm, RawTerms, numeral, apply, nil, cons, binary, are_ground}
use Rattle.mw_logic.specs.Terms.{terms_of}
use Rattle.mw_logic.specs.Signature.{Signature, Operator, IsRawTerm, AreRawTerms, an_operator, end, next, at_number}
use Rattle.mw_logic.specs.Substitution.{Substitution}
use Rattle.mw_logic.specs.Accepted.{IsAccepted, IsWellSorted}
use Rattle.mw_logic.specs.Built.{HasBuiltIns}
use Rattle.mw_logic.specs.Judgements.{admitted_judgements, IsNormalBy}
use Rattle.mw_logic.specs.Parts.{is_assoc, nested}
use Rattle.mw_logic.specs.NormalForm.{is_comm, arranged}
use Rattle.mw_logic.specs.TermOrder.{sorted_terms}
use Rattle.mw_logic.specs.CanonicalPart.{AreSeveral}
use Rattle.mw_logic.specs.Module.{BuiltIn, AreKindsOf, IsBuiltIn, IsPolymorphic, IsTruth, result_of, Module, Fragment, Row, if_true, if_false}
use Rattle.mw_logic.proofs.Canonical.{Each, IsCanonical, canonical, each_canonical, not_assoc}
use Rattle.mw_logic.proofs.CanonicalTerms.{clean, fixed}
use Rattle.mw_logic.proofs.Ranks.{row_within}
use Rattle.mw_deduction.specs.Tops.{IsNormalTerm}
use Rattle.mw_builtin.specs.Places.{IsPairAt}
use Rattle.mw_builtin.specs.Results.{IsFound}
use Rattle.mw_builtin.specs.Schemata.{IsNamedTruth, IsConstantFor, IsSchemaOf, Computes, AreSchemataOf}
use Rattle.mw_builtin.specs.Steps.{IsFormOf, IsGroundTerm, IsGiven, IsStepOf, IsTestOf, IsSide, IsAnyTerm, IsAsked, HasNoRow, AreNeighbours, met_for}
use Rattle.mw_builtin.specs.declared.pairs.Found.TheVariants.{Constant}
use Rattle.mw_builtin.specs.declared.pairs.Pair.{Pair}
use Rattle.mw_builtin.specs.declared.schema.Schema.{Schema}
use Rattle.mw_builtin.specs.declared.schema.Schema.TheVariants.{Nothing, Choice}
use Rattle.mw_builtin.specs.declared.step.Met.{Met}
use Rattle.mw_builtin.specs.declared.step.Met.TheVariants as met
use Rattle.mw_builtin.specs.declared.table.Schemata.{Schemata}
use Rattle.mw_builtin.proofs.BuiltLaws.{IsTest, test_args, choice_args}
use Rattle.mw_builtin.proofs.Forms.{plain_number, are_several, in_order, form, turned, listed_number}
use Rattle.mw_builtin.proofs.Giving.{number_step, test_step, nested_constant}
use Rattle.mw_builtin.proofs.NoRows.{no_choice}

-- an operator's only schema is the one that it computes by
pub schema_of : (sig : Signature) (s : Schemata) → AreSchemataOf sig s → (f : ℕ) (schema : Schema) → Computes sig f schema → IsSchemaOf sig f schema
schema_of sig s a f schema h = subst (IsSchemaOf sig f) (sym ((a.schemas f).only schema h)) (a.schemas f)

-- a row that was looked up is the operator's schema, and if it isn't that it has none, the operator computes by it
pub row_of : (sig : Signature) (s : Schemata) → AreSchemataOf sig s → (f : ℕ) (row schema : Schema) → row ≡ unwrap_or (at_number s.rows f) Nothing → row ≡ schema → IsSchemaOf sig f schema
row_of sig s a f row schema e h = subst (IsSchemaOf sig f) (sym e ∙ h) (a.schemas f)

pub computes_by : (sig : Signature) (f : ℕ) (schema : Schema) → IsSchemaOf sig f schema → (schema ≡ Nothing → ⊥) → Computes sig f schema
computes_by sig f schema h some = ⊎_elim (λ e. absurd (some e)) (λ c. c) h.computes

two_of : (sig : Signature) (Ks : List ℕ) (a b : List ℕ) → AreKindsOf sig Ks (a ∷ b ∷ []) → (K L : ℕ) × (Ks ≡ K ∷ L ∷ [])
two_of sig [] a b h = absurd h
two_of sig (K ∷ []) a b h = absurd (h.3)
two_of sig (K ∷ L ∷ []) a b h = (K, L, refl)
two_of sig (K ∷ L ∷ J ∷ Ks) a b h = absurd (h.3.3)

-- a step on some sides is one on more
pub step_within : (sig : Signature) (N L : RawTerm → Type 0) → ((w : RawTerm) → N w → L w) → (t : RawTerm) (m : Met) → IsStepOf sig N t m → IsStepOf sig L t m
step_within sig N L within t met.Nothing h = h
step_within sig N L within t (met.Gives take to) h = record { form = h.form; is_form = h.is_form; meets = row_within within h.meets; term = h.term }
step_within sig N L within t (met.TooBig take) h = h

-- where the arguments are normal, the sides are
normal_side : (M : Module) (F : List Fragment → Substitution → Type 0) (f : ℕ) (xs : List RawTerm) → Each (IsNormalTerm M F) (terms_of xs) → (w : RawTerm) → IsSide M.signature f xs w → IsNormalBy M F w
normal_side M F f xs normal w side = ⊎_elim (λ e. subst (IsNormalBy M F) (sym e) two.0.normal) (λ e. subst (IsNormalBy M F) (sym e) two.1.0.normal) side.is
  where
    two : Each (IsNormalTerm M F) (terms_of (side.first ∷ side.second ∷ side.rest))
    two = subst (λ ys. Each (IsNormalTerm M F) (terms_of ys)) side.there normal

-- what `step` answers of normal arguments and of any, from what it says of the sides
module _ (s : Schemata) (facts : Signature) (f : ℕ) (xs : List RawTerm) (m : Met) (h : (sig : Signature) → IsAsked sig s f xs → facts ≡ sig → IsStepOf sig (IsSide sig f xs) (apply f (terms_of xs)) m) where
  pub of_sides : (sig : Signature) → AreSchemataOf sig s → facts ≡ sig → IsAccepted sig → IsWellSorted sig → HasBuiltIns sig → IsGroundTerm sig (apply f (terms_of xs)) → IsStepOf sig (IsSide sig f xs) (apply f (terms_of xs)) m
  of_sides sig a e ok sorted built t = h sig (record { schemata = a; accepted = ok; sorted = sorted; built = built; term = t }) e

  pub of_any : (sig : Signature) → AreSchemataOf sig s → facts ≡ sig → IsAccepted sig → IsWellSorted sig → HasBuiltIns sig → IsGroundTerm sig (apply f (terms_of xs)) → IsStepOf sig IsAnyTerm (apply f (terms_of xs)) m
  of_any sig a e ok sorted built t = step_within sig (IsSide sig f xs) IsAnyTerm (λ w side. tt) (apply f (terms_of xs)) m (of_sides sig a e ok sorted built t)

  pub of_normal : (M : Module) (n : ℕ) → AreSchemataOf M.signature s → facts ≡ M.signature → IsAccepted M.signature → IsWellSorted M.signature → HasBuiltIns M.signature → IsGroundTerm M.signature (apply f (terms_of xs))
      → Each (IsNormalTerm M (admitted_judgements M n).Fails) (terms_of xs) → IsStepOf M.signature (IsNormalBy M (admitted_judgements M n).Fails) (apply f (terms_of xs)) m
  of_normal M n a e ok sorted built t normal =
      let F = (admitted_judgements M n).Fails in
      step_within M.signature (IsSide M.signature f xs) (IsNormalBy M F) (normal_side M F f xs normal) (apply f (terms_of xs)) m (of_sides M.signature a e ok sorted built t)

-- the arguments of a raw term are raw terms
each_raw : {sig : Signature} {ts : RawTerms} {Ks : List ℕ} → AreRawTerms sig ts Ks → Each (IsRawTerm sig) ts
each_raw end = tt
each_raw (next r k rest) = (r, each_raw rest)

raw_arguments : {sig : Signature} {f : ℕ} {ts : RawTerms} → IsRawTerm sig (apply f ts) → Each (IsRawTerm sig) ts
raw_arguments (an_operator o is args) = each_raw args

none_two : (ts : List RawTerm) → terms_of ts ≡ nil → length ts ≡ 0
none_two [] e = refl
none_two (t ∷ ts) e = cc

module _ (sig : Signature) (s : Schemata) (f : ℕ) (xs : List RawTerm) (q : IsAsked sig s f xs) where
  stands : IsCanonical sig (apply f (terms_of xs))
  stands = subst (IsCanonical sig) q.term.canonical (canonical sig q.accepted (nested sig (apply f (terms_of xs))))

  canonical_args : Each (IsCanonical sig) (terms_of xs)
  canonical_args = each_canonical sig (terms_of xs) stands.0

  each_at : (P : RawTerm → Type 0) (ys : List RawTerm) (i : ℕ) (d : RawTerm) → Each P (terms_of ys) → i < length ys → P (get_or ys i d)
  each_at P [] i d h l = absurd (omega arith)
  each_at P (y ∷ ys) zero d h l = h.0
  each_at P (y ∷ ys) (suc i) d h l = each_at P ys i d h.1 (omega arith)

  -- arguments of a commutative operator on numbers are in order
  pub numbers_in_order : (b : BuiltIn) → IsBuiltIn sig f b → (c : Bool) → c ≡ is_comm sig f → c ≡ true → sorted_terms (terms_of xs) ≡ terms_of xs
  numbers_in_order b is c e h =
      let (K, L, two) = two_of sig is.1.operator.args _ _ is.1.of_kinds in
      let many = are_several sig q.accepted f (terms_of xs) stands q.term.raw is.1.operator K L is.1.is_there two in
      subst (λ c. arranged c (terms_of xs) ≡ terms_of xs) (sym e ∙ h) (in_order sig q.accepted f (terms_of xs) stands q.term.raw many)

  -- a pair of numerals that gives something
  pub number_met : (b : BuiltIn) → IsBuiltIn sig f b → (c : Bool) → c ≡ is_comm sig f → (p : Pair) → IsPairAt sig b c xs p → (take : Option (List ℕ)) → AreNeighbours (length xs) p.index take
      → IsStepOf sig (IsSide sig f xs) (apply f (terms_of xs)) (met_for take p.found)
  number_met b is c e p h take n = by_order h.gives.gives
    where
      o : Operator
      o = is.1.operator

      kinds : (K L : ℕ) × (is.1.operator.args ≡ K ∷ L ∷ [])
      kinds = two_of sig is.1.operator.args _ _ is.1.of_kinds

      pair_form : IsFormOf sig take (apply f (terms_of xs)) (binary f (numeral h.gives.m) (numeral h.gives.n))
      pair_form = subst (λ x. IsFormOf sig take (apply f (terms_of xs)) (binary f (nested sig x) (numeral h.gives.n))) h.gives.first (subst (λ y. IsFormOf sig take (apply f (terms_of xs)) (binary f (nested sig h.first) (nested sig y))) h.gives.second
          (form sig q.accepted f xs stands q.term.raw is.1.operator is.1.is_there kinds.0 kinds.1 kinds.2 p.index h.first h.second h.rest h.positive h.there take n))

      turned_form : is_comm sig f ≡ true → IsFormOf sig take (apply f (terms_of xs)) (binary f (numeral h.gives.n) (numeral h.gives.m))
      turned_form k = subst (λ x. IsFormOf sig take (apply f (terms_of xs)) (binary f (numeral h.gives.n) (nested sig x))) h.gives.first (subst (λ y. IsFormOf sig take (apply f (terms_of xs)) (binary f (nested sig y) (nested sig h.first))) h.gives.second
          (turned sig q.accepted f xs stands q.term.raw is.1.operator is.1.is_there kinds.0 kinds.1 kinds.2 p.index h.first h.second h.rest h.positive h.there take n k))

      by_order : IsFound sig (result_of b h.gives.m h.gives.n) p.found ⊎ ((c ≡ true) × IsFound sig (result_of b h.gives.n h.gives.m) p.found) → IsStepOf sig (IsSide sig f xs) (apply f (terms_of xs)) (met_for take p.found)
      by_order (inl g) = number_step sig q.accepted q.sorted q.built (IsSide sig f xs) (apply f (terms_of xs)) take f b is h.gives.m h.gives.n pair_form p.found g
      by_order (inr (k, g)) = number_step sig q.accepted q.sorted q.built (IsSide sig f xs) (apply f (terms_of xs)) take f b is h.gives.n h.gives.m (turned_form (sym e ∙ k)) p.found g

  -- a test
  module _ (w : Bool) (is : IsPolymorphic sig f (cond w (codes "_==_") (codes "_=/=_"))) where
    test : IsTest is.0.spelling
    test = by_test w is.2
      where
        by_test : (w : Bool) → is.0.spelling ≡ cond w (codes "_==_") (codes "_=/=_") → IsTest is.0.spelling
        by_test true e = inl e
        by_test false e = inr e

    test_of : (w : Bool) → IsPolymorphic sig f (cond w (codes "_==_") (codes "_=/=_")) → IsTestOf sig f
    test_of true is = inl is
    test_of false is = inr is

    kinds : (K : ℕ) × (is.0.args ≡ K ∷ K ∷ [])
    kinds = test_args sig is.0 (q.built.shapes f is.0 is.1 is.3) test

    -- has two arguments
    pub two_or_more : {X : Type 0} → length xs < 2 → X
    two_or_more h = absurd (by_list xs refl h (are_several sig q.accepted f (terms_of xs) stands q.term.raw is.0 kinds.0 kinds.0 is.1 kinds.1))
      where
        by_list : (ys : List RawTerm) → xs ≡ ys → length xs < 2 → AreSeveral (terms_of xs) → ⊥
        by_list [] e h k = subst (λ ys. AreSeveral (terms_of ys)) e k
        by_list (y ∷ []) e h k = subst (λ ys. AreSeveral (terms_of ys)) e k
        by_list (y ∷ z ∷ ys) e h k = let l = ap length e in omega (arith, l, h)

    -- and there are the truth values
    pub truth_there : {X : Type 0} (b : Bool) → IsConstantFor sig b None → X
    truth_there b none = let (r, (c, e, named)) = q.built.truths f is.0 is.1 is.3 b in absurd (none c named)

    pub test_met : (u v : RawTerm) → 2 ≤ length xs → u ≡ get_or xs 0 u → v ≡ get_or xs 1 v → (take : Option (List ℕ)) → AreNeighbours (length xs) 1 take → (e : Bool) → (IsTrue e ↔ (u ≡ v)) → (c : ℕ) → IsNamedTruth sig (cond w e (not e)) c
        → IsStepOf sig (IsSide sig f xs) (apply f (terms_of xs)) (met_for take (Constant c))
    test_met u v long first second take n e same c named =
        let ku : IsCanonical sig u = subst (IsCanonical sig) (sym first) (each_at (IsCanonical sig) xs 0 u canonical_args (omega (arith, long))) in
        let kv : IsCanonical sig v = subst (IsCanonical sig) (sym second) (each_at (IsCanonical sig) xs 1 v canonical_args (omega (arith, long))) in
        test_step sig q.accepted q.sorted q.built (IsSide sig f xs) (apply f (terms_of xs)) take f w is u v
        (form sig q.accepted f xs stands q.term.raw is.0 is.1 kinds.0 kinds.0 kinds.1 1 u v (drop 2 xs) (omega arith) (two_first xs long first second) take n) (fixed sig q.accepted u ku) (fixed sig q.accepted v kv)
        (λ d. (side d (nested sig u) (inl refl), side d (nested sig v) (inr refl))) e same c named
      where
        two_first : (ys : List RawTerm) → 2 ≤ length ys → u ≡ get_or ys 0 u → v ≡ get_or ys 1 v → ys ≡ u ∷ v ∷ drop 2 ys
        two_first [] l a b = absurd (omega arith)
        two_first (y ∷ []) l a b = absurd (omega arith)
        two_first (y ∷ z ∷ ys) l a b = cc

        side : (u ≡ v → ⊥) → (x : RawTerm) → (x ≡ nested sig u) ⊎ (x ≡ nested sig v) → IsSide sig f xs x
        side d x h = record { test = test_of w is; first = u; second = v; rest = drop 2 xs; there = two_first xs long first second; differ = d; is = h }

  -- a choice
  module _ (is : IsPolymorphic sig f (codes "if_then_else_fi")) where
    three : (C : ℕ) × (is.0.args ≡ C ∷ is.0.result ∷ is.0.result ∷ [])
    three = choice_args sig is.0 (q.built.shapes f is.0 is.1 is.3) is.2

    plain : is_assoc sig f ≡ false
    plain = not_assoc sig q.accepted f is.0 is.1 (λ K L e. not_two (sym three.1 ∙ e))
      where
        not_two : {A B C K L : ℕ} → A ∷ B ∷ C ∷ [] ≡ K ∷ L ∷ [] → ⊥
        not_two e = cc

    -- has three arguments
    pub three_args : length xs ≡ 3
    three_args = sym (listed_number xs) ∙ plain_number sig q.accepted f (terms_of xs) stands q.term.raw is.0 is.1 plain ∙ ap length three.1

    as_list : (ys : List RawTerm) → length ys ≡ 3 → (d : RawTerm) → ys ≡ get_or ys 0 d ∷ get_or ys 1 d ∷ get_or ys 2 d ∷ []
    as_list [] e d = cc
    as_list (x ∷ []) e d = cc
    as_list (x ∷ y ∷ []) e d = cc
    as_list (x ∷ y ∷ z ∷ []) e d = refl
    as_list (x ∷ y ∷ z ∷ w ∷ ys) e d = cc

    -- where the first is no truth value
    pub nothing_chosen : (c : RawTerm) → c ≡ get_or xs 0 c → ((b : Bool) → IsTruth sig b c → ⊥) → HasNoRow sig (apply f (terms_of xs))
    nothing_chosen c first none =
        no_choice sig q.accepted f (terms_of xs) is.0 is.1 three.0 is.0.result is.0.result three.1 (schema_of sig s q.schemata f Choice is) c (cons (get_or xs 1 c) (cons (get_or xs 2 c) nil))
        (ap terms_of (as_list xs three_args c) ∙ ap (λ x. cons x (cons (get_or xs 1 c) (cons (get_or xs 2 c) nil))) (sym first)) none

    -- and where it is one
    pub chosen_branch : (b : Bool) (c u v : RawTerm) → c ≡ get_or xs 0 c → u ≡ get_or xs 1 u → v ≡ get_or xs 2 v → IsTruth sig b c → (to : RawTerm) → to ≡ cond b u v → IsGiven sig (IsSide sig f xs) (apply f (terms_of xs)) None to
    chosen_branch b c u v first second third truth to e = record {
      form = nested sig (apply f (terms_of xs));
      is_form = record { part = apply f (terms_of xs); taken = refl; raw = q.term.raw; clean = clean sig q.accepted (apply f (terms_of xs)) stands; is = q.term.canonical };
      meets = subst (λ r. Row sig (IsSide sig f xs) (nested sig (apply f (terms_of xs))) (nested sig r)) (sym e) (subst (λ w. Row sig (IsSide sig f xs) w (nested sig (cond b u v))) (sym form_is) (by_truth b truth));
      term = subst (IsGroundTerm sig) (sym e) (branch b);
    }
      where
        listed : xs ≡ c ∷ u ∷ v ∷ []
        listed = three_listed xs three_args first second third
          where
            three_listed : (ys : List RawTerm) → length ys ≡ 3 → c ≡ get_or ys 0 c → u ≡ get_or ys 1 u → v ≡ get_or ys 2 v → ys ≡ c ∷ u ∷ v ∷ []
            three_listed [] l h i j = cc
            three_listed (x ∷ []) l h i j = cc
            three_listed (x ∷ y ∷ []) l h i j = cc
            three_listed (x ∷ y ∷ z ∷ []) l h i j = cc
            three_listed (x ∷ y ∷ z ∷ w ∷ ys) l h i j = cc

        form_is : nested sig (apply f (terms_of xs)) ≡ apply f (cons (nested sig c) (cons (nested sig u) (cons (nested sig v) nil)))
        form_is = ap (λ ys. nested sig (apply f (terms_of ys))) listed ∙ rw plain refl

        truth_nested : (b : Bool) → IsTruth sig b c → IsTruth sig b (nested sig c)
        truth_nested b (d, p, named) = (d, ap (nested sig) p ∙ nested_constant sig d, named)

        by_truth : (b : Bool) → IsTruth sig b c → Row sig (IsSide sig f xs) (apply f (cons (nested sig c) (cons (nested sig u) (cons (nested sig v) nil)))) (nested sig (cond b u v))
        by_truth true h = if_true is (truth_nested true h)
        by_truth false h = if_false is (truth_nested false h)

        raw : Each (IsRawTerm sig) (cons (nested sig c) (cons (nested sig u) (cons (nested sig v) nil)))
        raw = raw_arguments (subst (IsRawTerm sig) form_is q.term.raw)

        args : Each (IsCanonical sig) (terms_of (c ∷ u ∷ v ∷ []))
        args = subst (λ ys. Each (IsCanonical sig) (terms_of ys)) listed canonical_args

        ground : IsTrue (are_ground (terms_of (c ∷ u ∷ v ∷ [])))
        ground = subst (λ ys. IsTrue (are_ground (terms_of ys))) listed q.term.ground

        branch : (b : Bool) → IsGroundTerm sig (cond b u v)
        branch true = record { raw = raw.1.0; canonical = fixed sig q.accepted u args.1.0; ground = (and_parts _ _ (and_parts _ _ ground).1).0 }
        branch false = record { raw = raw.1.1.0; canonical = fixed sig q.accepted v args.1.1.0; ground = (and_parts _ _ (and_parts _ _ (and_parts _ _ ground).1).1).0 }
