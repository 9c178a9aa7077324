-- What is known of the values of an equation that applies to a term over normal arguments.
use Rattle.std.specs.Prelude.{◌≡◌, ◌⊎◌, ◌<◌, ℕ, suc, List, [], ◌∷◌, length, drop, Bool, true, false, nat_eq, Some, unwrap_or, slice_get, IsTrue, IsFalse, refl}
use Rattle.std.proofs.Common.{sym, subst, ap, ◌∙◌, arith, inl, inr, ⊎_elim, true≢false}
use Rattle.std.proofs.lemmas.Bool.{both_ways, or_cases, or_left, or_right}
use Rattle.std.proofs.Common.{get_or}
use Rattle.std.proofs.lemmas.Option.{slice_get-get_or}
use Rattle.mw_logic.specs.Term.{Variable, RawTerm, numeral, quoted, variable, apply, RawTerms, nil, cons, join}
use Rattle.mw_logic.specs.Signature.{Signature, constant_of, numeral_of, IsRawTerm, IsSuccessor, Operator, an_operator, AreRawTerms, end, next}
use Rattle.mw_logic.specs.Axioms.{EqualModulo}
use Rattle.mw_logic.specs.Accepted.{IsAccepted, IsWellSorted}
use Rattle.mw_logic.specs.CanonicalPart.{AreSeveral, IsPartOf}
use Rattle.mw_logic.specs.CanonicalPart as part
use Rattle.mw_logic.specs.Substitution.{Substitution, value, instance, occurs, occurs_in}
use Rattle.mw_logic.specs.Parts.{is_assoc, nested, all_nested, nest, number_of_terms}
use Rattle.mw_logic.specs.NormalForm.{is_comm, normal_form}
use Rattle.mw_logic.specs.Module.{Module}
use Rattle.mw_logic.specs.Judgements.{admitted_judgements}
use Rattle.mw_logic.proofs.Canonical.{Each, IsCanonical, canonical, same_operator}
use Rattle.mw_logic.proofs.CanonicalTerms.{fixed}
use Rattle.mw_logic.proofs.Holes.{Each-parts, Each-unarranged}
use Rattle.mw_logic.proofs.InstanceLaws.{occurs_kept}
use Rattle.mw_logic.proofs.Invariance.{successor_not_assoc}
use Rattle.mw_logic.proofs.PartsOfNormalForm.{part_kept}
use Rattle.mw_logic.proofs.RawKept.{raw_kept}
use Rattle.mw_logic.proofs.SameConditions.{same_variable-is, same_variable-refl}
use Rattle.mw_logic.proofs.SolutionLaws.{instance_raw}
use Rattle.mw_logic.proofs.Soundness.{normal_form-sound}
use Rattle.mw_position.specs.Variables.{is_in, place, placed, all_placed}
use Rattle.mw_position.proofs.Meeting.{place-within}
use Rattle.mw_matching.specs.Matches.{evaluated, evaluated_all, HasArities, AllHaveArities}
use Rattle.mw_solving.proofs.Grounds.{nested_ground}
use Rattle.mw_solving.proofs.Nesting.{nested_occurs}
use Rattle.mw_solving.proofs.RawArguments.{IsRaw, each_argument, each_nested}
use Rattle.mw_solving.proofs.RawValues.{arities, all_evaluated_canonical}
use Rattle.mw_deduction.specs.Tops.{IsTop, IsNormalTerm}
use Rattle.mw_deduction.specs.Tops as top
use Rattle.mw_deduction.proofs.NormalBuilt.{value_normal}
use Rattle.mw_deduction.proofs.ValuesInside.{IsLeaf, of_identity, of_numeral, value_found}
use Rattle.mw_canon.specs.Free.{IsFree, AreFree}
use Rattle.mw_frames.specs.Jobs.{is_sure, value_at}
use Rattle.mw_frames.specs.State.{IsKnown, IsNormalHere, HasNormalArguments, IsKnownIn, AreKnownIn}
use Rattle.mw_deduction.specs.Replay.{Move}
use Rattle.mw_frames.specs.Redex.{IsBare, value_in, IsRedex, HasOnTop}
use Rattle.mw_frames.proofs.Normals.{IsLeafTerm, normal_has}
use Rattle.mw_frames.proofs.Fitting.{plain_applied}
use Rattle.mw_frames.proofs.PlacedTerms.{IsValueOf, value_here}
use Rattle.mw_frames.proofs.RightSides.{distinct_here, right_here, value_here_too, left_is}

-- a part of what has no operator on top is the whole
leaf_part : (sig : Signature) (v t u : RawTerm) → v ≡ t → IsLeafTerm t → IsPartOf sig false v u → u ≡ t
leaf_part sig v t u e l part.whole = e
leaf_part sig v t u e l (part.argument g b x a o p) = absurd (subst IsLeafTerm (sym e) l)
leaf_part sig v t u e l (part.several A o m c) = absurd (subst IsLeafTerm (sym e) l)

module _ (M : Module) (ok : IsAccepted M.signature) (sorted : IsWellSorted M.signature) (n number : ℕ) (ms : List Move) (vs : List RawTerm) (right w : RawTerm) (r : IsRedex M n number ms vs right w) where
  abbrev sig : Signature
  sig = M.signature

  abbrev variables : List Variable
  variables = r.statement.variables

  -- each value is that of one of the variables
  its_variable : (i : ℕ) (u : RawTerm) → slice_get vs i ≡ Some u → IsValueOf sig variables vs u
  its_variable = value_here sig variables (distinct_here M ok sorted n number ms vs right w r) vs r.size

  differs : (f : ℕ) → 0 < f → nat_eq f 0 ≡ false
  differs f l = by_test (nat_eq f 0) refl
    where
      by_test : (b : Bool) → nat_eq f 0 ≡ b → b ≡ false
      by_test false e = refl
      by_test true e = absurd (let z = Rattle.std.proofs.lemmas.Bool.eqb-true f 0 e in omega (arith, l, z))

  module _ (f : ℕ) (positive : 0 < f) where
    -- not sure: it has the operator on top that the redex has, or no arguments
    not_sure : (t : RawTerm) → ((g : ℕ) (u : RawTerm) (us : RawTerms) → t ≡ apply g (cons u us) → g ≡ f) → is_sure f t ≡ false
    not_sure (numeral m) h = differs f positive
    not_sure (quoted q) h = differs f positive
    not_sure (variable x) h = differs f positive
    not_sure (apply g nil) h = differs f positive
    not_sure (apply g (cons t ts)) h =
        let k : g ≡ f = h g t ts refl in
        let e : nat_eq g f ≡ true = ap (λ j. nat_eq j f) k ∙ Rattle.mw_logic.proofs.Canonical.nat_eq-refl f in
        rw (differs f positive, e) refl

    top_known : (v : RawTerm) → HasOnTop f w → HasNormalArguments M n w → IsTop sig w v → HasNormalArguments M n v × (is_sure f v ≡ false)
    top_known v h a t = by_top v t refl
      where
        by_top : {x : RawTerm} (v : RawTerm) → IsTop sig x v → w ≡ x → HasNormalArguments M n v × (is_sure f v ≡ false)
        by_top v top.whole e = let z : w ≡ v = e in (subst (HasNormalArguments M n) z a, not_sure v (λ g u us k. h g (cons u us) (z ∙ k)))
        by_top v (top.several {f = g} {ts} {us} A l c) e =
            let p : Each (IsNormalHere M n) ts = a g ts e in
            let q = Each-parts (IsNormalHere M n) c.before (join us c.after) (Each-unarranged (IsNormalHere M n) (is_comm sig g) (join c.before (join us c.after)) (subst (Each (IsNormalHere M n)) (sym c.whole) p)) in
            let m : Each (IsNormalHere M n) us = (Each-parts (IsNormalHere M n) us c.after q.1).0 in (
              λ g' ts' k. let z : us ≡ ts' = cc in subst (Each (IsNormalHere M n)) z m,
              not_sure (apply g us) (λ g' u us' k. let z : g ≡ g' = cc in sym z ∙ h g ts e),
            )

    leaf_known : (v : RawTerm) → IsLeaf sig v → HasNormalArguments M n v × (is_sure f v ≡ false)
    leaf_known v (of_identity g (constant_of c) e) = ((λ g' ts k. let z : ts ≡ nil = cc in rw z tt), differs f positive)
    leaf_known v (of_identity g (numeral_of m) e) = ((λ g' ts k. cc), differs f positive)
    leaf_known v of_numeral = ((λ g' ts k. cc), differs f positive)

    bare_known : (u : RawTerm) → IsBare u → HasNormalArguments M n u × (is_sure f u ≡ false)
    bare_known (numeral m) h = ((λ g ts k. cc), differs f positive)
    bare_known (quoted q) h = ((λ g ts k. cc), differs f positive)
    bare_known (variable x) h = ((λ g ts k. cc), differs f positive)
    bare_known (apply g nil) h = ((λ g' ts k. let z : ts ≡ nil = cc in rw z tt), differs f positive)
    bare_known (apply g (cons t ts)) h = absurd h

    -- what a match found
    found_known : {u : RawTerm} (x : IsValueOf sig variables vs u) → IsFalse (occurs x.of r.statement.left) → IsNormalHere M n u ⊎ (HasNormalArguments M n u × (is_sure f u ≡ false))
    found_known {u} x o = ⊎_elim (λ a. inl (subst (IsNormalHere M n) x.place a)) (λ b. inr (bare_known u (subst IsBare x.place b))) (r.found x.of x.within o)

    -- each value is normal, or a part on top, or a leaf
    pub values_known : HasOnTop f w → IsCanonical sig w → IsRawTerm sig (nested sig w) → HasNormalArguments M n w → (i : ℕ) (u : RawTerm) → slice_get vs i ≡ Some u → IsKnown M n f u
    values_known h k raw a i u g =
        let v = r.values i u g in
        let x = its_variable i u g in
        let z : normal_form sig (nested sig u) ≡ u = fixed sig ok u v.canonical in
        record {
          canonical = v.canonical;
          ground = sym (nested_ground sig u) ∙ v.ground;
          known = by_side (occurs x.of r.statement.left) x refl z;
        }
      where
        leaf : (t : RawTerm) → w ≡ t → IsLeafTerm t → (x : IsValueOf sig variables vs u) → IsTrue (occurs x.of r.statement.left) → normal_form sig (nested sig u) ≡ u → IsNormalHere M n u ⊎ (HasNormalArguments M n u × (is_sure f u ≡ false))
        leaf t e l x o z =
            inr (⊎_elim (λ p. top_known u h a (whole (leaf_part sig _ t u (fixed sig ok w k ∙ e) l (subst (IsPartOf sig false (normal_form sig (nested sig w))) (normal z)
            (part_kept sig ok p.0 _ (λ y. absurd (true≢false (sym y))) raw p.1))))) (λ y. leaf_known u (subst (IsLeaf sig) z y))
            (value_found sig ok r.solution r.statement.left (nested sig w) x.of (nested sig u) raw (instance_raw sig ok sorted r.solution r.solves.substitution r.sides.left) r.solves.matches o
            (value_here_too M ok sorted n number ms vs right w r x.of (nested sig u) o x.value)))
          where
            whole : u ≡ t → IsTop sig w u
            whole q = subst (IsTop sig w) (e ∙ sym q) top.whole

            normal : normal_form sig (nested sig u) ≡ u → normal_form sig (nested sig (normal_form sig (nested sig u))) ≡ u
            normal q = ap (λ y. normal_form sig (nested sig y)) q ∙ q

        by_shape : (t : RawTerm) → w ≡ t → (x : IsValueOf sig variables vs u) → IsTrue (occurs x.of r.statement.left) → normal_form sig (nested sig u) ≡ u → IsNormalHere M n u ⊎ (HasNormalArguments M n u × (is_sure f u ≡ false))
        by_shape (apply g' ts) e x o z =
            ⊎_elim (λ m. inl (subst (IsNormalHere M n) z m)) (λ m. inr (⊎_elim (λ t. top_known u h a (subst (λ y. IsTop sig y u) (sym e) (subst (IsTop sig (apply g' ts)) z t))) (λ l. leaf_known u (subst (IsLeaf sig) z l)) m))
            (value_normal M ok sorted (admitted_judgements M n).Fails g' ts (subst (λ y. IsRawTerm sig (nested sig y)) e raw) (fixed sig ok (apply g' ts) (subst (IsCanonical sig) e k)) (a g' ts e)
            r.statement.left r.solution r.sides.left (subst (λ y. Rattle.mw_logic.specs.Substitution.IsSolution sig r.statement.left (nested sig y) [] r.solution) e r.solves) x.of (nested sig u) o
            (value_here_too M ok sorted n number ms vs right w r x.of (nested sig u) o x.value))
        by_shape (numeral m) e x o z = leaf (numeral m) e tt x o z
        by_shape (quoted q) e x o z = leaf (quoted q) e tt x o z
        by_shape (variable y) e x o z = leaf (variable y) e tt x o z

        by_side : (b : Bool) → (x : IsValueOf sig variables vs u) → occurs x.of r.statement.left ≡ b → normal_form sig (nested sig u) ≡ u → IsNormalHere M n u ⊎ (HasNormalArguments M n u × (is_sure f u ≡ false))
        by_side true x o z = by_shape w refl x o z
        by_side false x o z = found_known x o

  good : (i : ℕ) (u : RawTerm) → slice_get vs i ≡ Some u → IsCanonical sig u
  good i u g = (r.values i u g).canonical

  -- in a normal instance without axioms each value is normal
  mutual
    free_value : (p : RawTerm) → IsFree sig (placed variables p) → IsNormalHere M n (evaluated sig vs (placed variables p)) → (x : Variable) → IsTrue (occurs x p) → IsNormalHere M n (evaluated sig vs (placed variables (variable x)))
    free_value (numeral m) q a x o = absurd (both_ways _ refl o)
    free_value (quoted c) q a x o = absurd (both_ways _ refl o)
    free_value (variable y) q a x o = subst (λ z. IsNormalHere M n (evaluated sig vs (placed variables (variable z)))) (same_variable-is y x o) a
    free_value (apply g ps) q a x o =
        free_values ps q.1
        (normal_has M ok sorted (admitted_judgements M n).Fails _ (all_evaluated_canonical sig ok vs good (cons (placed variables (apply g ps)) nil)).0 a g (evaluated_all sig vs (all_placed variables ps)) (plain_applied sig g _ q.0)) x o

    free_values : (ps : RawTerms) → AreFree sig (all_placed variables ps) → Each (IsNormalHere M n) (evaluated_all sig vs (all_placed variables ps)) → (x : Variable) → IsTrue (occurs_in x ps)
        → IsNormalHere M n (evaluated sig vs (placed variables (variable x)))
    free_values nil q a x o = absurd (both_ways _ refl o)
    free_values (cons p ps) q a x o = ⊎_elim (λ k. free_value p q.0 a.0 x k) (λ k. free_values ps q.1 a.1 x k) (or_cases (occurs x p) (occurs_in x ps) o)

  -- where the left side is an operator on patterns, without axioms, each value is a part of an argument, or was found and is normal
  pub free_values_known : (f : ℕ) (ps : RawTerms) → apply f ps ≡ placed variables (normal_form sig r.statement.left) → IsFree sig (apply f ps)
      → ((x : Variable) → IsTrue (is_in x variables) → IsFalse (occurs x r.statement.left) → IsNormalHere M n (value_in sig variables vs x)) → IsCanonical sig w → HasNormalArguments M n w
      → (i : ℕ) (u : RawTerm) → slice_get vs i ≡ Some u → IsKnown M n 0 u
  free_values_known f ps e q found k a i u g =
      let v = r.values i u g in
      let x = its_variable i u g in
      record {
        canonical = v.canonical;
        ground = sym (nested_ground sig u) ∙ v.ground;
        known = inl (subst (IsNormalHere M n) x.place (by_side (occurs x.of r.statement.left) x refl));
      }
    where
      by_shape : (p : RawTerm) → apply f ps ≡ placed variables p → evaluated sig vs (placed variables p) ≡ w → (x : Variable) → IsTrue (occurs x p) → IsNormalHere M n (evaluated sig vs (placed variables (variable x)))
      by_shape (numeral m) e l x o = cc
      by_shape (quoted c) e l x o = cc
      by_shape (variable y) e l x o = cc
      by_shape (apply h qs) e l x o =
          let z : IsFree sig (apply h (all_placed variables qs)) = subst (IsFree sig) e q in
          free_values qs z.1 (a h (evaluated_all sig vs (all_placed variables qs)) (sym l ∙ plain_applied sig h _ z.0)) x o

      by_side : (b : Bool) (x : IsValueOf sig variables vs u) → occurs x.of r.statement.left ≡ b → IsNormalHere M n (value_in sig variables vs x.of)
      by_side true x o =
          let p : RawTerm = normal_form sig r.statement.left in
          by_shape p e (left_is M ok sorted n number ms vs right w r k) x.of (sym (occurs_kept sig x.of (normal_form-sound sig ok r.sides.left) ∙ nested_occurs sig x.of p) ∙ o)
      by_side false x o = found x.of x.within o

  -- So is each in the right side, whose operators have as many arguments as their axioms ask for.
  module _ (f base : ℕ) (values : List RawTerm) (kept : drop base values ≡ vs) (known : (i : ℕ) (u : RawTerm) → slice_get vs i ≡ Some u → IsKnown M n f u) where
    value_known : (x : Variable) → IsTrue (is_in x variables) → IsKnown M n f (value_at values base (place x variables))
    value_known x h =
        let l : place x variables < length vs = let a = place-within x variables h in let b = r.size in omega (arith, a, b) in
        let g : slice_get (drop base values) (place x variables) ≡ Some (get_or vs (place x variables) (variable x)) = ap (λ us. slice_get us (place x variables)) kept ∙ slice_get-get_or vs (place x variables) (variable x) l in
        subst (IsKnown M n f) (sym (ap (λ o. unwrap_or o (placed variables (variable x))) g)) (known (place x variables) _ (slice_get-get_or vs (place x variables) (variable x) l))

    one_argument : (g : ℕ) (ps : RawTerms) → IsRaw sig (apply g ps) → IsSuccessor sig g → number_of_terms (all_placed variables ps) ≡ 1
    one_argument g ps raw z =
        let h : is_assoc sig g ≡ false = successor_not_assoc sig ok g z in
        counted (subst (λ b. IsRawTerm sig (nest b g (all_nested sig ps))) h raw)
      where
        as_many : (ts : RawTerms) (Ks : List ℕ) → AreRawTerms sig (all_nested sig ts) Ks → number_of_terms (all_placed variables ts) ≡ length Ks
        as_many nil [] end = refl
        as_many nil (K ∷ Ks) rest = elim rest [ ]
        as_many (cons t ts) [] rest = elim rest [ ]
        as_many (cons t ts) (K ∷ Ks) (next s k rest) = ap suc (as_many ts Ks rest)

        counted : IsRawTerm sig (apply g (all_nested sig ps)) → number_of_terms (all_placed variables ps) ≡ 1
        counted (an_operator o is args) = as_many ps o.args args ∙ ap length (ap (λ (p : Operator). p.args) (same_operator sig g o z.operator is z.is_there) ∙ z.takes_one)

    mutual
      known_in : (p : RawTerm) → IsRaw sig p → HasArities sig (placed variables p) → ((x : Variable) → IsTrue (occurs x p) → IsTrue (is_in x variables)) → IsKnownIn M n values base f (placed variables p)
      known_in (numeral m) raw a h = tt
      known_in (quoted q) raw a h = tt
      known_in (variable x) raw a h = value_known x (h x (same_variable-refl x))
      known_in (apply g ps) raw a h = (record { arity = a.0; one = one_argument g ps raw }, by_assoc (is_assoc sig g) refl (λ e. known_in_all ps e a.1 h))
        where
          by_list : is_assoc sig g ≡ true → (ps : RawTerms) → IsRaw sig (apply g ps) → Each (IsRaw sig) ps
          by_list e nil raw = tt
          by_list e (cons p ps) raw = each_nested sig ok g p ps (subst (λ b. IsRawTerm sig (nest b g (all_nested sig (cons p ps)))) e raw)

          plain : IsRawTerm sig (apply g (all_nested sig ps)) → Each (IsRaw sig) ps
          plain (an_operator o is args) = each_argument sig ok ps args

          by_assoc : (b : Bool) → is_assoc sig g ≡ b → (Each (IsRaw sig) ps → AreKnownIn M n values base f (all_placed variables ps)) → AreKnownIn M n values base f (all_placed variables ps)
          by_assoc true e rest = rest (by_list e ps raw)
          by_assoc false e rest = rest (plain (subst (λ b. IsRawTerm sig (nest b g (all_nested sig ps))) e raw))

      known_in_all : (ps : RawTerms) → Each (IsRaw sig) ps → AllHaveArities sig (all_placed variables ps) → ((x : Variable) → IsTrue (occurs_in x ps) → IsTrue (is_in x variables)) → AreKnownIn M n values base f (all_placed variables ps)
      known_in_all nil raw a h = tt
      known_in_all (cons p ps) raw a h =
          (known_in p raw.0 a.0 (λ x o. h x (or_left (occurs x p) (occurs_in x ps) o)), known_in_all ps raw.1 a.1 (λ x o. h x (or_right (occurs x p) (occurs_in x ps) o)))

    pub right_known : IsKnownIn M n values base f right
    right_known =
        let p : RawTerm = normal_form sig r.statement.right in
        let e : EqualModulo sig r.statement.right (nested sig p) = normal_form-sound sig ok r.sides.right in
        let raw : IsRaw sig p = (raw_kept sig ok e).0 r.sides.right in
        let only : (x : Variable) → IsTrue (occurs x p) → IsTrue (is_in x variables) =
        λ x o. right_here M ok sorted n number ms vs right w r x (occurs_kept sig x e ∙ nested_occurs sig x p ∙ o) in
        subst (IsKnownIn M n values base f) (sym r.right) (known_in p raw (arities sig ok variables p raw) only)
