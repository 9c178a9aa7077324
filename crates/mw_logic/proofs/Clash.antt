-- Where the equations of a tame module are confluent, no condition clashes, which is to hold and to fail; and nothing can be replaced in a normal term. So
-- a normal term is not reducible, and the normal terms that equations reach from one term are equal. By induction on the rank: where no condition clashes
-- normal terms are stuck, and where they are no condition of the next rank clashes, since the evaluations of a side end in equal terms.
use Rattle.std.specs.Prelude.{◌≡◌, ◌≤◌, ℕ, zero, suc, List, [], ◌∷◌, Bool, true, false, ◌||◌, cond, None, IsTrue, IsFalse, ◌⊎◌, is_some, refl}
use Rattle.std.proofs.Common.{sym, subst, ap, ◌∙◌, arith, inl, inr, ⊎_elim}
use Rattle.std.proofs.lemmas.Bool.{and_parts, cond-true, or_left, or_right, or_cases}
use Rattle.mw_logic.specs.Term.{Variable, RawTerm, RawTerms, apply, cons, join, Context, plug, is_ground}
use Rattle.mw_logic.specs.Term as term
use Rattle.mw_logic.specs.Signature.{Signature, Sorted, sort, kind, Member, IsRawTerm}
use Rattle.mw_logic.specs.Axioms.{EqualModulo}
use Rattle.mw_logic.specs.Substitution.{Substitution, value, instance, is_bound, occurs, IsSubstitution, IsSolution, Extends}
use Rattle.mw_logic.specs.Parts.{ReplacesPart, IsClean}
use Rattle.mw_logic.specs.Module.{Fragment, equal, matches, has_sort, is_true, Module, Row, arithmetic, equal_terms, unequal_terms, not_different, different, if_true, if_false, MeetsRow, by_row, an_equality, an_inequality}
use Rattle.mw_logic.specs.Proof.{Proof, reflexivity, equality, congruence, transitivity, replacement, row, Proofs, rules, rules_of}
use Rattle.mw_logic.specs.Proof as proof
use Rattle.mw_logic.specs.Judgements.{StepTest, Replaces, Leads, LeadsIn, Evaluates, MeetsSort, HoldsAbove, FailsAbove, IsNormalBy, judgements, judgements_with, Proves, Held, Fails, IsNormal}
use Rattle.mw_logic.specs.Ends.{Reaches, Confluent, IsSide}
use Rattle.mw_logic.specs.WellFormed.{IsWellFormed}
use Rattle.mw_logic.specs.Confluence.{HasOnly, AreBound, IsTame, IsReducible, by_equation}
use Rattle.mw_logic.proofs.AxiomLaws.{trans, sym as back, in_context}
use Rattle.mw_logic.proofs.EqualTerms.{normal_equal}
use Rattle.mw_logic.proofs.RawKept.{raw_kept}
use Rattle.mw_logic.proofs.RawLed.{Proves-raw}
use Rattle.mw_logic.proofs.Holes.{clean_replaced}
use Rattle.mw_logic.proofs.Stuck.{led_to_equal}
use Rattle.mw_logic.proofs.SolutionLaws.{instance_raw}
use Rattle.mw_logic.proofs.SameConditions.{bound_some}
use Rattle.mw_logic.proofs.Restricted.{binds_each, AreBound-same, restricted, value-restricted, bound_only, restricted-extends, restricted-substitution, instance_extended, instance_ground}

-- a part is replaced, and not by a rule
abbrev ByEquations : Signature → StepTest
ByEquations sig by_rule t w v u = ReplacesPart sig by_rule t w v u × IsFalse by_rule

-- in a proof without rules each replacement is of that kind
module _ (M : Module) (H : List Fragment → Substitution → Proofs → Substitution → Type 0) (F : List Fragment → Substitution → Type 0) where
  no_rule : (b : Bool) → cond {A = ℕ} b 1 0 ≡ 0 → IsFalse b
  no_rule true h = cc
  no_rule false h = refl

  mutual
    by_equations : (p : Proof) (C : Context) (t u : RawTerm) → rules p ≡ 0 → Leads M (ReplacesPart M.signature) H F C p t u → Leads M (ByEquations M.signature) H F C p t u
    by_equations reflexivity C t u h l = l
    by_equations equality C t u h l = l
    by_equations (congruence ps) C t u h (f, ts, us, a, b, l) = (f, ts, us, a, b, all_by_equations ps C f term.nil ts us h l)
    by_equations (transitivity p q) C t u h (m, a, b) = (m, by_equations p C t m (omega (arith, h)) a, by_equations q C m u (omega (arith, h)) b)
    by_equations (replacement k r s es) C t u h (x, part) = (x, (part, no_rule r h))
    by_equations row C t u h (x, c, part) = (x, c, (part, refl))

    all_by_equations : (ps : Proofs) (C : Context) (f : ℕ) (finished ts us : RawTerms) → rules_of ps ≡ 0 → LeadsIn M (ReplacesPart M.signature) H F C f finished ps ts us →
        LeadsIn M (ByEquations M.signature) H F C f finished ps ts us
    all_by_equations proof.nil C f finished ts us h l = l
    all_by_equations (proof.cons p ps) C f finished ts us h (t, u, ts', us', a, b, l, more) = (
      t,
      u,
      ts',
      us',
      a,
      b,
      by_equations p (record { operator = f; before = finished; after = ts' } ∷ C) t u (omega (arith, h)) l,
      all_by_equations ps C f (join finished (cons u term.nil)) ts' us' (omega (arith, h)) more,
    )

-- what a row replaces meets one
meets : {sig : Signature} {N : RawTerm → Type 0} {w v : RawTerm} → Row sig N w v → MeetsRow sig w
meets (arithmetic b i d) = by_row (arithmetic b i d)
meets (equal_terms p e t) = an_equality p
meets (unequal_terms p n m e t) = an_equality p
meets (not_different p e t) = an_inequality p
meets (different p n m e t) = an_inequality p
meets (if_true p c) = by_row (if_true p c)
meets (if_false p c) = by_row (if_false p c)

-- an equal term has the sort
meets_sort : {sig : Signature} (S : Sorted) {a b : RawTerm} → EqualModulo sig a b → MeetsSort sig a S → MeetsSort sig b S
meets_sort (sort S) e h = record { form = h.form; equal = trans (back e) h.equal; declared = h.declared; is_declared = h.is_declared; below = h.below }
meets_sort (kind K) e h = tt

module _ (M : Module) (wf : IsWellFormed M) (tame : IsTame M) where
  abbrev sig : Signature
  sig = M.signature

  -- the sides of the fragments are raw terms
  abbrev pub AreRawSides : List Fragment → Type 0
  AreRawSides C = (f : Fragment) → Member f C → (t : RawTerm) → IsSide f t → IsRawTerm sig t

  -- no condition holds from a substitution and fails from a part of it, where that binds what the sides need
  abbrev pub NoClash : (List Fragment → Substitution → Proofs → Substitution → Type 0) → (List Fragment → Substitution → Type 0) → Type 0
  NoClash H F =
      (C : List Fragment) (s0 s r : Substitution) (es : Proofs) → IsSubstitution sig s → Extends s0 s → AreBound (is_bound s0) C → AreRawSides C → H C s es r → ¬ F C s0

  module _ (H : List Fragment → Substitution → Proofs → Substitution → Type 0) (F : List Fragment → Substitution → Type 0) (no_clash : NoClash H F) where
    -- no equation is applied in a normal term: the values of the left side's variables are a solution, whose condition fails
    no_equation : (k : ℕ) (by_rule : Bool) (s : Substitution) (es : Proofs) (t w v u : RawTerm) → IsNormalBy M F t × IsRawTerm sig t →
        Replaces M H F k by_rule s es w v → ByEquations sig by_rule t w v u → ⊥
    no_equation k by_rule s es t w v u (normal, raw) x (st, e) =
        let l : RawTerm = x.statement.left in
        let b : Variable → Bool = λ y. occurs y l in
        let s0 : Substitution = restricted b s in
        let same : (y : Variable) → is_bound s0 y ≡ occurs y l = bound_only b s (binds_each s l (and_parts _ _ (and_parts _ _ x.all_bound).0).0) in
        let i : instance s0 l ≡ instance s l = instance_extended s0 s (restricted-extends b s) l (λ y o. same y ∙ o) in
        let solution : IsSolution sig l st.part [] s0 = record {
          substitution = restricted-substitution sig b s x.substitution;
          extends = λ y t h. cc;
          variables = same;
          matches = subst (λ z. EqualModulo sig z st.part) (x.from ∙ sym i) st.same;
        } in
        no_clash x.statement.fragments s0 s s es x.substitution (restricted-extends b s) (AreBound-same x.statement.fragments (λ y. sym (same y)) (tame.bound k x.statement x.is_there))
        (tame.raw k x.statement x.is_there) x.condition (normal.no_equation st.place st.part st.is_part k x.statement x.is_there (x.rule ∙ e) s0 solution)

    -- and no row
    no_row : (t w v u : RawTerm) → IsNormalBy M F t × IsRawTerm sig t → Row sig (IsNormalBy M F) w v → IsClean sig w → ByEquations sig false t w v u → ⊥
    no_row t w v u (normal, raw) x c (st, e) =
        let raw_part : IsRawTerm sig (plug st.place st.part) = (raw_kept sig wf.accepted st.is_part.equal).0 raw in
        let clean : IsClean sig (plug st.place w) = clean_replaced sig wf.accepted st.place st.part w raw_part st.is_part.clean (back st.same) c in
        normal.no_row st.place w (record { clean = clean; equal = trans st.is_part.equal (in_context st.place (back st.same)) }) (meets x)

    -- so equations lead from a normal term to equal terms only
    stuck : (p : Proof) (u v : RawTerm) → rules p ≡ 0 → IsRawTerm sig u → IsNormalBy M F u → Leads M (ReplacesPart sig) H F [] p u v → EqualModulo sig u v
    stuck p u v h raw normal l =
        led_to_equal M (ByEquations sig) H F (λ t. IsNormalBy M F t × IsRawTerm sig t) (λ t u e q. (normal_equal M F e q.0, (raw_kept sig wf.accepted e).0 q.1)) no_equation no_row p [] u v
        (normal, raw) (by_equations M H F p [] u v h l)

  -- a term is normal by the conditions of its rank
  normal_by : (n : ℕ) (t : RawTerm) → IsNormal M n t → IsNormalBy M (Fails M n) t
  unfolding judgements_with
  normal_by zero t normal = normal
  normal_by (suc n) t normal = normal

  -- equations of rank n lead from a normal term to equal terms only
  abbrev StuckAt : ℕ → Type 0
  StuckAt n = (p : Proof) (u v : RawTerm) → rules p ≡ 0 → IsRawTerm sig u → IsNormal M n u → Proves M n p u v → EqualModulo sig u v

  stuck_at : (n : ℕ) → NoClash (Held M n) (Fails M n) → StuckAt n
  unfolding judgements_with
  stuck_at zero no_clash = stuck _ _ no_clash
  stuck_at (suc n) no_clash = stuck _ _ no_clash

  module _ (confluent : Confluent M) where
    module _ (n : ℕ) (within : n ≤ 63) (stuck_below : StuckAt n) where
      -- what one ground term evaluates to is equal
      ends_equal : (t a b : RawTerm) (p q : Proof) → IsRawTerm sig t → IsTrue (is_ground t) → Evaluates (judgements M n) t p a → Evaluates (judgements M n) t q b → EqualModulo sig a b
      ends_equal t a b p q raw ground x y =
          let (c, d, (u, l, e), (v, k, f), same) = confluent n t a b within raw ground (p, x.proves, x.equational) (q, y.proves, y.equational) in
          let from_a : EqualModulo sig a c = stuck_below u a c e (Proves-raw M wf n p t a x.proves raw).0 x.normal l in
          let from_b : EqualModulo sig b d = stuck_below v b d f (Proves-raw M wf n q t b y.proves raw).0 y.normal k in
          trans from_a (trans same (back from_b))

      kept : (s0 s : Substitution) → Extends s0 s → (x : Variable) → IsTrue (is_bound s0 x) → IsTrue (is_bound s x)
      kept s0 s e x h = let (t, k) = bound_some s0 x h in ap is_some (e x t k)

      -- so is what a side evaluates to, from a substitution and from a part of it
      sides_equal : (s0 s : Substitution) (t a b : RawTerm) (p q : Proof) → IsSubstitution sig s → Extends s0 s → HasOnly (is_bound s0) t → IsRawTerm sig t →
          Evaluates (judgements M n) (instance s t) p a → Evaluates (judgements M n) (instance s0 t) q b → EqualModulo sig a b
      sides_equal s0 s t a b p q is e bound raw x y =
          ends_equal (instance s t) a b p q (instance_raw sig wf.accepted wf.sorted s is raw) (instance_ground sig s is t (λ z o. kept s0 s e z (bound z o))) x
          (subst (λ t. Evaluates (judgements M n) t q b) (instance_extended s0 s e t bound) y)

      -- so no condition of the rank above clashes
      above : NoClash (HoldsAbove M (judgements M n)) (FailsAbove M (judgements M n))
      above [] s0 s r es is e b w h f = f
      above (equal t u ∷ C) s0 s r es is e b w (p, q, rest, a, c, z, x, y, same, h) (p', q', a', c', x', y', f) =
          let left : EqualModulo sig a a' = sides_equal s0 s t a a' p p' is e b.0 (w (equal t u) (inl refl) t (inl refl)) x x' in
          let right : EqualModulo sig c c' = sides_equal s0 s u c c' q q' is e b.1 (w (equal t u) (inl refl) u (inr refl)) y y' in
          ⊎_elim (λ g. g (trans (back left) (trans same right))) (above C s0 s r rest is e b.2 (λ f m. w f (inr m)) h) f
      above (is_true t ∷ C) s0 s r es is e b w (p, rest, a, z, x, truth, h) (p', a', x', f) =
          let ends : EqualModulo sig a a' = sides_equal s0 s t a a' p p' is e b.0 (w (is_true t) (inl refl) t refl) x x' in
          ⊎_elim (λ g. g a truth (back ends)) (above C s0 s r rest is e b.1 (λ f m. w f (inr m)) h) f
      above (has_sort t S ∷ C) s0 s r es is e b w (p, rest, a, z, x, has, h) (p', a', x', f) =
          let ends : EqualModulo sig a a' = sides_equal s0 s t a a' p p' is e b.0 (w (has_sort t S) (inl refl) t refl) x x' in
          ⊎_elim (λ g. g (meets_sort S ends has)) (above C s0 s r rest is e b.1 (λ f m. w f (inr m)) h) f
      above (matches l t ∷ C) s0 s r es is e b w (p, rest, a, q, z, x, sol, h) (p', a', x', f) =
          let ends : EqualModulo sig a a' = sides_equal s0 s t a a' p p' is e b.0 (w (matches l t) (inl refl) t refl) x x' in
          let c : Variable → Bool = λ y. is_bound s0 y || occurs y l in
          let s1 : Substitution = restricted c q in
          let same : (y : Variable) → is_bound s1 y ≡ c y = bound_only c q (λ y o. sol.variables y ∙ more y (or_cases (is_bound s0 y) (occurs y l) o)) in
          let i : instance s1 l ≡ instance q l = instance_extended s1 q (restricted-extends c q) l (λ y o. same y ∙ or_right (is_bound s0 y) (occurs y l) o) in
          let solution : IsSolution sig l a' s0 s1 = record {
            substitution = restricted-substitution sig c q sol.substitution;
            extends = λ y v k. value-restricted c q y ∙ cond-true (c y) (value q y) None (or_left (is_bound s0 y) (occurs y l) (ap is_some k)) ∙ sol.extends y v (e y v k);
            variables = same;
            matches = trans (subst (λ t. EqualModulo sig t a) (sym i) sol.matches) ends;
          } in
          above C s1 q r rest sol.substitution (restricted-extends c q) (AreBound-same C (λ y. sym (same y)) b.1) (λ f m. w f (inr m)) h (f s1 solution)
        where
          more : (y : Variable) → (IsTrue (is_bound s0 y)) ⊎ (IsTrue (occurs y l)) → IsTrue (is_bound s y || occurs y l)
          more y (inl o) = or_left (is_bound s y) (occurs y l) (kept s0 s e y o)
          more y (inr o) = or_right (is_bound s y) (occurs y l) o

    -- at each rank no condition both holds and fails
    pub no_clash : (n : ℕ) → n ≤ 63 → NoClash (Held M n) (Fails M n)
    unfolding judgements_with
    no_clash zero within = λ C s0 s r es is e b w h f. f
    no_clash (suc n) within = above n (omega (arith, within)) (stuck_at n (no_clash n (omega (arith, within))))

    -- a normal term is not reducible
    pub normal_stands : (n : ℕ) → n ≤ 63 → (t : RawTerm) → IsNormal M n t → ¬ IsReducible M n t
    normal_stands n within t normal (by_equation C w part k e is_there equation s r es solution held) =
        no_clash n within e.fragments s s r es solution.substitution (λ x t h. h) (AreBound-same e.fragments (λ x. sym (solution.variables x)) (tame.bound k e is_there)) (tame.raw k e is_there)
        held ((normal_by n t normal).no_equation C w part k e is_there equation s solution)
    normal_stands n within t normal (IsReducible.by_row C w part meets) = (normal_by n t normal).no_row C w part meets

    -- two normal terms to which equations lead from one ground raw term are equal modulo the axioms
    pub one_answer : (n : ℕ) → n ≤ 63 → (t a b : RawTerm) → IsRawTerm sig t → IsTrue (is_ground t) → Reaches M n t a → IsNormal M n a → Reaches M n t b → IsNormal M n b → EqualModulo sig a b
    one_answer n within t a b raw ground (p, x, e) normal_a (q, y, f) normal_b =
        ends_equal n within (stuck_at n (no_clash n within)) t a b p q raw ground (record { proves = x; equational = e; normal = normal_a }) (record { proves = y; equational = f; normal = normal_b })
