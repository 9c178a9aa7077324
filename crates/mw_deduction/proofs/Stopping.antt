-- Where the term in hand is replaced: how deep the whole is then, and why a run stops there.
use Rattle.std.specs.Prelude.{◌≡◌, ◌≢◌, ◌⊎◌, ℕ, zero, suc, ◌+◌, ◌≤◌, ◌<◌, List, [], ◌∷◌, ◌++◌, IsTrue, IsFalse}
use Rattle.std.proofs.Common.{sym, subst, ap, ◌∙◌, arith}
use Rattle.mw_logic.specs.Term.{RawTerm, Context, plug}
use Rattle.mw_logic.specs.Signature.{Signature, IsRawTerm}
use Rattle.mw_logic.specs.Axioms.{EqualModulo, done}
use Rattle.mw_logic.specs.Accepted.{IsAccepted}
use Rattle.mw_logic.specs.Substitution.{Substitution, instance, IsSolution}
use Rattle.mw_logic.specs.Parts.{nested, depth, IsTooDeep, IsAdmitted}
use Rattle.mw_logic.specs.NormalForm.{normal_form, height}
use Rattle.mw_logic.specs.Module.{Fragment, Module, Statement, IsStatement}
use Rattle.mw_logic.specs.Proof.{Proof, Proofs, rules, steps}
use Rattle.mw_logic.specs.Judgements.{Judgements, judgements, Proves, Held}
use Rattle.mw_logic.specs.Ends.{Limits, Reason, by_depth, by_condition, by_nest, Tries, NextStep, by_statement, IsSide, StopsBy, Stops, StopsAtOnce, of_side}
use Rattle.mw_logic.proofs.AxiomLaws.{in_context}
use Rattle.mw_logic.proofs.Canonical.{IsCanonical, canonical}
use Rattle.mw_logic.proofs.Invariance.{normal_form-kept}
use Rattle.mw_logic.proofs.Soundness.{normal_form-sound}
use Rattle.mw_logic.proofs.RawKept.{raw_kept}
use Rattle.mw_logic.proofs.Inside.{raw_inside}
use Rattle.mw_logic.proofs.CleanForms.{clean_depth, too_deep-iff}
use Rattle.mw_logic.proofs.Admitted.{admitted-iff}
use Rattle.mw_deduction.specs.Standing.{Open, round, AreClear, IsSeen}
use Rattle.mw_deduction.proofs.Clear.{clear_clean}
use Rattle.mw_deduction.proofs.Depths.{level_in, level_below, level_above}
use Rattle.mw_deduction.proofs.Heights.{height_within, canonical_depth}

module _ (sig : Signature) (ok : IsAccepted sig) (os : List Open) (clear : AreClear sig os) where
  abbrev C : Context
  C = round sig os

  -- how many levels stand round a term in the hole
  abbrev pub levels : RawTerm → ℕ
  levels t = level_in sig C (nested sig t)

  -- Where v comes for t, which is seen, and the whole was admitted, the whole is not too deep where v is not, at its level.
  pub not_deep_after : (t v : RawTerm) → IsCanonical sig t → IsSeen sig os t → IsRawTerm sig (plug C (nested sig t)) → IsAdmitted sig (plug C (nested sig t)) → IsRawTerm sig (plug C v)
      → levels (normal_form sig v) + height (normal_form sig v) ≤ 1000 → ¬ IsTooDeep sig (plug C v)
  not_deep_after t v k seen r a rv h d =
      let v' : RawTerm = normal_form sig v in
      let s : EqualModulo sig v (nested sig v') = normal_form-sound sig ok (raw_inside sig ok C v rv) in
      let q : EqualModulo sig (plug C v) (plug C (nested sig v')) = in_context C s in
      let rq : IsRawTerm sig (plug C (nested sig v')) = (raw_kept sig ok q).0 rv in
      let x : 1000 < height (normal_form sig (plug C v)) = (too_deep-iff sig ok rv).0 d in
      let y : height (normal_form sig (plug C v)) ≡ height (normal_form sig (plug C (nested sig v'))) = ap height (normal_form-kept sig ok q) in
      let z = height_within sig ok (plug C (nested sig v')) rq in
      let w = level_above sig C (nested sig t) (nested sig v') in
      let e : depth sig (plug C (nested sig t)) ≡ height (normal_form sig (plug C (nested sig t))) = clean_depth sig ok r (record { clean = clear_clean sig ok os t clear k seen; equal = done }) in
      let b = ((admitted-iff sig ok r).0 a).1 in
      let f : depth sig (nested sig v') ≡ height v' = canonical_depth sig ok v' (canonical sig ok v) ((raw_kept sig ok s).0 (raw_inside sig ok C v rv)) in
      omega (arith, x, y, z, w, e, b, f, h)

  -- and it is too deep where v is, and seen
  pub deep_after : (v : RawTerm) → IsSeen sig os (normal_form sig v) → IsRawTerm sig (plug C v) → 1000 < levels (normal_form sig v) + height (normal_form sig v) → IsTooDeep sig (plug C v)
  deep_after v seen rv h =
      let v' : RawTerm = normal_form sig v in
      let s : EqualModulo sig v (nested sig v') = normal_form-sound sig ok (raw_inside sig ok C v rv) in
      let f : depth sig (nested sig v') ≡ height v' = canonical_depth sig ok v' (canonical sig ok v) ((raw_kept sig ok s).0 (raw_inside sig ok C v rv)) in
      let l = level_below sig C (nested sig v') in
      record { form = plug C (nested sig v'); clean = record { clean = clear_clean sig ok os v' clear (canonical sig ok v) seen; equal = in_context C s }; deep = omega (arith, h, f, l) }

module _ (M : Module) (ok : IsAccepted M.signature) (n : ℕ) (limits : Limits) (t0 : RawTerm) (p : Proof) (u : RawTerm) (os : List Open) (t : RawTerm)
    (clear : AreClear M.signature os) (k : IsCanonical M.signature t) (seen : IsSeen M.signature os t) (is : EqualModulo M.signature u (plug (round M.signature os) (nested M.signature t))) where
  -- an equation with a solution for the term in hand is a next try
  pub tries_here : (J : Judgements) (number : ℕ) (e : Statement) → IsStatement M number e → IsFalse e.rule → (IsTrue e.owise → J.Plain (nested M.signature t)) → (s : Substitution) → IsSolution M.signature e.left (nested M.signature t) [] s
      → Tries M J limits p u (round M.signature os) e s
  tries_here J number e there equation plain s sol = record {
    part = nested M.signature t;
    is_part = record { clean = clear_clean M.signature ok os t clear k seen; equal = is };
    number = number;
    is_there = there;
    solution = sol;
    may = Rattle.std.proofs.Common.inl (equation, plain);
  }

  pub stops_by_depth : Proves M n p t0 u → steps p < limits.most → (e : Statement) (s r : Substitution) (es : Proofs) → Tries M (judgements M n) limits p u (round M.signature os) e s → Held M n e.fragments s es r
      → IsRawTerm M.signature (plug (round M.signature os) (instance r e.right)) → IsSeen M.signature os (normal_form M.signature (instance r e.right))
      → 1000 < level_in M.signature (round M.signature os) (nested M.signature (normal_form M.signature (instance r e.right))) + height (normal_form M.signature (instance r e.right))
      → Stops M n limits t0 p u by_depth
  unfolding Stops
  stops_by_depth proves below e s r es tries held raw visible deep = by_rank n proves (by_statement (round M.signature os) e s r es tries held)
    where
      d : IsTooDeep M.signature (plug (round M.signature os) (instance r e.right))
      d = deep_after M.signature ok os clear (instance r e.right) visible raw deep

      by_rank : (n : ℕ) → Proves M n p t0 u → NextStep M (judgements M n) limits p u (plug (round M.signature os) (instance r e.right)) → Stops M n limits t0 p u by_depth
      by_rank zero q x = StopsBy.depth _ (q, below) x d
      by_rank (suc n) q x = StopsBy.depth _ (q, below) x d

  -- no rank is left for a condition
  pub stops_by_nest : n ≡ 0 → Proves M n p t0 u → steps p < limits.most → (e : Statement) (s : Substitution) → Tries M (judgements M n) limits p u (round M.signature os) e s → e.fragments ≢ [] → Stops M n limits t0 p u by_nest
  unfolding Stops
  stops_by_nest z proves below e s tries conditional = by_rank n z proves tries
    where
      by_rank : (n : ℕ) → n ≡ 0 → Proves M n p t0 u → Tries M (judgements M n) limits p u (round M.signature os) e s → Stops M n limits t0 p u by_nest
      by_rank zero z q x = StopsBy.nest (round M.signature os) e s (q, below) tt x conditional
      by_rank (suc n) z q x = absurd (omega (arith, z))

-- A side of a condition stops, where what stands before it holds.
pub stops_by_condition : (M : Module) (n : ℕ) (limits : Limits) (t0 : RawTerm) (p : Proof) (u : RawTerm) (C : Context) → Proves M (suc n) p t0 u → steps p < limits.most
    → (e : Statement) (s r : Substitution) (held rest : List Fragment) (f : Fragment) (es : Proofs) (side : RawTerm) → Tries M (judgements M (suc n)) limits p u C e s → e.fragments ≡ held ++ f ∷ rest → Held M (suc n) held s es r → IsSide f side
    → (q : Proof) (v : RawTerm) (why : Reason) → (StopsAtOnce M (instance r side) why ⊎ (IsAdmitted M.signature (instance r side) × (rules q ≡ 0) × Stops M n (of_side limits) (instance r side) q v why))
    → Stops M (suc n) limits t0 p u by_condition
unfolding Stops
stops_by_condition M n limits t0 p u C proves below e s r held rest f es side tries split holds of q v why stops = StopsBy.condition C e s r held rest f es side (proves, below) tries split holds of (q, v, why, stops)
