-- What is kept proves what it says, and is kept behind another.
use Rattle.std.specs.Prelude.{◌≡◌, ◌≤◌, ◌+◌, ℕ, max, List, [], ◌∷◌, ◌++◌, refl}
use Rattle.std.proofs.Common.{sym, ap, ◌∙◌, subst, arith}
use Rattle.mw_logic.specs.Term.{RawTerm}
use Rattle.mw_logic.specs.Signature.{Signature}
use Rattle.mw_logic.specs.Accepted.{IsAccepted}
use Rattle.mw_logic.specs.Parts.{nested}
use Rattle.mw_logic.specs.Module.{Module}
use Rattle.mw_logic.specs.Proof.{count, steps, rules, count_of}
use Rattle.mw_logic.specs.Judgements.{Proves, admitted_judgements}
use Rattle.mw_logic.proofs.Canonical.{IsCanonical, canonical}
use Rattle.mw_logic.proofs.CanonicalTerms.{fixed}
use Rattle.mw_canon.specs.Canonical.{IsAdmittedTerm}
use Rattle.mw_deduction.specs.Runs.{both, none, run, Denotes}
use Rattle.mw_deduction.specs.Replay.{Stand, begun, plays, AreMoves, concluded, replacements}
use Rattle.mw_deduction.specs.Stands.{IsStanding, AreStanding}
use Rattle.mw_deduction.specs.Above.{ranked, IsRaised, Above}
use Rattle.mw_deduction.specs.Joined.{behind_stand, IsAtRest}
use Rattle.mw_deduction.proofs.Joining.{counts-append}
use Rattle.mw_deduction.proofs.Counts.{counts_played}
use Rattle.mw_deduction.proofs.Moves.{plays-append, moves-append}
use Rattle.mw_deduction.proofs.MovesAbove.{moves_above}
use Rattle.mw_deduction.proofs.MoveStands.{begun_stands, moves_stand}
use Rattle.mw_deduction.proofs.Concluding.{IsOutermostOf, played_of, concludes}
use Rattle.mw_deduction.proofs.Joined.{at_rest, joined}
use Rattle.mw_trail.specs.Tracks.{Track, moves}
use Rattle.mw_proof.specs.declared.counting.Counts.{Counts}
use Rattle.mw_proof.specs.Counting.{capped, AreCounts}
use Rattle.mw_proof.specs.Deductions.{IsDeduction, first_of, end_of, deduced, IsKept}

-- what is counted is counted of the proof
pub counts_kept : (M : Module) (n : ℕ) (t u : RawTerm) (k : Track) (c : Counts) → IsKept M n t u k → AreCounts M k c
    → (c.count ≡ capped (count (concluded (end_of M n t k)))) × (c.steps ≡ capped (steps (concluded (end_of M n t k)))) × (c.rules ≡ capped (rules (concluded (end_of M n t k))))
counts_kept M n t u k c h a =
    let (x, y, z) = counts_played M (moves M k) n t h.last h.made h.stands in
    let e : concluded h.last ≡ concluded (end_of M n t k) = ap (λ B. concluded (first_of B)) (sym h.stands) in
    let w : count_of h.last.read.ready ≡ 0 = ap count_of h.used in
    let all : count (concluded h.last) ≡ replacements (moves M k) = omega (arith, z, w) in (
      a.all ∙ ap capped (sym all ∙ ap count e),
      a.outer ∙ ap capped (sym x ∙ ap steps e),
      a.by_rules ∙ ap capped (sym y ∙ ap rules e),
    )

-- a term leads to itself
pub kept_itself : (M : Module) (n : ℕ) (t : RawTerm) (k : Track) → n ≤ 63 → IsAdmittedTerm M.signature t → moves M k ≡ [] → IsKept M n t t k × ((end_of M n t k).run ≡ none)
kept_itself M n t k low h e = (
  record {
    low = low;
    begins = h;
    made = subst (λ ms. AreMoves M ms (begun n t ∷ [])) (sym e) tt;
    last = begun n t;
    stands = ap (λ ms. plays M ms (begun n t ∷ [])) e;
    closed = refl;
    used = refl;
    reaches = refl;
  },
  ap (λ ms. (first_of (plays M ms (begun n t ∷ []))).run) e,
)

module _ (M : Module) (ok : IsAccepted M.signature) where
  abbrev sig : Signature
  sig = M.signature

  starts : (n : ℕ) (t : RawTerm) → IsAdmittedTerm sig t → IsStanding M (begun n t)
  starts n t h = begun_stands M ok n t (subst (IsCanonical sig) h.canonical (canonical sig ok (nested sig t))) h.raw h.admitted

  pub deduction_kept : (n : ℕ) (t u : RawTerm) (k : Track) → IsKept M n t u k → IsDeduction (deduced M n t u k)
  deduction_kept n t u k h =
      let (p, q, d, c, w, v) = concludes M ok (moves M k) n t h.last h.made (starts n t h.begins) h.stands h.closed in
      let e : h.last ≡ end_of M n t k = ap first_of (sym h.stands) in
      record {
        low = h.low;
        proves = subst (λ T. Proves M n (concluded T) (nested sig t) (nested sig u)) e (subst (λ x. Proves M n (concluded h.last) (nested sig t) (nested sig x)) h.reaches q);
        admitted = subst (λ T. (admitted_judgements M n).Proves (concluded T) (nested sig t) (nested sig u)) e (subst (λ x. (admitted_judgements M n).Proves (concluded h.last) (nested sig t) (nested sig x)) h.reaches p);
        denotes = subst (λ T. Denotes sig (run (nested sig t) (nested sig u) T.run) (concluded T)) e (subst (λ x. Denotes sig (run (nested sig t) (nested sig x) h.last.run) (concluded h.last)) h.reaches d);
        begins = h.begins;
        ends = subst (IsAdmittedTerm sig) h.reaches (record { raw = w; canonical = fixed sig ok h.last.hand c; admitted = v });
      }

  -- where it ends nothing is under way
  rests : (n : ℕ) (t u : RawTerm) (k : Track) (h : IsKept M n t u k) → IsAtRest sig [] h.last × (h.last.rank ≡ n)
  rests n t u k h =
      let (s, x) = subst (AreStanding M) h.stands (moves_stand M ok (moves M k) (begun n t ∷ []) (starts n t h.begins, tt) h.made) in
      let (r, f) = subst (IsOutermostOf n t) h.stands (played_of M (moves M k) n t (begun n t ∷ []) (refl, refl)) in
      (at_rest M [] h.last s h.closed h.used, r)

  module _ (n : ℕ) (t u v : RawTerm) (k l m : Track) (h : IsKept M n t u k) (g : IsKept M n u v l) (e : moves M m ≡ moves M k ++ moves M l) where
    behind : AreMoves M (moves M l) (h.last ∷ []) × (plays M (moves M l) (h.last ∷ []) ≡ behind_stand h.last g.last ∷ [])
    behind = let (r, i) = rests n t u k h in joined M (moves M l) n u h.last g.last r i h.reaches g.made g.stands

    ends_behind : plays M (moves M m) (begun n t ∷ []) ≡ behind_stand h.last g.last ∷ []
    ends_behind = ap (λ ms. plays M ms (begun n t ∷ [])) e ∙ plays-append M (moves M k) (moves M l) (begun n t ∷ []) ∙ ap (plays M (moves M l)) h.stands ∙ behind.1

    pub kept_then : IsKept M n t v m
    kept_then = record {
      low = h.low;
      begins = h.begins;
      made = subst (λ ms. AreMoves M ms (begun n t ∷ [])) (sym e) (moves-append M (moves M k) (moves M l) (begun n t ∷ []) h.made (subst (AreMoves M (moves M l)) (sym h.stands) behind.0));
      last = behind_stand h.last g.last;
      stands = ends_behind;
      closed = g.closed;
      used = g.used;
      reaches = g.reaches;
    }

    pub run_then : (end_of M n t m).run ≡ both (end_of M n t k).run (end_of M n u l).run
    run_then = ap (λ B. (first_of B).run) ends_behind ∙ ap (λ B. both (first_of B).run g.last.run) (sym h.stands) ∙ ap (λ B. both (end_of M n t k).run (first_of B).run) (sym g.stands)

    pub counts_then : (a b c : Counts) → AreCounts M k a → AreCounts M l b → c.count ≡ capped (a.count + b.count) → c.steps ≡ capped (a.steps + b.steps) → c.rules ≡ capped (a.rules + b.rules) → AreCounts M m c
    counts_then a b c p q x y z =
        let (k0, k1, k2) = counts_played M (moves M k) n t h.last h.made h.stands in
        let (l0, l1, l2) = counts_played M (moves M l) n u g.last g.made g.stands in
        let (m0, m1, m2) = counts_played M (moves M m) n t (behind_stand h.last g.last) kept_then.made ends_behind in
        let (r, s, q0) = counts-append h.last.read.done g.last.read.done in
        let i : count_of h.last.read.ready ≡ 0 = ap count_of h.used in
        let a0 = p.all in let a1 = p.outer in let a2 = p.by_rules in
        let b0 = q.all in let b1 = q.outer in let b2 = q.by_rules in
        record { all = omega (arith, k2, l2, m2, q0, i, a0, b0, x); outer = omega (arith, k0, l0, m0, s, a1, b1, y); by_rules = omega (arith, k1, l1, m1, r, a2, b2, z) }

-- what is kept in a rank is kept in each above it, with the same proof and run
one_above : (S : Stand) (C : List Stand) → Above (S ∷ []) C → (Q : Stand) × (C ≡ Q ∷ []) × IsRaised S Q
one_above S [] h = absurd h
one_above S (Q ∷ []) h = (Q, refl, h.0)
one_above S (Q ∷ P ∷ C) h = absurd h.1

pub kept_above : (M : Module) (n m : ℕ) (t u : RawTerm) (k : Track) → n ≤ m → m ≤ 63 → IsKept M n t u k → IsKept M m t u k × ((i : ℕ) × (end_of M m t k ≡ ranked i (end_of M n t k)))
kept_above M n m t u k l low h =
    let (a, b) = moves_above M (moves M k) (begun n t ∷ []) (begun m t ∷ []) h.made ((l, refl), tt) in
    let (Q, e, r) = one_above h.last (plays M (moves M k) (begun m t ∷ [])) (subst (λ B. Above B (plays M (moves M k) (begun m t ∷ []))) h.stands b) in (
      record {
        low = low;
        begins = h.begins;
        made = a;
        last = Q;
        stands = e;
        closed = ap (λ (S : Stand). S.opens) r.1 ∙ h.closed;
        used = ap (λ (S : Stand). S.read.ready) r.1 ∙ h.used;
        reaches = ap (λ (S : Stand). S.hand) r.1 ∙ h.reaches;
      },
      (Q.rank, ap first_of e ∙ r.1 ∙ ap (λ B. ranked Q.rank (first_of B)) (sym h.stands)),
    )

-- the same of a second one whose module and beginning are those that the first one has, in the higher one of their ranks
pub both_kept : (M N : Module) → IsAccepted M.signature → (i j r : ℕ) (t u w v : RawTerm) (k l m : Track) (a b c : Counts) → r ≡ max i j → M ≡ N → u ≡ w → IsKept M i t u k × AreCounts M k a → IsKept N j w v l × AreCounts N l b
    → moves M m ≡ moves M k ++ moves M l → c.count ≡ capped (a.count + b.count) → c.steps ≡ capped (a.steps + b.steps) → c.rules ≡ capped (a.rules + b.rules)
    → (IsKept M r t v m × AreCounts M m c) × ((end_of M r t m).run ≡ both (end_of M i t k).run (end_of N j w l).run)
both_kept M N ok i j r t u w v k l m a b c highest e f (h, p) (g, q) is x y z =
    let hl = h.low in let gl = g.low in
    let low : r ≤ 63 = omega (arith, highest, hl, gl) in
    let first : i ≤ r = omega (arith, highest) in
    let second : j ≤ r = omega (arith, highest) in
    let (h0, s0) = kept_above M i r t u k first low h in
    let run0 : (end_of M r t k).run ≡ (end_of M i t k).run = ap (λ (S : Stand). S.run) s0.1 in
    let (g0, r0) = kept_above N j r w v l second low g in
    let run1 : (end_of N r w l).run ≡ (end_of N j w l).run = ap (λ (S : Stand). S.run) r0.1 in
    let IsIt : Module → Type 0 = λ X. IsKept X r w v l × AreCounts X l b × ((end_of X r w l).run ≡ (end_of N j w l).run) in
    let (g1, q1, r1) = subst IsIt (sym e) (g0, q, run1) in
    let IsHere : RawTerm → Type 0 = λ x. IsKept M r x v l × ((end_of M r x l).run ≡ (end_of N j w l).run) in
    let (g2, r2) = subst IsHere (sym f) (g1, r1) in (
      (kept_then M ok r t u v k l m h0 g2 is, counts_then M ok r t u v k l m h0 g2 is a b c p q1 x y z),
      run_then M ok r t u v k l m h0 g2 is ∙ ap (λ d. both d (end_of M r u l).run) run0 ∙ ap (both (end_of M i t k).run) r2,
    )
