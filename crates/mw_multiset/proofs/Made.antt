-- Moves that are made: behind others, and in higher ranks.
use Rattle.std.specs.Prelude.{◌≡◌, ◌≤◌, ℕ, List, [], ◌∷◌, ◌++◌, refl}
use Rattle.std.proofs.Common.{sym, ap, ◌∙◌, subst}
use Rattle.mw_logic.specs.Term.{RawTerm}
use Rattle.mw_logic.specs.Signature.{Signature}
use Rattle.mw_logic.specs.Accepted.{IsAccepted}
use Rattle.mw_logic.specs.Parts.{nested}
use Rattle.mw_logic.specs.Module.{Module}
use Rattle.mw_logic.specs.Judgements.{Proves, admitted_judgements}
use Rattle.mw_logic.proofs.Canonical.{IsCanonical, canonical}
use Rattle.mw_logic.proofs.CanonicalTerms.{fixed}
use Rattle.mw_canon.specs.Canonical.{IsAdmittedTerm}
use Rattle.mw_deduction.specs.Runs.{both, run, Denotes}
use Rattle.mw_deduction.specs.Replay.{Move, Stand, begun, plays, AreMoves, concluded}
use Rattle.mw_deduction.specs.Stands.{IsStanding, AreStanding}
use Rattle.mw_deduction.specs.Above.{IsRaised, Above}
use Rattle.mw_deduction.specs.Joined.{behind_stand, IsAtRest}
use Rattle.mw_deduction.proofs.Moves.{plays-append, moves-append}
use Rattle.mw_deduction.proofs.MovesAbove.{moves_above}
use Rattle.mw_deduction.proofs.MoveStands.{begun_stands, moves_stand}
use Rattle.mw_deduction.proofs.Concluding.{IsOutermostOf, played_of, concludes}
use Rattle.mw_deduction.proofs.Joined.{at_rest, joined}
use Rattle.mw_multiset.specs.Receipts.{IsMade, first_of, run_of}

-- what made moves prove
pub record Concluded (M : Module) (n : ℕ) (t u : RawTerm) (ms : List Move) : Type 0 where
  pub proves : Proves M n (concluded (first_of (plays M ms (begun n t ∷ [])))) (nested M.signature t) (nested M.signature u)
  pub admitted : (admitted_judgements M n).Proves (concluded (first_of (plays M ms (begun n t ∷ [])))) (nested M.signature t) (nested M.signature u)
  pub denotes : Denotes M.signature (run (nested M.signature t) (nested M.signature u) (run_of M n t ms)) (concluded (first_of (plays M ms (begun n t ∷ []))))
  pub ends : IsAdmittedTerm M.signature u

module _ (M : Module) (ok : IsAccepted M.signature) where
  abbrev sig : Signature
  sig = M.signature

  pub starts : (n : ℕ) (t : RawTerm) → IsAdmittedTerm sig t → IsStanding M (begun n t)
  starts n t h = begun_stands M ok n t (subst (IsCanonical sig) h.canonical (canonical sig ok (nested sig t))) h.raw h.admitted

  pub made_concludes : (n : ℕ) (t u : RawTerm) (ms : List Move) → IsMade M n t u ms → Concluded M n t u ms
  made_concludes n t u ms h =
      let (p, q, d, c, w, v) = concludes M ok ms n t h.last h.made (starts n t h.begins) h.stands h.closed in
      let e : h.last ≡ first_of (plays M ms (begun n t ∷ [])) = ap first_of (sym h.stands) in
      record {
        proves = subst (λ T. Proves M n (concluded T) (nested sig t) (nested sig u)) e (subst (λ x. Proves M n (concluded h.last) (nested sig t) (nested sig x)) h.reaches q);
        admitted = subst (λ T. (admitted_judgements M n).Proves (concluded T) (nested sig t) (nested sig u)) e (subst (λ x. (admitted_judgements M n).Proves (concluded h.last) (nested sig t) (nested sig x)) h.reaches p);
        denotes = subst (λ T. Denotes sig (run (nested sig t) (nested sig u) T.run) (concluded T)) e (subst (λ x. Denotes sig (run (nested sig t) (nested sig x) h.last.run) (concluded h.last)) h.reaches d);
        ends = subst (IsAdmittedTerm sig) h.reaches (record { raw = w; canonical = fixed sig ok h.last.hand c; admitted = v });
      }

  -- nothing is made
  pub made_nothing : (n : ℕ) (t : RawTerm) → n ≤ 63 → IsAdmittedTerm sig t → IsMade M n t t []
  made_nothing n t low h = record { low = low; begins = h; made = tt; last = begun n t; stands = refl; closed = refl; used = refl; reaches = refl }

  -- where they end nothing is under way
  pub rests : (n : ℕ) (t u : RawTerm) (ms : List Move) (h : IsMade M n t u ms) → IsAtRest sig [] h.last × (h.last.rank ≡ n)
  rests n t u ms h =
      let (s, x) = subst (AreStanding M) h.stands (moves_stand M ok ms (begun n t ∷ []) (starts n t h.begins, tt) h.made) in
      let (r, f) = subst (IsOutermostOf n t) h.stands (played_of M ms n t (begun n t ∷ []) (refl, refl)) in
      (at_rest M [] h.last s h.closed h.used, r)

  -- one after another
  module _ (n : ℕ) (t u v : RawTerm) (ms ns : List Move) (h : IsMade M n t u ms) (g : IsMade M n u v ns) where
    behind : AreMoves M ns (h.last ∷ []) × (plays M ns (h.last ∷ []) ≡ behind_stand h.last g.last ∷ [])
    behind = let (r, i) = rests n t u ms h in joined M ns n u h.last g.last r i h.reaches g.made g.stands

    ends_behind : plays M (ms ++ ns) (begun n t ∷ []) ≡ behind_stand h.last g.last ∷ []
    ends_behind = plays-append M ms ns (begun n t ∷ []) ∙ ap (plays M ns) h.stands ∙ behind.1

    pub made_then : IsMade M n t v (ms ++ ns)
    made_then = record {
      low = h.low;
      begins = h.begins;
      made = moves-append M ms ns (begun n t ∷ []) h.made (subst (AreMoves M ns) (sym h.stands) behind.0);
      last = behind_stand h.last g.last;
      stands = ends_behind;
      closed = g.closed;
      used = g.used;
      reaches = g.reaches;
    }

    pub run_then : run_of M n t (ms ++ ns) ≡ both (run_of M n t ms) (run_of M n u ns)
    run_then = ap (λ B. (first_of B).run) ends_behind ∙ ap (λ B. both (first_of B).run g.last.run) (sym h.stands) ∙ ap (λ B. both (run_of M n t ms) (first_of B).run) (sym g.stands)

-- what is made in a rank is made in each above it, and carries out the same
one_above : (S : Stand) (C : List Stand) → Above (S ∷ []) C → (Q : Stand) × (C ≡ Q ∷ []) × IsRaised S Q
one_above S [] h = absurd h
one_above S (Q ∷ []) h = (Q, refl, h.0)
one_above S (Q ∷ P ∷ C) h = absurd h.1

pub made_above : (M : Module) (n m : ℕ) (t u : RawTerm) (ms : List Move) → n ≤ m → m ≤ 63 → IsMade M n t u ms → IsMade M m t u ms × (run_of M m t ms ≡ run_of M n t ms)
made_above M n m t u ms l low h =
    let (a, b) = moves_above M ms (begun n t ∷ []) (begun m t ∷ []) h.made ((l, refl), tt) in
    let (Q, e, r) = one_above h.last (plays M ms (begun m t ∷ [])) (subst (λ B. Above B (plays M ms (begun m t ∷ []))) h.stands b) in (
      record {
        low = low;
        begins = h.begins;
        made = a;
        last = Q;
        stands = e;
        closed = ap (λ (S : Stand). S.opens) r.1 ∙ h.closed;
        used = ap (λ (S : Stand). S.read.ready) r.1 ∙ h.used;
        reaches = ap (λ (S : Stand). S.hand) r.1 ∙ h.reaches;
      },
      ap (λ B. (first_of B).run) e ∙ ap (λ (S : Stand). S.run) r.1 ∙ ap (λ B. (first_of B).run) (sym h.stands),
    )
