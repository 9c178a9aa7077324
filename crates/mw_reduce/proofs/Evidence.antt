-- Evidence for the fragments of a condition, one behind another.
use Rattle.std.specs.Prelude.{◌≡◌, ℕ, suc, List, [], ◌∷◌, ◌++◌, refl}
use Rattle.std.proofs.Common.{sym, subst, ap, ◌∙◌, append_assoc, append-nil}
use Rattle.mw_logic.specs.Term.{RawTerm}
use Rattle.mw_logic.specs.Parts.{nested}
use Rattle.mw_logic.specs.Signature.{Signature}
use Rattle.mw_logic.specs.Substitution.{Substitution, Extends}
use Rattle.mw_logic.specs.Module.{Module, Fragment}
use Rattle.mw_logic.specs.Proof.{Proofs, nil, cons, equality, transitivity}
use Rattle.mw_logic.specs.Judgements.{admitted_judgements}
use Rattle.mw_deduction.specs.Frontier.{together}
use Rattle.mw_deduction.specs.Replay.{Move, Stand, plays, AreMoves, all_sides, begun_sides, beginnings}
use Rattle.mw_deduction.specs.Runs.{Runs, end, another, CarriesAll, SameRuns}
use Rattle.mw_deduction.specs.Stands.{IsStanding}
use Rattle.mw_deduction.proofs.Moves.{plays-append, moves-append}
use Rattle.mw_frames.specs.Redex.{IsWaiting, AreShowing}
use Rattle.mw_reduce.specs.declared.sides.Reduced.{Reduced}
use Rattle.mw_reduce.specs.Evaluations.{deduction_of, proofs_of, starts_of, side_moves, all_moves, AreKept, IsEvidence, IsShown, AreShown}

together_assoc : (ps qs rs : Proofs) → together (together ps qs) rs ≡ together ps (together qs rs)
together_assoc nil qs rs = refl
together_assoc (cons p ps) qs rs = ap (cons p) (together_assoc ps qs rs)

together_nil : (ps : Proofs) → together ps nil ≡ ps
together_nil nil = refl
together_nil (cons p ps) = ap (cons p) (together_nil ps)

pub moves_together : (M : Module) (rs ts : List Reduced) → all_moves M (rs ++ ts) ≡ all_moves M rs ++ all_moves M ts
moves_together M [] ts = refl
moves_together M (r ∷ rs) ts = ap (λ ms. side_moves M r ++ ms) (moves_together M rs ts) ∙ sym (append_assoc (side_moves M r) (all_moves M rs) (all_moves M ts))

pub proofs_together : (M : Module) (n : ℕ) (rs ts : List Reduced) → proofs_of M n (rs ++ ts) ≡ together (proofs_of M n rs) (proofs_of M n ts)
proofs_together M n [] ts = refl
proofs_together M n (r ∷ rs) ts = ap (cons (transitivity equality (deduction_of M n r).proof)) (proofs_together M n rs ts)

pub starts_together : (M : Module) (rs ts : List Reduced) → starts_of M (rs ++ ts) ≡ starts_of M rs ++ starts_of M ts
starts_together M [] ts = refl
starts_together M (r ∷ rs) ts = ap (λ us. nested M.signature r.from ∷ us) (starts_together M rs ts)

kept_together : (M : Module) (n : ℕ) (rs ts : List Reduced) → AreKept M n rs → AreKept M n ts → AreKept M n (rs ++ ts)
kept_together M n [] ts h k = k
kept_together M n (r ∷ rs) ts h k = (h.0, kept_together M n rs ts h.1 k)

no_evidence : (M : Module) (n : ℕ) → IsEvidence M n nil [] []
no_evidence M n = λ S B rank. record {
  waiting = S;
  may = tt;
  plays = refl;
  waits = record { rank = refl; from = refl; opens = refl; hand = refl; entered = refl; done = refl; ready = sym (together_nil S.read.ready) };
  starts = sym (append-nil (beginnings S.sides));
}

more_evidence : (M : Module) (n : ℕ) (es fs : Proofs) (ts us : List RawTerm) (ms ns : List Move) → IsEvidence M n es ts ms → IsEvidence M n fs us ns → IsEvidence M n (together es fs) (ts ++ us) (ms ++ ns)
more_evidence M n es fs ts us ms ns h k = λ S B rank.
    let a = h S B rank in
    let b = k a.waiting B (a.waits.rank ∙ rank) in record {
      waiting = b.waiting;
      may = moves-append M ms ns (S ∷ B) a.may (subst (AreMoves M ns) (sym a.plays) b.may);
      plays = plays-append M ms ns (S ∷ B) ∙ ap (plays M ns) a.plays ∙ b.plays;
      waits = record {
        rank = b.waits.rank ∙ a.waits.rank;
        from = b.waits.from ∙ a.waits.from;
        opens = b.waits.opens ∙ a.waits.opens;
        hand = b.waits.hand ∙ a.waits.hand;
        entered = b.waits.entered ∙ a.waits.entered;
        done = b.waits.done ∙ a.waits.done;
        ready = b.waits.ready ∙ ap (λ ps. together ps fs) a.waits.ready ∙ together_assoc S.read.ready es fs;
      };
      starts = b.starts ∙ ap (λ xs. xs ++ us) a.starts ∙ append_assoc (beginnings S.sides) ts us;
    }

-- sides that are shown, and others behind them
pub none_shown : (M : Module) (n : ℕ) → AreShown M n []
none_shown M n = record { evidence = no_evidence M (suc n); kept = tt }

pub one_shown : (M : Module) (n : ℕ) (t : RawTerm) (r : Reduced) → IsShown M n t r → AreShown M n (r ∷ [])
one_shown M n t r h = record { evidence = subst (IsEvidence M (suc n) (cons (transitivity equality (deduction_of M n r).proof) nil) (starts_of M (r ∷ []))) (sym (append-nil (side_moves M r))) h.evidence; kept = (h.kept, tt) }

pub more_shown : (M : Module) (n : ℕ) (rs ts : List Reduced) → AreShown M n rs → AreShown M n ts → AreShown M n (rs ++ ts)
more_shown M n rs ts h k = record {
  evidence = subst (λ ps. IsEvidence M (suc n) ps (starts_of M (rs ++ ts)) (all_moves M (rs ++ ts))) (sym (proofs_together M n rs ts))
      (subst (λ us. IsEvidence M (suc n) (together (proofs_of M n rs) (proofs_of M n ts)) us (all_moves M (rs ++ ts))) (sym (starts_together M rs ts))
      (subst (IsEvidence M (suc n) (together (proofs_of M n rs) (proofs_of M n ts)) (starts_of M rs ++ starts_of M ts)) (sym (moves_together M rs ts))
      (more_evidence M (suc n) (proofs_of M n rs) (proofs_of M n ts) (starts_of M rs) (starts_of M ts) (all_moves M rs) (all_moves M ts) h.evidence k.evidence)));
  kept = kept_together M n rs ts h.kept k.kept;
}

-- where no evidence waits no side was shown
no_runs : (sig : Signature) (rs : Runs) → SameRuns sig rs end → beginnings rs ≡ []
no_runs sig end h = refl
no_runs sig (another r rs) h = absurd h

pub none_begun : (M : Module) (S : Stand) → IsStanding M S → S.read.ready ≡ nil → beginnings S.sides ≡ []
none_begun M S h ready =
    let none : h.sides ≡ end = subst (λ ps. CarriesAll M.signature ps h.sides) ready h.shown in
    no_runs M.signature S.sides (subst (SameRuns M.signature S.sides) none h.same_sides)

-- for a whole condition
pub evidence_shows : (M : Module) (n : ℕ) (C : List Fragment) (s r : Substitution) (es : Proofs) (ts : List RawTerm) (ms : List Move) → IsEvidence M n es ts ms → (admitted_judgements M n).Held C s es r
    → ((q : Substitution) → Extends r q → ts ≡ begun_sides M.signature q (all_sides C)) → AreShowing M n C s r ms
evidence_shows M n C s r es ts ms h held begins = λ S B standing rank ready.
    let a = h S B rank in record {
      evidence = es;
      waiting = a.waiting;
      may = a.may;
      plays = a.plays;
      waits = subst (λ ps. IsWaiting ps S a.waiting) (ap (λ ps. together ps es) ready) a.waits;
      starts = λ q x. a.starts ∙ ap (λ us. us ++ ts) (none_begun M S standing.0 ready) ∙ begins q x;
      holds = held;
    }
