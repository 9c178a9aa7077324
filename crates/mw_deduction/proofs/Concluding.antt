-- What moves from one term on prove.
use Rattle.std.specs.Prelude.{◌≡◌, ℕ, zero, suc, List, [], ◌∷◌, refl}
use Rattle.std.proofs.Common.{sym, subst}
use Rattle.mw_logic.specs.Term.{RawTerm, numeral, quoted, variable, apply}
use Rattle.mw_logic.specs.Signature.{Signature, IsRawTerm}
use Rattle.mw_logic.specs.Axioms.{done}
use Rattle.mw_logic.specs.Accepted.{IsAccepted}
use Rattle.mw_logic.specs.Parts.{nested, IsAdmitted}
use Rattle.mw_logic.specs.Module.{Module}
use Rattle.mw_logic.specs.Proof.{Proof, replacement, row}
use Rattle.mw_logic.specs.Judgements.{AdmittedStep, Leads, Proves, judgements_with, admitted_judgements}
use Rattle.mw_logic.proofs.Canonical.{IsCanonical}
use Rattle.mw_logic.proofs.Ranks.{Proves-admitted}
use Rattle.mw_deduction.specs.Standing.{Open}
use Rattle.mw_deduction.specs.Runs.{by_statement, by_row, none, run, Denotes}
use Rattle.mw_deduction.specs.Replay.{Move, into, among, out, begins, ends, applies, meets, Stand, begun, into_argument, into_several, going_out, replacing, becomes, showing, play, plays, AreMoves, concluded}
use Rattle.mw_deduction.specs.Stands.{IsStanding, AreStanding}
use Rattle.mw_deduction.proofs.Carrying.{both_none}
use Rattle.mw_deduction.proofs.MoveStands.{with_opens, moves_stand}

-- the rank and the beginning stay
abbrev IsOf : ℕ → RawTerm → Stand → Type 0
IsOf n t S = (S.rank ≡ n) × (S.from ≡ t)

-- those of the outermost
abbrev pub IsOutermostOf : ℕ → RawTerm → List Stand → Type 0
IsOutermostOf n t [] = ⊥
IsOutermostOf n t (S ∷ []) = IsOf n t S
IsOutermostOf n t (S ∷ Q ∷ B) = IsOutermostOf n t (Q ∷ B)

into_of : (sig : Signature) (i : ℕ) (u : RawTerm) (n : ℕ) (t : RawTerm) (S : Stand) → IsOf n t S → IsOf n t (into_argument sig i u S)
into_of sig i (numeral m) n t S h = h
into_of sig i (quoted q) n t S h = h
into_of sig i (variable x) n t S h = h
into_of sig i (apply f ts) n t S h = h

among_of : (sig : Signature) (ks : List ℕ) (u : RawTerm) (n : ℕ) (t : RawTerm) (S : Stand) → IsOf n t S → IsOf n t (into_several sig ks u S)
among_of sig [] u n t S h = h
among_of sig (k ∷ ks) (numeral m) n t S h = h
among_of sig (k ∷ ks) (quoted q) n t S h = h
among_of sig (k ∷ ks) (variable x) n t S h = h
among_of sig (k ∷ ks) (apply f ts) n t S h = h

out_of : (sig : Signature) (os : List Open) (n : ℕ) (t : RawTerm) (S : Stand) → IsOf n t S → IsOf n t (going_out sig os S)
out_of sig [] n t S h = h
out_of sig (o ∷ os) n t S h = h

instead : (n : ℕ) (t : RawTerm) (S Q : Stand) (B : List Stand) → (IsOf n t S → IsOf n t Q) → IsOutermostOf n t (S ∷ B) → IsOutermostOf n t (Q ∷ B)
instead n t S Q [] k h = k h
instead n t S Q (P ∷ B) k h = h

pub outermost_of : (M : Module) (m : Move) (n : ℕ) (t : RawTerm) (B : List Stand) → IsOutermostOf n t B → IsOutermostOf n t (play M m B)
outermost_of M m n t [] h = absurd h
outermost_of M (into i) n t (S ∷ B) h = instead n t S (into_argument M.signature i S.hand S) B (into_of M.signature i S.hand n t S) h
outermost_of M (among ks) n t (S ∷ B) h = instead n t S (into_several M.signature ks S.hand S) B (among_of M.signature ks S.hand n t S) h
outermost_of M out n t (S ∷ B) h = instead n t S (going_out M.signature S.opens S) B (out_of M.signature S.opens n t S) h
outermost_of M (begins u) n t (S ∷ B) h = h
outermost_of M ends n t (S ∷ []) h = h
outermost_of M ends n t (S ∷ Q ∷ B) h = instead n t Q (showing M.signature S Q) B (λ k. k) h
outermost_of M (applies k r s vs) n t (S ∷ B) h = instead n t S (replacing M.signature (replacement k r s S.read.ready) (by_statement k s S.sides) (becomes M k s S.hand) S) B (λ k. k) h
outermost_of M (meets u) n t (S ∷ B) h = instead n t S (replacing M.signature row by_row u S) B (λ k. k) h

pub played_of : (M : Module) (ms : List Move) (n : ℕ) (t : RawTerm) (B : List Stand) → IsOutermostOf n t B → IsOutermostOf n t (plays M ms B)
played_of M [] n t B h = h
played_of M (m ∷ ms) n t B h = played_of M ms n t (play M m B) (outermost_of M m n t B h)

-- what leads at a rank is proved there
Proves_led : (M : Module) (n : ℕ) (p : Proof) (t u : RawTerm) → Leads M (AdmittedStep M) (admitted_judgements M n).Held (admitted_judgements M n).Fails [] p t u → (admitted_judgements M n).Proves p t u
unfolding judgements_with
Proves_led M zero p t u l = l
Proves_led M (suc n) p t u l = l

module _ (M : Module) (ok : IsAccepted M.signature) where
  abbrev sig : Signature
  sig = M.signature

  -- of a stand outside its operators: its proof, and the run that this carries out
  pub stand_concludes : (T : Stand) → IsStanding M (with_opens T [])
      → (admitted_judgements M T.rank).Proves (concluded T) (nested sig T.from) (nested sig T.hand)
      × Proves M T.rank (concluded T) (nested sig T.from) (nested sig T.hand)
      × Denotes sig (run (nested sig T.from) (nested sig T.hand) T.run) (concluded T)
      × IsCanonical sig T.hand
      × IsRawTerm sig (nested sig T.hand)
      × IsAdmitted sig (nested sig T.hand)
  stand_concludes T h =
      let p = Proves_led M T.rank (concluded T) (nested sig T.from) (nested sig T.hand) (h.at.whole, h.at.leads, h.at.is) in (
        p,
        Proves-admitted M T.rank (concluded T) (nested sig T.from) (nested sig T.hand) p,
        record {
          from = nested sig T.from;
          to = nested sig T.hand;
          done = h.done;
          carries = (h.at.whole, h.done, none, sym (both_none h.done), h.carries, (h.at.is, refl));
          same = (done, done, h.same);
        },
        h.at.canonical,
        h.at.raw,
        h.at.admitted,
      )

  pub concludes : (ms : List Move) (n : ℕ) (t : RawTerm) (T : Stand) → AreMoves M ms (begun n t ∷ []) → IsStanding M (begun n t) → plays M ms (begun n t ∷ []) ≡ T ∷ [] → T.opens ≡ []
      → (admitted_judgements M n).Proves (concluded T) (nested sig t) (nested sig T.hand)
      × Proves M n (concluded T) (nested sig t) (nested sig T.hand)
      × Denotes sig (run (nested sig t) (nested sig T.hand) T.run) (concluded T)
      × IsCanonical sig T.hand
      × IsRawTerm sig (nested sig T.hand)
      × IsAdmitted sig (nested sig T.hand)
  concludes ms n t T a b e o =
      let (h, x) = subst (AreStanding M) e (moves_stand M ok ms (begun n t ∷ []) (b, tt) a) in
      let (r, f) = subst (IsOutermostOf n t) e (played_of M ms n t (begun n t ∷ []) (refl, refl)) in
      let (p, q, d, k, w, v) = stand_concludes T (subst (λ os. IsStanding M (with_opens T os)) o h) in (
        subst (λ m. (admitted_judgements M m).Proves (concluded T) (nested sig t) (nested sig T.hand)) r (subst (λ u. (admitted_judgements M T.rank).Proves (concluded T) (nested sig u) (nested sig T.hand)) f p),
        subst (λ m. Proves M m (concluded T) (nested sig t) (nested sig T.hand)) r (subst (λ u. Proves M T.rank (concluded T) (nested sig u) (nested sig T.hand)) f q),
        subst (λ u. Denotes sig (run (nested sig u) (nested sig T.hand) T.run) (concluded T)) f d,
        k,
        w,
        v,
      )
