-- What may be done in a rank may be done in each above it.
use Rattle.std.specs.Prelude.{◌≤◌, ◌-◌, ℕ, List, [], ◌∷◌, Bool, refl}
use Rattle.std.proofs.Common.{sym, subst, arith}
use Rattle.mw_logic.specs.Term.{RawTerm, numeral, quoted, variable, apply}
use Rattle.mw_logic.specs.Signature.{Signature}
use Rattle.mw_logic.specs.Substitution.{Substitution}
use Rattle.mw_logic.specs.Module.{Module}
use Rattle.mw_logic.specs.Judgements.{AdmittedStep, admitted_judgements}
use Rattle.mw_logic.proofs.Ranks.{Within, within_above, row_within, normal, replaces}
use Rattle.mw_deduction.specs.Standing.{Open}
use Rattle.mw_deduction.specs.Replay.{Move, into, among, out, begins, ends, applies, meets, Stand, into_argument, into_several, going_out, showing, play, plays, MayApply, MayMeet, IsMove, AreMoves}
use Rattle.mw_deduction.specs.Above.{ranked, IsRaised, Above}

into_raised : (sig : Signature) (i : ℕ) (t : RawTerm) (n : ℕ) (S : Stand) → S.rank ≤ n → IsRaised (into_argument sig i t S) (into_argument sig i t (ranked n S))
into_raised sig i (numeral m) n S l = (l, refl)
into_raised sig i (quoted q) n S l = (l, refl)
into_raised sig i (variable x) n S l = (l, refl)
into_raised sig i (apply f ts) n S l = (l, refl)

among_raised : (sig : Signature) (ks : List ℕ) (t : RawTerm) (n : ℕ) (S : Stand) → S.rank ≤ n → IsRaised (into_several sig ks t S) (into_several sig ks t (ranked n S))
among_raised sig [] t n S l = (l, refl)
among_raised sig (k ∷ ks) (numeral m) n S l = (l, refl)
among_raised sig (k ∷ ks) (quoted q) n S l = (l, refl)
among_raised sig (k ∷ ks) (variable x) n S l = (l, refl)
among_raised sig (k ∷ ks) (apply f ts) n S l = (l, refl)

out_raised : (sig : Signature) (os : List Open) (n : ℕ) (S : Stand) → S.rank ≤ n → IsRaised (going_out sig os S) (going_out sig os (ranked n S))
out_raised sig [] n S l = (l, refl)
out_raised sig (o ∷ os) n S l = (l, refl)

module _ (M : Module) where
  applies_above : {k : ℕ} {r : Bool} {s : Substitution} {vs : List RawTerm} (n : ℕ) (S : Stand) → S.rank ≤ n → MayApply M k r s vs S → MayApply M k r s vs (ranked n S)
  applies_above {k} {r} {s} {vs} n S l m =
      let w : Within (admitted_judgements M S.rank) (admitted_judgements M n) = within_above M S.rank n l in
      record {
        statement = m.statement;
        is_there = m.is_there;
        rule = m.rule;
        replaces = replaces M (admitted_judgements M S.rank).Fails (admitted_judgements M n).Fails w.Fails (AdmittedStep M) (AdmittedStep M) (λ r t w v u x. x) (admitted_judgements M S.rank).Held (admitted_judgements M n).Held w.Held k r s S.read.ready _ _ m.replaces;
        values = m.values;
        starts = m.starts;
        may = m.may;
      }

  meets_above : {t : RawTerm} (n : ℕ) (S : Stand) → S.rank ≤ n → MayMeet M t S → MayMeet M t (ranked n S)
  meets_above n S l m =
      let w : Within (admitted_judgements M S.rank) (admitted_judgements M n) = within_above M S.rank n l in
      record {
        form = m.form;
        result = m.result;
        meets = row_within (normal M (admitted_judgements M S.rank).Fails (admitted_judgements M n).Fails w.Fails) m.meets;
        clean = m.clean;
        is = m.is;
        may = m.may;
        nothing_waits = m.nothing_waits;
      }

  abbrev Rises : Move → List Stand → List Stand → Type 0
  Rises m B C = IsMove M m C × Above (play M m B) (play M m C)

  at_rank : (m : Move) (n : ℕ) (S : Stand) (B C : List Stand) → S.rank ≤ n → Above B C → IsMove M m (S ∷ B) → Rises m (S ∷ B) (ranked n S ∷ C)
  at_rank (into i) n S B C l h m = (m, (into_raised M.signature i S.hand n S l, h))
  at_rank (among ks) n S B C l h m = (m, (among_raised M.signature ks S.hand n S l, h))
  at_rank out n S B C l h m = (m, (out_raised M.signature S.opens n S l, h))
  at_rank (begins t) n S B C l h m =
      let e = m.above in
      (record { rank = n - 1; above = omega (arith, l, e); canonical = m.canonical; raw = m.raw; admitted = m.admitted }, ((omega (arith, l), refl), ((l, refl), h)))
  at_rank ends n S [] C l h m = absurd m
  at_rank ends n S (Q ∷ B) [] l h m = absurd h
  at_rank ends n S (Q ∷ B) (P ∷ C) l h m = (
    record { outside = m.outside; nothing_waits = m.nothing_waits },
    (subst (λ P. IsRaised (showing M.signature S Q) (showing M.signature (ranked n S) P)) (sym h.0.1) (h.0.0, refl), h.1),
  )
  at_rank (applies k r s vs) n S B C l h m = (applies_above n S l m, ((l, refl), h))
  at_rank (meets t) n S B C l h m = (meets_above n S l m, ((l, refl), h))

  pub move_above : (m : Move) (B C : List Stand) → IsMove M m B → Above B C → IsMove M m C × Above (play M m B) (play M m C)
  move_above m [] C i h = absurd i
  move_above m (S ∷ B) [] i h = absurd h
  move_above m (S ∷ B) (Q ∷ C) i h = subst (λ P. Rises m (S ∷ B) (P ∷ C)) (sym h.0.1) (at_rank m Q.rank S B C h.0.0 h.1 i)

  pub moves_above : (ms : List Move) (B C : List Stand) → AreMoves M ms B → Above B C → AreMoves M ms C × Above (plays M ms B) (plays M ms C)
  moves_above [] B C a h = (tt, h)
  moves_above (m ∷ ms) B C a h = let (i, k) = move_above m B C a.0 h in let (b, l) = moves_above ms (play M m B) (play M m C) a.1 k in ((i, b), l)
