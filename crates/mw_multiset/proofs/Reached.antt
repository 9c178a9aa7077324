-- The whole terms that a kept proof reaches are raw, of the kinds of the one that it begins at, and admitted.
use Rattle.std.specs.Prelude.{◌≡◌, ℕ, List, [], ◌∷◌, refl, ⊤}
use Rattle.std.proofs.Common.{sym, subst}
use Rattle.mw_logic.specs.Term.{RawTerm, numeral, quoted, variable, apply, RawTerms, nil, cons, join, Context, plug}
use Rattle.mw_logic.specs.Signature.{Signature, IsRawTerm, an_operator, AreRawTerms, next, HasKind, of_operator}
use Rattle.mw_logic.specs.Accepted.{IsAccepted}
use Rattle.mw_logic.specs.WellFormed.{IsWellFormed}
use Rattle.mw_logic.specs.Parts.{nested, IsAdmitted}
use Rattle.mw_logic.specs.Module.{Module}
use Rattle.mw_logic.specs.Proof.{Proof, replacement, row}
use Rattle.mw_logic.specs.Judgements.{AdmittedStep, admitted_judgements}
use Rattle.mw_logic.proofs.AxiomLaws.{trans, sym as back}
use Rattle.mw_logic.proofs.EqualTerms.{IsAdmitted-equal}
use Rattle.mw_logic.proofs.RawKept.{raw_kept}
use Rattle.mw_logic.proofs.RawLed.{leads_raw}
use Rattle.mw_deduction.specs.Chains.{proof_of}
use Rattle.mw_deduction.specs.Standing.{Open}
use Rattle.mw_deduction.specs.Runs.{Done, by_statement, by_row, Dones, none, more, one, both}
use Rattle.mw_deduction.specs.Replay.{Move, into, among, out, begins, ends, applies, meets, Stand, whole, into_argument, into_several, going_out, replacing, becomes, play, plays, AreMoves}
use Rattle.mw_deduction.specs.Stands.{IsStanding, AreStanding}
use Rattle.mw_deduction.proofs.MoveStands.{whole_is, move_stands}
use Rattle.mw_deduction.proofs.Under.{outermost_run}
use Rattle.mw_deduction.proofs.Concluding.{IsOutermostOf, outermost_of}

-- u is raw, of the kinds of t, and admitted
pub record IsReached (sig : Signature) (t u : RawTerm) : Type 0 where
  pub raw : IsRawTerm sig u
  pub kinds : (K : ℕ) → HasKind sig t K → HasKind sig u K
  pub admitted : IsAdmitted sig u

abbrev pub DoneReached : Signature → RawTerm → Done → Type 0
DoneReached sig a (by_statement k s rs t u) = IsReached sig a u
DoneReached sig a (by_row t u) = IsReached sig a u

abbrev pub AllReached : Signature → RawTerm → Dones → Type 0
AllReached sig a none = ⊤
AllReached sig a (more d ds) = DoneReached sig a d × AllReached sig a ds

reached-both : (sig : Signature) (a : RawTerm) (ds es : Dones) → AllReached sig a ds → AllReached sig a es → AllReached sig a (both ds es)
reached-both sig a none es h k = k
reached-both sig a (more d ds) es h k = (h.0, reached-both sig a ds es h.1 k)

into-run : (sig : Signature) (i : ℕ) (t : RawTerm) (S : Stand) → S.run ≡ (into_argument sig i t S).run
into-run sig i (numeral n) S = refl
into-run sig i (quoted q) S = refl
into-run sig i (variable x) S = refl
into-run sig i (apply f ts) S = refl

among-run : (sig : Signature) (ks : List ℕ) (t : RawTerm) (S : Stand) → S.run ≡ (into_several sig ks t S).run
among-run sig [] t S = refl
among-run sig (k ∷ ks) (numeral n) S = refl
among-run sig (k ∷ ks) (quoted q) S = refl
among-run sig (k ∷ ks) (variable x) S = refl
among-run sig (k ∷ ks) (apply f ts) S = refl

out-run : (sig : Signature) (os : List Open) (S : Stand) → S.run ≡ (going_out sig os S).run
out-run sig [] S = refl
out-run sig (o ∷ os) S = refl

module _ (M : Module) (well : IsWellFormed M) where
  abbrev sig : Signature
  sig = M.signature

  ok : IsAccepted M.signature
  ok = well.accepted

  module _ (t : RawTerm) (start : IsRawTerm sig (nested sig t)) where
    abbrev All : Dones → Type 0
    All = AllReached sig (nested sig t)

    reached : (S : Stand) → IsStanding M S → S.from ≡ t → IsReached sig (nested sig t) (nested sig (whole sig S.opens S.hand))
    reached S h e =
        let H = (admitted_judgements M S.rank).Held in
        let F = (admitted_judgements M S.rank).Fails in
        let w = whole_is M ok H F S.opens S.hand h.at in
        let a = raw_kept sig ok w in
        let l = leads_raw M well (AdmittedStep M) H F (proof_of S.read.done) [] (nested sig S.from) h.at.whole h.at.leads (subst (λ x. IsRawTerm sig (nested sig x)) (sym e) start) in
        record {
          raw = a.0 l.0;
          kinds = λ K k. a.1 K (l.1 K (subst (λ x. HasKind sig (nested sig x) K) (sym e) k));
          admitted = IsAdmitted-equal sig (trans (back h.at.is) w) h.at.admitted;
        }

    -- a replacement of the outermost stand
    replaced : (p : Proof) (d : RawTerm → RawTerm → Done) (u : RawTerm) (S : Stand) → ((x y : RawTerm) → IsReached sig (nested sig t) y → DoneReached sig (nested sig t) (d x y))
        → IsStanding M (replacing sig p d u S) → S.from ≡ t → All S.run → All (replacing sig p d u S).run
    replaced p d u S is h e a =
        reached-both sig (nested sig t) S.run (one (d (nested sig (whole sig S.opens S.hand)) (nested sig (whole sig S.opens u)))) a
        (is (nested sig (whole sig S.opens S.hand)) (nested sig (whole sig S.opens u)) (reached (replacing sig p d u S) h e), tt)

    move_reached : (n : ℕ) (m : Move) (B : List Stand) → AreStanding M (play M m B) → IsOutermostOf n t B → All (outermost_run B) → All (outermost_run (play M m B))
    move_reached n m [] h o a = a
    move_reached n (into i) (S ∷ []) h o a = subst All (into-run sig i S.hand S) a
    move_reached n (into i) (S ∷ Q ∷ B) h o a = a
    move_reached n (among ks) (S ∷ []) h o a = subst All (among-run sig ks S.hand S) a
    move_reached n (among ks) (S ∷ Q ∷ B) h o a = a
    move_reached n out (S ∷ []) h o a = subst All (out-run sig S.opens S) a
    move_reached n out (S ∷ Q ∷ B) h o a = a
    move_reached n (begins u) (S ∷ []) h o a = a
    move_reached n (begins u) (S ∷ Q ∷ B) h o a = a
    move_reached n ends (S ∷ []) h o a = a
    move_reached n ends (S ∷ Q ∷ []) h o a = a
    move_reached n ends (S ∷ Q ∷ P ∷ B) h o a = a
    move_reached n (applies k r s vs) (S ∷ []) h o a = replaced (replacement k r s S.read.ready) (by_statement k s S.sides) (becomes M k s S.hand) S (λ x y q. q) h.0 o.1 a
    move_reached n (applies k r s vs) (S ∷ Q ∷ B) h o a = a
    move_reached n (meets u) (S ∷ []) h o a = replaced row by_row u S (λ x y q. q) h.0 o.1 a
    move_reached n (meets u) (S ∷ Q ∷ B) h o a = a

    pub moves_reached : (n : ℕ) (ms : List Move) (B : List Stand) → AreStanding M B → AreMoves M ms B → IsOutermostOf n t B → All (outermost_run B) → All (outermost_run (plays M ms B))
    moves_reached n [] B h i o a = a
    moves_reached n (m ∷ ms) B h i o a =
        let g : AreStanding M (play M m B) = move_stands M ok m B h i.0 in
        moves_reached n ms (play M m B) g i.1 (outermost_of M m n t B o) (move_reached n m B g o a)

-- a raw term of the same kinds may come for a term in a context
module _ (sig : Signature) where
  abbrev Alike : RawTerm → RawTerm → Type 0
  Alike t u = IsRawTerm sig t → IsRawTerm sig u × ((K : ℕ) → HasKind sig t K → HasKind sig u K)

  args_alike : (b : RawTerms) (t u : RawTerm) (a : RawTerms) (Ks : List ℕ) → Alike t u → AreRawTerms sig (join b (cons t a)) Ks → AreRawTerms sig (join b (cons u a)) Ks
  args_alike nil t u a Ks h (next r k rest) = let (s, l) = h r in next s (l _ k) rest
  args_alike (cons x b) t u a Ks h (next {Ks = Ls} r k rest) = next r k (args_alike b t u a Ls h rest)

  frame_alike : (f : ℕ) (b : RawTerms) (t u : RawTerm) (a : RawTerms) → Alike t u → Alike (apply f (join b (cons t a))) (apply f (join b (cons u a)))
  frame_alike f b t u a h (an_operator o e args) = (an_operator o e (args_alike b t u a o.args h args), λ K k. kind K k)
    where
      kind : (K : ℕ) → HasKind sig (apply f (join b (cons t a))) K → HasKind sig (apply f (join b (cons u a))) K
      kind K (of_operator p there q) = of_operator p there q

  pub plug_raw : (C : Context) (t u : RawTerm) → Alike t u → IsRawTerm sig (plug C t) → IsRawTerm sig (plug C u)
  plug_raw [] t u h r = (h r).0
  plug_raw (c ∷ C) t u h r = plug_raw C (apply c.operator (join c.before (cons t c.after))) (apply c.operator (join c.before (cons u c.after))) (frame_alike c.operator c.before t u c.after h) r
