-- Moves from where others ended.
use Rattle.std.specs.Prelude.{◌≡◌, ℕ, List, [], ◌∷◌, refl}
use Rattle.std.proofs.Common.{sym, subst, ap, ◌∙◌, append-nil, append_assoc}
use Rattle.mw_logic.specs.Term.{RawTerm, numeral, quoted, variable, apply}
use Rattle.mw_logic.specs.Signature.{Signature}
use Rattle.mw_logic.specs.Parts.{nested}
use Rattle.mw_logic.specs.Module.{Module}
use Rattle.mw_logic.specs.Proof.{Proof, replacement, row}
use Rattle.mw_logic.specs.Proof as proof
use Rattle.mw_deduction.specs.Reading.{flat}
use Rattle.mw_deduction.specs.Standing.{Open, entered_of}
use Rattle.mw_deduction.specs.Runs.{Done, by_statement, by_row, one, Runs, end, another, CarriesAll, SameRuns}
use Rattle.mw_deduction.specs.Replay.{Move, into, among, out, begins, ends, applies, meets, Stand, begun, whole, into_argument, into_several, going_out, replacing, becomes, play, plays, IsMove, AreMoves}
use Rattle.mw_deduction.specs.Stands.{IsStanding}
use Rattle.mw_deduction.specs.Joined.{behind_stand, all_behind, IsAtRest}
use Rattle.mw_deduction.proofs.Carrying.{both_none}
use Rattle.mw_deduction.proofs.RunLaws.{both-assoc}

into-behind : (sig : Signature) (i : ℕ) (t : RawTerm) (T S : Stand) → into_argument sig i t (behind_stand T S) ≡ behind_stand T (into_argument sig i t S)
into-behind sig i (numeral n) T S = refl
into-behind sig i (quoted q) T S = refl
into-behind sig i (variable x) T S = refl
into-behind sig i (apply f ts) T S = refl

among-behind : (sig : Signature) (ks : List ℕ) (t : RawTerm) (T S : Stand) → into_several sig ks t (behind_stand T S) ≡ behind_stand T (into_several sig ks t S)
among-behind sig [] t T S = refl
among-behind sig (k ∷ ks) (numeral n) T S = refl
among-behind sig (k ∷ ks) (quoted q) T S = refl
among-behind sig (k ∷ ks) (variable x) T S = refl
among-behind sig (k ∷ ks) (apply f ts) T S = refl

out-behind : (sig : Signature) (os : List Open) (T S : Stand) → going_out sig os (behind_stand T S) ≡ behind_stand T (going_out sig os S)
out-behind sig [] T S = refl
out-behind sig (o ∷ os) T S = refl

replacing-behind : (sig : Signature) (p : Proof) (d : RawTerm → RawTerm → Done) (u : RawTerm) (T S : Stand) → replacing sig p d u (behind_stand T S) ≡ behind_stand T (replacing sig p d u S)
replacing-behind sig p d u T S = λ i. record {
  rank = S.rank;
  from = T.from;
  opens = S.opens;
  hand = u;
  read = record { entered = S.read.entered; done = append_assoc T.read.done S.read.done (record { place = flat S.read.entered; step = p } ∷ []) i; ready = proof.nil };
  run = both-assoc T.run S.run (one (d (nested sig (whole sig S.opens S.hand)) (nested sig (whole sig S.opens u)))) i;
  sides = end;
}

-- A move does the same behind.
pub play-behind : (M : Module) (m : Move) (T : Stand) (B : List Stand) → play M m (all_behind T B) ≡ all_behind T (play M m B)
play-behind M m T [] = refl
play-behind M (into i) T (S ∷ []) = ap (λ Q. Q ∷ []) (into-behind M.signature i S.hand T S)
play-behind M (into i) T (S ∷ Q ∷ B) = refl
play-behind M (among ks) T (S ∷ []) = ap (λ Q. Q ∷ []) (among-behind M.signature ks S.hand T S)
play-behind M (among ks) T (S ∷ Q ∷ B) = refl
play-behind M out T (S ∷ []) = ap (λ Q. Q ∷ []) (out-behind M.signature S.opens T S)
play-behind M out T (S ∷ Q ∷ B) = refl
play-behind M (begins t) T (S ∷ []) = refl
play-behind M (begins t) T (S ∷ Q ∷ B) = refl
play-behind M ends T (S ∷ []) = refl
play-behind M ends T (S ∷ Q ∷ []) = refl
play-behind M ends T (S ∷ Q ∷ P ∷ B) = refl
play-behind M (applies k r s vs) T (S ∷ []) = ap (λ Q. Q ∷ []) (replacing-behind M.signature (replacement k r s S.read.ready) (by_statement k s S.sides) (becomes M k s S.hand) T S)
play-behind M (applies k r s vs) T (S ∷ Q ∷ B) = refl
play-behind M (meets t) T (S ∷ []) = ap (λ Q. Q ∷ []) (replacing-behind M.signature row by_row t T S)
play-behind M (meets t) T (S ∷ Q ∷ B) = refl

pub plays-behind : (M : Module) (ms : List Move) (T : Stand) (B : List Stand) → plays M ms (all_behind T B) ≡ all_behind T (plays M ms B)
plays-behind M [] T B = refl
plays-behind M (m ∷ ms) T B = ap (plays M ms) (play-behind M m T B) ∙ plays-behind M ms T (play M m B)

move_behind : (M : Module) (m : Move) (T : Stand) (B : List Stand) → IsMove M m B → IsMove M m (all_behind T B)
move_behind M m T [] i = i
move_behind M (into n) T (S ∷ []) i = i
move_behind M (into n) T (S ∷ Q ∷ B) i = i
move_behind M (among ks) T (S ∷ []) i = i
move_behind M (among ks) T (S ∷ Q ∷ B) i = i
move_behind M out T (S ∷ []) i = i
move_behind M out T (S ∷ Q ∷ B) i = i
move_behind M (begins t) T (S ∷ []) i = record { rank = i.rank; above = i.above; canonical = i.canonical; raw = i.raw; admitted = i.admitted }
move_behind M (begins t) T (S ∷ Q ∷ B) i = i
move_behind M ends T (S ∷ []) i = i
move_behind M ends T (S ∷ Q ∷ []) i = i
move_behind M ends T (S ∷ Q ∷ P ∷ B) i = i
move_behind M (applies k r s vs) T (S ∷ []) i = record { statement = i.statement; is_there = i.is_there; rule = i.rule; replaces = i.replaces; values = i.values; starts = i.starts; may = i.may }
move_behind M (applies k r s vs) T (S ∷ Q ∷ B) i = i
move_behind M (meets t) T (S ∷ []) i = record { form = i.form; result = i.result; meets = i.meets; clean = i.clean; is = i.is; may = i.may; nothing_waits = i.nothing_waits }
move_behind M (meets t) T (S ∷ Q ∷ B) i = i

pub moves_behind : (M : Module) (ms : List Move) (T : Stand) (B : List Stand) → AreMoves M ms B → AreMoves M ms (all_behind T B)
moves_behind M [] T B a = tt
moves_behind M (m ∷ ms) T B a = (move_behind M m T B a.0, subst (AreMoves M ms) (sym (play-behind M m T B)) (moves_behind M ms T (play M m B) a.1))

-- a stand where no evidence waits is at rest
pub at_rest : (M : Module) (os : List Open) (T : Stand) → IsStanding M T → T.opens ≡ os → T.read.ready ≡ proof.nil → IsAtRest M.signature os T
at_rest M os T h o r = record {
  opens = o;
  entered = h.at.entered ∙ ap (entered_of M.signature) o;
  nothing_waits = r;
  no_sides = none_shown T.sides h.sides h.same_sides (subst (λ es. CarriesAll M.signature es h.sides) r h.shown);
}
  where
    none_shown : (rs qs : Runs) → SameRuns M.signature rs qs → qs ≡ end → rs ≡ end
    none_shown end qs s e = refl
    none_shown (another r rs) qs s e = absurd (subst (SameRuns M.signature (another r rs)) e s)

same_start : (sig : Signature) (T : Stand) → IsAtRest sig [] T → T ≡ behind_stand T (begun T.rank T.hand)
same_start sig T r = λ i. record {
  rank = T.rank;
  from = T.from;
  opens = r.opens i;
  hand = T.hand;
  read = record { entered = r.entered i; done = sym (append-nil T.read.done) i; ready = r.nothing_waits i };
  run = sym (both_none T.run) i;
  sides = r.no_sides i;
}

-- Moves from a term on are moves from where others ended with that term.
pub joined : (M : Module) (ns : List Move) (n : ℕ) (t : RawTerm) (T S : Stand) → IsAtRest M.signature [] T → T.rank ≡ n → T.hand ≡ t → AreMoves M ns (begun n t ∷ []) → plays M ns (begun n t ∷ []) ≡ S ∷ []
    → AreMoves M ns (T ∷ []) × (plays M ns (T ∷ []) ≡ behind_stand T S ∷ [])
joined M ns n t T S r rank hand a e =
    let b : AreMoves M ns (begun T.rank T.hand ∷ []) = subst (λ k. AreMoves M ns (begun k T.hand ∷ [])) (sym rank) (subst (λ u. AreMoves M ns (begun n u ∷ [])) (sym hand) a) in
    let f : plays M ns (begun T.rank T.hand ∷ []) ≡ S ∷ [] = ap (λ k. plays M ns (begun k T.hand ∷ [])) rank ∙ ap (λ u. plays M ns (begun n u ∷ [])) hand ∙ e in
    let s : T ∷ [] ≡ all_behind T (begun T.rank T.hand ∷ []) = ap (λ Q. Q ∷ []) (same_start M.signature T r) in
    (subst (AreMoves M ns) (sym s) (moves_behind M ns T (begun T.rank T.hand ∷ []) b), ap (plays M ns) s ∙ plays-behind M ns T (begun T.rank T.hand ∷ []) ∙ ap (all_behind T) f)
