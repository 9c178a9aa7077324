-- What moves lead to stands.
use Rattle.std.specs.Prelude.{◌≡◌, ◌-◌, ◌<◌, ℕ, List, [], ◌∷◌, length, Bool, Some, option_map, unwrap_or, refl}
use Rattle.std.proofs.Common.{sym, subst, ap, ◌∙◌}
use Rattle.mw_logic.specs.Term.{RawTerm, RawTerms, apply, cons, join, plug}
use Rattle.mw_logic.specs.Signature.{Signature, IsRawTerm, at_number}
use Rattle.mw_logic.specs.Axioms.{EqualModulo, done}
use Rattle.mw_logic.specs.Accepted.{IsAccepted}
use Rattle.mw_logic.specs.Substitution.{Substitution, instance}
use Rattle.mw_logic.specs.Parts.{nested, number_of_terms, IsAdmitted}
use Rattle.mw_logic.specs.NormalForm.{normal_form}
use Rattle.mw_logic.specs.Module.{Fragment, Module, Statement}
use Rattle.mw_logic.specs.Proof.{Proof, equality, transitivity, replacement, row, Proofs}
use Rattle.mw_logic.specs.Judgements.{admitted_judgements}
use Rattle.mw_logic.proofs.AxiomLaws.{trans, sym as back, in_context}
use Rattle.mw_logic.proofs.Canonical.{IsCanonical}
use Rattle.mw_logic.proofs.Soundness.{normal_form-sound}
use Rattle.mw_arguments.specs.Places.{chosen, Takes}
use Rattle.mw_deduction.specs.Places.{Place}
use Rattle.mw_deduction.specs.Chains.{proof_of}
use Rattle.mw_deduction.specs.Reading.{Reading, flat, applying}
use Rattle.mw_deduction.specs.Standing.{Open, filled, round, IsClear, At}
use Rattle.mw_deduction.specs.Runs.{Done, by_statement, by_row, none, one, both, run, end, Carries, SameDone}
use Rattle.mw_deduction.specs.Replay.{Move, into, among, out, begins, ends, applies, meets, Stand, begun, opened, whole, going_in, into_argument, into_several, going_out, replacing, becomes, put_behind, showing, play, plays, MayReplace, MayGoIn, MayGoAmong, MayApply, MayMeet, IsMove, AreMoves, concluded}
use Rattle.mw_deduction.specs.Stands.{IsStanding, AreStanding}
use Rattle.mw_deduction.proofs.Clear.{place_of-round}
use Rattle.mw_deduction.proofs.Standing as standing
use Rattle.mw_deduction.proofs.Standing.{goes_in, goes_in-whole, goes_in_several, goes_in_several-whole, goes_out, goes_out-whole, applies_on, applies_on-whole, row_on, row_on-whole}
use Rattle.mw_deduction.proofs.Carrying.{both_none, same_itself}
use Rattle.mw_deduction.proofs.RunLaws.{carries_step, same_both, carries_behind, same_behind}
use Rattle.mw_deduction.proofs.Taking.{into_is, Taken, taken, cut_out}

abbrev pub with_opens : Stand → List Open → Stand
with_opens S os = record S { opens = os }

abbrev pub with_hand : Stand → RawTerm → Stand
with_hand S t = record S { hand = t }

-- a stand with so many holes entered, and the operators round another term
abbrev moved : Stand → List Place → List Open → RawTerm → Stand
moved S ls os t = record {
  rank = S.rank;
  from = S.from;
  opens = os;
  hand = t;
  read = record { entered = ls; done = S.read.done; ready = S.read.ready };
  run = S.run;
  sides = S.sides;
}

-- the whole term, flattened, is what the place holds
pub whole_is : (M : Module) → IsAccepted M.signature → (H : List Fragment → Substitution → Proofs → Substitution → Type 0) (F : List Fragment → Substitution → Type 0) {t0 : RawTerm} {R : Reading} (os : List Open) (t : RawTerm)
    (h : At M H F t0 R os t) → EqualModulo M.signature h.whole (nested M.signature (whole M.signature os t))
whole_is M ok H F [] t h = h.is
whole_is M ok H F (o ∷ os) t h =
    subst (λ W. EqualModulo M.signature W (nested M.signature (whole M.signature os (filled M.signature o t)))) (goes_out-whole M ok H F o t h) (whole_is M ok H F os (filled M.signature o t) (goes_out M ok H F o t h))

module _ (M : Module) (ok : IsAccepted M.signature) where
  abbrev sig : Signature
  sig = M.signature

  abbrev Held : ℕ → List Fragment → Substitution → Proofs → Substitution → Type 0
  Held n = (admitted_judgements M n).Held

  abbrev Fails : ℕ → List Fragment → Substitution → Type 0
  Fails n = (admitted_judgements M n).Fails

  pub begun_stands : (n : ℕ) (t : RawTerm) → IsCanonical sig t → IsRawTerm sig (nested sig t) → IsAdmitted sig (nested sig t) → IsStanding M (begun n t)
  begun_stands n t k r a = record {
    at = standing.begins M ok (Held n) (Fails n) t k r a;
    done = none;
    carries = (start, refl);
    same = tt;
    sides = end;
    shown = refl;
    same_sides = tt;
  }
    where
      start : nested sig t ≡ (standing.begins M ok (Held n) (Fails n) t k r a).whole
      start = sym (standing.begins-whole M ok (Held n) (Fails n) t k r a)

  -- the same whole, seen otherwise
  seen_otherwise : (S : Stand) (ls : List Place) (os : List Open) (t : RawTerm) (h : IsStanding M S)
      (a : At M (Held S.rank) (Fails S.rank) (nested sig S.from) (record { entered = ls; done = S.read.done; ready = S.read.ready }) os t) → a.whole ≡ h.at.whole → IsStanding M (moved S ls os t)
  seen_otherwise S ls os t h a e = record {
    at = a;
    done = h.done;
    carries = subst (λ W. Carries sig [] (proof_of S.read.done) (nested sig S.from) W h.done) (sym e) h.carries;
    same = h.same;
    sides = h.sides;
    shown = h.shown;
    same_sides = h.same_sides;
  }

  -- into an argument
  enters : (S : Stand) (f : ℕ) (b : RawTerms) (x : RawTerm) (a : RawTerms) → IsClear sig (opened f b a) → IsStanding M (with_hand S (apply f (join b (cons x a)))) → IsStanding M (going_in sig (opened f b a) x S)
  enters S f b x a c h =
      let g = goes_in M ok (Held S.rank) (Fails S.rank) f b x a c h.at in
      seen_otherwise (with_hand S (apply f (join b (cons x a)))) _ _ x h g (goes_in-whole M ok (Held S.rank) (Fails S.rank) f b x a c h.at)

  into_stands : (S : Stand) (i : ℕ) → MayGoIn sig i S.hand → IsStanding M S → IsStanding M (into_argument sig i S.hand S)
  into_stands S i m h =
      let g = enters S m.operator m.before m.argument m.after m.clear (subst (λ t. IsStanding M (with_hand S t)) m.is h) in
      let k = subst (IsStanding M) (sym (into_is sig i m.operator m.before m.argument m.after S m.number)) g in
      subst (λ t. IsStanding M (into_argument sig i t S)) (sym m.is) k

  -- into several
  enters_several : (S : Stand) (ks : List ℕ) (w : RawTerm) (m : Takes sig ks S.hand w) → length ks < number_of_terms m.args → IsStanding M (with_hand S (apply m.operator m.args)) → IsStanding M (into_several sig ks (apply m.operator m.args) S)
  enters_several S [] w m p h = absurd m.several
  enters_several S (k ∷ ks) w m p h =
      let x : Taken sig k ks m.operator m.args = taken sig ok k ks m.operator m.args h.at.canonical m.assoc m.rise m.follow in
      let us : RawTerms = chosen 1 (k ∷ ks) m.args in
      let g = goes_in_several M ok (Held S.rank) (Fails S.rank) m.operator m.assoc m.args us m.several (cut_out x) h.at.canonical (x.others p) h.at in
      let e = goes_in_several-whole M ok (Held S.rank) (Fails S.rank) m.operator m.assoc m.args us m.several (cut_out x) h.at.canonical (x.others p) h.at in
      subst (IsStanding M) (sym (x.goes_in S)) (seen_otherwise (with_hand S (apply m.operator m.args)) _ _ (apply m.operator us) h g e)

  among_stands : (S : Stand) (ks : List ℕ) → MayGoAmong sig ks S.hand → IsStanding M S → IsStanding M (into_several sig ks S.hand S)
  among_stands S ks m h =
      let g = enters_several S ks m.part m.takes m.proper (subst (λ t. IsStanding M (with_hand S t)) m.takes.term h) in
      subst (λ t. IsStanding M (into_several sig ks t S)) (sym m.takes.term) g

  -- out again
  leaves : (S : Stand) (o : Open) (os : List Open) → IsStanding M (with_opens S (o ∷ os)) → IsStanding M (going_out sig (o ∷ os) S)
  leaves S o os h =
      let g = goes_out M ok (Held S.rank) (Fails S.rank) o S.hand h.at in
      seen_otherwise (with_opens S (o ∷ os)) _ os (filled sig o S.hand) h g (goes_out-whole M ok (Held S.rank) (Fails S.rank) o S.hand h.at)

  pub out_stands : (S : Stand) (o : Open) (os : List Open) → S.opens ≡ o ∷ os → IsStanding M S → IsStanding M (going_out sig S.opens S)
  out_stands S o os e h = subst (λ ps. IsStanding M (going_out sig ps S)) (sym e) (leaves S o os (subst (λ ps. IsStanding M (with_opens S ps)) e h))

  -- a replacement
  replaced : (S : Stand) (p : Proof) (d : RawTerm → RawTerm → Done) (u w v : RawTerm) (e : Done) (h : IsStanding M S)
      (a : At M (Held S.rank) (Fails S.rank) (nested sig S.from) (applying p S.read) S.opens u) → a.whole ≡ plug (round sig S.opens) v → EqualModulo sig w (nested sig S.hand)
      → Carries sig (round sig S.opens) p w v (one e)
      → ((t y : RawTerm) → EqualModulo sig t (plug (round sig S.opens) w) → EqualModulo sig y (plug (round sig S.opens) v) → SameDone sig (d t y) e)
      → IsStanding M (replacing sig p d u S)
  replaced S p d u w v e h a is same c like =
      let before : EqualModulo sig h.at.whole (plug (round sig S.opens) w) = trans h.at.is (in_context (round sig S.opens) (back same)) in
      let first : EqualModulo sig (nested sig (whole sig S.opens S.hand)) (plug (round sig S.opens) w) = trans (back (whole_is M ok (Held S.rank) (Fails S.rank) S.opens S.hand h.at)) before in
      let second : EqualModulo sig (nested sig (whole sig S.opens u)) (plug (round sig S.opens) v) = subst (EqualModulo sig (nested sig (whole sig S.opens u))) is (back (whole_is M ok (Held S.rank) (Fails S.rank) S.opens u a)) in
      record {
        at = a;
        done = both h.done (one e);
        carries = carries_step sig S.read (round sig S.opens) p (nested sig S.from) h.at.whole w v a.whole h.done (one e) (ap flat h.at.entered ∙ place_of-round sig S.opens) h.carries before c
            (subst (EqualModulo sig (plug (round sig S.opens) v)) (sym is) done);
        same = same_both sig S.run h.done (one (d (nested sig (whole sig S.opens S.hand)) (nested sig (whole sig S.opens u)))) (one e) h.same (like _ _ first second, tt);
        sides = end;
        shown = refl;
        same_sides = tt;
      }

  same_part : {r : Bool} {os : List Open} {t w v : RawTerm} → MayReplace M r os t w v → EqualModulo sig w (nested sig t)
  same_part {w = w} m = subst (λ z. EqualModulo sig w (nested sig z)) m.is_part (normal_form-sound sig ok m.raw_part)

  pub becomes_is : (k : ℕ) (s : Substitution) (t : RawTerm) (e : Statement) → at_number M.statements k ≡ Some e → becomes M k s t ≡ normal_form sig (instance s e.right)
  becomes_is k s t e h = ap (λ o. unwrap_or (option_map (λ (e : Statement). normal_form sig (instance s e.right)) o) t) h

  applies_stands : (S : Stand) (k : ℕ) (r : Bool) (s : Substitution) (vs : List RawTerm) → MayApply M k r s vs S → IsStanding M S
      → IsStanding M (replacing sig (replacement k r s S.read.ready) (by_statement k s S.sides) (becomes M k s S.hand) S)
  applies_stands S k r s vs m h =
      let w : RawTerm = instance s m.statement.left in
      let v : RawTerm = instance s m.statement.right in
      let q : EqualModulo sig w (nested sig S.hand) = same_part m.may in
      let a = applies_on M ok (Held S.rank) (Fails S.rank) k r s w v h.at m.may.seen m.may.free q m.may.raw m.may.admitted m.replaces in
      let e = applies_on-whole M ok (Held S.rank) (Fails S.rank) k r s w v h.at m.may.seen m.may.free q m.may.raw m.may.admitted m.replaces in
      let d : Done = by_statement k s h.sides (plug (round sig S.opens) w) (plug (round sig S.opens) v) in
      subst (λ u. IsStanding M (replacing sig (replacement k r s S.read.ready) (by_statement k s S.sides) u S)) (sym (becomes_is k s S.hand m.statement m.is_there))
      (replaced S (replacement k r s S.read.ready) (by_statement k s S.sides) (normal_form sig v) w v d h a e q (h.sides, refl, h.shown) (λ t y b c. (refl, same_itself sig s, h.same_sides, b, c)))

  meets_stands : (S : Stand) (t : RawTerm) → MayMeet M t S → IsStanding M S → IsStanding M (replacing sig row by_row t S)
  meets_stands S t m h =
      let w : RawTerm = m.form in
      let v : RawTerm = m.result in
      let q : EqualModulo sig w (nested sig S.hand) = same_part m.may in
      let a = row_on M ok (Held S.rank) (Fails S.rank) w v h.at m.may.seen q m.may.raw m.may.admitted m.meets m.clean in
      let e = row_on-whole M ok (Held S.rank) (Fails S.rank) w v h.at m.may.seen q m.may.raw m.may.admitted m.meets m.clean in
      let d : Done = by_row (plug (round sig S.opens) w) (plug (round sig S.opens) v) in
      subst (λ u. IsStanding M (replacing sig row by_row u S)) m.is (replaced S row by_row (normal_form sig v) w v d h a e q refl (λ t y b c. (b, c)))

  -- a side that was shown waits for its statement
  shows : (S Q : Stand) → IsStanding M (with_opens S []) → IsStanding M Q → IsStanding M (showing sig S Q)
  shows S Q s q =
      let p : Proof = transitivity equality (concluded S) in
      let t : RawTerm = nested sig S.hand in
      let c : Carries sig [] (concluded S) (nested sig S.from) t s.done = (s.at.whole, s.done, none, sym (both_none s.done), s.carries, (s.at.is, refl)) in
      let a = q.at in
      record {
        at = record { whole = a.whole; leads = a.leads; is = a.is; entered = a.entered; raw = a.raw; admitted = a.admitted; clear = a.clear; canonical = a.canonical };
        done = q.done;
        carries = q.carries;
        same = q.same;
        sides = put_behind q.sides (run (nested sig S.from) t s.done);
        shown = carries_behind sig Q.read.ready q.sides p (nested sig S.from) t s.done q.shown (nested sig S.from, none, s.done, refl, (done, refl), c);
        same_sides = same_behind sig Q.sides q.sides (run (nested sig S.from) t S.run) (run (nested sig S.from) t s.done) q.same_sides (done, done, s.same);
      }

  -- one move
  pub move_stands : (m : Move) (B : List Stand) → AreStanding M B → IsMove M m B → AreStanding M (play M m B)
  move_stands m [] h i = absurd i
  move_stands (into n) (S ∷ B) h i = (into_stands S n i h.0, h.1)
  move_stands (among ks) (S ∷ B) h i = (among_stands S ks i h.0, h.1)
  move_stands out (S ∷ B) h (o, os, e) = (out_stands S o os e h.0, h.1)
  move_stands (begins t) (S ∷ B) h i = (begun_stands (S.rank - 1) t i.canonical i.raw i.admitted, h)
  move_stands ends (S ∷ []) h i = absurd i
  move_stands ends (S ∷ Q ∷ B) h i = (shows S Q (subst (λ os. IsStanding M (with_opens S os)) i.outside h.0) h.1.0, h.1.1)
  move_stands (applies k r s vs) (S ∷ B) h i = (applies_stands S k r s vs i h.0, h.1)
  move_stands (meets t) (S ∷ B) h i = (meets_stands S t i h.0, h.1)

  -- and many
  pub moves_stand : (ms : List Move) (B : List Stand) → AreStanding M B → AreMoves M ms B → AreStanding M (plays M ms B)
  moves_stand [] B h i = h
  moves_stand (m ∷ ms) B h i = moves_stand ms (play M m B) (move_stands m B h i.0) i.1
