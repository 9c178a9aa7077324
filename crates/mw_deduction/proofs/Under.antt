-- Moves under more operators.
use Rattle.std.specs.Prelude.{◌≡◌, ◌++◌, ℕ, List, [], ◌∷◌, map, Bool, false, IsTrue, refl}
use Rattle.std.proofs.Common.{sym, subst, ap, ◌∙◌, append-nil, append_assoc, true≢false}
use Rattle.std.proofs.lemmas.List.{map-append}
use Rattle.mw_logic.specs.Term.{RawTerm, numeral, quoted, variable, apply, Context, plug}
use Rattle.mw_logic.specs.Signature.{Signature, IsRawTerm}
use Rattle.mw_logic.specs.Axioms.{EqualModulo}
use Rattle.mw_logic.specs.Accepted.{IsAccepted}
use Rattle.mw_logic.specs.WellFormed.{IsWellFormed}
use Rattle.mw_logic.specs.Substitution.{Substitution, instance}
use Rattle.mw_logic.specs.Parts.{nested, IsAdmitted, IsFrozen}
use Rattle.mw_logic.specs.NormalForm.{normal_form}
use Rattle.mw_logic.specs.Module.{Fragment, Module}
use Rattle.mw_logic.specs.Proof.{Proof, replacement, row, Proofs}
use Rattle.mw_logic.specs.Proof as proof
use Rattle.mw_logic.specs.Judgements.{StepTest, AdmittedStep, admitted_judgements}
use Rattle.mw_logic.proofs.AxiomLaws.{trans, sym as back, in_context}
use Rattle.mw_logic.proofs.ContextLaws.{plug-append}
use Rattle.mw_logic.proofs.Canonical.{IsCanonical}
use Rattle.mw_logic.proofs.CanonicalTerms.{fixed}
use Rattle.mw_logic.proofs.EqualTerms.{IsAdmitted-equal}
use Rattle.mw_logic.proofs.Frozen.{open_append}
use Rattle.mw_logic.proofs.Inside.{raw_inside}
use Rattle.mw_logic.proofs.RawKept.{raw_kept}
use Rattle.mw_logic.proofs.RawLed.{leads_raw}
use Rattle.mw_logic.proofs.Soundness.{normal_form-sound}
use Rattle.mw_deduction.specs.Places.{Place, place_of}
use Rattle.mw_deduction.specs.Chains.{proof_of, within}
use Rattle.mw_deduction.specs.Reading.{Reading, flat}
use Rattle.mw_deduction.specs.Standing.{Open, filled, context_at, round, entered_of, IsSeen, At}
use Rattle.mw_deduction.specs.Runs.{Done, by_statement, by_row, Dones, none, more, one, both, end}
use Rattle.mw_deduction.specs.Replay.{Move, into, among, out, begins, ends, applies, meets, Stand, begun, whole, into_argument, into_several, going_out, replacing, becomes, showing, play, plays, MayReplace, IsMove, AreMoves}
use Rattle.mw_deduction.specs.Stands.{IsStanding, AreStanding}
use Rattle.mw_deduction.specs.Under.{under_term, under_done, under_dones, under_stand, all_under, IsFitUnder, AllMayBeUnder}
use Rattle.mw_deduction.proofs.Clear.{place_of-round}
use Rattle.mw_deduction.proofs.Joining.{leads_within}
use Rattle.mw_deduction.proofs.Lifted.{lifted}
use Rattle.mw_deduction.proofs.Standing.{goes_out}
use Rattle.mw_deduction.proofs.RunLaws.{both-assoc}
use Rattle.mw_deduction.proofs.Carrying.{both_none}
use Rattle.mw_deduction.proofs.MoveStands.{whole_is, becomes_is, move_stands}
use Rattle.mw_deduction.specs.Joined.{behind_stand, all_behind, IsAtRest}
use Rattle.mw_deduction.proofs.Joined.{plays-behind, moves_behind, at_rest}
use Rattle.mw_deduction.proofs.Concluding.{IsOutermostOf, outermost_of}

-- the operators of two lists, one within the other
whole-append : (sig : Signature) (os ps : List Open) (t : RawTerm) → whole sig (os ++ ps) t ≡ whole sig ps (whole sig os t)
whole-append sig [] ps t = refl
whole-append sig (o ∷ os) ps t = whole-append sig os ps (filled sig o t)

round-append : (sig : Signature) (os ps : List Open) → round sig (os ++ ps) ≡ round sig os ++ round sig ps
round-append sig [] ps = refl
round-append sig (o ∷ os) ps = ap (λ C. context_at sig o ++ C) (round-append sig os ps) ∙ sym (append_assoc (context_at sig o) (round sig os) (round sig ps))

flat-append : (ls ks : List Place) → flat (ls ++ ks) ≡ flat ls ++ flat ks
flat-append [] ks = refl
flat-append (l ∷ ls) ks = ap (λ k. l ++ k) (flat-append ls ks) ∙ sym (append_assoc l (flat ls) (flat ks))

plug-round : (sig : Signature) (os ps : List Open) (t : RawTerm) → plug (round sig (os ++ ps)) t ≡ plug (round sig ps) (plug (round sig os) t)
plug-round sig os ps t = ap (λ C. plug C t) (round-append sig os ps) ∙ plug-append (round sig os) (round sig ps) t

under_dones-both : (sig : Signature) (os : List Open) (ds es : Dones) → under_dones sig os (both ds es) ≡ both (under_dones sig os ds) (under_dones sig os es)
under_dones-both sig os none es = refl
under_dones-both sig os (more d ds) es = ap (more (under_done sig os d)) (under_dones-both sig os ds es)

-- into a hole and out of it, it is the same under more operators
into-under : (sig : Signature) (os : List Open) (i : ℕ) (t : RawTerm) (S : Stand) → into_argument sig i t (under_stand sig os S) ≡ under_stand sig os (into_argument sig i t S)
into-under sig os i (numeral n) S = refl
into-under sig os i (quoted q) S = refl
into-under sig os i (variable x) S = refl
into-under sig os i (apply f ts) S = refl

among-under : (sig : Signature) (os : List Open) (ks : List ℕ) (t : RawTerm) (S : Stand) → into_several sig ks t (under_stand sig os S) ≡ under_stand sig os (into_several sig ks t S)
among-under sig os [] t S = refl
among-under sig os (k ∷ ks) (numeral n) S = refl
among-under sig os (k ∷ ks) (quoted q) S = refl
among-under sig os (k ∷ ks) (variable x) S = refl
among-under sig os (k ∷ ks) (apply f ts) S = refl

-- a stand with these operators, and these holes entered
abbrev held : Stand → List Open → List Place → Stand
held S os ls = record {
  rank = S.rank;
  from = S.from;
  opens = os;
  hand = S.hand;
  read = record { entered = ls; done = S.read.done; ready = S.read.ready };
  run = S.run;
  sides = S.sides;
}

out-under : (sig : Signature) (os : List Open) (S : Stand) (o : Open) (ps : List Open) → S.opens ≡ o ∷ ps → S.read.entered ≡ entered_of sig S.opens
    → going_out sig (S.opens ++ os) (under_stand sig os S) ≡ under_stand sig os (going_out sig S.opens S)
out-under sig os S o ps e k =
    let P : List Open → List Place → Type 0 = λ qs ls. going_out sig (qs ++ os) (under_stand sig os (held S qs ls)) ≡ under_stand sig os (going_out sig qs (held S qs ls)) in
    let first : P (o ∷ ps) (entered_of sig (o ∷ ps)) = refl in
    subst (P S.opens) (sym k) (subst (λ qs. P qs (entered_of sig qs)) (sym e) first)

-- what the outermost carried out
abbrev pub outermost_run : List Stand → Dones
outermost_run [] = none
outermost_run (S ∷ []) = S.run
outermost_run (S ∷ Q ∷ B) = outermost_run (Q ∷ B)

module _ (M : Module) (well : IsWellFormed M) (os : List Open) where
  abbrev sig : Signature
  sig = M.signature

  ok : IsAccepted M.signature
  ok = well.accepted

  abbrev Held : ℕ → List Fragment → Substitution → Proofs → Substitution → Type 0
  Held n = (admitted_judgements M n).Held

  abbrev Fails : ℕ → List Fragment → Substitution → Type 0
  Fails n = (admitted_judgements M n).Fails

  -- the whole is canonical
  whole_canonical : (H : List Fragment → Substitution → Proofs → Substitution → Type 0) (F : List Fragment → Substitution → Type 0) {t0 : RawTerm} {R : Reading} (ps : List Open) (t : RawTerm) → At M H F t0 R ps t → IsCanonical sig (whole sig ps t)
  whole_canonical H F [] t h = h.canonical
  whole_canonical H F (o ∷ ps) t h = whole_canonical H F ps (filled sig o t) (goes_out M ok H F o t h)

  stand_canonical : (S : Stand) → IsStanding M S → IsCanonical sig (whole sig S.opens S.hand)
  stand_canonical S h = whole_canonical (Held S.rank) (Fails S.rank) S.opens S.hand h.at

  under_whole : (ps : List Open) (t : RawTerm) → IsCanonical sig (whole sig ps t) → under_term sig os (nested sig (whole sig ps t)) ≡ nested sig (whole sig (ps ++ os) t)
  under_whole ps t k = ap (λ x. nested sig (whole sig os x)) (fixed sig ok (whole sig ps t) k) ∙ ap (nested sig) (sym (whole-append sig ps os t))

  -- a replacement is the same under more operators
  replacing-under : (p : Proof) (d : RawTerm → RawTerm → Done) (u : RawTerm) (S : Stand) → ((t v : RawTerm) → under_done sig os (d t v) ≡ d (under_term sig os t) (under_term sig os v))
      → IsCanonical sig (whole sig S.opens S.hand) → IsCanonical sig (whole sig S.opens u) → replacing sig p d u (under_stand sig os S) ≡ under_stand sig os (replacing sig p d u S)
  replacing-under p d u S like k l = λ i. record {
    rank = S.rank;
    from = S.from;
    opens = S.opens ++ os;
    hand = u;
    read = record { entered = S.read.entered ++ entered_of sig os; done = further i; ready = proof.nil };
    run = longer i;
    sides = end;
  }
    where
      E : List Place
      E = entered_of sig os

      place : flat (S.read.entered ++ E) ≡ flat S.read.entered ++ place_of (round sig os)
      place = flat-append S.read.entered E ∙ ap (λ ks. flat S.read.entered ++ ks) (place_of-round sig os)

      further : map (within (place_of (round sig os))) S.read.done ++ record { place = flat (S.read.entered ++ E); step = p } ∷ [] ≡ map (within (place_of (round sig os))) (S.read.done ++ record { place = flat S.read.entered; step = p } ∷ [])
      further =
          ap (λ ls. map (within (place_of (round sig os))) S.read.done ++ record { place = ls; step = p } ∷ []) place
          ∙ sym (map-append (within (place_of (round sig os))) S.read.done (record { place = flat S.read.entered; step = p } ∷ []))

      same : d (nested sig (whole sig (S.opens ++ os) S.hand)) (nested sig (whole sig (S.opens ++ os) u)) ≡ under_done sig os (d (nested sig (whole sig S.opens S.hand)) (nested sig (whole sig S.opens u)))
      same =
          ap (λ x. d x (nested sig (whole sig (S.opens ++ os) u))) (sym (under_whole S.opens S.hand k))
          ∙ ap (d (under_term sig os (nested sig (whole sig S.opens S.hand)))) (sym (under_whole S.opens u l))
          ∙ sym (like (nested sig (whole sig S.opens S.hand)) (nested sig (whole sig S.opens u)))

      longer : both (under_dones sig os S.run) (one (d (nested sig (whole sig (S.opens ++ os) S.hand)) (nested sig (whole sig (S.opens ++ os) u)))) ≡ under_dones sig os (both S.run (one (d (nested sig (whole sig S.opens S.hand)) (nested sig (whole sig S.opens u)))))
      longer =
          ap (λ e. both (under_dones sig os S.run) (one e)) same
          ∙ sym (under_dones-both sig os S.run (one (d (nested sig (whole sig S.opens S.hand)) (nested sig (whole sig S.opens u)))))

  -- so is each move
  play-under : (m : Move) (B : List Stand) → AreStanding M B → AreStanding M (play M m B) → IsMove M m B → play M m (all_under sig os B) ≡ all_under sig os (play M m B)
  play-under m [] h g i = refl
  play-under (into n) (S ∷ []) h g i = ap (λ Q. Q ∷ []) (into-under sig os n S.hand S)
  play-under (into n) (S ∷ Q ∷ B) h g i = refl
  play-under (among ks) (S ∷ []) h g i = ap (λ Q. Q ∷ []) (among-under sig os ks S.hand S)
  play-under (among ks) (S ∷ Q ∷ B) h g i = refl
  play-under out (S ∷ []) h g (o, ps, e) = ap (λ Q. Q ∷ []) (out-under sig os S o ps e h.0.at.entered)
  play-under out (S ∷ Q ∷ B) h g i = refl
  play-under (begins t) (S ∷ []) h g i = refl
  play-under (begins t) (S ∷ Q ∷ B) h g i = refl
  play-under ends (S ∷ []) h g i = absurd i
  play-under ends (S ∷ Q ∷ []) h g i = refl
  play-under ends (S ∷ Q ∷ P ∷ B) h g i = refl
  play-under (applies k r s vs) (S ∷ []) h g i =
      ap (λ Q. Q ∷ []) (replacing-under (replacement k r s S.read.ready) (by_statement k s S.sides) (becomes M k s S.hand) S (λ t v. refl) (stand_canonical S h.0)
      (stand_canonical (replacing sig (replacement k r s S.read.ready) (by_statement k s S.sides) (becomes M k s S.hand) S) g.0))
  play-under (applies k r s vs) (S ∷ Q ∷ B) h g i = refl
  play-under (meets t) (S ∷ []) h g i = ap (λ Q. Q ∷ []) (replacing-under row by_row t S (λ t v. refl) (stand_canonical S h.0) (stand_canonical (replacing sig row by_row t S) g.0))
  play-under (meets t) (S ∷ Q ∷ B) h g i = refl

  -- what comes is a raw term under them too
  raw_under : (S : Stand) (h : IsStanding M S) → IsRawTerm sig (plug (round sig os) (nested sig S.from)) → IsRawTerm sig (plug (round sig os) h.at.whole)
  raw_under S h r =
      let C : Context = round sig os in
      let Anything : StepTest = λ by_rule t w v u. Unit {0} in
      let l = lifted M (Held S.rank) (Fails S.rank) (AdmittedStep M) Anything C (λ by_rule t w v u x. tt) (proof_of S.read.done) [] (nested sig S.from) h.at.whole h.at.leads in
      let g = leads_within M Anything (Held S.rank) (Fails S.rank) C S.read.done (nested sig S.from) h.at.whole l in
      (leads_raw M well Anything (Held S.rank) (Fails S.rank) (proof_of (map (within (place_of C)) S.read.done)) [] (plug C (nested sig S.from)) (plug C h.at.whole) g r).0

  seen_under : (ps : List Open) (t : RawTerm) → IsCanonical sig t → IsSeen sig ps t → IsSeen sig os (normal_form sig (nested sig (whole sig ps t))) → IsSeen sig (ps ++ os) t
  seen_under [] t k s x = subst (IsSeen sig os) (fixed sig ok t k) x
  seen_under (o ∷ ps) t k s x = s

  -- So a replacement may be made there: Q is the stand that comes of it, with v in hand, flattened.
  may_under : (r : Bool) (S Q : Stand) (w v : RawTerm) → IsStanding M S → IsStanding M Q → Q.opens ≡ S.opens → Q.hand ≡ normal_form sig v → IsRawTerm sig (plug (round sig os) (nested sig Q.from))
      → IsFitUnder sig os (nested sig (whole sig S.opens S.hand)) (nested sig (whole sig S.opens Q.hand)) → (IsTrue r → ¬ IsFrozen sig (round sig os)) → MayReplace M r S.opens S.hand w v → MayReplace M r (S.opens ++ os) S.hand w v
  may_under r S Q w v h g o e start fit free m =
      let C : Context = round sig S.opens in
      let D : Context = round sig os in
      let rv : IsRawTerm sig v = raw_inside sig ok C v m.raw in
      let q : EqualModulo sig v (nested sig Q.hand) = subst (λ u. EqualModulo sig v (nested sig u)) (sym e) (normal_form-sound sig ok rv) in
      let there : EqualModulo sig g.at.whole (plug C v) = trans (subst (λ ps. EqualModulo sig g.at.whole (plug (round sig ps) (nested sig Q.hand))) o g.at.is) (in_context C (back q)) in
      let flattened : EqualModulo sig g.at.whole (nested sig (whole sig S.opens Q.hand)) = subst (λ ps. EqualModulo sig g.at.whole (nested sig (whole sig ps Q.hand))) o (whole_is M ok (Held Q.rank) (Fails Q.rank) Q.opens Q.hand g.at) in
      let z : plug (round sig (S.opens ++ os)) v ≡ plug D (plug C v) = plug-round sig S.opens os v in
      record {
        seen = seen_under S.opens S.hand h.at.canonical m.seen fit.seen;
        free = λ x. subst (λ E. ¬ IsFrozen sig E) (sym (round-append sig S.opens os)) (open_append sig r C D m.free free x);
        raw_part = m.raw_part;
        is_part = m.is_part;
        raw = subst (IsRawTerm sig) (sym z) ((raw_kept sig ok (in_context D there)).0 (raw_under Q g start));
        admitted = subst (IsAdmitted sig) (sym z) (IsAdmitted-equal sig (in_context D (trans (back flattened) there)) fit.admitted);
      }

  kept_run : (S Q : Stand) (B : List Stand) → Q.run ≡ S.run → (rest : Dones) × (outermost_run (Q ∷ B) ≡ both (outermost_run (S ∷ B)) rest)
  kept_run S Q [] e = (none, e ∙ sym (both_none S.run))
  kept_run S Q (P ∷ B) e = (none, sym (both_none (outermost_run (P ∷ B))))

  into-run : (i : ℕ) (t : RawTerm) (S : Stand) → (into_argument sig i t S).run ≡ S.run
  into-run i (numeral n) S = refl
  into-run i (quoted q) S = refl
  into-run i (variable x) S = refl
  into-run i (apply f ts) S = refl

  among-run : (ks : List ℕ) (t : RawTerm) (S : Stand) → (into_several sig ks t S).run ≡ S.run
  among-run [] t S = refl
  among-run (k ∷ ks) (numeral n) S = refl
  among-run (k ∷ ks) (quoted q) S = refl
  among-run (k ∷ ks) (variable x) S = refl
  among-run (k ∷ ks) (apply f ts) S = refl

  out-run : (ps : List Open) (S : Stand) → (going_out sig ps S).run ≡ S.run
  out-run [] S = refl
  out-run (o ∷ ps) S = refl

  -- a move adds to it at its end
  abbrev Grows : List Stand → List Stand → Type 0
  Grows B C = (rest : Dones) × (outermost_run C ≡ both (outermost_run B) rest)

  replacing_grows : (p : Proof) (d : RawTerm → RawTerm → Done) (u : RawTerm) (S : Stand) (B : List Stand) → Grows (S ∷ B) (replacing sig p d u S ∷ B)
  replacing_grows p d u S [] = (one (d (nested sig (whole sig S.opens S.hand)) (nested sig (whole sig S.opens u))), refl)
  replacing_grows p d u S (Q ∷ B) = (none, sym (both_none (outermost_run (Q ∷ B))))

  move_grows : (m : Move) (B : List Stand) → Grows B (play M m B)
  move_grows m [] = (none, refl)
  move_grows (into i) (S ∷ B) = kept_run S (into_argument sig i S.hand S) B (into-run i S.hand S)
  move_grows (among ks) (S ∷ B) = kept_run S (into_several sig ks S.hand S) B (among-run ks S.hand S)
  move_grows out (S ∷ B) = kept_run S (going_out sig S.opens S) B (out-run S.opens S)
  move_grows (begins t) (S ∷ B) = (none, sym (both_none (outermost_run (S ∷ B))))
  move_grows ends (S ∷ []) = (none, sym (both_none S.run))
  move_grows ends (S ∷ Q ∷ B) = kept_run Q (showing sig S Q) B refl
  move_grows (applies k r s vs) (S ∷ B) = replacing_grows (replacement k r s S.read.ready) (by_statement k s S.sides) (becomes M k s S.hand) S B
  move_grows (meets t) (S ∷ B) = replacing_grows row by_row t S B

  moves_grow : (ms : List Move) (B : List Stand) → Grows B (plays M ms B)
  moves_grow [] B = (none, sym (both_none (outermost_run B)))
  moves_grow (m ∷ ms) B =
      let (d, e) = move_grows m B in
      let (r, f) = moves_grow ms (play M m B) in (both d r, f ∙ ap (λ x. both x r) e ∙ both-assoc (outermost_run B) d r)

  all_parts : (ds es : Dones) → AllMayBeUnder M os (both ds es) → AllMayBeUnder M os ds × AllMayBeUnder M os es
  all_parts none es h = (tt, h)
  all_parts (more d ds) es h = let (a, b) = all_parts ds es h.1 in ((h.0, a), b)

  module _ (n : ℕ) (t : RawTerm) (start : IsRawTerm sig (plug (round sig os) (nested sig t))) where
    -- A move that may be made may be made under more operators, where these see each term that is replaced and admit each that comes.
    move_under : (m : Move) (B : List Stand) → AreStanding M B → AreStanding M (play M m B) → IsOutermostOf n t B → AllMayBeUnder M os (outermost_run (play M m B)) → IsMove M m B → IsMove M m (all_under sig os B)
    move_under m [] h g f a i = i
    move_under (into k) (S ∷ []) h g f a i = i
    move_under (into k) (S ∷ Q ∷ B) h g f a i = i
    move_under (among ks) (S ∷ []) h g f a i = i
    move_under (among ks) (S ∷ Q ∷ B) h g f a i = i
    move_under out (S ∷ []) h g f a (o, ps, e) = (o, ps ++ os, ap (λ qs. qs ++ os) e)
    move_under out (S ∷ Q ∷ B) h g f a i = i
    move_under (begins u) (S ∷ []) h g f a i = record { rank = i.rank; above = i.above; canonical = i.canonical; raw = i.raw; admitted = i.admitted }
    move_under (begins u) (S ∷ Q ∷ B) h g f a i = i
    move_under ends (S ∷ []) h g f a i = i
    move_under ends (S ∷ Q ∷ []) h g f a i = i
    move_under ends (S ∷ Q ∷ P ∷ B) h g f a i = i
    move_under (applies k r s vs) (S ∷ []) h g f a i =
        let Q : Stand = replacing sig (replacement k r s S.read.ready) (by_statement k s S.sides) (becomes M k s S.hand) S in
        let fit = (all_parts S.run (one (by_statement k s S.sides (nested sig (whole sig S.opens S.hand)) (nested sig (whole sig S.opens Q.hand)))) a).1.0 in
        let free : IsTrue r → ¬ IsFrozen sig (round sig os) = λ x. fit.1 i.replaces.statement i.replaces.is_there (subst IsTrue (sym i.replaces.rule) x) in
        record {
          statement = i.statement;
          is_there = i.is_there;
          rule = i.rule;
          replaces = i.replaces;
          values = i.values;
          starts = i.starts;
          may = may_under r S Q (instance s i.statement.left) (instance s i.statement.right) h.0 g.0 refl (becomes_is M ok k s S.hand i.statement i.is_there) (subst (λ x. IsRawTerm sig (plug (round sig os) (nested sig x))) (sym f.1) start) fit.0 free i.may;
        }
    move_under (applies k r s vs) (S ∷ Q ∷ B) h g f a i = i
    move_under (meets u) (S ∷ []) h g f a i =
        let Q : Stand = replacing sig row by_row u S in
        let fit = (all_parts S.run (one (by_row (nested sig (whole sig S.opens S.hand)) (nested sig (whole sig S.opens u)))) a).1.0 in
        record {
          form = i.form;
          result = i.result;
          meets = i.meets;
          clean = i.clean;
          is = i.is;
          may = may_under false S Q i.form i.result h.0 g.0 refl (sym i.is) (subst (λ x. IsRawTerm sig (plug (round sig os) (nested sig x))) (sym f.1) start) fit (λ x. absurd (true≢false (sym x))) i.may;
          nothing_waits = i.nothing_waits;
        }
    move_under (meets u) (S ∷ Q ∷ B) h g f a i = i

    pub moves_under : (ms : List Move) (B : List Stand) → AreStanding M B → IsOutermostOf n t B → AllMayBeUnder M os (outermost_run (plays M ms B)) → AreMoves M ms B
        → AreMoves M ms (all_under sig os B) × (plays M ms (all_under sig os B) ≡ all_under sig os (plays M ms B))
    moves_under [] B h f a i = (tt, refl)
    moves_under (m ∷ ms) B h f a i =
        let g : AreStanding M (play M m B) = move_stands M ok m B h i.0 in
        let (rest, e) = moves_grow ms (play M m B) in
        let b : AllMayBeUnder M os (outermost_run (play M m B)) = (all_parts (outermost_run (play M m B)) rest (subst (AllMayBeUnder M os) e a)).0 in
        let p : play M m (all_under sig os B) ≡ all_under sig os (play M m B) = play-under m B h g i.0 in
        let (x, y) = moves_under ms (play M m B) g (outermost_of M m n t B f) a i.1 in
        ((move_under m B h g f b i.0, subst (AreMoves M ms) (sym p) x), ap (plays M ms) p ∙ y)

  -- the start
  same_start : (T : Stand) → IsAtRest sig os T → T ≡ behind_stand T (under_stand sig os (begun T.rank T.hand))
  same_start T r = λ i. record {
    rank = T.rank;
    from = T.from;
    opens = r.opens i;
    hand = T.hand;
    read = record { entered = r.entered i; done = sym (append-nil T.read.done) i; ready = r.nothing_waits i };
    run = sym (both_none T.run) i;
    sides = r.no_sides i;
  }

  -- Moves from a term on are moves from where it stands under these operators.
  pub raised : (ms : List Move) (n : ℕ) (t : RawTerm) (T S : Stand) → IsStanding M (begun n t) → AreMoves M ms (begun n t ∷ []) → plays M ms (begun n t ∷ []) ≡ S ∷ [] → AllMayBeUnder M os S.run
      → IsStanding M T → T.opens ≡ os → T.read.ready ≡ proof.nil → T.rank ≡ n → T.hand ≡ t
      → AreMoves M ms (T ∷ []) × (plays M ms (T ∷ []) ≡ behind_stand T (under_stand sig os S) ∷ [])
  raised ms n t T S h i e a g o r rank hand =
      let start : IsRawTerm sig (plug (round sig os) (nested sig t)) = subst (λ u. IsRawTerm sig (plug (round sig os) (nested sig u))) hand (subst (λ ps. IsRawTerm sig (plug (round sig ps) (nested sig T.hand))) o g.at.raw) in
      let (x, y) = moves_under n t start ms (begun n t ∷ []) (h, tt) (refl, refl) (subst (λ B. AllMayBeUnder M os (outermost_run B)) (sym e) a) i in
      let z : begun T.rank T.hand ≡ begun n t = ap (λ m. begun m T.hand) rank ∙ ap (begun n) hand in
      let s : T ∷ [] ≡ all_behind T (under_stand sig os (begun n t) ∷ []) = ap (λ Q. Q ∷ []) (same_start T (at_rest M os T g o r) ∙ ap (λ Q. behind_stand T (under_stand sig os Q)) z) in (
        subst (AreMoves M ms) (sym s) (moves_behind M ms T (under_stand sig os (begun n t) ∷ []) x),
        ap (plays M ms) s ∙ plays-behind M ms T (under_stand sig os (begun n t) ∷ []) ∙ ap (all_behind T) (y ∙ ap (all_under sig os) e),
      )
