-- A row of the schemata is met at the term that the machine has in hand.
use Rattle.std.specs.Prelude.{◌≡◌, ◌⊎◌, ◌≤◌, ◌<◌, ◌+◌, ◌&&◌, ◌||◌, ℕ, suc, List, [], ◌∷◌, ◌++◌, Bool, true, false, Option, Some, None, refl, ⊤}
use Rattle.std.proofs.Common.{sym, subst, ap, ◌∙◌, arith, inl, inr}
use Rattle.std.proofs.lemmas.Bool.{or_parts}
use Rattle.mw_logic.specs.Term.{RawTerm, RawTerms, numeral, apply, nil, cons, plug}
use Rattle.mw_logic.specs.Signature.{Signature, Identity, constant_of, numeral_of, IsRawTerm}
use Rattle.mw_logic.specs.Accepted.{IsAccepted}
use Rattle.mw_logic.specs.Axioms.{EqualModulo}
use Rattle.mw_logic.specs.Kinds.{is_successor}
use Rattle.mw_logic.specs.Parts.{is_assoc, nested, number_of_terms, IsAdmitted}
use Rattle.mw_logic.specs.NormalForm.{is_comm, identity_of, rebuilt, identity_or_empty, arranged, counted, applied_in, normal_form, normal_forms, is_largest, has_largest, some_largest, height}
use Rattle.mw_logic.specs.Module.{Module, BuiltIn, Result, number, truth, nothing, too_big, result_of, Denotes, IsTruth, Row}
use Rattle.mw_logic.specs.Module as schema
use Rattle.mw_logic.specs.Proof.{row}
use Rattle.mw_logic.specs.Judgements.{admitted_judgements}
use Rattle.mw_logic.specs.WellFormed.{IsWellFormed}
use Rattle.mw_logic.proofs.AxiomLaws.{sym as back}
use Rattle.mw_logic.proofs.CanonicalTerms.{fixed}
use Rattle.mw_logic.proofs.CleanForms.{raw_two}
use Rattle.mw_logic.proofs.Holes.{Each-unarranged}
use Rattle.mw_logic.proofs.RawKept.{raw_kept}
use Rattle.mw_logic.proofs.RawLed.{leads_raw}
use Rattle.mw_logic.proofs.Soundness.{normal_form-sound}
use Rattle.mw_deduction.specs.Standing.{round, IsSeen}
use Rattle.mw_deduction.specs.Runs.{by_row}
use Rattle.mw_deduction.specs.Replay.{Move, meets, Stand, replacing, plays, AreMoves, MayMeet, whole}
use Rattle.mw_deduction.proofs.Clear.{IsBranch}
use Rattle.mw_deduction.proofs.Largest.{largest_applied}
use Rattle.mw_deduction.proofs.Moves.{plays-append, moves-append}
use Rattle.mw_deduction.proofs.ReadingLaws as reading
use Rattle.mw_frames.specs.declared.job.Job.TheVariants.{Walk}
use Rattle.mw_frames.specs.State.{Run, Data, Leads, IsRun, InHand, IsNormalHere, HasNormalArguments}
use Rattle.mw_frames.specs.Redex.{MayCome, IsRowOf, MayMeetRow, HasInHand, IsSeenIn, hole_level}
use Rattle.mw_frames.specs.Fires.{Becomes, by_schema, Refuses}
use Rattle.mw_frames.proofs.FiringHere.{admitted_here, raw_after_here, seen_there, replaced_here, so_in_hand}
use Rattle.mw_frames.proofs.Larger.{number_arranged}
use Rattle.mw_frames.proofs.Redexes.{counted_on, IsReplaced}
use Rattle.mw_frames.proofs.Refusing.{is_part_there, refuses_deep, refuses_large}

-- What a row gives: a numeral, a constant, or one of two branches.
data Given (form v : RawTerm) : Type 0 where
  a_number : (k : ℕ) → v ≡ numeral k → Given form v
  a_constant : (c : ℕ) → v ≡ apply c nil → Given form v
  a_branch : (f : ℕ) (c a b : RawTerm) → form ≡ apply f (cons c (cons a (cons b nil))) → (v ≡ a) ⊎ (v ≡ b) → Given form v

a_truth : (sig : Signature) (b : Bool) (form v : RawTerm) → IsTruth sig b v → Given form v
a_truth sig b form v (c, e, named) = a_constant c e

given : (sig : Signature) {N : RawTerm → Type 0} (form v : RawTerm) → Row sig N form v → Given form v
given sig form v (schema.arithmetic {f} {m} {n} b is d) = by_result (result_of b m n) d
  where
    by_result : (r : Result) → Denotes sig r v → Given form v
    by_result (number k) d = a_number k d
    by_result (truth c) d = a_truth sig c form v d
    by_result nothing d = absurd d
    by_result too_big d = absurd d
given sig form v (schema.equal_terms p e d) = a_truth sig true form v d
given sig form v (schema.unequal_terms p n m e d) = a_truth sig false form v d
given sig form v (schema.not_different p e d) = a_truth sig false form v d
given sig form v (schema.different p n m e d) = a_truth sig true form v d
given sig form v (schema.if_true {f} {c} {u = a} {v = b} p d) = a_branch f c a b refl (inl refl)
given sig form v (schema.if_false {f} {c} {u = a} {v = b} p d) = a_branch f c a b refl (inr refl)

many : (s : Bool) (f : ℕ) (us : RawTerms) → 2 ≤ number_of_terms us → counted s f us ≡ apply f us
many s f nil h = absurd (omega (arith, h))
many s f (cons t nil) h = absurd (omega (arith, h))
many s f (cons t (cons u us)) h = refl

module _ (M : Module) (well : IsWellFormed M) (n : ℕ) (w t : RawTerm) (r : IsRowOf M n w t) where
  abbrev sig : Signature
  sig = M.signature

  is_itself : normal_form sig (nested sig t) ≡ t
  is_itself = fixed sig well.accepted t r.value.canonical

  -- it may come for the term
  pub row_comes : MayCome sig w (nested sig t)
  row_comes =
      let e : EqualModulo sig r.form (nested sig w) = subst (λ u. EqualModulo sig r.form (nested sig u)) r.is (normal_form-sound sig well.accepted r.raw) in
      let led = leads_raw M well (λ b x u v y. ⊤) (admitted_judgements M n).Held (admitted_judgements M n).Fails row [] r.form (nested sig t) (r.row, r.clean, tt) r.raw in
      record { raw = r.value.raw; is_ground = r.value.ground; kinds = λ L k. led.1 L ((raw_kept sig well.accepted (back e)).1 L k) }

  -- a constant's canonical form has no arguments
  no_branch : (c : ℕ) → IsBranch (normal_form sig (apply c nil)) → ⊥
  no_branch c = by_assoc (is_assoc sig c) refl
    where
      by_identity : (i : Option Identity) → IsBranch (identity_or_empty i c) → ⊥
      by_identity None b = b
      by_identity (Some (constant_of d)) b = b
      by_identity (Some (numeral_of m)) b = b

      none : (x : Bool) → arranged x nil ≡ nil
      none true = refl
      none false = refl

      by_assoc : (m : Bool) → is_assoc sig c ≡ m → IsBranch (applied_in sig c nil) → ⊥
      by_assoc true h b = by_identity (identity_of sig c) (subst (λ us. IsBranch (rebuilt (identity_of sig c) c us)) (none (is_comm sig c)) (rw h at b))
      by_assoc false h b = subst (λ us. IsBranch (counted (is_successor sig c) c us)) (none (is_comm sig c)) (rw h at b)

  -- `s_` stands on the largest numeral in it nowhere, if it does so nowhere in the term
  pub row_small : has_largest sig w ≡ false → has_largest sig t ≡ false
  row_small h = ap (has_largest sig) (sym is_itself) ∙ of (given sig r.form (nested sig t) r.row)
    where
      constant_small : (c : ℕ) → has_largest sig (normal_form sig (apply c nil)) ≡ false
      constant_small c = largest_applied sig well.accepted c nil ∙ ap (λ us. (is_successor sig c && is_largest us) || false) (none (is_comm sig c)) ∙ never (is_successor sig c)
        where
          none : (x : Bool) → arranged x nil ≡ nil
          none true = refl
          none false = refl

          never : (b : Bool) → ((b && false) || false) ≡ false
          never true = refl
          never false = refl

      of : Given r.form (nested sig t) → has_largest sig (normal_form sig (nested sig t)) ≡ false
      of (a_number k e) = ap (λ v. has_largest sig (normal_form sig v)) e
      of (a_constant c e) = ap (λ v. has_largest sig (normal_form sig v)) e ∙ constant_small c
      of (a_branch f c a b e which) =
          let us : RawTerms = normal_forms sig (cons c (cons a (cons b nil))) in
          let all = or_parts (is_successor sig f && is_largest (arranged (is_comm sig f) us)) (some_largest sig us)
          (sym (largest_applied sig well.accepted f us) ∙ ap (λ x. has_largest sig (normal_form sig x)) (sym e) ∙ ap (has_largest sig) r.is ∙ h) in
          let p = or_parts (has_largest sig (normal_form sig c)) (has_largest sig (normal_form sig a) || (has_largest sig (normal_form sig b) || false)) all.1 in
          let q = or_parts (has_largest sig (normal_form sig a)) (has_largest sig (normal_form sig b) || false) p.1 in
          let s = or_parts (has_largest sig (normal_form sig b)) false q.1 in
          elim which [ inl i ↦ ap (λ x. has_largest sig (normal_form sig x)) i ∙ q.0 | inr i ↦ ap (λ x. has_largest sig (normal_form sig x)) i ∙ s.0 ]

  -- a branch is an argument of the term, so it is normal
  pub branch_normal : HasNormalArguments M n w → IsBranch t → IsNormalHere M n t
  branch_normal args branch = subst (IsNormalHere M n) is_itself (of (given sig r.form (nested sig t) r.row))
    where
      there : IsBranch (normal_form sig (nested sig t))
      there = subst IsBranch (sym is_itself) branch

      of : Given r.form (nested sig t) → IsNormalHere M n (normal_form sig (nested sig t))
      of (a_number k e) = absurd (subst (λ v. IsBranch (normal_form sig v)) e there)
      of (a_constant c e) = absurd (no_branch c (subst (λ v. IsBranch (normal_form sig v)) e there))
      of (a_branch f c a b e which) =
          let us : RawTerms = normal_forms sig (cons c (cons a (cons b nil))) in
          let plain : is_assoc sig f ≡ false = by_test (is_assoc sig f) refl in
          let z : w ≡ apply f (arranged (is_comm sig f) us) = sym r.is ∙ ap (normal_form sig) e ∙ rw plain (three (is_successor sig f) (is_comm sig f) (normal_form sig c) (normal_form sig a) (normal_form sig b)) in
          let all = Each-unarranged (IsNormalHere M n) (is_comm sig f) us (args f (arranged (is_comm sig f) us) z) in
          elim which [ inl i ↦ subst (λ v. IsNormalHere M n (normal_form sig v)) (sym i) all.1.0 | inr i ↦ subst (λ v. IsNormalHere M n (normal_form sig v)) (sym i) all.1.1.0 ]
        where
          by_test : (m : Bool) → is_assoc sig f ≡ m → m ≡ false
          by_test false h = refl
          by_test true h = absurd (two (raw_two sig well.accepted f h (cons c (cons a (cons b nil))) (subst (IsRawTerm sig) e r.raw)))
            where
              two : ((x : RawTerm) × (y : RawTerm) × (cons c (cons a (cons b nil)) ≡ cons x (cons y nil))) → ⊥
              two (x, y, q) = cc

          three : (s x : Bool) (u v z : RawTerm) → counted s f (arranged x (cons u (cons v (cons z nil)))) ≡ apply f (arranged x (cons u (cons v (cons z nil))))
          three s x u v z = many s f (arranged x (cons u (cons v (cons z nil)))) (let n = number_arranged x (cons u (cons v (cons z nil))) in omega (arith, n))

-- the row is met where a run stands
module _ (K : Run) (ok : IsAccepted K.over.signature) (count : ℕ) (w t : RawTerm) (r : IsRowOf K.over K.rank w t) where
  pub meets_row : (ms : List Move) (S : Stand) → Leads K count ms S → S.hand ≡ w → IsSeen K.over.signature S.opens w → IsRawTerm K.over.signature (plug (round K.over.signature S.opens) (nested K.over.signature t))
      → IsAdmitted K.over.signature (plug (round K.over.signature S.opens) (nested K.over.signature t)) → IsReplaced K false count (ms ++ meets t ∷ []) S t
  meets_row ms S h e seen raw a =
      let M : Module = K.over in
      let sig : Signature = K.over.signature in
      let here : IsRowOf M S.rank w t = subst (λ n. IsRowOf M n w t) (sym h.rank) r in
      let may : MayMeet M t S = record {
        form = here.form;
        result = nested sig t;
        meets = here.row;
        clean = here.clean;
        is = fixed sig ok t r.value.canonical;
        may = record { seen = subst (IsSeen sig S.opens) (sym e) seen; free = λ z. absurd (Rattle.std.proofs.Common.true≢false (sym z)); raw_part = here.raw; is_part = here.is ∙ sym e; raw = raw; admitted = a };
        nothing_waits = h.ready;
      } in
      let T : Stand = replacing sig row by_row t S in
      let one = (reading.one row S.read).1 in
      let by_rules = (reading.one row S.read).0 in
      let old = h.steps in
      record {
        stand = T;
        leads = record {
          plays = plays-append M ms (meets t ∷ []) K.start ∙ ap (plays M (meets t ∷ [])) h.plays;
          moves = moves-append M ms (meets t ∷ []) K.start h.moves (subst (AreMoves M (meets t ∷ [])) (sym h.plays) (may, tt));
          rank = h.rank;
          from = h.from;
          ready = refl;
          steps = omega (arith, one, old);
          rules = counted_on false by_rules h.rules;
        };
        opens = refl;
        hand = refl;
      }

module _ (K : Run) (sig : Signature) (run : IsRun K sig) (count : ℕ) where
  abbrev here : Signature
  here = K.over.signature

  -- what comes of it is in hand
  pub meets_so : (m n : Data) (w t : RawTerm) → MayMeetRow K count m w t → n.frames ≡ m.frames → n.done ≡ m.done → n.jobs ≡ m.jobs → n.values ≡ m.values ++ t ∷ [] → n.moves ≡ m.moves ++ meets t ∷ [] → HasInHand K (suc count) n t
  meets_so m n w t h ef ed ej ev em =
      let z = h.stands in
      let S : Stand = z.in_hand.stand in
      let v : RawTerm = nested here t in
      let c = row_comes K.over run.well K.rank w t h.row in
      let e : t ≡ normal_form here v = sym (fixed here run.accepted t h.row.value.canonical) in
      let a : IsAdmitted here (plug (round here S.opens) v) =
      admitted_here K sig run count m w z.in_hand z.seen v c
      (subst (λ u. hole_level here m.frames u + height u ≤ 1000) e z.low) (ap (λ u. has_largest here (whole here S.opens u)) (sym e) ∙ z.small) in
      let raw = raw_after_here K sig run count m w z.in_hand z.seen v c in
      let f = meets_row K run.accepted count w t h.row m.moves S z.in_hand.leads z.in_hand.hand (seen_there K sig run count m w z.in_hand z.seen) raw a in
      so_in_hand K sig run (suc count) m n (t ∷ []) _ t (replaced_here K sig run count m w z.in_hand false t (t ∷ []) _ f) ef ed ej ev em

  -- why the machine stops where it would come
  module _ (m : Data) (w t u : RawTerm) (h : InHand K count m (Walk w)) (seen : IsSeenIn here m.frames w) (r : IsRowOf K.over K.rank w t) (q : u ≡ whole here h.stand.opens h.stand.hand) where
    becomes_met : Becomes K.over K.rank false (nested here u) (plug (round here h.stand.opens) (nested here t))
    becomes_met = by_schema (round here h.stand.opens) r.form (nested here t) (is_part_there K sig run count m w h seen r.form u r.raw r.clean r.is q) r.row

    is_itself_here : t ≡ normal_form here (nested here t)
    is_itself_here = sym (fixed here run.accepted t r.value.canonical)

    pub row_deep : 1000 < hole_level here m.frames t + height t → Refuses K false true (nested here u)
    row_deep d = refuses_deep K sig run count m w h seen false (nested here t) u (row_comes K.over run.well K.rank w t r) becomes_met (subst (λ v. 1000 < hole_level here m.frames v + height v) is_itself_here d)

    pub row_large : hole_level here m.frames t + height t ≤ 1000 → has_largest here (whole here h.stand.opens t) ≡ true → Refuses K false false (nested here u)
    row_large l z =
        refuses_large K sig run count m w h seen false (nested here t) u (row_comes K.over run.well K.rank w t r) becomes_met (subst (λ v. hole_level here m.frames v + height v ≤ 1000) is_itself_here l)
        (ap (λ v. has_largest here (whole here h.stand.opens v)) (sym is_itself_here) ∙ z)
