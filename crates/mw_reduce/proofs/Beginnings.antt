-- What turns come to before a first replacement says of the term that the run begins at.
use Rattle.std.specs.Prelude.{◌≡◌, ℕ, zero, suc, List, [], Bool, false, Option, refl}
use Rattle.std.proofs.Common.{sym, subst, ap, ◌∙◌, arith, true≢false}
use Rattle.mw_logic.specs.Term.{RawTerm, Context}
use Rattle.mw_logic.specs.Signature.{Signature, IsRawTerm}
use Rattle.mw_logic.specs.Axioms.{EqualModulo}
use Rattle.mw_logic.specs.Accepted.{IsAccepted}
use Rattle.mw_logic.specs.Parts.{nested, IsClean, IsPart}
use Rattle.mw_logic.specs.NormalForm.{normal_form}
use Rattle.mw_logic.specs.Module.{Module, Row, MeetsRow, by_row, an_equality, an_inequality}
use Rattle.mw_logic.specs.Module as rows
use Rattle.mw_logic.specs.Proof.{reflexivity, steps}
use Rattle.mw_logic.specs.Judgements.{judgements_with, admitted_judgements, Proves, Fails, IsNormal, IsNormalBy}
use Rattle.mw_logic.specs.Ends.{Stops, by_nat}
use Rattle.mw_logic.specs.Confluence.{IsReducible, by_equation}
use Rattle.mw_logic.specs.Confluence as confluence
use Rattle.mw_logic.proofs.AxiomLaws.{trans}
use Rattle.mw_logic.proofs.CanonicalTerms.{fixed, clean as form_clean}
use Rattle.mw_logic.proofs.EqualTerms.{IsPart-equal}
use Rattle.mw_logic.proofs.Invariance.{normal_form-kept}
use Rattle.mw_logic.proofs.Ranks.{admitted_within, normal}
use Rattle.mw_canon.specs.Canonical.{IsAdmittedTerm}
use Rattle.mw_least.specs.Workable.{IsWorkable}
use Rattle.mw_deduction.specs.Chains.{proof_of}
use Rattle.mw_deduction.specs.Runs.{Dones, none, more}
use Rattle.mw_deduction.specs.Standing.{round}
use Rattle.mw_deduction.specs.Stands.{IsStanding}
use Rattle.mw_deduction.specs.Replay.{Move, Stand, whole, begun}
use Rattle.mw_deduction.proofs.MoveStands.{whole_is}
use Rattle.mw_proof.proofs.Begun.{number, Begins, carries_begins}
use Rattle.mw_proof.specs.Reasons.{reason_of}
use Rattle.mw_proof.specs.declared.reason.Reason.{Reason}
use Rattle.mw_proof.specs.declared.reason.Reason.TheVariants as reason
use Rattle.mw_frames.specs.State.{Run, Data, Leads, InHand, IsRun}
use Rattle.mw_frames.specs.Choosing.{decided_term, round_choice}
use Rattle.mw_frames.specs.Redex.{IsSeenIn, walked}
use Rattle.mw_frames.specs.Steps.{IsAsked, IsEnd, IsDecided, asked_term}
use Rattle.mw_frames.specs.Fires.{IsPartTaken}
use Rattle.mw_frames.specs.declared.job.Job.TheVariants.{Walk}
use Rattle.mw_frames.specs.declared.job.Frame.{Frame}
use Rattle.mw_frames.specs.declared.looking.Asked.{Asked}
use Rattle.mw_frames.proofs.Deciding.{choice_in_hand, choice_seen, choice_row}
use Rattle.mw_frames.proofs.PartsAsked.{there, asked_part_value}
use Rattle.mw_frames.proofs.Refusing.{is_part_there}
use Rattle.mw_frames.proofs.Turning.{standing}
use Rattle.mw_reduce.specs.Limits.{limits_within}
use Rattle.mw_reduce.specs.Turns.{IsMetAt, IsBigAt}
use Rattle.mw_reduce.specs.Attempts.{IsReady, IsHaltedAt, IsHalting}
use Rattle.mw_reduce.specs.Evaluations.{run_of}
use Rattle.mw_reduce.proofs.Applying.{row_applies, big_taken}
use Rattle.mw_reduce.proofs.Ends.{normal_at, by_equations, stops_by_pair, stops_by_nest, stops_by_side}
use Rattle.mw_reduce.proofs.Reduced.{is_run, starts}

-- a row that leads somewhere is met
row_meets : (sig : Signature) (N : RawTerm → Type 0) (t u : RawTerm) → Row sig N t u → MeetsRow sig t
row_meets sig N t u (rows.arithmetic b i d) = by_row (rows.arithmetic b i d)
row_meets sig N t u (rows.equal_terms p e r) = an_equality p
row_meets sig N t u (rows.unequal_terms p a b n r) = an_equality p
row_meets sig N t u (rows.not_different p e r) = an_inequality p
row_meets sig N t u (rows.different p a b n r) = an_inequality p
row_meets sig N t u (rows.if_true p c) = by_row (rows.if_true p c)
row_meets sig N t u (rows.if_false p c) = by_row (rows.if_false p c)

by_nothing : (M : Module) (n : ℕ) (t : RawTerm) → Proves M n reflexivity t t
unfolding judgements_with
by_nothing M zero t = refl
by_nothing M (suc n) t = refl

no_done : (ds : Dones) → number ds ≡ 0 → ds ≡ none
no_done none e = refl
no_done (more e ds) q = cc

module _ (M : Module) (work : IsWorkable M) (n : ℕ) (t : RawTerm) (a : IsAdmittedTerm M.signature t) where
  abbrev sig : Signature
  sig = M.signature

  abbrev ok : IsAccepted sig
  ok = work.signature.accepted

  abbrev K : Run
  K = run_of M n t

  run : IsRun K sig
  run = is_run M work n t a

  -- the whole is the term where nothing was replaced
  idle : (ms : List Move) (S : Stand) → Leads K 0 ms S → EqualModulo sig (nested sig t) (nested sig (whole sig S.opens S.hand))
  idle ms S leads =
      let st : IsStanding M S = standing K ok work.signature.well_sorted 0 ms S run.start leads in
      let b : Begins sig (nested sig S.from) st.at.whole st.done (steps (proof_of S.read.done)) = carries_begins sig [] (proof_of S.read.done) (nested sig S.from) st.at.whole st.done st.carries in
      let same : EqualModulo sig (nested sig S.from) st.at.whole = b.nothing (no_done st.done (b.size ∙ leads.steps)) in
      trans (subst (λ u. EqualModulo sig (nested sig u) st.at.whole) leads.from same) (whole_is M ok (admitted_judgements M S.rank).Held (admitted_judgements M S.rank).Fails S.opens S.hand st.at)

  part_in_hand : (d : Data) (w : RawTerm) (h : InHand K 0 d (Walk w)) → IsSeenIn sig d.frames w → (x : RawTerm) → IsRawTerm sig x → IsClean sig x → normal_form sig x ≡ w → IsPart sig (nested sig t) (round sig h.stand.opens) x
  part_in_hand d w h seen x raw clean e =
      IsPart-equal sig (idle d.moves h.stand h.leads) (round sig h.stand.opens) x (is_part_there K sig run 0 d w h seen x (whole sig h.stand.opens h.stand.hand) raw clean e refl)

  -- what was asked for, or what is taken of it, is a part of the term
  part_here : (d : Data) (q : Asked) → Rattle.mw_frames.specs.Steps.IsAskedFor K 0 d q → (take : Option (List ℕ)) (w : RawTerm) → IsPartTaken sig take (asked_term d q) w → (x : RawTerm) → IsRawTerm sig x → IsClean sig x → normal_form sig x ≡ w
      → (C : Context) × IsPart sig (nested sig t) C x
  part_here d q h take w part x raw clean e =
      let (d', i) = there K sig run 0 d q h take w part in
      let in_hand : InHand K 0 d' (Walk w) = walked K 0 d' w i.holds in
      (round sig in_hand.stand.opens, part_in_hand d' w in_hand i.seen x raw clean e)

  pub ended_normal : (d : Data) (u : RawTerm) → IsEnd K 0 d u → IsNormal M n (nested sig t)
  ended_normal d u e =
      let here : whole sig e.stand.opens e.stand.hand ≡ u = ap (λ os. whole sig os e.stand.hand) e.closed ∙ e.hand in
      let same : EqualModulo sig (nested sig t) (nested sig u) = subst (λ v. EqualModulo sig (nested sig t) (nested sig v)) here (idle d.moves e.stand e.leads) in
      let is : t ≡ u = sym a.canonical ∙ normal_form-kept sig ok same ∙ e.normal.canonical in
      subst (λ v. IsNormal M n (nested sig v)) (sym is) (normal_at M n (nested sig u) (normal M (admitted_judgements M n).Fails (Fails M n) (admitted_within M n).Fails (nested sig u) e.normal.normal))

  pub found_reducible : (d : Data) (q : Asked) (c : Rattle.mw_index.specs.declared.choices.Choice.Choice) (sides : List Rattle.mw_trail.specs.Tracks.Track) → IsReady K 0 d q c sides → IsReducible M n (nested sig t)
  found_reducible d q c sides h =
      let r = h.made.redex in
      let w : RawTerm = h.made.part in
      let v = asked_part_value K sig run 0 d q h.asked c.take w h.made.taken in
      let (C, part) = part_here d q h.asked c.take w h.made.taken (nested sig w) v.raw (form_clean sig ok w v.canonical) (fixed sig ok w v.canonical) in
      let shown = r.shown (begun n t) [] (starts M work n t a, tt) refl refl in
      by_equation C (nested sig w) part c.by.now.number r.statement r.is_there (h.made.rule ∙ h.equation) r.solution r.reached shown.evidence r.solves ((admitted_within M n).Held r.statement.fragments r.solution shown.evidence r.reached shown.holds)

  by_a_row : (C : Context) (x v : RawTerm) → IsPart sig (nested sig t) C x → Row sig (IsNormalBy M (admitted_judgements M n).Fails) x v → IsReducible M n (nested sig t)
  by_a_row C x v part row = confluence.by_row C x part (row_meets sig (IsNormalBy M (admitted_judgements M n).Fails) x v row)

  pub met_reducible : (d : Data) (q : Asked) (take : Option (List ℕ)) (to : RawTerm) → IsMetAt K 0 d q take to → IsReducible M n (nested sig t)
  met_reducible d q take to h =
      let (w, taken, row) = row_applies M ok n (asked_term d q) take to h.given in
      let (C, part) = part_here d q h.asked take w taken row.form row.raw row.clean row.is in
      by_a_row C row.form (nested sig to) part row.row

  pub decided_reducible : (d : Data) (f : Frame) (b : Bool) → IsDecided K 0 d f b → IsReducible M n (nested sig t)
  decided_reducible d f b h =
      let row = choice_row K sig run 0 d f b h in
      let in_hand = choice_in_hand K sig run 0 d f b h in
      by_a_row (round sig in_hand.stand.opens) row.form _ (part_in_hand (round_choice d f) (decided_term sig d f) in_hand (choice_seen K sig run 0 d f b h) row.form row.raw row.clean row.is) row.row

  pub big_stops : (side : ℕ) (d : Data) (q : Asked) (take : Option (List ℕ)) → IsBigAt K 0 d q take → Stops M n (limits_within 1 side) (nested sig t) reflexivity (nested sig t) by_nat
  big_stops side d q take h =
      let b = h.big in
      let (C, part) = part_here d q h.asked take b.is_form.part (big_taken sig (asked_term d q) take b) b.form b.is_form.raw b.is_form.clean b.is_form.is in
      stops_by_pair M n (nested sig t) reflexivity (nested sig t) (limits_within 1 side) (by_nothing M n (nested sig t)) (omega arith) (record { context = C; pair = b.form; is_part = part; too_big = b.too_big })

  pub halted_stops : (side : ℕ) (d : Data) (q : Asked) (take : Option (List ℕ)) (why : Reason) → IsHaltedAt K 0 side d q take why → Stops M n (limits_within 1 side) (nested sig t) reflexivity (nested sig t) (reason_of why)
  halted_stops side d q take why h =
      let g = h.halting in
      let part = part_here d q h.asked take g.part g.taken (nested sig g.part) g.raw g.clean g.is in
      by_reason why (nested sig g.part) part g.halting
    where
      by_reason : (why : Reason) (w : RawTerm) → (C : Context) × IsPart sig (nested sig t) C w → IsHalting M false n side w why → Stops M n (limits_within 1 side) (nested sig t) reflexivity (nested sig t) (reason_of why)
      by_reason reason.Nest w part h = stops_by_nest M n (limits_within 1 side) (nested sig t) reflexivity (nested sig t) false (by_equations M n (limits_within 1 side) reflexivity (nested sig t)) (by_nothing M n (nested sig t)) (omega arith) w part.0 part.1 (λ x. absurd (true≢false (sym x))) h
      by_reason reason.Condition w part h = stops_by_side M n (limits_within 1 side) (nested sig t) reflexivity (nested sig t) false (by_equations M n (limits_within 1 side) reflexivity (nested sig t)) (by_nothing M n (nested sig t)) (omega arith) w part.0 part.1 (λ x. absurd (true≢false (sym x))) h
      by_reason reason.Rules w part h = absurd h.cause
      by_reason reason.Rewrites w part h = absurd h.cause
      by_reason reason.Depth w part h = absurd h.cause
      by_reason reason.Nat w part h = absurd h.cause
