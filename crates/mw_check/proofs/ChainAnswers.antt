-- What comes of an item, and of a step by what comes of its condition.
use Rattle.std.specs.Prelude.{◌≡◌, ◌≢◌, ℕ, suc, ◌+◌, List, [], ◌∷◌, length, ◌&&◌, cond, Option, Some, None, refl}
use Rattle.std.proofs.Common.{ap, sym, subst, ◌∙◌, arith}
use Rattle.std.proofs.lemmas.Bool.{and_parts, false≢true}
use Rattle.mw_logic.specs.Term.{RawTerm}
use Rattle.mw_logic.specs.Signature.{Signature}
use Rattle.mw_logic.specs.Accepted.{IsAccepted}
use Rattle.mw_logic.specs.Substitution.{Substitution, binds, IsSubstitution}
use Rattle.mw_logic.specs.Parts.{nested}
use Rattle.mw_logic.specs.Module.{Fragment, Statement, Module, IsStatement, binds_fragments}
use Rattle.mw_logic.proofs.Canonical.{IsCanonical, canonical}
use Rattle.mw_least.specs.Workable.{IsWorkable}
use Rattle.mw_canon.specs.Canonical.{IsAdmittedTerm, meant}
use Rattle.mw_deduction.specs.Runs.{Done, Runs}
use Rattle.mw_deduction.specs.Replay.{AreAllCanonical}
use Rattle.mw_proof.specs.Counting.{capped}
use Rattle.mw_prooftext.specs.Grounds.{spot_of}
use Rattle.mw_items.specs.Items.{Item, Items, more, Groups}
use Rattle.mw_items.specs.declared.Step.{Step as StepEntry}
use Rattle.mw_items.specs.declared.Entry.{Entry}
use Rattle.mw_verdict.specs.Checks.{NamesStatement, ChecksOne, by_statement, Shown}
use Rattle.mw_verdict.specs.Leads.{LeadsOne, a_step}
use Rattle.mw_verdict.specs.Verdicts as verdicts
use Rattle.mw_verdict.specs.Verdicts.{Refuses, statement_missing, value_ill_sorted, part_missing, condition_fails, condition_stops, next_past_limit, AtFault, StopsIn}
use Rattle.mw_check.specs.declared.answer.Cause.{Cause}
use Rattle.mw_check.specs.declared.answer.Cause.TheVariants as cause
use Rattle.mw_check.specs.declared.answer.Answer.{Answer}
use Rattle.mw_check.specs.declared.answer.Answer.TheVariants as answer
use Rattle.mw_check.specs.declared.chains.Showing.{Showing}
use Rattle.mw_check.specs.declared.chains.Showing.TheVariants as showing
use Rattle.mw_check.specs.declared.placing.Placed.{Placed}
use Rattle.mw_check.specs.declared.placing.Placed.TheVariants as placed
use Rattle.mw_check.specs.Answers.{AreAdmittedTerms, cause_of, values_by_name, IsNext, ReplacesBy, IsReplacement, IsPlacedBy, IsPlaced, Passes, IsAnswer}
use Rattle.mw_check.specs.Chains.{IsAnswerBefore, HasAdmittedNext, item_of}
use Rattle.mw_check.specs.Groups.{next_of, answer_of, left_of, AreValues, AreReady, AreAtFault, LeadsOn, IsCondition}
use Rattle.mw_check.proofs.ChainEntries.{IsNoRule}
use Rattle.mw_check.proofs.ChainSteps.{stopped_on, checked_on, fault_first, limit_first, no_rule_counts, leads_one}

not_stopped : (c : Cause) → c ≢ cause.Stopped → cause_of c ≢ verdicts.stopped
not_stopped cause.Module n e = cc
not_stopped cause.Text n e = cc
not_stopped cause.Statement n e = cc
not_stopped cause.Binding n e = cc
not_stopped cause.Part n e = cc
not_stopped cause.Overlap n e = cc
not_stopped cause.Condition n e = cc
not_stopped cause.Stopped n e = n refl
not_stopped cause.Limit n e = cc
not_stopped cause.End n e = cc

-- the next term and what is counted
abbrev Next : Type 0
Next = RawTerm × Option ℕ

abbrev next : RawTerm → Option ℕ → Option Next
next u a = Some (u, a)

same_pair : {p q : Next} → Some p ≡ Some q → p ≡ q
same_pair e = cc

same_next : {u v : RawTerm} {a b : Option ℕ} → next u a ≡ next v b → (u ≡ v) × (a ≡ b)
same_next e = let q = same_pair e in (ap (λ (r : Next). r.0) q, ap (λ (r : Next). r.1) q)

-- How a chain goes on behind an item.
module _ (M : Module) (ok : IsAccepted M.signature) (most n : ℕ) (i : Item) (is : Items) (behind : List Entry) (t : RawTerm) where
  pub answered_fault : (a : Answer) (left : List Entry) → IsAnswerBefore M most n i behind t a left → next_of a ≡ None → AreAtFault M most n t (more i is)
  answered_fault (answer.Refused c) left h e = fault_first M most n i is t (cause_of c) h.0 (not_stopped c h.1)
  answered_fault (answer.Stopped None) left ((f, v, x, a), l) e = limit_first M most n i is t v x a
  answered_fault (answer.Stopped (Some u)) left h e = cc
  answered_fault (answer.Passed u k) left h e = cc

  pub answered_on : IsNoRule M i → (a : Answer) (left : List Entry) (v : RawTerm) (count : Option ℕ) → IsAnswerBefore M most n i behind t a left → next_of a ≡ Some (v, count) → LeadsOn M most n t (more i is) v is count × (left ≡ behind)
  answered_on r (answer.Refused c) left v count h e = cc
  answered_on r (answer.Stopped None) left v count h e = cc
  answered_on r (answer.Stopped (Some u)) left v count ((f, w, x, (q, a)), l) e =
      let (p, z) = same_next e in
      (subst (λ y. LeadsOn M most n t (more i is) y is count) (sym q ∙ p) (subst (LeadsOn M most n t (more i is) w is) z (stopped_on M most n i is t w x a f)), l)
  answered_on r (answer.Passed u k) left v count (h, l) e =
      let (p, z) = same_next e in
      let y : ChecksOne M n i t u 0 h.replacements h.done = subst (λ c. ChecksOne M n i t u c h.replacements h.done) (no_rule_counts M most n h.checks r) h.checks in
      (subst (λ y. LeadsOn M most n t (more i is) y is count) p (subst (LeadsOn M most n t (more i is) u is) z (checked_on M most n i is t u (leads_one M ok h.checks h.admitted) h.admitted k h.replacements h.done y h.count_is)), l)

-- What comes of a step.
all_canonical : (sig : Signature) → IsAccepted sig → (vs : List RawTerm) → AreAdmittedTerms sig vs → AreAllCanonical sig vs
all_canonical sig ok [] h = tt
all_canonical sig ok (v ∷ vs) h = ((subst (IsCanonical sig) h.0.canonical (canonical sig ok (nested sig v)), h.0.raw), all_canonical sig ok vs h.1)

module _ (M : Module) (most n : ℕ) (s : StepEntry) (t : RawTerm) where
  abbrev sig : Signature
  sig = M.signature

  pub unnamed : ((st : Statement) → IsStatement M s.statement st → ¬ (s.owise ≡ st.owise)) → (gs : Groups) → IsAnswer M most n (item_of s gs) t (answer.Refused cause.Statement)
  unnamed h gs = (statement_missing h, λ e. cc)

  module _ (work : IsWorkable M) (st : Statement) (is : IsStatement M s.statement st) (kind : s.owise ≡ st.owise) (values : AreAdmittedTerms sig s.values) (size : length s.values ≡ length st.variables) where
    abbrev by_name : Substitution
    by_name = values_by_name sig st.variables s.values

    abbrev named : NamesStatement M s.owise s.statement s.values
    named = record {
      statement = st;
      is_there = is;
      kind = kind;
      subst = by_name;
      values = record { size = size; canonical = all_canonical sig work.signature.accepted s.values values; are = refl };
    }

    pub ill_sorted : ¬ IsSubstitution sig by_name → (gs : Groups) → IsAnswer M most n (item_of s gs) t (answer.Refused cause.Binding)
    ill_sorted h gs = (value_ill_sorted named h, λ e. cc)

    pub no_part : IsSubstitution sig by_name → ((v : RawTerm) → ¬ ReplacesBy sig st by_name (spot_of s.place) t v) → (gs : Groups) → IsAnswer M most n (item_of s gs) t (answer.Refused cause.Part)
    no_part b h gs = (part_missing named b h, λ e. cc)

    -- It replaces there.
    module _ (b : IsSubstitution sig by_name) (found : Substitution) (next : Option RawTerm) (h : IsReplacement sig st by_name (spot_of s.place) t found next) where
      pub found_values : AreValues sig found
      found_values = record { admitted = h.admitted; sorted = subst (IsSubstitution sig) (sym h.values_are) b }

      pub found_ready : AreReady sig (meant sig found) st.fragments
      found_ready = subst (λ r. AreReady sig r st.fragments) (sym h.values_are) (record {
        raw = (work.sides s.statement st is.is_there).fragments;
        bound = (and_parts (binds by_name st.left && binds by_name st.right) (binds_fragments by_name st.fragments) h.binds).1;
      })

      leads : (gs : Groups) → LeadsOne M (item_of s gs) t h.whole
      leads gs = a_step (record { statement = st; is_there = is; kind = kind; subst = by_name; values = named.values; replaces = h.replaces.0 })

      abbrev rules : ℕ
      rules = cond st.rule 1 0

      checks : (gs : Groups) (rs : Runs) (c : ℕ) → Shown M n st.fragments by_name gs rs c → (d : Done) × ChecksOne M n (item_of s gs) t h.whole rules (suc c) d
      checks gs rs c x = (_, by_statement named b h.binds h.replaces.0 h.replaces.1 (λ o. absurd (false≢true (sym (work.statements s.statement st is).ordinary ∙ o))) x)

      passes : (gs : Groups) (rs : Runs) (c k : ℕ) (u : RawTerm) → Shown M n st.fragments by_name gs rs c → k ≡ capped c → IsNext sig h.whole (Some u) → Passes M n (item_of s gs) t u (capped (k + 1))
      passes gs rs c k u x e a =
          let (d, y) = checks gs rs c x in
          subst (λ w. Passes M n (item_of s gs) t w (capped (k + 1))) (sym a.0) (record { rules = rules; replacements = suc c; done = d; checks = y; admitted = a.1; count_is = one_more })
        where
          one_more : capped (k + 1) ≡ capped (suc c)
          one_more = omega (arith, e)

      pub step_answered : (gs : Groups) (behind entries : List Entry) (x : Showing) → IsCondition M most n st.fragments (meant sig found) gs behind x
          → IsAnswerBefore M most n (item_of s gs) behind t (answer_of x next) (left_of x entries)
      step_answered gs behind entries showing.AtFault y = (condition_fails named b h.replaces.0 h.replaces.1 (subst (λ r. AtFault M most n st.fragments r gs) h.values_are y), λ e. cc)
      step_answered gs behind entries (showing.Through None left) (y, l) =
          ((condition_stops named b h.replaces.0 h.replaces.1 (subst (λ r. StopsIn M most n st.fragments r gs) h.values_are y), h.whole, leads gs, h.next_is), l)
      step_answered gs behind entries (showing.Through (Some k) left) ((rs, c, y, e), l) = by_next next h.next_is (subst (λ r. Shown M n st.fragments r gs rs c) h.values_are y)
        where
          by_next : (next : Option RawTerm) → IsNext sig h.whole next → Shown M n st.fragments by_name gs rs c
              → IsAnswerBefore M most n (item_of s gs) behind t (answer_of (showing.Through (Some k) left) next) left.now
          by_next None a x = let (d, z) = checks gs rs c x in (next_past_limit z a, λ e. cc)
          by_next (Some u) a x = (passes gs rs c k u x e a, l)

-- What a step's place and values are found to be.
module _ (M : Module) (most n : ℕ) (s : StepEntry) (t : RawTerm) (work : IsWorkable M) (st : Statement) (is : IsStatement M s.statement st × (s.owise ≡ st.owise)) (values : AreAdmittedTerms M.signature s.values)
    (p : Placed) (h : IsPlaced M st (spot_of s.place) s.values t p) where
  abbrev At : Placed → Type 0
  At q = IsPlacedBy M.signature st (values_by_name M.signature st.variables s.values) (spot_of s.place) t q

  at_this : (q : Placed) → p ≡ q → At q
  at_this q e = subst At e h.1

  pub placed_ill : p ≡ placed.IllSorted → (gs : Groups) → IsAnswer M most n (item_of s gs) t (answer.Refused cause.Binding)
  placed_ill e gs = ill_sorted M most n s t work st is.0 is.1 values h.0 (at_this placed.IllSorted e) gs

  pub placed_nowhere : p ≡ placed.NoPart → (gs : Groups) → IsAnswer M most n (item_of s gs) t (answer.Refused cause.Part)
  placed_nowhere e gs = let (b, f) = at_this placed.NoPart e in no_part M most n s t work st is.0 is.1 values h.0 b f gs

  module _ (found : Substitution) (next : Option RawTerm) (e : p ≡ placed.Next found next) where
    abbrev there : At (placed.Next found next)
    there = at_this (placed.Next found next) e

    pub placed_values : AreValues M.signature found
    placed_values = found_values M most n s t work st is.0 is.1 values h.0 there.0 found next there.1

    pub placed_ready : (C : List Fragment) → C ≡ st.fragments → AreReady M.signature (meant M.signature found) C
    placed_ready C q = subst (AreReady M.signature (meant M.signature found)) (sym q) (found_ready M most n s t work st is.0 is.1 values h.0 there.0 found next there.1)

    pub placed_answered : (C : List Fragment) → C ≡ st.fragments → (gs : Groups) (behind entries : List Entry) (x : Showing) → IsCondition M most n C (meant M.signature found) gs behind x
        → (a : Answer) (left : List Entry) → a ≡ answer_of x next → left ≡ left_of x entries → IsAnswerBefore M most n (item_of s gs) behind t a left
    placed_answered C q gs behind entries x y a left u v =
        subst (λ a. IsAnswerBefore M most n (item_of s gs) behind t a left) (sym u)
        (subst (IsAnswerBefore M most n (item_of s gs) behind t (answer_of x next)) (sym v)
        (step_answered M most n s t work st is.0 is.1 values h.0 there.0 found next there.1 gs behind entries x (subst (λ D. IsCondition M most n D (meant M.signature found) gs behind x) q y)))

pub next_admitted : (S : Signature) (a : Answer) (v : RawTerm) (count : Option ℕ) → HasAdmittedNext S a → next_of a ≡ Some (v, count) → IsAdmittedTerm S v
next_admitted S (answer.Refused c) v count h e = cc
next_admitted S (answer.Stopped None) v count h e = cc
next_admitted S (answer.Stopped (Some u)) v count h e = subst (IsAdmittedTerm S) (same_next e).0 h
next_admitted S (answer.Passed u k) v count h e = subst (IsAdmittedTerm S) (same_next e).0 h

-- an answer behind which the entries are as they must be
pub answered_before : (M : Module) (most n : ℕ) (i : Item) (behind left : List Entry) (t : RawTerm) (a : Answer) → IsAnswer M most n i t a → left ≡ behind → IsAnswerBefore M most n i behind t a left
answered_before M most n i behind left t (answer.Refused c) h e = h
answered_before M most n i behind left t (answer.Stopped next) h e = (h, e)
answered_before M most n i behind left t (answer.Passed u k) h e = (h, e)
