-- How far the groups of a condition have come, in their entries.
use Rattle.std.specs.Prelude.{◌≡◌, ◌≤◌, ℕ, zero, suc, List, [], ◌∷◌, ◌++◌, length, Option, Some, None, option_map, refl}
use Rattle.std.proofs.Common.{ap, sym, subst, ◌∙◌, arith}
use denote.Ref.{Bor}
use Rattle.mw_logic.specs.Term.{RawTerm}
use Rattle.mw_logic.specs.Signature.{Signature}
use Rattle.mw_logic.specs.Substitution.{Substitution, instance}
use Rattle.mw_logic.specs.Module.{Fragment, Module}
use Rattle.mw_deduction.specs.Runs as runs
use Rattle.mw_deduction.specs.Replay.{sides_of}
use Rattle.mw_items.specs.Items.{Items, Groups, end, group}
use Rattle.mw_items.specs.Entries.{entries_of, entries_of_groups}
use Rattle.mw_items.specs.declared.Entry.{Entry}
use Rattle.mw_items.specs.declared.Entry.TheVariants.{Step, Built, Open, Close}
use Rattle.mw_verdict.specs.Checks.{unconditional}
use Rattle.mw_verdict.specs.Verdicts.{HasGroup, the_first, a_later, behind}
use Rattle.mw_check.specs.declared.chains.Led.{Led}
use Rattle.mw_check.specs.declared.chains.Led.TheVariants as led
use Rattle.mw_check.specs.declared.chains.Evaluation.{Evaluation}
use Rattle.mw_check.specs.declared.chains.Evaluation.TheVariants as evaluation
use Rattle.mw_check.specs.declared.chains.Ends.{Ends}
use Rattle.mw_check.specs.declared.chains.Ends.TheVariants as ends
use Rattle.mw_check.specs.declared.chains.Showing.{Showing}
use Rattle.mw_check.specs.declared.chains.Showing.TheVariants as showing
use Rattle.mw_check.specs.Chains.{HaveAdmittedValues, OpensNoGroup, EndsItems, AreLeft}
use Rattle.mw_check.specs.Groups.{counted_both, both_ends, after_close, IsPassedOver, MeetTheirs, IsStart, IsChain, IsEndOf, IsEvaluation, IsFirstEvaluation, IsEnding, at_side, AreEnds, AreEndsOf, FaultAtOne, GoesOn, IsFragment, IsShownBy, IsEvaluatedFrom}
use Rattle.mw_check.proofs.ChainWays.{left_on}
use Rattle.mw_check.proofs.GroupEntries.{IsGroupFirst, group_first, groups_over, skipped_group}
use Rattle.mw_check.proofs.GroupSteps.{begun, gone_on, shown_over, fragment_fault, fragment_passed, fragment_unmet, one_side, two_sides, end_reducible, end_tested}

-- what is left behind a group that is passed over
skip_left : (sig : Signature) (d : ℕ) (es left : List Entry) → after_close d es ≡ Some left → HaveAdmittedValues sig es → AreLeft sig es left
skip_left sig d [] left e h = cc
skip_left sig d (Step s ∷ es) left e h = left_on (skip_left sig d es left e h.1) (omega arith)
skip_left sig d (Built p ∷ es) left e h = left_on (skip_left sig d es left e h) (omega arith)
skip_left sig d (Open ∷ es) left e h = left_on (skip_left sig (suc d) es left e h) (omega arith)
skip_left sig zero (Close ∷ es) left e h = let p : es ≡ left = cc in subst (AreLeft sig (Close ∷ es)) p (record { values = h; within = omega arith })
skip_left sig (suc d) (Close ∷ es) left e h = left_on (skip_left sig d es left e h) (omega arith)

pub passed_left : (sig : Signature) (es : List Entry) (e : Evaluation) → IsPassedOver es e → HaveAdmittedValues sig es → IsEvaluatedFrom sig es e
passed_left sig es evaluation.AtFault h v = absurd h
passed_left sig es (evaluation.Through None k left) (p, q, r) v = (tt, skip_left sig 0 es left.now r v)
passed_left sig es (evaluation.Through (Some a) k left) (p, q, r) v = cc

-- entries behind others
pub evaluated_on : (sig : Signature) (a b : List Entry) → length b ≤ length a → (e : Evaluation) → IsEvaluatedFrom sig b e → IsEvaluatedFrom sig a e
evaluated_on sig a b l evaluation.AtFault h = tt
evaluated_on sig a b l (evaluation.Through x k left) h = (h.0, left_on h.1 l)

-- The first group, of a side whose instance is l, stands behind the entry that opens it.
module _ (M : Module) (most n : ℕ) (l : RawTerm) (inside : List Entry) (gs : Groups) (rest : List Entry) (is : Open ∷ inside ≡ entries_of_groups gs ++ rest) (none : OpensNoGroup rest) where
  abbrev there : IsGroupFirst inside gs rest
  there = group_first inside gs rest is none

  at_first : (e : Evaluation) → IsEvaluation M most n l there.items (entries_of_groups there.others ++ rest) e → IsFirstEvaluation M most n l gs rest e
  at_first e h = subst (λ ks. IsFirstEvaluation M most n l ks rest e) (sym there.is) h

  pub first_skipped : IsStart M l None → (e : Evaluation) → IsPassedOver inside e → IsFirstEvaluation M most n l gs rest e
  first_skipped start e h = at_first e (by_answer e h)
    where
      by_answer : (e : Evaluation) → IsPassedOver inside e → IsEvaluation M most n l there.items (entries_of_groups there.others ++ rest) e
      by_answer evaluation.AtFault h = absurd h
      by_answer (evaluation.Through None None left) (p, q, r) = (at_side start.0 start.1, skipped_group inside left.now there.items (entries_of_groups there.others ++ rest) (sym r) there.stand)
      by_answer (evaluation.Through None (Some k) left) (p, q, r) = cc
      by_answer (evaluation.Through (Some a) k left) (p, q, r) = cc

  module _ (t : RawTerm) (start : IsStart M l (Some t)) (e : Led) (told : (items : Items) (es : List Entry) → inside ≡ entries_of items ++ es → EndsItems es → IsChain M most n t items es e) where
    told_there : IsChain M most n t there.items (Close ∷ (entries_of_groups there.others ++ rest)) e
    told_there = told there.items (Close ∷ (entries_of_groups there.others ++ rest)) there.stand tt

    pub first_faulty : e ≡ led.AtFault → IsFirstEvaluation M most n l gs rest evaluation.AtFault
    first_faulty p =
        let k : IsChain M most n t there.items (Close ∷ (entries_of_groups there.others ++ rest)) led.AtFault = subst (IsChain M most n t there.items (Close ∷ (entries_of_groups there.others ++ rest))) p told_there in
        at_first evaluation.AtFault (start.2, k l (sym start.0))

    pub first_ended : (a : RawTerm) (count : Option ℕ) (left : Bor (List Entry)) → e ≡ led.To a count left → (x : Evaluation) → IsEnding M most n a count left.now x → IsFirstEvaluation M most n l gs rest x
    first_ended a count left p x h =
        let k : IsChain M most n t there.items (Close ∷ (entries_of_groups there.others ++ rest)) (led.To a count left) = subst (IsChain M most n t there.items (Close ∷ (entries_of_groups there.others ++ rest))) p told_there in
        at_first x (by_answer x h k)
      where
        same_behind : {es fs : List Entry} → Close ∷ es ≡ Close ∷ fs → es ≡ fs
        same_behind q = cc

        by_answer : (x : Evaluation) → IsEnding M most n a count left.now x → IsChain M most n t there.items (Close ∷ (entries_of_groups there.others ++ rest)) (led.To a count left) → IsEvaluation M most n l there.items (entries_of_groups there.others ++ rest) x
        by_answer evaluation.AtFault h k = (start.2, end_reducible M most n l t there.items start.0 a k.0 h)
        by_answer (evaluation.Through b told after) (q, r, z) k = (
          subst (λ c. IsEndOf M most n l there.items c told) (sym q) (end_tested M most n l t there.items start.0 start.1 start.2 a count told k.0 k.1 z),
          same_behind (sym r ∙ k.2),
        )

-- The groups of sides, which come first.
module _ (M : Module) (most n : ℕ) (s : Substitution) where
  -- that of the first side
  pub record IsFirstEnd (l : RawTerm) (gs : Groups) (rest : List Entry) (a : Option RawTerm) (count : Option ℕ) (left : List Entry) : Type 0 where
    pub items : Items
    pub others : Groups
    pub is : gs ≡ group items others
    pub told : IsEndOf M most n (instance s l) items a count
    pub stand : left ≡ entries_of_groups others ++ rest

  module _ (l : RawTerm) (gs : Groups) (rest : List Entry) (e : Evaluation) (told : IsFirstEvaluation M most n (instance s l) gs rest e) where
    pub side_fault : (ls ks : List RawTerm) → ks ≡ l ∷ ls → e ≡ evaluation.AtFault → FaultAtOne M most n s ks gs
    side_fault ls ks p q = by_groups gs (subst (IsFirstEvaluation M most n (instance s l) gs rest) q told)
      where
        by_groups : (gs : Groups) → IsFirstEvaluation M most n (instance s l) gs rest evaluation.AtFault → FaultAtOne M most n s ks gs
        by_groups end h = absurd h
        by_groups (group g gs) h = record { side = l; items = g; has = subst (λ ls. HasGroup l g ls (group g gs)) (sym p) the_first; admitted = h.0; fault = h.1 }

    pub first_end : (a : Option RawTerm) (count : Option ℕ) (left : Bor (List Entry)) → e ≡ evaluation.Through a count left → IsFirstEnd l gs rest a count left.now
    first_end a count left q = by_groups gs (subst (IsFirstEvaluation M most n (instance s l) gs rest) q told)
      where
        by_groups : (gs : Groups) → IsFirstEvaluation M most n (instance s l) gs rest (evaluation.Through a count left) → IsFirstEnd l gs rest a count left.now
        by_groups end h = absurd h
        by_groups (group g gs) h = record { items = g; others = gs; is = refl; told = h.0; stand = h.1 }

  pub one_told : (l : RawTerm) (ks : List RawTerm) (gs : Groups) (rest left : List Entry) (a : Option RawTerm) (count : Option ℕ) (xs : Option (List RawTerm)) → ks ≡ l ∷ [] → IsFirstEnd l gs rest a count left → xs ≡ option_map (λ a. a ∷ []) a
      → AreEndsOf M most n s ks gs xs count × (left ≡ entries_of_groups (behind ks gs) ++ rest)
  one_told l ks gs rest left a count xs p h q =
      subst (λ hs. AreEndsOf M most n s ks hs xs count × (left ≡ entries_of_groups (behind ks hs) ++ rest)) (sym h.is)
      (subst (λ ls. AreEndsOf M most n s ls (group h.items h.others) xs count × (left ≡ entries_of_groups (behind ls (group h.items h.others)) ++ rest)) (sym p)
      (subst (λ ys. AreEndsOf M most n s (l ∷ []) (group h.items h.others) ys count) (sym q) (one_side M most n s l h.items h.others a count h.told), h.stand))

  module _ (l m : RawTerm) (ks : List RawTerm) (p : ks ≡ l ∷ m ∷ []) (gs : Groups) (rest left : List Entry) (a : Option RawTerm) (count : Option ℕ) (h : IsFirstEnd l gs rest a count left)
      (none : OpensNoGroup rest) (e : Evaluation) (told : (hs : Groups) (es : List Entry) → left ≡ entries_of_groups hs ++ es → OpensNoGroup es → IsFirstEvaluation M most n (instance s m) hs es e) where
    abbrev second : IsFirstEvaluation M most n (instance s m) h.others rest e
    second = told h.others rest h.stand none

    pub second_fault : e ≡ evaluation.AtFault → FaultAtOne M most n s ks gs
    second_fault q =
        let f : FaultAtOne M most n s (m ∷ []) h.others = side_fault m h.others rest e second [] (m ∷ []) refl q in
        record {
          side = f.side;
          items = f.items;
          has = subst (λ ls. HasGroup f.side f.items ls gs) (sym p) (subst (HasGroup f.side f.items (l ∷ m ∷ [])) (sym h.is) (a_later f.has));
          admitted = f.admitted;
          fault = f.fault;
        }

    pub two_told : (b : Option RawTerm) (more total : Option ℕ) (after : Bor (List Entry)) (xs : Option (List RawTerm)) → e ≡ evaluation.Through b more after → xs ≡ both_ends a b → total ≡ counted_both count more
        → AreEndsOf M most n s ks gs xs total × (after.now ≡ entries_of_groups (behind ks gs) ++ rest)
    two_told b more total after xs q r z =
        let k : IsFirstEnd m h.others rest b more after.now = first_end m h.others rest e second b more after q in
        subst (λ hs. AreEndsOf M most n s ks hs xs total × (after.now ≡ entries_of_groups (behind ks hs) ++ rest)) (sym (h.is ∙ ap (group h.items) k.is))
        (subst (λ ls. AreEndsOf M most n s ls (group h.items (group k.items k.others)) xs total × (after.now ≡ entries_of_groups (behind ls (group h.items (group k.items k.others))) ++ rest)) (sym p) (
          subst (λ ys. AreEndsOf M most n s (l ∷ m ∷ []) (group h.items (group k.items k.others)) ys total) (sym r)
              (subst (AreEndsOf M most n s (l ∷ m ∷ []) (group h.items (group k.items k.others)) (both_ends a b)) (sym z) (two_sides M most n s l m h.items k.items k.others a b count more h.told k.told)),
          k.stand,
        ))

  -- of a fragment
  module _ (f : Fragment) (gs : Groups) (rest : List Entry) (e : Ends) (told : AreEnds M most n s (sides_of f) gs rest e) where
    pub fragment_faulty : e ≡ ends.AtFault → IsFragment M most n s f gs rest showing.AtFault
    fragment_faulty p = fragment_fault M most n s f gs (subst (AreEnds M most n s (sides_of f) gs rest) p told)

    module _ (xs : Option (List RawTerm)) (count : Option ℕ) (left : Bor (List Entry)) (p : e ≡ ends.Through xs count left) where
      abbrev told_so : AreEndsOf M most n s (sides_of f) gs xs count × (left.now ≡ entries_of_groups (behind (sides_of f) gs) ++ rest)
      told_so = subst (AreEnds M most n s (sides_of f) gs rest) p told

      pub fragment_on : MeetTheirs M.signature s f xs → IsFragment M most n s f gs rest (showing.Through count left)
      fragment_on m = (behind (sides_of f) gs, told_so.1, fragment_passed M most n s f gs xs count told_so.0 m)

      pub fragment_off : ¬ MeetTheirs M.signature s f xs → IsFragment M most n s f gs rest showing.AtFault
      fragment_off m = fragment_unmet M most n s f gs xs count told_so.0 m

  -- of fragments, one after another
  module _ (C : List Fragment) (gs : Groups) (rest : List Entry) where
    abbrev pub IsCourse : List Fragment → List Entry → Option ℕ → Type 0
    IsCourse D left count = (hs : Groups) × (left ≡ entries_of_groups hs ++ rest) × GoesOn M most n s C gs D hs count

    pub course_begins : (entries : List Entry) → entries ≡ entries_of_groups gs ++ rest → IsCourse C entries (Some 0)
    course_begins entries e = (gs, e, begun M most n s C gs)

    module _ (D : List Fragment) (left : List Entry) (count : Option ℕ) (course : IsCourse D left count) where
      pub course_over : D ≡ [] → OpensNoGroup left → IsShownBy M most (suc n) C s gs count × (left ≡ rest)
      course_over p none =
          let (e, l) = groups_over left course.0 rest course.1 none in
          (shown_over M most n s C gs count (subst (λ hs. GoesOn M most n s C gs [] hs count) e (subst (λ E. GoesOn M most n s C gs E course.0 count) p course.2)), l)

      module _ (f : Fragment) (E : List Fragment) (p : D ≡ f ∷ E) (none : OpensNoGroup rest) (x : Showing)
          (told : (hs : Groups) (es : List Entry) → left ≡ entries_of_groups hs ++ es → OpensNoGroup es → IsFragment M most n s f hs es x) where
        abbrev told_here : IsFragment M most n s f course.0 rest x
        told_here = told course.0 rest course.1 none

        abbrev goes : GoesOn M most n s C gs (f ∷ E) course.0 count
        goes = subst (λ B. GoesOn M most n s C gs B course.0 count) p course.2

        pub course_on : (more total : Option ℕ) (after : Bor (List Entry)) → x ≡ showing.Through more after → total ≡ counted_both count more → IsCourse E after.now total
        course_on more total after q r =
            let h : IsFragment M most n s f course.0 rest (showing.Through more after) = subst (IsFragment M most n s f course.0 rest) q told_here in
            (h.0, h.1, subst (GoesOn M most n s C gs E h.0) (sym r) (gone_on M most n s C (f ∷ E) E gs course.0 h.0 count more goes (h.2 E)))

-- where there is no condition
pub none_shown : (M : Module) (most n : ℕ) (C : List Fragment) (s : Substitution) (gs : Groups) (rest entries : List Entry) → C ≡ [] → entries ≡ entries_of_groups gs ++ rest → OpensNoGroup entries → IsShownBy M most n C s gs (Some 0) × (entries ≡ rest)
none_shown M most n C s gs rest entries p e none =
    let (q, l) = groups_over entries gs rest e none in
    (subst (λ D. IsShownBy M most n D s gs (Some 0)) (sym p) (subst (λ hs. IsShownBy M most n [] s hs (Some 0)) (sym q) (runs.end, 0, unconditional, refl)), l)
