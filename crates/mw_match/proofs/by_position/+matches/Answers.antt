use Rattle.std.proofs.Common.{◌≡◌, ◌≤◌, ◌<◌, length, List, ap, sym, ◌∙◌, subst, arith, refl, get_or, true, false, ◌++◌, [], ◌∷◌}
use Rattle.mw_logic.specs.Term.{RawTerm, RawTerms, numeral, quoted, variable}
use Rattle.mw_logic.specs.NormalForm.{highest}
use Rattle.mw_position.specs.Positions.{position, counted, counted_all, AreNumbered, IsNumbered, Begins}
use Rattle.mw_logic.specs.Terms.{terms_of}
use Rattle.mw_matching.specs.Matches.{evaluated, evaluated_all}
use Rattle.mw_pattern.specs.Clean.{clean, clean_all}
use Rattle.mw_match.specs.Matching.{Decides}
use Rattle.mw_pattern.proofs.Lists.{got}
use Rattle.mw_position.proofs.Begins.{begins_same, begins_then, begins_append}
use Rattle.mw_match.specs.Straight.{AreStraight}
use Rattle.mw_match.proofs.Straight.{straight_at, one_pattern, no_number}
use Rattle.mw_match.proofs.Matching.{lengths_differ, matching_starts, numbered_here, pattern_height, matching_on, matching_fails, decides_same, decides_var_old, decides_var_new}
use Rattle.mw_match.proofs.by_position.+matches.Goals as goal

pub all_match-returns-then-n-terms-clause-decides : goal.all_match-returns-then-n-terms-clause-decides
all_match-returns-then-n-terms-clause-decides t c =
    let e : clean_all c.slice-list.result.now ≡ c.args.patterns.now = c.slice-list.ensures in
    let P : RawTerms → Type 0 = λ ps. Decides false (counted_all (length c.args.values.now.items) ps) c.args.values.now.items c.args.values.now.items (λ us. evaluated_all c.args.facts.now us ps ≡ terms_of c.args.terms.now) in
    subst P e (lengths_differ c.args.facts.now c.args.values.now.items c.args.values.now.items c.slice-list.result.now c.args.terms.now c.if-n-terms.true)

pub all_match-matches-requires : goal.all_match-matches-requires
all_match-matches-requires t c =
    let h = pattern_height _ _ _ c.loop-i-test.true c.index-list-i.is in
    let e : highest (clean_all c.slice-list.result.now) ≡ highest c.args.patterns.now = ap highest c.slice-list.ensures in
    let straight = straight_at c.args.facts.now _ _ _ c.loop-i-test.true c.index-list-i.is (subst (AreStraight c.args.facts.now) (sym c.slice-list.ensures) c.requires.straight) in
    (omega (arith, h, e, c.decreases), (numbered_here _ _ c.loop-i-test.true c.index-list-i.is c.loop-i.invariant.1, straight))

pub all_match-loop-i-init : goal.all_match-loop-i-init
all_match-loop-i-init t c =
    let e : clean_all c.slice-list.result.now ≡ c.args.patterns.now = c.slice-list.ensures in
    (refl, matching_starts _ _ _ _ (subst (λ ps. AreNumbered (length c.args.values.now.items) ps) (sym e) c.requires.numbered) c.if-n-terms.false)

pub all_match-loop-i-preserved : goal.all_match-loop-i-preserved
all_match-loop-i-preserved t c =
    let d = rw c.if-not-branch.false at c.in_ok-matches.ensures.decides in
    (refl, matching_on _ _ _ _ _ _ _ _ _ c.loop-i-test.true c.index-list-i.is c.index-terms-i.is d (c.in_ok-matches.ensures.count c.if-not-branch.false) c.loop-i.invariant.1)

pub matches-returns-in-Some-clause-decides : goal.matches-returns-in-Some-clause-decides
matches-returns-in-Some-clause-decides t c =
    let v = c.deref.ensures.value in
    let l : c.in-Var.i < length c.args.values.now.items = rw (← v) c.in-Some.ensures.lookup.3.0 in
    let g : c.in-Some.value.now ≡ get_or c.args.values.now.items c.in-Var.i c.in-Some.value.now = rw (← v) c.in-Some.ensures.lookup.1 in
    let d = decides_var_old c.args.facts.now c.args.values.now.items c.in-Var.i c.in-Some.value.now c.args.term.now c.same.result (got _ _ _ l g) c.same.ensures in
    let e : clean c.args.pattern.now ≡ variable (position c.in-Var.i) = ap clean c.in-Var.is in
    subst (λ p. Decides c.same.result (counted (length c.args.values.now.items) p) c.args.values.now.items c.args.values.now.items (λ us. evaluated c.args.facts.now us p ≡ c.args.term.now)) (sym e) d

pub matches-returns-in_ok-push-in-None-clause-decides : goal.matches-returns-in_ok-push-in-None-clause-decides
matches-returns-in_ok-push-in-None-clause-decides t c =
    let v = c.deref.ensures.value in
    let l : length c.args.values.now.items ≤ c.in-Var.i = rw (← v) c.in-None.ensures.lookup.3 in
    let e : clean c.args.pattern.now ≡ variable (position c.in-Var.i) = ap clean c.in-Var.is in
    let n : c.in-Var.i ≤ length c.args.values.now.items = subst (λ p. IsNumbered (length c.args.values.now.items) p) e c.requires.numbered in
    let i : c.in-Var.i ≡ length c.args.values.now.items = omega (arith, l, n) in
    let m : c.push.new.self.items ≡ c.args.values.now.items ++ c.args.term.now ∷ [] = c.in_ok-push-in-None.ensures.items ∙ ap (λ x. c.args.values.now.items ++ x ∷ []) c.in_ok-value-in-None.ensures in
    let d = decides_var_new c.args.facts.now c.args.values.now.items c.push.new.self.items c.in-Var.i c.args.term.now i m in
    subst (λ p. Decides true (counted (length c.args.values.now.items) p) c.args.values.now.items c.push.new.self.items (λ us. evaluated c.args.facts.now us p ≡ c.args.term.now)) (sym e) d

pub all_match-returns-then-not-branch-clause-decides : goal.all_match-returns-then-not-branch-clause-decides
all_match-returns-then-not-branch-clause-decides t c =
    let e : clean_all c.slice-list.result.now ≡ c.args.patterns.now = c.slice-list.ensures in
    let d = rw c.if-not-branch.true at c.in_ok-matches.ensures.decides in
    let old : List RawTerm = c.args.values.now.items in
    let P : RawTerms → Type 0 = λ ps. Decides false (counted_all (length old) ps) old old (λ us. evaluated_all c.args.facts.now us ps ≡ terms_of c.args.terms.now) in
    subst P e (matching_fails _ old _ c.matches.new.values.items old _ _ _ _ _ c.loop-i-test.true c.index-list-i.is c.index-terms-i.is d c.loop-i.invariant.1)

pub matches-returns-in-Nat-clause-decides : goal.matches-returns-in-Nat-clause-decides
matches-returns-in-Nat-clause-decides t c =
    let old : List RawTerm = c.args.values.now.items in
    let e : clean c.args.pattern.now ≡ numeral c.in-Nat.number = ap clean c.in-Nat.is in
    let d = decides_same old (length old) (numeral c.in-Nat.number ≡ c.args.term.now) c.is_numeral.result c.is_numeral.ensures in
    subst (λ p. Decides c.is_numeral.result (counted (length old) p) old old (λ us. evaluated c.args.facts.now us p ≡ c.args.term.now)) (sym e) d

pub matches-returns-in-Qid-clause-decides : goal.matches-returns-in-Qid-clause-decides
matches-returns-in-Qid-clause-decides t c =
    let old : List RawTerm = c.args.values.now.items in
    let e : clean c.args.pattern.now ≡ quoted c.in-Qid.name = ap clean c.in-Qid.is in
    let d = decides_same old (length old) (quoted c.in-Qid.name ≡ c.args.term.now) c.is_quoted.result c.is_quoted.ensures in
    subst (λ p. Decides c.is_quoted.result (counted (length old) p) old old (λ us. evaluated c.args.facts.now us p ≡ c.args.term.now)) (sym e) d

-- the values that were there stay in front
pub matches-returns-in-Nat-clause-kept : goal.matches-returns-in-Nat-clause-kept
matches-returns-in-Nat-clause-kept t c = begins_same c.args.values.now.items

pub matches-returns-in-Qid-clause-kept : goal.matches-returns-in-Qid-clause-kept
matches-returns-in-Qid-clause-kept t c = begins_same c.args.values.now.items

pub all_match-returns-then-n-terms-clause-kept : goal.all_match-returns-then-n-terms-clause-kept
all_match-returns-then-n-terms-clause-kept t c = begins_same c.args.values.now.items

pub all_match-returns-in_err-matches-clause-kept : goal.all_match-returns-in_err-matches-clause-kept
all_match-returns-in_err-matches-clause-kept t c = begins_then c.args.values.now.items c.loop-i.values.items c.matches.new.values.items c.loop-i.invariant.1.begins c.matches.ensures.kept

pub all_match-returns-then-not-branch-clause-kept : goal.all_match-returns-then-not-branch-clause-kept
all_match-returns-then-not-branch-clause-kept t c = begins_then c.args.values.now.items c.loop-i.values.items c.matches.new.values.items c.loop-i.invariant.1.begins c.matches.ensures.kept

pub matches-returns-in_err-value-in-None-clause-kept : goal.matches-returns-in_err-value-in-None-clause-kept
matches-returns-in_err-value-in-None-clause-kept t c = begins_same c.args.values.now.items

pub matches-returns-in_err-push-in-None-clause-kept : goal.matches-returns-in_err-push-in-None-clause-kept
matches-returns-in_err-push-in-None-clause-kept t c = subst (λ (vs : List RawTerm). Begins c.args.values.now.items vs) (sym c.in_err-push-in-None.ensures.items) (begins_same c.args.values.now.items)

pub matches-returns-in_ok-push-in-None-clause-kept : goal.matches-returns-in_ok-push-in-None-clause-kept
matches-returns-in_ok-push-in-None-clause-kept t c =
    let items : c.push.new.self.items ≡ c.args.values.now.items ++ c.in_ok-value-in-None.value ∷ [] = c.in_ok-push-in-None.ensures.items in
    subst (λ (vs : List RawTerm). Begins c.args.values.now.items vs) (sym items) (begins_append c.args.values.now.items (c.in_ok-value-in-None.value ∷ []))

pub matches-returns-then-f-g-clause-kept : goal.matches-returns-then-f-g-clause-kept
matches-returns-then-f-g-clause-kept t c = begins_same c.args.values.now.items

pub matches-returns-in-Some-clause-kept : goal.matches-returns-in-Some-clause-kept
matches-returns-in-Some-clause-kept t c = begins_same c.args.values.now.items

pub matches-returns-in_default-clause-kept : goal.matches-returns-in_default-clause-kept
matches-returns-in_default-clause-kept t c = begins_same c.args.values.now.items

pub matches_number-returns-then-number-eq0-clause-kept : goal.matches_number-returns-then-number-eq0-clause-kept
matches_number-returns-then-number-eq0-clause-kept t c = begins_same c.args.values.now.items

pub matches_number-returns-then-list-ne1-clause-kept : goal.matches_number-returns-then-list-ne1-clause-kept
matches_number-returns-then-list-ne1-clause-kept t c = begins_same c.args.values.now.items

pub matches_number-returns-in_err-less-clause-kept : goal.matches_number-returns-in_err-less-clause-kept
matches_number-returns-in_err-less-clause-kept t c = begins_same c.args.values.now.items

pub matches_number-returns-then-list-ne1-clause-decides : goal.matches_number-returns-then-list-ne1-clause-decides
matches_number-returns-then-list-ne1-clause-decides t c =
    no_number c.args.facts.now _ c.args.values.now.items c.args.values.now.items c.args.operator c.args.number c.args.patterns.now c.requires.straight.0 c.requires.straight.1
    (λ us h. c.if-list-ne1.true (one_pattern c.args.facts.now us c.slice-list.result.now h.less (ap (evaluated_all c.args.facts.now us) c.slice-list.ensures ∙ h.only)))
