use Rattle.std.proofs.Common.{◌≡◌, Bool, true, None, length, ◌++◌, [], cond, ◌∙◌, ap, subst, sym}
use Rattle.mw_canon.specs.Canonical.{meant}
use Rattle.mw_logic.specs.Signature.{Signature}
use Rattle.mw_position.specs.Variables.{bound_values}
use Rattle.mw_matching.specs.Found.{Values}
use Rattle.mw_solving.specs.Values.{AreValues}
use Rattle.mw_compile.specs.declared.compiled.Compiled.{Compiled}
use Rattle.mw_match.specs.Solutions.{AreNamed, IsAllSolutions}
use Rattle.mw_match.specs.Parts.{rest_of, rest_pattern}
use Rattle.mw_match.specs.Hands.{IsNoneByNumber, coming_with, first_entries, picked_entries}
use Rattle.mw_match.specs.Picks.{MayPick}
use Rattle.mw_match.specs.declared.parts.Parts.{Parts}
use Rattle.mw_match.proofs.Joined.{TakesParts, taken_from}
use Rattle.mw_match.proofs.Candidates.{compiled_solutions, compiled_none, compiled_named}
use Rattle.mw_match.proofs.solutions.in_parts.Goals as goal

abbrev parts_of : goal.In_ok-solutions → Parts
parts_of c = record { alloc = c.args.alloc; context = c.args.context; compiled = c.args.compiled; subject = c.in_ok-subject.subject; rest = c.in_ok-rest.rest }

taken : (c : goal.In_ok-solutions) (vs : Values) → vs ≡ c.args.given.now → TakesParts (parts_of c) vs c.args.subject.now true c.are_picked-by_picks.result
taken c vs e =
    let compiled : Compiled = c.args.compiled.now in
    let t = c.args.subject.now in
    taken_from (parts_of c) vs t c.are_picked-by_picks.result
    (λ w. subst (λ s. MayPick s compiled t) c.facts.ensures (c.are_picked-by_picks.ensures w))
    (c.in_ok-rest.ensures
    ∙ ap (λ s. cond c.are_picked-by_picks.result None (rest_of c.args.given.now (rest_pattern s compiled.positions.single.items compiled.pattern (length compiled.variables) t))) c.facts-2.ensures
    ∙ ap (λ vs. cond c.are_picked-by_picks.result None (rest_of vs (rest_pattern c.args.context.now.signature compiled.positions.single.items compiled.pattern (length compiled.variables) t))) (sym e))

pub returns-clause-all : goal.returns-clause-all
returns-clause-all c p s0 e raw h v substitution values =
    let k = c.shows.ensures.signature in
    let sig : Signature = c.args.context.now.signature in
    let t = c.args.subject.now in
    let b : Bool = c.are_picked-by_picks.result in
    let parts : Parts = parts_of c in
    let old : AreValues sig (bound_values s0) = subst (AreValues sig) (sym e) values in
    let none : IsNoneByNumber parts (bound_values s0) = compiled_none parts k.accepted k.well_sorted true b p raw t s0 h substitution old v c.in_ok-subject.ensures (taken c (bound_values s0) e) in
    subst (IsAllSolutions sig true p t (meant sig s0))
    (sym (c.in_ok-solutions.ensures (subst (IsNoneByNumber parts) e none) ∙ ap (λ vs. coming_with parts (length vs) (first_entries parts vs ++ cond b (picked_entries parts vs) [])) (sym e)))
    (compiled_solutions parts k.accepted k.well_sorted true b p raw t s0 h substitution old v c.in_ok-subject.ensures (taken c (bound_values s0) e))

pub returns-clause-named : goal.returns-clause-named
returns-clause-named c p s0 e raw h v substitution values =
    let k = c.shows.ensures.signature in
    let sig : Signature = c.args.context.now.signature in
    let t = c.args.subject.now in
    let b : Bool = c.are_picked-by_picks.result in
    let parts : Parts = parts_of c in
    let old : AreValues sig (bound_values s0) = subst (AreValues sig) (sym e) values in
    let none : IsNoneByNumber parts (bound_values s0) = compiled_none parts k.accepted k.well_sorted true b p raw t s0 h substitution old v c.in_ok-subject.ensures (taken c (bound_values s0) e) in
    subst (AreNamed sig c.args.compiled.now.variables)
    (sym (c.in_ok-solutions.ensures (subst (IsNoneByNumber parts) e none) ∙ ap (λ vs. coming_with parts (length vs) (first_entries parts vs ++ cond b (picked_entries parts vs) [])) (sym e)))
    (compiled_named parts k.accepted k.well_sorted true b p raw t s0 h substitution old v c.in_ok-subject.ensures (taken c (bound_values s0) e))
