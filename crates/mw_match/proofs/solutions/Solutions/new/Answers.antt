use Rattle.std.proofs.Common.{◌≡◌, false, None, length, ◌++◌, [], ◌∙◌, ap, subst, sym, refl}
use Rattle.mw_canon.specs.Canonical.{meant}
use Rattle.mw_logic.specs.Signature.{Signature}
use Rattle.mw_position.specs.Variables.{bound_values}
use Rattle.mw_match.specs.Solutions.{AreNamed, IsAllSolutions}
use Rattle.mw_match.specs.Hands.{IsNoneByNumber, coming_with, first_entries}
use Rattle.mw_match.specs.declared.parts.Parts.{Parts}
use Rattle.mw_match.proofs.Candidates.{compiled_solutions, compiled_none, compiled_named}
use Rattle.mw_match.proofs.solutions.Solutions.new.Goals as goal

pub returns-clause-all : goal.returns-clause-all
returns-clause-all c p raw h subject substitution values =
    let k = c.shows.ensures.signature in
    let sig : Signature = c.args.context.now.signature in
    let parts : Parts = record { alloc = c.args.alloc; context = c.args.context; compiled = c.args.compiled; subject = c.in_ok-subject.subject; rest = None } in
    let given : c.as_slice.result.now ≡ bound_values c.args.given.now = c.as_slice.ensures.value ∙ c.in_ok-values.ensures in
    let none : IsNoneByNumber parts (bound_values c.args.given.now) =
    compiled_none parts k.accepted k.well_sorted false false p raw c.args.subject.now c.args.given.now h substitution values subject c.in_ok-subject.ensures refl in
    subst (IsAllSolutions sig false p c.args.subject.now (meant sig c.args.given.now))
    (sym (c.in_ok-solutions.ensures (subst (IsNoneByNumber parts) (sym given) none) ∙ ap (λ vs. coming_with parts (length vs) (first_entries parts vs ++ [])) given))
    (compiled_solutions parts k.accepted k.well_sorted false false p raw c.args.subject.now c.args.given.now h substitution values subject c.in_ok-subject.ensures refl)

pub returns-clause-named : goal.returns-clause-named
returns-clause-named c p raw h subject substitution values =
    let k = c.shows.ensures.signature in
    let sig : Signature = c.args.context.now.signature in
    let parts : Parts = record { alloc = c.args.alloc; context = c.args.context; compiled = c.args.compiled; subject = c.in_ok-subject.subject; rest = None } in
    let given : c.as_slice.result.now ≡ bound_values c.args.given.now = c.as_slice.ensures.value ∙ c.in_ok-values.ensures in
    let none : IsNoneByNumber parts (bound_values c.args.given.now) =
    compiled_none parts k.accepted k.well_sorted false false p raw c.args.subject.now c.args.given.now h substitution values subject c.in_ok-subject.ensures refl in
    subst (AreNamed sig c.args.compiled.now.variables)
    (sym (c.in_ok-solutions.ensures (subst (IsNoneByNumber parts) (sym given) none) ∙ ap (λ vs. coming_with parts (length vs) (first_entries parts vs ++ [])) given))
    (compiled_named parts k.accepted k.well_sorted false false p raw c.args.subject.now c.args.given.now h substitution values subject c.in_ok-subject.ensures refl)
