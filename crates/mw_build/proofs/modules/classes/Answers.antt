use Rattle.std.proofs.Common.{◌≡◌, ◌∙◌, List, ℕ, true, ap, map, nat_eq, codes, subst, sym}
use Rattle.std.proofs.lemmas.Bool.{both_ways, not-false, not-true}
use lib.Pointwise.{pointwise}
use Rattle.mw_sorts.proofs.Numbering.{same_numbers, numbers_same}
use Rattle.mw_module.specs.Units.{seen_all, seen_lined, seen_unit}
use Rattle.mw_module.specs.declared.units.Lined.{Lined}
use Rattle.mw_import.specs.Flat.{all_statements}
use Rattle.mw_build.specs.Modules.{flattened}
use Rattle.mw_build.specs.Classes.{of_others}
use Rattle.mw_build.proofs.Accepting.{objects_so}
use Rattle.mw_build.proofs.modules.classes.Goals as goal

pub returns-then-ne : goal.returns-then-ne
returns-then-ne c =
    let word = c.args.unit.now.word.now in
    of_others (λ e.
    let yes : pointwise nat_eq word c.as_slice.result.now ≡ true = subst (λ (ns : List ℕ). pointwise nat_eq word ns ≡ true) (e ∙ sym c.as_slice.ensures) (numbers_same word) in
    both_ways _ (not-true _ (sym c.ne.ensures ∙ c.if-ne.true)) yes)

pub returns : goal.returns
returns c =
    let us = c.args.units.now in
    let u = seen_unit c.args.unit.now in
    let word = c.args.unit.now.word.now in
    let same : word ≡ codes "omod" = same_numbers word c.as_slice.result.now (not-false _ (sym c.ne.ensures ∙ c.if-ne.false)) ∙ c.as_slice.ensures in
    let statements : seen_all c.as_slice-3.result.now ≡ flattened us u c.args.flat.now = ap seen_all c.as_slice-3.ensures.value ∙ c.in_ok-statements.ensures
    ∙ ap (λ (ts : List Lined). all_statements us u.line c.args.flat.now (map seen_lined ts)) c.as_slice-2.ensures.value in
    objects_so c.args.declarations.now.signature word (seen_all c.as_slice-3.result.now) (flattened us u c.args.flat.now) same statements c.classes_of.result c.classes_of.ensures
