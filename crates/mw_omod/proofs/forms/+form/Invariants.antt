use Rattle.std.proofs.Common.{◌≡◌, ◌+◌, ◌*◌, ◌≤◌, ◌++◌, length}
use Rattle.mw_logic.specs.NormalForm.{height, highest}
use Rattle.mw_term.specs.Raws.{raw_term, raw_terms}
use Rattle.mw_omod.specs.Seen.{forms_of}
use Rattle.mw_omod.proofs.forms.+form.Given as goal

abbrev pub decreases-form : goal.decreases-form
decreases-form l = 2 * height (raw_term l.term.now)

abbrev pub decreases-all_forms : goal.decreases-all_forms
decreases-all_forms l = 2 * highest (raw_terms l.terms.now) + 1

abbrev pub invariant-all_forms-loop-rest : goal.invariant-all_forms-loop-rest
invariant-all_forms-loop-rest l = record {
  told : l.made.items ++ forms_of l.facts l.rest ≡ forms_of l.facts l.fn.terms;
  high : highest (raw_terms l.rest) ≤ highest (raw_terms l.fn.terms);
}

abbrev pub decreases-all_forms-loop-rest : goal.decreases-all_forms-loop-rest
decreases-all_forms-loop-rest l = length l.rest
