use Rattle.std.proofs.Common.{◌∙◌, ◌==◌, ap, sym}
use Rattle.std.proofs.lemmas.Bool.{both_ways}
use Rattle.mw_term.specs.Raws.{raw_term}
use Rattle.mw_omod.proofs.Arguments.{as_many, same_arguments}
use Rattle.mw_omod.proofs.objects.class_of.Goals as goal

pub returns-then-not-is_empty : goal.returns-then-not-is_empty
returns-then-not-is_empty c = λ k S e r.
    let none = as_many c.as_slice.result.now _ (c.as_slice.ensures ∙ same_arguments (ap raw_term (sym c.in-Op.is) ∙ e)) in
    both_ways _ c.if-not-is_empty.true (c.is_empty.ensures ∙ ap (λ n. n == 0) none)
