use Rattle.std.proofs.Common.{◌∙◌, ap, sym, arith}
use Rattle.std.proofs.lemmas.Bool.{ltb-true, ltb-false}
use Rattle.mw_term.specs.Raws.{raw_term}
use Rattle.mw_omod.proofs.Arguments.{as_many, same_arguments}
use Rattle.mw_omod.proofs.objects.parts_of.Goals.{in_default-args-via-then-args-lt3, in_default-args-via-else-args-lt3+else-args-lt4}
use Rattle.mw_omod.proofs.objects.parts_of.Goals as goal

pub returns-in_default-args : goal.returns-in_default-args
returns-in_default-args c = λ name class set e.
    let three = as_many c.as_slice-args.result.now _ (c.as_slice-args.ensures ∙ same_arguments (ap raw_term (sym c.in-Op.is) ∙ e)) in
    elim c.in_default-args.branch [ in_default-args-via-then-args-lt3 w ↦ omega (arith, three, ltb-true) | in_default-args-via-else-args-lt3+else-args-lt4 w ↦ omega (arith, three, ltb-false) ]
