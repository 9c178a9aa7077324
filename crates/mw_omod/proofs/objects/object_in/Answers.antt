use Rattle.std.proofs.Common.{◌∙◌, ◌++◌, ap}
use Rattle.mw_term.specs.Raws.{raw_term}
use Rattle.mw_omod.specs.Seen.{seen_attributes}
use Rattle.mw_omod.proofs.Arguments.{kept_object}
use Rattle.mw_omod.proofs.objects.object_in.Goals as goal

pub returns : goal.returns
returns c =
    let (xs, set, more) = c.in_ok-push_attributes.ensures.all c.if-not-branch.false in
    kept_object c.args.facts.now c.args.classes.now (raw_term c.args.term.now) _ (raw_term c.in-Some.field-0.class.now) (raw_term c.in-Some.field-0.set.now) xs
    c.in-Some.ensures c.in-Some-class_of.ensures.0 c.in-Some-class_of.ensures.1 set (more ∙ ap (λ ys. seen_attributes ys ++ xs) c.new-attributes.ensures.items) c.in_ok-form.ensures c.requires
