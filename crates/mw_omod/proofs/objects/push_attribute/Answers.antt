use Rattle.std.proofs.Common.{◌∙◌, [], ◌∷◌, refl, sym, ap}
use Rattle.mw_term.specs.Raws.{raw_term}
use Rattle.mw_omod.specs.Seen.{seen_attribute, seen_attributes}
use Rattle.mw_omod.proofs.Moving.{map-append}
use Rattle.mw_omod.proofs.objects.push_attribute.Goals as goal

pub returns-in_ok-push-in-Attribute-clause-all : goal.returns-in_ok-push-in-Attribute-clause-all
returns-in_ok-push-in-Attribute-clause-all c = λ e. (
  record { operator = c.args.operator; sort = c.in-Attribute.sort; value = raw_term c.args.value.now },
  refl,
  refl,
  sym c.role.ensures ∙ c.in-Attribute.is,
  ap seen_attributes c.in_ok-push-in-Attribute.ensures.items ∙ map-append seen_attribute c.args.found.now.items (_ ∷ []),
)
