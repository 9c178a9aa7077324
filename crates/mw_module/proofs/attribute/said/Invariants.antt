use Rattle.std.proofs.Common.{◌≡◌, drop}
use Rattle.mw_module.specs.Attributes.{seen_attributes, no_attributes}
use Rattle.mw_module.specs.Forms.{said_from}
use Rattle.mw_module.proofs.attribute.said.Given as goal

abbrev pub invariant-loop-part : goal.invariant-loop-part
invariant-loop-part l = said_from l.tokens (seen_attributes l.said) (drop l.part-index l.parts) ≡ said_from l.tokens no_attributes l.parts
