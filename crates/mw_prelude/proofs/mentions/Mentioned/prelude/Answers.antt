use Rattle.std.proofs.Common.{◌∙◌}
use Rattle.mw_prelude.specs.declared.modules.Predefined.TheVariants as module_of
use Rattle.mw_prelude.proofs.Mentioning.{in_order, part, needed}
use Rattle.mw_prelude.proofs.mentions.Mentioned.prelude.Goals as goal

pub returns : goal.returns
returns c texts is =
    let m = c.args.self in
    in_order (part m.some module_of.Bool) (part m.nat module_of.Nat) (part m.qid module_of.Qid) (part m.configuration module_of.Configuration) c.new-text.ensures.items c.in_ok-add.ensures
    c.in_ok-add-2.ensures c.in_ok-add-3.ensures c.in_ok-add-4.ensures
    ∙ needed m texts is
