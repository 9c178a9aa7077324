use Rattle.std.proofs.Common.{arith}
use Rattle.std.proofs.lemmas.Grind.{common_steps}
use Rattle.mw_grammar.specs.Readable.{kind_in}
use Rattle.mw_grammar.proofs.Going.{arguments_are}
use Rattle.mw_grammar.proofs.parts.push_arguments.Goals as goal

pub returns : goal.returns
returns c = grind (arith, common_steps, arguments_are (kind_in c.args.kinds.now) c.args.args.now)
