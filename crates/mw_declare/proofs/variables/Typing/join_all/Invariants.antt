use Rattle.std.proofs.Common.{◌≡◌, Ok, drop}
use Rattle.mw_declare.specs.Faults.{typed}
use Rattle.mw_declare.proofs.variables.Typing.join_all.Given as goal

abbrev pub invariant-loop-name : goal.invariant-loop-name
invariant-loop-name l = typed l.line (Ok l.self) (drop l.name-index l.names) l.sort ≡ typed l.line (Ok l.fn.self) l.names l.sort
