use Rattle.std.proofs.Common.{◌≡◌, drop}
use Rattle.std.specs.List.{list_any}
use Rattle.mw_declare.specs.Built as built
use Rattle.mw_declare.proofs.built.has_name.Given as goal

abbrev pub invariant-loop-name : goal.invariant-loop-name
invariant-loop-name l = list_any (built.is_name l.text) (drop l.name-index l.names) ≡ list_any (built.is_name l.text) l.names
