use Rattle.std.proofs.Common.{ℕ, List}
use Rattle.std.specs.Prelude.{Bool, Option, Some, None, IsTrue}
use Rattle.mw_logic.specs.Signature.{Signature}
use Rattle.mw_canon.specs.Axioms.{IsKindNamed as IsKind}
use Rattle.mw_prefix.specs.Leaves.{IsKindNamed}
use Rattle.mw_prefix.proofs.leaves.kind_there.Goals as goal

where_there : (sig : Signature) (there : Bool) (name : List ℕ) (found : Option ℕ) → IsTrue there → IsKind sig name found → IsKindNamed sig there name found
where_there sig there name None is h = λ _. h
where_there sig there name (Some K) is h = (is, h.0, h.1, h.2)

pub returns : goal.returns
returns c = where_there c.args.signature.now c.args.there c.args.name.now c.kind_named.result c.if-not-there.false c.kind_named.ensures
