use Rattle.std.proofs.Common.{◌≡◌, take}
use Rattle.mw_logic.specs.Terms.{terms_of}
use Rattle.mw_logic.specs.NormalForm.{flattened, identity_of}
use Rattle.mw_proof.specs.Beside.{starts}
use Rattle.mw_proof.proofs.besides.elements_of.Given as goal

abbrev pub invariant-loop-piece : goal.invariant-loop-piece
invariant-loop-piece l = terms_of l.found.items ≡ flattened (identity_of l.facts l.operator) l.operator (starts (take l.piece-index l.pieces))
