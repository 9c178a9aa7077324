use Rattle.std.proofs.Common.{vec_len}
use Rattle.mw_logic.specs.Terms.{terms_of}
use Rattle.mw_proof.specs.Beside.{IsReady, GoesOn}
use Rattle.mw_proof.proofs.besides.beside.Given as goal

abbrev pub invariant-turns : goal.invariant-turns
invariant-turns l = record {
  ready : IsReady l.context l.operator (terms_of l.before.items) l.pieces.items l.so_far;
  goes : GoesOn l.context.signature l.operator (terms_of l.initial.before.items) l.initial.pieces.items l.initial.so_far (terms_of l.before.items) l.pieces.items l.so_far;
}

abbrev pub decreases-turns : goal.decreases-turns
decreases-turns l = vec_len l.pieces
