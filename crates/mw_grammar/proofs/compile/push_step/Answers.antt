use Rattle.std.proofs.Common.{ℕ, ◌≡◌, List, length, sym, subst, arith}
use Rattle.mw_grammar.specs.Compiled.{IsNumber}
use Rattle.mw_grammar.proofs.Made.{piece_leads, hole_leads}
use Rattle.mw_grammar.proofs.compile.push_step.Goals.{in-Piece+in_ok-token-in-Piece, in-Hole}
use Rattle.mw_grammar.proofs.compile.push_step.Goals as goal

pub returns-clause-leads : goal.returns-clause-leads
returns-clause-leads c parts last d =
    let at : c.len-state.result ≡ length c.args.steps.now.items = omega arith in
    elim c.match-part.branch [
      | in-Piece+in_ok-token-in-Piece w ↦
          let named : IsNumber w.token.new.names w.in_ok-token-in-Piece.field-0 w.in-Piece.name =
          subst (IsNumber w.token.new.names w.in_ok-token-in-Piece.field-0) w.as_slice.ensures w.in_ok-token-in-Piece.ensures.number in
          let num : IsNumber c.match-part.names w.in_ok-token-in-Piece.field-0 w.in-Piece.name =
          subst (λ (ns : List (List ℕ)). IsNumber ns w.in_ok-token-in-Piece.field-0 w.in-Piece.name) (sym w.names-is) named in
          piece_leads c.args.steps.now.items c.push.new.self.items c.match-part.names c.match-part.step w.in_ok-token-in-Piece.field-0 c.args.next c.len-state.result w.in-Piece.name c.args.part.now
          c.in_ok-push.ensures.items w.step-is w.in-Piece.is at num parts last d
      | in-Hole w ↦
          hole_leads c.args.steps.now.items c.push.new.self.items c.match-part.names c.match-part.step w.in-Hole.kind w.in-Hole.below c.args.next c.len-state.result c.args.part.now
          c.in_ok-push.ensures.items w.step-is w.in-Hole.is at parts last d
    ]
