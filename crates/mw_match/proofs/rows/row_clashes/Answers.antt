use Rattle.std.proofs.Common.{arith}
use Rattle.mw_search.specs.Clashes.{Clash}
use Rattle.mw_match.proofs.RowLists.{too_few, other_number, row_clash}
use Rattle.mw_match.proofs.rows.row_clashes.Goals as goal

pub returns-then-elements-rigid : goal.returns-then-elements-rigid
returns-then-elements-rigid c = λ _ single f r. too_few c.args.facts.now single f c.args.patterns.now c.args.elements.now c.args.given.now (omega arith)

pub returns-then-elements-rigid-2 : goal.returns-then-elements-rigid-2
returns-then-elements-rigid-2 c = λ _ single f r. other_number c.args.facts.now single f c.args.patterns.now c.args.elements.now c.args.given.now (omega arith) (λ e. omega arith)

pub returns-then-clashes : goal.returns-then-clashes
returns-then-clashes c =
    let clash : Clash c.args.facts.now c.args.given.now c.index-patterns-i.result c.index-elements-i.result = c.clashes.ensures c.if-clashes.true in
    λ _ single f r.
    row_clash c.args.facts.now single f c.args.given.now c.args.patterns.now c.args.elements.now c.loop-i.i c.index-patterns-i.result c.index-elements-i.result (omega arith) (omega arith) c.index-patterns-i.is c.index-elements-i.is clash
