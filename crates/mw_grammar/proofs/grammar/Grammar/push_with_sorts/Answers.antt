use Rattle.std.proofs.Common.{arith}
use Rattle.mw_grammar.specs.Readable.{kind_in}
use Rattle.mw_grammar.specs.Listing.{IsListed}
use Rattle.mw_grammar.proofs.Added.{variables_same, variables_then}
use Rattle.mw_grammar.proofs.Tokens.{more_to, more_from, name_below}
use Rattle.mw_grammar.proofs.grammar.Grammar.push_with_sorts.Goals as goal

pub loop-colon-preserved : goal.loop-colon-preserved
loop-colon-preserved c =
    let g = c.args.self.now in
    variables_then (kind_in g.kinds) _ _ _ _ _ _ _ _ _ (more_to (IsListed g.names g.named.items) c.args.token.now c.loop-colon.colon) (more_from (IsListed g.names g.named.items) c.args.token.now c.loop-colon.colon)
    c.loop-colon.invariant c.in_ok-push_divided.ensures

pub returns : goal.returns
returns c =
    let g = c.args.self.now in
    variables_same (kind_in g.kinds) _ _ _ _ _ _ (λ x h. h.0) (λ x h. (h, (let l = name_below (IsListed g.names g.named.items) c.args.token.now x h in omega (arith, l)))) c.loop-colon.invariant
