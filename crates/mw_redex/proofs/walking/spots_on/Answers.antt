use Rattle.std.proofs.Common.{◌∙◌, map, ap, sym}
use Rattle.mw_logic.specs.Terms.{list_of}
use Rattle.mw_redex.specs.Waiting.{way_of, ways_to}
use Rattle.mw_redex.proofs.Turn.{ways_pushed}
use Rattle.mw_term.proofs.Terms.{list_of-terms_of}
use Rattle.mw_redex.proofs.walking.spots_on.Goals as goal

pub returns : goal.returns
returns c =
    let args = c.arguments-args.result.now in
    let path = c.args.spot.now.path in
    ways_pushed (map way_of c.loop-i.found.items) path c.loop-i.i args _ c.loop-i-test.false c.loop-i.invariant ∙ ap (ways_to path 1) (sym (list_of-terms_of args) ∙ ap list_of c.arguments-args.ensures)
