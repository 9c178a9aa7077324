use Rattle.mw_poset.proofs.Bits.{place_added}
use Rattle.mw_poset.proofs.row.insert.Goals as goal

pub returns : goal.returns
returns c = place_added c.args.words.now c.args.place c.requires
