use Rattle.std.proofs.Common.{◌*◌, ◌+◌}
use Rattle.mw_chart.specs.Tree.{size_of}
use Rattle.mw_parse.proofs.terms.+terms.Given as goal

abbrev pub decreases-spine : goal.decreases-spine
decreases-spine l = 2 * size_of l.node.now

abbrev pub decreases-raw : goal.decreases-raw
decreases-raw l = 2 * size_of l.node.now + 1
