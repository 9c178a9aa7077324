use Rattle.mw_rule.proofs.going.+go_to.Given as goal

abbrev pub decreases-go_to : goal.decreases-go_to
decreases-go_to l = l.at
