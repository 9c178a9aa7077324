use Rattle.std.proofs.Common.{sym, ap, ◌∙◌, map}
use Rattle.mw_logic.specs.Terms.{args_of}
use Rattle.mw_search.proofs.Meeting.{orders_one, orders_three}
use Rattle.mw_search.proofs.outcomes.both.Goals as goal

pub returns-in-len1 : goal.returns-in-len1
returns-in-len1 c = ap (map args_of) c.new-in-len1.ensures.items ∙ sym (orders_one c.args.args.now c.in-len1.len_at_least c.in-len1.len_below)

pub returns-in-len3-up : goal.returns-in-len3-up
returns-in-len3-up c = ap (map args_of) c.new-in-len3-up.ensures.items ∙ sym (orders_three c.args.args.now c.in-len3-up.len_at_least)
