use Rattle.std.proofs.Common.{sym, option_map}
use Rattle.mw_term.specs.Signatures.{identity_of as identity_named}
use Rattle.mw_search.proofs.Meeting.{backed_up}
use Rattle.mw_search.proofs.rows.is_backed.Goals as goal

pub returns-in-len1-up : goal.returns-in-len1-up
returns-in-len1-up c = sym (backed_up (option_map identity_named c.args.identity) c.args.elements.now c.in-len1-up.len_at_least)
