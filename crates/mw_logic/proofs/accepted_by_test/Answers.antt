use Rattle.mw_logic.proofs.AcceptedTest.{is_accepted-sound, is_accepted-complete}
use Rattle.mw_logic.proofs.accepted_by_test.Goals as goal

pub returns : goal.returns
returns c = λ sig. (is_accepted-sound sig, is_accepted-complete sig)
