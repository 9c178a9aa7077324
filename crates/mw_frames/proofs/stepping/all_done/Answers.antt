use Rattle.mw_frames.proofs.stepping.all_done.Goals as goal

pub returns-clause-means : goal.returns-clause-means
returns-clause-means c = λ K k run w s. c.in_ok-hand.ensures.means K k run w s
