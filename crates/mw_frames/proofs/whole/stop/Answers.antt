use Rattle.mw_frames.proofs.whole.stop.Goals as goal

pub returns : goal.returns
returns c = λ K k run h. (c.in_ok-whole.ensures K k run (c.in_ok-term.ensures K k run h)).0
