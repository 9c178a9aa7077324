use Rattle.std.proofs.Common.{rules}
use Rattle.mw_frames.proofs.passing.go_out.Goals as goal

pub returns-then-ends_list-clause-means : goal.returns-then-ends_list-clause-means
returns-then-ends_list-clause-means c = λ K k fs x run q e h d. c.in_ok-hand.ensures.means K k fs x run (c.ends_list.ensures (search rules)) q e h d

pub returns-then-begins_list-clause-means : goal.returns-then-begins_list-clause-means
returns-then-begins_list-clause-means c = λ K k fs x run q e h d. c.in_ok-hand-2.ensures.means K k fs x run (c.begins_list.ensures.jobs (search rules)) (c.begins_list.ensures.list (search rules)) q e h d
