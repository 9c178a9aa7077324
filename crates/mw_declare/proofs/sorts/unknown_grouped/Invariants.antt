use Rattle.std.proofs.Common.{◌≡◌, ◌+◌, ◌++◌, drop}
use Rattle.mw_declare.specs.Faults.{unknown_among, mentioned_in}
use Rattle.mw_declare.proofs.sorts.unknown_grouped.Given as goal

abbrev pub invariant-loop-group : goal.invariant-loop-group
invariant-loop-group l = unknown_among l.sorts (mentioned_in (drop l.group-index l.groups)) ≡ unknown_among l.sorts (mentioned_in l.groups)

abbrev pub invariant-loop-word : goal.invariant-loop-word
invariant-loop-word l =
    unknown_among l.sorts (drop l.word-index l.words ++ mentioned_in (drop (l.group-index + 1) l.groups)) ≡ unknown_among l.sorts (mentioned_in l.groups)
