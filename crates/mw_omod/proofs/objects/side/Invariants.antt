use Rattle.std.proofs.Common.{◌≡◌, ◌++◌, drop}
use Rattle.mw_term.specs.Raws.{raw_term}
use Rattle.mw_omod.specs.Completion.{elements}
use Rattle.mw_omod.specs.Seen.{AreKept, AreRaw, all_seen, terms_seen}
use Rattle.mw_omod.proofs.objects.side.Given as goal

abbrev pub invariant-loop-term : goal.invariant-loop-term
invariant-loop-term l = record {
  terms : terms_seen l.found.items ++ all_seen (drop l.term-index l.terms) ≡ elements l.classes (raw_term l.fn.term);
  kept : AreKept l.facts l.classes l.found.items;
  raw : AreRaw l.facts (all_seen (drop l.term-index l.terms));
}
