use Rattle.std.proofs.Common.{◌≤◌, length, reverse}
use Rattle.mw_proofread.specs.TokenTexts.{token_texts}
use Rattle.mw_proofread.specs.Parts.{IsUnderWay}
use Rattle.mw_proofread.proofs.items.item.Given as goal

abbrev pub invariant-groups : goal.invariant-groups
invariant-groups l = record {
  deep : length l.frames.items ≤ 63;
  way : IsUnderWay l.reader.ctx.now (token_texts l.tokens) l.fn.entries.items (reverse l.frames.items) (token_texts l.rest) l.entries.items;
}

abbrev pub decreases-groups : goal.decreases-groups
decreases-groups l = length (token_texts l.rest)
