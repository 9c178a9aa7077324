use Rattle.std.proofs.Common.{◌≡◌, ◌≤◌, ◌+◌, ℕ, suc, List, length}
use Rattle.mw_logic.specs.Term.{RawTerm}
use Rattle.mw_items.specs.declared.Entry.{Entry}
use Rattle.mw_proofread.specs.TokenTexts.{token_texts}
use Rattle.mw_proofread.specs.Outside.{IsFollowed, HasItems}
use Rattle.mw_proofread.specs.Whole.{HasTail}
use Rattle.mw_proofread.proofs.reading.tail.Given as goal

abbrev pub invariant-loop-behind : goal.invariant-loop-behind
invariant-loop-behind l = record {
  sound : (to : RawTerm) (new : List Entry) → HasTail l.reader.ctx.now (token_texts l.rest) to l.entries.items new → HasTail l.reader.ctx.now (token_texts l.tokens) to l.fn.entries.items new;
  before : (n : ℕ) × (l.step ≡ suc n) × HasItems l.reader.ctx.now n (token_texts l.tokens) (token_texts l.rest);
  followed : IsFollowed (token_texts l.rest);
  small : l.step + length (token_texts l.rest) ≤ length (token_texts l.tokens) + 1;
}

abbrev pub decreases-loop-behind : goal.decreases-loop-behind
decreases-loop-behind l = length (token_texts l.rest)
