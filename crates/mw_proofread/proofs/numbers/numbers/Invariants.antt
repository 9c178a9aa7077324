use Rattle.std.proofs.Common.{◌≡◌, ◌++◌, ℕ, List, map, length}
use Rattle.mw_proofread.specs.Numbers.{entry_number}
use Rattle.mw_proofread.specs.TokenTexts.{token_texts, numbers_tokens}
use Rattle.mw_proofread.proofs.numbers.numbers.Given as goal

abbrev pub invariant-loop-number : goal.invariant-loop-number
invariant-loop-number l = (ns : List ℕ) × (token_texts l.tokens ≡ numbers_tokens ns ++ token_texts l.rest) × (l.found.items ≡ map entry_number ns)

abbrev pub decreases-loop-number : goal.decreases-loop-number
decreases-loop-number l = length (token_texts l.rest)
