use Rattle.std.proofs.Common.{◌≡◌, ◌↔◌, ℕ, List, length}
use Rattle.mw_proofread.specs.Numbers.{Rises}
use Rattle.mw_proofread.specs.TokenTexts.{token_texts, numbers_tokens}
use Rattle.mw_proofread.proofs.numbers.rises.Given as goal

abbrev pub invariant-loop-number : goal.invariant-loop-number
invariant-loop-number l = (ns : List ℕ) → token_texts l.tokens ≡ numbers_tokens ns → (ms : List ℕ) × (token_texts l.rest ≡ numbers_tokens ms) × (Rises ms ↔ Rises ns)

abbrev pub decreases-loop-number : goal.decreases-loop-number
decreases-loop-number l = length (token_texts l.rest)
