-- What a run denotes is counted in one way.
use Rattle.std.specs.Prelude.{◌≡◌, ℕ}
use Rattle.mw_logic.specs.Term.{RawTerm}
use Rattle.mw_logic.specs.Module.{Module}
use Rattle.mw_logic.specs.Proof.{Proof, rules, steps, count}
use Rattle.mw_logic.specs.Judgements.{Proves}
use Rattle.mw_deduction.specs.Runs.{Run, Denotes}

-- Two proofs that a run denotes, which prove something in the module, have as many steps and rules, and count as many replacements.
abbrev pub DenotedCounts : Type 0
DenotedCounts =
    (M : Module) (n m : ℕ) (r : Run) (p q : Proof) (t u v w : RawTerm) → Denotes M.signature r p → Denotes M.signature r q → Proves M n p t u → Proves M m q v w
    → (steps p ≡ steps q) × (rules p ≡ rules q) × (count p ≡ count q)
