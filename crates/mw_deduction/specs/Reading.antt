-- A kept proof is read from the left. What is read so far: the holes that were gone into, the replacements, and evidence that waits for its statement.
use Rattle.std.specs.Prelude.{ℕ, ◌+◌, List, [], ◌∷◌, ◌++◌}
use Rattle.mw_logic.specs.Proof.{Proof, equality, transitivity, Proofs, count, count_of}
use Rattle.mw_logic.specs.Proof as proof
use Rattle.mw_deduction.specs.Places.{Place}
use Rattle.mw_deduction.specs.Chains.{Replacement, proof_of}

-- a proof under way: the holes that it went into, the innermost first; its replacements; and evidence that waits for its statement
pub record Reading : Type 0 where
  pub entered : List Place
  pub done : List Replacement
  pub ready : Proofs

abbrev pub fresh : Reading
fresh = record { entered = []; done = []; ready = proof.nil }

abbrev pub flat : List Place → Place
flat [] = []
flat (ls ∷ lss) = ls ++ flat lss

abbrev pub left : List Place → List Place
left [] = []
left (ls ∷ lss) = lss

abbrev pub behind : Proofs → Proof → Proofs
behind proof.nil p = proof.cons p proof.nil
behind (proof.cons q qs) p = proof.cons q (behind qs p)

abbrev pub entering : Place → Reading → Reading
entering ls R = record { entered = ls ∷ R.entered; done = R.done; ready = R.ready }

abbrev pub leaving : Reading → Reading
leaving R = record { entered = left R.entered; done = R.done; ready = R.ready }

abbrev pub applying : Proof → Reading → Reading
applying p R = record { entered = R.entered; done = R.done ++ record { place = flat R.entered; step = p } ∷ []; ready = proof.nil }

-- Evidence is a proof from the side's instance as it is written to the term that it is reduced to.
abbrev pub given : Proof → Reading → Reading
given p R = record { entered = R.entered; done = R.done; ready = behind R.ready (transitivity equality (transitivity p equality)) }

-- how many replacements were read, those in evidence too
abbrev pub counted : Reading → ℕ
counted R = count (proof_of R.done) + count_of R.ready
