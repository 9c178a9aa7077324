-- The block of a match.
use Rattle.std.specs.Prelude.{◌++◌, ◌+◌, ℕ, Bool, true, false, List, [], ◌∷◌, map, length, Option, Some, None, codes}
use Rattle.std.specs.Fmt.{decimal}
use Rattle.mw_logic.specs.Term.{RawTerm, variable}
use Rattle.mw_logic.specs.Signature.{Signature}
use Rattle.mw_logic.specs.Substitution.{Substitution}
use Rattle.mw_print.specs.Printing.{term_text}
use Rattle.mw_term.specs.declared.subst.Binding.{Binding}
use Rattle.mw_match.specs.declared.solutions.Solution.{Solution}
use Rattle.mw_block.specs.Blocks.{line}

-- the command by its word, with its module, the pattern and what it is matched against
abbrev pub match_echo : List ℕ → Signature → List ℕ → RawTerm → RawTerm → List ℕ
match_echo command sig name pattern subject = line (command ++ codes " in " ++ name ++ codes " : " ++ term_text sig pattern ++ codes " <=? " ++ term_text sig subject ++ codes " .")

-- numbers, each with a space before it
abbrev pub spaced_numbers : List ℕ → List ℕ
spaced_numbers [] = []
spaced_numbers (n ∷ ns) = codes " " ++ decimal n ++ spaced_numbers ns

-- which arguments are taken, where not the whole is
abbrev pub take_line : Option (List ℕ) → List ℕ
take_line None = []
take_line (Some ns) = line (codes "take" ++ spaced_numbers ns)

-- variables with their values
abbrev pub value_lines : Signature → Substitution → List ℕ
value_lines sig [] = []
value_lines sig (b ∷ s) = line (term_text sig (variable b.0) ++ codes " = " ++ term_text sig b.1) ++ value_lines sig s

-- pairs as a substitution has them
abbrev pub pairs_of : List Binding → Substitution
pairs_of = map (λ (b : Binding). (b.variable, b.value))

abbrev pub solution_lines : Signature → ℕ → Solution → List ℕ
solution_lines sig number r = line (codes "solution " ++ decimal number) ++ take_line r.take ++ value_lines sig r.subst

-- solutions by number, from this one on
abbrev pub solutions_lines : Signature → ℕ → List Solution → List ℕ
solutions_lines sig number [] = []
solutions_lines sig number (r ∷ rs) = solution_lines sig number r ++ solutions_lines sig (number + 1) rs

-- how the list ended
abbrev pub end_text : Bool → List ℕ
end_text true = codes "limit solutions"
end_text false = codes "all"

-- how many there are, and how the list ended
abbrev pub found_line : ℕ → List ℕ
found_line count = line (codes "solutions: " ++ decimal count)

abbrev pub end_line : Bool → List ℕ
end_line limited = line (codes "status: " ++ end_text limited)

abbrev pub match_block : List ℕ → Signature → List ℕ → RawTerm → RawTerm → List Solution → Bool → List ℕ
match_block command sig name pattern subject rs limited = match_echo command sig name pattern subject ++ solutions_lines sig 1 rs ++ found_line (length rs) ++ end_line limited
