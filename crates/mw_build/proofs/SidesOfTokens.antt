-- The sides and fragments of equations and rules among proper statements are made of tokens.
use Rattle.std.proofs.Common.{ℕ, List, [], ◌∷◌, All}
use Rattle.std.proofs.lemmas.List.Elements.{All-nil, All-cons, All-head, All-tail, All-append}
use Rattle.mw_lex.specs.Texts.{AreTokens}
use Rattle.mw_module.specs.Forms.{Shape, Sorts, Subsorts, Operators, Variables, Statement, Import, Class}
use Rattle.mw_module.specs.Tokens.{HasProperTexts, HasProperParts, AreProperStatements}
use Rattle.mw_module.specs.Units.{SeenLined}
use Rattle.mw_build.specs.Sides.{Sides, sides_in, sides_of}

abbrev pub AreSides : Sides → Type 0
AreSides e = AreTokens e.left × AreTokens e.right × All HasProperTexts e.fragments

abbrev IsProperLined : SeenLined → Type 0
IsProperLined s = HasProperParts s.shape

sides_proper : (line : ℕ) (s : Shape) → HasProperParts s → All AreSides (sides_in line s)
sides_proper line (Sorts names) p = All-nil AreSides
sides_proper line (Subsorts groups) p = All-nil AreSides
sides_proper line (Operators names args result said) p = All-nil AreSides
sides_proper line (Variables names S) p = All-nil AreSides
sides_proper line (Statement rule left right fragments executable) p =
    All-cons AreSides (record { line = line; rule = rule; left = left; right = right; fragments = fragments; executable = executable }) [] p (All-nil AreSides)
sides_proper line (Import m) p = All-nil AreSides
sides_proper line (Class c as_) p = All-nil AreSides

pub all_sides_proper : (ss : List SeenLined) → AreProperStatements ss → All AreSides (sides_of ss)
all_sides_proper [] p = All-nil AreSides
all_sides_proper (s ∷ ss) p =
    All-append AreSides (sides_in s.line s.shape) (sides_of ss) (sides_proper s.line s.shape (All-head IsProperLined s ss p)) (all_sides_proper ss (All-tail IsProperLined s ss p))
