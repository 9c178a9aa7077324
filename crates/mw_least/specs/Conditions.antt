-- The variables and the sides of conditions.
use Rattle.std.specs.Prelude.{List, [], ◌∷◌, Bool, ◌||◌, false, ⊤}
use Rattle.mw_logic.specs.Term.{Variable}
use Rattle.mw_logic.specs.Signature.{Signature, IsRawTerm}
use Rattle.mw_logic.specs.Accepted.{number_of_sort}
use Rattle.mw_logic.specs.Preregular.{IsSortOf}
use Rattle.mw_logic.specs.Substitution.{occurs}
use Rattle.mw_logic.specs.Module.{Fragment, equal, matches, has_sort, is_true, Statement}
use Rattle.mw_position.specs.Variables.{met}

-- the variables that were met before, and then those of the fragments
abbrev pub met_fragments : List Variable → List Fragment → List Variable
met_fragments xs [] = xs
met_fragments xs (equal u v ∷ C) = met_fragments (met (met xs u) v) C
met_fragments xs (matches p t ∷ C) = met_fragments (met (met xs p) t) C
met_fragments xs (has_sort t S ∷ C) = met_fragments (met xs t) C
met_fragments xs (is_true b ∷ C) = met_fragments (met xs b) C

-- the variables of a statement in order of first mention: left side, right side, fragments
abbrev pub mentioned : Statement → List Variable
mentioned e = met_fragments (met (met [] e.left) e.right) e.fragments

-- x stands in a fragment
abbrev pub occurs_among : Variable → List Fragment → Bool
occurs_among x [] = false
occurs_among x (equal u v ∷ C) = (occurs x u || occurs x v) || occurs_among x C
occurs_among x (matches p t ∷ C) = (occurs x p || occurs x t) || occurs_among x C
occurs_among x (has_sort t S ∷ C) = occurs x t || occurs_among x C
occurs_among x (is_true b ∷ C) = occurs x b || occurs_among x C

-- x is one of the variables b, or stands in the pattern of a match
abbrev pub binds_among : (Variable → Bool) → List Fragment → Variable → Bool
binds_among b [] x = b x
binds_among b (equal u v ∷ C) x = binds_among b C x
binds_among b (matches p t ∷ C) x = binds_among (λ y. b y || occurs y p) C x
binds_among b (has_sort t S ∷ C) x = binds_among b C x
binds_among b (is_true t ∷ C) x = binds_among b C x

-- the sides are raw terms, and the sorts that are asked for are there
abbrev pub AreRawFragments : Signature → List Fragment → Type 0
AreRawFragments sig [] = ⊤
AreRawFragments sig (equal u v ∷ C) = IsRawTerm sig u × IsRawTerm sig v × AreRawFragments sig C
AreRawFragments sig (matches p t ∷ C) = IsRawTerm sig p × IsRawTerm sig t × AreRawFragments sig C
AreRawFragments sig (has_sort t S ∷ C) = IsRawTerm sig t × IsSortOf sig (number_of_sort S) × AreRawFragments sig C
AreRawFragments sig (is_true b ∷ C) = IsRawTerm sig b × AreRawFragments sig C
