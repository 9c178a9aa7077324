-- The way from an operator on a term and others to the term.
use Rattle.std.specs.Prelude.{ℕ, suc, List, [], ◌∷◌, Bool, true, false, cond}
use Rattle.mw_logic.specs.Term.{RawTerm, RawTerms, nil, cons}
use Rattle.mw_logic.specs.Terms.{terms_of}
use Rattle.mw_logic.specs.Signature.{Signature}
use Rattle.mw_logic.specs.Parts.{is_assoc}
use Rattle.mw_logic.specs.NormalForm.{identity_of, elements}
use Rattle.mw_arguments.specs.Places.{numbers_of}
use Rattle.mw_redex.proofs.Middles.{count_from}
use Rattle.mw_deduction.specs.Standing.{Open}
use Rattle.mw_deduction.specs.Replay.{Move, into, among, opened}

-- f, open between terms before and after
abbrev pub hole : ℕ → List RawTerm → List RawTerm → Open
hole f before after = opened f (terms_of before) (terms_of after)

-- what a term is in the list of f: its elements under an associative f, else itself
abbrev pub spread : Signature → ℕ → RawTerm → RawTerms
spread sig f t = cond (is_assoc sig f) (elements (identity_of sig f) f t) (cons t nil)

-- their numbers among the arguments ts: behind so many or, of a commutative operator, where they stand in order
abbrev pub numbers_in : Bool → ℕ → RawTerms → RawTerms → List ℕ
numbers_in true i us ts = numbers_of 1 us ts
numbers_in false i us ts = count_from (suc i) us

-- into one argument, or into several
abbrev pub way : List ℕ → Move
way [] = among []
way (k ∷ []) = into k
way (k ∷ l ∷ ks) = among (k ∷ l ∷ ks)
