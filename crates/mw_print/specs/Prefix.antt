-- Numbered prefix forms, in which proof texts have ground terms.
use Rattle.std.specs.Prelude.{ℕ, List, [], ◌∷◌, ◌++◌, codes, option_map, unwrap_or}
use Rattle.std.specs.Fmt.{decimal}
use Rattle.mw_logic.specs.Term.{RawTerm, numeral, quoted, variable, apply, RawTerms, nil, cons}
use Rattle.mw_logic.specs.Signature.{Signature, Operator, at_number}
use Rattle.mw_logic.specs.Terms.{terms_of}
use Rattle.mw_print.specs.Tokens.{Token, token, spaced}
use Rattle.mw_print.specs.Printing.{called}

-- the prefix spelling of an operator, by its number; nothing for a number that is no operator's
abbrev pub spelling_at : Signature → ℕ → List ℕ
spelling_at sig f = unwrap_or (option_map (λ (o : Operator). o.spelling) (at_number sig.operators f)) []

-- an operator as one token: its number, `@` and its prefix spelling
abbrev pub numbered : Signature → ℕ → List ℕ
numbered sig f = decimal f ++ codes "@" ++ spelling_at sig f

-- A numeral is written in decimal, a quoted identifier as its own token, and an operator by its number and name, with its arguments behind it in parentheses,
-- where it has any. All arguments of a flattened operator stand side by side. A variable has no form.
abbrev mutual
  pub prefixed : Signature → RawTerm → List Token
  prefixed sig (numeral n) = token (decimal n) ∷ []
  prefixed sig (quoted q) = token q ∷ []
  prefixed sig (variable x) = []
  prefixed sig (apply f ts) = called (token (numbered sig f) ∷ []) (prefixed_all sig ts)

  pub prefixed_all : Signature → RawTerms → List (List Token)
  prefixed_all sig nil = []
  prefixed_all sig (cons t ts) = prefixed sig t ∷ prefixed_all sig ts

-- the forms of the terms of a list
abbrev pub forms_of : Signature → List RawTerm → List (List Token)
forms_of sig ts = prefixed_all sig (terms_of ts)

-- the text of the form
abbrev pub prefix_text : Signature → RawTerm → List ℕ
prefix_text sig t = spaced (prefixed sig t)
