-- Which tokens are the numbered prefix form of a term.
use Rattle.std.specs.Prelude.{◌≡◌, ◌<◌, ◌≤◌, ◌^◌, ℕ, true, List, map, length, IsTrue, ⊤}
use Rattle.mw_lex.specs.declared.token.Token.{Token}
use Rattle.mw_logic.specs.Term.{RawTerm, numeral, quoted, variable, apply, RawTerms, nil, cons, is_ground}
use Rattle.mw_logic.specs.Signature.{Signature, IsRawTerm}
use Rattle.mw_logic.specs.Accepted.{IsAccepted}
use Rattle.mw_logic.specs.NormalForm.{normal_form, height}
use Rattle.mw_logic.specs.Parts.{is_assoc, nested, number_of_terms}
use Rattle.mw_text.specs.Proper.{HasIdentifiers}
use Rattle.mw_print.specs.Tokens.{texts}
use Rattle.mw_print.specs.Prefix.{prefixed}
use Rattle.mw_print.specs.PrefixLaws.{IsTold, most_open}

-- the texts of tokens
abbrev pub token_texts : List Token → List (List ℕ)
token_texts = map (λ (t : Token). t.text)

-- Each associative operator stands on two or more arguments.
abbrev mutual
  pub HasSeveral : Signature → RawTerm → Type 0
  HasSeveral sig (numeral n) = ⊤
  HasSeveral sig (quoted q) = ⊤
  HasSeveral sig (variable x) = ⊤
  HasSeveral sig (apply f ts) = (is_assoc sig f ≡ true → 2 ≤ number_of_terms ts) × HaveSeveral sig ts

  pub HaveSeveral : Signature → RawTerms → Type 0
  HaveSeveral sig nil = ⊤
  HaveSeveral sig (cons t ts) = HasSeveral sig t × HaveSeveral sig ts

-- The tokens are the numbered prefix form of the flattened term t, which is ground; its operators stand on arguments of their kinds, as many as they take, or two
-- or more where they are associative; and at most 999 parentheses are open at once.
pub record IsPrefixForm (sig : Signature) (t : RawTerm) (tokens : List (List ℕ)) : Type 0 where
  pub form : texts (prefixed sig t) ≡ tokens
  pub told : IsTold t
  pub raw : IsRawTerm sig (nested sig t)
  pub several : HasSeveral sig t
  pub shallow : most_open 0 tokens ≤ 999

-- They are that of no term.
abbrev pub IsNoForm : Signature → List (List ℕ) → Type 0
IsNoForm sig tokens = (t : RawTerm) → ¬ IsPrefixForm sig t tokens

-- Tokens are the form of one term alone.
abbrev pub FormsTell : Type 0
FormsTell = (sig : Signature) (t u : RawTerm) (tokens : List (List ℕ)) → IsPrefixForm sig t tokens → IsPrefixForm sig u tokens → t ≡ u

-- A canonical ground term of an accepted signature, whose quoted identifiers are tokens, has a form where it is no deeper than terms may be: the one that is
-- written of it.
abbrev pub CanonicalHasForm : Type 0
CanonicalHasForm = (sig : Signature) (t : RawTerm) → IsAccepted sig → length sig.operators < 2 ^ 128 → IsRawTerm sig (nested sig t) → normal_form sig (nested sig t) ≡ t
    → IsTrue (is_ground (nested sig t)) → HasIdentifiers (nested sig t) → height t ≤ 1000 → IsPrefixForm sig t (texts (prefixed sig t))
