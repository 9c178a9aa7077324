-- All lists of values, by position, on which a pattern gives a term. What the axioms do is behind `splits`: the lists of
-- canonical arguments on which an operator gives a term, each once.
use Rattle.std.specs.Prelude.{◌≡◌, ◌≤◌, ℕ, List, [], ◌∷◌, ◌++◌, flat_map, length, Bool, true, cond, Option, Some, None, slice_get, unwrap_or, ⊤}
use Rattle.mw_logic.specs.Term.{RawTerm, numeral, quoted, variable, apply, RawTerms, nil, cons}
use Rattle.mw_logic.specs.Signature.{Signature}
use Rattle.mw_logic.specs.Parts.{number_of_terms}
use Rattle.mw_logic.specs.NormalForm.{applied_in}
use Rattle.mw_logic.proofs.Canonical.{IsCanonical}
use Rattle.mw_split.specs.Lists.{AllOnce}
use Rattle.mw_position.specs.Positions.{counted, counted_all, Begins, AreWithin}
use Rattle.mw_arguments.specs.Arguments.{Gives, HasArity}
use Rattle.mw_arguments.specs.Bags.{same}

-- which terms a position may have, and the arguments on which an operator gives a term
pub record Theory : Type 0 where
  pub has : ℕ → RawTerm → Bool
  pub splits : ℕ → RawTerms → RawTerm → List RawTerms

-- the matches that extend the values vs, of a pattern by a term and of patterns by as many terms
module _ (T : Theory) where
  -- a position that has a value, or none yet
  abbrev pub at_position : ℕ → RawTerm → List RawTerm → Option RawTerm → List (List RawTerm)
  at_position i t vs (Some u) = cond (same u t) (vs ∷ []) []
  at_position i t vs None = cond (T.has i t) ((vs ++ t ∷ []) ∷ []) []

  abbrev mutual
    pub matches : RawTerm → RawTerm → List RawTerm → List (List RawTerm)
    matches (numeral n) t vs = cond (same (numeral n) t) (vs ∷ []) []
    matches (quoted q) t vs = cond (same (quoted q) t) (vs ∷ []) []
    matches (variable x) t vs = at_position x.sort t vs (slice_get vs x.sort)
    matches (apply f qs) t vs = flat_map (λ ts. row_matches qs ts vs) (T.splits f qs t)

    pub row_matches : RawTerms → RawTerms → List RawTerm → List (List RawTerm)
    row_matches nil nil vs = vs ∷ []
    row_matches nil (cons t ts) vs = []
    row_matches (cons q qs) nil vs = []
    row_matches (cons q qs) (cons t ts) vs = flat_map (λ us. row_matches qs ts us) (matches q t vs)

-- the canonical instance by values
abbrev mutual
  pub evaluated : Signature → List RawTerm → RawTerm → RawTerm
  evaluated sig us (numeral n) = numeral n
  evaluated sig us (quoted q) = quoted q
  evaluated sig us (variable x) = unwrap_or (slice_get us x.sort) (variable x)
  evaluated sig us (apply f ts) = applied_in sig f (evaluated_all sig us ts)

  pub evaluated_all : Signature → List RawTerm → RawTerms → RawTerms
  evaluated_all sig us nil = nil
  evaluated_all sig us (cons t ts) = cons (evaluated sig us t) (evaluated_all sig us ts)

-- the value of position i is canonical and may stand there, for each i from n on
abbrev pub Fits : Signature → Theory → ℕ → List RawTerm → Type 0
Fits sig T n us = (i : ℕ) (u : RawTerm) → n ≤ i → slice_get us i ≡ Some u → IsCanonical sig u × (T.has i u ≡ true)

-- us are the values vs and behind them those of p's other variables, and p's instance is t
pub record IsMatch (sig : Signature) (T : Theory) (p t : RawTerm) (vs us : List RawTerm) : Type 0 where
  pub begins : Begins vs us
  pub size : length us ≡ counted (length vs) p
  pub gives : evaluated sig us p ≡ t
  pub fits : Fits sig T (length vs) us

pub record AreMatches (sig : Signature) (T : Theory) (ps ts : RawTerms) (vs us : List RawTerm) : Type 0 where
  pub begins : Begins vs us
  pub size : length us ≡ counted_all (length vs) ps
  pub gives : evaluated_all sig us ps ≡ ts
  pub fits : Fits sig T (length vs) us

-- each operator has as many arguments as its axioms ask for
abbrev mutual
  pub HasArities : Signature → RawTerm → Type 0
  HasArities sig (numeral n) = ⊤
  HasArities sig (quoted q) = ⊤
  HasArities sig (variable x) = ⊤
  HasArities sig (apply f ts) = HasArity sig f (number_of_terms ts) × AllHaveArities sig ts

  pub AllHaveArities : Signature → RawTerms → Type 0
  AllHaveArities sig nil = ⊤
  AllHaveArities sig (cons t ts) = HasArities sig t × AllHaveArities sig ts

-- The lists of arguments are all that patterns could become, each once. They may be fewer than all on which the operator
-- gives the term, by what the patterns show of what they become.
pub record IsTheory (sig : Signature) (T : Theory) (Shown : ℕ → RawTerms → RawTerms → Type 0) : Type 0 where
  pub exact : (f : ℕ) (qs : RawTerms) (t : RawTerm) → HasArity sig f (number_of_terms qs) → IsCanonical sig t → AllOnce (λ ts. Gives sig f (number_of_terms qs) t ts × Shown f qs ts) (T.splits f qs t)
  pub shown : (f : ℕ) (qs : RawTerms) (us : List RawTerm) → Fits sig T 0 us → AreWithin (length us) qs → Shown f qs (evaluated_all sig us qs)
