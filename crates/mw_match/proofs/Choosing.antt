-- Choices from an index on, step by step, and the numbers of what levels stand on.
use Rattle.std.specs.Prelude.{◌≡◌, ◌≤◌, ◌<◌, ◌+◌, ◌⊎◌, ◌||◌, ℕ, zero, suc, List, [], ◌∷◌, ◌++◌, drop, get_or, length, Bool, true, false, cond, nat_eq, nat_lt, Option, None, Some, option_map, MatchOption, ⊤, refl}
use Rattle.std.proofs.Common.{inl, inr, ap, sym, subst, ◌∙◌, arith}
use Rattle.mw_logic.specs.Term.{RawTerm, RawTerms, nil, cons}
use Rattle.mw_logic.specs.Terms.{skip}
use Rattle.mw_logic.specs.Signature.{Signature}
use Rattle.mw_logic.specs.Parts.{number_of_terms}
use Rattle.mw_matching.specs.Found.{Values, is_among, found, has_top}
use Rattle.mw_matching.specs.Multisets.{term_at}
use Rattle.mw_pattern.proofs.Lists.{drop_at}
use Rattle.mw_search.specs.Clashes.{Clash}
use Rattle.mw_search.specs.Lacking.{Skips}
use Rattle.mw_match.specs.declared.levels.Level.{Level}
use Rattle.mw_match.specs.Choices.{is_again, free, firsts, put}
use Rattle.mw_match.specs.Levels.{is_on, taken_by, choices_from, choices_at, ClashesAt, IsPassedBy, IsPlainTop}
use Rattle.mw_match.proofs.Hands.{skips_none}

-- a number is among those that levels take where one stands there
or_swap : (a b c : Bool) → (a || (b || c)) ≡ (b || (a || c))
or_swap true true c = refl
or_swap true false c = refl
or_swap false true c = refl
or_swap false false c = refl

among_put : (m n : ℕ) (ks : List ℕ) → is_among m (put n ks) ≡ (nat_eq m n || is_among m ks)
among_put m n [] = refl
among_put m n (k ∷ ks) = by_test (nat_lt n k) (among_put m n ks)
  where
    by_test : (b : Bool) → is_among m (put n ks) ≡ (nat_eq m n || is_among m ks) → is_among m (cond b (n ∷ k ∷ ks) (k ∷ put n ks)) ≡ (nat_eq m n || (nat_eq m k || is_among m ks))
    by_test true r = refl
    by_test false r = ap (λ b. nat_eq m k || b) r ∙ or_swap (nat_eq m k) (nat_eq m n) (is_among m ks)

same_index : (i k : ℕ) → nat_eq (suc i) (suc k) ≡ nat_eq k i
same_index i k = grind arith

or_false : (a : Bool) → (a || false) ≡ a
or_false true = refl
or_false false = refl

among_taken : (i : ℕ) (ks : List ℕ) (ls : List Level) → is_among (suc i) (taken_by ks ls) ≡ (is_on i ls || is_among (suc i) ks)
among_taken i ks [] = refl
among_taken i ks (l ∷ ls) =
    among_taken i (put (suc l.at) ks) ls ∙ ap (λ b. is_on i ls || b) (among_put (suc i) (suc l.at) ks ∙ ap (λ b. b || is_among (suc i) ks) (same_index i l.at))
    ∙ or_swap (is_on i ls) (nat_eq l.at i) (is_among (suc i) ks) ∙ or_join (nat_eq l.at i) (is_on i ls) (is_among (suc i) ks)
  where
    or_join : (a b c : Bool) → (a || (b || c)) ≡ ((a || b) || c)
    or_join true b c = refl
    or_join false b c = refl

pub among_levels : (i : ℕ) (ls : List Level) → is_among (suc i) (taken_by [] ls) ≡ is_on i ls
among_levels i ls = among_taken i [] ls ∙ or_false (is_on i ls)

-- terms by index
pub skip_at : (i : ℕ) (ts : RawTerms) → i < number_of_terms ts → skip i ts ≡ cons (term_at i ts) (skip (suc i) ts)
skip_at i nil h = absurd (omega (arith, h))
skip_at zero (cons t ts) h = refl
skip_at (suc i) (cons t ts) h = skip_at i ts (omega (arith, h))

pub skip_past : (i : ℕ) (ts : RawTerms) → number_of_terms ts ≤ i → skip i ts ≡ nil
skip_past zero nil h = refl
skip_past (suc i) nil h = refl
skip_past zero (cons t ts) h = absurd (omega (arith, h))
skip_past (suc i) (cons t ts) h = skip_past i ts (omega (arith, h))

module _ (args : RawTerms) (ks : List ℕ) (before : Option ℕ) (i : ℕ) where
  abbrev o : Option RawTerm
  o = option_map (λ b. term_at b args) before

  abbrev t : RawTerm
  t = term_at i args

  abbrev rest : List (ℕ × RawTerm)
  rest = free (suc (suc i)) ks (skip (suc i) args)

  free_here : i < number_of_terms args → (b : Bool) → is_among (suc i) ks ≡ b → free (suc i) ks (skip i args) ≡ cond b rest ((suc i, t) ∷ rest)
  free_here h b e = ap (free (suc i) ks) (skip_at i args h) ∙ ap (λ b. cond b rest ((suc i, t) ∷ rest)) e

  pub step_taken : i < number_of_terms args → is_among (suc i) ks ≡ true → choices_from args ks before i ≡ choices_from args ks before (suc i)
  step_taken h e = ap (firsts o) (free_here h true e)

  here : i < number_of_terms args → is_among (suc i) ks ≡ false → choices_from args ks before i ≡ cond (is_again o t) (choices_from args ks (Some i) (suc i)) (choices_at args ks (Some i))
  here h e = ap (firsts o) (free_here h false e)

  pub step_stands : i < number_of_terms args → is_among (suc i) ks ≡ false → is_again o t ≡ false → choices_from args ks before i ≡ choices_at args ks (Some i)
  step_stands h e n = here h e ∙ ap (λ b. cond b (choices_from args ks (Some i) (suc i)) (choices_at args ks (Some i))) n

  pub step_past : number_of_terms args ≤ i → choices_from args ks before i ≡ []
  step_past h = ap (λ ts. firsts o (free (suc i) ks ts)) (skip_past i args h)

  pub step_passed : (sig : Signature) (vs : Values) (q : RawTerm) → i < number_of_terms args → is_among (suc i) ks ≡ false → IsPassedBy sig args vs q i before
      → Skips (ClashesAt sig vs q) (choices_from args ks before i) (choices_from args ks (Some i) (suc i))
  step_passed sig vs q h e p = subst (λ zs. Skips (ClashesAt sig vs q) zs (choices_from args ks (Some i) (suc i))) (sym (here h e)) (by_test (is_again o t) refl p)
    where
      by_test : (b : Bool) → is_again o t ≡ b → Clash sig vs q t ⊎ (is_again o t ≡ true) → Skips (ClashesAt sig vs q) (cond b (choices_from args ks (Some i) (suc i)) (choices_at args ks (Some i))) (choices_from args ks (Some i) (suc i))
      by_test true w p = skips_none (ClashesAt sig vs q) (choices_from args ks (Some i) (suc i)) (choices_from args ks (Some i) (suc i)) refl
      by_test false w (inl c) = record { left = (suc i, t) ∷ []; each = (c, tt); rest = refl }
      by_test false w (inr a) = cc

-- a pattern with an operator without axioms on top meets no term without it
pub other_clash : (sig : Signature) (vs : Values) (q t : RawTerm) (f : ℕ) → IsPlainTop sig q f → has_top f t ≡ false → Clash sig vs q t
other_clash sig vs q t f p h single more =
    ap (λ q. found sig single q t (vs ++ more)) p.is ∙ rw (p.assoc, p.comm, p.successor, h) refl

pub none_other : (sig : Signature) (vs : Values) (q t : RawTerm) (o : Option ℕ) → MatchOption o ⊤ (IsPlainTop sig q) → MatchOption o ⊥ (λ f. has_top f t ≡ false) → Clash sig vs q t
none_other sig vs q t None p h = absurd h
none_other sig vs q t (Some f) p h = other_clash sig vs q t f p h
