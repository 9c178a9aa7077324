-- Forms of terms, part by part.
use Rattle.std.proofs.Common.{◌≡◌, ◌<◌, ◌==◌, ◌&&◌, ℕ, zero, suc, Bool, true, false, List, [], ◌∷◌, ◌++◌, length, Some, None, refl, ap, sym, append_assoc, arith}
use Rattle.std.specs.Prelude.{not, codes, if◌then◌else◌}
use Rattle.std.proofs.lemmas.Bool.{and_parts, true≢false}
use Rattle.std.proofs.lemmas.List.{append-nil}
use Rattle.mw_logic.specs.Term.{RawTerm}
use Rattle.mw_logic.specs.Signature.{Signature, Operator, at_number}
use Rattle.mw_text.specs.Names.{items_of}
use Rattle.mw_print.specs.Tokens.{Token, token, opening, comma}
use Rattle.mw_print.specs.Printing.{Printed, is_mixfix, divided, called, has_arguments, spread, arguments_of, head, in_holes, applied, shown, all_shown}

pub length_shown : (sig : Signature) (ts : List RawTerm) → length (all_shown sig ts) ≡ length ts
length_shown sig [] = refl
length_shown sig (t ∷ ts) = ap suc (length_shown sig ts)

-- what is spread has an element
some_either : (t : Bool) (xs : List (List Token)) (x : List Token) → (t ≡ true → 0 < length xs) → 0 < length (if t then xs else x ∷ [])
some_either true xs x h = h refl
some_either false xs x h = omega arith

has_some : (n : ℕ) → not (n == 0) ≡ true → 0 < n
has_some zero h = absurd (true≢false (sym h))
has_some (suc n) h = omega arith

spread_some : (f : ℕ) (a : Printed) → 0 < length (spread f a)
spread_some f a = some_either (a.operator == f && has_arguments a) a.arguments a.tokens (λ h. has_some (length a.arguments) (and_parts _ _ h).1)

pub arguments_some : (assoc : Bool) (f : ℕ) (a : Printed) (ps : List Printed) → 0 < length (arguments_of assoc f (a ∷ ps))
arguments_some true f a [] = spread_some f a
arguments_some false f a [] = omega arith
arguments_some assoc f a (b ∷ ps) = omega arith

pub divided_more : (x : List Token) (ys : List (List Token)) → 0 < length ys → divided (x ∷ ys) ≡ x ++ comma ∷ divided ys
divided_more x [] h = absurd (omega arith)
divided_more x (y ∷ ys) h = refl

-- an argument before others
pub list_more : (assoc : Bool) (f : ℕ) (a b : Printed) (ps : List Printed)
    → divided (arguments_of assoc f (a ∷ b ∷ ps)) ≡ a.tokens ++ comma ∷ divided (arguments_of assoc f (b ∷ ps))
list_more assoc f a b ps = divided_more a.tokens (arguments_of assoc f (b ∷ ps)) (arguments_some assoc f b ps)

-- arguments in parentheses
pub called_some : (head : List Token) (xs : List (List Token)) → 0 < length xs → called head xs ≡ head ++ opening ∷ divided xs ++ token (codes ")") ∷ []
called_some head [] h = absurd (omega arith)
called_some head (x ∷ xs) h = refl

pub called_head : (head : List Token) (xs : List (List Token)) → called head xs ≡ head ++ called [] xs
called_head head [] = sym (append-nil head)
called_head head (x ∷ xs) = append_assoc head (opening ∷ divided (x ∷ xs)) (token (codes ")") ∷ [])

pub some_of : (n : ℕ) → (n == 0) ≡ false → 0 < n
some_of zero h = absurd (true≢false h)
some_of (suc n) h = omega arith

pub listed_some : (sig : Signature) (assoc : Bool) (f : ℕ) (ts : List RawTerm) → (length ts == 0) ≡ false → 0 < length (arguments_of assoc f (all_shown sig ts))
listed_some sig assoc f [] h = absurd (true≢false h)
listed_some sig assoc f (t ∷ ts) h = arguments_some assoc f (shown sig t) (all_shown sig ts)

-- An operator's tokens, by its form.
module _ (sig : Signature) (f : ℕ) (ps : List Printed) where
  pub mixfix_tokens : (o : Operator) → Some o ≡ at_number sig.operators f → is_mixfix o (length ps) ≡ true → in_holes o.prec (items_of o.spelling) o.gather ps ≡ (applied sig f ps).tokens
  mixfix_tokens o there m = rw (← there, m) refl

  pub prefix_tokens : (o : Operator) → Some o ≡ at_number sig.operators f → is_mixfix o (length ps) ≡ false → head o ++ called [] (arguments_of o.assoc f ps) ≡ (applied sig f ps).tokens
  prefix_tokens o there m = rw (← there, m) (sym (called_head (head o) (arguments_of o.assoc f ps)))

  pub no_tokens : None ≡ at_number sig.operators f → called [] (arguments_of false f ps) ≡ (applied sig f ps).tokens
  no_tokens there = rw (← there) refl
