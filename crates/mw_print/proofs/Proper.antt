-- Printed tokens are proper.
use Rattle.std.proofs.Common.{◌≡◌, inl, inr, ℕ, Bool, true, false, List, [], ◌∷◌, ◌++◌, map, length, Option, Some, None, refl}
use Rattle.std.specs.Prelude.{All, codes, ⊤}
use Rattle.std.proofs.lemmas.Bool.{cases_Bool}
use Rattle.std.proofs.lemmas.List.Elements.{All-nil, All-cons, All-head, All-tail}
use Rattle.mw_logic.specs.Term.{RawTerm, numeral, quoted, variable, apply, RawTerms, nil, cons}
use Rattle.mw_logic.specs.Signature.{Signature, Operator, Gather, at_number}
use Rattle.mw_logic.specs.Parts.{is_assoc}
use Rattle.mw_lex.specs.Texts.{IsProper}
use Rattle.mw_text.specs.Proper.{IsProperName, AreProperNames}
use Rattle.mw_text.specs.Names.{NameItem, piece, hole, items_of, has_hole, pieces}
use Rattle.mw_print.specs.Tokens.{Token, token, opening, comma, text_of, texts}
use Rattle.mw_print.specs.Printing.{Printed, is_mixfix, takes, in_parentheses, in_hole, in_holes, head, divided, called, spread, arguments_of, tokens_of, printed, printed_all}
use Rattle.mw_print.specs.Laws.{HasProperLeaves, HaveProperLeaves, PrintedProper}
use Rattle.mw_print.proofs.Spelled.{spread_cases}
use Rattle.mw_print.proofs.Digits.{decimal_proper}

abbrev pub AreProper : List Token → Type 0
AreProper [] = ⊤
AreProper (x ∷ xs) = IsProper (text_of x) × AreProper xs

pub all_proper : (xs : List Token) → AreProper xs → All IsProper (texts xs)
all_proper [] h = All-nil IsProper
all_proper (x ∷ xs) h = All-cons IsProper (text_of x) (texts xs) h.0 (all_proper xs h.1)

both_proper : (xs ys : List Token) → AreProper xs → AreProper ys → AreProper (xs ++ ys)
both_proper [] ys h k = k
both_proper (x ∷ xs) ys h k = (h.0, both_proper xs ys h.1 k)

names_proper : (names : List (List ℕ)) → All IsProper names → AreProper (map token names)
names_proper [] h = tt
names_proper (n ∷ ns) h = (All-head IsProper n ns h, names_proper ns (All-tail IsProper n ns h))

abbrev pub AreAllProper : List (List Token) → Type 0
AreAllProper [] = ⊤
AreAllProper (xs ∷ xss) = AreProper xs × AreAllProper xss

divided_proper : (xss : List (List Token)) → AreAllProper xss → AreProper (divided xss)
divided_proper [] h = tt
divided_proper (xs ∷ []) h = h.0
divided_proper (xs ∷ ys ∷ yss) h = both_proper xs (comma ∷ divided (ys ∷ yss)) h.0 (inl refl, divided_proper (ys ∷ yss) h.1)

pub called_proper : (h : List Token) (xss : List (List Token)) → AreProper h → AreAllProper xss → AreProper (called h xss)
called_proper h [] p q = p
called_proper h (xs ∷ xss) p q =
    both_proper (h ++ opening ∷ divided (xs ∷ xss)) (token (codes ")") ∷ []) (both_proper h (opening ∷ divided (xs ∷ xss)) p (inl refl, divided_proper (xs ∷ xss) q)) (inl refl, tt)

grouped_proper : (xs : List Token) → AreProper xs → AreProper (in_parentheses xs)
grouped_proper xs h = both_proper (token (codes "(") ∷ xs) (token (codes ")") ∷ []) (inl refl, h) (inl refl, tt)

-- a term's tokens are proper, and those that are printed in its place
abbrev IsFine : Printed → Type 0
IsFine a = AreProper a.tokens × AreAllProper a.arguments

abbrev AreFine : List Printed → Type 0
AreFine [] = ⊤
AreFine (a ∷ args) = IsFine a × AreFine args

spread_proper : (f : ℕ) (a : Printed) → IsFine a → AreAllProper (spread f a)
spread_proper f a h = elim (spread_cases f a) [ inl (e, some, s) ↦ rw s h.1 | inr s ↦ rw s (h.0, tt) ]

arguments_proper : (assoc : Bool) (f : ℕ) (args : List Printed) → AreFine args → AreAllProper (arguments_of assoc f args)
arguments_proper assoc f [] h = tt
arguments_proper true f (a ∷ []) h = spread_proper f a h.0
arguments_proper false f (a ∷ []) h = (h.0.0, tt)
arguments_proper assoc f (a ∷ b ∷ args) h = (h.0.0, arguments_proper assoc f (b ∷ args) h.1)

hole_proper : (g : Gather) (p : ℕ) (a : Printed) → IsFine a → AreProper (in_hole g p a)
hole_proper g p a h = elim (cases_Bool (takes g p a.precedence)) [ inl e ↦ rw e h.0 | inr e ↦ rw e (grouped_proper a.tokens h.0) ]

holes_proper : (p : ℕ) (items : List NameItem) (gs : List Gather) (args : List Printed) → All IsProper (pieces items) → AreFine args → AreProper (in_holes p items gs args)
holes_proper p [] gs args n h = tt
holes_proper p (piece x ∷ items) gs args n h = (All-head IsProper x (pieces items) n, holes_proper p items gs args (All-tail IsProper x (pieces items) n) h)
holes_proper p (hole ∷ items) [] args n h = holes_proper p items [] args n h
holes_proper p (hole ∷ items) (g ∷ gs) [] n h = holes_proper p items (g ∷ gs) [] n h
holes_proper p (hole ∷ items) (g ∷ gs) (a ∷ args) n h = both_proper (in_hole g p a) (in_holes p items gs args) (hole_proper g p a h.0) (holes_proper p items gs args n h.1)

head_proper : (o : Operator) → IsProperName o.spelling → AreProper (head o)
head_proper o h =
    elim (cases_Bool (has_hole (items_of o.spelling))) [ inl e ↦ rw e (h.1 e, tt) | inr e ↦ rw e (names_proper (pieces (items_of o.spelling)) h.0) ]

tokens_proper : (o : Option Operator) (args : List Printed) (listed : List (List Token)) → ((p : Operator) → o ≡ Some p → IsProperName p.spelling)
    → AreFine args → AreAllProper listed → AreProper (tokens_of o args listed)
tokens_proper None args listed n h k = called_proper [] listed tt k
tokens_proper (Some o) args listed n h k =
    let names = n o refl in
    elim (cases_Bool (is_mixfix o (length args))) [
      | inl e ↦ rw e (holes_proper o.prec (items_of o.spelling) o.gather args names.0 h)
      | inr e ↦ rw e (called_proper (head o) listed (head_proper o names) k)
    ]

module _ (sig : Signature) (names : AreProperNames sig) where
  mutual
    term_fine : (t : RawTerm) → HasProperLeaves sig t → IsFine (printed sig t)
    term_fine (numeral n) h = ((decimal_proper n h, tt), tt)
    term_fine (quoted q) h = ((h, tt), tt)
    term_fine (variable x) h = ((h, tt), tt)
    term_fine (apply f ts) h =
        let args = printed_all sig ts in
        let listed = arguments_of (is_assoc sig f) f args in
        let below = terms_fine ts h in
        let in_place = arguments_proper (is_assoc sig f) f args below in
        (tokens_proper (at_number sig.operators f) args listed (names f) below in_place, in_place)

    terms_fine : (ts : RawTerms) → HaveProperLeaves sig ts → AreFine (printed_all sig ts)
    terms_fine nil h = tt
    terms_fine (cons t ts) h = (term_fine t h.0, terms_fine ts h.1)

-- printed tokens are proper
pub printed_proper : PrintedProper
printed_proper sig t names h = all_proper (printed sig t).tokens (term_fine sig names t h).0
