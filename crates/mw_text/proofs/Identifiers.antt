-- The quoted identifiers of a term that tokens spell are tokens.
use Rattle.std.proofs.Common.{ℕ, ◌≡◌, List, [], ◌∷◌, ◌++◌, codes, ⊎_elim, arith, inl, refl}
use Rattle.mw_lex.specs.Texts.{IsProper, IsTokenText}
use Rattle.mw_logic.specs.Term.{Variable, RawTerm, RawTerms}
use Rattle.mw_logic.specs.Signature.{Signature, Operator, Gather}
use Rattle.mw_text.specs.Names.{NameItem}
use Rattle.mw_text.specs.Mixfix.{IsIdentifier, Spells, declared, with_sort, numbered, identified, grouped, a_constant, prefixed, flattened, mixfix, SpellsArguments, last, more, SpellsNested, two, another, SpellsItems, no_items, over_piece, over_hole}
use Rattle.mw_text.specs.Proper.{HasIdentifiers, HaveIdentifiers}
use Rattle.mw_text.proofs.SpelledVariables.{Each, left_of, right_of, behind, past}

-- an identifier is no string, as that begins with another byte
identifier_proper : (q : List ℕ) → IsIdentifier q → IsTokenText q → IsProper q
identifier_proper [] i h = absurd i
identifier_proper (b ∷ []) i h = absurd i
identifier_proper (b ∷ c ∷ q) i h = ⊎_elim (λ p. p) (λ (e : b ≡ 34). absurd (omega (arith, i, e))) h

module _ (sig : Signature) (variables : List Variable) where
  mutual
    pub spelled_identifiers : {t : RawTerm} {p : ℕ} {text : List (List ℕ)} → Spells sig variables t p text → Each IsTokenText text → HasIdentifiers t
    spelled_identifiers (declared x m) h = tt
    spelled_identifiers (with_sort x S n v) h = tt
    spelled_identifiers (numbered n token i e) h = tt
    spelled_identifiers (identified q i e) h = (e, identifier_proper q e (h q (inl refl)))
    spelled_identifiers (grouped t p text s) h = spelled_identifiers s (behind IsTokenText (codes "(") text (left_of IsTokenText (codes "(" ∷ text) (codes ")" ∷ []) h))
    spelled_identifiers (a_constant f o head is e k) h = tt
    spelled_identifiers (prefixed f o t ts head inner is k all) h =
        arguments_identifiers all (past IsTokenText head (codes "(") inner (left_of IsTokenText (head ++ codes "(" ∷ inner) (codes ")" ∷ []) h))
    spelled_identifiers (flattened f o t u head inner is a k p K text s m kind rest) h =
        let front = head ++ codes "(" ∷ text in
        let whole : Each IsTokenText (front ++ codes "," ∷ inner) = left_of IsTokenText (front ++ codes "," ∷ inner) (codes ")" ∷ []) h in
        (spelled_identifiers s (past IsTokenText head (codes "(") text (left_of IsTokenText front (codes "," ∷ inner) whole)), (nested_identifiers rest (past IsTokenText front (codes ",") inner whole), tt))
    spelled_identifiers (mixfix f o ts text is k items) h = items_identifiers items h

    arguments_identifiers : {Ks : List ℕ} {ts : RawTerms} {text : List (List ℕ)} → SpellsArguments sig variables Ks ts text → Each IsTokenText text → HaveIdentifiers ts
    arguments_identifiers (last K t p text s k) h = (spelled_identifiers s h, tt)
    arguments_identifiers (more K Ks t ts p text rest s k all) h =
        (spelled_identifiers s (left_of IsTokenText text (codes "," ∷ rest) h), arguments_identifiers all (past IsTokenText text (codes ",") rest h))

    nested_identifiers : {f : ℕ} {o : Operator} {u : RawTerm} {text : List (List ℕ)} → SpellsNested sig variables f o u text → Each IsTokenText text → HasIdentifiers u
    nested_identifiers (two f o t u text all) h = arguments_identifiers all h
    nested_identifiers (another f o t u p K text rest s m k all) h =
        (spelled_identifiers s (left_of IsTokenText text (codes "," ∷ rest) h), (nested_identifiers all (past IsTokenText text (codes ",") rest h), tt))

    items_identifiers : {p : ℕ} {items : List NameItem} {gather : List Gather} {Ks : List ℕ} {ts : RawTerms} {text : List (List ℕ)} → SpellsItems sig variables p items gather Ks ts text
        → Each IsTokenText text → HaveIdentifiers ts
    items_identifiers (no_items p) h = tt
    items_identifiers (over_piece p y items gather Ks ts rest all) h = items_identifiers all (behind IsTokenText y rest h)
    items_identifiers (over_hole p g K q t items gather Ks ts text rest s taken k all) h =
        (spelled_identifiers s (left_of IsTokenText text rest h), items_identifiers all (right_of IsTokenText text rest h))
