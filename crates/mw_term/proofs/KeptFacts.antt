-- What is kept of a list of terms, term by term.
use Rattle.std.proofs.Common.{◌≡◌, ◌∙◌, ◌<◌, ◌≤◌, ◌+◌, ℕ, suc, List, [], ◌∷◌, ◌++◌, length, get_or, drop, drop-cons, drop_of_length-le, add-one, refl, ap, sym, arith}
use Rattle.std.specs.Int.Bits.{or_zero_l, or_zero_r}
use Rattle.mw_logic.specs.Term.{RawTerm, RawTerms, apply, nil, cons}
use Rattle.mw_logic.specs.Terms.{terms_of}
use Rattle.mw_logic.specs.Parts.{number_of_terms}
use Rattle.mw_term.specs.Facts.{facts_above, facts_of, facts_of_all, facts_joined}
use Rattle.mw_term.specs.declared.facts.Facts.{Facts}
use Rattle.mw_term.proofs.OperatorSets.{or_assoc}

abbrev pub facts : ℕ → ℕ → ℕ → Facts
facts r l d = record { remainders = r; last = l; depth = d }

pub same_facts : (r l d s m e : ℕ) → r ≡ s → l ≡ m → d ≡ e → facts r l d ≡ facts s m e
same_facts r l d s m e p q h = rw (p, q, h) refl

joined_first : (a : Facts) (t : RawTerm) (ts : RawTerms) → facts_joined (facts_joined a (facts_of t)) (facts_of_all ts) ≡ facts_joined a (facts_of_all (cons t ts))
joined_first a t ts = same_facts _ _ _ _ _ _ (or_assoc a.remainders _ _) (omega arith) (omega arith)

-- the next of a list's terms, and the end of the list
pub next_in : (ts : List RawTerm) (i : ℕ) (t : RawTerm) (all one both total : Facts) → i < length ts → t ≡ get_or ts i t → one ≡ facts_of t → both ≡ facts_joined all one
    → facts_joined all (facts_of_all (terms_of (drop i ts))) ≡ total → facts_joined both (facts_of_all (terms_of (drop (i + 1) ts))) ≡ total
next_in ts i t all one both total h e w s inv =
    let rest : RawTerms = terms_of (drop (i + 1) ts) in
    let d : drop i ts ≡ t ∷ drop (i + 1) ts = drop-cons ts i t h ∙ rw (← e, add-one) refl in
    ap (λ x. facts_joined x (facts_of_all rest)) (s ∙ ap (facts_joined all) w) ∙ joined_first all t rest ∙ sym (ap (λ (xs : List RawTerm). facts_joined all (facts_of_all (terms_of xs))) d) ∙ inv

pub all_in : (ts : List RawTerm) (i : ℕ) (all total : Facts) → length ts ≤ i → facts_joined all (facts_of_all (terms_of (drop i ts))) ≡ total → all ≡ total
all_in ts i all total h inv =
    let d : drop i ts ≡ [] = drop_of_length-le ts h in
    same_facts _ _ _ _ _ _ (sym (or_zero_r all.remainders)) (omega arith) (omega arith) ∙ sym (ap (λ (xs : List RawTerm). facts_joined all (facts_of_all (terms_of xs))) d) ∙ inv

-- of an operator on terms
pub facts_above-is : (f n : ℕ) (ts : RawTerms) → n ≡ number_of_terms ts → facts_above f n (facts_of_all ts) ≡ facts_of (apply f ts)
facts_above-is f n ts e = ap (λ m. facts_above f m (facts_of_all ts)) e ∙ same_facts _ _ _ _ _ _ refl refl (omega arith)

pub number_listed : (ts : List RawTerm) → number_of_terms (terms_of ts) ≡ length ts
number_listed [] = refl
number_listed (t ∷ ts) = ap suc (number_listed ts)

pub facts_of_one : (t : RawTerm) → facts_of t ≡ facts_of_all (cons t nil)
facts_of_one t = same_facts _ _ _ _ _ _ (sym (or_zero_r _)) (omega arith) (omega arith)

pub facts_of_two : (t u : RawTerm) → facts_joined (facts_of t) (facts_of u) ≡ facts_of_all (cons t (cons u nil))
facts_of_two t u = ap (facts_joined (facts_of t)) (facts_of_one u) ∙ same_facts _ _ _ _ _ _ refl refl (omega arith)

pub facts_of_more : (t : RawTerm) (ts : RawTerms) → facts_of_all (cons t ts) ≡ facts_joined (facts_of t) (facts_of_all ts)
facts_of_more t ts = same_facts _ _ _ _ _ _ refl refl (omega arith)

-- lists one behind another
pub joined_assoc : (a b c : Facts) → facts_joined (facts_joined a b) c ≡ facts_joined a (facts_joined b c)
joined_assoc a b c = same_facts _ _ _ _ _ _ (or_assoc a.remainders b.remainders c.remainders) (omega arith) (omega arith)

pub facts-append : (xs ys : List RawTerm) → facts_of_all (terms_of (xs ++ ys)) ≡ facts_joined (facts_of_all (terms_of xs)) (facts_of_all (terms_of ys))
facts-append [] ys = same_facts _ _ _ _ _ _ (sym (or_zero_l _)) (omega arith) (omega arith)
facts-append (x ∷ xs) ys =
    facts_of_more x (terms_of (xs ++ ys)) ∙ ap (facts_joined (facts_of x)) (facts-append xs ys) ∙ sym (joined_assoc (facts_of x) (facts_of_all (terms_of xs)) (facts_of_all (terms_of ys)))
    ∙ ap (λ a. facts_joined a (facts_of_all (terms_of ys))) (sym (facts_of_more x (terms_of xs)))
