-- Lists of terms and of patterns, one by one.
use Rattle.std.specs.Prelude.{◌≡◌, ◌<◌, ◌≤◌, ◌+◌, ℕ, List, [], ◌∷◌, ◌++◌, length, drop, get_or, refl}
use Rattle.std.proofs.Common.{sym, ap, subst, ◌∙◌, drop_of_length-le}
use Rattle.mw_logic.specs.Term.{Variable, RawTerm, RawTerms, nil, cons, join}
use Rattle.mw_logic.specs.Terms.{terms_of}
use Rattle.mw_logic.specs.NormalForm.{normal_form, normal_forms}
use Rattle.mw_logic.specs.Signature.{Signature}
use Rattle.mw_logic.proofs.SortLaws.{join-nil, join_assoc}
use Rattle.mw_logic.proofs.Pushed.{terms_of-append}
use Rattle.mw_position.specs.Positions.{IsNumbered, AreNumbered, counted, counted_all, IsWithin, AreWithin}
use Rattle.mw_position.specs.Variables.{placed, all_placed}
use Rattle.mw_matching.specs.Matches.{evaluated, evaluated_all}
use Rattle.mw_pattern.proofs.Lists.{drop_at}
use Rattle.mw_pattern.specs.Clean.{clean, clean_all}
use Rattle.mw_pattern.specs.declared.pattern.Pattern.{Pattern}
use Rattle.mw_term.specs.Raws.{raw_term, raw_terms}
use Rattle.mw_term.specs.declared.raw.Raw.{Raw}
use Rattle.mw_match.specs.Straight.{IsStraight, AreStraight}
use Rattle.mw_canon.specs.Free.{IsFree, AreFree}

-- a term more behind those that are made, of those that are to be
made_more : (made made' : List RawTerm) (q t : RawTerm) (rest whole : RawTerms) → made' ≡ made ++ q ∷ [] → q ≡ t → join (terms_of made) (cons t rest) ≡ whole → join (terms_of made') rest ≡ whole
made_more made made' q t rest whole m e old =
    ap (λ us. join (terms_of us) rest) m ∙ ap (λ us. join us rest) (terms_of-append made (q ∷ [])) ∙ join_assoc (terms_of made) (cons q nil) rest ∙ ap (λ z. join (terms_of made) (cons z rest)) e ∙ old

made_all : (made : List RawTerm) (rest whole : RawTerms) → rest ≡ nil → join (terms_of made) rest ≡ whole → terms_of made ≡ whole
made_all made rest whole e old = sym (join-nil (terms_of made)) ∙ ap (join (terms_of made)) (sym e) ∙ old

-- normal forms
pub normal_more : (sig : Signature) (ts : List Raw) (i : ℕ) (r : Raw) (made made' : List RawTerm) (q : RawTerm) (whole : RawTerms) → i < length ts → r ≡ get_or ts i r → made' ≡ made ++ q ∷ []
    → q ≡ normal_form sig (raw_term r) → join (terms_of made) (normal_forms sig (raw_terms (drop i ts))) ≡ whole → join (terms_of made') (normal_forms sig (raw_terms (drop (i + 1) ts))) ≡ whole
normal_more sig ts i r made made' q whole h e m n old =
    let d = drop_at ts i r h e in
    made_more made made' q (normal_form sig (raw_term r)) (normal_forms sig (raw_terms (drop (i + 1) ts))) whole m n (ap (λ us. join (terms_of made) (normal_forms sig (raw_terms us))) (sym d) ∙ old)

pub normal_all : (sig : Signature) (ts : List Raw) (i : ℕ) (made : List RawTerm) (whole : RawTerms) → length ts ≤ i → join (terms_of made) (normal_forms sig (raw_terms (drop i ts))) ≡ whole → terms_of made ≡ whole
normal_all sig ts i made whole h old = made_all made (normal_forms sig (raw_terms (drop i ts))) whole (ap (λ us. normal_forms sig (raw_terms us)) (drop_of_length-le ts h)) old

-- patterns
clean_all-append : (ps qs : List Pattern) → clean_all (ps ++ qs) ≡ join (clean_all ps) (clean_all qs)
clean_all-append [] qs = refl
clean_all-append (p ∷ ps) qs = ap (cons (clean p)) (clean_all-append ps qs)

pub pattern_more : (xs : List Variable) (ts : List RawTerm) (i : ℕ) (t : RawTerm) (made made' : List Pattern) (p : Pattern) (whole : RawTerms) → i < length ts → t ≡ get_or ts i t → made' ≡ made ++ p ∷ []
    → clean p ≡ placed xs t → join (clean_all made) (all_placed xs (terms_of (drop i ts))) ≡ whole → join (clean_all made') (all_placed xs (terms_of (drop (i + 1) ts))) ≡ whole
pattern_more xs ts i t made made' p whole h e m c old =
    let d = drop_at ts i t h e in
    let rest : RawTerms = all_placed xs (terms_of (drop (i + 1) ts)) in
    ap (λ us. join (clean_all us) rest) m ∙ ap (λ us. join us rest) (clean_all-append made (p ∷ [])) ∙ join_assoc (clean_all made) (cons (clean p) nil) rest ∙ ap (λ z. join (clean_all made) (cons z rest)) c
    ∙ ap (λ us. join (clean_all made) (all_placed xs (terms_of us))) (sym d) ∙ old

pub pattern_all : (xs : List Variable) (ts : List RawTerm) (i : ℕ) (made : List Pattern) (whole : RawTerms) → length ts ≤ i → join (clean_all made) (all_placed xs (terms_of (drop i ts))) ≡ whole → clean_all made ≡ whole
pattern_all xs ts i made whole h old = sym (join-nil (clean_all made)) ∙ ap (λ us. join (clean_all made) (all_placed xs (terms_of us))) (sym (drop_of_length-le ts h)) ∙ old

-- the first pattern of what is left
pub cleaned_at : (ps : List Pattern) (i : ℕ) (p : Pattern) → i < length ps → p ≡ get_or ps i p → clean_all (drop i ps) ≡ cons (clean p) (clean_all (drop (i + 1) ps))
cleaned_at ps i p h e = ap clean_all (drop_at ps i p h e)

pub cleaned_end : (ps : List Pattern) (i : ℕ) → length ps ≤ i → clean_all (drop i ps) ≡ nil
cleaned_end ps i h = ap clean_all (drop_of_length-le ps h)

module _ (sig : Signature) (vs : List RawTerm) (ps : List Pattern) (i : ℕ) where
  pub evaluated_more : (p : Pattern) (made made' : List RawTerm) (q : RawTerm) (whole : RawTerms) → i < length ps → p ≡ get_or ps i p → made' ≡ made ++ q ∷ [] → q ≡ evaluated sig vs (clean p)
      → join (terms_of made) (evaluated_all sig vs (clean_all (drop i ps))) ≡ whole → join (terms_of made') (evaluated_all sig vs (clean_all (drop (i + 1) ps))) ≡ whole
  evaluated_more p made made' q whole h e m v old =
      made_more made made' q (evaluated sig vs (clean p)) (evaluated_all sig vs (clean_all (drop (i + 1) ps))) whole m v (ap (λ us. join (terms_of made) (evaluated_all sig vs us)) (sym (cleaned_at ps i p h e)) ∙ old)

  pub evaluated_end : (made : List RawTerm) (whole : RawTerms) → length ps ≤ i → join (terms_of made) (evaluated_all sig vs (clean_all (drop i ps))) ≡ whole → terms_of made ≡ whole
  evaluated_end made whole h old = made_all made (evaluated_all sig vs (clean_all (drop i ps))) whole (ap (evaluated_all sig vs) (cleaned_end ps i h)) old

pub within_more : (n : ℕ) (ps : List Pattern) (i : ℕ) (p : Pattern) → i < length ps → p ≡ get_or ps i p → AreWithin n (clean_all (drop i ps)) → IsWithin n (clean p) × AreWithin n (clean_all (drop (i + 1) ps))
within_more n ps i p h e w = subst (AreWithin n) (cleaned_at ps i p h e) w

-- those that are left make all of them straight, and free
pub straight_more : (sig : Signature) (ps : List Pattern) (i : ℕ) (p : Pattern) (whole : RawTerms) → i < length ps → p ≡ get_or ps i p → IsStraight sig (clean p)
    → (AreStraight sig (clean_all (drop i ps)) → AreStraight sig whole) → AreStraight sig (clean_all (drop (i + 1) ps)) → AreStraight sig whole
straight_more sig ps i p whole h e f old rest = old (subst (AreStraight sig) (sym (cleaned_at ps i p h e)) (f, rest))

pub straight_end : (sig : Signature) (ps : List Pattern) (i : ℕ) (whole : RawTerms) → length ps ≤ i → (AreStraight sig (clean_all (drop i ps)) → AreStraight sig whole) → AreStraight sig whole
straight_end sig ps i whole h old = old (subst (AreStraight sig) (sym (cleaned_end ps i h)) tt)

pub free_more : (sig : Signature) (ps : List Pattern) (i : ℕ) (p : Pattern) (whole : RawTerms) → i < length ps → p ≡ get_or ps i p → IsFree sig (clean p)
    → (AreFree sig (clean_all (drop i ps)) → AreFree sig whole) → AreFree sig (clean_all (drop (i + 1) ps)) → AreFree sig whole
free_more sig ps i p whole h e f old rest = old (subst (AreFree sig) (sym (cleaned_at ps i p h e)) (f, rest))

pub free_end : (sig : Signature) (ps : List Pattern) (i : ℕ) (whole : RawTerms) → length ps ≤ i → (AreFree sig (clean_all (drop i ps)) → AreFree sig whole) → AreFree sig whole
free_end sig ps i whole h old = old (subst (AreFree sig) (sym (cleaned_end ps i h)) tt)

-- The variables of those that are left, with n before them, are numbered as all are with m before.
pub record Numbers (m : ℕ) (whole : RawTerms) (n : ℕ) (rest : RawTerms) : Type 0 where
  pub numbered : AreNumbered n rest → AreNumbered m whole
  pub count : counted_all n rest ≡ counted_all m whole

pub numbers_first : (m : ℕ) (whole : RawTerms) → Numbers m whole m whole
numbers_first m whole = record { numbered = λ h. h; count = refl }

pub numbers_more : (m n n' : ℕ) (whole : RawTerms) (ps : List Pattern) (i : ℕ) (p : Pattern) → i < length ps → p ≡ get_or ps i p → IsNumbered n (clean p) → n' ≡ counted n (clean p)
    → Numbers m whole n (clean_all (drop i ps)) → Numbers m whole n' (clean_all (drop (i + 1) ps))
numbers_more m n n' whole ps i p h e k c old =
    let q : Numbers m whole n (cons (clean p) (clean_all (drop (i + 1) ps))) = subst (Numbers m whole n) (cleaned_at ps i p h e) old in
    subst (λ n. Numbers m whole n (clean_all (drop (i + 1) ps))) (sym c) (record { numbered = λ r. q.numbered (k, r); count = q.count })

pub numbers_end : (m n : ℕ) (whole : RawTerms) (ps : List Pattern) (i : ℕ) → length ps ≤ i → Numbers m whole n (clean_all (drop i ps)) → AreNumbered m whole × (n ≡ counted_all m whole)
numbers_end m n whole ps i h old = let q : Numbers m whole n nil = subst (Numbers m whole n) (cleaned_end ps i h) old in (q.numbered tt, q.count)
