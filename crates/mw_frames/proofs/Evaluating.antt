-- Instances of a list of patterns, one after the other.
use Rattle.std.proofs.Common.{◌≡◌, ℕ, zero, suc, ◌+◌, ◌<◌, ◌≤◌, List, [], ◌∷◌, ◌++◌, length, get_or, drop, ap, sym, ◌∙◌, arith, drop_of_length-le}
use Rattle.mw_logic.specs.Term.{RawTerm, RawTerms, cons, join}
use Rattle.mw_logic.specs.Signature.{Signature}
use Rattle.mw_logic.specs.NormalForm.{height, highest}
use Rattle.mw_logic.specs.Terms.{terms_of}
use Rattle.mw_logic.proofs.Pushed.{join_pushed}
use Rattle.mw_logic.proofs.SortLaws.{join-nil}
use Rattle.mw_matching.specs.Matches.{evaluated, evaluated_all}
use Rattle.mw_pattern.specs.declared.pattern.Pattern.{Pattern}
use Rattle.mw_pattern.specs.Clean.{clean, clean_all}
use Rattle.mw_pattern.proofs.Lists.{drop_at}

pub pattern_height : (ps : List Pattern) (i : ℕ) (p : Pattern) → i < length ps → height (clean (get_or ps i p)) ≤ highest (clean_all ps)
pattern_height [] i p h = absurd (omega arith)
pattern_height (q ∷ ps) zero p h = omega arith
pattern_height (q ∷ ps) (suc i) p h = let k = pattern_height ps i p (omega (arith, h)) in omega (arith, k)

pub evaluated_more : (sig : Signature) (vs : List RawTerm) (ps : List Pattern) (i : ℕ) (p : Pattern) (made made' : List RawTerm) (t : RawTerm) (all : RawTerms)
    → i < length ps → p ≡ get_or ps i p → made' ≡ made ++ t ∷ [] → t ≡ evaluated sig vs (clean p)
    → join (terms_of made) (evaluated_all sig vs (clean_all (drop i ps))) ≡ all → join (terms_of made') (evaluated_all sig vs (clean_all (drop (i + 1) ps))) ≡ all
evaluated_more sig vs ps i p made made' t all h e m f inv =
    ap (λ xs. join (terms_of xs) (evaluated_all sig vs (clean_all (drop (i + 1) ps)))) m ∙ join_pushed made t (evaluated_all sig vs (clean_all (drop (i + 1) ps)))
    ∙ ap (λ u. join (terms_of made) (cons u (evaluated_all sig vs (clean_all (drop (i + 1) ps))))) f
    ∙ sym (ap (λ qs. join (terms_of made) (evaluated_all sig vs (clean_all qs))) (drop_at ps i p h e)) ∙ inv

pub evaluated_end : (sig : Signature) (vs : List RawTerm) (ps : List Pattern) (i : ℕ) (made : List RawTerm) (all : RawTerms) → length ps ≤ i
    → join (terms_of made) (evaluated_all sig vs (clean_all (drop i ps))) ≡ all → terms_of made ≡ all
evaluated_end sig vs ps i made all h inv = sym (ap (λ qs. join (terms_of made) (evaluated_all sig vs (clean_all qs))) (drop_of_length-le ps h) ∙ join-nil (terms_of made)) ∙ inv
