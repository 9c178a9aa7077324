-- The next argument of a pattern, as a program finds it.
use Rattle.std.specs.Prelude.{◌≡◌, ◌≤◌, ◌<◌, ℕ, suc, List, [], ◌++◌, get_or, length, Option, Some, None, option_to_list, MatchOption, ⊤}
use Rattle.std.proofs.Common.{ap, sym, subst, ◌∙◌, arith, append-nil, length-append}
use Rattle.std.proofs.lemmas.Grind.{flat_map-append}
use Rattle.mw_logic.specs.Term.{RawTerm, RawTerms, nil, cons}
use Rattle.mw_logic.specs.Terms.{terms_of, skip}
use Rattle.mw_logic.specs.Signature.{Signature}
use Rattle.mw_logic.specs.Parts.{number_of_terms}
use Rattle.mw_matching.specs.Found.{Values, found}
use Rattle.mw_matching.specs.Multisets.{term_at}
use Rattle.mw_search.specs.Lacking.{Skips}
use Rattle.mw_search.proofs.BagLists.{number_terms, at_index}
use Rattle.mw_match.specs.declared.levels.Level.{Level}
use Rattle.mw_match.specs.Levels.{taken_by, choices_from, choices_at, ClashesAt, Trace, picks_in, Shortens, trace, behind, behind_found, come}
use Rattle.mw_match.proofs.Choosing.{skip_at, skip_past}
use Rattle.mw_match.proofs.Traces.{none_chosen, first_chosen, come_split, come_push}

nothing : (q : RawTerm) (rest : RawTerms) → nil ≡ cons q rest → ⊥
nothing q rest e = cc

same_first : (p q : RawTerm) (ps rest : RawTerms) → cons p ps ≡ cons q rest → p ≡ q
same_first p q ps rest e = cc

pub no_pattern : (ps : List RawTerm) (d : ℕ) (q : RawTerm) (rest all : RawTerms) → terms_of ps ≡ all → length ps ≤ d → skip d all ≡ cons q rest → ⊥
no_pattern ps d q rest all e h w =
    let n : number_of_terms all ≡ length ps = ap number_of_terms (sym e) ∙ number_terms ps in
    nothing q rest (sym (skip_past d all (omega (arith, n, h))) ∙ w)

pub pattern_is : (ps : List RawTerm) (d : ℕ) (p q : RawTerm) (rest all : RawTerms) → terms_of ps ≡ all → d < length ps → p ≡ get_or ps d p → skip d all ≡ cons q rest → p ≡ q
pattern_is ps d p q rest all e h i w =
    let n : number_of_terms all ≡ length ps = ap number_of_terms (sym e) ∙ number_terms ps in
    at_index ps d p h i ∙ ap (term_at d) e ∙ same_first (term_at d all) q (skip (suc d) all) rest (sym (skip_at d all (omega (arith, n, h))) ∙ w)

module _ (S sig : Signature) (single : List (List ℕ)) (A args : RawTerms) (B ls : List Level) (p q : RawTerm) (rest : RawTerms) (vs : Values) (e : S ≡ sig) (a : A ≡ args) (b : B ≡ ls) (w : p ≡ q) where
  moved : (new : RawTerms → List ℕ → List (ℕ × RawTerm)) → Skips (ClashesAt S vs p) (choices_from A (taken_by [] B) None 0) (new A (taken_by [] B))
      → Skips (ClashesAt sig vs q) (choices_from args (taken_by [] ls) None 0) (new args (taken_by [] ls))
  moved new s =
      subst (λ S. Skips (ClashesAt S vs q) (choices_from args (taken_by [] ls) None 0) (new args (taken_by [] ls))) e
      (subst (λ p. Skips (ClashesAt S vs p) (choices_from args (taken_by [] ls) None 0) (new args (taken_by [] ls))) w
      (subst (λ B. Skips (ClashesAt S vs p) (choices_from args (taken_by [] B) None 0) (new args (taken_by [] B))) b
      (subst (λ A. Skips (ClashesAt S vs p) (choices_from A (taken_by [] B) None 0) (new A (taken_by [] B))) a s)))

  pub answer_none : Skips (ClashesAt S vs p) (choices_from A (taken_by [] B) None 0) [] → Shortens (trace sig single args (cons q rest) (taken_by [] ls) vs) []
  answer_none s = none_chosen sig single args q rest (taken_by [] ls) vs (moved (λ _ _. []) s)

  pub answer_some : (l : Level) (i : ℕ) (t : RawTerm) → l.at ≡ i → l.given ≡ vs → l.search.coming ≡ found sig single p t vs → t ≡ term_at i A
      → Skips (ClashesAt S vs p) (choices_from A (taken_by [] B) None 0) (choices_at A (taken_by [] B) (Some i)) → Shortens (trace sig single args (cons q rest) (taken_by [] ls) vs) (behind sig single args q rest (taken_by [] ls) l)
  answer_some l i t at given coming is s =
      first_chosen sig single args q rest (taken_by [] ls) vs l given
      (coming ∙ ap (λ p. found sig single p t vs) w ∙ ap (λ t. found sig single q t vs) (is ∙ ap (term_at i) a ∙ ap (λ i. term_at i args) (sym at)))
      (subst (λ i. Skips (ClashesAt sig vs q) (choices_from args (taken_by [] ls) None 0) (choices_at args (taken_by [] ls) (Some i))) (sym at) (moved (λ A ks. choices_at A ks (Some i)) s))

-- what stands behind stays
pub in_front : (a b ms : Trace) → Shortens a b → Shortens (a ++ ms) (b ++ ms)
in_front a b ms h =
    let n = length-append a ms in
    let k = length-append b ms in
    let l = h.fewer in
    record { same = flat_map-append option_to_list a ms ∙ ap (λ xs. xs ++ picks_in ms) h.same ∙ sym (flat_map-append option_to_list b ms); fewer = omega (arith, n, k, l) }

-- the match at hand goes on with the next argument of the pattern
pub descended : (sig : Signature) (single : List (List ℕ)) (args qs : RawTerms) (ls : List Level) (vs : Values) (o : Option Level) → length ls < number_of_terms qs
    → ((q : RawTerm) (rest : RawTerms) → skip (length ls) qs ≡ cons q rest → Shortens (trace sig single args (cons q rest) (taken_by [] ls) vs) (behind_found sig single args q rest (taken_by [] ls) o))
    → Shortens (come sig single args qs [] ls (Some vs)) (come sig single args qs [] (ls ++ option_to_list o) None)
descended sig single args qs ls vs o h r =
    let q : RawTerm = term_at (length ls) qs in
    let rest : RawTerms = skip (suc (length ls)) qs in
    let is : skip (length ls) qs ≡ cons q rest = skip_at (length ls) qs h in
    let ks : List ℕ = taken_by [] ls in
    let behind_it : Trace = come sig single args qs [] ls None in
    let old : come sig single args qs [] ls (Some vs) ≡ trace sig single args (cons q rest) ks vs ++ behind_it =
    come_split sig single args qs [] ls vs (omega (arith, h)) ∙ ap (λ ps. trace sig single args ps ks vs ++ behind_it) is in
    subst (λ ms. Shortens ms (come sig single args qs [] (ls ++ option_to_list o) None)) (sym old)
    (subst (Shortens (trace sig single args (cons q rest) ks vs ++ behind_it)) (sym (by_level o q rest is)) (in_front (trace sig single args (cons q rest) ks vs) (behind_found sig single args q rest ks o) behind_it (r q rest is)))
  where
    by_level : (o : Option Level) (q : RawTerm) (rest : RawTerms) → skip (length ls) qs ≡ cons q rest
        → come sig single args qs [] (ls ++ option_to_list o) None ≡ behind_found sig single args q rest (taken_by [] ls) o ++ come sig single args qs [] ls None
    by_level None q rest is = ap (λ ls. come sig single args qs [] ls None) (append-nil ls)
    by_level (Some l) q rest is = come_push sig single args qs [] ls l q rest is

pub of_found : (o : Option Values) (vs us : Values) (P : Option Values → Type 0) → o ≡ Some us → vs ≡ us → P (Some vs) → MatchOption o ⊤ (λ _. P o)
of_found o vs us P e v h = subst (λ x. MatchOption x ⊤ (λ _. P x)) (sym e) (subst (λ ws. P (Some ws)) v h)
