-- What levels have to come: that of the last one stands in front, and the others stay the same.
use Rattle.std.specs.Prelude.{◌≡◌, ◌≤◌, ℕ, suc, List, [], ◌∷◌, ◌++◌, flat_map, length, Option, Some, None, option_to_list, refl}
use Rattle.std.proofs.Common.{ap, sym, ◌∙◌, arith, append_assoc, append-nil, length-append}
use Rattle.std.proofs.lemmas.Grind.{flat_map-append}
use Rattle.mw_logic.specs.Term.{RawTerm, RawTerms, nil, cons}
use Rattle.mw_logic.specs.Terms.{skip}
use Rattle.mw_logic.specs.Signature.{Signature}
use Rattle.mw_logic.specs.Parts.{number_of_terms}
use Rattle.mw_matching.specs.Found.{Values, found}
use Rattle.mw_matching.specs.Multisets.{term_at}
use Rattle.mw_search.specs.Lacking.{Each as EachOf, Skips}
use Rattle.mw_match.specs.declared.levels.Level.{Level}
use Rattle.mw_match.specs.Choices.{firsts, free, put, picked}
use Rattle.mw_match.specs.Levels.{taken_by, choices_from, choices_at, ClashesAt, Trace, picks_in, Shortens, trace, tries, behind, come}

module _ (sig : Signature) (single : List (List ℕ)) (args : RawTerms) where
  abbrev Come : RawTerms → List ℕ → List Level → Option Values → Trace
  Come = come sig single args

  abbrev Traced : RawTerms → List ℕ → Values → Trace
  Traced = trace sig single args

  -- the match at hand goes on in front
  pub come_split : (qs : RawTerms) (ks : List ℕ) (ls : List Level) (vs : Values) → length ls ≤ number_of_terms qs
      → Come qs ks ls (Some vs) ≡ Traced (skip (length ls) qs) (taken_by ks ls) vs ++ Come qs ks ls None
  come_split qs ks [] vs h = refl
  come_split nil ks (l ∷ ls) vs h = absurd (omega (arith, h))
  come_split (cons q qs) ks (l ∷ ls) vs h =
      ap (λ ms. ms ++ behind sig single args q qs ks l) (come_split qs (put (suc l.at) ks) ls vs (omega (arith, h)))
      ∙ append_assoc (Traced (skip (length ls) qs) (taken_by (put (suc l.at) ks) ls) vs) (Come qs (put (suc l.at) ks) ls None) (behind sig single args q qs ks l)

  -- one level more
  pub come_push : (qs : RawTerms) (ks : List ℕ) (ls : List Level) (l : Level) (q : RawTerm) (rest : RawTerms) → skip (length ls) qs ≡ cons q rest
      → Come qs ks (ls ++ l ∷ []) None ≡ behind sig single args q rest (taken_by ks ls) l ++ Come qs ks ls None
  come_push nil ks [] l q rest e = cc
  come_push (cons p ps) ks [] l q rest e =
      let a : p ≡ q = cc in
      let b : ps ≡ rest = cc in
      ap (λ p. behind sig single args p ps ks l) a ∙ ap (λ ps. behind sig single args q ps ks l) b ∙ sym (append-nil (behind sig single args q rest ks l))
  come_push nil ks (k ∷ ls) l q rest e = cc
  come_push (cons p ps) ks (k ∷ ls) l q rest e =
      ap (λ ms. ms ++ behind sig single args p ps ks k) (come_push ps (put (suc k.at) ks) ls l q rest e)
      ∙ append_assoc (behind sig single args q rest (taken_by (put (suc k.at) ks) ls) l) (Come ps (put (suc k.at) ks) ls None) (behind sig single args p ps ks k)

  -- choices that clash come to nothing
  abbrev Tries : RawTerm → RawTerms → List ℕ → Values → List (ℕ × RawTerm) → Trace
  Tries = tries sig single args

  clash_step : (q : RawTerm) (qs : RawTerms) (ks : List ℕ) (vs : Values) (z : ℕ × RawTerm) → ClashesAt sig vs q z → flat_map (λ us. Traced qs (put z.0 ks) us) (found sig single q z.1 vs) ≡ []
  clash_step q qs ks vs z c = ap (flat_map (λ us. Traced qs (put z.0 ks) us)) (ap (found sig single q z.1) (sym (append-nil vs)) ∙ c single [])

  tries_clash : (q : RawTerm) (qs : RawTerms) (ks : List ℕ) (vs : Values) (left new : List (ℕ × RawTerm)) → EachOf (ClashesAt sig vs q) left
      → (picks_in (Tries q qs ks vs (left ++ new)) ≡ picks_in (Tries q qs ks vs new)) × (length (Tries q qs ks vs new) ≤ length (Tries q qs ks vs (left ++ new)))
  tries_clash q qs ks vs [] new h = (refl, omega arith)
  tries_clash q qs ks vs (z ∷ left) new h =
      let (a, b) = tries_clash q qs ks vs left new h.1 in
      let e = clash_step q qs ks vs z h.0 in
      let all : Tries q qs ks vs ((z ∷ left) ++ new) ≡ None ∷ Tries q qs ks vs (left ++ new) = ap (λ ms. (None ∷ ms) ++ Tries q qs ks vs (left ++ new)) e in
      let n : length (Tries q qs ks vs ((z ∷ left) ++ new)) ≡ suc (length (Tries q qs ks vs (left ++ new))) = ap (λ (ms : Trace). length ms) all in
      (ap picks_in all ∙ a, omega (arith, b, n))

  pub tries_skip : (q : RawTerm) (qs : RawTerms) (ks : List ℕ) (vs : Values) (old new : List (ℕ × RawTerm)) → Skips (ClashesAt sig vs q) old new
      → (picks_in (Tries q qs ks vs old) ≡ picks_in (Tries q qs ks vs new)) × (length (Tries q qs ks vs new) ≤ length (Tries q qs ks vs old))
  tries_skip q qs ks vs old new s =
      let (a, b) = tries_clash q qs ks vs s.left new s.each in
      let n : length (Tries q qs ks vs old) ≡ length (Tries q qs ks vs (s.left ++ new)) = ap (λ zs. length (Tries q qs ks vs zs)) s.rest in
      (ap (λ zs. picks_in (Tries q qs ks vs zs)) s.rest ∙ a, omega (arith, b, n))

  -- what a trace picks
  pub trace_picks : (qs : RawTerms) (ks : List ℕ) (vs : Values) → picks_in (Traced qs ks vs) ≡ picked sig single args qs ks vs
  trace_picks nil ks vs = refl
  trace_picks (cons q qs) ks vs =
      flat_map-append option_to_list (Tries q qs ks vs (firsts None (free 1 ks args))) (None ∷ []) ∙ append-nil (picks_in (Tries q qs ks vs (firsts None (free 1 ks args))))
      ∙ of_choices (λ ns us. trace_picks qs ns us) (firsts None (free 1 ks args))
    where
      of_values : ((ns : List ℕ) (us : Values) → picks_in (trace sig single args qs ns us) ≡ picked sig single args qs ns us) → (ns : List ℕ) (uss : List Values) → picks_in (flat_map (λ us. trace sig single args qs ns us) uss) ≡ flat_map (λ us. picked sig single args qs ns us) uss
      of_values each ns [] = refl
      of_values each ns (us ∷ uss) =
          flat_map-append option_to_list (trace sig single args qs ns us) (flat_map (λ us. trace sig single args qs ns us) uss) ∙ ap (λ ms. ms ++ picks_in (flat_map (λ us. trace sig single args qs ns us) uss)) (each ns us)
          ∙ ap (λ ms. picked sig single args qs ns us ++ ms) (of_values each ns uss)

      of_choices : ((ns : List ℕ) (us : Values) → picks_in (trace sig single args qs ns us) ≡ picked sig single args qs ns us) → (zs : List (ℕ × RawTerm)) → picks_in (tries sig single args q qs ks vs zs) ≡ flat_map (λ (z : ℕ × RawTerm). flat_map (λ us. picked sig single args qs (put z.0 ks) us) (found sig single q z.1 vs)) zs
      of_choices each [] = refl
      of_choices each (z ∷ zs) =
          flat_map-append option_to_list (flat_map (λ us. trace sig single args qs (put z.0 ks) us) (found sig single q z.1 vs)) (tries sig single args q qs ks vs zs)
          ∙ ap (λ ms. ms ++ picks_in (tries sig single args q qs ks vs zs)) (of_values each (put z.0 ks) (found sig single q z.1 vs))
          ∙ ap (λ ms. flat_map (λ us. picked sig single args qs (put z.0 ks) us) (found sig single q z.1 vs) ++ ms) (of_choices each zs)

  pub picks_end : (ms : Trace) → picks_in (ms ++ None ∷ []) ≡ picks_in ms
  picks_end ms = flat_map-append option_to_list ms (None ∷ []) ∙ append-nil (picks_in ms)

  pub length_end : (ms : Trace) → length (ms ++ None ∷ []) ≡ suc (length ms)
  length_end ms = let n = length-append ms (None ∷ []) in omega (arith, n)

  -- the next argument of the pattern has no choice, or begins with the first one that may have matches
  pub none_chosen : (q : RawTerm) (rest : RawTerms) (ks : List ℕ) (vs : Values) → Skips (ClashesAt sig vs q) (choices_from args ks None 0) [] → Shortens (Traced (cons q rest) ks vs) []
  none_chosen q rest ks vs s =
      let old : Trace = Tries q rest ks vs (choices_from args ks None 0) in
      let (a, b) = tries_skip q rest ks vs (choices_from args ks None 0) [] s in
      record { same = picks_end old ∙ a; fewer = omega arith }

  pub first_chosen : (q : RawTerm) (rest : RawTerms) (ks : List ℕ) (vs : Values) (l : Level) → l.given ≡ vs → l.search.coming ≡ found sig single q (term_at l.at args) vs
      → Skips (ClashesAt sig vs q) (choices_from args ks None 0) (choices_at args ks (Some l.at)) → Shortens (Traced (cons q rest) ks vs) (behind sig single args q rest ks l)
  first_chosen q rest ks vs l g e s =
      let old : Trace = Tries q rest ks vs (choices_from args ks None 0) in
      let later : Trace = Tries q rest ks vs (choices_from args ks (Some l.at) (suc l.at)) in
      let first : Trace = flat_map (λ us. Traced rest (put (suc l.at) ks) us) (found sig single q (term_at l.at args) vs) in
      let (a, b) = tries_skip q rest ks vs (choices_from args ks None 0) (choices_at args ks (Some l.at)) s in
      let is : behind sig single args q rest ks l ≡ first ++ (later ++ None ∷ []) =
      ap (λ uss. flat_map (λ us. Traced rest (put (suc l.at) ks) us) uss ++ (Tries q rest ks l.given (choices_from args ks (Some l.at) (suc l.at)) ++ None ∷ [])) e
      ∙ ap (λ us. first ++ (Tries q rest ks us (choices_from args ks (Some l.at) (suc l.at)) ++ None ∷ [])) g in
      let n : length (behind sig single args q rest ks l) ≡ length (first ++ (later ++ None ∷ [])) = ap (λ (ms : Trace). length ms) is in
      let n1 = length-append first (later ++ None ∷ []) in
      let n2 = length_end later in
      let n3 = length_end old in
      let n4 = length-append first later in
      record {
        same = picks_end old ∙ a ∙ flat_map-append option_to_list first later ∙ ap (λ xs. picks_in first ++ xs) (sym (picks_end later)) ∙ sym (flat_map-append option_to_list first (later ++ None ∷ [])) ∙ ap picks_in (sym is);
        fewer = omega (arith, b, n, n1, n2, n3, n4);
      }
