-- The matches of a pattern with a rest behind it, where its arguments become one element each: the arguments pick what they take, and the rest's elements
-- tell the numbers that were picked.
use Rattle.std.specs.Prelude.{◌≡◌, ◌≤◌, ◌<◌, ◌+◌, ◌-◌, ℕ, suc, List, [], ◌∷◌, ◌++◌, map, flat_map, length, take, true, nat_lt, Option, Some, None, option_map, option_and_then, option_to_list, slice_get, ⊤, refl}
use Rattle.std.proofs.Common.{inl, inr, ap, sym, subst, ◌∙◌, arith, length-append, append-nil}
use Rattle.std.proofs.lemmas.Bool.{lt-ltb}
use Rattle.std.proofs.lemmas.List.{map-append}
use Rattle.std.proofs.lemmas.Option.{slice_get_past}
use Rattle.mw_logic.specs.Term.{RawTerm, variable, apply, RawTerms, nil, cons, join}
use Rattle.mw_logic.specs.Signature.{Signature, Identity, Member}
use Rattle.mw_logic.specs.Accepted.{IsAccepted}
use Rattle.mw_logic.specs.CanonicalPart.{AreSeveral}
use Rattle.mw_logic.specs.Parts.{Among, is_assoc, number_of_terms}
use Rattle.mw_logic.specs.TermOrder.{insert_term, sorted_terms}
use Rattle.mw_logic.specs.NormalForm.{is_comm, identity_of, elements, rebuilt, arranged}
use Rattle.mw_logic.proofs.Canonical.{IsCanonical, IsElement}
use Rattle.mw_logic.proofs.SortLaws.{sorted_terms-left, sorted_terms-comm}
use Rattle.mw_logic.proofs.SortedLists.{Climbs, climbs, climbs-sorted, sorted_terms-climbing}
use Rattle.mw_logic.proofs.Elements.{taken}
use Rattle.mw_position.specs.Positions.{position, counted_all, AreNumbered}
use Rattle.mw_position.proofs.Begins.{begins_same, begins_last}
use Rattle.mw_arguments.specs.Bags.{runs, heads}
use Rattle.mw_arguments.specs.Pieces.{is_backed}
use Rattle.mw_arguments.specs.Places.{numbers_of}
use Rattle.mw_arguments.proofs.ListPieces.{number_join}
use Rattle.mw_arguments.proofs.Once.{flat_map-flat_map}
use Rattle.mw_arguments.proofs.Standing.{put_back, climbs_taken}
use Rattle.mw_matching.specs.Matches.{Theory, Fits, IsMatch, AllHaveArities}
use Rattle.mw_matching.specs.Multisets.{is_within, left_behind, news}
use Rattle.mw_matching.specs.Patterns.{is_rigid, theory}
use Rattle.mw_matching.specs.Found.{Values, fits, is_single, value_of, found, found_bag}
use Rattle.mw_matching.proofs.FoundMatches.{found_once}
use Rattle.mw_matching.proofs.FoundShares.{AreElementsOf, elements_again, flat_map-mapped}
use Rattle.mw_matching.proofs.Matches.{fits_longer}
use Rattle.mw_matching.proofs.Multisets.{each_left, climbs_left, within_whole, within_joined, left_joined, share_at, news_shares}
use Rattle.mw_solving.specs.Inside.{Entry, with_rest, left_numbers, left_entry, left_entries}
use Rattle.mw_solving.proofs.Members.{member_from}
use Rattle.mw_solving.proofs.Parts.{number_arranged, elements_several}
use Rattle.mw_search.specs.Lacking.{Each as EachOf}
use Rattle.mw_match.specs.Choices.{free, firsts, put, picked, part_entry, ArePicked}
use Rattle.mw_match.proofs.FreeNumbers.{terms, terms_free, seconds, different, goes_on, each_with, each_first, each_free}

-- lists of lists
flat_each : {X Y : Type 0} (P : X → Type 0) (f g : X → List Y) (xs : List X) → EachOf P xs → ((x : X) → P x → f x ≡ g x) → flat_map f xs ≡ flat_map g xs
flat_each P f g [] h w = refl
flat_each P f g (x ∷ xs) h w = ap (λ r. r ++ flat_map f xs) (w x h.0) ∙ ap (λ r. g x ++ r) (flat_each P f g xs h.1 w)

flat_member : {X Y : Type 0} (f g : X → List Y) (xs : List X) → ((x : X) → Member x xs → f x ≡ g x) → flat_map f xs ≡ flat_map g xs
flat_member f g [] w = refl
flat_member f g (x ∷ xs) w = ap (λ r. r ++ flat_map f xs) (w x (inl refl)) ∙ ap (λ r. g x ++ r) (flat_member f g xs (λ y m. w y (inr m)))

mapped_flat : {X Y Z : Type 0} (g : Y → Z) (f : X → List Y) (xs : List X) → map g (flat_map f xs) ≡ flat_map (λ x. map g (f x)) xs
mapped_flat g f [] = refl
mapped_flat g f (x ∷ xs) = map-append g (f x) (flat_map f xs) ∙ ap (λ r. map g (f x) ++ r) (mapped_flat g f xs)

take_all : (us : Values) (r : RawTerm) → take (length us) (us ++ r ∷ []) ≡ us
take_all [] r = refl
take_all (u ∷ us) r = ap (λ ws. u ∷ ws) (take_all us r)

backed_some : (e : Option Identity) (ts : RawTerms) → 1 ≤ number_of_terms ts → is_backed e ts ≡ true
backed_some e nil l = absurd (omega (arith, l))
backed_some None (cons t ts) l = refl
backed_some (Some i) (cons t ts) l = refl

-- each stands there
are_there : (zs : List (ℕ × RawTerm)) → EachOf (λ z. Among (terms zs) z.1) zs
are_there [] = tt
are_there (z ∷ zs) =
    let r : EachOf (λ (x : ℕ × RawTerm). Among (terms zs) x.1) zs = are_there zs in
    (inl refl, each_with {P = λ x. Among (terms zs) x.1} {Q = λ x. Among (terms zs) x.1} {R = λ x. Among (cons z.1 (terms zs)) x.1} zs (λ x a _. inr a) r r)

-- one more is taken of a list in order
module _ (args us : RawTerms) (d : RawTerm) (ca : Climbs args) (cu : Climbs us) (w : is_within us args ≡ true) (m : Among (left_behind us args) d) where
  abbrev left : RawTerms
  left = left_behind us args

  abbrev less : RawTerms
  less = taken d left

  left_climbs : Climbs left
  left_climbs = climbs_left us args ca

  more_climbs : Climbs (insert_term d us)
  more_climbs = subst (λ vs. Climbs (insert_term d vs)) (sorted_terms-climbing us cu) (climbs-sorted (cons d us))

  -- d stands in front of the others, or among those that are taken
  moved : sorted_terms (join (insert_term d us) less) ≡ args
  moved =
      let a : insert_term d us ≡ sorted_terms (cons d us) = ap (insert_term d) (sym (sorted_terms-climbing us cu)) in
      let b : sorted_terms (join less us) ≡ sorted_terms (join us less) = sorted_terms-comm less us in
      let c : sorted_terms (join left us) ≡ args = sorted_terms-comm left us ∙ within_whole us args ca w in
      let f : sorted_terms (cons d less) ≡ left = ap (insert_term d) (sorted_terms-climbing less (climbs_taken d left left_climbs)) ∙ put_back d left left_climbs m in
      ap (λ vs. sorted_terms (join vs less)) a ∙ sorted_terms-left (cons d us) less ∙ ap (insert_term d) (sym b)
      ∙ sym (sorted_terms-left (cons d less) us) ∙ ap (λ vs. sorted_terms (join vs us)) f ∙ c

  less_order : sorted_terms less ≡ less
  less_order = sorted_terms-climbing less (climbs_taken d left left_climbs)

  more_within : is_within (insert_term d us) args ≡ true
  more_within = within_joined (insert_term d us) less args more_climbs moved

  less_left : left_behind (insert_term d us) args ≡ less
  less_left = left_joined (insert_term d us) less args more_climbs less_order moved

-- what is left of what is left
left_twice : (args us : RawTerms) → Climbs args → Climbs us → is_within us args ≡ true → left_behind (left_behind us args) args ≡ us
left_twice args us ca cu w =
    left_joined (left_behind us args) us args (climbs_left us args ca) (sorted_terms-climbing us cu) (sorted_terms-comm (left_behind us args) us ∙ within_whole us args ca w)

left_number : (args us : RawTerms) → Climbs args → is_within us args ≡ true → number_of_terms us + number_of_terms (left_behind us args) ≡ number_of_terms args
left_number args us ca w =
    sym (number_join us (left_behind us args)) ∙ sym (number_arranged true (join us (left_behind us args))) ∙ ap number_of_terms (within_whole us args ca w)

number_more : (d : RawTerm) (us : RawTerms) → Climbs us → number_of_terms (insert_term d us) ≡ suc (number_of_terms us)
number_more d us cu = ap (λ vs. number_of_terms (insert_term d vs)) (sym (sorted_terms-climbing us cu)) ∙ number_arranged true (cons d us)

module _ (sig : Signature) (ok : IsAccepted sig) (single : List (List ℕ)) (f : ℕ) (h : is_assoc sig f ≡ true) (ac : is_comm sig f ≡ true) (args : RawTerms) (own : AreElementsOf sig ok f h args) (m : ℕ) (bound : length single ≤ m) where
  abbrev e : Option Identity
  e = identity_of sig f

  abbrev T : Theory
  T = theory sig (fits sig single) (is_single single)

  abbrev x : RawTerm
  x = variable (position m)

  args_climb : Climbs args
  args_climb = climbs args (subst (λ b. arranged b args ≡ args) ac own.order)

  -- the patterns may go on from these values, and no other positions come
  pub record GoOn (qs : RawTerms) (vs : Values) : Type 0 where
    pub fit : Fits sig T 0 vs
    pub numbered : AreNumbered (length vs) qs
    pub arities : AllHaveArities sig qs
    pub all : counted_all (length vs) qs ≡ m

  further : (q : RawTerm) (qs : RawTerms) (t : RawTerm) (vs us : Values) → GoOn (cons q qs) vs → IsCanonical sig t → Member us (found sig single q t vs) → GoOn qs us
  further q qs t vs us g k n =
      let it : IsMatch sig T q t vs us = ((found_once sig ok single q t vs g.arities.0 g.numbered.0 g.fit k).all us).0 (member_from us (found sig single q t vs) n) in
      record {
        fit = fits_longer sig ok T vs us g.fit it.begins it.fits;
        numbered = subst (λ n. AreNumbered n qs) (sym it.size) g.numbered.1;
        arities = g.arities.1;
        all = ap (λ n. counted_all n qs) it.size ∙ g.all;
      }

  -- the rest takes what is left
  rest_found : (zs : RawTerms) (vs : Values) → length vs ≡ m → 1 ≤ number_of_terms zs → found_bag sig single f (cons x nil) zs vs ≡ (vs ++ rebuilt e f zs ∷ []) ∷ []
  rest_found zs vs n some =
      let no_value : slice_get vs m ≡ None = slice_get_past vs m (omega (arith, n)) in
      let no_operator : slice_get single m ≡ None = slice_get_past single m bound in
      let backed : is_backed e zs ≡ true = backed_some e zs some in
      rw (no_value, no_operator, backed) refl

  -- its elements tell what was taken
  rest_entry : (us : RawTerms) (vs : Values) → Climbs us → is_within us args ≡ true → 2 ≤ number_of_terms us → number_of_terms us < number_of_terms args
      → left_entry sig f args 0 (vs ++ rebuilt e f (left_behind us args) ∷ []) ≡ (Some (numbers_of 1 us args), vs) ∷ []
  rest_entry us vs cu w two less =
      let zs : RawTerms = left_behind us args in
      let ws : Values = vs ++ rebuilt e f zs ∷ [] in
      let n = left_number args us args_climb w in
      let size : length ws - 1 ≡ length vs = let l = length-append vs (rebuilt e f zs ∷ []) in omega (arith, l) in
      let last : slice_get ws (length vs) ≡ Some (rebuilt e f zs) = begins_last vs ws (rebuilt e f zs) (begins_same ws) in
      let own_elements : elements e f (rebuilt e f zs) ≡ zs = elements_again sig ok f h zs (each_left (IsElement e f) us args own.each_element) (backed_some e zs (omega (arith, n, less))) in
      let a : nat_lt 0 (number_of_terms zs) ≡ true = lt-ltb 0 (number_of_terms zs) (omega (arith, n, less)) in
      let b : nat_lt (number_of_terms zs + 0 + 1) (number_of_terms args) ≡ true = lt-ltb (number_of_terms zs + 0 + 1) (number_of_terms args) (omega (arith, n, two)) in
      let numbers : left_numbers (is_comm sig f) args 0 zs ≡ Some (numbers_of 1 us args) = rw (a, b, ac) (ap (λ ts. Some (numbers_of 1 ts args)) (left_twice args us args_climb cu w)) in
      ap (λ n. option_to_list (option_and_then (λ r. option_map (λ ks. (Some ks, take n ws)) (left_numbers (is_comm sig f) args 0 (elements e f r))) (slice_get ws n))) size
      ∙ ap (λ o. option_to_list (option_and_then (λ r. option_map (λ ks. (Some ks, take (length vs) ws)) (left_numbers (is_comm sig f) args 0 (elements e f r))) o)) last
      ∙ ap (λ ts. option_to_list (option_map (λ ks. (Some ks, take (length vs) ws)) (left_numbers (is_comm sig f) args 0 ts))) own_elements
      ∙ ap (λ o. option_to_list (option_map (λ ks. (Some ks, take (length vs) ws)) o)) numbers
      ∙ ap (λ ts. (Some (numbers_of 1 us args), ts) ∷ []) (take_all vs (rebuilt e f zs))

  abbrev Left : Values → List Entry
  Left = left_entry sig f args 0

  -- a pattern takes each different element
  abbrev by_index : RawTerm → RawTerms → RawTerms → Values → RawTerm × RawTerms → List Values
  by_index q qs zs vs s = flat_map (λ us. found_bag sig single f qs s.1 us) (found sig single q s.0 vs)

  step : (q : RawTerm) (qs zs : RawTerms) (vs : Values) → value_of q vs ≡ None → is_rigid sig (is_single single) f q ≡ true
      → found_bag sig single f (cons q qs) zs vs ≡ flat_map (λ n. by_index q qs zs vs (share_at zs n)) (news zs 0 (number_of_terms zs))
  step q qs zs vs none rigid = rw (none, rigid) refl

  shared : (q : RawTerm) (qs zs : RawTerms) (vs : Values) → Climbs zs → value_of q vs ≡ None → is_rigid sig (is_single single) f q ≡ true
      → found_bag sig single f (cons q qs) zs vs ≡ flat_map (λ d. by_index q qs zs vs (d, taken d zs)) (heads (runs zs))
  shared q qs zs vs c none rigid =
      step q qs zs vs none rigid ∙ sym (flat_map-mapped (by_index q qs zs vs) (share_at zs) (news zs 0 (number_of_terms zs)))
      ∙ ap (flat_map (by_index q qs zs vs)) (news_shares e f zs c) ∙ flat_map-mapped (by_index q qs zs vs) (λ d. (d, taken d zs)) (heads (runs zs))

  abbrev patterns : RawTerms → RawTerms
  patterns qs = join qs (cons x nil)

  abbrev frees : RawTerms → List (ℕ × RawTerm)
  frees us = free 1 (numbers_of 1 us args) args

  -- what is known of each first one that is free
  abbrev IsChoice : RawTerms → ℕ × RawTerm → Type 0
  IsChoice us z = (put z.0 (numbers_of 1 us args) ≡ numbers_of 1 (insert_term z.1 us) args) × (Among (left_behind us args) z.1 × IsCanonical sig z.1)

  choices : (us : RawTerms) → Climbs us → is_within us args ≡ true → EachOf (IsChoice us) (firsts None (frees us))
  choices us cu w =
      let zs : List (ℕ × RawTerm) = frees us in
      let there : EachOf (λ z. Among (left_behind us args) z.1) zs = subst (λ rs. EachOf (λ (z : ℕ × RawTerm). Among rs z.1) zs) (terms_free 1 us args) (are_there zs) in
      let both : EachOf (λ z. Among (left_behind us args) z.1 × IsCanonical sig z.1) zs =
      each_with {P = λ z. Among (left_behind us args) z.1} {Q = λ z. (1 ≤ z.0) × IsCanonical sig z.1} {R = λ z. Among (left_behind us args) z.1 × IsCanonical sig z.1} zs (λ z a k. (a, k.1)) there
      (each_free (IsCanonical sig) 1 (numbers_of 1 us args) args own.each_canonical) in
      each_with {P = λ z. put z.0 (numbers_of 1 us args) ≡ numbers_of 1 (insert_term z.1 us) args} {Q = λ z. Among (left_behind us args) z.1 × IsCanonical sig z.1} {R = IsChoice us} (firsts None zs)
      (λ z a k. (a, k)) (goes_on None 1 us args cu args_climb w) (each_first (λ z. Among (left_behind us args) z.1 × IsCanonical sig z.1) None zs both)

  heads_free : (us : RawTerms) → heads (runs (left_behind us args)) ≡ seconds (firsts None (frees us))
  heads_free us = ap (λ zs. heads (runs zs)) (sym (terms_free 1 us args)) ∙ different (frees us)

  -- what is picked where some are taken
  abbrev Picked : RawTerms → RawTerms → Values → Type 0
  Picked qs us vs = flat_map Left (found_bag sig single f (patterns qs) (left_behind us args) vs) ≡ map part_entry (picked sig single args qs (numbers_of 1 us args) vs)

  abbrev of_choice : RawTerm → RawTerms → RawTerms → Values → ℕ × RawTerm → List Entry
  of_choice q qs us vs z = flat_map (λ ws. map part_entry (picked sig single args qs (put z.0 (numbers_of 1 us args)) ws)) (found sig single q z.1 vs)

  one_more : (q : RawTerm) (qs us : RawTerms) (vs : Values) → GoOn (cons q qs) vs → Climbs us → is_within us args ≡ true
      → ((d : RawTerm) (ws : Values) → GoOn qs ws → Climbs (insert_term d us) → is_within (insert_term d us) args ≡ true → Picked qs (insert_term d us) ws)
      → (z : ℕ × RawTerm) → IsChoice us z → flat_map Left (by_index q (patterns qs) (left_behind us args) vs (z.1, taken z.1 (left_behind us args))) ≡ of_choice q qs us vs z
  one_more q qs us vs g cu w r z c =
      let d : RawTerm = z.1 in
      let zs : RawTerms = left_behind us args in
      flat_map-flat_map Left (λ ws. found_bag sig single f (patterns qs) (taken d zs) ws) (found sig single q d vs)
      ∙ flat_member (λ ws. flat_map Left (found_bag sig single f (patterns qs) (taken d zs) ws)) (λ ws. map part_entry (picked sig single args qs (put z.0 (numbers_of 1 us args)) ws)) (found sig single q d vs)
      (λ ws n.
      ap (λ rs. flat_map Left (found_bag sig single f (patterns qs) rs ws)) (sym (less_left args us d args_climb cu w c.1.0))
      ∙ r d ws (further q qs d vs ws g c.1.1 n) (more_climbs args us d args_climb cu w c.1.0) (more_within args us d args_climb cu w c.1.0)
      ∙ ap (λ ks. map part_entry (picked sig single args qs ks ws)) (sym c.0))

  pub picked_left : (qs us : RawTerms) (vs : Values) → ArePicked sig single f qs → GoOn qs vs → Climbs us → is_within us args ≡ true
      → 2 ≤ number_of_terms us + number_of_terms qs → number_of_terms us + number_of_terms qs < number_of_terms args → Picked qs us vs
  picked_left nil us vs a g cu w two fewer =
      let n = left_number args us args_climb w in
      ap (flat_map Left) (rest_found (left_behind us args) vs g.all (omega (arith, n, fewer)))
      ∙ append-nil (Left (vs ++ rebuilt e f (left_behind us args) ∷ [])) ∙ rest_entry us vs cu w (omega (arith, two)) (omega (arith, fewer))
  picked_left (cons q qs) us vs a g cu w two fewer =
      let zs : RawTerms = left_behind us args in
      let F : RawTerm → List Values = λ d. by_index q (patterns qs) zs vs (d, taken d zs) in
      let zs_first : List (ℕ × RawTerm) = firsts None (frees us) in
      ap (flat_map Left) (shared q (patterns qs) zs vs (climbs_left us args args_climb) (a.0 vs) a.1 ∙ ap (flat_map F) (heads_free us) ∙ flat_map-mapped F (λ (z : ℕ × RawTerm). z.1) zs_first)
      ∙ flat_map-flat_map Left (λ (z : ℕ × RawTerm). F z.1) zs_first
      ∙ flat_each (IsChoice us) (λ z. flat_map Left (F z.1)) (of_choice q qs us vs) zs_first (choices us cu w)
      (one_more q qs us vs g cu w
      (λ d ws go climb within. (let n = number_more d us cu in picked_left qs (insert_term d us) ws a.2 go climb within (omega (arith, n, two)) (omega (arith, n, fewer)))))
      ∙ sym (mapped_flat part_entry (λ (z : ℕ × RawTerm). flat_map (λ ws. picked sig single args qs (put z.0 (numbers_of 1 us args)) ws) (found sig single q z.1 vs)) zs_first
      ∙ flat_each (λ z. ⊤) (λ z. map part_entry (flat_map (λ ws. picked sig single args qs (put z.0 (numbers_of 1 us args)) ws) (found sig single q z.1 vs))) (of_choice q qs us vs) zs_first (all_hold zs_first)
      (λ z _. mapped_flat part_entry (λ ws. picked sig single args qs (put z.0 (numbers_of 1 us args)) ws) (found sig single q z.1 vs)))
    where
      all_hold : (zs : List (ℕ × RawTerm)) → EachOf (λ z. ⊤) zs
      all_hold [] = tt
      all_hold (z ∷ zs) = (tt, all_hold zs)

  -- so with nothing taken
  pub picks_are_lefts : (p : RawTerm) (qs : RawTerms) (vs : Values) → elements e f p ≡ qs → ArePicked sig single f qs → GoOn qs vs → 2 ≤ number_of_terms qs → number_of_terms qs < number_of_terms args
      → AreSeveral args → left_entries sig single p m vs f args 0 ≡ map part_entry (picked sig single args qs [] vs)
  picks_are_lefts p qs vs is a g two fewer several =
      let found_are : found sig single (with_rest sig f p m) (apply f args) vs ≡ found_bag sig single f (patterns qs) args vs =
      rw (h, ac) (ap (λ zs. found_bag sig single f (join zs (cons x nil)) (elements e f (apply f args)) vs) is ∙ ap (λ zs. found_bag sig single f (patterns qs) zs vs) (elements_several e f args several)) in
      ap (flat_map Left) found_are ∙ picked_left qs nil vs a g tt refl (omega (arith, two)) (omega (arith, fewer))
