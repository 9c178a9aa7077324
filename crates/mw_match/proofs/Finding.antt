-- The last level's matches, one after another: some are passed over, one is found.
use Rattle.std.specs.Prelude.{◌≡◌, ◌≤◌, ◌<◌, ◌-◌, ℕ, zero, suc, List, [], ◌∷◌, ◌++◌, flat_map, length, take, get_or, Option, Some, None, slice_get, option_to_list, MatchOption, ⊤, refl}
use Rattle.std.proofs.Common.{inl, inr, ap, sym, subst, ◌∙◌, arith, append_assoc, append-nil, length-append}
use Rattle.std.proofs.lemmas.Bool.{cases_lt}
use Rattle.std.proofs.lemmas.Grind.{flat_map-append}
use Rattle.mw_logic.specs.Term.{RawTerm, RawTerms, nil, cons}
use Rattle.mw_logic.specs.Terms.{args_of, skip}
use Rattle.mw_logic.specs.Signature.{Signature}
use Rattle.mw_logic.specs.Parts.{number_of_terms}
use Rattle.mw_matching.specs.Found.{Values, found}
use Rattle.mw_matching.specs.Multisets.{term_at}
use Rattle.mw_search.specs.Lacking.{Each, Skips, HasItsSort, HaveTheirSorts, OneLacksItsSort}
use Rattle.mw_search.specs.Searches.{Matches, FitsSorts as FitsBySearch}
use Rattle.std.proofs.Math.ListN.{set}
use Rattle.mw_search.proofs.BagLists.{is_last_of}
use Rattle.mw_search.proofs.Ends.{set_last}
use Rattle.mw_search.proofs.Beginning.{GoesOn, further, here, found_on}
use Rattle.mw_match.specs.declared.levels.Level.{Level}
use Rattle.mw_match.specs.declared.levels.Levels.{Levels}
use Rattle.mw_match.specs.Choices.{firsts, free, put, picked}
use Rattle.mw_match.specs.Solutions.{LacksBySearch, matches_of}
use Rattle.mw_match.specs.Levels.{taken_by, choices_from, Trace, picks_in, trace, tries, behind, come, still_to_come, IsOn, GoOnFrom, AreKept, IsEnded, Misses}
use Rattle.mw_match.proofs.Choosing.{skip_at}
use Rattle.mw_match.proofs.Entries.{each_both, each_more}
use Rattle.mw_match.proofs.Traces.{trace_picks}

-- lists at their ends
pub same_end : {X : Type 0} (xs ys : List X) (x y : X) → xs ++ x ∷ [] ≡ ys ++ y ∷ [] → (xs ≡ ys) × (x ≡ y)
same_end [] [] x y e = (refl, cc)
same_end [] (c ∷ []) x y e = absurd (cc)
same_end [] (c ∷ d ∷ ys) x y e = absurd (cc)
same_end (c ∷ []) [] x y e = absurd (cc)
same_end (c ∷ d ∷ xs) [] x y e = absurd (cc)
same_end (c ∷ xs) (d ∷ ys) x y e =
    let t : xs ++ x ∷ [] ≡ ys ++ y ∷ [] = cc in
    let r = same_end xs ys x y t in
    let a : xs ≡ ys = r.0 in
    let b : c ≡ d = cc in
    (cc, r.1)

pub each_parts : {X : Type 0} (P : X → Type 0) (xs ys : List X) → Each P (xs ++ ys) → Each P xs × Each P ys
each_parts P [] ys h = (tt, h)
each_parts P (x ∷ xs) ys h = let (a, b) = each_parts P xs ys h.1 in ((h.0, a), b)

each_any : {X Y : Type 0} (Q : Y → Type 0) (f : X → List Y) (xs : List X) → ((x : X) → Each Q (f x)) → Each Q (flat_map f xs)
each_any Q f [] g = tt
each_any Q f (x ∷ xs) g = each_both Q (f x) (flat_map f xs) (g x) (each_any Q f xs g)

each_of : {X Y : Type 0} (P : X → Type 0) (Q : Y → Type 0) (f : X → List Y) (xs : List X) → Each P xs → ((x : X) → P x → Each Q (f x)) → Each Q (flat_map f xs)
each_of P Q f [] h g = tt
each_of P Q f (x ∷ xs) h g = each_both Q (f x) (flat_map f xs) (g x h.0) (each_of P Q f xs h.1 g)

got_front : (us ws : Values) (i : ℕ) → i < length us → slice_get (us ++ ws) i ≡ slice_get us i
got_front [] ws i h = absurd (omega (arith, h))
got_front (u ∷ us) ws zero h = refl
got_front (u ∷ us) ws (suc i) h = got_front us ws i (omega (arith, h))

got_more : (us ws : Values) (i : ℕ) (t : RawTerm) → slice_get us i ≡ Some t → slice_get (us ++ ws) i ≡ Some t
got_more [] ws i t e = cc
got_more (u ∷ us) ws zero t e = e
got_more (u ∷ us) ws (suc i) t e = got_more us ws i t e

-- a value that lacks its sort stays among those that go on
lacks_on : (sig : Signature) (sorts : List ℕ) (given : ℕ) (vs us : Values) → OneLacksItsSort sig sorts given vs → GoesOn vs us → OneLacksItsSort sig sorts given us
lacks_on sig sorts given vs us h g =
    record { position = h.position; value = h.value; new = h.new; is = ap (λ ws. slice_get ws h.position) g.is ∙ got_more vs g.more h.position h.value h.is; lacks = h.lacks }

module _ (sig : Signature) (single : List (List ℕ)) (args : RawTerms) where
  -- what is picked goes on from the values that were there
  abbrev PicksOn : Values → List ℕ × Values → Type 0
  PicksOn vs c = GoesOn vs c.1

  picks_on : (qs : RawTerms) (ks : List ℕ) (vs : Values) → Each (PicksOn vs) (picked sig single args qs ks vs)
  picks_on nil ks vs = (here vs, tt)
  picks_on (cons q qs) ks vs =
      each_any (PicksOn vs) (λ (z : ℕ × RawTerm). flat_map (λ us. picked sig single args qs (put z.0 ks) us) (found sig single q z.1 vs)) (firsts None (free 1 ks args))
      (λ z. each_of (GoesOn vs) (PicksOn vs) (λ us. picked sig single args qs (put z.0 ks) us) (found sig single q z.1 vs) (found_on sig single q z.1 vs)
      (λ us g. each_more (picked sig single args qs (put z.0 ks) us) (λ (c : List ℕ × Values) k. further vs us c.1 g k) (picks_on qs (put z.0 ks) us)))

  pub trace_lacks : (sorts : List ℕ) (given : ℕ) (qs : RawTerms) (ks : List ℕ) (vs : Values) → OneLacksItsSort sig sorts given vs
      → Each (λ (c : List ℕ × Values). OneLacksItsSort sig sorts given c.1) (picks_in (trace sig single args qs ks vs))
  trace_lacks sorts given qs ks vs h =
      subst (Each (λ (c : List ℕ × Values). OneLacksItsSort sig sorts given c.1)) (sym (trace_picks sig single args qs ks vs))
      (each_more (picked sig single args qs ks vs) (λ (c : List ℕ × Values) g. lacks_on sig sorts given vs c.1 h g) (picks_on qs ks vs))

  -- what goes on from a match of a level on an element, and what its other choices come to
  abbrev pub Onward : RawTerms → List ℕ → ℕ → Values → Trace
  Onward rest ks at us = trace sig single args rest (put (suc at) ks) us

  abbrev pub Others : RawTerm → RawTerms → List ℕ → ℕ → Values → Trace
  Others q rest ks at vs = tries sig single args q rest ks vs (choices_from args ks (Some at) (suc at)) ++ None ∷ []

  come_last : (qs : RawTerms) (ks : List ℕ) (ls : List Level) (l : Level) (o : Option Values) (q : RawTerm) (rest : RawTerms) → skip (length ls) qs ≡ cons q rest
      → come sig single args qs ks (ls ++ l ∷ []) o
      ≡ flat_map (Onward rest (taken_by ks ls) l.at) (option_to_list o) ++ (behind sig single args q rest (taken_by ks ls) l ++ come sig single args qs ks ls None)
  come_last nil ks [] l o q rest e = cc
  come_last (cons p ps) ks [] l o q rest e =
      let a : p ≡ q = cc in
      let b : ps ≡ rest = cc in
      ap (λ p. flat_map (Onward ps ks l.at) (option_to_list o) ++ behind sig single args p ps ks l) a
      ∙ ap (λ ps. flat_map (Onward ps ks l.at) (option_to_list o) ++ behind sig single args q ps ks l) b
      ∙ ap (λ ms. flat_map (Onward rest ks l.at) (option_to_list o) ++ ms) (sym (append-nil (behind sig single args q rest ks l)))
  come_last nil ks (k ∷ ls) l o q rest e = cc
  come_last (cons p ps) ks (k ∷ ls) l o q rest e =
      let ns : List ℕ = put (suc k.at) ks in
      let at_hand : Trace = flat_map (Onward rest (taken_by ns ls) l.at) (option_to_list o) in
      let last : Trace = behind sig single args q rest (taken_by ns ls) l in
      let below : Trace = come sig single args ps ns ls None in
      let first : Trace = behind sig single args p ps ks k in
      ap (λ ms. ms ++ first) (come_last ps ns ls l o q rest e) ∙ append_assoc at_hand (last ++ below) first ∙ ap (λ ms. at_hand ++ ms) (append_assoc last below first)

  -- the match at hand stands in front of the others
  pub come_matches : (qs : RawTerms) (ks : List ℕ) (ls : List Level) (l : Level) (o : Option Values) (q : RawTerm) (rest : RawTerms) → skip (length ls) qs ≡ cons q rest
      → come sig single args qs ks (ls ++ l ∷ []) o
      ≡ flat_map (Onward rest (taken_by ks ls) l.at) (matches_of o l.search.coming) ++ (Others q rest (taken_by ks ls) l.at l.given ++ come sig single args qs ks ls None)
  come_matches qs ks ls l o q rest e =
      let F : Values → Trace = Onward rest (taken_by ks ls) l.at in
      let others : Trace = Others q rest (taken_by ks ls) l.at l.given in
      let below : Trace = come sig single args qs ks ls None in
      come_last qs ks ls l o q rest e
      ∙ ap (λ ms. flat_map F (option_to_list o) ++ ms) (append_assoc (flat_map F l.search.coming) others below)
      ∙ sym (append_assoc (flat_map F (option_to_list o)) (flat_map F l.search.coming) (others ++ below))
      ∙ ap (λ ms. ms ++ (others ++ below)) (sym (flat_map-append F (option_to_list o) l.search.coming))

-- matches in front are passed over
each_picked : (F : Values → Trace) (P : Values → Type 0) (Q : List ℕ × Values → Type 0) (left : List Values) → Each P left → ((us : Values) → P us → Each Q (picks_in (F us))) → Each Q (picks_in (flat_map F left))
each_picked F P Q [] h g = tt
each_picked F P Q (us ∷ left) h g =
    subst (Each Q) (sym (flat_map-append option_to_list (F us) (flat_map F left)))
    (each_both Q (picks_in (F us)) (picks_in (flat_map F left)) (g us h.0) (each_picked F P Q left h.1 g))

module _ (F : Values → Trace) (left new : List Values) (ms : Trace) where
  in_parts : flat_map F (left ++ new) ++ ms ≡ flat_map F left ++ (flat_map F new ++ ms)
  in_parts = ap (λ ns. ns ++ ms) (flat_map-append F left new) ∙ append_assoc (flat_map F left) (flat_map F new) ms

  front_passed : (P : Values → Type 0) (Q : List ℕ × Values → Type 0) → Each P left → ((us : Values) → P us → Each Q (picks_in (F us)))
      → Skips Q (picks_in (flat_map F (left ++ new) ++ ms)) (picks_in (flat_map F new ++ ms))
  front_passed P Q h g = record {
    left = picks_in (flat_map F left);
    each = each_picked F P Q left h g;
    rest = ap picks_in in_parts ∙ flat_map-append option_to_list (flat_map F left) (flat_map F new ++ ms);
  }

  front_shorter : length (flat_map F new ++ ms) ≤ length (flat_map F (left ++ new) ++ ms)
  front_shorter =
      let e : length (flat_map F (left ++ new) ++ ms) ≡ length (flat_map F left ++ (flat_map F new ++ ms)) = ap (λ (ms : Trace). length ms) in_parts in
      let n = length-append (flat_map F left) (flat_map F new ++ ms) in
      omega (arith, e, n)

-- a match that was found has its sorts, and goes on from the values that were given
module _ (sig : Signature) (sorts : List ℕ) (given number : ℕ) (l : Level) (is : IsOn sig sorts given number l) where
  sorted_on : (us ws : Values) → us ≡ l.given ++ ws → FitsBySearch l.search us → HaveTheirSorts sig sorts given us
  sorted_on us ws e f i t low at = elim (cases_lt i (length l.given)) [
    | inl h ↦ is.sorted i t low (sym (got_front l.given ws i h) ∙ ap (λ us. slice_get us i) (sym e) ∙ at)
    | inr h ↦ subst (λ S. HasItsSort S sorts i t) is.signature (subst (λ Ss. HasItsSort l.search.signature Ss i t) is.positions (f i t (subst (λ n. n ≤ i) (sym is.size) h) at))
  ]

  pub goes_on : (o : Option Values) → Each (λ us. (ws : Values) × (us ≡ l.given ++ ws)) (option_to_list o) → MatchOption o ⊤ (FitsBySearch l.search) → MatchOption o ⊤ (GoOnFrom sig sorts given)
  goes_on None h f = tt
  goes_on (Some us) h f =
      let (ws, e) = h.0 in
      let n : length us ≡ length (l.given ++ ws) = ap (λ (us : Values). length us) e in
      let k = length-append l.given ws in
      let more = is.more in
      (omega (arith, n, k, more), sorted_on us ws e f)

  pub lacks_new : (us : Values) → LacksBySearch l.search us → OneLacksItsSort sig sorts given us
  lacks_new us h =
      let there : OneLacksItsSort sig sorts l.search.given us =
      subst (λ S. OneLacksItsSort S sorts l.search.given us) is.signature (subst (λ Ss. OneLacksItsSort l.search.signature Ss l.search.given us) is.positions h) in
      let low = there.new in
      let size = is.size in
      let more = is.more in
      record { position = there.position; value = there.value; new = omega (arith, low, size, more); is = there.is; lacks = there.lacks }

-- from levels to others whose last search m has gone on
pub record IsFound (s new : Levels) (m : Matches) : Type 0 where
  pub passes : Skips (Misses s) (picks_in (still_to_come s)) (picks_in (still_to_come new))
  pub steps : length (still_to_come new) ≤ length (still_to_come s)
  pub ended : MatchOption new.found (m.coming ≡ []) (λ _. ⊤) → MatchOption new.found (IsEnded new) (λ _. ⊤)
  pub kept : AreKept new

-- The last level's search was asked for its next match.
module _ (s : Levels) (kept : AreKept s) (none : s.found ≡ None) (ls : List Level) (l : Level) (is : s.stack.items ≡ ls ++ l ∷ []) (m : Matches) (o : Option Values)
    (skips : Skips (LacksBySearch l.search) l.search.coming (matches_of o m.coming)) (sorted : MatchOption o ⊤ (FitsBySearch l.search)) (same : m ≡ record l.search { coming = m.coming })
    (new : Levels) (on : new.stack.items ≡ ls ++ (record l { search = m }) ∷ []) where
  abbrev sig : Signature
  sig = s.context.now.signature

  abbrev single : List (List ℕ)
  single = s.compiled.now.positions.single.items

  abbrev sorts : List ℕ
  sorts = s.compiled.now.positions.sorts

  abbrev args : RawTerms
  args = args_of s.subject

  abbrev qs : RawTerms
  qs = args_of s.compiled.now.pattern

  abbrev Kept : Level → Type 0
  Kept = IsOn sig sorts s.given (number_of_terms args)

  abbrev F : Values → Trace
  F = Onward sig single args (skip (suc (length ls)) qs) (taken_by [] ls) l.at

  abbrev later : Trace
  later = Others sig single args (term_at (length ls) qs) (skip (suc (length ls)) qs) (taken_by [] ls) l.at l.given ++ come sig single args qs [] ls None

  parts : Each Kept ls × Each Kept (l ∷ [])
  parts = each_parts Kept ls (l ∷ []) (subst (Each Kept) is kept.levels)

  last_kept : Kept l
  last_kept = parts.1.0

  low : length ls < number_of_terms qs
  low =
      let n : length s.stack.items ≡ length (ls ++ l ∷ []) = ap (λ (ls : List Level). length ls) is in
      let k = length-append ls (l ∷ []) in
      let d = kept.depth in
      omega (arith, n, k, d)

  stands : skip (length ls) qs ≡ cons (term_at (length ls) qs) (skip (suc (length ls)) qs)
  stands = skip_at (length ls) qs low

  old_is : still_to_come s ≡ flat_map F (skips.left ++ matches_of o m.coming) ++ later
  old_is =
      ap (λ o. come sig single args qs [] s.stack.items o) none ∙ ap (λ ls. come sig single args qs [] ls None) is
      ∙ come_matches sig single args qs [] ls l None (term_at (length ls) qs) (skip (suc (length ls)) qs) stands
      ∙ ap (λ uss. flat_map F uss ++ later) skips.rest

  new_is : still_to_come (record s { stack = new.stack; found = o }) ≡ flat_map F (matches_of o m.coming) ++ later
  new_is =
      ap (λ ls. come sig single args qs [] ls o) on
      ∙ come_matches sig single args qs [] ls (record l { search = m }) o (term_at (length ls) qs) (skip (suc (length ls)) qs) stands

  find_passes : Skips (Misses s) (picks_in (still_to_come s)) (picks_in (still_to_come (record s { stack = new.stack; found = o })))
  find_passes =
      subst (λ ms. Skips (Misses s) (picks_in ms) (picks_in (still_to_come (record s { stack = new.stack; found = o })))) (sym old_is)
      (subst (λ ms. Skips (Misses s) (picks_in (flat_map F (skips.left ++ matches_of o m.coming) ++ later)) (picks_in ms)) (sym new_is)
      (front_passed F skips.left (matches_of o m.coming) later (LacksBySearch l.search) (Misses s) skips.each
      (λ us h. trace_lacks sig single args sorts s.given (skip (suc (length ls)) qs) (put (suc l.at) (taken_by [] ls)) us (lacks_new sig sorts s.given (number_of_terms args) l last_kept us h))))

  find_steps : length (still_to_come (record s { stack = new.stack; found = o })) ≤ length (still_to_come s)
  find_steps =
      let a : length (still_to_come s) ≡ length (flat_map F (skips.left ++ matches_of o m.coming) ++ later) = ap (λ (ms : Trace). length ms) old_is in
      let b : length (still_to_come (record s { stack = new.stack; found = o })) ≡ length (flat_map F (matches_of o m.coming) ++ later) = ap (λ (ms : Trace). length ms) new_is in
      let c = front_shorter F skips.left (matches_of o m.coming) later in
      omega (arith, a, b, c)

  matches_go_on : Each (λ us. (ws : Values) × (us ≡ l.given ++ ws)) (option_to_list o) × Each (λ us. (ws : Values) × (us ≡ l.given ++ ws)) m.coming
  matches_go_on =
      each_parts (λ us. (ws : Values) × (us ≡ l.given ++ ws)) (option_to_list o) m.coming
      (each_parts (λ us. (ws : Values) × (us ≡ l.given ++ ws)) skips.left (matches_of o m.coming) (subst (Each (λ us. (ws : Values) × (us ≡ l.given ++ ws))) skips.rest last_kept.each)).1

  new_kept : Kept (record l { search = m })
  new_kept = record {
    signature = ap (λ (m : Matches). m.signature) same ∙ last_kept.signature;
    positions = ap (λ (m : Matches). m.sorts) same ∙ last_kept.positions;
    size = ap (λ (m : Matches). m.given) same ∙ last_kept.size;
    more = last_kept.more;
    sorted = last_kept.sorted;
    each = matches_go_on.1;
    within = last_kept.within;
  }

  find_kept : AreKept (record s { stack = new.stack; found = o })
  find_kept =
      let n : length new.stack.items ≡ length (ls ++ (record l { search = m }) ∷ []) = ap (λ (ls : List Level). length ls) on in
      let k = length-append ls ((record l { search = m }) ∷ []) in
      let d = low in
      record {
        sorts = kept.sorts;
        levels = subst (Each Kept) (sym on) (each_both Kept ls ((record l { search = m }) ∷ []) parts.0 (new_kept, tt));
        found = goes_on sig sorts s.given (number_of_terms args) l last_kept o matches_go_on.0 sorted;
        depth = omega (arith, n, k, d);
      }

  find_ended : MatchOption o (m.coming ≡ []) (λ _. ⊤) → MatchOption o (IsEnded (record s { stack = new.stack; found = o })) (λ _. ⊤)
  find_ended h = by_match o h
    where
      by_match : (a : Option Values) → MatchOption a (m.coming ≡ []) (λ _. ⊤) → MatchOption a (IsEnded (record s { stack = new.stack; found = o })) (λ _. ⊤)
      by_match None h = λ below k e. ap (λ (k : Level). k.search.coming) (sym (same_end ls below (record l { search = m }) k (sym on ∙ e)).1) ∙ h
      by_match (Some us) h = tt

  pub all_found : IsFound s (record s { stack = new.stack; found = o }) m
  all_found = record { passes = find_passes; steps = find_steps; ended = find_ended; kept = find_kept }

-- the same as a program finds it
pub found_last : (s : Levels) → AreKept s → s.found ≡ None → (i : ℕ) (l : Level) → i ≡ length s.stack.items - 1 → 0 < length s.stack.items → l ≡ get_or s.stack.items i l → (m : Matches) (o : Option Values)
    → Skips (LacksBySearch l.search) (matches_of s.found l.search.coming) (matches_of o m.coming) → MatchOption o ⊤ (FitsBySearch l.search) → m ≡ record l.search { coming = m.coming }
    → (new : Levels) → new.stack.items ≡ set s.stack.items i (record l { search = m }) → IsFound s (record s { stack = new.stack; found = o }) m
found_last s kept none i l at some is m o skips sorted same new items =
    let last : s.stack.items ≡ take (length s.stack.items - 1) s.stack.items ++ l ∷ [] = is_last_of s.stack.items l some (is ∙ ap (λ n. get_or s.stack.items n l) at) in
    let on : new.stack.items ≡ take (length s.stack.items - 1) s.stack.items ++ (record l { search = m }) ∷ [] = items ∙ ap (λ n. set s.stack.items n (record l { search = m })) at ∙ set_last s.stack.items (record l { search = m }) some in
    all_found s kept none (take (length s.stack.items - 1) s.stack.items) l last m o (subst (λ f. Skips (LacksBySearch l.search) (matches_of f l.search.coming) (matches_of o m.coming)) none skips) sorted same new on
