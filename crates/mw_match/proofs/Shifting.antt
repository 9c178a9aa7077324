-- The last level, when it has no match left: its next choice, or none.
use Rattle.std.specs.Prelude.{◌≡◌, ◌≤◌, ◌<◌, ◌-◌, ℕ, suc, List, [], ◌∷◌, ◌++◌, flat_map, length, take, get_or, Option, Some, None, option_to_list}
use Rattle.std.proofs.Common.{ap, sym, subst, ◌∙◌, arith, append-nil, length-append}
use Rattle.std.proofs.lemmas.Grind.{flat_map-append}
use Rattle.mw_logic.specs.Term.{RawTerm, RawTerms, cons}
use Rattle.mw_logic.specs.Terms.{args_of, skip}
use Rattle.mw_logic.specs.Signature.{Signature}
use Rattle.mw_logic.specs.Parts.{number_of_terms}
use Rattle.mw_matching.specs.Found.{Values, found}
use Rattle.mw_matching.specs.Multisets.{term_at}
use Rattle.mw_search.specs.Lacking.{Each, Skips, HaveTheirSorts}
use Rattle.mw_search.specs.Searches.{Matches}
use Rattle.mw_search.proofs.BagLists.{is_last_of}
use Rattle.mw_search.proofs.Meeting.{got_any}
use Rattle.mw_search.proofs.Beginning.{GoesOn, found_on}
use Rattle.mw_match.specs.declared.levels.Level.{Level}
use Rattle.mw_match.specs.declared.levels.Levels.{Levels}
use Rattle.mw_match.specs.Choices.{put}
use Rattle.mw_match.specs.Levels.{taken_by, choices_from, choices_at, ClashesAt, Trace, picks_in, Shortens, trace, tries, behind, behind_found, come, still_to_come, IsOn, AreKept, IsEnded}
use Rattle.mw_match.proofs.Choosing.{skip_at}
use Rattle.mw_match.proofs.Entries.{each_more}
use Rattle.mw_match.proofs.Traces.{tries_skip, picks_end, length_end, come_push}
use Rattle.mw_match.proofs.NextLevels.{in_front}
use Rattle.mw_match.proofs.Finding.{same_end, each_parts}

module _ (sig : Signature) (single : List (List ℕ)) (args : RawTerms) (q : RawTerm) (rest : RawTerms) (ks : List ℕ) where
  abbrev Behind : Level → Trace
  Behind = behind sig single args q rest ks

  abbrev Tries : Values → List (ℕ × RawTerm) → Trace
  Tries = tries sig single args q rest ks

  abbrev others : Level → List (ℕ × RawTerm)
  others l = choices_from args ks (Some l.at) (suc l.at)

  -- a level without matches has its other choices
  ended_is : (l : Level) → l.search.coming ≡ [] → Behind l ≡ Tries l.given (others l) ++ None ∷ []
  ended_is l e = ap (λ uss. flat_map (λ us. trace sig single args rest (put (suc l.at) ks) us) uss ++ (Tries l.given (others l) ++ None ∷ [])) e

  none_left : (l : Level) → l.search.coming ≡ [] → Skips (ClashesAt sig l.given q) (others l) [] → Shortens (Behind l) []
  none_left l e s =
      let (a, b) = tries_skip sig single args q rest ks l.given (others l) [] s in
      let n : length (Behind l) ≡ length (Tries l.given (others l) ++ None ∷ []) = ap (λ (ms : Trace). length ms) (ended_is l e) in
      let k = length_end sig single args (Tries l.given (others l)) in
      record { same = ap picks_in (ended_is l e) ∙ picks_end sig single args (Tries l.given (others l)) ∙ a; fewer = omega (arith, n, k) }

  next_left : (l m : Level) → l.search.coming ≡ [] → m.given ≡ l.given → m.search.coming ≡ found sig single q (term_at m.at args) l.given
      → Skips (ClashesAt sig l.given q) (others l) (choices_at args ks (Some m.at)) → Shortens (Behind l) (Behind m)
  next_left l m e g f s =
      let old : Trace = Tries l.given (others l) in
      let later : Trace = Tries l.given (others m) in
      let first : Trace = flat_map (λ us. trace sig single args rest (put (suc m.at) ks) us) (found sig single q (term_at m.at args) l.given) in
      let (a, b) = tries_skip sig single args q rest ks l.given (others l) (choices_at args ks (Some m.at)) s in
      let is : Behind m ≡ first ++ (later ++ None ∷ []) =
      ap (λ uss. flat_map (λ us. trace sig single args rest (put (suc m.at) ks) us) uss ++ (Tries m.given (others m) ++ None ∷ [])) f
      ∙ ap (λ us. first ++ (Tries us (others m) ++ None ∷ [])) g in
      let n : length (Behind l) ≡ length (old ++ None ∷ []) = ap (λ (ms : Trace). length ms) (ended_is l e) in
      let n0 : length (Behind m) ≡ length (first ++ (later ++ None ∷ [])) = ap (λ (ms : Trace). length ms) is in
      let n1 = length-append first (later ++ None ∷ []) in
      let n2 = length_end sig single args later in
      let n3 = length_end sig single args old in
      let n4 = length-append first later in
      record {
        same = ap picks_in (ended_is l e) ∙ picks_end sig single args old ∙ a ∙ flat_map-append option_to_list first later ∙ ap (λ xs. picks_in first ++ xs) (sym (picks_end sig single args later))
            ∙ sym (flat_map-append option_to_list first (later ++ None ∷ [])) ∙ ap picks_in (sym is);
        fewer = omega (arith, b, n, n0, n1, n2, n3, n4);
      }

-- the same as a program finds it: S, A, B, V, p and from are its own
module _ (S sig : Signature) (single : List (List ℕ)) (A args : RawTerms) (B ls : List Level) (p q : RawTerm) (rest : RawTerms) (V : Values) (l : Level) (from : ℕ)
    (e : S ≡ sig) (a : A ≡ args) (b : B ≡ ls) (w : p ≡ q) (v : V ≡ l.given) (f : from ≡ suc l.at) (empty : l.search.coming ≡ []) where
  moved : (new : RawTerms → List ℕ → List (ℕ × RawTerm)) → Skips (ClashesAt S V p) (choices_from A (taken_by [] B) (Some l.at) from) (new A (taken_by [] B))
      → Skips (ClashesAt sig l.given q) (choices_from args (taken_by [] ls) (Some l.at) (suc l.at)) (new args (taken_by [] ls))
  moved new s =
      subst (λ S. Skips (ClashesAt S l.given q) (choices_from args (taken_by [] ls) (Some l.at) (suc l.at)) (new args (taken_by [] ls))) e
      (subst (λ p. Skips (ClashesAt S l.given p) (choices_from args (taken_by [] ls) (Some l.at) (suc l.at)) (new args (taken_by [] ls))) w
      (subst (λ V. Skips (ClashesAt S V p) (choices_from args (taken_by [] ls) (Some l.at) (suc l.at)) (new args (taken_by [] ls))) v
      (subst (λ j. Skips (ClashesAt S V p) (choices_from args (taken_by [] ls) (Some l.at) j) (new args (taken_by [] ls))) f
      (subst (λ B. Skips (ClashesAt S V p) (choices_from args (taken_by [] B) (Some l.at) from) (new args (taken_by [] B))) b
      (subst (λ A. Skips (ClashesAt S V p) (choices_from A (taken_by [] B) (Some l.at) from) (new A (taken_by [] B))) a s)))))

  pub shift_none : Skips (ClashesAt S V p) (choices_from A (taken_by [] B) (Some l.at) from) [] → Shortens (behind sig single args q rest (taken_by [] ls) l) []
  shift_none s = none_left sig single args q rest (taken_by [] ls) l empty (moved (λ _ _. []) s)

  pub shift_some : (m : Level) (i : ℕ) (t : RawTerm) → m.at ≡ i → m.given ≡ V → m.search.coming ≡ found sig single p t V → t ≡ term_at i A
      → Skips (ClashesAt S V p) (choices_from A (taken_by [] B) (Some l.at) from) (choices_at A (taken_by [] B) (Some i)) → Shortens (behind sig single args q rest (taken_by [] ls) l) (behind sig single args q rest (taken_by [] ls) m)
  shift_some m i t at given coming is s =
      next_left sig single args q rest (taken_by [] ls) l m empty (given ∙ v)
      (coming ∙ ap (found sig single p t) v ∙ ap (λ p. found sig single p t l.given) w ∙ ap (λ t. found sig single q t l.given) (is ∙ ap (term_at i) a ∙ ap (λ i. term_at i args) (sym at)))
      (subst (λ i. Skips (ClashesAt sig l.given q) (choices_from args (taken_by [] ls) (Some l.at) (suc l.at)) (choices_at args (taken_by [] ls) (Some i))) (sym at) (moved (λ A ks. choices_at A ks (Some i)) s))

-- the new level is kept
pub shifted_on : (sig : Signature) (sorts : List ℕ) (single : List (List ℕ)) (given number : ℕ) (l m : Level) (p t : RawTerm) (V : Values) → IsOn sig sorts given number l → V ≡ l.given → m.given ≡ V
    → m.search ≡ record { signature = sig; sorts = sorts; given = length V; coming = found sig single p t V } → m.at < number → IsOn sig sorts given number m
shifted_on sig sorts single given number l m p t V is v g s low = record {
  signature = ap (λ (s : Matches). s.signature) s;
  positions = ap (λ (s : Matches). s.sorts) s;
  size = ap (λ (s : Matches). s.given) s ∙ ap (λ (vs : Values). length vs) (sym g);
  more = subst (λ (vs : Values). given ≤ length vs) (sym (g ∙ v)) is.more;
  sorted = subst (λ vs. HaveTheirSorts sig sorts given vs) (sym (g ∙ v)) is.sorted;
  each = subst (λ (vs : Values). Each (λ us. (ws : Values) × (us ≡ vs ++ ws)) m.search.coming) (sym g)
      (subst (Each (λ us. (ws : Values) × (us ≡ V ++ ws))) (sym (ap (λ (s : Matches). s.coming) s))
      (each_more (found sig single p t V) (λ (us : Values) (k : GoesOn V us). (k.more, k.is)) (found_on sig single p t V)));
  within = low;
}

-- the last of a list, as a program finds it
has_last : (xs : List Level) → 0 < length xs → (l : Level) × (xs ≡ take (length xs - 1) xs ++ l ∷ [])
has_last [] h = absurd (omega (arith, h))
has_last (x ∷ xs) h =
    let l : Level = get_or (x ∷ xs) (length (x ∷ xs) - 1) x in
    (l, is_last_of (x ∷ xs) l h (got_any (x ∷ xs) (length (x ∷ xs) - 1) x l (omega arith)))

pub last_is : (xs below : List Level) (l d : Level) → xs ≡ below ++ l ∷ [] → d ≡ get_or xs (length xs - 1) d → (take (length xs - 1) xs ≡ below) × (d ≡ l)
last_is xs below l d e is =
    let n : length xs ≡ length (below ++ l ∷ []) = ap (λ (xs : List Level). length xs) e in
    let k = length-append below (l ∷ []) in
    same_end (take (length xs - 1) xs) below d l (sym (is_last_of xs d (omega (arith, n, k)) is) ∙ e)

pub last_kept : (s : Levels) → AreKept s → (xs : List Level) (d : Level) → xs ≡ s.stack.items → 1 ≤ length xs → d ≡ get_or xs (length xs - 1) d
    → IsOn s.context.now.signature s.compiled.now.positions.sorts s.given (number_of_terms (args_of s.subject)) d
last_kept s kept xs d e some is =
    let P : Level → Type 0 = IsOn s.context.now.signature s.compiled.now.positions.sorts s.given (number_of_terms (args_of s.subject)) in
    (each_parts P (take (length xs - 1) xs) (d ∷ []) (subst (Each P) (sym e ∙ is_last_of xs d (omega (arith, some)) is) kept.levels)).1.0

-- the last level's next choice, or none
abbrev pub IsNextOfLast : Levels → Option Level → Type 0
IsNextOfLast s o =
    (below : List Level) (l : Level) (q : RawTerm) (rest : RawTerms) → s.stack.items ≡ below ++ l ∷ [] → l.search.coming ≡ [] → skip (length below) (args_of s.compiled.now.pattern) ≡ cons q rest
    → Shortens (behind s.context.now.signature s.compiled.now.positions.single.items (args_of s.subject) q rest (taken_by [] below) l)
    (behind_found s.context.now.signature s.compiled.now.positions.single.items (args_of s.subject) q rest (taken_by [] below) o)

-- The last level goes on to its next choice, or is taken away.
module _ (s : Levels) (kept : AreKept s) (none : s.found ≡ None) (ended : IsEnded s) (ls : List Level) (l : Level) (is : s.stack.items ≡ ls ++ l ∷ []) (o : Option Level) (next : IsNextOfLast s o)
    (new : Levels) (items : new.stack.items ≡ ls ++ option_to_list o) where
  abbrev qs : RawTerms
  qs = args_of s.compiled.now.pattern

  abbrev q : RawTerm
  q = term_at (length ls) qs

  abbrev rest : RawTerms
  rest = skip (suc (length ls)) qs

  abbrev Come : List Level → Option Values → Trace
  Come = come s.context.now.signature s.compiled.now.positions.single.items (args_of s.subject) qs []

  abbrev ending : Option Level → Trace
  ending = behind_found s.context.now.signature s.compiled.now.positions.single.items (args_of s.subject) q rest (taken_by [] ls)

  stands : skip (length ls) qs ≡ cons q rest
  stands =
      let n : length s.stack.items ≡ length (ls ++ l ∷ []) = ap (λ (ls : List Level). length ls) is in
      let k = length-append ls (l ∷ []) in
      let d = kept.depth in
      skip_at (length ls) qs (omega (arith, n, k, d))

  by_level : (o : Option Level) → Come (ls ++ option_to_list o) None ≡ ending o ++ Come ls None
  by_level None = ap (λ ls. Come ls None) (append-nil ls)
  by_level (Some m) = come_push s.context.now.signature s.compiled.now.positions.single.items (args_of s.subject) qs [] ls m q rest stands

  old_is : still_to_come s ≡ ending (Some l) ++ Come ls None
  old_is = ap (λ o. Come s.stack.items o) none ∙ ap (λ ls. Come ls None) is ∙ by_level (Some l)

  new_is : still_to_come (record s { stack = new.stack }) ≡ ending o ++ Come ls None
  new_is = ap (λ o. Come new.stack.items o) none ∙ ap (λ ls. Come ls None) items ∙ by_level o

  shortened : Shortens (still_to_come s) (still_to_come (record s { stack = new.stack }))
  shortened =
      subst (λ ms. Shortens ms (still_to_come (record s { stack = new.stack }))) (sym old_is)
      (subst (Shortens (ending (Some l) ++ Come ls None)) (sym new_is) (in_front (ending (Some l)) (ending o) (Come ls None) (next ls l q rest is (ended ls l is) stands)))

-- the same as a program finds it
pub shifted : (s : Levels) → AreKept s → s.found ≡ None → IsEnded s → 0 < length s.stack.items → (o : Option Level) → IsNextOfLast s o
    → (new : Levels) → new.stack.items ≡ take (length s.stack.items - 1) s.stack.items ++ option_to_list o → Shortens (still_to_come s) (still_to_come (record s { stack = new.stack }))
shifted s kept none ended some o next new items =
    let (l, is) = has_last s.stack.items some in
    shortened s kept none ended (take (length s.stack.items - 1) s.stack.items) l is o next new items
