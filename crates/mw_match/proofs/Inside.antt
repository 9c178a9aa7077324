-- The searches of a pattern with a rest behind it give the entries of a term's proper parts.
use Rattle.std.specs.Prelude.{◌≡◌, ◌-◌, ◌<◌, ◌&&◌, Bool, true, false, ℕ, zero, suc, List, [], ◌∷◌, ◌++◌, length, map, flat_map, take, cond, Option, None, Some, slice_get, option_map, option_and_then, option_to_list, nat_eq, refl}
use Rattle.std.proofs.Common.{sym, ap, subst, ◌∙◌, inl, inr, arith, append_assoc}
use Rattle.std.proofs.lemmas.List.{length-take-le}
use Rattle.std.proofs.lemmas.Option.{slice_get_within}
use Rattle.mw_logic.specs.Term.{RawTerm, numeral, quoted, variable, apply, RawTerms}
use Rattle.mw_logic.specs.Terms.{args_of, skip}
use Rattle.mw_logic.specs.Signature.{Signature, Member}
use Rattle.mw_logic.specs.Parts.{is_assoc, number_of_terms}
use Rattle.mw_logic.specs.NormalForm.{is_comm, identity_of, elements}
use Rattle.mw_logic.proofs.Members.{member-left, member-right}
use Rattle.mw_matching.specs.Found.{Values, found}
use Rattle.mw_search.specs.Goals.{top_of}
use Rattle.mw_solving.specs.Inside.{Entry, whole_entry, end_entry, left_entry, left_numbers, joins, with_rest, left_entries, end_entries, entries_from, proper_entries, whole_entries, entries}
use Rattle.mw_match.specs.Parts.{neighbours, places_behind, places_of, arguments_from, left_match, rest_pattern, rest_of, entries_at, matches_at, searches_at, searches_behind, entries_of}
use Rattle.mw_match.specs.declared.parts.Place.{Place}
use Rattle.mw_match.specs.declared.parts.Place.TheVariants.{Whole, Left, End}
use Rattle.mw_match.specs.declared.parts.Rest.{Rest}
use Rattle.mw_match.specs.declared.parts.Parts.{Parts}

-- each entry has so many values
abbrev pub Sized : ℕ → List Entry → Type 0
Sized m es = (e : Entry) → Member e es → length e.1 ≡ m

flat_singles : {X Y : Type 0} (f : X → Y) (xs : List X) → flat_map (λ x. f x ∷ []) xs ≡ map f xs
flat_singles f [] = refl
flat_singles f (x ∷ xs) = ap (λ ys. f x ∷ ys) (flat_singles f xs)

pub both_lists : {X : Type 0} {es bs cs ds : List X} → es ≡ bs → cs ≡ ds → es ++ cs ≡ bs ++ ds
both_lists {es} {bs} {cs} {ds} e f = ap (λ xs. xs ++ cs) e ∙ ap (λ xs. bs ++ xs) f

same_nat : (n : ℕ) → nat_eq n n ≡ true
same_nat n = grind arith

-- Of a match with a last value that is left an entry has the other values.
module _ (us : Values) (ns : RawTerm → Option (List ℕ)) where
  abbrev of_last : Option RawTerm → List Entry
  of_last o = option_to_list (option_and_then (λ r. option_map (λ ks. (Some ks, take (length us - 1) us)) (ns r)) o)

  of_numbers : (e : Entry) (o : Option (List ℕ)) → 0 < length us → Member e (option_to_list (option_map (λ ks. (Some ks, take (length us - 1) us)) o)) → length us ≡ suc (length e.1)
  of_numbers e None some m = absurd m
  of_numbers e (Some ks) some (inl is) =
      let size : length (take (length us - 1) us) ≡ length us - 1 = length-take-le (length us - 1) us (omega arith) in
      let here : length e.1 ≡ length (take (length us - 1) us) = ap (λ (e : Entry). length e.1) (sym is) in
      omega (arith, size, here, some)
  of_numbers e (Some ks) some (inr m) = absurd m

  entry_size : (e : Entry) (o : Option RawTerm) → slice_get us (length us - 1) ≡ o → Member e (of_last o) → length us ≡ suc (length e.1)
  entry_size e None is m = absurd m
  entry_size e (Some r) is m = of_numbers e (ns r) (let l : length us - 1 < length us = slice_get_within us (length us - 1) r is in omega (arith, l)) m

-- what is asked of the number of values holds
guarded : (us : Values) (m : ℕ) (es : List Entry) → ((e : Entry) → Member e es → length us ≡ suc m) → cond (nat_eq (length us) (suc m)) es [] ≡ es
guarded us m [] h = elim (nat_eq (length us) (suc m)) as (λ b. cond {A = List Entry} b [] [] ≡ []) [ true ↦ refl | false ↦ refl ]
guarded us m (e ∷ es) h = ap (λ b. cond b (e ∷ es) []) (ap (λ n. nat_eq n (suc m)) (h e (inl refl)) ∙ same_nat (suc m))

module _ (p : Parts) (f : ℕ) (args : RawTerms) (subject : p.subject ≡ apply f args) (assoc : is_assoc p.context.now.signature f ≡ true) where
  abbrev sig : Signature
  sig = p.context.now.signature

  abbrev m : ℕ
  m = length p.compiled.now.variables

  left_is : (i : ℕ) (us : Values) → left_match sig p.subject i us ≡ left_entry sig f args i us
  left_is i us =
      ap (λ t. left_match sig t i us) subject
      ∙ ap (λ b. option_to_list (option_and_then (λ r. option_map (λ ks. (Some ks, take (length us - 1) us)) (cond b (left_numbers (is_comm sig f) args i (elements (identity_of sig f) f r)) None)) (slice_get us (length us - 1)))) assoc

  left_at : (i : ℕ) (us : Values) → Sized m (left_entry sig f args i us) → entries_at p (Left i) us ≡ left_entry sig f args i us
  left_at i us h =
      ap (λ es. cond (nat_eq (length us) (suc m)) es []) (left_is i us)
      ∙ guarded us m (left_entry sig f args i us)
      (λ e l. entry_size us (λ r. left_numbers (is_comm sig f) args i (elements (identity_of sig f) f r)) e (slice_get us (length us - 1)) refl l ∙ ap suc (h e l))

  all_left : (i : ℕ) (uss : List Values) → Sized m (flat_map (left_entry sig f args i) uss) → flat_map (entries_at p (Left i)) uss ≡ flat_map (left_entry sig f args i) uss
  all_left i [] h = refl
  all_left i (us ∷ uss) h =
      both_lists (left_at i us (λ e l. h e (member-left e (left_entry sig f args i us) (flat_map (left_entry sig f args i) uss) l)))
      (all_left i uss (λ e l. h e (member-right e (left_entry sig f args i us) (flat_map (left_entry sig f args i) uss) l)))

  all_end : (i : ℕ) (uss : List Values) → flat_map (entries_at p (End i)) uss ≡ map (end_entry sig f args i) uss
  all_end i uss = flat_singles (end_entry sig (top_of p.subject) (args_of p.subject) i) uss ∙ ap (λ t. map (end_entry sig (top_of t) (args_of t) i) uss) subject

  -- the searches at these places
  module _ (r : Rest) (pattern : r.pattern ≡ with_rest sig f p.compiled.now.pattern m) where
    abbrev single : List (List ℕ)
    single = p.compiled.now.positions.single.items

    abbrev ends : ℕ → List Entry
    ends i = end_entries sig single p.compiled.now.pattern m r.given f args i

    abbrev lefts : ℕ → List Entry
    lefts i = left_entries sig single p.compiled.now.pattern m r.given f args i

    abbrev from : ℕ → ℕ → List Entry
    from i count = entries_from sig single p.compiled.now.pattern m r.given f args i count

    at_end : (i : ℕ) → flat_map (entries_at p (End i)) (matches_at p r (End i)) ≡ ends i
    at_end i = all_end i (matches_at p r (End i)) ∙ ap (λ t. map (end_entry sig f args i) (found sig single p.compiled.now.pattern (arguments_from i t) r.given)) subject

    at_left : (i : ℕ) → Sized m (lefts i) → flat_map (entries_at p (Left i)) (matches_at p r (Left i)) ≡ lefts i
    at_left i h =
        ap (λ uss. flat_map (entries_at p (Left i)) uss)
        (ap (λ t. found sig single r.pattern (arguments_from i t) r.given) subject ∙ ap (λ q. found sig single q (apply f (skip i args)) r.given) pattern)
        ∙ all_left i (found sig single (with_rest sig f p.compiled.now.pattern m) (apply f (skip i args)) r.given) h

    at_neighbours : (i count : ℕ) → Sized m (from i count) → entries_of p (searches_at p (Some r) (neighbours i count)) ≡ from i count
    at_neighbours i zero h = refl
    at_neighbours i (suc count) h =
        let here : Sized m (ends i ++ lefts i) = λ e l. h e (member-left e (ends i ++ lefts i) (from (suc i) count) l) in
        let later : Sized m (from (suc i) count) = λ e l. h e (member-right e (ends i ++ lefts i) (from (suc i) count) l) in
        both_lists (at_end i) (both_lists (at_left i (λ e l. here e (member-right e (ends i) (lefts i) l))) (at_neighbours (suc i) count later))
        ∙ sym (append_assoc (ends i) (lefts i) (from (suc i) count))

    behind_left : (comm : Bool) → Sized m (lefts 0 ++ cond comm [] (from 1 (number_of_terms args - 2)))
        → entries_of p (searches_at p (Some r) (places_behind comm (number_of_terms args) Whole)) ≡ lefts 0 ++ cond comm [] (from 1 (number_of_terms args - 2))
    behind_left true h = both_lists (at_left 0 (λ e l. h e (member-left e (lefts 0) [] l))) refl
    behind_left false h =
        let more : List Entry = from 1 (number_of_terms args - 2) in
        both_lists (at_left 0 (λ e l. h e (member-left e (lefts 0) more l))) (at_neighbours 1 (number_of_terms args - 2) (λ e l. h e (member-right e (lefts 0) more l)))

-- the searches behind the whole give all proper parts
module _ (p : Parts) (vs : Values) where
  abbrev pub own_entries : RawTerm → List Entry
  own_entries t = proper_entries p.context.now.signature p.compiled.now.positions.single.items p.compiled.now.pattern (length p.compiled.now.variables) vs t

  abbrev pub own_rest : RawTerm → Option RawTerm
  own_rest t = rest_pattern p.context.now.signature p.compiled.now.positions.single.items p.compiled.now.pattern (length p.compiled.now.variables) t

  no_rest : p.rest ≡ None → (q : Place) → entries_of p (searches_behind p q) ≡ []
  no_rest e q = ap (λ o. entries_of p (searches_at p o (places_of p.context.now.signature p.subject q))) e

  and_first : (a b : Bool) → (a && b) ≡ true → a ≡ true
  and_first true b h = refl
  and_first false b h = h

  pub all_proper : (t : RawTerm) → p.subject ≡ t → p.rest ≡ rest_of vs (own_rest t) → Sized (length p.compiled.now.variables) (own_entries t) → entries_of p (searches_behind p Whole) ≡ own_entries t
  all_proper (numeral n) subject rest h = no_rest rest Whole
  all_proper (quoted q) subject rest h = no_rest rest Whole
  all_proper (variable x) subject rest h = no_rest rest Whole
  all_proper (apply f args) subject rest h = both (is_assoc sig f && joins sig single f q) refl
    where
      sig : Signature
      sig = p.context.now.signature

      single : List (List ℕ)
      single = p.compiled.now.positions.single.items

      q : RawTerm
      q = p.compiled.now.pattern

      m : ℕ
      m = length p.compiled.now.variables

      r : Rest
      r = record { pattern = with_rest sig f q m; given = vs }

      inner : List Entry
      inner = left_entries sig single q m vs f args 0 ++ cond (is_comm sig f) [] (entries_from sig single q m vs f args 1 (number_of_terms args - 2))

      both : (b : Bool) → (is_assoc sig f && joins sig single f q) ≡ b → entries_of p (searches_behind p Whole) ≡ own_entries (apply f args)
      both false e = no_rest (rest ∙ ap (λ b. rest_of vs (cond b (Some (with_rest sig f q m)) None)) e) Whole ∙ sym (ap (λ b. cond b inner []) e)
      both true e =
          let is : p.rest ≡ Some r = rest ∙ ap (λ b. rest_of vs (cond b (Some (with_rest sig f q m)) None)) e in
          let same : own_entries (apply f args) ≡ inner = ap (λ b. cond b inner []) e in
          ap (λ o. entries_of p (searches_at p o (places_of sig p.subject Whole))) is
          ∙ ap (λ t. entries_of p (searches_at p (Some r) (places_of sig t Whole))) subject
          ∙ behind_left p f args subject (and_first (is_assoc sig f) (joins sig single f q) e) r refl (is_comm sig f) (subst (Sized m) same h)
          ∙ sym same

  -- and those of the whole stand in front
  pub all_entries : (inside : Bool) (t : RawTerm) → p.subject ≡ t → p.rest ≡ cond inside (rest_of vs (own_rest t)) None
      → Sized (length p.compiled.now.variables) (entries p.context.now.signature p.compiled.now.positions.single.items p.compiled.now.pattern (length p.compiled.now.variables) vs inside t)
      → entries_of p ((Whole, found p.context.now.signature p.compiled.now.positions.single.items p.compiled.now.pattern p.subject vs) ∷ searches_behind p Whole)
      ≡ entries p.context.now.signature p.compiled.now.positions.single.items p.compiled.now.pattern (length p.compiled.now.variables) vs inside t
  all_entries inside t subject rest h = both_lists whole (behind inside rest h)
    where
      of_whole : RawTerm → List Entry
      of_whole t = whole_entries p.context.now.signature p.compiled.now.positions.single.items p.compiled.now.pattern (length p.compiled.now.variables) vs t

      whole : flat_map (entries_at p Whole) (found p.context.now.signature p.compiled.now.positions.single.items p.compiled.now.pattern p.subject vs) ≡ of_whole t
      whole = flat_singles whole_entry (found p.context.now.signature p.compiled.now.positions.single.items p.compiled.now.pattern p.subject vs) ∙ ap of_whole subject

      behind : (inside : Bool) → p.rest ≡ cond inside (rest_of vs (own_rest t)) None → Sized (length p.compiled.now.variables) (of_whole t ++ cond inside (own_entries t) [])
          → entries_of p (searches_behind p Whole) ≡ cond inside (own_entries t) []
      behind false rest h = no_rest rest Whole
      behind true rest h = all_proper t subject rest (λ e l. h e (member-right e (of_whole t) (own_entries t) l))
