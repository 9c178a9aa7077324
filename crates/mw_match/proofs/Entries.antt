-- What a match at a place stands for: candidates with its values, as far as there are variables.
use Rattle.std.specs.Prelude.{◌≡◌, ◌-◌, Bool, true, false, ℕ, zero, suc, List, [], ◌∷◌, ◌++◌, length, map, flat_map, take, cond, Option, None, Some, slice_get, option_map, option_and_then, option_to_list, nat_eq, MatchOption, ⊤, refl}
use Rattle.std.specs.List.{zip}
use Rattle.std.proofs.Common.{sym, ap, subst, ◌∙◌, arith, append_assoc}
use Rattle.std.proofs.lemmas.List.{map-append}
use Rattle.std.proofs.lemmas.Grind.{flat_map-append}
use Rattle.std.proofs.lemmas.Option.{none-some}
use Rattle.mw_logic.specs.Term.{Variable, RawTerm}
use Rattle.mw_logic.specs.Signature.{Signature}
use Rattle.mw_position.specs.Variables.{bound_values, sorts_of}
use Rattle.mw_matching.specs.Found.{Values}
use Rattle.mw_solving.specs.Inside.{Entry}
use Rattle.mw_search.specs.Lacking.{HaveTheirSorts, OneLacksItsSort, Each, Skips}
use Rattle.mw_match.specs.Solutions.{Coming, FitsSorts, Lacks, candidate}
use Rattle.mw_match.specs.Parts.{left_of, left_match, entries_at}
use Rattle.mw_match.specs.declared.parts.Place.{Place}
use Rattle.mw_match.specs.declared.parts.Place.TheVariants.{Whole, Left, End}
use Rattle.mw_match.specs.declared.parts.Parts.{Parts}
use Rattle.mw_match.specs.declared.solutions.Solution.{Solution}

-- lists of lists
pub each_both : {X : Type 0} (P : X → Type 0) (xs ys : List X) → Each P xs → Each P ys → Each P (xs ++ ys)
each_both P [] ys h k = k
each_both P (x ∷ xs) ys h k = (h.0, each_both P xs ys h.1 k)

pub each_more : {X : Type 0} {P Q : X → Type 0} (xs : List X) → ((x : X) → P x → Q x) → Each P xs → Each Q xs
each_more [] f h = tt
each_more (x ∷ xs) f h = (f x h.0, each_more xs f h.1)

-- values behind those of the variables
nat_same : (m n : ℕ) → nat_eq m n ≡ true → m ≡ n
nat_same m n h = grind arith

zip_front : (xs : List Variable) (us : Values) → zip xs (take (length xs) us) ≡ zip xs us
zip_front [] us = refl
zip_front (x ∷ xs) [] = refl
zip_front (x ∷ xs) (u ∷ us) = ap (λ r. (x, u) ∷ r) (zip_front xs us)

-- a candidate of these values
abbrev pub HasValues : List Variable → Values → Solution → Type 0
HasValues xs us r = r.subst ≡ zip xs us

module _ (xs : List Variable) (sig : Signature) (t : RawTerm) (i : ℕ) (us : Values) where
  abbrev Fine : List Entry → Type 0
  Fine es = Each (HasValues xs us) (map (candidate xs) es)

  left_taken : length us ≡ suc (length xs) → (o : Option (List ℕ)) → Fine (option_to_list (option_map (λ ks. (Some ks, take (length us - 1) us)) o))
  left_taken h None = tt
  left_taken h (Some ks) = let e : length us - 1 ≡ length xs = omega arith in (ap (λ n. zip xs (take n us)) e ∙ zip_front xs us, tt)

  left_last : length us ≡ suc (length xs) → (o : Option RawTerm) → Fine (option_to_list (option_and_then (λ r. option_map (λ ks. (Some ks, take (length us - 1) us)) (left_of sig t i r)) o))
  left_last h None = tt
  left_last h (Some r) = left_taken h (left_of sig t i r)

  left_values : (b : Bool) → (b ≡ true → length us ≡ suc (length xs)) → Fine (cond b (left_match sig t i us) [])
  left_values false h = tt
  left_values true h = left_last (h refl) (slice_get us (length us - 1))

pub at_values : (p : Parts) (q : Place) (us : Values) → Each (HasValues p.compiled.now.variables us) (map (candidate p.compiled.now.variables) (entries_at p q us))
at_values p Whole us = (refl, tt)
at_values p (End i) us = (refl, tt)
at_values p (Left i) us = left_values p.compiled.now.variables p.context.now.signature p.subject i us (nat_eq (length us) (suc (length p.compiled.now.variables))) (nat_same (length us) (suc (length p.compiled.now.variables)))

-- values by position, as far as there are variables
got_value : (xs : List Variable) (us : Values) (i : ℕ) (t : RawTerm) → slice_get (bound_values (zip xs us)) i ≡ Some t → slice_get us i ≡ Some t
got_value [] us i t e = absurd (none-some t e)
got_value (x ∷ xs) [] i t e = absurd (none-some t e)
got_value (x ∷ xs) (u ∷ us) zero t e = e
got_value (x ∷ xs) (u ∷ us) (suc i) t e = got_value xs us i t e

value_got : (xs : List Variable) (us : Values) (i S : ℕ) (t : RawTerm) → slice_get (sorts_of xs) i ≡ Some S → slice_get us i ≡ Some t → slice_get (bound_values (zip xs us)) i ≡ Some t
value_got [] us i S t k e = absurd (none-some S k)
value_got (x ∷ xs) [] i S t k e = absurd (none-some t e)
value_got (x ∷ xs) (u ∷ us) zero S t k e = e
value_got (x ∷ xs) (u ∷ us) (suc i) S t k e = value_got xs us i S t k e

module _ (c : Coming) (xs : List Variable) (us : Values) where
  pub sorted_candidate : HaveTheirSorts c.signature c.sorts c.given us → (r : Solution) → HasValues xs us r → FitsSorts c r
  sorted_candidate h r is = subst (λ s. HaveTheirSorts c.signature c.sorts c.given (bound_values s)) (sym is) (λ i t l e. h i t l (got_value xs us i t e))

  pub lacking_candidate : c.sorts ≡ sorts_of xs → OneLacksItsSort c.signature c.sorts c.given us → (r : Solution) → HasValues xs us r → Lacks c r
  lacking_candidate k h r is =
      let (S, a, none) = h.lacks in
      let here : OneLacksItsSort c.signature c.sorts c.given (bound_values (zip xs us)) = record {
        position = h.position;
        value = h.value;
        new = h.new;
        is = value_got xs us h.position S h.value (ap (λ Ss. slice_get Ss h.position) (sym k) ∙ a) h.is;
        lacks = h.lacks;
      } in
      subst (λ s. OneLacksItsSort c.signature c.sorts c.given (bound_values s)) (sym is) here

-- matches that are passed over are candidates that are
module _ (p : Parts) (q : Place) (c : Coming) (sorts : c.sorts ≡ sorts_of p.compiled.now.variables) where
  abbrev xs : List Variable
  xs = p.compiled.now.variables

  pub at_lacking : (us : Values) → OneLacksItsSort c.signature c.sorts c.given us → Each (Lacks c) (map (candidate xs) (entries_at p q us))
  at_lacking us h = each_more (map (candidate xs) (entries_at p q us)) (lacking_candidate c xs us sorts h) (at_values p q us)

  all_lacking : (uss : List Values) → Each (OneLacksItsSort c.signature c.sorts c.given) uss → Each (Lacks c) (map (candidate xs) (flat_map (entries_at p q) uss))
  all_lacking [] h = tt
  all_lacking (us ∷ uss) h =
      subst (Each (Lacks c)) (sym (map-append (candidate xs) (entries_at p q us) (flat_map (entries_at p q) uss)))
      (each_both (Lacks c) (map (candidate xs) (entries_at p q us)) (map (candidate xs) (flat_map (entries_at p q) uss)) (at_lacking us h.0) (all_lacking uss h.1))

  -- those of some matches, and those behind them
  pub entries_split : (before behind : List Values) (es : List Entry) → map (candidate xs) (flat_map (entries_at p q) (before ++ behind) ++ es)
      ≡ map (candidate xs) (flat_map (entries_at p q) before) ++ map (candidate xs) (flat_map (entries_at p q) behind ++ es)
  entries_split before behind es =
      ap (λ fs. map (candidate xs) (fs ++ es)) (flat_map-append (entries_at p q) before behind)
      ∙ ap (map (candidate xs)) (append_assoc (flat_map (entries_at p q) before) (flat_map (entries_at p q) behind) es)
      ∙ map-append (candidate xs) (flat_map (entries_at p q) before) (flat_map (entries_at p q) behind ++ es)

  pub passed : (old new : List Values) (es : List Entry) → Skips (OneLacksItsSort c.signature c.sorts c.given) old new
      → Skips (Lacks c) (map (candidate xs) (flat_map (entries_at p q) old ++ es)) (map (candidate xs) (flat_map (entries_at p q) new ++ es))
  passed old new es h = record {
    left = map (candidate xs) (flat_map (entries_at p q) h.left);
    each = all_lacking h.left h.each;
    rest = ap (λ uss. map (candidate xs) (flat_map (entries_at p q) uss ++ es)) h.rest ∙ entries_split h.left new es;
  }

  -- what is handed out of a match that has its sorts
  pub handed_sorted : (f : Option Values) → MatchOption f ⊤ (HaveTheirSorts c.signature c.sorts c.given) → Each (FitsSorts c) (map (candidate xs) (flat_map (entries_at p q) (option_to_list f)))
  handed_sorted None h = tt
  handed_sorted (Some us) h =
      subst (Each (FitsSorts c)) (sym (map-append (candidate xs) (entries_at p q us) []))
      (each_both (FitsSorts c) (map (candidate xs) (entries_at p q us)) [] (each_more (map (candidate xs) (entries_at p q us)) (sorted_candidate c xs us h) (at_values p q us)) tt)
