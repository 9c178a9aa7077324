-- What a hand has handed out and passed over, step by step.
use Rattle.std.specs.Prelude.{◌≡◌, ℕ, List, [], ◌∷◌, ◌++◌, map, flat_map, Option, None, Some, option_to_list, is_some, true, false, MatchOption, ⊤, refl}
use Rattle.std.proofs.Common.{sym, ap, subst, ◌∙◌, append_assoc}
use Rattle.std.proofs.lemmas.Bool.{both_ways}
use Rattle.mw_logic.specs.Signature.{Signature}
use Rattle.mw_matching.specs.Found.{Values}
use Rattle.mw_search.specs.Lacking.{Each, Skips}
use Rattle.mw_search.specs.Searches.{Matches, FitsSorts as FitsBySearch}
use Rattle.mw_match.specs.Solutions.{Coming, FitsSorts, Lacks, PassesTo, LacksBySearch, candidate, matches_of}
use Rattle.mw_match.specs.Parts.{entries_at, entries_of, searches_behind}
use Rattle.mw_match.specs.Hands.{IsKept, IsNext, HasBegun, coming_of}
use Rattle.mw_match.specs.declared.parts.Parts.{Parts}
use Rattle.mw_match.specs.declared.hand.Hand.{Hand}
use Rattle.mw_match.specs.declared.solutions.Solution.{Solution}
use Rattle.mw_match.proofs.Entries.{each_both, entries_split, passed, handed_sorted}

-- behind what was passed over more is
pub skips_more : {X : Type 0} (P : X → Type 0) (old now new : List X) → Skips P old now → Skips P now new → Skips P old new
skips_more P old now new h k = record {
  left = h.left ++ k.left;
  each = each_both P h.left k.left h.each k.each;
  rest = h.rest ∙ ap (λ xs. h.left ++ xs) k.rest ∙ sym (append_assoc h.left k.left new);
}

pub skips_none : {X : Type 0} (P : X → Type 0) (old new : List X) → old ≡ new → Skips P old new
skips_none P old new e = record { left = []; each = tt; rest = e }

-- from one hand to another
pub record IsReached (p : Parts) (old new : Hand) : Type 0 where
  pub passes : PassesTo (coming_of p old) (coming_of p new).candidates
  pub same : coming_of p new ≡ record (coming_of p old) { candidates = (coming_of p new).candidates }
  pub kept : IsKept p new

reached_more : (p : Parts) (old now new : Hand) → IsReached p old now → IsReached p now new → IsReached p old new
reached_more p old now new h k =
    let same : coming_of p new ≡ record (coming_of p old) { candidates = (coming_of p new).candidates } = k.same ∙ ap (λ (c : Coming). record c { candidates = (coming_of p new).candidates }) h.same in
    let passes : Skips (Lacks (coming_of p old)) (coming_of p now).candidates (coming_of p new).candidates =
    subst (λ (c : Coming). Skips (Lacks c) (coming_of p now).candidates (coming_of p new).candidates) h.same k.passes in
    record { passes = skips_more (Lacks (coming_of p old)) (coming_of p old).candidates (coming_of p now).candidates (coming_of p new).candidates h.passes passes; same = same; kept = k.kept }

-- a match was found
found_at : (p : Parts) (h : Hand) → IsKept p h → (rest : List Values) (f : Option Values) → Skips (LacksBySearch h.search) (matches_of h.found h.search.coming) (matches_of f rest) → MatchOption f ⊤ (FitsBySearch h.search)
    → IsReached p h (record h { search = record h.search { coming = rest }; found = f })
found_at p h k rest f skips sorted = record {
  passes = passed p h.place (coming_of p h) k.sorts (matches_of h.found h.search.coming) (matches_of f rest) (entries_of p (searches_behind p h.place)) skips;
  same = refl;
  kept = record { signature = k.signature; positions = k.positions; sorts = k.sorts; given = k.given; sorted = sorted };
}

pub reached_found : (p : Parts) (old h : Hand) → IsReached p old h → (s : Matches) (f : Option Values) → Skips (LacksBySearch h.search) (matches_of h.found h.search.coming) (matches_of f s.coming) → MatchOption f ⊤ (FitsBySearch h.search)
    → s ≡ record h.search { coming = s.coming } → IsReached p old (record h { search = s; found = f })
reached_found p old h r s f skips sorted same =
    let next : IsReached p h (record h { search = s; found = f }) = subst (λ (m : Matches). IsReached p h (record h { search = m; found = f })) (sym same) (found_at p h r.kept s.coming f skips sorted) in
    reached_more p old h (record h { search = s; found = f }) r next

is_none : {X : Type 0} (o : Option X) → is_some o ≡ false → o ≡ None
is_none None e = refl
is_none (Some x) e = absurd (both_ways true e refl)

-- nothing has changed
pub unchanged : (p : Parts) (old h new : Hand) → IsReached p old h → new ≡ h → PassesTo (coming_of p old) (coming_of p new).candidates
unchanged p old h new r is = subst (λ k. PassesTo (coming_of p old) (coming_of p k).candidates) (sym is) r.passes

-- a match was handed out
module _ (p : Parts) (old h : Hand) (r : IsReached p old h) (o : Option Solution)
    (solution : option_to_list o ≡ map (candidate p.compiled.now.variables) (flat_map (entries_at p h.place) (option_to_list h.found))) where
  abbrev handed : Hand
  handed = record h { found = None }

  all_candidates : (coming_of p h).candidates ≡ option_to_list o ++ (coming_of p handed).candidates
  all_candidates =
      entries_split p h.place (coming_of p h) r.kept.sorts (option_to_list h.found) h.search.coming (entries_of p (searches_behind p h.place))
      ∙ ap (λ rs. rs ++ (coming_of p handed).candidates) (sym solution)

  kept_handed : IsKept p handed
  kept_handed = let k = r.kept in record { signature = k.signature; positions = k.positions; sorts = k.sorts; given = k.given; sorted = tt }

  -- it was no solution
  pub reached_handed : o ≡ None → IsReached p old handed
  reached_handed none =
      let e : (coming_of p h).candidates ≡ (coming_of p handed).candidates = all_candidates ∙ ap (λ o. option_to_list o ++ (coming_of p handed).candidates) none in
      reached_more p old h handed r (record { passes = skips_none (Lacks (coming_of p h)) (coming_of p h).candidates (coming_of p handed).candidates e; same = refl; kept = kept_handed })

  -- it was one
  pub handed_next : (s : Solution) → o ≡ Some s → PassesTo (coming_of p old) (s ∷ (coming_of p handed).candidates) × FitsSorts (coming_of p old) s
  handed_next s some =
      let e : (coming_of p h).candidates ≡ s ∷ (coming_of p handed).candidates = all_candidates ∙ ap (λ o. option_to_list o ++ (coming_of p handed).candidates) some in
      let skips : PassesTo (coming_of p old) (s ∷ (coming_of p handed).candidates) = subst (PassesTo (coming_of p old)) e r.passes in
      let each : Each (FitsSorts (coming_of p h)) (map (candidate p.compiled.now.variables) (flat_map (entries_at p h.place) (option_to_list h.found))) =
      handed_sorted p h.place (coming_of p h) r.kept.sorts h.found r.kept.sorted in
      let one : Each (FitsSorts (coming_of p h)) (s ∷ []) = subst (Each (FitsSorts (coming_of p h))) (sym solution ∙ ap option_to_list some) each in
      (skips, subst (λ (c : Coming). FitsSorts c s) r.same one.0)

  pub handed_answer : is_some o ≡ true → (new : Hand) → new ≡ handed → IsNext (coming_of p old) (coming_of p new) o
  handed_answer some new is = subst (λ k. IsNext (coming_of p old) (coming_of p k) o) (sym is) (here o refl)
    where
      here : (a : Option Solution) → o ≡ a → IsNext (coming_of p old) (coming_of p handed) a
      here None e = absurd (both_ways (is_some o) (ap is_some e) some)
      here (Some s) e = handed_next s e

  pub handed_on : is_some o ≡ false → (new : Hand) → new ≡ handed → IsReached p old new
  handed_on none new is = subst (IsReached p old) (sym is) (reached_handed (is_none o none))

-- the next search has begun
same_coming : (s t : Signature) (Ss Ts : List ℕ) (m n : ℕ) (rs : List Solution) → s ≡ t → Ss ≡ Ts → m ≡ n
    → ◌≡◌ {A = Coming} (record { signature = s; sorts = Ss; given = m; candidates = rs }) (record { signature = t; sorts = Ts; given = n; candidates = rs })
same_coming s t Ss Ts m n rs e f g =
    ap (λ s. record { signature = s; sorts = Ss; given = m; candidates = rs }) e ∙ ap (λ Ss. record { signature = t; sorts = Ss; given = m; candidates = rs }) f ∙ ap (λ m. record { signature = t; sorts = Ts; given = m; candidates = rs }) g

module _ (p : Parts) (old h : Hand) (r : IsReached p old h) (none : h.found ≡ None) (empty : h.search.coming ≡ []) where
  behind_alone : (coming_of p h).candidates ≡ map (candidate p.compiled.now.variables) (entries_of p (searches_behind p h.place))
  behind_alone =
      ap (λ us. map (candidate p.compiled.now.variables) (flat_map (entries_at p h.place) us ++ entries_of p (searches_behind p h.place)))
      (ap (λ f. matches_of f h.search.coming) none ∙ empty)

  pub reached_turned : (new : Hand) → entries_of p (searches_behind p h.place) ≡ entries_of p ((new.place, new.search.coming) ∷ searches_behind p new.place) → HasBegun p new.place new.search → new.found ≡ h.found → IsReached p old new
  reached_turned new more (rest, is, begun) found =
      let k = r.kept in
      let C : List Solution = (coming_of p new).candidates in
      let signature : new.search.signature ≡ h.search.signature = ap (λ (m : Matches). m.signature) begun ∙ sym k.signature in
      let sorts : new.search.sorts ≡ h.search.sorts = ap (λ (m : Matches). m.sorts) begun ∙ sym k.positions in
      let given : new.search.given ≡ h.search.given = ap (λ (m : Matches). m.given) begun ∙ sym (k.given rest is) in
      let here : new.found ≡ None = found ∙ none in
      let e : (coming_of p h).candidates ≡ C =
      behind_alone ∙ ap (map (candidate p.compiled.now.variables)) more
      ∙ ap (λ f. map (candidate p.compiled.now.variables) (flat_map (entries_at p new.place) (matches_of f new.search.coming) ++ entries_of p (searches_behind p new.place))) (sym here) in
      let step : IsReached p h new = record {
        passes = skips_none (Lacks (coming_of p h)) (coming_of p h).candidates C e;
        same = same_coming new.search.signature h.search.signature new.search.sorts h.search.sorts new.search.given h.search.given C signature sorts given;
        kept = record {
          signature = signature ∙ k.signature;
          positions = sorts ∙ k.positions;
          sorts = sorts ∙ k.sorts;
          given = λ r e. given ∙ k.given r e;
          sorted = subst (λ o. MatchOption o ⊤ (FitsBySearch new.search)) (sym here) tt;
        };
      } in
      reached_more p old h new r step

  -- there is none
  pub none_answer : entries_of p (searches_behind p h.place) ≡ [] → (new : Hand) → new ≡ h → IsNext (coming_of p old) (coming_of p new) None
  none_answer e new is =
      let all : (coming_of p h).candidates ≡ [] = behind_alone ∙ ap (map (candidate p.compiled.now.variables)) e in
      subst (λ k. IsNext (coming_of p old) (coming_of p k) None) (sym is) (subst (PassesTo (coming_of p old)) all r.passes, all)

-- what none is found of
pub none_found : (f : Option Values) (rest : List Values) → is_some f ≡ false → MatchOption f (rest ≡ []) (λ _. ⊤) → (f ≡ None) × (rest ≡ [])
none_found None rest e h = (refl, h)
none_found (Some us) rest e h = absurd (both_ways true e refl)
