-- How an evaluation goes on behind a test.
use Rattle.std.specs.Prelude.{◌≡◌, ◌⊎◌, ◌≤◌, ℕ, zero, suc, List, [], ◌∷◌, ◌++◌, length, take, drop, true, false, Some, None, slice_get, refl}
use Rattle.std.proofs.Common.{sym, subst, ap, ◌∙◌, arith, inl, inr, ⊎_elim}
use Rattle.std.proofs.lemmas.Bool.{both_ways}
use Rattle.std.proofs.lemmas.List.{length-append, length-take-le, take-append-le}
use Rattle.std.proofs.lemmas.Option.{same_Some}
use Rattle.mw_logic.specs.Term.{Variable, RawTerm}
use Rattle.mw_logic.specs.Signature.{Signature, Member, IsRawTerm}
use Rattle.mw_logic.specs.Accepted.{IsAccepted}
use Rattle.mw_logic.specs.Confluence.{AreBound}
use Rattle.mw_logic.specs.Substitution.{Substitution, instance, is_bound, IsSolution, Extends}
use Rattle.mw_logic.specs.Parts.{nested}
use Rattle.mw_logic.specs.Module.{Fragment, matches, Module, Statement, IsStatement}
use Rattle.mw_logic.specs.Proof.{Proof, Proofs, nil, cons, equality, transitivity}
use Rattle.mw_logic.specs.Judgements.{AdmittedStep, HoldsAbove, FailsAbove, admitted_judgements}
use Rattle.mw_logic.specs.Ends.{IsSide}
use Rattle.mw_logic.proofs.Members.{member-right}
use Rattle.mw_logic.proofs.SameSolutions.{same_solution-sym}
use Rattle.mw_canon.specs.Canonical.{meant}
use Rattle.mw_least.specs.Workable.{IsWorkable}
use Rattle.mw_least.specs.Conditions.{AreRawFragments}
use Rattle.mw_position.specs.Variables.{met}
use Rattle.mw_deduction.specs.Frontier.{Alternative, alternative, together, IsOneOr, IsSolvedOr, IsFrontier}
use Rattle.mw_deduction.proofs.Frontiers.{starts, same_ones, dropped, goes_on, holds, fails, match_opens, same_fails}
use Rattle.mw_search.specs.Lacking.{Each, HaveTheirSorts, OneLacksItsSort}
use Rattle.mw_match.specs.Solutions.{Coming, values, FitsSorts, Lacks}
use Rattle.mw_match.specs.declared.solutions.Solution.{Solution}
use Rattle.mw_index.specs.Conditions.{IsTestOf, AreTests, bound_by, all_bound}
use Rattle.mw_index.specs.declared.conditions.Test.{Test}
use Rattle.mw_index.proofs.Bound.{ready_more, first_ready}
use Rattle.mw_index.proofs.ByTest.{of_none}
use Rattle.mw_index.proofs.Rearranging.{zip_parts}
use Rattle.mw_index.proofs.Sides.{in_lefts}
use Rattle.mw_deduction.specs.Replay.{sides_of, all_sides, begun_sides}
use Rattle.mw_reduce.specs.Evaluations.{AreBoundTo, bound_to, AreFound, deduction_of, proofs_of, starts_of, AreShown, IsHolding, IsFailing, IsOpening, IsStoppedFor, IsPlace, IsSplit, AreOpen, IsComing, AreLeft, IsTrial, IsAt, IsBack, Tries, IsStoppedInside, IsHeldBy}
use Rattle.mw_reduce.specs.declared.sides.Reduced.{Reduced}
use Rattle.mw_reduce.specs.declared.evaluation.Other.{Other}
use Rattle.mw_reduce.proofs.Evidence.{proofs_together, none_shown, one_shown, more_shown}
use Rattle.mw_reduce.proofs.Splits.{bound_by_values, first_split, split_more, whole_split}
use Rattle.mw_reduce.proofs.Values.{solution_whole, match_bound, match_finds}
use Rattle.mw_proof.specs.declared.reason.Reason.{Reason}

take_take : {X : Type 0} (n : ℕ) (xs : List X) → take n (take n xs) ≡ take n xs
take_take zero xs = refl
take_take (suc n) [] = refl
take_take (suc n) (x ∷ xs) = ap (λ ys. x ∷ ys) (take_take n xs)

take_all : {X : Type 0} (xs : List X) → take (length xs) xs ≡ xs
take_all [] = refl
take_all (x ∷ xs) = ap (λ ys. x ∷ ys) (take_all xs)

drop_next : (ts : List Test) (i : ℕ) (t : Test) → slice_get ts i ≡ Some t → drop i ts ≡ t ∷ drop (suc i) ts
drop_next [] i t e = cc
drop_next (u ∷ ts) zero t e = ap (λ x. x ∷ ts) (same_Some u t e)
drop_next (u ∷ ts) (suc i) t e = drop_next ts i t e

-- a test stands for a fragment
pub first_fragment : (sig : Signature) (xs : List Variable) (D : List Fragment) (t : Test) (ts : List Test) → AreTests sig xs D (t ∷ ts)
    → (f : Fragment) × (C : List Fragment) × (D ≡ f ∷ C) × IsTestOf sig xs f t × AreTests sig (bound_by xs t) C ts
first_fragment sig xs [] t ts h = absurd h
first_fragment sig xs (f ∷ C) t ts h = (f, C, refl, h.0, h.1)

in_skipped : {X : Type 0} (P : X → Type 0) (left new : List X) (x : X) → Each P left → Member x (left ++ new) → P x ⊎ Member x new
in_skipped P [] new x e m = inr m
in_skipped P (y ∷ left) new x e m = ⊎_elim (λ k. inl (subst P k e.0)) (λ k. in_skipped P left new x e.1 k) m

module _ (M : Module) (n : ℕ) (e : Statement) (tests : List Test) where
  abbrev sig : Signature
  sig = M.signature

  -- what is waiting stays so where more sides are shown
  open_more : (sides ts : List Reduced) (Ds : List (List Fragment)) (os : List Other) → AreOpen M n e tests sides Ds os → AreOpen M n e tests (sides ++ ts) Ds os × (AreLeft M n (sides ++ ts) Ds os ≡ AreLeft M n sides Ds os)
  open_more sides ts [] [] h = (tt, refl)
  open_more sides ts [] (o ∷ os) h = absurd h
  open_more sides ts (D ∷ Ds) [] h = absurd h
  open_more sides ts (D ∷ Ds) (o ∷ os) (h, more) =
      let same : take o.sides (sides ++ ts) ≡ take o.sides sides = take-append-le o.sides sides ts h.within in (
        (
          record {
            within = longer o.sides sides ts h.within;
            variables = h.variables;
            place = subst (λ us. IsPlace M n e tests o.at us h.variables D) (sym same) h.place;
            each = λ q m z. let (named, bound, found, split) = h.each q m z in (named, bound, found, subst (λ us. IsSplit M e.fragments (bound_to sig h.variables (values q)) us D) (sym same) split);
            telling = h.telling;
          },
          subst (λ us. AreOpen M n e tests us Ds os) (sym same) more,
        ),
        ap (λ us. λ (a : Alternative). IsSolvedOr D (proofs_of M n us) (IsComing sig o) (AreLeft M n us Ds os) a) same,
      )
    where
      longer : (m : ℕ) (xs ys : List Reduced) → m ≤ length xs → m ≤ length (xs ++ ys)
      longer m xs ys l = let z = length-append xs ys in omega (arith, l, z)

  -- the place behind a test
  next_place : IsWorkable M → (at : ℕ) (t : Test) → slice_get tests at ≡ Some t → (sides ts : List Reduced) (xs : List Variable) (f : Fragment) (C : List Fragment)
      → IsPlace M n e tests at sides xs (f ∷ C) → IsTestOf sig xs f t → AreTests sig (bound_by xs t) C (drop (suc at) tests) → AreShown M n ts
      → IsPlace M n e tests (suc at) (sides ++ ts) (bound_by xs t) C
  next_place work at t g sides ts xs f C p test behind shown = record {
    fitting = behind;
    ready = ready_more sig work.signature.accepted e.variables xs f C p.ready t test;
    ends = sym (ap (all_bound xs) (drop_next tests at t g)) ∙ p.ends;
    shown = more_shown M n sides ts p.shown shown;
  }

  -- where a test is left it has come to a fragment
  pub at_test : (s : Substitution) (at : ℕ) (t : Test) → slice_get tests at ≡ Some t → (vs : List RawTerm) (sides : List Reduced) (os : List Other) → (h : IsTrial M n e tests s at vs sides os)
      → (f : Fragment) × (C : List Fragment) × (h.rest ≡ f ∷ C) × IsTestOf sig h.variables f t × ((a : IsAt M n e tests s at f C h.variables vs sides os) × (a.test ≡ t))
  at_test s at t g vs sides os h =
      let (f, C, is, test, behind) = first_fragment sig h.variables h.rest t (drop (suc at) tests) (subst (AreTests sig h.variables h.rest) (drop_next tests at t g) h.place.fitting) in (
        f,
        C,
        is,
        test,
        (
          record {
            place = subst (IsPlace M n e tests at sides h.variables) is h.place;
            bound = h.bound;
            found = h.found;
            split = subst (IsSplit M e.fragments (bound_to sig h.variables vs) sides) is h.split;
            rests = h.rests;
            waiting = h.waiting;
            frontier = subst (λ D. IsFrontier M (admitted_judgements M n) e.fragments s (IsOneOr (alternative D (bound_to sig h.variables vs) (proofs_of M n sides)) (AreLeft M n sides h.rests os))) is h.frontier;
            test = t;
            is_test = test;
            here = g;
            behind = behind;
          },
          refl,
        ),
      )

  module _ (s : Substitution) where
    abbrev Frontier : (Alternative → Type 0) → Type 0
    Frontier As = IsFrontier M (admitted_judgements M n) e.fragments s As

    module _ (work : IsWorkable M) (at : ℕ) (f : Fragment) (C : List Fragment) (xs : List Variable) (vs : List RawTerm) (sides : List Reduced) (os : List Other) (h : IsAt M n e tests s at f C xs vs sides os) where
      abbrev r : Substitution
      r = bound_to sig xs vs

      all_there : AreBound (is_bound r) (f ∷ C)
      all_there = bound_by_values M xs vs h.bound (f ∷ C) h.place.ready.in_turn

      -- where the test holds it goes on at the next one
      pub go_on : bound_by xs h.test ≡ xs → (ts : List Reduced) → IsHolding M n f r ts → IsTrial M n e tests s (suc at) vs (sides ++ ts) os
      go_on same ts holding =
          let (waiting, left) = open_more sides ts h.rests os h.waiting in record {
            rest = C;
            variables = xs;
            place = subst (λ ys. IsPlace M n e tests (suc at) (sides ++ ts) ys C) same (next_place work at h.test h.here sides ts xs f C h.place h.is_test h.behind holding.sides);
            bound = h.bound;
            found = h.found;
            split = split_more M e.fragments f C r r sides ts (λ x u k. k) all_there h.split holding.starts;
            rests = h.rests;
            waiting = waiting;
            frontier = subst (λ As. Frontier (IsOneOr (alternative C r (proofs_of M n (sides ++ ts))) As)) (sym left)
                (subst (λ ps. Frontier (IsOneOr (alternative C r ps) (AreLeft M n sides h.rests os))) (sym (proofs_together M n sides ts))
                (goes_on M (admitted_judgements M n) e.fragments s f C r (proofs_of M n sides) (proofs_of M n ts) (AreLeft M n sides h.rests os) h.frontier holding.holds (holding.fails_behind C)));
          }

      -- where it fails the others are left
      pub turn_away : IsFailing M n f r → IsBack M n e tests s sides os
      turn_away failing = record { rests = h.rests; waiting = h.waiting; frontier = dropped M (admitted_judgements M n) e.fragments s f C r (proofs_of M n sides) (AreLeft M n sides h.rests os) h.frontier (failing C) }

      -- a side stops
      pub stop_inside : (limit : ℕ) (why : Reason) (u : RawTerm) → IsSide f u → IsStoppedFor M n limit (instance r u) why → IsStoppedInside M n limit e.fragments s why
      stop_inside limit why u side stops =
          let (held, split, holds) = h.frontier.reached (alternative (f ∷ C) r (proofs_of M n sides)) (inl refl) in
          record { held = held; fragment = f; rest = C; is = split; proofs = proofs_of M n sides; reached = r; holds = holds; side = u; is_side = side; stops = stops }

      -- a match is opened: its solutions are left to be tried
      pub open_match : (k : Reduced) (o : Other) → o.at ≡ suc at → o.sides ≡ length (sides ++ k ∷ []) → IsOpening M n f xs vs k (bound_by xs h.test) o.solutions.value → IsBack M n e tests s (sides ++ k ∷ []) (o ∷ os)
      open_match k o here count opening =
          let ok : IsAccepted sig = work.signature.accepted in
          let after : List Reduced = sides ++ k ∷ [] in
          let ys : List Variable = bound_by xs h.test in
          let l : RawTerm = opening.pattern in
          let shown : AreShown M n (k ∷ []) = one_shown M n (instance r opening.side) k opening.shown in
          let q : IsPlace M n e tests (suc at) after ys C = next_place work at h.test h.here sides (k ∷ []) xs f C h.place h.is_test h.behind shown in
          let whole : take o.sides after ≡ after = ap (λ m. take m after) count ∙ take_all after in
          let raw : IsRawTerm sig l = (subst (λ f. AreRawFragments sig (f ∷ C)) opening.is h.place.ready.raw).0 in
          let (waiting, left) = open_more sides (k ∷ []) h.rests os h.waiting in
          let own : starts_of M (k ∷ []) ≡ begun_sides sig r (sides_of f) = subst (λ f. starts_of M (k ∷ []) ≡ begun_sides sig r (sides_of f)) (sym opening.is) (ap (λ t. nested sig t ∷ []) opening.shown.begins) in
          let front : Frontier (IsOneOr (alternative (matches l opening.side ∷ C) r (proofs_of M n sides)) (AreLeft M n sides h.rests os)) =
          subst (λ f. Frontier (IsOneOr (alternative (f ∷ C) r (proofs_of M n sides)) (AreLeft M n sides h.rests os))) opening.is h.frontier in
          let proof : Proof = transitivity equality (deduction_of M n k).proof in
          let solved : (c : Solution) → Member c o.solutions.value.candidates → FitsSorts o.solutions.value c → IsSolution sig l (nested sig k.to) r (meant sig c.subst) =
          λ c m z. solution_whole sig l k.to r (meant sig c.subst) c.take (opening.all.sound c m z) in
          let opened : Frontier (IsSolvedOr C (together (proofs_of M n sides) (cons proof nil)) (IsComing sig o) (AreLeft M n sides h.rests os)) =
          match_opens M (admitted_judgements M n) e.fragments s C r (proofs_of M n sides) (AreLeft M n sides h.rests os) (λ a b. same_fails M (AdmittedStep M) n C a b) l opening.side proof (nested sig k.to) (IsComing sig o) front opening.shown.evaluates
          (λ a (c, m, z, i). subst (IsSolution sig l (nested sig k.to) r) (sym i) (solved c m z))
          (λ a sol. let (c, m, z, none, same) = opening.all.complete None a sol in (meant sig c.subst, (c, m, z, refl), same_solution-sym sig a (meant sig c.subst) same)) in
          record {
            rests = C ∷ h.rests;
            waiting = (
              record {
                within = omega (arith, count);
                variables = ys;
                place = subst (λ us. IsPlace M n e tests o.at us ys C) (sym whole) (subst (λ i. IsPlace M n e tests i after ys C) (sym here) q);
                each = λ c m z.
                    let (named, valued) = opening.named c m in
                    let same : bound_to sig ys (values c) ≡ meant sig c.subst = ap (λ xs. bound_to sig xs (values c)) (sym named) ∙ ap (meant sig) (zip_parts c.subst) in
                    let extends : Extends r (bound_to sig ys (values c)) = subst (Extends r) (sym same) (solved c m z).extends in
                    let sorted = work.signature.well_sorted in (
                      named,
                      match_bound M ok sorted n xs vs h.bound l raw k.to opening.shown.normal c.subst valued (solved c m z) ys named,
                      match_finds M ok sorted n xs vs h.bound l raw k.to opening.shown.normal c.subst valued (solved c m z) ys named e.left h.found,
                      subst (λ us. IsSplit M e.fragments (bound_to sig ys (values c)) us C) (sym whole) (split_more M e.fragments f C r (bound_to sig ys (values c)) sides (k ∷ []) extends all_there h.split own),
                    );
                telling = λ c m z lacks. opening.all.lacking c m lacks (opening.all.sound c m z);
              },
              subst (λ us. AreOpen M n e tests us h.rests os) (sym whole) waiting,
            );
            frontier = subst (λ us. Frontier (λ a. IsSolvedOr C (proofs_of M n us) (IsComing sig o) (AreLeft M n us h.rests os) a)) (sym whole)
                (subst (λ As. Frontier (IsSolvedOr C (proofs_of M n after) (IsComing sig o) As)) (sym left)
                (subst (λ ps. Frontier (IsSolvedOr C ps (IsComing sig o) (AreLeft M n sides h.rests os))) (sym (proofs_together M n sides (k ∷ []))) opened));
          }

    -- no test is left
    pub hold : (at : ℕ) (vs : List RawTerm) (sides : List Reduced) (os : List Other) → IsTrial M n e tests s at vs sides os → drop at tests ≡ [] → IsHeldBy M n e tests s vs sides
    hold at vs sides os h none =
        let xs : List Variable = h.variables in
        let none_left : h.rest ≡ [] = of_none sig xs h.rest (subst (AreTests sig xs h.rest) none h.place.fitting) in
        let all : xs ≡ all_bound (met [] e.left) tests = sym (ap (all_bound xs) none) ∙ h.place.ends in
        let front : Frontier (IsOneOr (alternative [] (bound_to sig xs vs) (proofs_of M n sides)) (AreLeft M n sides h.rests os)) =
        subst (λ D. Frontier (IsOneOr (alternative D (bound_to sig xs vs) (proofs_of M n sides)) (AreLeft M n sides h.rests os))) none_left h.frontier in
        record {
          shown = h.place.shown;
          holds = subst (λ ys. HoldsAbove M (admitted_judgements M n) e.fragments s (proofs_of M n sides) (bound_to sig ys vs)) all (holds M (admitted_judgements M n) e.fragments s (bound_to sig xs vs) (proofs_of M n sides) (AreLeft M n sides h.rests os) front);
          bound = subst (λ ys. AreBoundTo M ys vs) all h.bound;
          found = subst (λ ys. AreFound M n e.left ys vs) all h.found;
          starts = subst (λ ys. (q : Substitution) → Extends (bound_to sig ys vs) q → starts_of M sides ≡ begun_sides sig q (all_sides e.fragments)) all
              (whole_split M e.fragments (bound_to sig xs vs) sides h.rest h.split none_left);
        }

    -- nor another solution
    pub fail : (sides : List Reduced) → IsBack M n e tests s sides [] → FailsAbove M (admitted_judgements M n) e.fragments s
    fail sides h = by_rests h.rests h.waiting h.frontier
      where
        by_rests : (Ds : List (List Fragment)) → AreOpen M n e tests sides Ds [] → Frontier (AreLeft M n sides Ds []) → FailsAbove M (admitted_judgements M n) e.fragments s
        by_rests [] o f = fails M (admitted_judgements M n) e.fragments s (AreLeft M n sides [] []) (λ a m. m) f
        by_rests (D ∷ Ds) o f = absurd o

    -- the next solution of the innermost match
    pub try_next : (vs : List RawTerm) (before after : List Reduced) (o o' : Other) (os : List Other) → IsBack M n e tests s before (o ∷ os) → Tries o o' before after vs true → IsTrial M n e tests s o.at vs after (o' ∷ os)
    try_next vs before after o o' os h (at, count, made, (first, passes, fits, is, rest)) = by_rests h.rests h.waiting h.frontier
      where
        cs : List Solution
        cs = o'.solutions.value.candidates

        here : Member first o.solutions.value.candidates
        here = subst (Member first) (sym passes.rest) (member-right first passes.left (first ∷ cs) (inl refl))

        older : (q : Solution) → Member q cs → Member q o.solutions.value.candidates
        older q m = subst (Member q) (sym passes.rest) (member-right q passes.left (first ∷ cs) (inr m))

        fits_too : (q : Solution) → FitsSorts o'.solutions.value q → FitsSorts o.solutions.value q
        fits_too q f = subst (λ (c : Coming). HaveTheirSorts c.signature c.sorts c.given (values q)) rest f

        fits_back : (q : Solution) → FitsSorts o.solutions.value q → FitsSorts o'.solutions.value q
        fits_back q f = subst (λ (c : Coming). HaveTheirSorts c.signature c.sorts c.given (values q)) (sym rest) f

        lacks_too : (q : Solution) → Lacks o'.solutions.value q → Lacks o.solutions.value q
        lacks_too q f = subst (λ (c : Coming). OneLacksItsSort c.signature c.sorts c.given (values q)) rest f

        by_rests : (Ds : List (List Fragment)) → AreOpen M n e tests before Ds (o ∷ os) → Frontier (AreLeft M n before Ds (o ∷ os)) → IsTrial M n e tests s o.at vs after (o' ∷ os)
        by_rests [] a f = absurd a
        by_rests (D ∷ Ds) (a, more) f =
            let ys : List Variable = a.variables in
            let shown : List Reduced = take o.sides before in
            let (named, bound, found, split) = a.each first here fits in
            let p : IsPlace M n e tests o.at after ys D = subst (λ us. IsPlace M n e tests o.at us ys D) (sym made) a.place in
            let same : bound_to sig ys vs ≡ meant sig first.subst = ap (λ us. bound_to sig ys us) is ∙ ap (λ xs. bound_to sig xs (values first)) (sym named) ∙ ap (meant sig) (zip_parts first.subst) in
            let kept : take o'.sides after ≡ after = ap (λ m. take m after) count ∙ ap (take o.sides) made ∙ take_take o.sides before ∙ sym made in
            let short : o'.sides ≤ length after = let l = a.within in let z = ap (λ (xs : List Reduced). length xs) made ∙ length-take-le o.sides before l in omega (arith, count, z) in
            let others : Alternative → Type 0 = AreLeft M n shown Ds os in
            let front : Frontier (IsOneOr (alternative D (bound_to sig ys vs) (proofs_of M n shown)) (λ b. IsSolvedOr D (proofs_of M n shown) (IsComing sig o') others b)) =
            same_ones M (admitted_judgements M n) e.fragments s (λ b. IsSolvedOr D (proofs_of M n shown) (IsComing sig o) others b) (IsOneOr (alternative D (bound_to sig ys vs) (proofs_of M n shown)) (λ b. IsSolvedOr D (proofs_of M n shown) (IsComing sig o') others b))
            f (there D (proofs_of M n shown) others a.telling same) (back D (proofs_of M n shown) others same) in
            record {
              rest = D;
              variables = ys;
              place = p;
              bound = subst (AreBoundTo M ys) (sym is) bound;
              found = subst (AreFound M n e.left ys) (sym is) found;
              split = subst (λ ws. IsSplit M e.fragments (bound_to sig ys ws) after D) (sym is) (subst (λ us. IsSplit M e.fragments (bound_to sig ys (values first)) us D) (sym made) split);
              rests = D ∷ Ds;
              waiting = (
                record {
                  within = short;
                  variables = ys;
                  place = subst (λ us. IsPlace M n e tests o'.at us ys D) (sym kept) (subst (λ i. IsPlace M n e tests i after ys D) (sym at) p);
                  each = λ q m g.
                      let (named, bound, found, split) = a.each q (older q m) (fits_too q g) in
                      (named, bound, found, subst (λ us. IsSplit M e.fragments (bound_to sig ys (values q)) us D) (sym made ∙ sym kept) split);
                  telling = λ q m g l. a.telling q (older q m) (fits_too q g) (lacks_too q l);
                },
                subst (λ us. AreOpen M n e tests us Ds os) (sym made ∙ sym kept) more,
              );
              frontier = subst (λ us. Frontier (IsOneOr (alternative D (bound_to sig ys vs) (proofs_of M n after)) (λ b. IsSolvedOr D (proofs_of M n us) (IsComing sig o') (AreLeft M n us Ds os) b))) (sym kept)
                  (subst (λ us. Frontier (IsOneOr (alternative D (bound_to sig ys vs) (proofs_of M n us)) (λ b. IsSolvedOr D (proofs_of M n us) (IsComing sig o') (AreLeft M n us Ds os) b))) (sym made) front);
            }
          where
            there : (D : List Fragment) (ps : Proofs) (As : Alternative → Type 0) → ((q : Solution) → Member q o.solutions.value.candidates → FitsSorts o.solutions.value q → Lacks o.solutions.value q → ⊥) → {w : Substitution} → w ≡ meant sig first.subst
                → (b : Alternative) → IsSolvedOr D ps (IsComing sig o) As b → IsOneOr (alternative D w ps) (λ b. IsSolvedOr D ps (IsComing sig o') As b) b
            there D ps As telling same b (inr m) = inr (inr m)
            there D ps As telling same b (inl (q, (x, m, g, i), z)) =
                ⊎_elim (λ l. absurd (telling x m g l)) (λ l. ⊎_elim
                (λ is. inl (z ∙ ap (λ w. alternative D w ps) (i ∙ ap (λ (y : Solution). meant sig y.subst) (sym is) ∙ sym same)))
                (λ w. inr (inl (q, (x, w, fits_back x g, i), z))) l)
                (in_skipped (Lacks o.solutions.value) passes.left (first ∷ cs) x passes.each (subst (Member x) passes.rest m))

            back : (D : List Fragment) (ps : Proofs) (As : Alternative → Type 0) {w : Substitution} → w ≡ meant sig first.subst → (b : Alternative) → IsOneOr (alternative D w ps) (λ b. IsSolvedOr D ps (IsComing sig o') As b) b
                → IsSolvedOr D ps (IsComing sig o) As b
            back D ps As same b (inl z) = inl (meant sig first.subst, (first, here, fits, refl), z ∙ ap (λ w. alternative D w ps) same)
            back D ps As same b (inr (inl (q, (x, m, g, i), z))) = inl (q, (x, older x m, fits_too x g, i), z)
            back D ps As same b (inr (inr m)) = inr m

    -- it has none
    pub give_up : (vs : List RawTerm) (before after : List Reduced) (o o' : Other) (os : List Other) → IsBack M n e tests s before (o ∷ os) → Tries o o' before after vs false → IsBack M n e tests s after os
    give_up vs before after o o' os h (made, passes) = by_rests h.rests h.waiting h.frontier
      where
        by_rests : (Ds : List (List Fragment)) → AreOpen M n e tests before Ds (o ∷ os) → Frontier (AreLeft M n before Ds (o ∷ os)) → IsBack M n e tests s after os
        by_rests [] a f = absurd a
        by_rests (D ∷ Ds) (a, more) f = record {
          rests = Ds;
          waiting = subst (λ us. AreOpen M n e tests us Ds os) (sym made) more;
          frontier = subst (λ us. Frontier (AreLeft M n us Ds os)) (sym made)
              (same_ones M (admitted_judgements M n) e.fragments s (λ b. IsSolvedOr D (proofs_of M n (take o.sides before)) (IsComing sig o) (AreLeft M n (take o.sides before) Ds os) b) (AreLeft M n (take o.sides before) Ds os) f
              (there D (proofs_of M n (take o.sides before)) (AreLeft M n (take o.sides before) Ds os) a.telling) (λ b m. inr m));
        }
          where
            there : (D : List Fragment) (ps : Proofs) (As : Alternative → Type 0) → ((q : Solution) → Member q o.solutions.value.candidates → FitsSorts o.solutions.value q → Lacks o.solutions.value q → ⊥) → (b : Alternative) → IsSolvedOr D ps (IsComing sig o) As b → As b
            there D ps As telling b (inr m) = m
            there D ps As telling b (inl (q, (x, m, g, i), z)) =
                ⊎_elim (λ l. absurd (telling x m g l)) (λ l. absurd l) (in_skipped (Lacks o.solutions.value) passes.left [] x passes.each (subst (Member x) passes.rest m))

-- it begins at the first test, with the values of the left side
pub begin : (M : Module) → IsWorkable M → (n number : ℕ) (e : Statement) → IsStatement M number e → (tests : List Test) → AreTests M.signature (met [] e.left) e.fragments tests → (us : List RawTerm) → AreBoundTo M (met [] e.left) us
    → IsTrial M n e tests (bound_to M.signature (met [] e.left) us) 0 us [] []
begin M work n number e there tests is us bound = record {
  rest = e.fragments;
  variables = met [] e.left;
  place = record { fitting = is; ready = first_ready M work number e there; ends = refl; shown = none_shown M n };
  bound = bound;
  found = λ x h k. absurd (both_ways _ k (sym (in_lefts e x) ∙ h));
  split = first_split M e.fragments (bound_to M.signature (met [] e.left) us);
  rests = [];
  waiting = tt;
  frontier = starts M (admitted_judgements M n) e.fragments (bound_to M.signature (met [] e.left) us);
}
