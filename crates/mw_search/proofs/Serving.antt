-- Outcomes that take fewer steps than what they stand for: a variable that is all that is left of a pattern is met at once.
use Rattle.std.specs.Prelude.{Bool, true, false, cond, Option, None, is_some, refl}
use Rattle.std.proofs.Common.{◌≡◌, ◌∙◌, ℕ, suc, ◌+◌, ◌<◌, List, [], ◌∷◌, length, inl, inr, ap, sym, subst, arith, length-append}
use Rattle.std.specs.List.{flat_map}
use Rattle.std.proofs.lemmas.Bool.{eq-eqb}
use Rattle.mw_logic.specs.Term.{RawTerm, Variable, variable, apply, RawTerms, cons}
use Rattle.mw_logic.specs.Terms.{args_of, skip}
use Rattle.mw_logic.specs.Parts.{number_of_terms}
use Rattle.mw_logic.specs.Signature.{Signature, Identity}
use Rattle.mw_logic.specs.NormalForm.{identity_of, rebuilt}
use Rattle.mw_arguments.specs.Bags.{runs, numbers}
use Rattle.mw_arguments.proofs.Once.{flat_map-flat_map, flat_map-same}
use Rattle.mw_split.specs.Lists.{Member}
use Rattle.mw_matching.specs.Multisets.{times, times_in, at_least_one, part_of, rest_of, parts}
use Rattle.mw_matching.specs.Found.{Values, found, found_bag}
use Rattle.mw_search.specs.Bags.{are_divided, by_number}
use Rattle.mw_search.specs.Traces.{Trace, somes, ticked, trace, trace_bag}
use Rattle.mw_search.specs.Goals.{top_of, goal_trace, outcome_trace, IsOutcome, IsShorter, Serves, divided_outcome}
use Rattle.mw_search.specs.declared.goals.Goal.{Goal}
use Rattle.mw_search.specs.declared.goals.Goal.TheVariants.{Meet, Bag}
use Rattle.mw_search.specs.declared.goals.Outcome.{Outcome}
use Rattle.mw_search.specs.declared.goals.Outcome.TheVariants.{Fails, First}
use Rattle.mw_search.proofs.Finding.{somes-ticked, finds_goal}
use Rattle.mw_search.proofs.Cutting.{all_first}
use Rattle.mw_search.proofs.Dividing.{cut_found, undivided, divided_there, divided, part_by_number, rest_by_number}

-- a step at a time is fewer steps too
pub served : (sig : Signature) (single : List (List ℕ)) (g : Goal) (vs : Values) (o : Outcome) → IsOutcome sig single g vs o → Serves sig single g vs o
served sig single g vs o h = λ k. record { matches = ap somes (h k); fewer = (let l = ap length (h k) in omega (arith, l)) }

-- one choice takes fewer steps than all
one_fewer : {X : Type 0} (F : X → Trace) (xs : List X) (x : X) → Member x xs → length (F x) < length (ticked F xs)
one_fewer F [] x n = absurd n
one_fewer F (y ∷ xs) x (inl e) = let l = ap (λ z. length (F z)) e in let a = length-append (F y) (ticked F xs) in omega (arith, l, a)
one_fewer F (y ∷ xs) x (inr n) = let i = one_fewer F xs x n in let a = length-append (F y) (ticked F xs) in omega (arith, i, a)

-- how often a variable stands that is all that is left
pub others_too : (x : Variable) (qs : RawTerms) → times (variable x) (cons (variable x) qs) ≡ suc (number_of_terms qs) → times_in (variable x) qs ≡ number_of_terms qs
others_too x qs h =
    let one : times_in (variable x) (cons (variable x) qs) ≡ suc (times_in (variable x) qs) = rw (eq-eqb x.sort x.sort refl) (omega arith) in
    let all : suc (times_in (variable x) qs) ≡ suc (number_of_terms qs) = sym (ap at_least_one one) ∙ h in
    omega (arith, all)

module _ (sig : Signature) (single : List (List ℕ)) (p : RawTerm) (i : ℕ) (x : Variable) (zs : RawTerms) (vs : Values) where
  abbrev behind : RawTerms
  behind = skip (i + 1) (args_of p)

  abbrev unit_of : Option Identity
  unit_of = identity_of sig (top_of p)

  -- what comes of a cut, step by step
  abbrev cut_trace : (Values → Trace) → List ℕ → Trace
  cut_trace k c = trace sig single (variable x) (rebuilt unit_of (top_of p) (part_of zs c)) vs (λ us. trace_bag sig single (top_of p) behind (rest_of zs c) us k)

  cut_somes : (k : Values → Trace) (c : List ℕ) → somes (cut_trace k c) ≡ flat_map (λ us. somes (k us)) (cut_found sig single (top_of p) x behind zs vs c)
  cut_somes k c =
      let t : RawTerm = rebuilt unit_of (top_of p) (part_of zs c) in
      let g : Goal = Bag p (i + 1) (apply (top_of p) (rest_of zs c)) in
      finds_goal sig single (Meet (variable x) t) vs (λ us. goal_trace sig single g us k)
      ∙ flat_map-same _ _ (found sig single (variable x) t vs) (λ us. finds_goal sig single g us k)
      ∙ sym (flat_map-flat_map (λ us. somes (k us)) (λ us. found_bag sig single (top_of p) behind (rest_of zs c) us) (found sig single (variable x) t vs))

  cuts_somes : (k : Values → Trace) (cs : List (List ℕ)) → somes (ticked (cut_trace k) cs) ≡ flat_map (λ us. somes (k us)) (flat_map (cut_found sig single (top_of p) x behind zs vs) cs)
  cuts_somes k cs =
      somes-ticked (cut_trace k) cs ∙ flat_map-same _ _ cs (λ c. cut_somes k c)
      ∙ sym (flat_map-flat_map (λ us. somes (k us)) (cut_found sig single (top_of p) x behind zs vs) cs)

  module _ (comes : x.sort ≡ length vs) (again : times_in (variable x) behind ≡ number_of_terms behind) (some : 0 < number_of_terms zs) where
    abbrev number : ℕ
    number = suc (number_of_terms behind)

    abbrev all_parts : List (List ℕ)
    all_parts = parts (is_some unit_of) number zs

    shorter : (b : Bool) → are_divided number (numbers (runs zs)) ≡ b → (k : Values → Trace)
        → IsShorter (outcome_trace sig single (cond b (First (variable x) (rebuilt unit_of (top_of p) (part_of zs (by_number number zs))) (Bag p (i + 1) (apply (top_of p) (rest_of zs (by_number number zs))))) Fails) vs k)
        (None ∷ ticked (cut_trace k) all_parts)
    shorter false e k = record {
      matches = cuts_somes k all_parts ∙ ap (flat_map (λ us. somes (k us))) (undivided sig single (top_of p) x behind zs vs comes again e);
      fewer = omega arith;
    }
    shorter true e k =
        let same : cut_trace k (all_first (by_number number zs)) ≡ cut_trace k (by_number number zs) =
        ap (λ ts. trace sig single (variable x) (rebuilt unit_of (top_of p) ts) vs (λ us. trace_bag sig single (top_of p) behind (rest_of zs (all_first (by_number number zs))) us k)) (part_by_number number zs)
        ∙ ap (λ ts. trace sig single (variable x) (rebuilt unit_of (top_of p) (part_of zs (by_number number zs))) vs (λ us. trace_bag sig single (top_of p) behind ts us k)) (rest_by_number number zs) in
        let few = one_fewer (cut_trace k) all_parts (all_first (by_number number zs)) (divided_there sig single (top_of p) x behind zs vs comes again e some) in
        let long = ap length same in
        record {
          matches = cuts_somes k all_parts ∙ ap (flat_map (λ us. somes (k us))) (divided sig single (top_of p) x behind zs vs comes again e some)
              ∙ sym (cut_somes k (all_first (by_number number zs))) ∙ ap somes same;
          fewer = omega (arith, few, long);
        }

    -- the part of which the elements are so many equal ones, or none
    pub divided_serves : (q b : RawTerm) (o : Outcome) → q ≡ variable x
        → ((k : Values → Trace) → goal_trace sig single (Bag p i b) vs k
        ≡ None ∷ ticked (λ c. trace sig single q (rebuilt unit_of (top_of p) (part_of zs c)) vs (λ us. trace_bag sig single (top_of p) behind (rest_of zs c) us k)) all_parts)
        → o ≡ divided_outcome unit_of p q (i + 1) number zs → Serves sig single (Bag p i b) vs o
    divided_serves q b o e way is = λ k.
        let goes : goal_trace sig single (Bag p i b) vs k ≡ None ∷ ticked (cut_trace k) all_parts =
        way k ∙ ap (λ y. None ∷ ticked (λ c. trace sig single y (rebuilt unit_of (top_of p) (part_of zs c)) vs (λ us. trace_bag sig single (top_of p) behind (rest_of zs c) us k)) all_parts) e in
        let outcome : o ≡ divided_outcome unit_of p (variable x) (i + 1) number zs = is ∙ ap (λ y. divided_outcome unit_of p y (i + 1) number zs) e in
        subst (λ t. IsShorter (outcome_trace sig single o vs k) t) (sym goes)
        (subst (λ u. IsShorter (outcome_trace sig single u vs k) (None ∷ ticked (cut_trace k) all_parts)) (sym outcome) (shorter (are_divided number (numbers (runs zs))) refl k))
