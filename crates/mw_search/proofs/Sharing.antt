-- What becomes of goals under an associative and commutative operator, and the shares that their choices go through.
use Rattle.std.proofs.Common.{◌≡◌, ◌∙◌, ℕ, ◌+◌, ◌-◌, ◌<◌, ◌≤◌, false, cond, List, [], ◌∷◌, length, get_or, map, ap, sym, subst, refl, arith}
use Rattle.std.specs.Prelude.{Some, None, Option, Bool, is_some, unwrap_or, option_map}
use Rattle.std.proofs.lemmas.Bool.{both_ways}
use Rattle.mw_logic.specs.Term.{RawTerm, apply, RawTerms, nil, cons}
use Rattle.mw_logic.specs.Terms.{args_of, terms_of, skip}
use Rattle.mw_logic.specs.Parts.{number_of_terms}
use Rattle.mw_logic.specs.Signature.{Signature, Identity}
use Rattle.mw_logic.specs.NormalForm.{identity_of, elements, rebuilt}
use Rattle.mw_term.specs.Signatures.{identity_of as identity_named}
use Rattle.mw_arguments.specs.Pieces.{is_backed}
use Rattle.mw_matching.specs.Patterns.{is_rigid}
use Rattle.mw_matching.specs.Multisets.{is_within, left_behind, term_at, without, news, times, part_of, rest_of, parts, behind_first}
use Rattle.mw_matching.specs.Found.{Values, is_single, value_of, are_none}
use Rattle.mw_search.specs.Traces.{Trace, ticked, trace, trace_bag}
use Rattle.mw_search.specs.Goals.{top_of, IsNext, Share, head_share, heads_left, part_share, share_trace, shares_left}
use Rattle.mw_search.specs.declared.goals.Goal.TheVariants.{Bag, Left}
use Rattle.mw_search.specs.declared.shares.Singles.{Singles}
use Rattle.mw_search.specs.declared.shares.Pieces.{Pieces}
use Rattle.mw_search.specs.declared.shares.Shares.TheVariants.{OfHeads, OfParts}
use Rattle.mw_search.proofs.Meeting.{at_args, past_args, none_left, ticked_map}

pub behind_mapped : {X Y : Type 0} (f : X → Y) (xs : List X) → map f (behind_first xs) ≡ behind_first (map f xs)
behind_mapped f [] = refl
behind_mapped f (x ∷ xs) = refl

-- more patterns are left
pub none_behind : (p : RawTerm) (ps : List RawTerm) (i : ℕ) → terms_of ps ≡ args_of p → i + 1 < length ps → are_none (skip (i + 1) (args_of p)) ≡ false
none_behind p ps i e h = none_left p ps (i + 1) e false (λ w. absurd (both_ways _ refl w)) (λ _. h)

-- the first of the different elements that are left, and those behind it
pub heads_begin : (s : Singles) (zs : RawTerms) (n : ℕ) (ns : List ℕ) → zs ≡ args_of s.bag → news zs s.next (number_of_terms zs - s.next) ≡ n ∷ ns → heads_left s ≡ head_share s n ∷ map (head_share s) ns
heads_begin s zs n ns e h = ap (map (head_share s)) (ap (λ ys. news ys s.next (number_of_terms ys - s.next)) (sym e) ∙ h)

pub heads_pass : (old new : Singles) (zs : RawTerms) (n : ℕ) → new ≡ record old { next = n + 1 } → zs ≡ args_of old.bag → news zs old.next (number_of_terms zs - old.next) ≡ n ∷ news zs (n + 1) (number_of_terms zs - (n + 1))
    → heads_left new ≡ behind_first (heads_left old)
heads_pass old new zs n en e h =
    ap heads_left en ∙ ap (λ ys. map (head_share old) (news ys (n + 1) (number_of_terms ys - (n + 1)))) (sym e)
    ∙ ap behind_first (sym (heads_begin old zs n (news zs (n + 1) (number_of_terms zs - (n + 1))) e h))

pub heads_next : (s : Singles) (t p b : RawTerm) (zs : RawTerms) (n : ℕ) (ns : List ℕ) → zs ≡ args_of s.bag → news zs s.next (number_of_terms zs - s.next) ≡ n ∷ ns → t ≡ term_at n zs → p ≡ s.pattern → b ≡ s.bag
    → IsNext (Some (t, Left p s.then b n)) (heads_left s)
heads_next s t p b zs n ns e h et ep eb = subst (IsNext (Some (t, Left p s.then b n))) (sym (heads_begin s zs n ns e h)) (ap Some same)
  where
    same : ◌≡◌ {A = Share} (t, Left p s.then b n) (head_share s n)
    same = let u : t ≡ term_at n (args_of s.bag) = et ∙ ap (term_at n) e in cc

-- behind a part the others are left
pub parts_pass : (old new : Pieces) → new.pattern ≡ old.pattern → new.then ≡ old.then → new.identity ≡ old.identity → new.parts.elements ≡ old.parts.elements → new.parts.remaining ≡ behind_first old.parts.remaining
    → map (part_share new) new.parts.remaining ≡ behind_first (map (part_share old) old.parts.remaining)
parts_pass old new ep ei ee ez er =
    let G : Option Identity → RawTerm → ℕ → RawTerms → List (List ℕ) → List Share = λ e p i zs cs. map (λ c. (rebuilt e (top_of p) (part_of zs c), Bag p i (apply (top_of p) (rest_of zs c)))) cs in
    ap (λ e. G (option_map identity_named e) new.pattern new.then new.parts.elements new.parts.remaining) ee
    ∙ ap (λ p. G (option_map identity_named old.identity) p new.then new.parts.elements new.parts.remaining) ep
    ∙ ap (λ i. G (option_map identity_named old.identity) old.pattern i new.parts.elements new.parts.remaining) ei
    ∙ ap (λ zs. G (option_map identity_named old.identity) old.pattern old.then zs new.parts.remaining) ez
    ∙ ap (λ cs. G (option_map identity_named old.identity) old.pattern old.then old.parts.elements cs) er
    ∙ behind_mapped (part_share old) old.parts.remaining

module _ (sig : Signature) (single : List (List ℕ)) where
  -- no pattern is left
  pub bag_ends : (p r : RawTerm) (ps zs : List RawTerm) (i : ℕ) → terms_of ps ≡ args_of p → terms_of zs ≡ args_of r → length ps ≤ i → length zs ≡ 0
      → (vs : Values) (k : Values → Trace) → trace_bag sig single (top_of p) (skip i (args_of p)) (args_of r) vs k ≡ None ∷ k vs
  bag_ends p r ps [] i ep er hp h vs k = ap (λ xs. trace_bag sig single (top_of p) xs (args_of r) vs k) (past_args p ps i ep hp) ∙ ap (λ ys. trace_bag sig single (top_of p) nil ys vs k) (sym er)
  bag_ends p r ps (z ∷ zs) i ep er hp h vs k = absurd (omega (arith, h))

  pub bag_fails : (p r : RawTerm) (ps zs : List RawTerm) (i : ℕ) → terms_of ps ≡ args_of p → terms_of zs ≡ args_of r → length ps ≤ i → 0 < length zs
      → (vs : Values) (k : Values → Trace) → trace_bag sig single (top_of p) (skip i (args_of p)) (args_of r) vs k ≡ None ∷ []
  bag_fails p r ps [] i ep er hp h vs k = absurd (omega (arith, h))
  bag_fails p r ps (z ∷ zs) i ep er hp h vs k = ap (λ xs. trace_bag sig single (top_of p) xs (args_of r) vs k) (past_args p ps i ep hp) ∙ ap (λ ys. trace_bag sig single (top_of p) nil ys vs k) (sym er)

  -- what the next pattern takes: a variable that has its value, a rigid pattern, the last one, or any
  abbrev pub bag_step : ℕ → RawTerm → RawTerms → RawTerms → Values → (Values → Trace) → Option RawTerm → Bool → Bool → Trace
  bag_step f q qs zs vs k o x y =
      cond (is_some o)
      (cond (is_within (elements (identity_of sig f) f (unwrap_or o q)) zs) (trace_bag sig single f qs (left_behind (elements (identity_of sig f) f (unwrap_or o q)) zs) vs k) [])
      (cond x
      (ticked (λ n. trace sig single q (term_at n zs) vs (λ us. trace_bag sig single f qs (without n zs) us k)) (news zs 0 (number_of_terms zs)))
      (cond y
      (cond (is_backed (identity_of sig f) zs) (trace sig single q (rebuilt (identity_of sig f) f zs) vs k) [])
      (ticked (λ c. trace sig single q (rebuilt (identity_of sig f) f (part_of zs c)) vs (λ us. trace_bag sig single f qs (rest_of zs c) us k)) (parts (is_some (identity_of sig f)) (times q (cons q qs)) zs))))

  pub bag_way : (p q : RawTerm) (ps : List RawTerm) (i : ℕ) (zs : RawTerms) (o : Option RawTerm) (x y : Bool) → terms_of ps ≡ args_of p → i < length ps → q ≡ get_or ps i q
      → (vs : Values) → value_of q vs ≡ o → is_rigid sig (is_single single) (top_of p) q ≡ x → are_none (skip (i + 1) (args_of p)) ≡ y
      → (k : Values → Trace) → trace_bag sig single (top_of p) (skip i (args_of p)) zs vs k ≡ None ∷ bag_step (top_of p) q (skip (i + 1) (args_of p)) zs vs k o x y
  bag_way p q ps i zs o x y ep hp gp vs eo ex ey k =
      let f : ℕ = top_of p in
      let qs : RawTerms = skip (i + 1) (args_of p) in
      ap (λ xs. trace_bag sig single f xs zs vs k) (at_args p q ps i ep hp gp)
      ∙ ap (λ v. None ∷ bag_step f q qs zs vs k v (is_rigid sig (is_single single) f q) (are_none qs)) eo
      ∙ ap (λ b. None ∷ bag_step f q qs zs vs k o b (are_none qs)) ex ∙ ap (λ b. None ∷ bag_step f q qs zs vs k o x b) ey

  -- one element of a multiset each time
  pub heads_go : (p q q2 b : RawTerm) (i : ℕ) (s : Singles) → s.pattern ≡ p → s.bag ≡ b → s.then ≡ i → s.next ≡ 0 → q2 ≡ q → (vs : Values) (k : Values → Trace)
      → ticked (λ n. trace sig single q (term_at n (args_of b)) vs (λ us. trace_bag sig single (top_of p) (skip i (args_of p)) (without n (args_of b)) us k)) (news (args_of b) 0 (number_of_terms (args_of b)))
      ≡ ticked (share_trace sig single q2 vs k) (shares_left (OfHeads s))
  heads_go p q q2 b i s ep eb ei en eq vs k =
      let G : RawTerm → RawTerm → RawTerm → ℕ → List ℕ → Trace =
      λ p q b i ns. ticked (λ n. trace sig single q (term_at n (args_of b)) vs (λ us. trace_bag sig single (top_of p) (skip i (args_of p)) (without n (args_of b)) us k)) ns in
      let all : RawTerm → List ℕ = λ b. news (args_of b) 0 (number_of_terms (args_of b)) in
      let first : number_of_terms (args_of s.bag) ≡ number_of_terms (args_of s.bag) - s.next = omega (arith, en) in
      ap (λ x. G x q b i (all b)) (sym ep) ∙ ap (λ x. G s.pattern x b i (all b)) (sym eq)
      ∙ ap (λ x. G s.pattern q2 x i (all x)) (sym eb) ∙ ap (λ m. G s.pattern q2 s.bag m (all s.bag)) (sym ei)
      ∙ ap (λ m. G s.pattern q2 s.bag s.then (news (args_of s.bag) 0 m)) first ∙ ap (λ m. G s.pattern q2 s.bag s.then (news (args_of s.bag) m (number_of_terms (args_of s.bag) - s.next))) (sym en)
      ∙ sym (ticked_map (share_trace sig single q2 vs k) (head_share s) (news (args_of s.bag) s.next (number_of_terms (args_of s.bag) - s.next)))

  -- a part of a multiset each time
  pub parts_go : (e : Option Identity) (p q q2 : RawTerm) (zs : RawTerms) (i : ℕ) (cs : List (List ℕ)) (s : Pieces) → s.pattern ≡ p → s.parts.elements ≡ zs → s.then ≡ i → s.parts.remaining ≡ cs
      → option_map identity_named s.identity ≡ e → q2 ≡ q → (vs : Values) (k : Values → Trace)
      → ticked (λ c. trace sig single q (rebuilt e (top_of p) (part_of zs c)) vs (λ us. trace_bag sig single (top_of p) (skip i (args_of p)) (rest_of zs c) us k)) cs
      ≡ ticked (share_trace sig single q2 vs k) (shares_left (OfParts s))
  parts_go e p q q2 zs i cs s ep ez ei ec ed eq vs k =
      let G : Option Identity → RawTerm → RawTerm → RawTerms → ℕ → List (List ℕ) → Trace =
      λ e p q ys i ds. ticked (λ c. trace sig single q (rebuilt e (top_of p) (part_of ys c)) vs (λ us. trace_bag sig single (top_of p) (skip i (args_of p)) (rest_of ys c) us k)) ds in
      ap (λ e. G e p q zs i cs) (sym ed) ∙ ap (λ x. G (option_map identity_named s.identity) x q zs i cs) (sym ep)
      ∙ ap (λ x. G (option_map identity_named s.identity) s.pattern x zs i cs) (sym eq)
      ∙ ap (λ ds. G (option_map identity_named s.identity) s.pattern q2 zs i ds) (sym ec)
      ∙ ap (λ ys. G (option_map identity_named s.identity) s.pattern q2 ys i s.parts.remaining) (sym ez)
      ∙ ap (λ m. G (option_map identity_named s.identity) s.pattern q2 s.parts.elements m s.parts.remaining) (sym ei)
      ∙ sym (ticked_map (share_trace sig single q2 vs k) (part_share s) s.parts.remaining)
