use Rattle.std.proofs.Common.{◌≡◌, ◌∙◌, ◌+◌, ◌<◌, ap, arith, cond, length, refl, subst, suc, sym, true, false, option_map, List, ℕ, []}
use Rattle.std.specs.Prelude.{Option, Some, None, ◌∷◌, is_some}
use Rattle.mw_logic.specs.Signature.{Identity}
use Rattle.mw_logic.specs.NormalForm.{identity_of, rebuilt}
use Rattle.mw_logic.specs.Term.{variable, RawTerms, cons}
use Rattle.mw_logic.specs.Parts.{number_of_terms}
use Rattle.mw_logic.specs.Terms.{args_of, terms_of, skip}
use Rattle.mw_term.specs.Signatures.{identity_of as identity_named}
use Rattle.mw_arguments.specs.Pieces.{is_backed}
use Rattle.mw_matching.specs.Patterns.{is_rigid}
use Rattle.mw_matching.specs.Multisets.{parts, times, times_in, part_of, rest_of}
use Rattle.mw_matching.specs.Found.{Values, value_of, is_single}
use Rattle.mw_search.specs.Traces.{Trace, ticked, trace, trace_bag}
use Rattle.mw_search.specs.Goals.{top_of, outcome_trace, IsRepeated, divided_outcome}
use Rattle.mw_search.proofs.BagLists.{number_terms}
use Rattle.mw_search.proofs.Meeting.{at_args, row_last, is_zero, above_zero}
use Rattle.mw_search.proofs.Sharing.{bag_ends, bag_fails, bag_way, none_behind}
use Rattle.mw_search.proofs.Serving.{served, divided_serves, others_too}
use Rattle.mw_search.specs.declared.goals.Goal.TheVariants.{Bag}
use Rattle.mw_search.proofs.multisets.bag_met.Goals.{then-is_empty, else-is_empty}
use Rattle.mw_search.proofs.multisets.bag_met.Goals as goal

pub returns-then-at-patterns : goal.returns-then-at-patterns
returns-then-at-patterns c =
    let sig = c.args.facts.now in
    let single = c.args.positions.now.single.items in
    let vs = c.args.values.now in
    served sig single (Bag c.args.pattern.now c.args.at c.args.bag.now) vs c.if-is_empty.result (λ k. elim c.if-is_empty.branch [
      | then-is_empty w ↦ bag_ends sig single c.args.pattern.now c.args.bag.now c.arguments-patterns.result.now c.arguments-elements.result.now c.args.at c.arguments-patterns.ensures c.arguments-elements.ensures (omega arith)
          (is_zero (length c.arguments-elements.result.now) w.if-is_empty.ensures) vs k ∙ ap (λ o. None ∷ outcome_trace sig single o vs k) (sym w.result-is)
      | else-is_empty w ↦ bag_fails sig single c.args.pattern.now c.args.bag.now c.arguments-patterns.result.now c.arguments-elements.result.now c.args.at c.arguments-patterns.ensures c.arguments-elements.ensures (omega arith)
          (above_zero (length c.arguments-elements.result.now) w.if-is_empty.ensures) vs k ∙ ap (λ o. None ∷ outcome_trace sig single o vs k) (sym w.result-is)
    ])

pub returns-in-Some : goal.returns-in-Some
returns-in-Some c =
    let sig = c.args.facts.now in
    let single = c.args.positions.now.single.items in
    let vs = c.args.values.now in
    let p = c.args.pattern.now in
    let q = c.index-patterns-at.result in
    let given : value_of q vs ≡ Some c.in-Some.value.now = sym c.value_at.ensures ∙ ap (option_map _) c.in-Some.is in
    served sig single (Bag p c.args.at c.args.bag.now) vs c.in_ok-met.met (λ k. ap (λ zs. trace_bag sig single (top_of p) (skip c.args.at (args_of p)) zs vs k) (sym c.arguments-elements.ensures)
    ∙ bag_way sig single p q c.arguments-patterns.result.now c.args.at (terms_of c.arguments-elements.result.now) (Some c.in-Some.value.now) _ _ c.arguments-patterns.ensures (omega arith) c.index-patterns-at.is vs given refl refl k
    ∙ ap (λ l. None ∷ l) (c.in_ok-met.ensures sig single vs k))

pub returns-then-is_rigid : goal.returns-then-is_rigid
returns-then-is_rigid c =
    let sig = c.args.facts.now in
    let single = c.args.positions.now.single.items in
    let vs = c.args.values.now in
    let p = c.args.pattern.now in
    let q = c.index-patterns-at.result in
    let given : value_of q vs ≡ None = sym c.value_at.ensures ∙ ap (option_map _) c.in_default.is in
    let rigid : is_rigid sig (is_single single) (top_of p) q ≡ true = ap (λ f. is_rigid sig (is_single single) f q) (sym c.top.ensures) ∙ sym c.if-is_rigid.ensures in
    served sig single (Bag p c.args.at c.args.bag.now) vs c.in_ok-met-2.met (λ k. bag_way sig single p q c.arguments-patterns.result.now c.args.at (args_of c.args.bag.now) None true _ c.arguments-patterns.ensures (omega arith) c.index-patterns-at.is vs given rigid refl k
    ∙ ap (λ l. None ∷ l) (c.in_ok-met-2.ensures sig single vs k))

pub returns-then-at-patterns-2 : goal.returns-then-at-patterns-2
returns-then-at-patterns-2 c =
    let sig = c.args.facts.now in
    let single = c.args.positions.now.single.items in
    let vs = c.args.values.now in
    let p = c.args.pattern.now in
    let f : ℕ = top_of p in
    let q = c.index-patterns-at.result in
    let zs : RawTerms = terms_of c.arguments-elements.result.now in
    let e : Option Identity = option_map identity_named c.identity.result in
    let given : value_of q vs ≡ None = sym c.value_at.ensures ∙ ap (option_map _) c.in_default.is in
    let rigid : is_rigid sig (is_single single) f q ≡ false = ap (λ g. is_rigid sig (is_single single) g q) (sym c.top.ensures) ∙ sym c.if-is_rigid.ensures in
    let named : e ≡ identity_of sig f = c.identity.ensures ∙ ap (identity_of sig) c.top-then-at-patterns-2.ensures in
    let Y : Option Identity → ℕ → (Values → Trace) → Trace = λ d g k. cond (is_backed d zs) (trace sig single q (rebuilt d g zs) vs k) [] in
    served sig single (Bag p c.args.at c.args.bag.now) vs c.in_ok-met-3.met (λ k. ap (λ ys. trace_bag sig single f (skip c.args.at (args_of p)) ys vs k) (sym c.arguments-elements.ensures)
    ∙ bag_way sig single p q c.arguments-patterns.result.now c.args.at zs None false true c.arguments-patterns.ensures (omega arith) c.index-patterns-at.is vs given rigid
    (row_last p c.arguments-patterns.result.now c.args.at c.arguments-patterns.ensures c.if-at-patterns-2.true) k
    ∙ ap (λ d. None ∷ Y d f k) (sym named) ∙ ap (λ g. None ∷ Y e g k) (sym c.top-then-at-patterns-2-2.ensures) ∙ ap (λ l. None ∷ l) (c.in_ok-met-3.ensures sig single vs k))

pub returns-then-is_repeated : goal.returns-then-is_repeated
returns-then-is_repeated c =
    let sig = c.args.facts.now in
    let single = c.args.positions.now.single.items in
    let vs = c.args.values.now in
    let p = c.args.pattern.now in
    let f : ℕ = top_of p in
    let e : Option Identity = identity_of sig f in
    let q = c.index-patterns-at.result in
    let qs : RawTerms = skip (c.args.at + 1) (args_of p) in
    let zs : RawTerms = terms_of c.arguments-elements.result.now in
    let given : value_of q vs ≡ None = sym c.value_at.ensures ∙ ap (option_map _) c.in_default.is in
    let rigid : is_rigid sig (is_single single) f q ≡ false = ap (λ g. is_rigid sig (is_single single) g q) (sym c.top.ensures) ∙ sym c.if-is_rigid.ensures in
    let left : terms_of c.rest_of-left.result.now ≡ cons q qs =
    c.rest_of-left.ensures ∙ ap (skip c.args.at) c.arguments-patterns.ensures ∙ at_args p q c.arguments-patterns.result.now c.args.at c.arguments-patterns.ensures (omega arith) c.index-patterns-at.is in
    let number : length c.rest_of-left.result.now ≡ suc (number_of_terms qs) = sym (number_terms c.rest_of-left.result.now) ∙ ap number_of_terms left in
    let some : 0 < number_of_terms zs = let l = number_terms c.arguments-elements.result.now in let h : 0 < length c.arguments-elements.result.now = above_zero (length c.arguments-elements.result.now) c.if-not-is_empty.ensures in omega (arith, l, h) in
    let w : IsRepeated q (cons q qs) (length vs) = subst (λ ts. IsRepeated q ts (length vs)) left (c.is_repeated.ensures c.if-is_repeated.true) in
    let again : times_in (variable w.first) qs ≡ number_of_terms qs = others_too w.first qs (ap (λ y. times y (cons y qs)) (sym w.is) ∙ w.all) in
    let F : (Values → Trace) → List ℕ → Trace = λ k d. trace sig single q (rebuilt e f (part_of zs d)) vs (λ us. trace_bag sig single f qs (rest_of zs d) us k) in
    divided_serves sig single p c.args.at w.first zs vs w.comes again some q c.args.bag.now c.in_ok-met-4.met w.is
    (λ k. ap (λ ys. trace_bag sig single f (skip c.args.at (args_of p)) ys vs k) (sym c.arguments-elements.ensures)
    ∙ bag_way sig single p q c.arguments-patterns.result.now c.args.at zs None false false c.arguments-patterns.ensures (omega arith) c.index-patterns-at.is vs given rigid
    (none_behind p c.arguments-patterns.result.now c.args.at c.arguments-patterns.ensures (omega arith)) k
    ∙ ap (λ m. None ∷ ticked (F k) (parts (is_some e) m zs)) w.all)
    (c.in_ok-met-4.ensures ∙ ap (λ m. divided_outcome e p q (c.args.at + 1) m zs) number)

pub returns : goal.returns
returns c =
    let sig = c.args.facts.now in
    let single = c.args.positions.now.single.items in
    let vs = c.args.values.now in
    let p = c.args.pattern.now in
    let f : ℕ = top_of p in
    let e : Option Identity = identity_of sig f in
    let q = c.index-patterns-at.result in
    let qs : RawTerms = skip (c.args.at + 1) (args_of p) in
    let zs : RawTerms = terms_of c.arguments-elements.result.now in
    let given : value_of q vs ≡ None = sym c.value_at.ensures ∙ ap (option_map _) c.in_default.is in
    let rigid : is_rigid sig (is_single single) f q ≡ false = ap (λ g. is_rigid sig (is_single single) g q) (sym c.top.ensures) ∙ sym c.if-is_rigid.ensures in
    let left : terms_of c.rest_of-left.result.now ≡ cons q qs =
    c.rest_of-left.ensures ∙ ap (skip c.args.at) c.arguments-patterns.ensures ∙ at_args p q c.arguments-patterns.result.now c.args.at c.arguments-patterns.ensures (omega arith) c.index-patterns-at.is in
    let F : (Values → Trace) → List ℕ → Trace = λ k d. trace sig single q (rebuilt e f (part_of zs d)) vs (λ us. trace_bag sig single f qs (rest_of zs d) us k) in
    served sig single (Bag p c.args.at c.args.bag.now) vs c.in_ok-met-5.met (λ k. ap (λ ys. trace_bag sig single f (skip c.args.at (args_of p)) ys vs k) (sym c.arguments-elements.ensures)
    ∙ bag_way sig single p q c.arguments-patterns.result.now c.args.at zs None false false c.arguments-patterns.ensures (omega arith) c.index-patterns-at.is vs given rigid
    (none_behind p c.arguments-patterns.result.now c.args.at c.arguments-patterns.ensures (omega arith)) k
    ∙ ap (λ ys. None ∷ ticked (F k) (parts (is_some e) (times q ys) zs)) (sym left) ∙ ap (λ l. None ∷ l) (c.in_ok-met-5.ensures sig single vs k))
