use Rattle.std.proofs.Common.{◌≡◌, ◌∙◌, ◌+◌, ◌≤◌, [], ◌∷◌, drop, get_or, arith, ap, sym, Option}
use Rattle.std.specs.Prelude.{◌||◌, option_map}
use Rattle.std.proofs.Math.Bool.{or-false}
use Rattle.mw_logic.specs.Term.{RawTerms, nil, cons, join}
use Rattle.mw_logic.specs.Signature.{Signature, Identity}
use Rattle.mw_logic.specs.NormalForm.{elements, flattened, rebuilt, arranged, applied_in, has_largest}
use Rattle.mw_logic.specs.TermOrder.{sorted_terms}
use Rattle.mw_logic.specs.Substitution.{Substitution}
use Rattle.mw_logic.specs.Terms.{terms_of}
use Rattle.mw_logic.proofs.SortLaws.{join-nil, join_assoc}
use Rattle.mw_logic.proofs.Pushed.{terms_of-append, join_pushed}
use Rattle.mw_term.specs.Raws.{raw_term, raw_terms}
use Rattle.mw_term.specs.Signatures.{identity_of as identity_named}
use Rattle.mw_term.proofs.RawLists.{raws_at, raws_past}
use Rattle.mw_canon.specs.Made.{made, all_made, all_entered, seen_terms}
use Rattle.mw_canon.proofs.Largest.{flag_more, plain_largest, some_largest-sorted, some_largest-arranged, rebuilt_largest, elements_largest}
use Rattle.mw_canon.proofs.Making.{made_value, value_small, made_apply, joined_made}
use Rattle.mw_canon.proofs.Waiting.{weight, weights, all_entered_weight, raw_weight, seen_weight, seen_at, seen_past}
use Rattle.mw_canon.proofs.building.+built.Goals as goal

pub all_built-built-requires : goal.all_built-built-requires
all_built-built-requires t c =
    let h : weight (raw_term (get_or c.args.args.now c.loop-arg.arg-index c.arg-item.result)) ≤ weights (raw_terms c.args.args.now) = raw_weight _ _ _ c.loop-arg-test.true in
    let e : weight (raw_term c.arg-item.result) ≡ weight (raw_term (get_or c.args.args.now c.loop-arg.arg-index c.arg-item.result)) = ap (λ r. weight (raw_term r)) c.arg-item.is in
    (omega (arith, h, e, c.decreases), c.requires)

pub all_built-loop-arg-preserved : goal.all_built-loop-arg-preserved
all_built-loop-arg-preserved t c =
    let sig : Signature = c.args.facts.now in
    let s : Substitution = c.args.values.now in
    let i = c.loop-arg.arg-index in
    let front : all_made sig s (raw_terms (drop i c.args.args.now)) ≡ cons (made sig s (raw_term c.arg-item.result)) (all_made sig s (raw_terms (drop (i + 1) c.args.args.now))) =
    ap (all_made sig s) (raws_at c.args.args.now i c.arg-item.result c.loop-arg-test.true c.arg-item.is) in
    record {
      told = rw (c.in_ok-push.ensures.items, join_pushed, c.in_ok-built.ensures.is) (ap (join (terms_of c.loop-arg.made.items)) (sym front) ∙ c.loop-arg.invariant.told);
      large = flag_more sig c.args.large.now c.loop-arg.large c.built.new.large (has_largest sig c.in_ok-built.field-0) (terms_of c.loop-arg.made.items) (terms_of c.push.new.self.items) (cons c.in_ok-built.field-0 nil) c.in_ok-built.ensures.large c.loop-arg.invariant.large
          (ap terms_of c.in_ok-push.ensures.items ∙ terms_of-append c.loop-arg.made.items (c.in_ok-built.field-0 ∷ [])) (or-false (has_largest sig c.in_ok-built.field-0));
    }

pub all_built-returns-clause-is : goal.all_built-returns-clause-is
all_built-returns-clause-is t c =
    sym (join-nil (terms_of c.loop-arg.made.items)) ∙ ap (λ ts. join (terms_of c.loop-arg.made.items) (all_made c.args.facts.now c.args.values.now ts)) (sym (raws_past c.args.args.now c.loop-arg.arg-index c.loop-arg-test.false)) ∙ c.loop-arg.invariant.told

pub applied-gathered-requires : goal.applied-gathered-requires
applied-gathered-requires t c =
    let h : weights (all_entered c.args.operator (raw_terms c.args.args.now)) ≤ weights (raw_terms c.args.args.now) = all_entered_weight c.args.operator (raw_terms c.args.args.now) in
    let e : weights (seen_terms c.as_slice-terms.result.now) ≡ weights (all_entered c.args.operator (raw_terms c.args.args.now)) =
    ap (λ rs. weights (seen_terms rs)) c.as_slice-terms.ensures.value ∙ ap weights c.in_ok-terms-in-Associative.ensures in
    (omega (arith, h, e, c.decreases), (c.requires, c.in-Associative.ensures.0))

pub applied-returns-in_ok-term-in-Commutative-clause-large : goal.applied-returns-in_ok-term-in-Commutative-clause-large
applied-returns-in_ok-term-in-Commutative-clause-large t c =
    let sig : Signature = c.args.facts.now in
    c.in_ok-made-in-Commutative.ensures.large
    ∙ ap (λ b. c.args.large.now || b) (sym (ap (has_largest sig) c.in_ok-term-in-Commutative.ensures ∙ plain_largest sig c.args.operator (sorted_terms (terms_of c.in_ok-made-in-Commutative.made.items)) c.in-Commutative.ensures.2 ∙ some_largest-sorted sig (terms_of c.in_ok-made-in-Commutative.made.items)))

pub applied-returns-in_ok-term-in-Associative-clause-is : goal.applied-returns-in_ok-term-in-Associative-clause-is
applied-returns-in_ok-term-in-Associative-clause-is t c =
    let sig : Signature = c.args.facts.now in
    let e : Option Identity = option_map identity_named c.in-Associative.identity in
    let found : terms_of c.in_ok-found-in-Associative.found.items ≡ flattened e c.args.operator (all_made sig c.args.values.now (all_entered c.args.operator (raw_terms c.args.args.now))) =
    c.in_ok-found-in-Associative.ensures.is ∙ ap (λ rs. flattened e c.args.operator (all_made sig c.args.values.now (seen_terms rs))) c.as_slice-terms.ensures.value
    ∙ ap (λ ts. flattened e c.args.operator (all_made sig c.args.values.now ts)) c.in_ok-terms-in-Associative.ensures in
    c.in_ok-term-in-Associative.ensures ∙ ap (λ ts. rebuilt e c.args.operator (arranged c.in-Associative.comm ts)) found
    ∙ joined_made sig c.shows.ensures c.args.values.now c.args.operator c.in-Associative.ensures.0 c.in-Associative.comm e (raw_terms c.args.args.now) c.in-Associative.ensures.1 c.in-Associative.ensures.2

pub applied-returns-in_ok-term-in-Associative-clause-large : goal.applied-returns-in_ok-term-in-Associative-clause-large
applied-returns-in_ok-term-in-Associative-clause-large t c =
    let sig : Signature = c.args.facts.now in
    c.in_ok-found-in-Associative.ensures.large
    ∙ ap (λ b. c.args.large.now || b)
    (sym (ap (has_largest sig) c.in_ok-term-in-Associative.ensures ∙ rebuilt_largest sig c.shows.ensures c.args.operator c.in-Associative.ensures.0 (option_map identity_named c.in-Associative.identity) (arranged c.in-Associative.comm (terms_of c.in_ok-found-in-Associative.found.items)) ∙ some_largest-arranged sig c.in-Associative.comm (terms_of c.in_ok-found-in-Associative.found.items)))

pub built-returns-in_ok-term-in-Var-clause-is : goal.built-returns-in_ok-term-in-Var-clause-is
built-returns-in_ok-term-in-Var-clause-is t c =
    c.in_ok-term-in-Var.ensures ∙ sym (made_value c.args.facts.now c.args.values.now _ c.requires) ∙ ap (λ r. made c.args.facts.now c.args.values.now (raw_term r)) (sym c.in-Var.is)

pub built-returns-in_ok-term-in-Var-clause-large : goal.built-returns-in_ok-term-in-Var-clause-large
built-returns-in_ok-term-in-Var-clause-large t c =
    sym (ap (λ b. c.args.large.now || b) (ap (has_largest c.args.facts.now) c.in_ok-term-in-Var.ensures ∙ value_small c.args.facts.now c.shows.ensures c.args.values.now _ c.requires) ∙ or-false c.args.large.now)

pub built-returns-in_ok-term-in-Op-clause-is : goal.built-returns-in_ok-term-in-Op-clause-is
built-returns-in_ok-term-in-Op-clause-is t c =
    let sig : Signature = c.args.facts.now in
    c.in_ok-term-in-Op.ensures.is ∙ ap (λ ts. applied_in sig c.in-Op.operator (all_made sig c.args.values.now ts)) c.as_slice.ensures ∙ sym (made_apply sig c.shows.ensures c.args.values.now c.in-Op.operator c.in-Op.args)
    ∙ ap (λ r. made sig c.args.values.now (raw_term r)) (sym c.in-Op.is)

pub gathered-built-requires : goal.gathered-built-requires
gathered-built-requires t c =
    let h : weight (raw_term (get_or c.args.terms.now c.loop-raw.raw-index c.raw-item.result).now) ≤ weights (seen_terms c.args.terms.now) = seen_weight _ _ _ c.loop-raw-test.true in
    let e : weight (raw_term c.raw-item.result.now) ≡ weight (raw_term (get_or c.args.terms.now c.loop-raw.raw-index c.raw-item.result).now) = ap (λ r. weight (raw_term r.now)) c.raw-item.is in
    (omega (arith, h, e, c.decreases), c.requires.values)

pub gathered-loop-raw-preserved : goal.gathered-loop-raw-preserved
gathered-loop-raw-preserved t c =
    let sig : Signature = c.args.facts.now in
    let s : Substitution = c.args.values.now in
    let e : Option Identity = option_map identity_named c.args.identity in
    let i = c.loop-raw.raw-index in
    let f = c.args.operator in
    let rest : RawTerms = flattened e f (all_made sig s (seen_terms (drop (i + 1) c.args.terms.now))) in
    let front : flattened e f (all_made sig s (seen_terms (drop i c.args.terms.now))) ≡ join (elements e f (made sig s (raw_term c.raw-item.result.now))) rest =
    ap (λ ts. flattened e f (all_made sig s ts)) (seen_at c.args.terms.now i c.raw-item.result c.loop-raw-test.true c.raw-item.is) in
    record {
      told = ap (λ ts. join ts rest) c.in_ok-push_elements.ensures ∙ join_assoc (terms_of c.loop-raw.found.items) (elements e f c.in_ok-term.term) rest
          ∙ ap (λ u. join (terms_of c.loop-raw.found.items) (join (elements e f u) rest)) c.in_ok-term.ensures.is ∙ ap (join (terms_of c.loop-raw.found.items)) (sym front) ∙ c.loop-raw.invariant.told;
      large = flag_more sig c.args.large.now c.loop-raw.large c.built.new.large (has_largest sig c.in_ok-term.term) (terms_of c.loop-raw.found.items) (terms_of c.push_elements.new.found.items) (elements e f c.in_ok-term.term) c.in_ok-term.ensures.large c.loop-raw.invariant.large
          c.in_ok-push_elements.ensures (elements_largest sig c.shows.ensures f c.requires.associative e c.in_ok-term.term);
    }

pub gathered-returns-clause-is : goal.gathered-returns-clause-is
gathered-returns-clause-is t c =
    sym (join-nil (terms_of c.loop-raw.found.items))
    ∙ ap (λ ts. join (terms_of c.loop-raw.found.items) (flattened (option_map identity_named c.args.identity) c.args.operator (all_made c.args.facts.now c.args.values.now ts))) (sym (seen_past c.args.terms.now c.loop-raw.raw-index c.loop-raw-test.false))
    ∙ c.loop-raw.invariant.told
