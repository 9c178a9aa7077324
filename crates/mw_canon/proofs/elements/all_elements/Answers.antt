use Rattle.std.proofs.Common.{◌≡◌, ◌∙◌, ◌∷◌, [], length, ap, sym, arith}
use Rattle.std.specs.Prelude.{option_map}
use Rattle.std.specs.Vec.Iter.{into_iter_items}
use Rattle.mw_logic.specs.Term.{join}
use Rattle.mw_logic.specs.Terms.{terms_of}
use Rattle.mw_logic.specs.NormalForm.{flattened}
use Rattle.mw_logic.proofs.SortLaws.{join-nil, join_assoc}
use Rattle.mw_term.specs.Signatures.{identity_of as identity_named}
use Rattle.std.proofs.lemmas.List.{nil_from_length}
use Rattle.mw_canon.proofs.elements.all_elements.Goals as goal

pub loop-term-preserved : goal.loop-term-preserved
loop-term-preserved c =
    let steps : into_iter_items c.loop-term.term-iterator ≡ c.in-Some.term ∷ into_iter_items c.next.new.self = c.in-Some.ensures.steps.0 in
    let was = c.loop-term.invariant.size in
    let gone = c.in-Some.ensures.steps.1 in
    let short = ap length steps in
    record {
      told = ap (λ ts. join ts (flattened (option_map identity_named c.args.identity) c.args.operator (terms_of (into_iter_items c.next.new.self)))) c.in_ok-push_elements.ensures ∙ join_assoc (terms_of c.loop-term.found.items) _ _
          ∙ ap (λ ts. join (terms_of c.loop-term.found.items) (flattened (option_map identity_named c.args.identity) c.args.operator (terms_of ts))) (sym steps) ∙ c.loop-term.invariant.told;
      size = omega arith;
    }

pub returns : goal.returns
returns c =
    let empty : into_iter_items c.loop-term.term-iterator ≡ [] = nil_from_length _ (sym c.loop-term.invariant.size ∙ c.in-None.ensures.steps.0) in
    sym (join-nil (terms_of c.loop-term.found.items)) ∙ ap (λ ts. join (terms_of c.loop-term.found.items) (flattened (option_map identity_named c.args.identity) c.args.operator (terms_of ts))) (sym empty) ∙ c.loop-term.invariant.told
