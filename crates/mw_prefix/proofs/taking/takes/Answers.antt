use Rattle.std.proofs.Common.{◌≡◌, ◌∙◌, length, true, false, ap, sym, subst}
use Rattle.std.specs.Prelude.{◌&&◌, nat_le}
use Rattle.std.proofs.lemmas.Bool.{le-leb, lt-leb}
use Rattle.mw_logic.specs.Signature.{Operator, Member}
use Rattle.mw_logic.specs.Preregular.{IsSortOf}
use Rattle.mw_term.specs.Raws.{raw_terms}
use Rattle.mw_prefix.specs.Taking.{are_of_kind, operator_takes}
use Rattle.mw_prefix.proofs.Listed.{associative_takes}
use Rattle.mw_prefix.proofs.taking.takes.Goals as goal

pub are_of_kind-requires-clause-kind : goal.are_of_kind-requires-clause-kind
are_of_kind-requires-clause-kind c =
    subst (IsSortOf c.args.facts.now) (ap (λ (p : Operator). p.result) (sym c.found.view_is)) (c.requires.sorts.results c.args.operator c.in-Some.found.now (sym c.in-Some.ensures))

pub are_of_kinds-requires-clause-wanted : goal.are_of_kinds-requires-clause-wanted
are_of_kinds-requires-clause-wanted c K m =
    let args : c.as_slice.result.now ≡ c.in-Some.found.now.args = c.as_slice.ensures ∙ ap (λ (p : Operator). p.args) c.found.view_is in
    c.requires.sorts.args c.args.operator c.in-Some.found.now (sym c.in-Some.ensures) K (subst (Member K) args m)

pub returns-then-args-ge2 : goal.returns-then-args-ge2
returns-then-args-ge2 c =
    let o : Operator = c.in-Some.found.now in
    let assoc : o.assoc ≡ true = ap (λ (p : Operator). p.assoc) (sym c.found.view_is) ∙ c.if-found.true in
    c.are_of_kind.ensures ∙ ap (λ K. are_of_kind c.args.facts.now K (raw_terms c.args.args.now)) (ap (λ (p : Operator). p.result) c.found.view_is)
    ∙ ap (λ b. b && are_of_kind c.args.facts.now o.result (raw_terms c.args.args.now)) (sym (le-leb 2 (length c.args.args.now) c.if-args-ge2.true))
    ∙ sym (associative_takes c.args.facts.now o c.args.args.now assoc) ∙ ap (λ p. operator_takes c.args.facts.now p (raw_terms c.args.args.now)) c.in-Some.ensures

pub returns-else-args-ge2 : goal.returns-else-args-ge2
returns-else-args-ge2 c =
    let o : Operator = c.in-Some.found.now in
    let assoc : o.assoc ≡ true = ap (λ (p : Operator). p.assoc) (sym c.found.view_is) ∙ c.if-found.true in
    let few : nat_le 2 (length c.args.args.now) ≡ false = lt-leb 2 (length c.args.args.now) c.if-args-ge2.false in
    few ∙ ap (λ b. b && are_of_kind c.args.facts.now o.result (raw_terms c.args.args.now)) (sym few)
    ∙ sym (associative_takes c.args.facts.now o c.args.args.now assoc) ∙ ap (λ p. operator_takes c.args.facts.now p (raw_terms c.args.args.now)) c.in-Some.ensures
