use Rattle.std.proofs.Common.{◌≡◌, ◌∙◌, [], ◌∷◌, get_or, refl, ap, sym, subst, inl}
use Rattle.std.specs.Prelude.{Bool, true, false, not}
use Rattle.mw_logic.specs.Signature.{Operator, SameKind, Member}
use Rattle.mw_sorts.proofs.Numbering.{same_numbers}
use Rattle.mw_sorts.proofs.Succeeding.{only-one, its-argument}
use Rattle.mw_sorts.proofs.numbers.is_successor.Goals as goal

not-false : (b : Bool) → not b ≡ false → b ≡ true
not-false true e = refl
not-false false e = cc

pub are_of_one_kind-requires-2-clause-second_is_there : goal.are_of_one_kind-requires-2-clause-second_is_there
are_of_one_kind-requires-2-clause-second_is_there c =
    let read = c.as_slice.result.now in
    let K = get_or read 0 0 in
    let e : c.args.operator.now.args ≡ K ∷ [] = sym (c.as_slice.ensures ∙ ap (λ (o : Operator). o.args) c.operator.view_is) ∙ only-one read 0 c.in-len1.len_at_least c.in-len1.len_below in
    c.requires.operator.args K (subst (Member K) (sym e) (inl refl))

pub returns : goal.returns
returns c =
    let read = c.as_slice.result.now in
    let K = get_or read 0 0 in
    let e : c.args.operator.now.args ≡ K ∷ [] = sym (c.as_slice.ensures ∙ ap (λ (o : Operator). o.args) c.operator.view_is) ∙ only-one read 0 c.in-len1.len_at_least c.in-len1.len_below in
    let s = same_numbers c.as_slice-2.result.now c.as_slice-3.result.now (not-false _ (sym c.ne.ensures ∙ c.if-ne.false)) in
    let spelled = sym (c.as_slice-2.ensures ∙ ap (λ (o : Operator). o.spelling) c.operator.view_is) ∙ s ∙ c.as_slice-3.ensures in
    let kind : SameKind c.args.sorting.now.signature c.args.nat c.operator.inside.result = c.are_of_one_kind.ensures.0 c.if-not-are_of_one_kind.false in
    let kind2 = subst (SameKind c.args.sorting.now.signature c.args.nat) (ap (λ (o : Operator). o.result) c.operator.view_is) kind in (
      λ h. record { spelled = spelled; of_kind = kind2; argument = K; takes_one = e; of_argument = c.are_of_one_kind-2.ensures.0 h },
      λ h. c.are_of_one_kind-2.ensures.1 (its-argument c.args.sorting.now.signature c.args.nat c.args.operator.now K e h),
    )
