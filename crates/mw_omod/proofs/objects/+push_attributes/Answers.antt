use Rattle.std.proofs.Common.{◌∙◌, ◌++◌, [], ◌∷◌, append_assoc, append-nil, arith, sym, ap}
use Rattle.std.proofs.lemmas.Bool.{eqb-true}
use Rattle.mw_logic.specs.Term.{apply}
use Rattle.mw_term.specs.Raws.{raw_term}
use Rattle.mw_omod.specs.Seen.{seen_attributes}
use Rattle.mw_omod.proofs.Arguments.{if_ok, as_many, no_argument, one_argument, two_arguments}
use Rattle.mw_omod.proofs.Sets.{few_arguments, empty_set, one_set, two_set, set_parts}
use Rattle.mw_omod.proofs.objects.+push_attributes.Goals as goal

pub returns-in-empty-clause-all : goal.returns-in-empty-clause-all
returns-in-empty-clause-all t c = λ e. (
  [],
  empty_set c.args.classes.now (raw_term c.args.set.now) c.in-Op.operator c.in-Op.args (ap raw_term c.in-Op.is) (sym c.as_slice.ensures ∙ no_argument c.as_slice.result.now c.in-empty.len_below) (eqb-true _ _ e),
  sym (append-nil (seen_attributes c.args.found.now.items)),
)

pub returns-in-len1-clause-all : goal.returns-in-len1-clause-all
returns-in-len1-clause-all t c = if_ok c.push_attribute.result (λ b h e.
    let (a, operator, value, is, more) = h e in (
      a ∷ [],
      one_set c.args.classes.now (raw_term c.args.set.now) c.in-Op.operator c.in-Op.args a (raw_term c.value-item.result) (ap raw_term c.in-Op.is)
          (sym c.as_slice.ensures ∙ one_argument c.as_slice.result.now c.value-item.result c.in-len1.len_at_least c.in-len1.len_below c.value-item.is) operator value is,
      more,
    )) c.push_attribute.ensures.all

pub returns-else-not-branch-clause-all : goal.returns-else-not-branch-clause-all
returns-else-not-branch-clause-all t c =
    let (xs, first, more) = c.in_ok-push_attributes-in-len2.ensures.all c.if-not-branch.false in
    if_ok c.push_attributes-in-len2.result (λ b h e.
    let (ys, second, also) = h e in (
      xs ++ ys,
      two_set c.args.classes.now (raw_term c.args.set.now) c.in-Op.operator c.in-Op.args (raw_term c.first-item.result) (raw_term c.second-item.result) xs ys (ap raw_term c.in-Op.is)
          (sym c.as_slice.ensures ∙ two_arguments c.as_slice.result.now c.first-item.result c.second-item.result c.in-len2.len_at_least c.in-len2.len_below c.first-item.is c.second-item.is)
          (c.if-operator-classes.false) first second,
      also ∙ ap (λ zs. zs ++ ys) more ∙ append_assoc (seen_attributes c.args.found.now.items) xs ys,
    )) c.push_attributes-in-len2.ensures.all

pub returns-else-not-branch-clause-not : goal.returns-else-not-branch-clause-not
returns-else-not-branch-clause-not t c = if_ok c.push_attributes-in-len2.result (λ b h e xs set.
    let parts = set_parts c.args.classes.now set c.in-Op.operator (raw_term c.first-item.result) (raw_term c.second-item.result)
    (ap raw_term c.in-Op.is ∙ ap (apply c.in-Op.operator) (sym c.as_slice.ensures ∙ two_arguments c.as_slice.result.now c.first-item.result c.second-item.result c.in-len2.len_at_least c.in-len2.len_below c.first-item.is c.second-item.is)) in
    h e parts.second parts.second_is) c.push_attributes-in-len2.ensures.not

pub returns-in_default-as_slice-clause-not : goal.returns-in_default-as_slice-clause-not
returns-in_default-as_slice-clause-not t c = λ e xs set.
    let few = few_arguments c.args.classes.now set c.in-Op.operator c.in-Op.args (ap raw_term c.in-Op.is) in
    let many = as_many c.as_slice.result.now c.in-Op.args c.as_slice.ensures in
    let more = c.in_default-as_slice.len_at_least in
    omega (arith, few, many, more)
