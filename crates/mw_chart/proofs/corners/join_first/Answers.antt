use Rattle.std.proofs.Common.{None, Some, sym}
use Rattle.mw_chart.specs.declared.table.Next.TheVariants.{Token, Hole, Whole}
use Rattle.mw_chart.proofs.Adding.{if_ok_more}
use Rattle.mw_chart.proofs.Listings.{joins_token, joins_kind, joins_no_token, joins_no_kind}
use Rattle.mw_chart.proofs.corners.join_first.Goals as goal

pub returns-in-Some-Token-clause-by_token : goal.returns-in-Some-Token-clause-by_token
returns-in-Some-Token-clause-by_token c =
    let st = sym (rw c.in-Some-Token.field-0-is at c.in-Some-Token.ensures) in
    if_ok_more c.join.result _ _ (λ x j. joins_token c.args.steps.now c.args.production c.in-Some-Token.token c.in-Some-Token._next c.args.corners.now.by_token.items c.join.new.lists.items st j) c.join.ensures

pub returns-in-Some-Token-clause-by_kind : goal.returns-in-Some-Token-clause-by_kind
returns-in-Some-Token-clause-by_kind c =
    let st = sym (rw c.in-Some-Token.field-0-is at c.in-Some-Token.ensures) in
    if_ok_more c.join.result _ _
    (λ x j. joins_no_kind c.args.steps.now c.args.production (Some (Token c.in-Some-Token.token c.in-Some-Token._next)) c.args.corners.now.by_kind.items st (λ kind below next e. let bad : ⊥ = (cc) in bad))
    c.join.ensures

pub returns-in-Some-Hole-clause-by_token : goal.returns-in-Some-Hole-clause-by_token
returns-in-Some-Hole-clause-by_token c =
    let st = sym (rw c.in-Some-Hole.field-0-is at c.in-Some-Hole.ensures) in
    if_ok_more c.join-in-Some-Hole.result _ _
    (λ x j. joins_no_token c.args.steps.now c.args.production (Some (Hole c.in-Some-Hole.kind c.in-Some-Hole._below c.in-Some-Hole._next)) c.args.corners.now.by_token.items st (λ token next e. let bad : ⊥ = (cc) in bad))
    c.join-in-Some-Hole.ensures

pub returns-in-Some-Hole-clause-by_kind : goal.returns-in-Some-Hole-clause-by_kind
returns-in-Some-Hole-clause-by_kind c =
    let st = sym (rw c.in-Some-Hole.field-0-is at c.in-Some-Hole.ensures) in
    if_ok_more c.join-in-Some-Hole.result _ _
    (λ x j. joins_kind c.args.steps.now c.args.production c.in-Some-Hole.kind c.in-Some-Hole._below c.in-Some-Hole._next c.args.corners.now.by_kind.items c.join-in-Some-Hole.new.lists.items st j)
    c.join-in-Some-Hole.ensures

pub returns-in-Some-Whole-clause-by_token : goal.returns-in-Some-Whole-clause-by_token
returns-in-Some-Whole-clause-by_token c =
    let st = sym (rw c.in-Some-Whole.field-0-is at c.in-Some-Whole.ensures) in
    joins_no_token c.args.steps.now c.args.production (Some (Whole c.in-Some-Whole._kind c.in-Some-Whole._precedence)) c.args.corners.now.by_token.items st (λ token next e. let bad : ⊥ = (cc) in bad)

pub returns-in-Some-Whole-clause-by_kind : goal.returns-in-Some-Whole-clause-by_kind
returns-in-Some-Whole-clause-by_kind c =
    let st = sym (rw c.in-Some-Whole.field-0-is at c.in-Some-Whole.ensures) in
    joins_no_kind c.args.steps.now c.args.production (Some (Whole c.in-Some-Whole._kind c.in-Some-Whole._precedence)) c.args.corners.now.by_kind.items st (λ kind below next e. let bad : ⊥ = (cc) in bad)

pub returns-in-None-clause-by_token : goal.returns-in-None-clause-by_token
returns-in-None-clause-by_token c =
    joins_no_token c.args.steps.now c.args.production None c.args.corners.now.by_token.items (sym c.in-None.ensures) (λ token next e. let bad : ⊥ = (cc) in bad)

pub returns-in-None-clause-by_kind : goal.returns-in-None-clause-by_kind
returns-in-None-clause-by_kind c =
    joins_no_kind c.args.steps.now c.args.production None c.args.corners.now.by_kind.items (sym c.in-None.ensures) (λ kind below next e. let bad : ⊥ = (cc) in bad)
