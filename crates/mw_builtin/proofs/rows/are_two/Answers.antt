use Rattle.std.proofs.Common.{arith}
use Rattle.std.proofs.lemmas.Bool.{both_ways}
use Rattle.mw_builtin.proofs.Naming.{is_pair, first_member, second_member, both_kinds, not_two}
use Rattle.mw_builtin.proofs.rows.are_two.Goals as goal

pub is_of-requires : goal.is_of-requires
is_of-requires c = c.requires _ (first_member c.args.sorts.now c.in-len2.len_at_least)

pub is_of-requires-then-is_of : goal.is_of-requires-then-is_of
is_of-requires-then-is_of c = c.requires _ (second_member c.args.sorts.now c.in-len2.len_at_least)

pub returns-then-is_of : goal.returns-then-is_of
returns-then-is_of c sig name ok e k =
    let both = both_kinds sig name c.args.sorts.now _ _ (is_pair c.args.sorts.now c.in-len2.len_at_least c.in-len2.len_below) in
    let p = c.is_of.ensures sig name ok e k in
    let q = c.is_of-then-is_of.ensures sig name ok e k in
    (λ t. both.1 (p.0 c.if-is_of.true, q.0 t), λ h. q.1 (both.0 h).1)

pub returns-else-is_of : goal.returns-else-is_of
returns-else-is_of c sig name ok e k =
    let both = both_kinds sig name c.args.sorts.now _ _ (is_pair c.args.sorts.now c.in-len2.len_at_least c.in-len2.len_below) in
    let p = c.is_of.ensures sig name ok e k in
    (λ t. absurd (both_ways _ c.if-is_of.false t), λ h. p.1 (both.0 h).0)

pub returns-in_default : goal.returns-in_default
returns-in_default c sig name ok e k = (λ t. cc, λ h. absurd (not_two sig name c.args.sorts.now (λ l. let m = c.in_default.len_below in omega (arith, l, m)) h))

pub returns-in_default-2 : goal.returns-in_default-2
returns-in_default-2 c sig name ok e k = (λ t. cc, λ h. absurd (not_two sig name c.args.sorts.now (λ l. let m = c.in_default.len_at_least in omega (arith, l, m)) h))
