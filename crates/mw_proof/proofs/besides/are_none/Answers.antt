use Rattle.std.proofs.Common.{◌∙◌, sym, arith}
use Rattle.mw_logic.specs.Terms.{terms_of}
use Rattle.mw_proof.proofs.Between.{nothing_behind, something_there}
use Rattle.mw_proof.proofs.besides.are_none.Goals as goal

pub returns-in-empty : goal.returns-in-empty
returns-in-empty c = let low = c.in-empty.len_below in c.is_empty.ensures ∙ nothing_behind c.args.before.now c.args.behind.now (omega (arith, low))

pub returns-in_default : goal.returns-in_default
returns-in_default c = let high = c.in_default.len_at_least in sym (something_there c.args.before.now (terms_of c.args.behind.now) (λ e. omega (arith, high, e)))
