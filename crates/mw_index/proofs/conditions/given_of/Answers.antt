use Rattle.std.proofs.Common.{◌∙◌, List, ap, arith, map}
use Rattle.std.proofs.lemmas.List.{take_all}
use Rattle.mw_term.specs.declared.subst.Binding.{Binding}
use Rattle.mw_compile.proofs.ByPosition.{bound_in}
use Rattle.mw_index.proofs.OneByOne.{named_more}
use Rattle.mw_index.proofs.conditions.given_of.Goals as goal

pub loop-i-preserved : goal.loop-i-preserved
loop-i-preserved c = named_more c.args.variables.now c.loop-i.i c.variable.result.now c.in_ok-binding.binding c.loop-i.pairs.items c.push.new.self.items c.variable.ensures c.in_ok-binding.ensures c.in_ok-push.ensures.items c.loop-i.invariant

pub returns : goal.returns
returns c =
    ap (λ (bs : List Binding). map (λ b. b.0) (map (λ (b : Binding). (b.variable, b.value)) bs)) c.of.ensures ∙ bound_in c.loop-i.pairs.items ∙ c.loop-i.invariant
    ∙ take_all c.loop-i.i c.args.variables.now (let l = c.loop-i-test.false in let e = c.len-i-end.ensures in omega (arith, l, e))
