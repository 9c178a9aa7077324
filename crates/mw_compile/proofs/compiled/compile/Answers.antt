use Rattle.std.proofs.Common.{◌≡◌, ◌∙◌, subst}
use Rattle.mw_solving.specs.Reordered.{Reordered}
use Rattle.mw_solving.specs.Values.{AreSure}
use Rattle.mw_compile.proofs.compiled.compile.Goals as goal

pub returns : goal.returns
returns c =
    let same : c.put_all.new.self ≡ c.args.context.now.signature = c.in_ok-put_all.ensures ∙ c.none-singles.ensures in
    record {
      q = c.in_ok-pattern.pattern;
      reordered = subst (λ sig. Reordered sig c.args.pattern.now c.in_ok-pattern.pattern) same c.in_ok-pattern.ensures;
      variables = c.in_ok-compiled.ensures.numbered.variables;
      pattern = c.in_ok-compiled.ensures.numbered.pattern;
      sorts = c.in_ok-compiled.ensures.numbered.sorts;
      bounded = c.in_ok-compiled.ensures.bounded;
      sure = subst (λ sig. AreSure sig c.in_ok-compiled.compiled.positions.single.items c.in_ok-compiled.compiled.positions.sorts) same c.in_ok-compiled.ensures.sure;
    }
