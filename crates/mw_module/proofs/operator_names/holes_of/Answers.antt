use Rattle.std.proofs.Common.{◌∙◌, ◌+◌, ◌-◌, ◌^◌, ℕ, List, min, sym, ap, arith}
use Rattle.mw_text.specs.Names.{items_of, count_holes}
use Rattle.mw_module.proofs.ItemByItem.{holes_more, holes_end}
use Rattle.mw_module.proofs.operator_names.holes_of.Goals as goal

pub loop-rest-preserved : goal.loop-rest-preserved
loop-rest-preserved c = record {
  count = holes_more c.loop-rest.holes _ _ _ c.in-len1-up.len_at_least c.token-item.is
      (c.saturating_add-holes.ensures ∙ ap (λ (n : ℕ). min (c.loop-rest.holes + n) (2 ^ 64 - 1)) (c.holes.ensures ∙ ap (λ (bytes : List ℕ). count_holes (items_of bytes)) c.as_slice.ensures))
      ∙ c.loop-rest.invariant.count;
  fits = omega arith;
}

pub returns : goal.returns
returns c = sym (holes_end _ _ c.in_default.len_below c.loop-rest.invariant.fits) ∙ c.loop-rest.invariant.count
