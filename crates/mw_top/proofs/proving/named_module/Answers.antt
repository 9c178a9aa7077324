use Rattle.std.proofs.Common.{◌∙◌, sym}
use Rattle.std.proofs.lemmas.Slice.Eq.{bytes_eq-Decides}
use Rattle.mw_top.proofs.Judging.{has_name}
use Rattle.mw_top.proofs.proving.named_module.Goals as goal

pub returns-then-eq-2 : goal.returns-then-eq-2
returns-then-eq-2 c =
    has_name c.args.tokens.now c.first-item.result c.second-item.result c.name-item.result c.in-len4-up.len_at_least c.first-item.is c.second-item.is c.name-item.is
    (sym c.as_slice.ensures ∙ (bytes_eq-Decides c.as_slice.result.now c.as_bytes.result.now).0 (sym c.eq.ensures ∙ c.if-eq.true) ∙ c.as_bytes.ensures.value)
    (sym c.as_slice-then-eq.ensures ∙ (bytes_eq-Decides c.as_slice-then-eq.result.now c.as_bytes-then-eq.result.now).0 (sym c.eq-then-eq.ensures ∙ c.if-eq-2.true) ∙ c.as_bytes-then-eq.ensures.value)
