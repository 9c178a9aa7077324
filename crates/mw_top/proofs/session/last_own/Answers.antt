use Rattle.std.proofs.Common.{◌∙◌, ap, sym}
use Rattle.mw_top.specs.Commands.{is_kept}
use Rattle.mw_top.proofs.Sessions.{own_last, kept_front, kept_last}
use Rattle.mw_top.proofs.session.last_own.Goals as goal

pub returns-then-not-is_kept : goal.returns-then-not-is_kept
returns-then-not-is_kept c =
    own_last c.args.modules.now c.loop-rest.rest.now c.module-item.result c.loop-rest.invariant.front.0 c.loop-rest.invariant.front.1 c.loop-rest.invariant.last c.in-len1-up.len_at_least c.module-item.is
    (ap is_kept (sym (c.as_slice.ensures ∙ c.name.ensures)) ∙ sym c.is_kept.ensures ∙ c.if-not-is_kept.true)

pub loop-rest-preserved : goal.loop-rest-preserved
loop-rest-preserved c =
    let all = c.args.modules.now in
    let rest = c.loop-rest.rest.now in
    let a = c.module-item.result in
    let more = c.loop-rest.invariant.front.0 in
    let front = c.loop-rest.invariant.front.1 in
    record {
      front = kept_front all rest a more front c.loop-rest.invariant.last c.in-len1-up.len_at_least c.module-item.is;
      last = kept_last all rest a more front c.loop-rest.invariant.last c.in-len1-up.len_at_least c.module-item.is
          (ap is_kept (sym (c.as_slice.ensures ∙ c.name.ensures)) ∙ sym c.is_kept.ensures ∙ c.if-not-is_kept.false);
    }
