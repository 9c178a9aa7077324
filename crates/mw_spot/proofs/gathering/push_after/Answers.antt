use Rattle.std.proofs.Common.{◌++◌, ◌-◌, ◌∙◌, take, drop, length, ap, sym, arith}
use Rattle.std.proofs.Math.Seq.{take-length}
use Rattle.std.proofs.lemmas.List.{length-drop, length-take-le}
use Rattle.mw_spot.proofs.Gathered.{after_more, no_more}
use Rattle.mw_spot.proofs.gathering.push_after.Goals as goal

pub loop-rest-preserved : goal.loop-rest-preserved
loop-rest-preserved c =
    let l = c.level.inside in
    let rest = c.loop-rest.rest.now in
    let old = c.loop-rest.args.items in
    let xs = l.others.items in
    let behind = ap (λ n. take n (drop l.at xs)) (sym (length-drop l.at xs)) ∙ take-length (drop l.at xs) in
    let short = length-take-le (length rest - 1) rest (omega arith) in
    let within = c.loop-rest.invariant.within in
    record {
      to_come = after_more rest c.level-item.result old c.push_copies.new.args.items (drop l.at xs) c.in-len1-up.len_at_least c.level-item.is
          (c.in_ok-push_copies.ensures ∙ ap (λ xs. old ++ take (length xs - l.at) (drop l.at xs)) c.deref.ensures.value ∙ ap (λ ys. old ++ ys) behind) (ap (λ o. o.after) c.level.view_is) ∙ c.loop-rest.invariant.to_come;
      within = omega (arith, short, within);
    }

pub returns : goal.returns
returns c = no_more c.loop-rest.rest.now c.loop-rest.args.items _ c.in_default.len_below c.loop-rest.invariant.to_come
