use Rattle.std.specs.Prelude.{◌≡◌, ◌-◌, ◌++◌, length, take, option_to_list}
use Rattle.std.proofs.Common.{ap, sym, arith, append-nil, ◌∙◌}
use Rattle.std.proofs.Math.ListN.{set}
use Rattle.std.specs.Vec.{with_item}
use Rattle.mw_search.proofs.Ends.{set_last}
use Rattle.mw_match.specs.declared.levels.Level.{Level}
use Rattle.mw_match.specs.declared.levels.Levels.{Levels}
use Rattle.mw_match.proofs.Shifting.{shifted}
use Rattle.mw_match.proofs.levels.Levels.shift.Goals as goal

pub returns-in-Some-clause-ok : goal.returns-in-Some-clause-ok
returns-in-Some-clause-ok c =
    let s : Levels = c.args.self.now in
    let r = c.requires in
    let l : Level = c.in-Some.level in
    let new : Levels = record s { stack = with_item s.stack (c.len-depth.result - 1) l } in
    let at : c.len-depth.result - 1 ≡ length s.stack.items - 1 = omega arith in
    shifted s r.kept r.none r.ended r.some c.in_ok-level.field-0 c.in_ok-level.ensures.next new
    (ap (λ n. set s.stack.items n l) at ∙ set_last s.stack.items l r.some ∙ ap (λ o. take (length s.stack.items - 1) s.stack.items ++ option_to_list o) (sym c.in-Some.is))

pub returns-in-None-clause-ok : goal.returns-in-None-clause-ok
returns-in-None-clause-ok c =
    let s : Levels = c.args.self.now in
    let r = c.requires in
    let new : Levels = record s { stack = c.pop.new.self } in
    let popped : c.pop.new.self.items ≡ take (length s.stack.items - 1) s.stack.items = c.pop.ensures.rest ∙ ap (λ n. take n s.stack.items) (omega arith) in
    shifted s r.kept r.none r.ended r.some c.in_ok-level.field-0 c.in_ok-level.ensures.next new
    (popped ∙ sym (append-nil (take (length s.stack.items - 1) s.stack.items)) ∙ ap (λ o. take (length s.stack.items - 1) s.stack.items ++ option_to_list o) (sym c.in-None.is))
