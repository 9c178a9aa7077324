use Rattle.std.proofs.Common.{◌/◌, length, take, drop, ◌-◌, refl}
use Rattle.std.proofs.lemmas.List.{take_rest}
use Rattle.mw_check.proofs.RowTwice.{paired_tells, halves_tell}
use Rattle.mw_check.proofs.rows.are_twice.Goals as goal

pub returns-then-comm : goal.returns-then-comm
returns-then-comm c = paired_tells c.args.comm c.args.args.now c.are_paired.result c.if-comm.true c.requires c.are_paired.ensures

pub returns-else-comm : goal.returns-else-comm
returns-else-comm c =
    let xs = c.args.args.now in
    let h = length xs / 2 in
    halves_tell c.args.comm xs (take h xs) (take (length xs - h) (drop h xs)) c.are_same.result c.if-comm.false refl (take_rest xs h) c.are_same.ensures
