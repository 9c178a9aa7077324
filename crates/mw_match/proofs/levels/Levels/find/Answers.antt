use Rattle.std.specs.Prelude.{◌-◌, refl}
use Rattle.std.proofs.Common.{arith}
use Rattle.std.specs.Vec.{with_item}
use Rattle.mw_match.specs.declared.levels.Level.{Level}
use Rattle.mw_match.specs.declared.levels.Levels.{Levels}
use Rattle.mw_match.proofs.Finding.{IsFound, found_last}
use Rattle.mw_match.proofs.levels.Levels.find.Goals as goal

pub returns-in_err-find-clause-passes : goal.returns-in_err-find-clause-passes
returns-in_err-find-clause-passes c =
    let s : Levels = c.args.self.now in
    let l : Level = c.index_mut.result.now in
    let e = c.find.ensures in
    let new : Levels = record s { stack = with_item s.stack (c.len-depth.result - 1) (record l { search = c.find.new.search }); found = c.find.new.found } in
    let r : IsFound s new c.find.new.search =
    found_last s c.requires.kept c.requires.none (c.len-depth.result - 1) l (omega arith) (omega arith) c.index_mut.ensures.value c.find.new.search c.find.new.found e.skips e.sorted e.same new refl in
    r.passes

pub returns-in_err-find-clause-steps : goal.returns-in_err-find-clause-steps
returns-in_err-find-clause-steps c =
    let s : Levels = c.args.self.now in
    let l : Level = c.index_mut.result.now in
    let e = c.find.ensures in
    let new : Levels = record s { stack = with_item s.stack (c.len-depth.result - 1) (record l { search = c.find.new.search }); found = c.find.new.found } in
    let r : IsFound s new c.find.new.search =
    found_last s c.requires.kept c.requires.none (c.len-depth.result - 1) l (omega arith) (omega arith) c.index_mut.ensures.value c.find.new.search c.find.new.found e.skips e.sorted e.same new refl in
    r.steps

pub returns-in_err-find-clause-kept : goal.returns-in_err-find-clause-kept
returns-in_err-find-clause-kept c =
    let s : Levels = c.args.self.now in
    let l : Level = c.index_mut.result.now in
    let e = c.find.ensures in
    let new : Levels = record s { stack = with_item s.stack (c.len-depth.result - 1) (record l { search = c.find.new.search }); found = c.find.new.found } in
    let r : IsFound s new c.find.new.search =
    found_last s c.requires.kept c.requires.none (c.len-depth.result - 1) l (omega arith) (omega arith) c.index_mut.ensures.value c.find.new.search c.find.new.found e.skips e.sorted e.same new refl in
    r.kept

pub returns-clause-passes : goal.returns-clause-passes
returns-clause-passes c =
    let s : Levels = c.args.self.now in
    let l : Level = c.index_mut.result.now in
    let e = c.find.ensures in
    let new : Levels = record s { stack = with_item s.stack (c.len-depth.result - 1) (record l { search = c.find.new.search }); found = c.find.new.found } in
    let r : IsFound s new c.find.new.search =
    found_last s c.requires.kept c.requires.none (c.len-depth.result - 1) l (omega arith) (omega arith) c.index_mut.ensures.value c.find.new.search c.find.new.found e.skips e.sorted e.same new refl in
    r.passes

pub returns-clause-steps : goal.returns-clause-steps
returns-clause-steps c =
    let s : Levels = c.args.self.now in
    let l : Level = c.index_mut.result.now in
    let e = c.find.ensures in
    let new : Levels = record s { stack = with_item s.stack (c.len-depth.result - 1) (record l { search = c.find.new.search }); found = c.find.new.found } in
    let r : IsFound s new c.find.new.search =
    found_last s c.requires.kept c.requires.none (c.len-depth.result - 1) l (omega arith) (omega arith) c.index_mut.ensures.value c.find.new.search c.find.new.found e.skips e.sorted e.same new refl in
    r.steps

pub returns-clause-ended : goal.returns-clause-ended
returns-clause-ended c =
    let s : Levels = c.args.self.now in
    let l : Level = c.index_mut.result.now in
    let e = c.find.ensures in
    let new : Levels = record s { stack = with_item s.stack (c.len-depth.result - 1) (record l { search = c.find.new.search }); found = c.find.new.found } in
    let r : IsFound s new c.find.new.search =
    found_last s c.requires.kept c.requires.none (c.len-depth.result - 1) l (omega arith) (omega arith) c.index_mut.ensures.value c.find.new.search c.find.new.found e.skips e.sorted e.same new refl in
    r.ended c.in_ok-find.ensures.none

pub returns-clause-kept : goal.returns-clause-kept
returns-clause-kept c =
    let s : Levels = c.args.self.now in
    let l : Level = c.index_mut.result.now in
    let e = c.find.ensures in
    let new : Levels = record s { stack = with_item s.stack (c.len-depth.result - 1) (record l { search = c.find.new.search }); found = c.find.new.found } in
    let r : IsFound s new c.find.new.search =
    found_last s c.requires.kept c.requires.none (c.len-depth.result - 1) l (omega arith) (omega arith) c.index_mut.ensures.value c.find.new.search c.find.new.found e.skips e.sorted e.same new refl in
    r.kept
