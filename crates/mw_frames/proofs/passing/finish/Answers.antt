use Rattle.std.proofs.Common.{rules, ◌∙◌, ◌≡◌, length, drop, take, true}
use Rattle.std.proofs.lemmas.List.{length-drop}
use Rattle.mw_logic.specs.Parts.{is_assoc}
use Rattle.mw_logic.specs.NormalForm.{applied_in}
use Rattle.mw_stack.specs.Own.{own}
use Rattle.mw_trail.specs.Tracks.{moves}
use Rattle.mw_frames.proofs.Turning.{finishes, finishes_one, own_fair}
use Rattle.mw_frames.proofs.passing.finish.Goals as goal

pub returns-then-is_assoc-clause-means : goal.returns-then-is_assoc-clause-means
returns-then-is_assoc-clause-means c = λ K k run w s.
    let m = c.args.machine.now in
    let f = c.args.top in
    let o = own_fair K run.accepted run.sorted k m.kept.values (moves K.over m.kept) f _ m.done.items m.jobs.items s w in
    let e : c.in_ok-term.term ≡ applied_in K.over.signature f.op (own f.from m.done.items) = rw run.signature (c.in_ok-term.ensures.is (rw⁻¹ run.signature o.0) (rw⁻¹ run.signature o.1) (rw⁻¹ run.signature o.2)) in
    let h : is_assoc K.over.signature f.op ≡ true = rw run.signature (search rules) in
    let l : length (drop f.from m.done.items) ≡ 1 = length-drop f.from m.done.items ∙ search rules in
    let z : c.close.new.done.items ≡ take f.from m.done.items = search rules in
    rw z (finishes_one K run.accepted run.sorted k m.kept.values (moves K.over m.kept) f _ m.done.items m.jobs.items c.in_ok-term.term s w e h l)

pub returns-clause-means : goal.returns-clause-means
returns-clause-means c = λ K k run w s.
    let m = c.args.machine.now in
    let f = c.args.top in
    let o = own_fair K run.accepted run.sorted k m.kept.values (moves K.over m.kept) f _ m.done.items m.jobs.items s w in
    let e : c.in_ok-term.term ≡ applied_in K.over.signature f.op (own f.from m.done.items) = rw run.signature (c.in_ok-term.ensures.is (rw⁻¹ run.signature o.0) (rw⁻¹ run.signature o.1) (rw⁻¹ run.signature o.2)) in
    let z : c.close.new.done.items ≡ take f.from m.done.items = search rules in
    rw z (finishes K run.accepted run.sorted k m.kept.values (moves K.over m.kept) f _ m.done.items m.jobs.items c.in_ok-term.term s w e)
