use Rattle.std.proofs.Common.{◌≡◌, ◌∙◌, ◌<◌, ◌-◌, ◌++◌, ◌∷◌, List, [], length, map, take, ap, sym, subst, arith}
use Rattle.std.specs.Prelude.{slice_get, Some, Bool, is_none}
use Rattle.std.proofs.lemmas.List.{length-map}
use Rattle.mw_poset.proofs.Members.{no_items}
use Rattle.mw_sorts.specs.Marks.{is_marked}
use Rattle.mw_sorts.specs.Diagrams.{Level}
use Rattle.mw_sorts.proofs.Marking.{last-split, level-linked, marked-none, marked-more, marked-all}
use Rattle.mw_sorts.proofs.fault.all_marks.Goals as goal

pub level_marks-requires : goal.level_marks-requires
level_marks-requires c =
    let rest : List Level = c.loop-rest.rest.now in
    let split = last-split rest c.level-item.result c.in-len1-up.len_at_least c.level-item.is in
    let linked = level-linked c.args.levels.now (map is_none c.args.ends.now) rest (take (length rest - 1) rest) c.level-item.result c.loop-rest.marks.items c.loop-rest.behind.items c.loop-rest.invariant split (length c.args.ends.now)
    (sym (length-map c.args.ends.now is_none)) c.requires in
    λ q row p n g f.
    subst (λ (ms : List Bool). n < length ms) (sym c.as_slice-in-len1-up.ensures.value) (linked q row p n (subst (λ (l : Level). slice_get l q ≡ Some row) c.as_slice.ensures g) f)

pub loop-rest-init : goal.loop-rest-init
loop-rest-init c = marked-none c.args.levels.now (map is_none c.args.ends.now) c.in_ok-marks.marks.items c.in_ok-behind.behind.items c.in_ok-marks.ensures c.in_ok-behind.ensures.items

pub loop-rest-preserved : goal.loop-rest-preserved
loop-rest-preserved c =
    let rest : List Level = c.loop-rest.rest.now in
    let marks : List Bool = c.loop-rest.marks.items in
    let split = last-split rest c.level-item.result c.in-len1-up.len_at_least c.level-item.is in
    let new : c.in_ok-marks-2.marks.items ≡ map (is_marked marks) c.level-item.result =
    c.in_ok-marks-2.ensures ∙ ap (λ (ms : List Bool). map (is_marked ms) c.as_slice.result.now) c.as_slice-in-len1-up.ensures.value ∙ ap (λ (l : Level). map (is_marked marks) l) c.as_slice.ensures in
    let more : c.push.new.self.items ≡ c.loop-rest.behind.items ++ marks ∷ [] = c.in_ok-push.ensures.items ∙ ap (λ (ms : List Bool). c.loop-rest.behind.items ++ ms ∷ []) c.of.ensures in
    marked-more c.args.levels.now (map is_none c.args.ends.now) rest (take (length rest - 1) rest) c.level-item.result marks c.loop-rest.behind.items c.loop-rest.invariant split c.in_ok-marks-2.marks.items c.push.new.self.items new more

pub returns : goal.returns
returns c =
    let l = c.in_default.len_below in
    marked-all c.args.levels.now (map is_none c.args.ends.now) c.loop-rest.rest.now c.loop-rest.marks.items c.loop-rest.behind.items c.loop-rest.invariant (no_items c.loop-rest.rest.now (omega arith))
