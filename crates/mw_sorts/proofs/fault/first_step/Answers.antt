use Rattle.std.proofs.Common.{◌≡◌, ◌∙◌, ◌<◌, length, map, ap, sym, refl, arith, rules}
use Rattle.std.specs.Prelude.{slice_get, Some}
use Rattle.mw_term.specs.Signatures.{sorted_of}
use Rattle.mw_term.specs.declared.signature.Sorted.{Sorted}
use Rattle.mw_sorts.proofs.Getting.{read-get, read-or, get-map, get-within}
use Rattle.mw_sorts.proofs.Marking.{lit-there, lit-marked, found-there, step-found}
use Rattle.mw_sorts.proofs.fault.first_step.Goals as goal

pub first_marked-requires : goal.first_marked-requires
first_marked-requires c p next g =
    let there : slice_get c.args.level.now c.args.state ≡ Some c.as_slice-row.result.now =
    read-get c.args.level.now c.args.level.now c.args.state c.index-level-state.result refl (lit-there c.args.level.now c.args.marks.now c.args.state c.requires.marked) c.index-level-state.is ∙ ap Some (sym c.as_slice-row.ensures) in
    c.requires.linked c.args.state c.as_slice-row.result.now p next there g

pub bounds-row-place : goal.bounds-row-place
bounds-row-place c = let h = (c.in-Some.ensures).0 in get-within c.as_slice-row.result.now c.in-Some.place h.0 h.1

pub offset_bounds-row-place : goal.offset_bounds-row-place
offset_bounds-row-place c = let h = (c.in-Some.ensures).0 in let l : c.in-Some.place < length c.as_slice-row.result.now = get-within c.as_slice-row.result.now c.in-Some.place h.0 h.1 in search rules

pub bounds-entries-place : goal.bounds-entries-place
bounds-entries-place c =
    let there : slice_get c.args.level.now c.args.state ≡ Some c.as_slice-row.result.now =
    read-get c.args.level.now c.args.level.now c.args.state c.index-level-state.result refl (lit-there c.args.level.now c.args.marks.now c.args.state c.requires.marked) c.index-level-state.is ∙ ap Some (sym c.as_slice-row.ensures) in
    let w = c.requires.wide c.args.state c.as_slice-row.result.now there in
    let h = (c.in-Some.ensures).0 in
    let l = get-within c.as_slice-row.result.now c.in-Some.place h.0 h.1 in
    omega arith

pub offset_bounds-entries-place : goal.offset_bounds-entries-place
offset_bounds-entries-place c =
    let there : slice_get c.args.level.now c.args.state ≡ Some c.as_slice-row.result.now =
    read-get c.args.level.now c.args.level.now c.args.state c.index-level-state.result refl (lit-there c.args.level.now c.args.marks.now c.args.state c.requires.marked) c.index-level-state.is ∙ ap Some (sym c.as_slice-row.ensures) in
    let w = c.requires.wide c.args.state c.as_slice-row.result.now there in
    let h = (c.in-Some.ensures).0 in
    let k = get-within c.as_slice-row.result.now c.in-Some.place h.0 h.1 in
    let l : c.in-Some.place < length c.args.entries.now = omega arith in
    search rules

pub unreachable-requires : goal.unreachable-requires
unreachable-requires c =
    let there : slice_get c.args.level.now c.args.state ≡ Some c.as_slice-row.result.now =
    read-get c.args.level.now c.args.level.now c.args.state c.index-level-state.result refl (lit-there c.args.level.now c.args.marks.now c.args.state c.requires.marked) c.index-level-state.is ∙ ap Some (sym c.as_slice-row.ensures) in
    found-there c.as_slice-row.result.now c.args.marks.now c.in-None.ensures (lit-marked c.args.level.now c.args.marks.now c.args.state c.as_slice-row.result.now there c.requires.marked)

pub returns : goal.returns
returns c =
    let there : slice_get c.args.level.now c.args.state ≡ Some c.as_slice-row.result.now =
    read-get c.args.level.now c.args.level.now c.args.state c.index-level-state.result refl (lit-there c.args.level.now c.args.marks.now c.args.state c.requires.marked) c.index-level-state.is ∙ ap Some (sym c.as_slice-row.ensures) in
    let w = c.requires.wide c.args.state c.as_slice-row.result.now there in
    let h = (c.in-Some.ensures).0 in
    let k = get-within c.as_slice-row.result.now c.in-Some.place h.0 h.1 in
    let l : c.in-Some.place < length c.args.entries.now = omega arith in
    step-found c.args.level.now c.args.marks.now c.args.state (map sorted_of c.args.entries.now) c.as_slice-row.result.now c.in-Some.place _ _ there c.in-Some.ensures
    (get-map sorted_of c.args.entries.now c.in-Some.place _ (read-or c.args.entries.now c.args.entries.now c.in-Some.place (Sorted.Sort 0) refl l))
    (read-or c.as_slice-row.result.now c.as_slice-row.result.now c.in-Some.place 0 refl k)
