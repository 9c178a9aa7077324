use Rattle.std.proofs.Common.{◌≡◌, ◌∙◌, ◌<◌, ◌-◌, List, ℕ, suc, length, map, drop, get_or, ap, sym, subst, refl, arith}
use Rattle.std.specs.Prelude.{slice_get, Some, Option, Bool, false, true, is_none, option_map}
use Rattle.std.proofs.lemmas.List.{length-map, map-append}
use Rattle.mw_logic.specs.Signature.{Sorted}
use Rattle.mw_term.specs.Signatures.{sorted_of}
use Rattle.mw_term.specs.declared.signature.Sorted.{Sorted as Held}
use Rattle.mw_sorts.specs.Diagrams.{Level}
use Rattle.mw_sorts.specs.Sorting.{Sorting}
use Rattle.mw_sorts.specs.Marks.{HaveEntries, marks_of, marks_behind, IsFirstWalk}
use Rattle.mw_sorts.proofs.Getting.{read-get, get-map, get-same}
use Rattle.mw_sorts.proofs.Marking.{walk-none, walk-more, walk-done, walk-lit, walk-linked, entries-many, entries-wide, behind-at, behind-length, missing-seen}
use Rattle.mw_sorts.proofs.Walks.{marked_first, first_lack}
use Rattle.mw_sorts.proofs.fault.first_fault.Goals as goal

-- what stands at an index of a list that is held
held : {X : Type 0} (xs ys : List X) (i : ℕ) (x y : X) → ys ≡ xs → i < length ys → x ≡ get_or ys i x → y ≡ x → slice_get xs i ≡ Some y
held xs ys i x y e l h f = subst (λ z. slice_get xs i ≡ Some z) (sym f) (read-get xs ys i x e (subst (λ (zs : List _). i < length zs) e l) h)

-- the marks that stand behind level i
marks_read : (levels held : List Level) (missing : List Bool) (behind : List (List Bool)) (i : ℕ) (marks read : List Bool) → held ≡ levels → behind ≡ marks_behind levels missing → i < length held
    → read ≡ get_or behind (length held - 1 - i) read → marks ≡ read → marks ≡ marks_of (drop (suc i) levels) missing
marks_read levels held missing behind i marks read e b l h m =
    let n = ap (λ (ls : List Level). length ls) e in
    let k = ap (λ (mss : List (List Bool)). length mss) b in
    let j = behind-length levels missing in
    let there = read-get behind behind (length held - 1 - i) read refl (omega arith) h in
    let same : length held - 1 - i ≡ length levels - 1 - i = omega arith in
    let want = behind-at levels missing i (omega arith) in
    m ∙ get-same (marks_behind levels missing) (length levels - 1 - i) read _ (subst (λ (x : ℕ). slice_get (marks_behind levels missing) x ≡ Some read) same (subst (λ (mss : List (List Bool)). slice_get mss (length held - 1 - i) ≡ Some read) b there)) want

pub loop-i-init : goal.loop-i-init
loop-i-init c =
    let d = c.args.drawing.now in
    let ends : List (Option Sorted) = map (option_map sorted_of) d.ends in
    let l = c.requires.lacks in
    let lit = marked_first c.args.sorting.now c.args.operator.now d.levels (map (map sorted_of) d.entries) ends c.requires.drawn l.0 l.1 l.2 in
    walk-none d.levels (map is_none d.ends) (map (map sorted_of) d.entries) (map sorted_of c.in_ok-sorts.sorts.items)
    (subst (λ (ms : List Bool). get_or (marks_of d.levels ms) 0 false ≡ true) (missing-seen sorted_of d.ends) lit) (ap (λ (xs : List Held). map sorted_of xs) c.in_ok-sorts.ensures.items)

-- each level has its list of entries
lists_there : (sorting : Sorting) (levels read : List Level) (lists read_lists : List (List Held)) (Ks : List ℕ) (i : ℕ) → HaveEntries sorting levels (map (map sorted_of) lists) Ks → read ≡ levels → read_lists ≡ lists → i < length read → i < length read_lists
lists_there sorting levels read lists read_lists Ks i h e f l =
    let n = entries-many sorting levels (map (map sorted_of) lists) Ks h in
    let m = length-map lists (map sorted_of) in
    let x = ap (λ (ls : List Level). length ls) e in
    let y = ap (λ (es : List (List Held)). length es) f in
    omega arith

pub index-requires : goal.index-requires
index-requires c =
    let d = c.args.drawing.now in
    let missing : List Bool = map is_none d.ends in
    let b : c.in_ok-behind.behind.items ≡ marks_behind d.levels missing =
    c.in_ok-behind.ensures ∙ ap (λ (ls : List Level). marks_behind ls (map is_none c.as_slice.result.now)) c.as_slice-levels.ensures ∙ ap (λ (es : List (Option Held)). marks_behind d.levels (map is_none es)) c.as_slice.ensures in
    let l = c.loop-i-test.true in
    let k = ap (λ (mss : List (List Bool)). length mss) b in
    let j = behind-length d.levels missing in
    let n = ap (λ (ls : List Level). length ls) c.as_slice-levels.ensures in
    omega arith

pub bounds-lists-i : goal.bounds-lists-i
bounds-lists-i c =
    let d = c.args.drawing.now in
    lists_there c.args.sorting.now d.levels c.as_slice-levels.result.now d.entries c.as_slice-lists.result.now c.args.operator.now.args c.loop-i.i c.requires.drawn.listed c.as_slice-levels.ensures c.as_slice-lists.ensures c.loop-i-test.true

pub first_step-sort-requires : goal.first_step-sort-requires
first_step-sort-requires c =
    let d = c.args.drawing.now in
    let missing : List Bool = map is_none d.ends in
    let b : c.in_ok-behind.behind.items ≡ marks_behind d.levels missing =
    c.in_ok-behind.ensures ∙ ap (λ (ls : List Level). marks_behind ls (map is_none c.as_slice.result.now)) c.as_slice-levels.ensures ∙ ap (λ (es : List (Option Held)). marks_behind d.levels (map is_none es)) c.as_slice.ensures in
    let marks : c.as_slice-marks.result.now ≡ marks_of (drop (suc c.loop-i.i) d.levels) missing =
    marks_read d.levels c.as_slice-levels.result.now missing c.in_ok-behind.behind.items c.loop-i.i c.as_slice-marks.result.now c.index.result.now c.as_slice-levels.ensures b c.loop-i-test.true c.index.ensures c.as_slice-marks.ensures in
    let level : slice_get d.levels c.loop-i.i ≡ Some c.as_slice-level.result.now =
    held d.levels c.as_slice-levels.result.now c.loop-i.i c.index-levels-i.result c.as_slice-level.result.now c.as_slice-levels.ensures c.loop-i-test.true c.index-levels-i.is c.as_slice-level.ensures in
    let many : c.loop-i.i < length c.as_slice-lists.result.now =
    lists_there c.args.sorting.now d.levels c.as_slice-levels.result.now d.entries c.as_slice-lists.result.now c.args.operator.now.args c.loop-i.i c.requires.drawn.listed c.as_slice-levels.ensures c.as_slice-lists.ensures c.loop-i-test.true in
    let list : slice_get (map (map sorted_of) d.entries) c.loop-i.i ≡ Some (map sorted_of c.as_slice-in-loop-i.result.now) =
    get-map (map sorted_of) d.entries c.loop-i.i c.as_slice-in-loop-i.result.now
    (held d.entries c.as_slice-lists.result.now c.loop-i.i c.index-lists-i.result c.as_slice-in-loop-i.result.now c.as_slice-lists.ensures many c.index-lists-i.is c.as_slice-in-loop-i.ensures) in
    record {
      wide = λ q row g.
          entries-wide c.args.sorting.now d.levels (map (map sorted_of) d.entries) c.args.operator.now.args c.loop-i.i c.as_slice-level.result.now (map sorted_of c.as_slice-in-loop-i.result.now) c.requires.drawn.listed level list q row g
          ∙ length-map c.as_slice-in-loop-i.result.now sorted_of;
      linked = walk-linked d.levels missing c.as_slice-marks.result.now c.loop-i.i _ c.as_slice-level.result.now c.requires.drawn.linked (length-map d.ends (option_map sorted_of) ∙ sym (length-map d.ends is_none)) level marks;
      marked = walk-lit d.levels missing c.as_slice-marks.result.now (map (map sorted_of) d.entries) c.loop-i.i c.loop-i.state (map sorted_of c.loop-i.sorts.items) c.as_slice-level.result.now c.loop-i.invariant level marks;
    }

pub loop-i-preserved : goal.loop-i-preserved
loop-i-preserved c =
    let d = c.args.drawing.now in
    let missing : List Bool = map is_none d.ends in
    let b : c.in_ok-behind.behind.items ≡ marks_behind d.levels missing =
    c.in_ok-behind.ensures ∙ ap (λ (ls : List Level). marks_behind ls (map is_none c.as_slice.result.now)) c.as_slice-levels.ensures ∙ ap (λ (es : List (Option Held)). marks_behind d.levels (map is_none es)) c.as_slice.ensures in
    let marks : c.as_slice-marks.result.now ≡ marks_of (drop (suc c.loop-i.i) d.levels) missing =
    marks_read d.levels c.as_slice-levels.result.now missing c.in_ok-behind.behind.items c.loop-i.i c.as_slice-marks.result.now c.index.result.now c.as_slice-levels.ensures b c.loop-i-test.true c.index.ensures c.as_slice-marks.ensures in
    let level : slice_get d.levels c.loop-i.i ≡ Some c.as_slice-level.result.now =
    held d.levels c.as_slice-levels.result.now c.loop-i.i c.index-levels-i.result c.as_slice-level.result.now c.as_slice-levels.ensures c.loop-i-test.true c.index-levels-i.is c.as_slice-level.ensures in
    let many : c.loop-i.i < length c.as_slice-lists.result.now =
    lists_there c.args.sorting.now d.levels c.as_slice-levels.result.now d.entries c.as_slice-lists.result.now c.args.operator.now.args c.loop-i.i c.requires.drawn.listed c.as_slice-levels.ensures c.as_slice-lists.ensures c.loop-i-test.true in
    let list : slice_get (map (map sorted_of) d.entries) c.loop-i.i ≡ Some (map sorted_of c.as_slice-in-loop-i.result.now) =
    get-map (map sorted_of) d.entries c.loop-i.i c.as_slice-in-loop-i.result.now
    (held d.entries c.as_slice-lists.result.now c.loop-i.i c.index-lists-i.result c.as_slice-in-loop-i.result.now c.as_slice-lists.ensures many c.index-lists-i.is c.as_slice-in-loop-i.ensures) in
    walk-more d.levels missing c.as_slice-marks.result.now (map (map sorted_of) d.entries) c.loop-i.i c.loop-i.state c.first_step-sort.result.1 (map sorted_of c.loop-i.sorts.items) (map sorted_of c.push.new.self.items)
    c.as_slice-level.result.now (map sorted_of c.as_slice-in-loop-i.result.now) (sorted_of c.first_step-sort.result.0) c.loop-i.invariant level list marks c.first_step-sort.ensures
    (ap (λ (xs : List Held). map sorted_of xs) c.in_ok-push.ensures.items ∙ map-append sorted_of c.loop-i.sorts.items _)

pub returns : goal.returns
returns c =
    let d = c.args.drawing.now in
    let l = c.loop-i-test.false in
    let n = ap (λ (ls : List Level). length ls) c.as_slice-levels.ensures in
    let m = entries-many c.args.sorting.now d.levels (map (map sorted_of) d.entries) c.args.operator.now.args c.requires.drawn.listed in
    let w = walk-done d.levels (map is_none d.ends) (map (map sorted_of) d.entries) c.loop-i.i c.loop-i.state (map sorted_of c.loop-i.sorts.items) (omega arith) (omega arith) c.loop-i.invariant in
    first_lack c.args.sorting.now c.args.operator.now d.levels (map (map sorted_of) d.entries) (map (option_map sorted_of) d.ends) c.requires.drawn (map sorted_of c.loop-i.sorts.items)
    (subst (λ (ms : List Bool). IsFirstWalk d.levels ms 0 (map (map sorted_of) d.entries) (map sorted_of c.loop-i.sorts.items)) (sym (missing-seen sorted_of d.ends)) w)
