-- How the constituents of a row are found.
use Rattle.std.proofs.Common.{◌≡◌, ◌∙◌, ◌+◌, ◌<◌, ◌≤◌, arith, ℕ, List, [], ◌∷◌, ◌++◌, length, get_or, Some, sym, ap, inl, inr, subst}
use Rattle.std.specs.List.{slice_get}
use Rattle.std.specs.Global.{Global}
use Rattle.std.specs.declared.vec.Vec.{Vec}
use Rattle.std.proofs.Math.ListN.{set}
use Rattle.mw_chart.specs.Bits.{IsSet}
use Rattle.mw_chart.specs.Listed.{IsListed}
use Rattle.mw_chart.specs.Row.{IsInStrip}
use Rattle.mw_chart.specs.declared.row.Strip.{Strip}
use Rattle.mw_chart.specs.declared.item.Constituent.{Constituent}
use Rattle.mw_chart.proofs.Lists.{get_below, get_same, get_left, get_last, get_set_same, get_set_other, eq_or, one_there}

-- a strip changed for one of the same state that has more
pub strip_kept : (strips : List Strip) (p : ℕ) (old new : Strip) → slice_get strips p ≡ Some old → new.state ≡ old.state → ((e : ℕ) → IsSet old.ends.items e → IsSet new.ends.items e)
    → (w e : ℕ) → IsInStrip strips w e → IsInStrip (set strips p new) w e
strip_kept strips p old new at same more w e (q, strip, got, state, inside) =
    elim (eq_or q p) [
      | inl here ↦
          let is : strip ≡ old = one_there strips p strip old (subst (λ (m : ℕ). slice_get strips m ≡ Some strip) here got) at in
          (p, new, get_set_same strips p new (get_below strips p old at), same ∙ ap (λ (s : Strip). s.state) (sym is) ∙ state, more e (subst (λ (s : Strip). IsSet s.ends.items e) is inside))
      | inr other ↦ (q, strip, get_set_other strips q p new other ∙ got, state, inside)
    ]

pub strip_push : (strips : List Strip) (new : Strip) (w e : ℕ) → IsInStrip strips w e → IsInStrip (strips ++ new ∷ []) w e
strip_push strips new w e (q, strip, got, state, inside) = (q, strip, get_left strips (new ∷ []) q strip got, state, inside)

pub strip_pushed : (strips : List Strip) (new : Strip) (w e : ℕ) → new.state ≡ w → IsSet new.ends.items e → IsInStrip (strips ++ new ∷ []) w e
strip_pushed strips new w e state inside = (length strips, new, get_last strips new, state, inside)

-- as code reads the strip at an index
pub strip_item : (strips : List Strip) (p : ℕ) (strip old : Strip) → slice_get strips p ≡ Some strip → old ≡ get_or strips p old → slice_get strips p ≡ Some old
strip_item strips p strip old got is = got ∙ ap (λ (s : Strip). Some s) (sym (is ∙ get_same strips p strip old got))

pub strip_state : (strips : List Strip) (p : ℕ) (strip old : Strip) → slice_get strips p ≡ Some strip → slice_get strips p ≡ Some old → old.state ≡ strip.state
strip_state strips p strip old got at = ap (λ (s : Strip). s.state) (one_there strips p old strip at got)

-- the next constituent is listed too
pub index_next : (constituents : List Constituent) (k : ℕ) (x : Constituent) (places more : List (Vec ℕ Global)) (strips others : List Strip) → slice_get constituents k ≡ Some x
    → ((e j : ℕ) → IsListed places e j → IsListed more e j) → IsListed more x.end k
    → ((w e : ℕ) → IsInStrip strips w e → IsInStrip others w e) → IsInStrip others x.state x.end
    → ((j : ℕ) (r : Constituent) → j < k → slice_get constituents j ≡ Some r → IsListed places r.end j × IsInStrip strips r.state r.end)
    → (j : ℕ) (r : Constituent) → j < k + 1 → slice_get constituents j ≡ Some r → IsListed more r.end j × IsInStrip others r.state r.end
index_next constituents k x places more strips others at kept new kept2 new2 before j r low got =
    elim (eq_or j k) [
      | inl e ↦
          let same : x ≡ r = one_there constituents k x r at (subst (λ (m : ℕ). slice_get constituents m ≡ Some r) e got) in
          rw e (subst (λ (y : Constituent). IsListed more y.end k × IsInStrip others y.state y.end) same (new, new2))
      | inr n ↦ let b = before j r (omega (arith, low, n)) got in (kept r.end j b.0, kept2 r.state r.end b.1)
    ]

pub index_done : (constituents items : List Constituent) (k : ℕ) (places : List (Vec ℕ Global)) (strips : List Strip) → items ≡ constituents → length items ≤ k
    → ((j : ℕ) (r : Constituent) → j < k → slice_get items j ≡ Some r → IsListed places r.end j × IsInStrip strips r.state r.end)
    → (j : ℕ) (r : Constituent) → slice_get constituents j ≡ Some r → IsListed places r.end j × IsInStrip strips r.state r.end
index_done constituents items k places strips same all before j r got =
    let there : slice_get items j ≡ Some r = subst (λ (l : List Constituent). slice_get l j ≡ Some r) (sym same) got in
    before j r (let b = get_below items j r there in omega (arith, b, all)) there
