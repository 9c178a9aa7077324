-- How the groups of a condition go on: what comes of the fragments left, with their groups, comes of all.
use Rattle.std.specs.Prelude.{◌≡◌, ℕ, suc, ◌+◌, List, [], ◌∷◌, ◌++◌, take, drop, length, Option, Some, None, option_map, refl}
use Rattle.std.proofs.Common.{ap, sym, subst, ◌∙◌, inl, inr, arith, add_assoc, zero-add}
use Rattle.std.proofs.Math.Seq.{take-append_seam, drop-append_seam}
use Rattle.mw_logic.specs.Term.{RawTerm}
use Rattle.mw_logic.specs.Signature.{Signature, IsRawTerm}
use Rattle.mw_logic.specs.Substitution.{Substitution, instance}
use Rattle.mw_logic.specs.Parts.{nested, IsAdmitted}
use Rattle.mw_logic.specs.NormalForm.{normal_form}
use Rattle.mw_logic.specs.Module.{Fragment, Module}
use Rattle.mw_logic.specs.Confluence.{IsReducible}
use Rattle.mw_deduction.specs.Runs.{Done, Dones, Runs}
use Rattle.mw_deduction.specs.Runs as runs
use Rattle.mw_deduction.specs.Replay.{sides_of, all_sides}
use Rattle.mw_proof.specs.Counting.{capped}
use Rattle.mw_items.specs.Items.{Items, Groups, end, group}
use Rattle.mw_verdict.specs.Checks as checks
use Rattle.mw_verdict.specs.Checks.{Meets, AreMet, Evaluated, evaluated, AreEvaluated, Shown, unconditional, conditional}
use Rattle.mw_verdict.specs.Leads.{ItemsLead}
use Rattle.mw_verdict.specs.Verdicts as verdicts
use Rattle.mw_verdict.specs.Verdicts.{HasGroup, the_first, a_later, behind, AreLed, no_more, one_more, AtFault, a_chain, the_ends, behind_them, ChainAtFault, not_normal, StopsIn, an_item, an_end, IsStopped}
use Rattle.mw_check.specs.Groups.{counted_both, both_ends, GroupStops, at_side, in_item, at_end, StopsAtOne, AreCounted, IsEndOf, IsEndCounted, AreFirst, no_side, a_side, AreEndsOf, FaultAtOne, AreShownSoFar, GoesOn, IsShownBy, MeetTheirs}
use Rattle.mw_check.proofs.ChainSteps.{capped_sum}

-- a group of the first sides, and one behind theirs
has_left : {l : RawTerm} {g : Items} {ls : List RawTerm} (ms : List RawTerm) {gs : Groups} → HasGroup l g ls gs → HasGroup l g (ls ++ ms) gs
has_left ms the_first = the_first
has_left ms (a_later h) = a_later (has_left ms h)

has_behind : {l : RawTerm} {g : Items} (ls ms : List RawTerm) (gs : Groups) → HasGroup l g ms (behind ls gs) → HasGroup l g (ls ++ ms) gs
has_behind [] ms gs h = h
has_behind (k ∷ ls) ms end h = elim h [ ]
has_behind (k ∷ ls) ms (group g gs) h = a_later (has_behind ls ms gs h)

module _ (M : Module) (most n : ℕ) (s : Substitution) where
  abbrev sig : Signature
  sig = M.signature

  -- a stop and a fault in the group of a side
  stops_in : {C : List Fragment} {gs : Groups} {l : RawTerm} {g : Items} → HasGroup l g (all_sides C) gs → GroupStops M most n (instance s l) g → StopsIn M most (suc n) C s gs
  stops_in h (at_side why f) = verdicts.a_side h why f
  stops_in h (in_item x) = an_item h x.splits x.leads x.stops
  stops_in h (at_end y z) = an_end h y z

  one_stops : (f : Fragment) (C : List Fragment) (gs : Groups) → StopsAtOne M most n s (sides_of f) gs → StopsIn M most (suc n) (f ∷ C) s gs
  one_stops f C gs h = stops_in (has_left (all_sides C) h.has) h.stops

  stops_behind : {m : ℕ} (f : Fragment) (C : List Fragment) (gs hs : Groups) → hs ≡ behind (sides_of f) gs → StopsIn M most m C s hs → StopsIn M most m (f ∷ C) s gs
  stops_behind f C gs hs e (verdicts.a_side {l = l} {g = g} h why z) = verdicts.a_side (has_behind (sides_of f) (all_sides C) gs (subst (HasGroup l g (all_sides C)) e h)) why z
  stops_behind f C gs hs e (an_item {l = l} {g = g} h p y z) = an_item (has_behind (sides_of f) (all_sides C) gs (subst (HasGroup l g (all_sides C)) e h)) p y z
  stops_behind f C gs hs e (an_end {l = l} {g = g} h y z) = an_end (has_behind (sides_of f) (all_sides C) gs (subst (HasGroup l g (all_sides C)) e h)) y z

  -- the first sides, and those behind them
  evaluated_all : {ls ms xs ys : List RawTerm} {gs : Groups} {d c : ℕ} {rs : Runs} → AreFirst M most n s ls gs xs d → AreEvaluated M n s ms (behind ls gs) ys rs c → (qs : Runs) × AreEvaluated M n s (ls ++ ms) gs (xs ++ ys) qs (d + c)
  evaluated_all {ms = ms} {ys = ys} {gs = gs} {c = c} {rs = rs} no_side y = (rs, subst (AreEvaluated M n s ms gs ys rs) (sym (zero-add c)) y)
  evaluated_all {ms = ms} {ys = ys} {c = c} (a_side {c = a} {d = d} {l = l} {a = x} {ls = ls} {xs = xs} {g = g} {gs = gs} {ds = ds} e rest) y =
      let (qs, z) = evaluated_all {ms = ms} {ys = ys} {c = c} rest y in
      let rs : Runs = runs.another (runs.run (nested sig (normal_form sig (instance s l))) (nested sig x) ds) qs in
      (rs, subst (AreEvaluated M n s ((l ∷ ls) ++ ms) (group g gs) ((x ∷ xs) ++ ys) rs) (sym (add_assoc a d c)) (checks.a_side e z))

  first_length : {ls xs : List RawTerm} {gs : Groups} {d : ℕ} → AreFirst M most n s ls gs xs d → length xs ≡ length ls
  first_length no_side = refl
  first_length (a_side e rest) = ap suc (first_length rest)

  met_all : (f : Fragment) (C : List Fragment) (xs ys : List RawTerm) → length xs ≡ length (sides_of f) → Meets sig s f xs → AreMet sig s C ys → AreMet sig s (f ∷ C) (xs ++ ys)
  met_all f C xs ys e m n = (
    subst (Meets sig s f) (sym (ap (λ k. take k (xs ++ ys)) (sym e) ∙ take-append_seam xs ys)) m,
    subst (AreMet sig s C) (sym (ap (λ k. drop k (xs ++ ys)) (sym e) ∙ drop-append_seam xs ys)) n,
  )

  -- nothing was done yet
  pub begun : (C : List Fragment) (gs : Groups) → GoesOn M most n s C gs C gs (Some 0)
  begun C gs = record {
    faults = λ f. f;
    stops = λ z. z;
    shown = (0, refl, λ xs rs c x m. (xs, rs, subst (AreEvaluated M n s (all_sides C) gs xs rs) (sym (zero-add c)) x, m));
  }

  -- one fragment and then others
  pub gone_on : (C D E : List Fragment) (gs hs is : Groups) (a b : Option ℕ) → GoesOn M most n s C gs D hs a → GoesOn M most n s D hs E is b → GoesOn M most n s C gs E is (counted_both a b)
  gone_on C D E gs hs is a b x y = record {
    faults = λ f. x.faults (y.faults f);
    stops = λ z. x.stops (y.stops z);
    shown = both a b x.shown y.shown;
  }
    where
      both : (a b : Option ℕ) → AreShownSoFar M most n s C gs D hs a → AreShownSoFar M most n s D hs E is b → AreShownSoFar M most n s C gs E is (counted_both a b)
      both None b p q = p
      both (Some k) None p q = x.stops q
      both (Some k) (Some j) (c, e, f) (d, g, h) = (
        c + d,
        capped_sum k j c d e g,
        λ xs rs b z m.
            let (ys, qs, u, o) = h xs rs b z m in
            let (zs, ps, v, r) = f ys qs (d + b) u o in
            (zs, ps, subst (AreEvaluated M n s (all_sides C) gs zs ps) (sym (add_assoc c d b)) v, r),
      )

  -- at the end
  pub shown_over : (C : List Fragment) (gs : Groups) (count : Option ℕ) → GoesOn M most n s C gs [] end count → IsShownBy M most (suc n) C s gs count
  shown_over C gs count x = by_count count x.shown
    where
      by_count : (count : Option ℕ) → AreShownSoFar M most n s C gs [] end count → IsShownBy M most (suc n) C s gs count
      by_count None z = z
      by_count (Some k) (d, e, f) = let (ys, qs, u, m) = f [] runs.end 0 checks.no_side tt in (qs, d + 0, conditional u m, e ∙ ap capped (sym (zero_behind d)))
        where
          zero_behind : (d : ℕ) → d + 0 ≡ d
          zero_behind d = omega arith

  -- what comes of a fragment
  pub fragment_fault : (f : Fragment) (gs : Groups) → FaultAtOne M most n s (sides_of f) gs → (C : List Fragment) → AtFault M most (suc n) (f ∷ C) s gs
  fragment_fault f gs h C = a_chain (has_left (all_sides C) h.has) h.admitted h.fault

  pub fragment_passed : (f : Fragment) (gs : Groups) (ends : Option (List RawTerm)) (count : Option ℕ) → AreEndsOf M most n s (sides_of f) gs ends count → MeetTheirs sig s f ends → (C : List Fragment) → GoesOn M most n s (f ∷ C) gs C (behind (sides_of f) gs) count
  fragment_passed f gs ends count h m C = record {
    faults = behind_them;
    stops = stops_behind f C gs (behind (sides_of f) gs) refl;
    shown = by_ends ends count h m;
  }
    where
      by_ends : (ends : Option (List RawTerm)) (count : Option ℕ) → AreEndsOf M most n s (sides_of f) gs ends count → MeetTheirs sig s f ends → AreShownSoFar M most n s (f ∷ C) gs C (behind (sides_of f) gs) count
      by_ends None None z m = one_stops f C gs z
      by_ends None (Some k) z m = absurd z
      by_ends (Some xs) None z m = one_stops f C gs z.1
      by_ends (Some xs) (Some k) (y, d, z, e) m = (d, e, λ ys rs c x o. let (qs, u) = evaluated_all z x in (xs ++ ys, qs, u, met_all f C xs ys (first_length z) m o))

  pub fragment_unmet : (f : Fragment) (gs : Groups) (ends : Option (List RawTerm)) (count : Option ℕ) → AreEndsOf M most n s (sides_of f) gs ends count → ¬ MeetTheirs sig s f ends → (C : List Fragment) → AtFault M most (suc n) (f ∷ C) s gs
  fragment_unmet f gs None count h m C = absurd (m tt)
  fragment_unmet f gs (Some xs) None h m C = the_ends h.0 m
  fragment_unmet f gs (Some xs) (Some k) h m C = the_ends h.0 m

  -- the ends of one side, and of two
  pub one_side : (l : RawTerm) (g : Items) (gs : Groups) (a : Option RawTerm) (count : Option ℕ) → IsEndOf M most n (instance s l) g a count
      → AreEndsOf M most n s (l ∷ []) (group g gs) (option_map (λ a. a ∷ []) a) count
  one_side l g gs None None h = record { side = l; items = g; has = the_first; stops = h }
  one_side l g gs None (Some k) h = absurd h
  one_side l g gs (Some a) None h = (one_more h.0 h.1 no_more, record { side = l; items = g; has = the_first; stops = h.2 })
  one_side l g gs (Some a) (Some k) (b, y, c, ds, e, p) = (one_more b y no_more, c + 0, a_side e no_side, p ∙ ap capped (sym (zero_more c)))
    where
      zero_more : (c : ℕ) → c + 0 ≡ c
      zero_more c = omega arith

  module _ (l m : RawTerm) (g h : Items) (gs : Groups) where
    abbrev both : Groups
    both = group g (group h gs)

    first_stops : GroupStops M most n (instance s l) g → StopsAtOne M most n s (l ∷ m ∷ []) both
    first_stops z = record { side = l; items = g; has = the_first; stops = z }

    second_stops : GroupStops M most n (instance s m) h → StopsAtOne M most n s (l ∷ m ∷ []) both
    second_stops z = record { side = m; items = h; has = a_later the_first; stops = z }

    pub two_sides : (a b : Option RawTerm) (j k : Option ℕ) → IsEndOf M most n (instance s l) g a j → IsEndOf M most n (instance s m) h b k → AreEndsOf M most n s (l ∷ m ∷ []) both (both_ends a b) (counted_both j k)
    two_sides None b None k x y = first_stops x
    two_sides None b (Some j) k x y = absurd x
    two_sides (Some a) None None None x y = first_stops x.2
    two_sides (Some a) None None (Some k) x y = absurd y
    two_sides (Some a) None (Some j) None x y = second_stops y
    two_sides (Some a) None (Some j) (Some k) x y = absurd y
    two_sides (Some a) (Some b) None None x y = (one_more x.0 x.1 (one_more y.0 y.1 no_more), first_stops x.2)
    two_sides (Some a) (Some b) None (Some k) x y = (one_more x.0 x.1 (one_more y.0 y.1 no_more), first_stops x.2)
    two_sides (Some a) (Some b) (Some j) None x y = (one_more x.0 x.1 (one_more y.0 y.1 no_more), second_stops y.2)
    two_sides (Some a) (Some b) (Some j) (Some k) (v, x, c, ds, e, p) (w, y, d, es, f, q) = (
      one_more v x (one_more w y no_more),
      c + (d + 0),
      a_side e (a_side f no_side),
      capped_sum j k c (d + 0) p (q ∙ ap capped (sym (zero_more d))),
    )
      where
        zero_more : (c : ℕ) → c + 0 ≡ c
        zero_more c = omega arith

-- The end of the items of a group is tested.
module _ (M : Module) (most n : ℕ) (l t : RawTerm) (g : Items) (is : t ≡ normal_form M.signature l) where
  pub end_reducible : (a : RawTerm) → ItemsLead M g t a → IsReducible M n (nested M.signature a) → ChainAtFault M most n l g
  end_reducible a x r = not_normal (subst (λ v. ItemsLead M g v a) is x) r

  pub end_tested : IsRawTerm M.signature l → IsAdmitted M.signature l → (a : RawTerm) (count told : Option ℕ) → ItemsLead M g t a → AreCounted M most n t g a count → IsEndCounted M most n a count told → IsEndOf M most n l g (Some a) told
  end_tested raw admitted a count None x y (inl e) = (admitted, subst (λ v. ItemsLead M g v a) is x, in_item (subst (λ v. AreCounted M most n v g a None) is (subst (AreCounted M most n t g a) e y)))
  end_tested raw admitted a count None x y (inr z) = let w = subst (λ v. ItemsLead M g v a) is x in (admitted, w, at_end w z)
  end_tested raw admitted a count (Some k) x y (e, normal) =
      let (c, ds, z, p) = subst (λ v. AreCounted M most n v g a (Some k)) is (subst (AreCounted M most n t g a) e y) in
      (admitted, subst (λ v. ItemsLead M g v a) is x, c, ds, evaluated raw admitted z normal, p)
