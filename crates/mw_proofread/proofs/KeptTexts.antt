-- The items that are written of a kept deduction have the form of a text: numbers that are taken are two or more and rise, values are as many as variables and
-- groups as sides, and evidence stands in the ranks below.
use Rattle.std.specs.Prelude.{◌≡◌, ◌≤◌, max, nat_eq, ℕ, zero, suc, List, [], ◌∷◌, ◌++◌, map, length, codes, Bool, true, false, cond, Option, Some, None, option_map, IsTrue, refl}
use Rattle.std.specs.List.{zip}
use Rattle.std.proofs.Common.{sym, subst, ap, ◌∙◌, arith}
use Rattle.std.proofs.lemmas.Bool.{both_ways, or_left, or_right}
use Rattle.mw_logic.specs.Term.{Variable, RawTerm, RawTerms, nil, cons}
use Rattle.mw_logic.specs.Signature.{Signature, IsRawTerm}
use Rattle.mw_logic.specs.Accepted.{IsAccepted}
use Rattle.mw_logic.specs.Substitution.{Substitution, value, instance, same_variable}
use Rattle.mw_logic.specs.Parts.{nested}
use Rattle.mw_logic.specs.NormalForm.{normal_form, height}
use Rattle.mw_logic.specs.CanonicalPart.{AreSeveral}
use Rattle.mw_logic.specs.Module.{Module, Statement}
use Rattle.mw_logic.proofs.Admitted.{admitted-iff}
use Rattle.mw_logic.proofs.Canonical.{IsCanonical, canonical}
use Rattle.mw_logic.proofs.CanonicalTerms.{fixed}
use Rattle.mw_logic.proofs.SameConditions.{same_variable-is, same_variable-refl}
use Rattle.mw_arguments.specs.Places.{chosen, Rise}
use Rattle.mw_position.specs.Variables.{is_in, AreDistinct}
use Rattle.mw_redex.specs.Replaced.{IsTaken}
use Rattle.mw_least.specs.Conditions.{mentioned}
use Rattle.mw_least.specs.Workable.{IsWorkable}
use Rattle.mw_least.proofs.Mentioned.{mentioned_distinct, is_mentioned}
use Rattle.mw_deduction.specs.Runs.{Done, Dones, Runs}
use Rattle.mw_deduction.specs.Replay.{AreAllCanonical, all_sides}
use Rattle.mw_print.specs.Laws.{HasTokens}
use Rattle.mw_print.specs.PrefixLaws.{IsTold}
use Rattle.mw_print.proofs.CanonicalTold.{canonical_told}
use Rattle.mw_print.proofs.PrefixOpen.{prefix_shallow}
use Rattle.mw_items.specs.Items.{Spot, Item, step, built, Items, none, more, Groups, end, group}
use Rattle.mw_prooftext.specs.Tells.{IsStep, Tells, TellsOne, TellsSides}
use Rattle.mw_prooftext.specs.Narrow.{AreNarrow, IsNarrowTake, IsNarrowSpot, IsNarrowItem, AreNarrowItems, AreNarrowGroups}
use Rattle.mw_proofread.specs.Numbers.{Rises, IsTake}
use Rattle.mw_proofread.specs.TokenTexts.{text_tokens}
use Rattle.mw_proofread.specs.Reading.{IsWritten, AreWritten, IsCount, values_of, groups_of, number_of_groups, HasForm, HaveForm, GroupsHaveForm, wheres, most_wheres, wheres_in}
use Rattle.mw_proofread.specs.Lexing.{AreSmall, IsSmallTake, IsSmallSpot, AreAllTold, IsSmallItem, AreSmallItems, AreSmallGroups}
use Rattle.mw_proofread.specs.Kept.{IsWritable, WrittenAreTexts}
use Rattle.mw_proofread.proofs.Known.{IsKnown, IsKnownAt, AreValuesKnown, IsDoneKnown, AreDonesKnown, AreRunsKnown, same_dones, proof_known}
use Rattle.mw_proofread.proofs.TextLexed.{text_lexed}

-- numbers of 32 bits are below 2^128
small_numbers : (ns : List ℕ) → AreNarrow ns → AreSmall ns
small_numbers [] h = tt
small_numbers (n ∷ ns) h = let l = h.0 in (omega (arith, l), small_numbers ns h.1)

small_take : (take : Option (List ℕ)) → IsNarrowTake take → IsSmallTake take
small_take None h = tt
small_take (Some ns) h = small_numbers ns h

small_spot : (s : Spot) → IsNarrowSpot s → IsSmallSpot s
small_spot s h = (small_numbers s.path h.0, small_take s.take h.1)

-- what is taken
two_taken : (ks : List ℕ) (i : ℕ) (ts : RawTerms) → AreSeveral (chosen i ks ts) → 2 ≤ length ks
two_taken [] i ts l = absurd l
two_taken (k ∷ m ∷ ks) i ts l = omega arith
two_taken (k ∷ []) i nil l = absurd l
two_taken (k ∷ []) i (cons t ts) l = by_test (nat_eq i k) (two_taken (k ∷ []) (suc i) ts) l
  where
    by_test : (b : Bool) → (AreSeveral (chosen (suc i) (k ∷ []) ts) → 2 ≤ length (k ∷ [])) → AreSeveral (cond b (cons t nil) (chosen (suc i) (k ∷ []) ts)) → 2 ≤ length (k ∷ [])
    by_test true r l = absurd l
    by_test false r l = r l

rising : (i n : ℕ) (ks : List ℕ) → Rise i n ks → Rises ks
rising i n [] r = tt
rising i n (k ∷ []) r = tt
rising i n (k ∷ l ∷ ks) r = let m = r.2.0 in (omega (arith, m), rising (suc k) n (l ∷ ks) r.2)

take_form : (sig : Signature) (take : Option (List ℕ)) (t w : RawTerm) → IsTaken sig take t w → IsTake take
take_form sig None t w h = tt
take_form sig (Some ks) t w h = (two_taken ks 1 h.args h.several, rising 1 _ ks h.rise)

-- how many `where` stand inside one another in a step with these groups
abbrev wheres_with : Groups → ℕ
wheres_with end = 0
wheres_with (group g gs) = suc (max (most_wheres g) (wheres_in gs))

wheres_are : (owise : Bool) (k : ℕ) (s : Spot) (vs : List RawTerm) (gs : Groups) → wheres (step owise k s vs gs) ≡ wheres_with gs
wheres_are owise k s vs end = refl
wheres_are owise k s vs (group g gs) = refl

module _ (M : Module) (writable : IsWritable M) where
  abbrev sig : Signature
  sig = M.signature

  abbrev work : IsWorkable M
  work = writable.workable

  abbrev ok : IsAccepted sig
  ok = work.signature.accepted

  -- a canonical term
  written : (v : RawTerm) → IsCanonical sig v → IsRawTerm sig (nested sig v) → IsKnown sig (nested sig v) → IsWritten sig v
  written v c raw known =
      let f : normal_form sig (nested sig v) ≡ v = fixed sig ok v c in
      let limits = (admitted-iff sig ok raw).0 known.0 in
      let told : IsTold v = canonical_told sig v writable.few raw limits.0 known.1 in
      let shallow = prefix_shallow sig v told in
      let low : height v ≤ 1000 = subst (λ t. height t ≤ 1000) f limits.1 in
      record { admitted = record { raw = raw; canonical = f; admitted = known.0 }; told = told; shallow = omega (arith, shallow, low) }

  -- values of different variables
  values_written : (xs : List Variable) (vs : List RawTerm) → AreDistinct xs → length vs ≡ length xs → AreAllCanonical sig vs
      → ((x : Variable) → IsTrue (is_in x xs) → IsKnownAt sig (zip xs (map (nested sig) vs)) x) → AreWritten sig vs × AreAllTold vs
  values_written xs [] d l c k = (tt, tt)
  values_written [] (v ∷ vs) d l c k = absurd (omega (arith, l))
  values_written (x ∷ xs) (v ∷ vs) d l c k =
      let first : IsWritten sig v = written v c.0.0 c.0.1 (k x (or_left (same_variable x x) (is_in x xs) (same_variable-refl x)) (nested sig v) (rw (same_variable-refl x) refl)) in
      let rest = values_written xs vs d.1 (omega (arith, l)) c.1 (λ y m u h. k y (or_right (same_variable x y) (is_in y xs) m) u (behind y m u h)) in
      ((first, rest.0), (first.told, rest.1))
    where
      behind : (y : Variable) → IsTrue (is_in y xs) → (u : RawTerm) → value (zip xs (map (nested sig) vs)) y ≡ Some u → value ((x, nested sig v) ∷ zip xs (map (nested sig) vs)) y ≡ Some u
      behind y m u h = by_test (same_variable x y) refl
        where
          by_test : (b : Bool) → same_variable x y ≡ b → cond b (Some (nested sig v)) (value (zip xs (map (nested sig) vs)) y) ≡ Some u
          by_test false e = h
          by_test true e = absurd (both_ways _ d.0 (subst (λ z. IsTrue (is_in z xs)) (sym (same_variable-is x y e)) m))

  module _ (k : ℕ) (owise : Bool) (s : Spot) (vs : List RawTerm) (t u : RawTerm) (h : IsStep M owise k s vs t u) (known : AreValuesKnown M k h.subst) where
    abbrev e : Statement
    e = h.statement

    ordinary : owise ≡ false
    ordinary = h.kind ∙ (work.statements k e h.is_there).ordinary

    step_values : AreWritten sig vs × AreAllTold vs
    step_values = values_written e.variables vs distinct h.values.size h.values.canonical each
      where
        variables_are : e.variables ≡ mentioned e
        variables_are = (work.statements k e h.is_there).variables

        distinct : AreDistinct e.variables
        distinct = subst AreDistinct (sym variables_are) (mentioned_distinct e)

        each : (x : Variable) → IsTrue (is_in x e.variables) → IsKnownAt sig (zip e.variables (map (nested sig) vs)) x
        each x m = subst (λ q. IsKnownAt sig q x) h.values.are (known e h.is_there x (sym (ap (is_in x) variables_are ∙ is_mentioned e x) ∙ m))

    values_count : IsCount (values_of M k) (length vs)
    values_count = subst (λ o. IsCount (option_map (λ (d : Statement). length d.variables) o) (length vs)) (sym h.is_there.is_there) h.values.size

    groups_count : (gs : Groups) → number_of_groups gs ≡ length (all_sides e.fragments) → IsCount (groups_of M k) (number_of_groups gs)
    groups_count gs size = subst (λ o. IsCount (option_map (λ (d : Statement). length (all_sides d.fragments)) o) (number_of_groups gs)) (sym h.is_there.is_there) size

  -- items that tell what is known
  mutual
    items_form : (n : ℕ) (is : Items) (t u : RawTerm) (ds : Dones) → Tells M is t u ds → AreDonesKnown M n ds → AreNarrowItems is → HaveForm M is × (most_wheres is ≤ n) × AreSmallItems is
    items_form n none t u ds h k w = (tt, omega arith, tt)
    items_form n (more i is) t u ds (v, d, es, e, a, b) k w =
        let both = subst (AreDonesKnown M n) e k in
        let (f, l, x) = item_form n i t v d a both.0 w.0 in
        let (g, m, y) = items_form n is v u es b both.1 w.1 in
        ((f, g), omega (arith, l, m), (x, y))

    item_form : (n : ℕ) (i : Item) (t v : RawTerm) (d : Done) → TellsOne M i t v d → IsDoneKnown M n d → IsNarrowItem i → HasForm M i × (wheres i ≤ n) × IsSmallItem i
    item_form n (step owise k s vs gs) t v d (h, rs, e, sides) known w =
        let both = subst (IsDoneKnown M n) e known in
        let values = step_values k owise s vs t v h both.0 in
        let (size, form, low, small) = groups_form n gs h.subst (all_sides h.statement.fragments) rs sides both.1 w.2 in
        let many = wheres_are owise k s vs gs in
        let few = w.0 in (
          (ordinary k owise s vs t v h both.0, take_form sig s.take _ _ h.replaces.part.taken, values.0, values_count k owise s vs t v h both.0, groups_count k owise s vs t v h both.0 gs size, form),
          omega (arith, many, low),
          (omega (arith, few), small_spot s w.1, values.1, small),
        )
    item_form n (built s) t v d (h, e) known w = (take_form sig s.take _ _ h.replaces.part.taken, omega arith, small_spot s w)

    groups_form : (n : ℕ) (gs : Groups) (s : Substitution) (ls : List RawTerm) (rs : Runs) → TellsSides M gs s ls rs → AreRunsKnown M n rs → AreNarrowGroups gs
        → (number_of_groups gs ≡ length ls) × GroupsHaveForm M gs × (wheres_with gs ≤ n) × AreSmallGroups gs
    groups_form n end s [] rs h known w = (refl, tt, omega arith, tt)
    groups_form n end s (l ∷ ls) rs h known w = absurd h
    groups_form n (group g gs) s [] rs h known w = absurd h
    groups_form zero (group g gs) s (l ∷ ls) rs (u, ds, qs, is, a, b) known w = absurd (subst (AreRunsKnown M zero) is known)
    groups_form (suc n) (group g gs) s (l ∷ ls) rs (u, ds, qs, is, a, b) known w =
        let both = subst (AreRunsKnown M (suc n)) is known in
        let (form, low, small) = items_form n g (normal_form sig (instance s l)) u ds a both.0 w.0 in
        let (size, forms, more_low, smalls) = groups_form (suc n) gs s ls qs b both.1 w.1 in
        let inner = inside gs n more_low in
        (ap suc size, (form, forms), omega (arith, low, inner), (small, smalls))

    inside : (gs : Groups) (n : ℕ) → wheres_with gs ≤ suc n → wheres_in gs ≤ n
    inside end n l = omega arith
    inside (group g gs) n l = omega (arith, l)

pub written_are_texts : WrittenAreTexts
written_are_texts d name text writable proper begins kept h =
    let M : Module = d.over in
    let sig : Signature = M.signature in
    let ok : IsAccepted sig = writable.workable.signature.accepted in
    let led = proof_known M writable.workable writable.identifiers d.rank d.proof (nested sig d.from) (nested sig d.to) kept.admitted kept.begins.raw begins in
    let known : AreDonesKnown M d.rank d.run = same_dones M d.rank d.run h.denotes.done h.denotes.same.2 (led.1 [] h.denotes.from h.denotes.to h.denotes.done h.denotes.carries) in
    let (form, low, small) = items_form M writable d.rank h.items d.from d.to d.run h.tells known h.narrow in
    let rank = kept.low in
    let from : IsWritten sig d.from = written M writable d.from (subst (IsCanonical sig) kept.begins.canonical (canonical sig ok (nested sig d.from))) kept.begins.raw (kept.begins.admitted, begins) in
    let to : IsWritten sig d.to = written M writable d.to (subst (IsCanonical sig) kept.ends.canonical (canonical sig ok (nested sig d.to))) kept.ends.raw (kept.ends.admitted, led.0) in
    record {
      items = h.items;
      cut = subst (λ bytes. HasTokens bytes (text_tokens sig 1 name d.from h.items d.to ++ codes "endproof" ∷ [])) (sym h.is) (text_lexed sig name d.from h.items d.to writable.whole proper from.told small to.told);
      is_text = record { name = name; is = refl; version_is = refl; begins = from; have_form = form; nested = omega (arith, low, rank); ends = to };
      tells = h.tells;
      passes = h.passes;
      narrow = h.narrow;
    }
