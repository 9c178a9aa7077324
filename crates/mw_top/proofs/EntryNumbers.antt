-- Where items are checked each number names what is there: none is 2^32 or more, so entries tell the items as the text does.
use Rattle.std.specs.Prelude.{◌≡◌, ◌≢◌, ◌≤◌, ◌^◌, ℕ, suc, nat_lt, cond, Bool, true, false, List, [], ◌∷◌, map, Option, Some, None, option_map, option_and_then, refl}
use Rattle.std.proofs.Common.{sym, subst, ap, ◌∙◌, arith}
use Rattle.std.proofs.lemmas.Option.{none-some}
use Rattle.mw_logic.specs.Term.{RawTerm}
use Rattle.mw_logic.specs.Signature.{Signature, at_number}
use Rattle.mw_logic.specs.Module.{Module, Fragment}
use Rattle.mw_logic.specs.Substitution.{Substitution}
use Rattle.mw_arguments.specs.Places.{Rise}
use Rattle.mw_deduction.specs.Runs.{Done, Dones, Runs}
use Rattle.mw_redex.specs.Paths.{argument, at_path}
use Rattle.mw_redex.specs.Replaced.{IsTaken, IsPartAt}
use Rattle.mw_items.specs.Items.{Spot, Item, step, built, Items, none, more, Groups, end, group}
use Rattle.mw_verdict.specs.Checks.{Checks, ChecksOne, AreEvaluated, Shown, then, by_statement, by_row, evaluated, a_side, conditional}
use Rattle.mw_proofread.specs.Numbers.{entry_number}
use Rattle.mw_proofread.specs.Reading.{entry_spot, entry_item, entry_items, entry_groups}
use Rattle.mw_check.specs.Whole.{IsDeductionOf, IsVerdictOf}
use Rattle.mw_check.specs.declared.checking.Verdict.{Verdict}
use Rattle.mw_check.specs.declared.checking.Verdict.TheVariants.{Yes, No}
use Rattle.mw_top.specs.Proofs.{IsVerdictOn}

-- a number that an entry doesn't tell as 0 is told
number_kept : (n : ℕ) → entry_number n ≢ 0 → entry_number n ≡ n
number_kept n h = by_test (nat_lt n (2 ^ 32)) h
  where
    by_test : (b : Bool) → cond b n 0 ≢ 0 → cond b n 0 ≡ n
    by_test true h = refl
    by_test false h = absurd (h refl)

nothing_at : {X : Type 0} (xs : List X) (k : ℕ) (x : X) → at_number xs k ≡ Some x → k ≢ 0
nothing_at xs k x e z = none-some x (sym (ap (at_number xs) z) ∙ e)

path_kept : (path : List ℕ) (t u : RawTerm) → at_path t (map entry_number path) ≡ Some u → map entry_number path ≡ path
path_kept [] t u e = refl
path_kept (k ∷ path) t u e = by_argument (λ v. path_kept path v u) (argument t (entry_number k)) refl e
  where
    by_argument : ((v : RawTerm) → at_path v (map entry_number path) ≡ Some u → map entry_number path ≡ path) → (o : Option RawTerm) → argument t (entry_number k) ≡ o
        → option_and_then (λ v. at_path v (map entry_number path)) o ≡ Some u → entry_number k ∷ map entry_number path ≡ k ∷ path
    by_argument further None a b = absurd (none-some u b)
    by_argument further (Some v) a b =
        let first : entry_number k ≡ k = number_kept k (nothing_at _ (entry_number k) v a) in
        let rest : map entry_number path ≡ path = further v b in
        λ x. first x ∷ rest x

numbers_kept : (i n : ℕ) (ks : List ℕ) → 1 ≤ i → Rise i n (map entry_number ks) → map entry_number ks ≡ ks
numbers_kept i n [] h r = refl
numbers_kept i n (k ∷ ks) h r =
    let low : i ≤ entry_number k = r.0 in
    let first : entry_number k ≡ k = number_kept k (λ z. omega (arith, h, low, z)) in
    let rest : map entry_number ks ≡ ks = numbers_kept (suc (entry_number k)) n ks (omega arith) r.2 in
    λ x. first x ∷ rest x

take_kept : (sig : Signature) (take : Option (List ℕ)) (t w : RawTerm) → IsTaken sig (option_map (map entry_number) take) t w → option_map (map entry_number) take ≡ take
take_kept sig None t w h = refl
take_kept sig (Some ks) t w h = ap Some (numbers_kept 1 _ ks (omega arith) h.rise)

spot_kept : (sig : Signature) (s : Spot) (t w : RawTerm) → IsPartAt sig (entry_spot s).path (entry_spot s).take t w → entry_spot s ≡ s
spot_kept sig s t w h =
    let path : map entry_number s.path ≡ s.path = path_kept s.path t h.end h.there in
    let take : option_map (map entry_number) s.take ≡ s.take = take_kept sig s.take h.end w h.taken in
    λ x. record { path = path x; take = take x }

module _ (M : Module) where
  -- a group in front, where what is in it is kept, and what stands behind it
  group_kept : (n : ℕ) (g : Items) (gs : Groups) → ((t u : RawTerm) (r c : ℕ) (ds : Dones) → Checks M n (entry_items g) t u r c ds → entry_items g ≡ g)
      → ((s : Substitution) (ls xs : List RawTerm) (rs : Runs) (c : ℕ) → AreEvaluated M n s ls (entry_groups gs) xs rs c → entry_groups gs ≡ gs)
      → (s : Substitution) (ls xs : List RawTerm) (rs : Runs) (c : ℕ) → AreEvaluated M n s ls (group (entry_items g) (entry_groups gs)) xs rs c → group (entry_items g) (entry_groups gs) ≡ group g gs
  group_kept n g gs first rest s ls xs rs c (a_side (evaluated raw admitted checks normal) others) =
      let items : entry_items g ≡ g = first _ _ _ _ _ checks in
      let groups : entry_groups gs ≡ gs = rest _ _ _ _ _ others in
      λ x. group (items x) (groups x)

  mutual
    items_kept : (n : ℕ) (is : Items) (t u : RawTerm) (r c : ℕ) (ds : Dones) → Checks M n (entry_items is) t u r c ds → entry_items is ≡ is
    items_kept n none t u r c ds h = refl
    items_kept n (more i is) t u r c ds (then one admitted others) =
        let first : entry_item i ≡ i = item_kept n i _ _ _ _ _ one in
        let rest : entry_items is ≡ is = items_kept n is _ _ _ _ _ others in
        λ x. more (first x) (rest x)

    item_kept : (n : ℕ) (i : Item) (t v : RawTerm) (r c : ℕ) (d : Done) → ChecksOne M n (entry_item i) t v r c d → entry_item i ≡ i
    item_kept n (step owise k s vs gs) t v r c d (by_statement h sub binds replaces takes plain shown) =
        let number : entry_number k ≡ k = number_kept k (nothing_at M.statements (entry_number k) h.statement h.is_there.is_there) in
        let spot : entry_spot s ≡ s = spot_kept M.signature s t _ replaces.part in
        let groups : entry_groups gs ≡ gs = groups_kept n gs _ _ _ _ shown in
        λ x. step owise (number x) (spot x) vs (groups x)
    item_kept n (built s) t v r c d (by_row row takes) = ap built (spot_kept M.signature s t _ row.replaces.part)

    groups_kept : (n : ℕ) (gs : Groups) (C : List Fragment) (s : Substitution) (rs : Runs) (c : ℕ) → Shown M n C s (entry_groups gs) rs c → entry_groups gs ≡ gs
    groups_kept n end C s rs c h = refl
    groups_kept n (group g gs) C s rs c (conditional {n = m} sides met) =
        group_kept m g gs (λ t u r k ds h. items_kept m g t u r k ds h) (λ q ls xs rs k h. sides_kept m gs q ls xs rs k h) _ _ _ _ _ sides

    sides_kept : (n : ℕ) (gs : Groups) (s : Substitution) (ls xs : List RawTerm) (rs : Runs) (c : ℕ) → AreEvaluated M n s ls (entry_groups gs) xs rs c → entry_groups gs ≡ gs
    sides_kept n end s ls xs rs c h = refl
    sides_kept n (group g gs) s ls xs rs c h =
        group_kept n g gs (λ t u r k ds x. items_kept n g t u r k ds x) (λ q ls xs rs k x. sides_kept n gs q ls xs rs k x) s ls xs rs c h

-- so what is said of items as entries tell them is said of those of the text, where it is yes
pub verdict_on : (M : Module) (max : ℕ) (from to : RawTerm) (items : Items) (v : Verdict) → IsVerdictOf M max from to (entry_items items) v → IsVerdictOn M max from to items v
verdict_on M max from to items (Yes f t count) h = (h.0, h.1, subst (λ is. IsDeductionOf M from to is count) (items_kept M 63 items from to _ _ _ h.2.checks) h.2)
verdict_on M max from to items (No at why) h = h
