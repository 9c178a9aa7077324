-- Items that are checked one after another.
use Rattle.std.specs.Prelude.{◌≡◌, ◌≢◌, ◌==◌, ℕ, suc, ◌+◌, List, [], ◌++◌, length, Bool, true, false, Option, refl}
use Rattle.std.proofs.Common.{ap, sym, subst, ◌∙◌, arith, add_assoc}
use Rattle.std.proofs.lemmas.Bool.{both_ways, eqb-true}
use Rattle.std.proofs.lemmas.List.{nil_from_length}
use Rattle.mw_logic.specs.Term.{RawTerm}
use Rattle.mw_logic.specs.Parts.{nested, IsAdmitted}
use Rattle.mw_logic.specs.Module.{Module}
use Rattle.mw_logic.specs.WellFormed.{IsWellFormed}
use Rattle.mw_canon.specs.Canonical.{IsAdmittedTerm}
use Rattle.mw_deduction.specs.Runs.{Done, Dones, both, one}
use Rattle.mw_deduction.specs.Runs as runs
use Rattle.mw_proof.specs.Counting.{capped}
use Rattle.mw_items.specs.Items.{Item, step, built, Items, none, more, with_item}
use Rattle.mw_items.specs.Entries.{entries_of, entries_of_item}
use Rattle.mw_items.specs.declared.Entry.{Entry}
use Rattle.mw_verdict.specs.Checks.{Checks, nothing, then, ChecksOne}
use Rattle.mw_verdict.specs.Verdicts as verdicts
use Rattle.mw_verdict.specs.Verdicts.{Splits, first, later, number_of, Refuses, IsNo, in_item, at_end}
use Rattle.mw_verdict.proofs.Proving.{checked}
use Rattle.mw_check.specs.declared.answer.Cause.{Cause}
use Rattle.mw_check.specs.declared.answer.Answer.{Answer}
use Rattle.mw_check.specs.declared.answer.Answer.TheVariants as answer
use Rattle.mw_check.specs.Answers.{cause_of}
use Rattle.mw_check.specs.Chains.{OpensNoGroup, IsAnswerBefore}
use Rattle.mw_check.specs.Whole.{IsDeductionOf}

-- items, and others behind them
abbrev pub joined : Items → Items → Items
joined none js = js
joined (more i is) js = more i (joined is js)

joined-none : (is : Items) → joined is none ≡ is
joined-none none = refl
joined-none (more i is) = ap (more i) (joined-none is)

joined-with : (is : Items) (i : Item) (js : Items) → joined (with_item is i) js ≡ joined is (more i js)
joined-with none i js = refl
joined-with (more j is) i js = ap (more j) (joined-with is i js)

number-with : (is : Items) (i : Item) → number_of (with_item is i) ≡ suc (number_of is)
number-with none i = refl
number-with (more j is) i = ap suc (number-with is i)

splits_there : (before : Items) (i : Item) (rest : Items) → Splits before i rest (joined before (more i rest))
splits_there none i rest = first
splits_there (more j before) i rest = later (splits_there before i rest)

-- one more is checked
module _ (M : Module) (n : ℕ) where
  checks_one_more : {is : Items} {t v u : RawTerm} {r c q d : ℕ} {ds : Dones} {i : Item} {x : Done} → Checks M n is t v r c ds → ChecksOne M n i v u q d x → IsAdmitted M.signature (nested M.signature u)
      → Checks M n (with_item is i) t u (r + q) (c + d) (both ds (one x))
  checks_one_more {u = u} {q = q} {d = d} {i = i} {x = x} (nothing {t = t}) one a =
      subst (λ k. Checks M n (more i none) t u (0 + q) k (runs.more x runs.none)) (omega arith) (subst (λ k. Checks M n (more i none) t u k (d + 0) (runs.more x runs.none)) (omega arith) (then one a nothing))
  checks_one_more {t = t} {u = u} {q = q} {d = d} {i = i} {x = x} (then {q = p} {r = r} {c = c} {d = e} {i = j} {is = is} {x = y} {ds = ds} h b rest) one a =
      subst (λ k. Checks M n (more j (with_item is i)) t u (p + r + q) k (runs.more y (both ds (runs.more x runs.none)))) (sym (add_assoc c e d))
      (subst (λ k. Checks M n (more j (with_item is i)) t u k (c + (e + d)) (runs.more y (both ds (runs.more x runs.none)))) (sym (add_assoc p r q)) (then h b (checks_one_more rest one a)))

-- the entries of an item don't begin a group
starts_none : (is : Items) → OpensNoGroup (entries_of is)
starts_none none = tt
starts_none (more (step owise k s vs gs) is) = tt
starts_none (more (built s) is) = tt

-- some entries are those of a first item and others
pub record HasFirst (items : Items) : Type 0 where
  pub item : Item
  pub others : Items
  pub is : items ≡ more item others

has_first : (is : Items) → entries_of is ≢ [] → HasFirst is
has_first none d = absurd (d refl)
has_first (more i is) d = record { item = i; others = is; is = refl }

none_left : (is : Items) → entries_of is ≡ [] → is ≡ none
none_left none e = refl
none_left (more (step owise k s vs gs) is) e = cc
none_left (more (built s) is) e = cc

-- Items are checked up to here: some of them lead to t, in so many replacements, and the others' entries are left. The next one has this number.
pub record IsUnderway (M : Module) (from : RawTerm) (items : Items) (left : List Entry) (t : RawTerm) (number count : ℕ) : Type 0 where
  pub before : Items
  pub rest : Items
  pub together : items ≡ joined before rest
  pub left_is : left ≡ entries_of rest
  pub rules : ℕ
  pub replacements : ℕ
  pub run : Dones
  pub checks : Checks M 63 before from t rules replacements run
  pub number_is : number ≡ suc (number_of before)
  pub count_is : count ≡ capped replacements

-- what is told of the first item of what is left, whichever it is
abbrev pub IsToldOfFirst : Module → ℕ → List Entry → RawTerm → Answer → List Entry → Type 0
IsToldOfFirst M most left t a after = (i : Item) (behind : List Entry) → left ≡ entries_of_item i ++ behind → OpensNoGroup behind → IsAnswerBefore M most 63 i behind t a after

module _ (M : Module) (from : RawTerm) (items : Items) where
  pub begun : (left : List Entry) (t : RawTerm) → left ≡ entries_of items → t ≡ from → IsUnderway M from items left t 1 0
  begun left t e f = record {
    before = none;
    rest = items;
    together = refl;
    left_is = e;
    rules = 0;
    replacements = 0;
    run = runs.none;
    checks = subst (λ u. Checks M 63 none from u 0 0 runs.none) (sym f) nothing;
    number_is = refl;
    count_is = refl;
  }

  module _ (left : List Entry) (t : RawTerm) (number count : ℕ) (u : IsUnderway M from items left t number count) (over : Bool) (is_over : over ≡ (length left == 0)) where
    -- nothing is left
    module _ (yes : over ≡ true) where
      nothing_left : left ≡ []
      nothing_left = nil_from_length left (eqb-true (length left) 0 (sym is_over ∙ yes))

      all_before : u.before ≡ items
      all_before = sym (u.together ∙ ap (joined u.before) (none_left u.rest (sym u.left_is ∙ nothing_left)) ∙ joined-none u.before)

      pub all_checked : Checks M 63 items from t u.rules u.replacements u.run
      all_checked = subst (λ is. Checks M 63 is from t u.rules u.replacements u.run) all_before u.checks

      pub one_more_than_all : number ≡ suc (number_of items)
      one_more_than_all = u.number_is ∙ ap (λ is. suc (number_of is)) all_before

    -- an item is, and this is told of it
    module _ (no : over ≡ false) (most : ℕ) (to : RawTerm) (a : Answer) (after : List Entry) (told : IsToldOfFirst M most left t a after) where
      has : HasFirst u.rest
      has = has_first u.rest (λ e. both_ways over no (is_over ∙ ap (λ es. length es == 0) (u.left_is ∙ e)))

      whole : items ≡ joined u.before (more has.item has.others)
      whole = u.together ∙ ap (joined u.before) has.is

      is_told : (b : Answer) → a ≡ b → IsAnswerBefore M most 63 has.item (entries_of has.others) t b after
      is_told b e = subst (λ x. IsAnswerBefore M most 63 has.item (entries_of has.others) t x after) e (told has.item (entries_of has.others) (u.left_is ∙ ap entries_of has.is) (starts_none has.others))

      refuses_there : (c : verdicts.Cause) → Refuses M most 63 has.item t c → IsNo M most from to items number c
      refuses_there c r =
          let splits : Splits u.before has.item has.others items = subst (Splits u.before has.item has.others) (sym whole) (splits_there u.before has.item has.others) in
          subst (λ n. IsNo M most from to items n c) (sym u.number_is) (in_item splits u.checks r)

      pub refused : (c : Cause) → a ≡ answer.Refused c → IsNo M most from to items number (cause_of c)
      refused c e = refuses_there (cause_of c) (is_told (answer.Refused c) e).0

      pub stopped_there : (next : Option RawTerm) → a ≡ answer.Stopped next → IsNo M most from to items number verdicts.stopped
      stopped_there next e = refuses_there verdicts.stopped (is_told (answer.Stopped next) e).0.0

      pub passed : (v : RawTerm) (n sum : ℕ) → a ≡ answer.Passed v n → sum ≡ capped (count + n) → IsUnderway M from items after v (number + 1) sum
      passed v n sum e f =
          let (p, left_is) = is_told (answer.Passed v n) e in
          record {
            before = with_item u.before has.item;
            rest = has.others;
            together = whole ∙ sym (joined-with u.before has.item has.others);
            left_is = left_is;
            rules = u.rules + p.rules;
            replacements = u.replacements + p.replacements;
            run = both u.run (one p.done);
            checks = checks_one_more M 63 u.checks p.checks p.admitted.admitted;
            number_is = one_more number ∙ ap suc u.number_is ∙ sym (ap suc (number-with u.before has.item));
            count_is = f ∙ ap (λ k. capped (k + n)) u.count_is ∙ ap (λ k. capped (capped u.replacements + k)) p.count_is ∙ counted u.replacements p.replacements;
          }
        where
          one_more : (n : ℕ) → n + 1 ≡ suc n
          one_more n = omega arith

          counted : (a b : ℕ) → capped (capped a + capped b) ≡ capped (a + b)
          counted a b = omega arith

-- A deduction: a well-formed module has a proof of what is checked.
pub deduced : (M : Module) → IsWellFormed M → (from to : RawTerm) (items : Items) (r c count : ℕ) (run : Dones) → IsAdmittedTerm M.signature from → Checks M 63 items from to r c run → count ≡ capped c → IsDeductionOf M from to items count
deduced M wf from to items r c count run a h e = record {
  rules = r;
  replacements = c;
  run = run;
  checks = h;
  proof = checked M wf 63 items from to r c run a h;
  count_is = e;
}

pub another_end : (M : Module) (most : ℕ) (from to t : RawTerm) (items : Items) (r c number : ℕ) (run : Dones) → Checks M 63 items from t r c run → number ≡ suc (number_of items) → t ≢ to → IsNo M most from to items number verdicts.not_the_end
another_end M most from to t items r c number run h e d = subst (λ n. IsNo M most from to items n verdicts.not_the_end) (sym e) (at_end h d)
