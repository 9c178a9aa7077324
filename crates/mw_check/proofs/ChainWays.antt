-- How far a chain of items has come, in its entries.
use Rattle.std.specs.Prelude.{◌≡◌, ◌≤◌, ℕ, suc, ◌-◌, List, ◌∷◌, ◌++◌, length, Option, Some, None}
use Rattle.std.proofs.Common.{get_or, take, drop, ap, sym, subst, ◌∙◌, arith}
use Rattle.mw_logic.specs.Term.{RawTerm}
use Rattle.mw_logic.specs.Signature.{Signature}
use Rattle.mw_logic.specs.Accepted.{IsAccepted}
use Rattle.mw_logic.specs.Module.{Module}
use Rattle.mw_redex.specs.declared.replacing.Place.{Place}
use Rattle.mw_prooftext.specs.Grounds.{spot_of}
use Rattle.mw_items.specs.Items.{Item, built, Items, more}
use Rattle.mw_items.specs.Entries.{entries_of, entries_of_item}
use Rattle.mw_items.specs.declared.Step.{Step as StepEntry}
use Rattle.mw_items.specs.declared.Entry.{Entry}
use Rattle.mw_items.specs.declared.Entry.TheVariants.{Step, Built}
use Rattle.mw_verdict.specs.Leads.{ItemsLead}
use Rattle.mw_verdict.specs.Verdicts as verdicts
use Rattle.mw_verdict.specs.Verdicts.{ChainAtFault, by_a_rule}
use Rattle.mw_check.specs.declared.answer.Answer.{Answer}
use Rattle.mw_check.specs.Chains.{HaveAdmittedValues, OpensNoGroup, BeginsItem, EndsItems, NamesRule, AreLeft, IsAnswerBefore}
use Rattle.mw_check.specs.Groups.{counted_both, next_of, AreAtFault, AreCounted, LeadsOn}
use Rattle.mw_check.proofs.ChainEntries.{front_and, values_behind, IsStepFirst, step_first, built_first, IsItemFirst, item_left, none_left, items_open_none, NamesRuleItself, rule_named, no_rule_named}
use Rattle.mw_check.proofs.ChainSteps.{begun, led_on, led_over}
use Rattle.mw_check.proofs.ChainAnswers.{answered_fault, answered_on}

-- the first entry of some
module _ (entries : List Entry) (x : Entry) (some : 1 ≤ length entries) (is : x ≡ get_or entries 0 x) where
  abbrev pub others : List Entry
  others = take (length entries - 1) (drop 1 entries)

  pub begin_so : (y : Entry) → x ≡ y → entries ≡ y ∷ others
  begin_so y e = subst (λ z. entries ≡ z ∷ others) e (front_and entries x some is)

  pub step_there : (s : StepEntry) → x ≡ Step s → (i : Item) (behind : List Entry) → entries ≡ entries_of_item i ++ behind → IsStepFirst s others i behind
  step_there s e i behind f = step_first s others i behind (sym (begin_so (Step s) e) ∙ f)

  pub built_there : (p : Place) → x ≡ Built p → (i : Item) (behind : List Entry) → entries ≡ entries_of_item i ++ behind → (i ≡ built (spot_of p)) × (others ≡ behind)
  built_there p e i behind f = built_first p others i behind (sym (begin_so (Built p) e) ∙ f)

  pub values_there : (sig : Signature) → HaveAdmittedValues sig entries → HaveAdmittedValues sig others
  values_there sig h = values_behind sig x others (subst (HaveAdmittedValues sig) (front_and entries x some is) h)

  pub others_within : length others ≤ length entries
  others_within = let e : length entries ≡ suc (length others) = ap length (front_and entries x some is) in omega (arith, e)

-- entries that are left
pub left_on : {sig : Signature} {a b c : List Entry} → AreLeft sig b c → length b ≤ length a → AreLeft sig a c
left_on h l = record { values = h.values; within = omega (arith, h.within, l) }

module _ (M : Module) (most n : ℕ) (t : RawTerm) (items : Items) (rest : List Entry) where
  -- the items left stand there, and the chain leads on to them
  abbrev pub IsWay : RawTerm → List Entry → Option ℕ → Type 0
  IsWay v left count = (is : Items) × (left ≡ entries_of is ++ rest) × LeadsOn M most n t items v is count

  pub way_begins : (v : RawTerm) (entries : List Entry) → v ≡ t → entries ≡ entries_of items ++ rest → IsWay v entries (Some 0)
  way_begins v entries p e = (items, e, subst (λ u. LeadsOn M most n t items u items (Some 0)) (sym p) (begun M most n t items))

  module _ (v : RawTerm) (left : List Entry) (count : Option ℕ) (way : IsWay v left count) (over : EndsItems rest) where
    pub way_over : (BeginsItem left → ⊥) → ItemsLead M items t v × AreCounted M most n t items v count × (left ≡ rest)
    way_over off =
        let (e, l) = none_left left way.0 rest way.1 off in
        let (x, y) = led_over M most n t v items count (subst (λ is. LeadsOn M most n t items v is count) e way.2) in
        (x, y, l)

    module _ (on : BeginsItem left) where
      abbrev here : IsItemFirst left way.0 rest
      here = item_left left way.0 rest way.1 over on

      abbrev behind : List Entry
      behind = entries_of here.others ++ rest

      faulty : AreAtFault M most n v (more here.item here.others) → AreAtFault M most n t items
      faulty f = way.2.faults (subst (AreAtFault M most n v) (sym here.is) f)

      pub way_rule : NamesRule M left → AreAtFault M most n t items
      way_rule r = faulty (named_rule (rule_named M here.item behind (subst (NamesRule M) here.stand r)))
        where
          named_rule : NamesRuleItself M here.item → AreAtFault M most n v (more here.item here.others)
          named_rule h l e = subst (λ i. ChainAtFault M most n l (more i here.others)) (sym h.is) (by_a_rule verdicts.first h.rule.1 h.rule.2)

      module _ (ok : IsAccepted M.signature) (a : Answer) (after : List Entry) (told : (i : Item) (es : List Entry) → left ≡ entries_of_item i ++ es → OpensNoGroup es → IsAnswerBefore M most n i es v a after) where
        abbrev told_here : IsAnswerBefore M most n here.item behind v a after
        told_here = told here.item behind here.stand (items_open_none here.others rest over)

        pub way_fault : next_of a ≡ None → AreAtFault M most n t items
        way_fault e = faulty (answered_fault M ok most n here.item here.others behind v a after told_here e)

        pub way_on : (NamesRule M left → ⊥) → (w : RawTerm) (c total : Option ℕ) → next_of a ≡ Some (w, c) → total ≡ counted_both count c → IsWay w after total
        way_on f w c total e p =
            let (x, l) = answered_on M ok most n here.item here.others behind v (no_rule_named M here.item behind (λ r. f (subst (NamesRule M) (sym here.stand) r))) a after w c told_here e in (
              here.others,
              l,
              subst (λ k. LeadsOn M most n t items w here.others k) (sym p) (led_on M most n t v w items way.0 here.others count c way.2 (subst (λ is. LeadsOn M most n v is w here.others c) (sym here.is) x)),
            )
