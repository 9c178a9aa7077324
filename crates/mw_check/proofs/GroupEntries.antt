-- Which groups stand as entries, and what stands behind one.
use Rattle.std.specs.Prelude.{◌≡◌, ℕ, suc, List, ◌∷◌, ◌++◌, Some, refl}
use Rattle.std.proofs.Common.{ap, sym, subst, ◌∙◌, append_assoc}
use Rattle.mw_items.specs.Items.{Item, step, built, Items, none, more, Groups, end, group}
use Rattle.mw_items.specs.Entries.{entries_of, entries_of_item, entries_of_groups}
use Rattle.mw_items.specs.declared.Entry.{Entry}
use Rattle.mw_items.specs.declared.Entry.TheVariants.{Open, Close}
use Rattle.mw_check.specs.Chains.{OpensNoGroup}
use Rattle.mw_check.specs.Groups.{after_close}

same_behind : {d e : Entry} {es fs : List Entry} → d ∷ es ≡ e ∷ fs → es ≡ fs
same_behind e = cc

-- a group stands behind the entry that opens it
pub record IsGroupFirst (inside : List Entry) (gs : Groups) (rest : List Entry) : Type 0 where
  pub items : Items
  pub others : Groups
  pub is : gs ≡ group items others
  pub stand : inside ≡ entries_of items ++ (Close ∷ (entries_of_groups others ++ rest))

pub group_first : (inside : List Entry) (gs : Groups) (rest : List Entry) → Open ∷ inside ≡ entries_of_groups gs ++ rest → OpensNoGroup rest → IsGroupFirst inside gs rest
group_first inside end rest e n = absurd (subst OpensNoGroup (sym e) n)
group_first inside (group g gs) rest e n = record {
  items = g;
  others = gs;
  is = refl;
  stand = same_behind e ∙ append_assoc (entries_of g) (Close ∷ entries_of_groups gs) rest;
}

-- Where none is opened there is none.
pub groups_over : (es : List Entry) (gs : Groups) (rest : List Entry) → es ≡ entries_of_groups gs ++ rest → OpensNoGroup es → (gs ≡ end) × (es ≡ rest)
groups_over es end rest e n = (refl, e)
groups_over es (group g gs) rest e n = absurd (subst OpensNoGroup e n)

-- items have as many entries that open groups as entries that close them, and never fewer that open before
mutual
  pub passed_items : (d : ℕ) (items : Items) (es : List Entry) → after_close d (entries_of items ++ es) ≡ after_close d es
  passed_items d none es = refl
  passed_items d (more i is) es = ap (after_close d) (append_assoc (entries_of_item i) (entries_of is) es) ∙ passed_item d i (entries_of is ++ es) ∙ passed_items d is es

  passed_item : (d : ℕ) (i : Item) (es : List Entry) → after_close d (entries_of_item i ++ es) ≡ after_close d es
  passed_item d (step owise k at vs gs) es = passed_groups d gs es
  passed_item d (built at) es = refl

  passed_groups : (d : ℕ) (gs : Groups) (es : List Entry) → after_close d (entries_of_groups gs ++ es) ≡ after_close d es
  passed_groups d end es = refl
  passed_groups d (group g gs) es =
      ap (after_close (suc d)) (append_assoc (entries_of g) (Close ∷ entries_of_groups gs) es) ∙ passed_items (suc d) g (Close ∷ (entries_of_groups gs ++ es)) ∙ passed_groups d gs es

same_some : {A : Type 0} {x y : A} → Some x ≡ Some y → x ≡ y
same_some e = cc

-- so what is skipped is the group
pub skipped_group : (inside left : List Entry) (items : Items) (behind : List Entry) → Some left ≡ after_close 0 inside → inside ≡ entries_of items ++ (Close ∷ behind) → left ≡ behind
skipped_group inside left items behind e f = same_some (e ∙ ap (after_close 0) f ∙ passed_items 0 items (Close ∷ behind))
