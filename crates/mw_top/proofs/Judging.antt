-- What is known of a proof text that was read.
use Rattle.std.proofs.Common.{◌≡◌, ◌∙◌, ◌≤◌, ◌++◌, ℕ, suc, Bool, true, false, not, List, [], ◌∷◌, length, get_or, None, Ok, bytes_eq, refl, ap, subst, sym, arith}
use Rattle.std.proofs.lemmas.Slice.Eq.{bytes_eq-Decides}
use Rattle.std.specs.Prelude.{codes}
use Rattle.mw_lex.specs.declared.token.Token.{Token}
use Rattle.mw_module.specs.Words.{texts}
use Rattle.mw_module.specs.Units.{SeenUnit}
use Rattle.mw_block.specs.Verdicts.{verdict_line}
use Rattle.mw_logic.specs.Term.{RawTerm}
use Rattle.mw_logic.specs.Signature.{Signature}
use Rattle.mw_logic.specs.Module.{Module}
use Rattle.mw_items.specs.Items.{Item, step, built, Items, none, more, Groups, end, group}
use Rattle.mw_items.specs.Entries.{entries_of, entries_of_item, entries_of_groups}
use Rattle.mw_items.specs.declared.Entry.{Entry}
use Rattle.mw_items.specs.declared.Entry.TheVariants.{Step, Built, Open, Close}
use Rattle.mw_items.specs.declared.ProofText.{ProofText}
use Rattle.mw_proofread.specs.Reading.{AreWritten, HasForm, HaveForm, GroupsHaveForm, IsText, entry_item, entry_items, entry_groups}
use Rattle.mw_check.specs.Answers.{AreAdmittedTerms}
use Rattle.mw_check.specs.Chains.{HaveAdmittedValues}
use Rattle.mw_check.specs.declared.checking.Verdict.{Verdict}
use Rattle.mw_top.specs.Proofs.{HasAdmittedTerms, HasName, IsProofAnswer, is_no}
use Rattle.mw_top.specs.Sources.{Loaded, with_proof, name_of, IsProof, Gives, judged}
use Rattle.mw_top.specs.declared.purpose.Purpose.TheVariants.{Check}

admitted_terms : (sig : Signature) (ts : List RawTerm) → AreWritten sig ts → AreAdmittedTerms sig ts
admitted_terms sig [] h = tt
admitted_terms sig (t ∷ ts) h = (h.0.admitted, admitted_terms sig ts h.1)

behind : (sig : Signature) (es fs : List Entry) → HaveAdmittedValues sig es → HaveAdmittedValues sig fs → HaveAdmittedValues sig (es ++ fs)
behind sig [] fs h k = k
behind sig (Step s ∷ es) fs h k = (h.0, behind sig es fs h.1 k)
behind sig (Built p ∷ es) fs h k = behind sig es fs h k
behind sig (Open ∷ es) fs h k = behind sig es fs h k
behind sig (Close ∷ es) fs h k = behind sig es fs h k

module _ (M : Module) where
  mutual
    values_admitted : (is : Items) → HaveForm M is → HaveAdmittedValues M.signature (entries_of (entry_items is))
    values_admitted none h = tt
    values_admitted (more i is) h = behind M.signature (entries_of_item (entry_item i)) (entries_of (entry_items is)) (item_admitted i h.0) (values_admitted is h.1)

    item_admitted : (i : Item) → HasForm M i → HaveAdmittedValues M.signature (entries_of_item (entry_item i))
    item_admitted (step owise k s vs gs) (o, take, written, values, groups, rest) = (admitted_terms M.signature vs written, groups_admitted gs rest)
    item_admitted (built s) h = tt

    groups_admitted : (gs : Groups) → GroupsHaveForm M gs → HaveAdmittedValues M.signature (entries_of_groups (entry_groups gs))
    groups_admitted end h = tt
    groups_admitted (group g gs) h =
        behind M.signature (entries_of (entry_items g)) (Close ∷ entries_of_groups (entry_groups gs)) (values_admitted g h.0) (groups_admitted gs h.1)

  pub text_admitted : (tokens : List (List ℕ)) (version : ℕ) (text : ProofText) (items : Items) → IsText M tokens version text.from items text.to → text.entries ≡ entries_of (entry_items items)
      → HasAdmittedTerms M.signature text
  text_admitted tokens version text items is e = record {
    from = is.begins.admitted;
    to = is.ends.admitted;
    values = subst (HaveAdmittedValues M.signature) (sym e) (values_admitted items is.have_form);
  }

-- the first words of a text
pub has_name : (ts : List Token) (first second name : Token) → 4 ≤ length ts → first ≡ get_or ts 0 first → second ≡ get_or ts 2 second → name ≡ get_or ts 3 name
    → first.text ≡ codes "proof" → second.text ≡ codes "in" → HasName (texts ts) name.text
has_name [] first second name l a b d e f = absurd (omega (arith, l))
has_name (t ∷ []) first second name l a b d e f = absurd (omega (arith, l))
has_name (t ∷ u ∷ []) first second name l a b d e f = absurd (omega (arith, l))
has_name (t ∷ u ∷ v ∷ []) first second name l a b d e f = absurd (omega (arith, l))
has_name (t ∷ u ∷ v ∷ w ∷ ts) first second name l a b d e f = record { version = u.text; rest = texts ts; is = cc }

-- words that aren't found to differ
pub equal_words : (a b : List ℕ) → not (bytes_eq a b) ≡ false → a ≡ b
equal_words a b e = (bytes_eq-Decides a b).0 (of (bytes_eq a b) e)
  where
    of : (x : Bool) → not x ≡ false → x ≡ true
    of true h = refl
    of false h = cc

-- what a proof's unit gives
pub judged_gives : (max : ℕ) (before inside : Loaded) (u : SeenUnit) (v : Verdict) (number : ℕ) (text : List ℕ) (bad : Bool) → name_of u ≡ None → IsProof u → inside ≡ before → number ≡ suc inside.proofs
    → text ≡ verdict_line number v → bad ≡ is_no v → IsProofAnswer before.modules max u.tokens v
    → Gives (Check max) before (Ok u) text bad (record { units = inside.units; modules = inside.modules; proofs = number })
judged_gives max before inside u v number text bad unnamed proof same n t b is =
    let m : number ≡ suc before.proofs = n ∙ ap (λ (l : Loaded). suc l.proofs) same in
    subst (λ (l : Loaded). Gives (Check max) before (Ok u) text bad (record { units = l.units; modules = l.modules; proofs = number })) (sym same)
    (subst (λ k. Gives (Check max) before (Ok u) text bad (record { units = before.units; modules = before.modules; proofs = k })) (sym m)
    (subst (λ x. Gives (Check max) before (Ok u) x bad (with_proof before)) (sym (t ∙ ap (λ k. verdict_line k v) m))
    (subst (λ c. Gives (Check max) before (Ok u) (verdict_line (suc before.proofs) v) c (with_proof before)) (sym b) (judged max u v refl unnamed proof is))))
