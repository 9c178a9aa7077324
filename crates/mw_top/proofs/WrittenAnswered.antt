-- What was written of a kept proof is answered yes, or no for a condition or a stop alone.
use Rattle.std.specs.Prelude.{◌≡◌, ◌<◌, ◌^◌, ◌++◌, ℕ, cond, List, [], ◌∷◌, map, length, codes, All, false, Option, Some, None, option_map, refl}
use Rattle.std.proofs.Common.{sym, subst, ap, ◌∙◌, inl, inr}
use Rattle.std.proofs.lemmas.Bool.{lt-ltb}
use Rattle.std.proofs.lemmas.Option.{none-some, same_Some}
use Rattle.mw_lex.specs.declared.token.Token.{Token}
use Rattle.mw_lex.specs.Texts.{IsProper, IsTokenText}
use Rattle.mw_logic.specs.Term.{RawTerm, constant}
use Rattle.mw_logic.specs.Signature.{Signature, SameKind, Member}
use Rattle.mw_logic.specs.Accepted.{IsAccepted}
use Rattle.mw_logic.specs.Axioms.{EqualModulo}
use Rattle.mw_logic.specs.Parts.{nested}
use Rattle.mw_logic.specs.NormalForm.{normal_form}
use Rattle.mw_logic.specs.Module.{Module, Fragment, equal, matches, has_sort, is_true, AreKindsOf}
use Rattle.mw_logic.proofs.KindLaws.{SameKind-trans, SameKind-sym}
use Rattle.mw_logic.proofs.Soundness.{normal_form-sound}
use Rattle.mw_poset.proofs.Members.{member-all}
use Rattle.mw_text.specs.Proper.{HasIdentifiers}
use Rattle.mw_text.proofs.Identifiers.{spelled_identifiers}
use Rattle.mw_text.proofs.RawTerms.{spelled_raw}
use Rattle.mw_module.specs.Words.{texts}
use Rattle.mw_carry.specs.Laws.{AreAlike, OperatorsApart}
use Rattle.mw_declare.proofs.Accepting.{apart_declared}
use Rattle.mw_build.specs.Modules.{Accepted, flattened, reached_of}
use Rattle.mw_build.specs.Statements.{terms_of}
use Rattle.mw_build.specs.Printing.{IsOfTexts, IsPrintableTerm}
use Rattle.mw_build.proofs.Printing.{spellings_are_whole, statements_are_printable}
use Rattle.mw_build.proofs.Working.{accepted_workable}
use Rattle.mw_omod.specs.Declaring.{declared_unit}
use Rattle.mw_proof.specs.Deductions.{Deduction}
use Rattle.mw_items.specs.Items.{Spot, Item, step, built, Items, none, more, Groups, end, group}
use Rattle.mw_prooftext.specs.Passing.{Passes}
use Rattle.mw_prooftext.specs.Narrow.{AreNarrow, IsNarrowTake, IsNarrowSpot, IsNarrowItem, AreNarrowItems, AreNarrowGroups}
use Rattle.mw_proofread.specs.Numbers.{number_text, entry_number}
use Rattle.mw_proofread.specs.TokenTexts.{form_tokens, items_tokens, end_tokens, text_tokens}
use Rattle.mw_proofread.specs.Reading.{IsText, entry_spot, entry_item, entry_items, entry_groups}
use Rattle.mw_proofread.specs.Outside.{IsOutside}
use Rattle.mw_proofread.specs.Kept.{HaveFragmentsIdentifiers, IsWritable, ReadsAsText}
use Rattle.mw_proofread.proofs.Identifiers.{equal_alike}
use Rattle.mw_proofread.proofs.KeptTexts.{written_are_texts}
use Rattle.mw_proofread.proofs.Outside.{text_tells, outside_no_text}
use Rattle.mw_verdict.specs.Verdicts.{IsNo}
use Rattle.mw_verdict.specs.Exclusion.{HasOneRow, IsCertain}
use Rattle.mw_verdict.specs.Rows.{HasOneConstantEach, AreSymmetric}
use Rattle.mw_verdict.specs.Written.{AreFree}
use Rattle.mw_verdict.proofs.OneRow.{rows_are_one}
use Rattle.mw_verdict.proofs.Passing.{passing_answered}
use Rattle.mw_verdict.proofs.Free.{free_answered}
use Rattle.mw_check.specs.Answers.{cause_of}
use Rattle.mw_check.specs.declared.answer.Cause.{Cause}
use Rattle.mw_check.specs.declared.answer.Cause.TheVariants as cause
use Rattle.mw_check.specs.declared.checking.Verdict.{Verdict}
use Rattle.mw_check.specs.declared.checking.Verdict.TheVariants.{Yes, No}
use Rattle.mw_top.specs.Commands.{module_named}
use Rattle.mw_top.specs.Proofs.{HasName, IsVerdictOn, IsProofAnswer, nameless, nowhere, formless, checked, is_no}
use Rattle.mw_top.specs.Written.{RowsOfAccepted, IsUncertainAtMost, IsKeptText, WrittenAnswered}

-- where no two operators have one name and the same kinds, each truth value is one constant
one_constants : (sig : Signature) → IsAccepted sig → OperatorsApart sig → HasOneConstantEach sig
one_constants sig ok apart b t u (c, e, n) (d, f, m) =
    e ∙ ap constant (apart c d n.operator m.operator n.is_there m.is_there (n.spelled ∙ sym m.spelled) (none_alike n.operator.args m.operator.args n.of_kinds m.of_kinds) (one_kind n.operator.result m.operator.result n.gives m.gives)) ∙ sym f
  where
    none_alike : (Ks Ls : List ℕ) → AreKindsOf sig Ks [] → AreKindsOf sig Ls [] → AreAlike sig Ks Ls
    none_alike [] [] k l = tt
    none_alike [] (L ∷ Ls) k l = absurd l
    none_alike (K ∷ Ks) Ls k l = absurd k

    one_kind : (K L : ℕ) → AreKindsOf sig (K ∷ []) (codes "Bool" ∷ []) → AreKindsOf sig (L ∷ []) (codes "Bool" ∷ []) → SameKind sig K L
    one_kind K L (S, a, k, x) (T, b, l, y) = SameKind-trans (SameKind-sym k) (subst (λ z. SameKind sig z L) (ok.sorts_differ T S (codes "Bool") b a) l)

-- numbers of 32 bits are told as they are
number_same : (n : ℕ) → n < 2 ^ 32 → entry_number n ≡ n
number_same n h = ap (λ b. cond b n 0) (lt-ltb n (2 ^ 32) h)

numbers_same : (ns : List ℕ) → AreNarrow ns → map entry_number ns ≡ ns
numbers_same [] h = refl
numbers_same (n ∷ ns) h = ap (λ m. m ∷ map entry_number ns) (number_same n h.0) ∙ ap (λ ms. n ∷ ms) (numbers_same ns h.1)

take_same : (take : Option (List ℕ)) → IsNarrowTake take → option_map (map entry_number) take ≡ take
take_same None h = refl
take_same (Some ns) h = ap Some (numbers_same ns h)

spot_same : (s : Spot) → IsNarrowSpot s → entry_spot s ≡ s
spot_same s h =
    let path : map entry_number s.path ≡ s.path = numbers_same s.path h.0 in
    let take : option_map (map entry_number) s.take ≡ s.take = take_same s.take h.1 in
    λ x. record { path = path x; take = take x }

mutual
  item_same : (i : Item) → IsNarrowItem i → entry_item i ≡ i
  item_same (step owise k s vs gs) h =
      let number : entry_number k ≡ k = number_same k h.0 in
      let spot : entry_spot s ≡ s = spot_same s h.1 in
      let groups : entry_groups gs ≡ gs = groups_same gs h.2 in
      λ x. step owise (number x) (spot x) vs (groups x)
  item_same (built s) h = ap built (spot_same s h)

  items_same : (is : Items) → AreNarrowItems is → entry_items is ≡ is
  items_same none h = refl
  items_same (more i is) h = ap (λ j. more j (entry_items is)) (item_same i h.0) ∙ ap (more i) (items_same is h.1)

  groups_same : (gs : Groups) → AreNarrowGroups gs → entry_groups gs ≡ gs
  groups_same end h = refl
  groups_same (group g gs) h = ap (λ f. group f (entry_groups gs)) (items_same g h.0) ∙ ap (group g) (groups_same gs h.1)

-- the fourth token is the module's name
abbrev fourth : List (List ℕ) → List ℕ
fourth (x ∷ y ∷ z ∷ w ∷ ws) = w
fourth xs = []

module _ (sources : List (List ℕ)) (a : Accepted) (of : IsOfTexts sources a) where
  abbrev M : Module
  M = a.module

  abbrev sig : Signature
  sig = M.signature

  ok : IsAccepted sig
  ok = subst IsAccepted (sym of.accepted.holds.signature) of.accepted.holds.preregular.accepted

  apart : OperatorsApart sig
  apart = subst OperatorsApart (sym of.accepted.holds.signature)
      (apart_declared (reached_of of.units a.name of.reached) of.accepted.typing (flattened of.units (declared_unit of.unit) of.reached) of.accepted.declarations of.accepted.declared)

  one_row : AreSymmetric sig → HasOneRow M
  one_row symmetric = rows_are_one M ok (one_constants sig ok apart) symmetric

  fragments_have : (C : List Fragment) → ((t : RawTerm) → Member t (terms_of C) → IsPrintableTerm sig t) → HaveFragmentsIdentifiers C
  fragments_have [] h = tt
  fragments_have (equal u v ∷ C) h = ((h u (inl refl)).identifiers, (h v (inr (inl refl))).identifiers, fragments_have C (λ t m. h t (inr (inr m))))
  fragments_have (matches p u ∷ C) h = ((h p (inl refl)).identifiers, (h u (inr (inl refl))).identifiers, fragments_have C (λ t m. h t (inr (inr m))))
  fragments_have (has_sort u S ∷ C) h = ((h u (inl refl)).identifiers, fragments_have C (λ t m. h t (inr m)))
  fragments_have (is_true b ∷ C) h = ((h b (inl refl)).identifiers, fragments_have C (λ t m. h t (inr m)))

  writable : length sig.operators < 2 ^ 128 → IsWritable M
  writable few = record {
    workable = accepted_workable of.units of.modules (declared_unit of.unit) a.name of.reached a of.accepted;
    few = few;
    whole = spellings_are_whole sources a of;
    identifiers = λ k st e. let (left, right, condition) = statements_are_printable sources a k st of e in (left.identifiers, right.identifiers, fragments_have st.fragments condition);
  }

  module _ (words : List (List ℕ)) (d : Deduction) (text : List ℕ) (all : All IsTokenText words) (k : IsKeptText a words d text) where
    begins : HasIdentifiers (nested d.over.signature d.from)
    begins =
        let spelled = k.term.read.spelled.spells in
        let same : EqualModulo sig k.written (nested sig (normal_form sig k.written)) = normal_form-sound sig ok (spelled_raw sig ok a.variables spelled) in
        let has : HasIdentifiers (nested sig (normal_form sig k.written)) = (equal_alike sig same).0 (spelled_identifiers sig a.variables spelled (member-all IsTokenText words all)) in
        subst (λ (X : Module). HasIdentifiers (nested X.signature d.from)) (sym k.over) (subst (λ t. HasIdentifiers (nested sig t)) (sym k.begins) has)

    read : IsProper a.name → length sig.operators < 2 ^ 128 → ReadsAsText d a.name text
    read proper few = written_are_texts d a.name text (subst IsWritable (sym k.over) (writable few)) proper begins k.deduction k.text_is

    module _ (r : ReadsAsText d a.name text) where
      passes : Passes M d.rank r.items d.from d.to
      passes = subst (λ (X : Module). Passes X d.rank r.items d.from d.to) k.over r.passes

      is_text : IsText M (text_tokens sig 1 a.name d.from r.items d.to) 1 d.from r.items d.to
      is_text = subst (λ (X : Module). IsText X (text_tokens X.signature 1 a.name d.from r.items d.to) 1 d.from r.items d.to) k.over r.is_text

      -- what is told of the items is told of the text
      module _ (P : Verdict → Type 0) (ms : List Accepted) (max : ℕ) (tokens : List Token) (here : module_named ms a.name ≡ Some a)
          (e : texts tokens ≡ text_tokens sig 1 a.name d.from r.items d.to) (told : (v : Verdict) → IsVerdictOn M max d.from d.to r.items v → P v) where
        found : (name : List ℕ) → HasName (texts tokens) name → name ≡ a.name
        found name h = ap fourth (sym h.is ∙ e)

        there : (name : List ℕ) (b : Accepted) → HasName (texts tokens) name → module_named ms name ≡ Some b → b ≡ a
        there name b h m = same_Some b a (sym m ∙ ap (module_named ms) (found name h) ∙ here)

        whole_text : IsText M (texts tokens) 1 d.from r.items d.to
        whole_text = subst (λ ts. IsText M ts 1 d.from r.items d.to) (sym e) is_text

        by_answer : {v : Verdict} → IsProofAnswer ms max tokens v → P v
        by_answer (nameless f) = absurd (f a.name (record { version = number_text 1; rest = codes "from" ∷ (form_tokens sig d.from ++ (items_tokens sig r.items ++ end_tokens sig d.to)); is = e }))
        by_answer (nowhere name h missing) = absurd (none-some a (sym missing ∙ ap (module_named ms) (found name h) ∙ here))
        by_answer (formless name b part h m out) =
            absurd (outside_no_text M (texts tokens) part (subst (λ (x : Accepted). IsOutside x.module (texts tokens) part) (there name b h m) out) 1 d.from r.items d.to whole_text)
        by_answer (checked name b from to items v h m is verdict) =
            let same : b ≡ a = there name b h m in
            let one = text_tells M (texts tokens) 1 1 from d.from items r.items to d.to (subst (λ (x : Accepted). IsText x.module (texts tokens) 1 from items to) same is) whole_text in
            told v (subst (λ t. IsVerdictOn M max d.from t r.items v) one.2 (subst (λ js. IsVerdictOn M max d.from to js v) one.1 (subst (λ t. IsVerdictOn M max t to items v) one.0
            (subst (λ (x : Accepted). IsVerdictOn x.module max from to items v) same verdict))))

      module _ (one : HasOneRow M) (max : ℕ) where
        as_told : (j : ℕ) (why : Cause) → IsNo M max d.from d.to (entry_items r.items) j (cause_of why) → IsNo M max d.from d.to r.items j (cause_of why)
        as_told j why h = subst (λ is. IsNo M max d.from d.to is j (cause_of why)) (items_same r.items r.narrow) h

        never : (j : ℕ) (why : Cause) → IsCertain (cause_of why) → IsNo M max d.from d.to r.items j (cause_of why) → ⊥
        never j why certain h = passing_answered M ok one max d.rank r.items d.from d.to passes j (cause_of why) certain h

        by_cause : (j : ℕ) (why : Cause) → IsNo M max d.from d.to r.items j (cause_of why) → IsUncertainAtMost (No j why)
        by_cause j cause.Module h = absurd (never j cause.Module ((λ e. cc), (λ e. cc)) h)
        by_cause j cause.Text h = absurd (never j cause.Text ((λ e. cc), (λ e. cc)) h)
        by_cause j cause.Statement h = absurd (never j cause.Statement ((λ e. cc), (λ e. cc)) h)
        by_cause j cause.Binding h = absurd (never j cause.Binding ((λ e. cc), (λ e. cc)) h)
        by_cause j cause.Part h = absurd (never j cause.Part ((λ e. cc), (λ e. cc)) h)
        by_cause j cause.Overlap h = absurd (never j cause.Overlap ((λ e. cc), (λ e. cc)) h)
        by_cause j cause.Condition h = inl refl
        by_cause j cause.Stopped h = inr refl
        by_cause j cause.Limit h = absurd (never j cause.Limit ((λ e. cc), (λ e. cc)) h)
        by_cause j cause.End h = absurd (never j cause.End ((λ e. cc), (λ e. cc)) h)

        uncertain : (v : Verdict) → IsVerdictOn M max d.from d.to r.items v → IsUncertainAtMost v
        uncertain (Yes f t count) h = tt
        uncertain (No j why) h = by_cause j why (as_told j why h)

        free_yes : AreFree M r.items d.from → (v : Verdict) → IsVerdictOn M max d.from d.to r.items v → is_no v ≡ false
        free_yes free (Yes f t count) h = refl
        free_yes free (No j why) h = absurd ((free_answered M ok one max d.rank r.items d.from d.to passes free).1 j (cause_of why) (as_told j why h))

pub rows_of_accepted : RowsOfAccepted
rows_of_accepted sources a of symmetric = one_row sources a of symmetric

pub written_answered : WrittenAnswered
written_answered sources a of proper few symmetric words d text all k =
    let r : ReadsAsText d a.name text = read sources a of words d text all k proper few in
    let one : HasOneRow a.module = one_row sources a of symmetric in
    record {
      read = r;
      answered = λ ms max tokens v here e. by_answer sources a of words d text all k r IsUncertainAtMost ms max tokens here e (uncertain sources a of words d text all k r one max);
      yes = λ ms max tokens v here e free. by_answer sources a of words d text all k r (λ v. is_no v ≡ false) ms max tokens here e (free_yes sources a of words d text all k r one max free);
    }
