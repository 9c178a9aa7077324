-- The values that a proof uses, where it leads through admitted terms: they are admitted, and their quoted identifiers are tokens; and evidence stands in the
-- ranks below.
use Rattle.std.specs.Prelude.{◌≡◌, ℕ, zero, suc, List, [], ◌∷◌, Bool, true, false, ◌||◌, Some, IsTrue, refl, ⊤}
use Rattle.std.proofs.Common.{sym, subst, ◌∙◌, ⊎_elim}
use Rattle.std.proofs.lemmas.Bool.{true≢false, or_cases, or_right}
use Rattle.std.proofs.lemmas.Option.{same_Some}
use Rattle.mw_logic.specs.Term.{Variable, RawTerm, apply, RawTerms, nil, cons, join, Frame, Context, plug}
use Rattle.mw_logic.specs.Signature.{Signature, HasKind, of_operator, IsRawTerm, an_operator, AreRawTerms, next}
use Rattle.mw_logic.specs.Accepted.{IsAccepted, IsWellSorted}
use Rattle.mw_logic.specs.Axioms.{EqualModulo, done}
use Rattle.mw_logic.specs.Substitution.{Substitution, value, instance, occurs, is_bound, Extends, IsSubstitution}
use Rattle.mw_logic.specs.Parts.{IsAdmitted}
use Rattle.mw_logic.specs.Module.{Fragment, equal, matches, has_sort, is_true, Statement, Module, IsStatement}
use Rattle.mw_logic.specs.Proof.{Proof, reflexivity, equality, congruence, transitivity, replacement, row, Proofs}
use Rattle.mw_logic.specs.Proof as proof
use Rattle.mw_logic.specs.Judgements.{Judgements, Evaluates, HoldsAbove, FailsAbove, HoldsEmpty, Replaces, Leads, LeadsIn, AdmittedStep, judgements_with, admitted_judgements}
use Rattle.mw_logic.specs.Confluence.{HasOnly, AreBound}
use Rattle.mw_logic.specs.WellFormed.{IsWellFormed}
use Rattle.mw_logic.proofs.AxiomLaws.{sym as back}
use Rattle.mw_logic.proofs.EqualTerms.{IsAdmitted-equal}
use Rattle.mw_logic.proofs.Inside.{raw_inside}
use Rattle.mw_logic.proofs.RawLed.{leads_raw}
use Rattle.mw_logic.proofs.SameConditions.{bound_some}
use Rattle.mw_logic.proofs.SolutionLaws.{instance_raw}
use Rattle.mw_logic.proofs.SortLaws.{join_assoc}
use Rattle.mw_least.specs.Conditions.{occurs_among, binds_among, AreRawFragments}
use Rattle.mw_least.specs.Workable.{AreSides, IsOrdinary, IsWorkable}
use Rattle.mw_least.proofs.WellFormed.{workable_well_formed}
use Rattle.mw_deduction.specs.Runs.{Done, by_statement, by_row, Dones, none, more, both, Runs, end, another, Run, run, Carries, CarriesIn, CarriesAll, SameDone, SameDones, SameRuns, SameRun}
use Rattle.mw_deduction.proofs.Extended.{reached_extends}
use Rattle.mw_text.specs.Proper.{HasIdentifiers, HaveIdentifiers}
use Rattle.mw_prooftext.proofs.AdmittedValues.{value_admitted}
use Rattle.mw_prooftext.proofs.Inside.{inside_admitted}
use Rattle.mw_proofread.specs.Kept.{HaveFragmentsIdentifiers, HasStatementIdentifiers, HaveStatementsIdentifiers}
use Rattle.mw_proofread.proofs.Identifiers.{equal_alike, row_has, instance_has, value_has}

-- A raw term comes for another in a context, and has its kinds.
module _ (sig : Signature) (ok : IsAccepted sig) where
  raw_between : (before : RawTerms) (t u : RawTerm) (after : RawTerms) {Ks : List ℕ} → AreRawTerms sig (join before (cons t after)) Ks → IsRawTerm sig u → ((L : ℕ) → HasKind sig t L → HasKind sig u L)
      → AreRawTerms sig (join before (cons u after)) Ks
  raw_between nil t u after (next {K = L} r k rest) s h = next s (h L k) rest
  raw_between (cons b bs) t u after (next r k rest) s h = next r k (raw_between bs t u after rest s h)

  raw_under : (c : Frame) (t u : RawTerm) → IsRawTerm sig (plug (c ∷ []) t) → IsRawTerm sig u → ((L : ℕ) → HasKind sig t L → HasKind sig u L) → IsRawTerm sig (plug (c ∷ []) u)
  raw_under c t u (an_operator o is args) s h = an_operator o is (raw_between c.before t u c.after args s h)

  kinds_under : (c : Frame) (t u : RawTerm) (L : ℕ) → HasKind sig (plug (c ∷ []) t) L → HasKind sig (plug (c ∷ []) u) L
  kinds_under c t u L (of_operator o is k) = of_operator o is k

  raw_instead : (C : Context) (t u : RawTerm) → IsRawTerm sig (plug C t) → IsRawTerm sig u → ((L : ℕ) → HasKind sig t L → HasKind sig u L) → IsRawTerm sig (plug C u)
  raw_instead [] t u r s h = s
  raw_instead (c ∷ C) t u r s h = raw_instead C (plug (c ∷ []) t) (plug (c ∷ []) u) r (raw_under c t u (raw_inside sig ok C (plug (c ∷ []) t) r) s h) (kinds_under c t u)

-- the value may stand in a text
abbrev pub IsKnown : Signature → RawTerm → Type 0
IsKnown sig u = IsAdmitted sig u × HasIdentifiers u

abbrev pub IsKnownAt : Signature → Substitution → Variable → Type 0
IsKnownAt sig s x = (u : RawTerm) → value s x ≡ Some u → IsKnown sig u

-- so may those of all variables of the statement
abbrev pub AreValuesKnown : Module → ℕ → Substitution → Type 0
AreValuesKnown M k s = (st : Statement) → IsStatement M k st → (x : Variable) → IsTrue ((occurs x st.left || occurs x st.right) || occurs_among x st.fragments) → IsKnownAt M.signature s x

module _ (M : Module) where
  -- of what was carried out in rank n
  abbrev mutual
    pub IsDoneKnown : ℕ → Done → Type 0
    IsDoneKnown n (by_statement k s rs t u) = AreValuesKnown M k s × AreRunsKnown n rs
    IsDoneKnown n (by_row t u) = ⊤

    pub AreDonesKnown : ℕ → Dones → Type 0
    AreDonesKnown n none = ⊤
    AreDonesKnown n (more d ds) = IsDoneKnown n d × AreDonesKnown n ds

    pub AreRunsKnown : ℕ → Runs → Type 0
    AreRunsKnown n end = ⊤
    AreRunsKnown zero (another r rs) = ⊥
    AreRunsKnown (suc n) (another r rs) = IsRunKnown n r × AreRunsKnown (suc n) rs

    pub IsRunKnown : ℕ → Run → Type 0
    IsRunKnown n (run t u ds) = AreDonesKnown n ds

  abbrev sig : Signature
  sig = M.signature

  both_known : (n : ℕ) (ds es : Dones) → AreDonesKnown n ds → AreDonesKnown n es → AreDonesKnown n (both ds es)
  both_known n none es h k = k
  both_known n (more d ds) es h k = (h.0, both_known n ds es h.1 k)

  -- what is the same modulo the axioms
  mutual
    same_done : (n : ℕ) (d e : Done) → SameDone sig d e → IsDoneKnown n e → IsDoneKnown n d
    same_done n (by_statement k s rs t u) (by_statement l r qs v w) (a, b, c, f, g) (h, i) = ((λ st is x o z e. same_value st is x o z e), same_runs n rs qs c i)
      where
        same_value : AreValuesKnown M k s
        same_value st is x o z e =
            let (y, there, same) = b.0 x z e in
            let known : IsKnown sig y = h st (subst (λ j. IsStatement M j st) a is) x o y there in
            (IsAdmitted-equal sig (back same) known.0, (equal_alike sig same).1 known.1)
    same_done n (by_statement k s rs t u) (by_row v w) h k' = absurd h
    same_done n (by_row t u) (by_statement l r qs v w) h k' = absurd h
    same_done n (by_row t u) (by_row v w) h k' = tt

    pub same_dones : (n : ℕ) (ds es : Dones) → SameDones sig ds es → AreDonesKnown n es → AreDonesKnown n ds
    same_dones n none none h k = tt
    same_dones n none (more e es) h k = absurd h
    same_dones n (more d ds) none h k = absurd h
    same_dones n (more d ds) (more e es) (a, b) k = (same_done n d e a k.0, same_dones n ds es b k.1)

    same_runs : (n : ℕ) (rs qs : Runs) → SameRuns sig rs qs → AreRunsKnown n qs → AreRunsKnown n rs
    same_runs n end end h k = tt
    same_runs n end (another q qs) h k = absurd h
    same_runs n (another r rs) end h k = absurd h
    same_runs zero (another r rs) (another q qs) h k = absurd k
    same_runs (suc n) (another r rs) (another q qs) (a, b) k = (same_run n r q a k.0, same_runs (suc n) rs qs b k.1)

    same_run : (n : ℕ) (r q : Run) → SameRun sig r q → IsRunKnown n q → IsRunKnown n r
    same_run n (run t u ds) (run v w es) (a, b, c) k = same_dones n ds es c k

  -- A proof of rank n that leads to u: all that it carries out is known, and the quoted identifiers of u are tokens.
  abbrev pub IsLedKnown : ℕ → Proof → RawTerm → Type 0
  IsLedKnown n p u = HasIdentifiers u × ((C : Context) (v w : RawTerm) (ds : Dones) → Carries sig C p v w ds → AreDonesKnown n ds)

  -- Of fragments that hold: the values of variables that are bound in the end, of those that stand in them, and the evidence.
  abbrev AreHeldKnown : ℕ → Substitution → (Variable → Bool) → List Fragment → Proofs → Type 0
  AreHeldKnown n r b C es =
      ((x : Variable) → IsTrue (binds_among b C x) → IsKnownAt sig r x) × ((x : Variable) → IsTrue (occurs_among x C) → IsKnownAt sig r x)
      × ((rs : Runs) → CarriesAll sig es rs → AreRunsKnown n rs)

  no_evidence : (n : ℕ) (es : Proofs) → es ≡ proof.nil → (rs : Runs) → CarriesAll sig es rs → AreRunsKnown n rs
  no_evidence n es e rs c = let ended : rs ≡ end = subst (λ ps. CarriesAll sig ps rs) e c in subst (AreRunsKnown n) (sym ended) tt

  one_more : (n : ℕ) (p : Proof) (rest es : Proofs) → es ≡ proof.cons p rest → ((C : Context) (v w : RawTerm) (ds : Dones) → Carries sig C p v w ds → AreDonesKnown n ds)
      → ((rs : Runs) → CarriesAll sig rest rs → AreRunsKnown (suc n) rs) → (rs : Runs) → CarriesAll sig es rs → AreRunsKnown (suc n) rs
  one_more n p rest es e h k rs c =
      let (t, u, ds, qs, is, a, b) = subst (λ ps. CarriesAll sig ps rs) e c in subst (AreRunsKnown (suc n)) (sym is) (h [] t u ds a, k qs b)

  module _ (work : IsWorkable M) (told : HaveStatementsIdentifiers M) where
    abbrev ok : IsAccepted sig
    ok = work.signature.accepted

    abbrev sorted : IsWellSorted sig
    sorted = work.signature.well_sorted

    abbrev well : IsWellFormed M
    well = workable_well_formed M work

    -- conditions that hold in the rank above
    module _ (r : Substitution) (below : Judgements) (n : ℕ) (normal : (u : RawTerm) → below.Normal u → IsAdmitted sig u)
        (proves : (p : Proof) (t u : RawTerm) → below.Proves p t u → IsRawTerm sig t → HasIdentifiers t → IsLedKnown n p u) where
      side_known : (b : Variable → Bool) (s : Substitution) (u : RawTerm) (p : Proof) (a : RawTerm) → IsSubstitution sig s → Extends s r → ((x : Variable) → IsTrue (b x) → IsKnownAt sig r x) → HasOnly b u
          → IsRawTerm sig u → HasIdentifiers u → Evaluates below (instance s u) p a → IsLedKnown n p a
      side_known b s u p a is extends k only raw has e =
          proves p (instance s u) a e.proves (instance_raw sig ok sorted s is raw) (instance_has s u (λ x o v h. (k x (only x o) v (extends x v h)).1) has)

      either : (x : Variable) (c d : Bool) → (IsTrue c → IsKnownAt sig r x) → (IsTrue d → IsKnownAt sig r x) → IsTrue (c || d) → IsKnownAt sig r x
      either x c d k l o = ⊎_elim k l (or_cases c d o)

      fragments_known : (C : List Fragment) (s : Substitution) (es : Proofs) (b : Variable → Bool) → IsSubstitution sig s → ((x : Variable) → IsTrue (b x) → IsKnownAt sig r x) → AreBound b C
          → AreRawFragments sig C → HaveFragmentsIdentifiers C → HoldsAbove M below C s es r → AreHeldKnown (suc n) r b C es
      fragments_known [] s es b is k a w i h = (k, (λ x o. absurd (true≢false (sym o))), no_evidence (suc n) es h.0)
      fragments_known (equal u v ∷ C) s es b is k a w i (p, q, rest, c, d, e, l, m, z, h) =
          let extends : Extends s r = reached_extends M below C s rest r h in
          let first = side_known b s u p c is extends k a.0 w.0 i.0 l in
          let second = side_known b s v q d is extends k a.1 w.1 i.1 m in
          let (f, g, more_runs) = fragments_known C s rest b is k a.2 w.2 i.2 h in (
            f,
            (λ x. either x (occurs x u || occurs x v) (occurs_among x C) (either x (occurs x u) (occurs x v) (λ o. k x (a.0 x o)) (λ o. k x (a.1 x o))) (g x)),
            one_more n p (proof.cons q rest) es e first.1 (one_more n q rest (proof.cons q rest) refl second.1 more_runs),
          )
      fragments_known (is_true t ∷ C) s es b is k a w i (p, rest, c, e, l, m, h) =
          let first = side_known b s t p c is (reached_extends M below C s rest r h) k a.0 w.0 i.0 l in
          let (f, g, more_runs) = fragments_known C s rest b is k a.1 w.1 i.1 h in
          (f, (λ x. either x (occurs x t) (occurs_among x C) (λ o. k x (a.0 x o)) (g x)), one_more n p rest es e first.1 more_runs)
      fragments_known (has_sort t S ∷ C) s es b is k a w i (p, rest, c, e, l, m, h) =
          let first = side_known b s t p c is (reached_extends M below C s rest r h) k a.0 w.0 i.0 l in
          let (f, g, more_runs) = fragments_known C s rest b is k a.1 w.2 i.1 h in
          (f, (λ x. either x (occurs x t) (occurs_among x C) (λ o. k x (a.0 x o)) (g x)), one_more n p rest es e first.1 more_runs)
      fragments_known (matches l t ∷ C) s es b is k a w i (p, rest, c, q, e, y, solution, h) =
          let (f, g, more_runs) = fragments_known C q rest (λ x. b x || occurs x l) solution.substitution now_bound a.1 w.2 i.2 h in (
            f,
            (λ x. either x (occurs x l || occurs x t) (occurs_among x C) (either x (occurs x l) (occurs x t) (in_pattern x) (λ o. k x (a.0 x o))) (g x)),
            one_more n p rest es e first.1 more_runs,
          )
        where
          onward : Extends q r
          onward = reached_extends M below C q rest r h

          first : IsLedKnown n p c
          first = side_known b s t p c is (λ x v z. onward x v (solution.extends x v z)) k a.0 w.1 i.1 y

          in_pattern : (x : Variable) → IsTrue (occurs x l) → IsKnownAt sig r x
          in_pattern x o u v =
              let (z, n) = bound_some q x (solution.variables x ∙ or_right (is_bound s x) (occurs x l) o) in
              let d : z ≡ u = same_Some z u (sym (onward x z n) ∙ v) in
              let there : value q x ≡ Some u = subst (λ g. value q x ≡ Some g) d n in (
                value_admitted sig ok sorted q solution.substitution l c w.0 (normal c y.normal) solution.matches x u o there,
                value_has q l x u there o ((equal_alike sig solution.matches).1 first.0),
              )

          now_bound : (x : Variable) → IsTrue (b x || occurs x l) → IsKnownAt sig r x
          now_bound x = either x (b x) (occurs x l) (k x) (in_pattern x)

    -- conditions of a rank
    abbrev AreConditionsKnown : ℕ → (List Fragment → Substitution → Proofs → Substitution → Type 0) → Type 0
    AreConditionsKnown n H =
        (C : List Fragment) (s : Substitution) (es : Proofs) (b : Variable → Bool) → IsSubstitution sig s → ((x : Variable) → IsTrue (b x) → IsKnownAt sig s x) → AreBound b C → AreRawFragments sig C
        → HaveFragmentsIdentifiers C → H C s es s → AreHeldKnown n s b C es

    module _ (n : ℕ) (H : List Fragment → Substitution → Proofs → Substitution → Type 0) (F : List Fragment → Substitution → Type 0) (held : AreConditionsKnown n H) where
      replacement_known : (k : ℕ) (c : Bool) (s : Substitution) (es : Proofs) (t u : RawTerm) → Replaces M H F k c s es t u → IsAdmitted sig t → HasIdentifiers t
          → HasIdentifiers u × AreValuesKnown M k s × ((rs : Runs) → CarriesAll sig es rs → AreRunsKnown n rs)
      replacement_known k c s es t u x admitted has = (
        subst HasIdentifiers (sym x.to) (instance_has s e.right (λ y o v h. (all_held.0 y (ordinary.bound y o) v h).1) spelled.1),
        (λ st is. subst (λ (d : Statement). (y : Variable) → IsTrue ((occurs y d.left || occurs y d.right) || occurs_among y d.fragments) → IsKnownAt sig s y) (same_Some e st (sym x.is_there.is_there ∙ is.is_there)) all),
        all_held.2,
      )
        where
          e : Statement
          e = x.statement

          ordinary : IsOrdinary sig e
          ordinary = work.statements k e x.is_there

          sides : AreSides sig e
          sides = work.sides k e x.is_there.is_there

          spelled : HasStatementIdentifiers e
          spelled = told k e x.is_there.is_there

          left_known : (y : Variable) → IsTrue (occurs y e.left) → IsKnownAt sig s y
          left_known y o v h =
              let same : EqualModulo sig (instance s e.left) t = subst (EqualModulo sig (instance s e.left)) (sym x.from) done in
              (value_admitted sig ok sorted s x.substitution e.left t sides.left admitted same y v o h, value_has s e.left y v h o (subst HasIdentifiers x.from has))

          all_held : AreHeldKnown n s (λ y. occurs y e.left) e.fragments es
          all_held = held e.fragments s es (λ y. occurs y e.left) x.substitution left_known ordinary.bound_in_turn sides.fragments spelled.2 x.condition

          all : (y : Variable) → IsTrue ((occurs y e.left || occurs y e.right) || occurs_among y e.fragments) → IsKnownAt sig s y
          all y o = ⊎_elim (λ p. ⊎_elim (left_known y) (λ q. all_held.0 y (ordinary.bound y q)) (or_cases (occurs y e.left) (occurs y e.right) p)) (all_held.1 y) (or_cases (occurs y e.left || occurs y e.right) (occurs_among y e.fragments) o)

      raw_behind : (p : Proof) (C : Context) (t u : RawTerm) → Leads M (AdmittedStep M) H F C p t u → IsRawTerm sig (plug C t) → IsRawTerm sig (plug C u)
      raw_behind p C t u l raw = let (r, k) = leads_raw M well (AdmittedStep M) H F p C t u l (raw_inside sig ok C t raw) in raw_instead sig ok C t u raw r k

      mutual
        led_known : (p : Proof) (C : Context) (t u : RawTerm) → Leads M (AdmittedStep M) H F C p t u → IsRawTerm sig (plug C t) → HasIdentifiers t → IsLedKnown n p u
        led_known reflexivity C t u l raw h = (subst HasIdentifiers l h, λ D v w ds c. subst (AreDonesKnown n) (sym c.1) tt)
        led_known equality C t u l raw h = ((equal_alike sig l).0 h, λ D v w ds c. subst (AreDonesKnown n) (sym c.1) tt)
        led_known (transitivity p q) C t u (m, a, b) raw h =
            let first = led_known p C t m a raw h in
            let second = led_known q C m u b (raw_behind p C t m a raw) first.0 in
            (second.0, λ D v w ds (x, d, e, is, c, g). subst (AreDonesKnown n) (sym is) (both_known n d e (first.1 D v x d c) (second.1 D x w e g)))
        led_known (congruence ps) C t u (f, ts, us, a, b, l) raw h =
            let all = arguments_known ps C f nil ts us l (subst (λ z. IsRawTerm sig (plug C z)) a raw) (subst HasIdentifiers a h) in
            (subst HasIdentifiers (sym b) all.0, λ D v w ds (g, vs, ws, d, e, c). all.1 D g nil vs ws ds c)
        led_known (replacement k c s es) C t u (x, step) raw h =
            let all = replacement_known k c s es t u x (inside_admitted sig ok C t raw step.1) h in
            (all.0, λ D v w ds (rs, is, cs). subst (AreDonesKnown n) (sym is) ((all.1, all.2 rs cs), tt))
        led_known row C t u (x, clean, step) raw h = (row_has sig x h, λ D v w ds is. subst (AreDonesKnown n) (sym is) (tt, tt))

        arguments_known : (ps : Proofs) (C : Context) (f : ℕ) (finished ts us : RawTerms) → LeadsIn M (AdmittedStep M) H F C f finished ps ts us → IsRawTerm sig (plug C (apply f (join finished ts)))
            → HaveIdentifiers ts → HaveIdentifiers us × ((D : Context) (g : ℕ) (before vs ws : RawTerms) (ds : Dones) → CarriesIn sig D g before ps vs ws ds → AreDonesKnown n ds)
        arguments_known proof.nil C f finished ts us (a, b) raw h = (subst HaveIdentifiers (sym b) tt, λ D g before vs ws ds c. subst (AreDonesKnown n) (sym c.2) tt)
        arguments_known (proof.cons p ps) C f finished ts us (t, u, ts', us', a, b, l, rest) raw h =
            let frame : Frame = record { operator = f; before = finished; after = ts' } in
            let here : IsRawTerm sig (plug (frame ∷ C) t) = subst (λ zs. IsRawTerm sig (plug C (apply f (join finished zs)))) a raw in
            let has : HaveIdentifiers (cons t ts') = subst HaveIdentifiers a h in
            let first = led_known p (frame ∷ C) t u l here has.0 in
            let after : IsRawTerm sig (plug C (apply f (join (join finished (cons u nil)) ts'))) =
            subst (λ zs. IsRawTerm sig (plug C (apply f zs))) (sym (join_assoc finished (cons u nil) ts')) (raw_behind p (frame ∷ C) t u l here) in
            let others = arguments_known ps C f (join finished (cons u nil)) ts' us' rest after has.1 in (
              subst HaveIdentifiers (sym b) (first.0, others.0),
              λ D g before vs ws ds (v, w, vs', ws', d, e, x, y, is, c, cs). subst (AreDonesKnown n) (sym is) (both_known n d e (first.1 _ v w d c) (others.1 D g _ vs' ws' e cs)),
            )

    held_empty : AreConditionsKnown zero HoldsEmpty
    held_empty [] s es b is k a w i h = (k, (λ x o. absurd (true≢false (sym o))), no_evidence zero es h.0)
    held_empty (f ∷ C) s es b is k a w i h = absurd h

    normal_admitted : (n : ℕ) (u : RawTerm) → (admitted_judgements M n).Normal u → IsAdmitted sig u
    unfolding judgements_with
    normal_admitted zero u h = h.admitted
    normal_admitted (suc n) u h = h.admitted

    -- so it is at each rank
    pub proof_known : (n : ℕ) (p : Proof) (t u : RawTerm) → (admitted_judgements M n).Proves p t u → IsRawTerm sig t → HasIdentifiers t → IsLedKnown n p u
    unfolding judgements_with
    proof_known zero p t u l = led_known zero HoldsEmpty (λ C s. ⊥) held_empty p [] t u l
    proof_known (suc n) p t u l =
        let below : Judgements = admitted_judgements M n in
        let held : AreConditionsKnown (suc n) (HoldsAbove M below) = λ C s es b is k a w i h. fragments_known s below n (normal_admitted n) (proof_known n) C s es b is k a w i h in
        led_known (suc n) (HoldsAbove M below) (FailsAbove M below) held p [] t u l
