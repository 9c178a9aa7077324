-- What a run denotes is counted in one way: by its replacements, by the statements that these name, and by those in evidence.
use Rattle.std.specs.Prelude.{◌≡◌, ◌+◌, ℕ, zero, suc, List, Bool, true, false, cond, Option, Some, None, refl}
use Rattle.std.proofs.Common.{sym, ap, ◌∙◌, arith}
use Rattle.mw_logic.specs.Term.{RawTerm, RawTerms, Context}
use Rattle.mw_logic.specs.Signature.{Signature, at_number}
use Rattle.mw_logic.specs.Substitution.{Substitution}
use Rattle.mw_logic.specs.Module.{Module, Statement, Fragment}
use Rattle.mw_logic.specs.Proof.{Proof, reflexivity, equality, congruence, transitivity, replacement, row, Proofs, rules, rules_of, steps, steps_of, count, count_of}
use Rattle.mw_logic.specs.Proof as proof
use Rattle.mw_logic.specs.Parts.{ReplacesPart}
use Rattle.mw_logic.specs.Judgements.{StepTest, Leads, LeadsIn, Proves, judgements_with, Held, Fails}
use Rattle.mw_deduction.specs.Runs.{Done, by_statement, by_row, Dones, none, more, Runs, end, another, Run, run, both, Carries, CarriesIn, CarriesAll, SameDone, SameDones, SameRun, SameRuns, Denotes}
use Rattle.mw_verdict.specs.Counts.{DenotedCounts}

abbrev steps_done : Dones → ℕ
steps_done none = 0
steps_done (more d ds) = suc (steps_done ds)

-- those in evidence counted too
abbrev mutual
  counted_one : Done → ℕ
  counted_one (by_statement k s rs t u) = 1 + counted_runs rs
  counted_one (by_row t u) = 1

  counted : Dones → ℕ
  counted none = 0
  counted (more d ds) = counted_one d + counted ds

  counted_runs : Runs → ℕ
  counted_runs end = 0
  counted_runs (another r rs) = counted_run r + counted_runs rs

  counted_run : Run → ℕ
  counted_run (run t u ds) = counted ds

-- 1 of a rule
abbrev rule_of : Option Statement → ℕ
rule_of None = 0
rule_of (Some st) = cond st.rule 1 0

abbrev rules_one : List Statement → Done → ℕ
rules_one sts (by_statement k s rs t u) = rule_of (at_number sts k)
rules_one sts (by_row t u) = 0

abbrev rules_done : List Statement → Dones → ℕ
rules_done sts none = 0
rules_done sts (more d ds) = rules_one sts d + rules_done sts ds

steps_both : (d e : Dones) → steps_done (both d e) ≡ steps_done d + steps_done e
steps_both none e = omega arith
steps_both (more x d) e = let h = steps_both d e in omega (arith, h)

counted_both : (d e : Dones) → counted (both d e) ≡ counted d + counted e
counted_both none e = omega arith
counted_both (more x d) e = let h = counted_both d e in omega (arith, h)

rules_both : (sts : List Statement) (d e : Dones) → rules_done sts (both d e) ≡ rules_done sts d + rules_done sts e
rules_both sts none e = omega arith
rules_both sts (more x d) e = let h = rules_both sts d e in omega (arith, h)

-- what is carried out of a proof
module _ (sig : Signature) where
  mutual
    steps_carried : (C : Context) (p : Proof) (t u : RawTerm) (ds : Dones) → Carries sig C p t u ds → steps p ≡ steps_done ds
    steps_carried C reflexivity t u ds (e, f) = sym (ap steps_done f)
    steps_carried C equality t u ds (e, f) = sym (ap steps_done f)
    steps_carried C (congruence ps) t u ds (f, ts, us, a, b, h) = steps_carried_in C f _ ps ts us ds h
    steps_carried C (transitivity p q) t u ds (m, d, e, is, h, k) =
        let a = steps_carried C p t m d h in
        let b = steps_carried C q m u e k in
        let c : steps_done ds ≡ steps_done d + steps_done e = ap steps_done is ∙ steps_both d e in
        omega (arith, a, b, c)
    steps_carried C (replacement k by_rule s es) t u ds (rs, is, h) = sym (ap steps_done is)
    steps_carried C row t u ds is = sym (ap steps_done is)

    steps_carried_in : (C : Context) (f : ℕ) (done : RawTerms) (ps : Proofs) (ts us : RawTerms) (ds : Dones) → CarriesIn sig C f done ps ts us ds → steps_of ps ≡ steps_done ds
    steps_carried_in C f done proof.nil ts us ds (a, b, is) = sym (ap steps_done is)
    steps_carried_in C f done (proof.cons p ps) ts us ds (t, u, vs, ws, d, e, a, b, is, h, k) =
        let x = steps_carried _ p t u d h in
        let y = steps_carried_in C f _ ps vs ws e k in
        let c : steps_done ds ≡ steps_done d + steps_done e = ap steps_done is ∙ steps_both d e in
        omega (arith, x, y, c)

  mutual
    count_carried : (C : Context) (p : Proof) (t u : RawTerm) (ds : Dones) → Carries sig C p t u ds → count p ≡ counted ds
    count_carried C reflexivity t u ds (e, f) = sym (ap counted f)
    count_carried C equality t u ds (e, f) = sym (ap counted f)
    count_carried C (congruence ps) t u ds (f, ts, us, a, b, h) = count_carried_in C f _ ps ts us ds h
    count_carried C (transitivity p q) t u ds (m, d, e, is, h, k) =
        let a = count_carried C p t m d h in
        let b = count_carried C q m u e k in
        let c : counted ds ≡ counted d + counted e = ap counted is ∙ counted_both d e in
        omega (arith, a, b, c)
    count_carried C (replacement k by_rule s es) t u ds (rs, is, h) =
        let a = count_carried_all es rs h in
        let c : counted ds ≡ (1 + counted_runs rs) + 0 = ap counted is in
        omega (arith, a, c)
    count_carried C row t u ds is = let c : counted ds ≡ 1 + 0 = ap counted is in omega (arith, c)

    count_carried_in : (C : Context) (f : ℕ) (done : RawTerms) (ps : Proofs) (ts us : RawTerms) (ds : Dones) → CarriesIn sig C f done ps ts us ds → count_of ps ≡ counted ds
    count_carried_in C f done proof.nil ts us ds (a, b, is) = sym (ap counted is)
    count_carried_in C f done (proof.cons p ps) ts us ds (t, u, vs, ws, d, e, a, b, is, h, k) =
        let x = count_carried _ p t u d h in
        let y = count_carried_in C f _ ps vs ws e k in
        let c : counted ds ≡ counted d + counted e = ap counted is ∙ counted_both d e in
        omega (arith, x, y, c)

    count_carried_all : (es : Proofs) (rs : Runs) → CarriesAll sig es rs → count_of es ≡ counted_runs rs
    count_carried_all proof.nil rs is = sym (ap counted_runs is)
    count_carried_all (proof.cons p ps) rs (t, u, ds, rest, is, h, k) =
        let x = count_carried _ p t u ds h in
        let y = count_carried_all ps rest k in
        let c : counted_runs rs ≡ counted ds + counted_runs rest = ap counted_runs is in
        omega (arith, x, y, c)

  -- the same runs
  same_steps : (ds es : Dones) → SameDones sig ds es → steps_done ds ≡ steps_done es
  same_steps none none h = refl
  same_steps none (more e es) h = absurd h
  same_steps (more d ds) none h = absurd h
  same_steps (more d ds) (more e es) h = ap suc (same_steps ds es h.1)

  mutual
    same_one : (d e : Done) → SameDone sig d e → counted_one d ≡ counted_one e
    same_one (by_statement k s rs t u) (by_statement l r qs v w) h = ap (λ n. 1 + n) (same_runs rs qs h.2)
    same_one (by_statement k s rs t u) (by_row v w) h = absurd h
    same_one (by_row t u) (by_statement l r qs v w) h = absurd h
    same_one (by_row t u) (by_row v w) h = refl

    same_counted : (ds es : Dones) → SameDones sig ds es → counted ds ≡ counted es
    same_counted none none h = refl
    same_counted none (more e es) h = absurd h
    same_counted (more d ds) none h = absurd h
    same_counted (more d ds) (more e es) h =
        let a = same_one d e h.0 in
        let b = same_counted ds es h.1 in
        omega (arith, a, b)

    same_runs : (rs qs : Runs) → SameRuns sig rs qs → counted_runs rs ≡ counted_runs qs
    same_runs end end h = refl
    same_runs end (another q qs) h = absurd h
    same_runs (another r rs) end h = absurd h
    same_runs (another r rs) (another q qs) h =
        let a = same_run r q h.0 in
        let b = same_runs rs qs h.1 in
        omega (arith, a, b)

    same_run : (r q : Run) → SameRun sig r q → counted_run r ≡ counted_run q
    same_run (run t u ds) (run v w es) h = same_counted ds es h.2

  same_rule : (sts : List Statement) (d e : Done) → SameDone sig d e → rules_one sts d ≡ rules_one sts e
  same_rule sts (by_statement k s rs t u) (by_statement l r qs v w) h = ap (λ n. rule_of (at_number sts n)) h.0
  same_rule sts (by_statement k s rs t u) (by_row v w) h = absurd h
  same_rule sts (by_row t u) (by_statement l r qs v w) h = absurd h
  same_rule sts (by_row t u) (by_row v w) h = refl

  same_rules : (sts : List Statement) (ds es : Dones) → SameDones sig ds es → rules_done sts ds ≡ rules_done sts es
  same_rules sts none none h = refl
  same_rules sts none (more e es) h = absurd h
  same_rules sts (more d ds) none h = absurd h
  same_rules sts (more d ds) (more e es) h =
      let a = same_rule sts d e h.0 in
      let b = same_rules sts ds es h.1 in
      omega (arith, a, b)

  abbrev dones_of : Run → Dones
  dones_of (run t u ds) = ds

  same_dones : (r q : Run) → SameRun sig r q → SameDones sig (dones_of r) (dones_of q)
  same_dones (run t u ds) (run v w es) h = h.2

-- the rules of a proof in a module are those of its run
module _ (M : Module) (Step : StepTest) (Held : List Fragment → Substitution → Proofs → Substitution → Type 0) (Fails : List Fragment → Substitution → Type 0) where
  mutual
    rules_carried : (C D : Context) (p : Proof) (t u v w : RawTerm) (ds : Dones) → Leads M Step Held Fails D p v w → Carries M.signature C p t u ds → rules p ≡ rules_done M.statements ds
    rules_carried C D reflexivity t u v w ds l (e, f) = sym (ap (rules_done M.statements) f)
    rules_carried C D equality t u v w ds l (e, f) = sym (ap (rules_done M.statements) f)
    rules_carried C D (congruence ps) t u v w ds (g, vs, ws, x, y, l) (f, ts, us, a, b, h) = rules_carried_in C D f g _ _ ps ts us vs ws ds l h
    rules_carried C D (transitivity p q) t u v w ds (o, l, g) (m, d, e, is, h, k) =
        let a = rules_carried C D p t m v o d l h in
        let b = rules_carried C D q m u o w e g k in
        let c : rules_done M.statements ds ≡ rules_done M.statements d + rules_done M.statements e = ap (rules_done M.statements) is ∙ rules_both M.statements d e in
        omega (arith, a, b, c)
    rules_carried C D (replacement k by_rule s es) t u v w ds (l, x) (rs, is, h) =
        let a : rule_of (at_number M.statements k) ≡ cond by_rule 1 0 = ap rule_of l.is_there.is_there ∙ ap (λ b. cond b 1 0) l.rule in
        let c : rules_done M.statements ds ≡ rule_of (at_number M.statements k) + 0 = ap (rules_done M.statements) is in
        omega (arith, a, c)
    rules_carried C D row t u v w ds l is = sym (ap (rules_done M.statements) is)

    rules_carried_in : (C D : Context) (f g : ℕ) (done other : RawTerms) (ps : Proofs) (ts us vs ws : RawTerms) (ds : Dones) → LeadsIn M Step Held Fails D g other ps vs ws → CarriesIn M.signature C f done ps ts us ds
        → rules_of ps ≡ rules_done M.statements ds
    rules_carried_in C D f g done other proof.nil ts us vs ws ds l (a, b, is) = sym (ap (rules_done M.statements) is)
    rules_carried_in C D f g done other (proof.cons p ps) ts us vs ws ds (v, w, vs', ws', x, y, l, n) (t, u, ts', us', d, e, a, b, is, h, k) =
        let x = rules_carried _ _ p t u v w d l h in
        let y = rules_carried_in C D f g _ _ ps ts' us' vs' ws' e n k in
        let c : rules_done M.statements ds ≡ rules_done M.statements d + rules_done M.statements e = ap (rules_done M.statements) is ∙ rules_both M.statements d e in
        omega (arith, x, y, c)

module _ (M : Module) where
  rules_proved : (n : ℕ) (C : Context) (p : Proof) (t u v w : RawTerm) (ds : Dones) → Proves M n p v w → Carries M.signature C p t u ds → rules p ≡ rules_done M.statements ds
  unfolding judgements_with
  rules_proved zero C p t u v w ds l h = rules_carried M (ReplacesPart M.signature) (Held M 0) (Fails M 0) C _ p t u v w ds l h
  rules_proved (suc n) C p t u v w ds l h = rules_carried M (ReplacesPart M.signature) (Held M (suc n)) (Fails M (suc n)) C _ p t u v w ds l h

pub denoted_counted : DenotedCounts
denoted_counted M n m r p q t u v w a b x y =
    let sig : Signature = M.signature in
    let f = same_dones sig r (run a.from a.to a.done) a.same in
    let g = same_dones sig r (run b.from b.to b.done) b.same in (
      steps_carried sig _ p a.from a.to a.done a.carries ∙ sym (same_steps sig (dones_of sig r) a.done f) ∙ same_steps sig (dones_of sig r) b.done g ∙ sym (steps_carried sig _ q b.from b.to b.done b.carries),
      rules_proved M n _ p a.from a.to t u a.done x a.carries ∙ sym (same_rules sig M.statements (dones_of sig r) a.done f) ∙ same_rules sig M.statements (dones_of sig r) b.done g
          ∙ sym (rules_proved M m _ q b.from b.to v w b.done y b.carries),
      count_carried sig _ p a.from a.to a.done a.carries ∙ sym (same_counted sig (dones_of sig r) a.done f) ∙ same_counted sig (dones_of sig r) b.done g ∙ sym (count_carried sig _ q b.from b.to b.done b.carries),
    )
