-- What is checked is proved.
use Rattle.std.specs.Prelude.{◌≡◌, ℕ, zero, suc, List, [], ◌∷◌, Bool, true, false, ◌&&◌, ◌||◌, IsTrue, refl}
use Rattle.std.proofs.Common.{sym, arith, ◌∙◌}
use Rattle.std.proofs.lemmas.Bool.{and_parts}
use Rattle.mw_logic.specs.Term.{RawTerm, plug}
use Rattle.mw_logic.specs.Signature.{Signature, IsRawTerm}
use Rattle.mw_logic.specs.Axioms.{EqualModulo, done}
use Rattle.mw_logic.specs.Substitution.{Substitution, instance, IsSubstitution, IsSolution, is_bound, binds, occurs}
use Rattle.mw_logic.specs.Parts.{nested}
use Rattle.mw_logic.specs.NormalForm.{normal_form}
use Rattle.mw_logic.specs.Module.{Fragment, equal, matches, has_sort, is_true, Statement, Module, binds_fragments}
use Rattle.mw_logic.specs.Proof.{Proof, reflexivity, equality, transitivity, replacement, row, Proofs, rules, count, count_of}
use Rattle.mw_logic.specs.Proof as proof
use Rattle.mw_logic.specs.Judgements.{Replaces, Evaluates, HoldsAbove, judgements, judgements_with, Proves, Held, Fails, IsNormal, IsPlain, IsPlainBy}
use Rattle.mw_logic.specs.WellFormed.{IsWellFormed}
use Rattle.mw_logic.specs.Confluence.{HasOnly}
use Rattle.mw_logic.proofs.AxiomLaws.{sym as back}
use Rattle.mw_logic.proofs.Building.{at_place, at_place-counts, Proves-replacement, Proves-row}
use Rattle.mw_logic.proofs.Judging.{Proves-reflexivity, Proves-equality, Proves-transitivity}
use Rattle.mw_logic.proofs.Soundness.{normal_form-sound}
use Rattle.mw_logic.proofs.Invariance.{normal_form-kept}
use Rattle.mw_logic.proofs.RawKept.{raw_kept}
use Rattle.mw_logic.proofs.EqualTerms.{IsAdmitted-equal}
use Rattle.mw_logic.proofs.SolutionLaws.{instance_raw}
use Rattle.mw_logic.proofs.Restricted.{binds_each}
use Rattle.mw_canon.specs.Canonical.{IsAdmittedTerm}
use Rattle.mw_deduction.specs.Runs.{Done, Dones, none, more, one, Runs, end, another, run, Carries, CarriesAll, SameDone, SameDones, SameRuns}
use Rattle.mw_deduction.specs.Runs as runs
use Rattle.mw_deduction.specs.Replay.{all_sides}
use Rattle.mw_deduction.proofs.Carrying.{same_itself, at_place_carries}
use Rattle.mw_items.specs.Items.{Item, Items, Groups}
use Rattle.mw_verdict.specs.Checks.{AreMet, Checks, nothing, then, ChecksOne, by_statement, by_row, Evaluated, evaluated, AreEvaluated, no_side, a_side, Shown, unconditional, conditional}
use Rattle.mw_verdict.specs.Proved.{HasProof}
use Rattle.mw_verdict.proofs.Steps.{Stepped, stepped}

plain_by : (M : Module) (n : ℕ) (t : RawTerm) → IsPlain M n t → IsPlainBy M (Fails M n) t
unfolding judgements_with
plain_by M zero t h = h
plain_by M (suc n) t h = h

held_empty : (M : Module) (n : ℕ) (s : Substitution) → Held M n [] s proof.nil s
unfolding judgements_with
held_empty M zero s = (refl, refl)
held_empty M (suc n) s = (refl, refl)

absorbed : (a b : Bool) → (IsTrue b → IsTrue a) → a ≡ (a || b)
absorbed true b h = refl
absorbed false false h = refl
absorbed false true h = h refl

-- the sides, each with its proof and the end that this leads to
data AreProved (M : Module) (n : ℕ) (s : Substitution) : List RawTerm → Proofs → List RawTerm → Type 0 where
  no_proof : AreProved M n s [] proof.nil []
  a_proof : {l a : RawTerm} {ls xs : List RawTerm} {p : Proof} {ps : Proofs} → Evaluates (judgements M n) (instance s l) p (nested M.signature a) → AreProved M n s ls ps xs
      → AreProved M n s (l ∷ ls) (proof.cons p ps) (a ∷ xs)

-- By the values of all variables the fragments hold, and need no others.
holds : (M : Module) (n : ℕ) (s : Substitution) → IsSubstitution M.signature s → (C : List Fragment) {ps : Proofs} {xs : List RawTerm} → IsTrue (binds_fragments s C) → AreProved M n s (all_sides C) ps xs → AreMet M.signature s C xs
    → HoldsAbove M (judgements M n) C s ps s
holds M n s is [] b no_proof m = (refl, refl)
holds M n s is (equal u v ∷ C) b (a_proof {a = a} {p = p} x (a_proof {a = c} {p = q} {ps = ps} y rest)) m =
    (p, q, ps, nested M.signature a, nested M.signature c, refl, x, y, m.0, holds M n s is C (and_parts _ _ b).1 rest m.1)
holds M n s is (is_true t ∷ C) b (a_proof {a = a} {p = p} {ps = ps} x rest) m = (p, ps, nested M.signature a, refl, x, m.0, holds M n s is C (and_parts _ _ b).1 rest m.1)
holds M n s is (has_sort t S ∷ C) b (a_proof {a = a} {p = p} {ps = ps} x rest) m = (p, ps, nested M.signature a, refl, x, m.0, holds M n s is C (and_parts _ _ b).1 rest m.1)
holds M n s is (matches l t ∷ C) b (a_proof {a = a} {p = p} {ps = ps} x rest) m =
    let d = and_parts (binds s l && binds s t) _ b in
    let only : HasOnly (is_bound s) l = binds_each s l (and_parts _ _ d.0).0 in
    let solution : IsSolution M.signature l (nested M.signature a) s s = record { substitution = is; extends = λ y v k. k; variables = λ y. absorbed (is_bound s y) (occurs y l) (only y); matches = m.0 } in
    (p, ps, nested M.signature a, s, refl, x, solution, holds M n s is C d.1 rest m.1)

module _ (M : Module) (wf : IsWellFormed M) where
  abbrev sig : Signature
  sig = M.signature

  -- a proof, and what it carries out
  record Carried (n : ℕ) (T u : RawTerm) (r c : ℕ) (ds : Dones) : Type 0 where
    proof : Proof
    proves : Proves M n proof T (nested sig u)
    done : Dones
    carries : Carries sig [] proof T (nested sig u) done
    same : SameDones sig ds done
    rules_are : rules proof ≡ r
    count_is : count proof ≡ c

  -- the same of the sides of a condition
  record HaveProofs (n : ℕ) (s : Substitution) (ls xs : List RawTerm) (rs : Runs) (c : ℕ) : Type 0 where
    evidence : Proofs
    proved : AreProved M n s ls evidence xs
    runs_are : Runs
    carries : CarriesAll sig evidence runs_are
    same : SameRuns sig rs runs_are
    counted : count_of evidence ≡ c

  record HasEvidence (n : ℕ) (C : List Fragment) (s : Substitution) (rs : Runs) (c : ℕ) : Type 0 where
    evidence : Proofs
    held : Held M n C s evidence s
    runs_are : Runs
    carries : CarriesAll sig evidence runs_are
    same : SameRuns sig rs runs_are
    counted : count_of evidence ≡ c

  -- and of one item
  record Led (n : ℕ) (t v : RawTerm) (r c : ℕ) (x : Done) : Type 0 where
    proof : Proof
    proves : Proves M n proof (nested sig t) (nested sig v)
    done_is : Done
    carries : Carries sig [] proof (nested sig t) (nested sig v) (one done_is)
    same : SameDone sig x done_is
    rules_are : rules proof ≡ r
    count_is : count proof ≡ c
    raw : IsRawTerm sig (nested sig v)
    canonical : normal_form sig (nested sig v) ≡ v

  -- a leaf at its place
  led : {n q c : ℕ} {leaf : Proof} {W X t v : RawTerm} {x : Done} (y : Done) → (S : Stepped M wf n leaf W X t v) → Carries sig S.place leaf W X (one y) → SameDone sig x y → rules leaf ≡ q → count leaf ≡ c → Led n t v q c x
  led {leaf = leaf} {W = W} {X = X} {t = t} {v = v} y S l e k m =
      let (f, g, h) = at_place-counts S.place leaf in
      record {
        proof = at_place S.place leaf;
        proves = S.proves;
        done_is = y;
        carries = at_place_carries sig S.place leaf (nested sig t) W X (nested sig v) (one y) S.before l S.after;
        same = e;
        rules_are = f ∙ k;
        count_is = h ∙ m;
        raw = S.raw;
        canonical = S.canonical;
      }

  mutual
    unfolding judgements_with

    carried : {n r c : ℕ} {is : Items} {t u : RawTerm} {ds : Dones} → Checks M n is t u r c ds → IsAdmittedTerm sig t → Carried n (nested sig t) u r c ds × IsAdmittedTerm sig u
    carried {n} {t = t} nothing h = (record { proof = reflexivity; proves = Proves-reflexivity M n (nested sig t); done = none; carries = (refl, refl); same = tt; rules_are = refl; count_is = refl }, h)
    carried {n} {t = t} {u = u} (then {v = v} x a rest) h =
        let P = one_carried x h in
        let (R, z) = carried rest (record { raw = P.raw; canonical = P.canonical; admitted = a }) in
        let i = P.rules_are in
        let j = R.rules_are in
        let k = P.count_is in
        let l = R.count_is in (
          record {
            proof = transitivity P.proof R.proof;
            proves = Proves-transitivity M n P.proof R.proof (nested sig t) (nested sig v) (nested sig u) P.proves R.proves;
            done = more P.done_is R.done;
            carries = (nested sig v, one P.done_is, R.done, refl, P.carries, R.carries);
            same = (P.same, R.same);
            rules_are = omega (arith, i, j);
            count_is = omega (arith, k, l);
          },
          z,
        )

    one_carried : {n r c : ℕ} {i : Item} {t v : RawTerm} {x : Done} → ChecksOne M n i t v r c x → IsAdmittedTerm sig t → Led n t v r c x
    one_carried {n} {t = t} {v = v} (by_statement {k = k} {at = at} e sorted bound there some plain shown) h =
        let s : Substitution = e.subst in
        let st : Statement = e.statement in
        let W : RawTerm = instance s st.left in
        let X : RawTerm = instance s st.right in
        let E = evidence shown sorted (and_parts (binds s st.left && binds s st.right) (binds_fragments s st.fragments) bound).1 in
        let x : Replaces M (Held M n) (Fails M n) k st.rule s E.evidence W X = record {
          statement = st;
          is_there = e.is_there;
          rule = refl;
          substitution = sorted;
          all_bound = bound;
          condition = E.held;
          plain = λ o. plain_by M n W (plain o);
          from = refl;
          to = refl;
        } in
        let S = stepped M wf n st.rule (replacement k st.rule s E.evidence) W X t v at.path at.take (λ U r. Proves-replacement M n k st.rule s E.evidence r x) (instance_raw sig wf.accepted wf.sorted s sorted (wf.statements k st e.is_there).0) h there in
        let c = E.counted in
        led (runs.by_statement k s E.runs_are (plug S.place W) (plug S.place X)) S (E.runs_are, refl, E.carries) (refl, same_itself sig s, E.same, S.before, back S.after) refl (omega (arith, c))
    one_carried {n} {t = t} {v = v} (by_row {at = at} e some) h =
        let S = stepped M wf n false row e.form e.result t v at.path at.take (λ U r. Proves-row M n r e.row e.clean) e.raw h e.replaces in
        led (runs.by_row (plug S.place e.form) (plug S.place e.result)) S refl (S.before, back S.after) refl refl

    side : {n c : ℕ} {l a : RawTerm} {g : Items} {ds : Dones} → Evaluated M n l g a c ds → Carried n l a 0 c ds × IsNormal M n (nested sig a)
    side {n} {a = a} (evaluated {l = l} raw admitted leads normal) =
        let t : RawTerm = normal_form sig l in
        let e : EqualModulo sig l (nested sig t) = normal_form-sound sig wf.accepted raw in
        let (R, z) = carried leads (record { raw = (raw_kept sig wf.accepted e).0 raw; canonical = sym (normal_form-kept sig wf.accepted e); admitted = IsAdmitted-equal sig e admitted }) in
        let r = R.rules_are in
        let d = R.count_is in (
          record {
            proof = transitivity equality R.proof;
            proves = Proves-transitivity M n equality R.proof l (nested sig t) (nested sig a) (Proves-equality M n l (nested sig t) e) R.proves;
            done = R.done;
            carries = (nested sig t, none, R.done, refl, (e, refl), R.carries);
            same = R.same;
            rules_are = omega (arith, r);
            count_is = omega (arith, d);
          },
          normal,
        )

    sides : {n c : ℕ} {s : Substitution} {ls xs : List RawTerm} {gs : Groups} {rs : Runs} → AreEvaluated M n s ls gs xs rs c → HaveProofs n s ls xs rs c
    sides no_side = record { evidence = proof.nil; proved = no_proof; runs_are = end; carries = refl; same = tt; counted = refl }
    sides {s = s} (a_side {l = l} {a = a} x rest) =
        let (P, n) = side x in
        let R = sides rest in
        let p = P.count_is in
        let r = R.counted in
        record {
          evidence = proof.cons P.proof R.evidence;
          proved = a_proof (record { proves = P.proves; equational = P.rules_are; normal = n }) R.proved;
          runs_are = another (run (instance s l) (nested sig a) P.done) R.runs_are;
          carries = (instance s l, nested sig a, P.done, R.runs_are, refl, P.carries, R.carries);
          same = ((back (begins x), done, P.same), R.same);
          counted = omega (arith, p, r);
        }

    evidence : {n c : ℕ} {C : List Fragment} {s : Substitution} {gs : Groups} {rs : Runs} → Shown M n C s gs rs c → IsSubstitution sig s → IsTrue (binds_fragments s C) → HasEvidence n C s rs c
    evidence {n} {s = s} unconditional is b = record { evidence = proof.nil; held = held_empty M n s; runs_are = end; carries = refl; same = tt; counted = refl }
    evidence {C = C} {s = s} (conditional {n = n} x m) is b =
        let P = sides x in
        record { evidence = P.evidence; held = holds M n s is C b P.proved m; runs_are = P.runs_are; carries = P.carries; same = P.same; counted = P.counted }

    begins : {n c : ℕ} {l a : RawTerm} {g : Items} {ds : Dones} → Evaluated M n l g a c ds → EqualModulo sig l (nested sig (normal_form sig l))
    begins (evaluated raw admitted leads normal) = normal_form-sound sig wf.accepted raw

  pub checked : (n : ℕ) (is : Items) (t u : RawTerm) (r c : ℕ) (ds : Dones) → IsAdmittedTerm sig t → Checks M n is t u r c ds → HasProof M n t u r c ds
  checked n is t u r c ds h x =
      let (R, z) = carried x h in
      record { proof = R.proof; proves = R.proves; denotes = record { from = nested sig t; to = nested sig u; done = R.done; carries = R.carries; same = (done, done, R.same) }; rules_are = R.rules_are; count_is = R.count_is; ends = z }
