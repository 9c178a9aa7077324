-- One replacement of a whole term, with its evidence, is kept.
use Rattle.std.specs.Prelude.{◌≡◌, ◌≤◌, ◌<◌, ◌-◌, ◌++◌, ℕ, List, [], ◌∷◌, length, map, Bool, false, Some, option_map, unwrap_or, refl}
use Rattle.std.specs.List.{zip}
use Rattle.std.proofs.Common.{sym, subst, ap, ◌∙◌, arith, append_assoc}
use Rattle.std.proofs.lemmas.List.{length-map}
use Rattle.mw_logic.specs.Term.{Variable, RawTerm}
use Rattle.mw_logic.specs.Signature.{Signature, IsRawTerm, at_number}
use Rattle.mw_logic.specs.Accepted.{IsAccepted, IsWellSorted}
use Rattle.mw_logic.specs.Substitution.{Substitution, instance}
use Rattle.mw_logic.specs.Parts.{nested}
use Rattle.mw_logic.specs.NormalForm.{normal_form}
use Rattle.mw_logic.specs.Module.{Module, Statement}
use Rattle.mw_logic.specs.Proof.{Proof, equality, transitivity, replacement, row, Proofs, nil, cons}
use Rattle.mw_logic.proofs.AxiomLaws.{sym as back}
use Rattle.mw_logic.proofs.Canonical.{IsCanonical, canonical}
use Rattle.mw_logic.proofs.EqualTerms.{IsAdmitted-equal}
use Rattle.mw_logic.proofs.Soundness.{normal_form-sound}
use Rattle.mw_logic.proofs.SolutionLaws.{instance_raw}
use Rattle.mw_canon.specs.Canonical.{IsAdmittedTerm, HasAdmittedValues, meant}
use Rattle.mw_deduction.specs.Reading.{behind}
use Rattle.mw_deduction.specs.Frontier.{together}
use Rattle.mw_deduction.specs.Runs.{by_statement, by_row, none, one, Runs, end, another, Run, run}
use Rattle.mw_deduction.specs.Replay.{Move, begins, ends, applies, meets, Stand, begun, becomes, put_behind, replacing, showing, plays, MayReplace, MayBegin, AreMoves, concluded, beginnings, AreAllCanonical, AreValuesOf}
use Rattle.mw_deduction.specs.Above.{ranked}
use Rattle.mw_deduction.proofs.Concluding.{IsOutermostOf, played_of}
use Rattle.mw_deduction.proofs.Moves.{plays-append, moves-append, plays_over}
use Rattle.mw_deduction.proofs.MoveStands.{becomes_is}
use Rattle.mw_trail.specs.Tracks.{Track, moves, variables_of, is_rule}
use Rattle.mw_proof.specs.Deductions.{Deduction, first_of, end_of, deduced, IsKept}
use Rattle.mw_proof.specs.Replacing.{evidence, carried_out, AreBelow, AreSides, bindings, value_of, values_of, instance_in, MayApply, Applies, MeetsRow}
use Rattle.mw_proof.proofs.Keeping.{kept_above}

together-nil : (es : Proofs) → together es nil ≡ es
together-nil nil = refl
together-nil (cons e es) = ap (cons e) (together-nil es)

together-behind : (es : Proofs) (p : Proof) (qs : Proofs) → together (behind es p) qs ≡ together es (cons p qs)
together-behind nil p qs = refl
together-behind (cons e es) p qs = ap (cons e) (together-behind es p qs)

-- runs and then others
abbrev all_runs : Runs → Runs → Runs
all_runs end qs = qs
all_runs (another r rs) qs = another r (all_runs rs qs)

all_runs-end : (rs : Runs) → all_runs rs end ≡ rs
all_runs-end end = refl
all_runs-end (another r rs) = ap (another r) (all_runs-end rs)

all_runs-behind : (rs : Runs) (q : Run) (qs : Runs) → all_runs (put_behind rs q) qs ≡ all_runs rs (another q qs)
all_runs-behind end q qs = refl
all_runs-behind (another r rs) q qs = ap (another r) (all_runs-behind rs q qs)

-- what is carried out begins where the deductions do
beginnings-carried : (sig : Signature) (ds : List Deduction) → beginnings (carried_out sig ds) ≡ map (λ (d : Deduction). nested sig d.from) ds
beginnings-carried sig [] = refl
beginnings-carried sig (d ∷ ds) = ap (λ ts. nested sig d.from ∷ ts) (beginnings-carried sig ds)

-- the values of variables, as canonical terms
meant_zip : (sig : Signature) (xs : List Variable) (vs : List RawTerm) → meant sig (zip xs vs) ≡ zip xs (map (nested sig) vs)
meant_zip sig [] vs = refl
meant_zip sig (x ∷ xs) [] = refl
meant_zip sig (x ∷ xs) (v ∷ vs) = ap (λ s. (x, nested sig v) ∷ s) (meant_zip sig xs vs)

all_canonical : (sig : Signature) → IsAccepted sig → (xs : List Variable) (vs : List RawTerm) → length vs ≡ length xs → HasAdmittedValues sig (zip xs vs) → AreAllCanonical sig vs
all_canonical sig ok xs [] l h = tt
all_canonical sig ok [] (v ∷ vs) l h = absurd (omega (arith, l))
all_canonical sig ok (x ∷ xs) (v ∷ vs) l h = ((subst (IsCanonical sig) h.0.canonical (canonical sig ok (nested sig v)), h.0.raw), all_canonical sig ok xs vs (omega (arith, l)) h.1)

values_are : (sig : Signature) → IsAccepted sig → (s : Substitution) (xs : List Variable) → HasAdmittedValues sig (bindings s xs) → AreValuesOf sig xs (values_of s xs) (meant sig (bindings s xs))
values_are sig ok s xs h =
    let l : length (values_of s xs) ≡ length xs = length-map xs (value_of s) in
    record { size = l; canonical = all_canonical sig ok xs (values_of s xs) l h; are = meant_zip sig xs (values_of s xs) }

-- a proof at its beginning, with this evidence that waits
abbrev waiting : ℕ → RawTerm → Proofs → Runs → Stand
waiting n t es rs = record { rank = n; from = t; opens = []; hand = t; read = record { entered = []; done = []; ready = es }; run = none; sides = rs }

module _ (M : Module) (ok : IsAccepted M.signature) (n : ℕ) (t : RawTerm) where
  abbrev sig : Signature
  sig = M.signature

  -- one side
  module _ (low : n ≤ 63) (d : Deduction) (over : d.over ≡ M) (below : d.rank < n) (k : Track) (kept : IsKept d.over d.rank d.from d.to k) (is : d ≡ deduced d.over d.rank d.from d.to k) (es : Proofs) (rs : Runs) where
    here : IsKept M d.rank d.from d.to k
    here = subst (λ X. IsKept X d.rank d.from d.to k) over kept

    lower : IsKept M (n - 1) d.from d.to k × ((i : ℕ) × (end_of M (n - 1) d.from k ≡ ranked i (end_of M d.rank d.from k)))
    lower = kept_above M d.rank (n - 1) d.from d.to k (omega (arith, below)) (omega (arith, low)) here

    last_is : lower.0.last ≡ ranked lower.1.0 (end_of d.over d.rank d.from k)
    last_is = ap first_of (sym lower.0.stands) ∙ lower.1.1 ∙ ap (λ X. ranked lower.1.0 (end_of X d.rank d.from k)) (sym over)

    may_begin : MayBegin M d.from (waiting n t es rs)
    may_begin = record {
      rank = n - 1;
      above = omega (arith, below);
      canonical = subst (IsCanonical sig) here.begins.canonical (canonical sig ok (nested sig d.from));
      raw = here.begins.raw;
      admitted = here.begins.admitted;
    }

    abbrev last : Stand
    last = lower.0.last

    -- what comes of it
    abbrev shown : Stand
    shown = waiting n t (behind es (transitivity equality d.proof)) (put_behind rs (run (nested sig d.from) (nested sig d.to) d.run))

    done_is : concluded last ≡ d.proof
    done_is = ap concluded last_is ∙ sym (ap (λ (x : Deduction). x.proof) is)

    run_is : run (nested sig last.from) (nested sig last.hand) last.run ≡ run (nested sig d.from) (nested sig d.to) d.run
    run_is =
        let (r, f) = subst (IsOutermostOf (n - 1) d.from) lower.0.stands (played_of M (moves M k) (n - 1) d.from (begun (n - 1) d.from ∷ []) (refl, refl)) in
        let ds = ap (λ (S : Stand). S.run) last_is ∙ sym (ap (λ (x : Deduction). x.run) is) in
        ap (λ x. run (nested sig x) (nested sig last.hand) last.run) f ∙ ap (λ x. run (nested sig d.from) (nested sig x) last.run) lower.0.reaches ∙ ap (run (nested sig d.from) (nested sig d.to)) ds

    shows_it : showing sig last (waiting n t es rs) ≡ shown
    shows_it = ap (λ p. waiting n t (behind es (transitivity equality p)) (put_behind rs (run (nested sig last.from) (nested sig last.hand) last.run))) done_is
        ∙ ap (λ r. waiting n t (behind es (transitivity equality d.proof)) (put_behind rs r)) run_is

    inside : AreMoves M (moves M k) (begun (n - 1) d.from ∷ waiting n t es rs ∷ []) × (plays M (moves M k) (begun (n - 1) d.from ∷ waiting n t es rs ∷ []) ≡ last ∷ waiting n t es rs ∷ [])
    inside =
        let (a, e) = plays_over M (moves M k) (begun (n - 1) d.from ∷ []) (waiting n t es rs ∷ []) lower.0.made in
        (a, e ∙ ap (λ B. B ++ waiting n t es rs ∷ []) lower.0.stands)

    pub one_side : AreMoves M (begins d.from ∷ moves M k ++ ends ∷ []) (waiting n t es rs ∷ []) × (plays M (begins d.from ∷ moves M k ++ ends ∷ []) (waiting n t es rs ∷ []) ≡ shown ∷ [])
    one_side = (
      (
        may_begin,
        moves-append M (moves M k) (ends ∷ []) (begun (n - 1) d.from ∷ waiting n t es rs ∷ []) inside.0 (subst (AreMoves M (ends ∷ [])) (sym inside.1) (record { outside = lower.0.closed; nothing_waits = lower.0.used }, tt)),
      ),
      plays-append M (moves M k) (ends ∷ []) (begun (n - 1) d.from ∷ waiting n t es rs ∷ []) ∙ ap (plays M (ends ∷ [])) inside.1 ∙ ap (λ S. S ∷ []) shows_it,
    )

  -- all
  pub all_sides : n ≤ 63 → (ds : List Deduction) (ms : List Move) → AreBelow M n ds → AreSides M ds ms → (es : Proofs) (rs : Runs)
      → AreMoves M ms (waiting n t es rs ∷ []) × (plays M ms (waiting n t es rs ∷ []) ≡ waiting n t (together es (evidence ds)) (all_runs rs (carried_out sig ds)) ∷ [])
  all_sides low [] ms b e es rs = (
    subst (λ ns. AreMoves M ns (waiting n t es rs ∷ [])) (sym e) tt,
    ap (λ ns. plays M ns (waiting n t es rs ∷ [])) e ∙ ap (λ qs. waiting n t qs rs ∷ []) (sym (together-nil es)) ∙ ap (λ qs. waiting n t (together es nil) qs ∷ []) (sym (all_runs-end rs)),
  )
  all_sides low (d ∷ ds) ms (over, below, b) (k, rest, kept, is, e, more) es rs =
      let p : Proof = transitivity equality d.proof in
      let r : Run = run (nested sig d.from) (nested sig d.to) d.run in
      let (x, y) = one_side low d over below k kept is es rs in
      let (v, w) = all_sides low ds rest b more (behind es p) (put_behind rs r) in
      let q : ms ≡ (begins d.from ∷ moves M k ++ ends ∷ []) ++ rest = e ∙ ap (λ ns. begins d.from ∷ ns) (sym (append_assoc (moves M k) (ends ∷ []) rest)) in (
        subst (λ ns. AreMoves M ns (waiting n t es rs ∷ [])) (sym q) (moves-append M (begins d.from ∷ moves M k ++ ends ∷ []) rest (waiting n t es rs ∷ []) x (subst (AreMoves M rest) (sym y) v)),
        ap (λ ns. plays M ns (waiting n t es rs ∷ [])) q ∙ plays-append M (begins d.from ∷ moves M k ++ ends ∷ []) rest (waiting n t es rs ∷ []) ∙ ap (plays M rest) y ∙ w
            ∙ ap (λ qs. waiting n t qs (all_runs (put_behind rs r) (carried_out sig ds)) ∷ []) (together-behind es p (evidence ds)) ∙ ap (λ qs. waiting n t (together es (cons p (evidence ds))) qs ∷ []) (all_runs-behind rs r (carried_out sig ds)),
      )

-- the variables and the kind of the statement of this number
pub variables_at : (M : Module) (k : ℕ) (e : Statement) → at_number M.statements k ≡ Some e → variables_of M k ≡ e.variables
variables_at M k e h = ap (λ o. unwrap_or (option_map (λ (e : Statement). e.variables) o) []) h

pub rule_at : (M : Module) (k : ℕ) (e : Statement) → at_number M.statements k ≡ Some e → is_rule M k ≡ e.rule
rule_at M k e h = ap (λ o. unwrap_or (option_map (λ (e : Statement). e.rule) o) false) h

module _ (M : Module) (ok : IsAccepted M.signature) (n : ℕ) (low : n ≤ 63) (t : RawTerm) (whole : IsAdmittedTerm M.signature t) where
  -- a whole that is replaced, and what comes for it
  may_replace : (by_rule : Bool) (w v : RawTerm) → IsRawTerm M.signature w → normal_form M.signature w ≡ t → IsRawTerm M.signature v → IsAdmittedTerm M.signature (normal_form M.signature v) → MayReplace M by_rule [] t w v
  may_replace by_rule w v rw is rv a = record {
    seen = tt;
    free = λ x y. y;
    raw_part = rw;
    is_part = is;
    raw = rv;
    admitted = IsAdmitted-equal M.signature (back (normal_form-sound M.signature ok rv)) a.admitted;
  }

  module _ (k : ℕ) (s : Substitution) (ds : List Deduction) (may : MayApply M n k s ds) (left : IsRawTerm M.signature may.statement.left) (right : IsRawTerm M.signature may.statement.right) (sorted : IsWellSorted M.signature) where
    abbrev b : Substitution
    b = meant M.signature (bindings s may.statement.variables)

    abbrev u : RawTerm
    u = instance_in M.signature (bindings s may.statement.variables) may.statement.right

    pub applied_kept : t ≡ instance_in M.signature (bindings s may.statement.variables) may.statement.left → (ms : List Move) → AreSides M ds ms → (l : Track)
        → moves M l ≡ ms ++ applies k (is_rule M k) (meant M.signature (zip (variables_of M k) (values_of s may.statement.variables))) (values_of s may.statement.variables) ∷ []
        → IsKept M n t u l × ((end_of M n t l).run ≡ one (by_statement k b (carried_out M.signature ds) (nested M.signature t) (nested M.signature u)))
    applied_kept from ms shown l is =
        let there = may.is_there.is_there in
        let vs : List RawTerm = values_of s may.statement.variables in
        let last : Move = applies k may.statement.rule b vs in
        let e : moves M l ≡ ms ++ last ∷ [] = is ∙ ap (λ r. ms ++ applies k r (meant M.signature (zip (variables_of M k) vs)) vs ∷ []) (rule_at M k may.statement there)
        ∙ ap (λ xs. ms ++ applies k may.statement.rule (meant M.signature (zip xs vs)) vs ∷ []) (variables_at M k may.statement there) in
        let (a, p) = all_sides M ok n t low ds ms may.below shown nil end in
        let S : Stand = waiting n t (evidence ds) (carried_out M.signature ds) in
        let Q : Stand = replacing M.signature (replacement k may.statement.rule b (evidence ds)) (by_statement k b (carried_out M.signature ds)) (becomes M k b t) S in
        let c : becomes M k b t ≡ u = becomes_is M ok k b t may.statement there in
        let applied : AreMoves M (last ∷ []) (S ∷ []) = (
          record {
            statement = may.statement;
            is_there = there;
            rule = refl;
            replaces = record {
              statement = may.statement;
              is_there = may.is_there;
              rule = refl;
              substitution = may.substitution;
              all_bound = may.bound;
              condition = may.condition;
              plain = may.plain;
              from = refl;
              to = refl;
            };
            values = values_are M.signature ok s may.statement.variables may.values;
            starts = beginnings-carried M.signature ds ∙ may.starts;
            may = may_replace may.statement.rule (instance b may.statement.left) (instance b may.statement.right) (instance_raw M.signature ok sorted b may.substitution left) (sym from)
                (instance_raw M.signature ok sorted b may.substitution right) may.ends;
          },
          tt,
        ) in
        let all : AreMoves M (ms ++ last ∷ []) (begun n t ∷ []) = moves-append M ms (last ∷ []) (begun n t ∷ []) a (subst (AreMoves M (last ∷ [])) (sym p) applied) in
        let ends_there : plays M (moves M l) (begun n t ∷ []) ≡ Q ∷ [] = ap (λ ns. plays M ns (begun n t ∷ [])) e ∙ plays-append M ms (last ∷ []) (begun n t ∷ []) ∙ ap (plays M (last ∷ [])) p in (
          record {
            low = low;
            begins = whole;
            made = subst (λ ns. AreMoves M ns (begun n t ∷ [])) (sym e) all;
            last = Q;
            stands = ends_there;
            closed = refl;
            used = refl;
            reaches = c;
          },
          ap (λ B. (first_of B).run) ends_there ∙ ap (λ x. one (by_statement k b (carried_out M.signature ds) (nested M.signature t) (nested M.signature x))) c,
        )

  -- the same of a row
  pub row_kept : (u : RawTerm) → MeetsRow M n t u → (l : Track) → moves M l ≡ meets u ∷ [] → IsKept M n t u l × ((end_of M n t l).run ≡ one (by_row (nested M.signature t) (nested M.signature u)))
  row_kept u m l e =
      let Q : Stand = replacing M.signature row by_row u (begun n t) in
      let met : AreMoves M (meets u ∷ []) (begun n t ∷ []) = (
        record {
          form = m.form;
          result = m.result;
          meets = m.meets;
          clean = m.clean;
          is = m.ends_in_order;
          may = may_replace false m.form m.result m.raw m.begins_in_order m.raw_result (subst (IsAdmittedTerm M.signature) (sym m.ends_in_order) m.ends);
          nothing_waits = refl;
        },
        tt,
      ) in
      let ends_there : plays M (moves M l) (begun n t ∷ []) ≡ Q ∷ [] = ap (λ ns. plays M ns (begun n t ∷ [])) e in (
        record {
          low = low;
          begins = whole;
          made = subst (λ ns. AreMoves M ns (begun n t ∷ [])) (sym e) met;
          last = Q;
          stands = ends_there;
          closed = refl;
          used = refl;
          reaches = refl;
        },
        ap (λ B. (first_of B).run) ends_there,
      )

-- as it is built
module _ (M : Module) (ok : IsAccepted M.signature) (sorted : IsWellSorted M.signature) (n : ℕ) (low : n ≤ 63) (k : ℕ) (s : Substitution) (ds : List Deduction) (may : MayApply M n k s ds)
    (left : IsRawTerm M.signature may.statement.left) (right : IsRawTerm M.signature may.statement.right) (t u : RawTerm) (vs : List RawTerm)
    (from : t ≡ instance_in M.signature (bindings s may.statement.variables) may.statement.left) (to : u ≡ instance_in M.signature (bindings s may.statement.variables) may.statement.right)
    (values : vs ≡ values_of s may.statement.variables) (ms : List Move) (shown : AreSides M ds ms) (l : Track) (is : moves M l ≡ ms ++ applies k (is_rule M k) (meant M.signature (zip (variables_of M k) vs)) vs ∷ []) where
  built : IsKept M n t u l × ((end_of M n t l).run ≡ one (by_statement k (meant M.signature (bindings s may.statement.variables)) (carried_out M.signature ds) (nested M.signature t) (nested M.signature u)))
  built =
      let IsIt : RawTerm → Type 0 = λ x. IsKept M n t x l × ((end_of M n t l).run ≡ one (by_statement k (meant M.signature (bindings s may.statement.variables)) (carried_out M.signature ds) (nested M.signature t) (nested M.signature x))) in
      subst IsIt (sym to) (applied_kept M ok n low t (subst (IsAdmittedTerm M.signature) (sym from) may.begins) k s ds may left right sorted from ms shown l
      (is ∙ ap (λ ws. ms ++ applies k (is_rule M k) (meant M.signature (zip (variables_of M k) ws)) ws ∷ []) values))

  pub kept_built : IsKept M n t u l
  kept_built = built.0

  pub applies_built : (d : Deduction) → d ≡ deduced M n t u l → (st : Statement) → at_number M.statements k ≡ Some st → Applies M k s ds st d
  applies_built d q st there =
      let same : Some may.statement ≡ Some st = sym may.is_there.is_there ∙ there in
      let e : may.statement ≡ st = cc in
      let at : Applies M k s ds may.statement (deduced M n t u l) = record { from = from; to = to; run = built.1 } in
      subst (Applies M k s ds st) (sym q) (subst (λ x. Applies M k s ds x (deduced M n t u l)) e at)
