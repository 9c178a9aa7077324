-- A kept proof under an operator is kept.
use Rattle.std.specs.Prelude.{◌≡◌, ◌-◌, ◌^◌, ℕ, suc, min, List, [], ◌∷◌, ◌++◌, length, refl}
use Rattle.std.proofs.Common.{sym, subst, ap, ◌∙◌, arith}
use Rattle.mw_logic.specs.Term.{RawTerm, RawTerms}
use Rattle.mw_logic.specs.Terms.{args_of, terms_of}
use Rattle.mw_logic.specs.Signature.{Signature}
use Rattle.mw_logic.specs.Axioms.{EqualModulo}
use Rattle.mw_logic.specs.Accepted.{IsAccepted}
use Rattle.mw_logic.specs.WellFormed.{IsWellFormed}
use Rattle.mw_logic.specs.Parts.{nested, number_of_terms}
use Rattle.mw_logic.specs.NormalForm.{is_comm, normal_form}
use Rattle.mw_logic.specs.Module.{Module}
use Rattle.mw_logic.specs.Proof.{steps}
use Rattle.mw_logic.proofs.AxiomLaws.{trans, sym as back}
use Rattle.mw_logic.proofs.Canonical.{IsCanonical, canonical}
use Rattle.mw_logic.proofs.Invariance.{normal_form-kept}
use Rattle.mw_canon.specs.Canonical.{IsAdmittedTerm}
use Rattle.mw_deduction.specs.Standing.{Open, filled, IsClear, IsSeenBy}
use Rattle.mw_deduction.specs.Runs.{Done, by_statement, by_row, Dones, none, more, SameDone, SameDones}
use Rattle.mw_deduction.specs.Replay.{Move, Stand, begun, opened, going_in, going_out, plays, AreMoves, Leaves}
use Rattle.mw_deduction.specs.Stands.{IsStanding, AreStanding}
use Rattle.mw_deduction.specs.Joined.{behind_stand}
use Rattle.mw_deduction.specs.Under.{under_dones, under_stand, MayBeUnder, AllMayBeUnder}
use Rattle.mw_deduction.proofs.LeftBack.{left_back}
use Rattle.mw_deduction.proofs.MoveStands.{begun_stands, move_stands}
use Rattle.mw_deduction.proofs.Under.{raised}
use Rattle.mw_trail.specs.Tracks.{Track, moves}
use Rattle.mw_proof.specs.Deductions.{Deduction, IsDeduction, first_of, end_of, deduced, IsKept}
use Rattle.mw_proof.specs.Ways.{numbers_in, spread, way}
use Rattle.mw_proof.proofs.Alike.{filled-alike, under_dones-alike, all_may_alike}
use Rattle.mw_proof.proofs.Begun.{number, whole_before, Starts, Begins, carries_begins}
use Rattle.mw_proof.proofs.Keeping.{kept_itself}
use Rattle.mw_proof.proofs.WaysIn.{GoesTo, goes_to}

number_terms : (ts : List RawTerm) → number_of_terms (terms_of ts) ≡ length ts
number_terms [] = refl
number_terms (t ∷ ts) = ap suc (number_terms ts)

-- what replacements that are the same begin with
same_before : (sig : Signature) (d e : Done) → SameDone sig d e → EqualModulo sig (whole_before d) (whole_before e)
same_before sig (by_statement k s rs t u) (by_statement l r qs v w) h = h.3
same_before sig (by_statement k s rs t u) (by_row v w) h = absurd h
same_before sig (by_row t u) (by_statement l r qs v w) h = absurd h
same_before sig (by_row t u) (by_row v w) h = h.0

module _ (d : Deduction) (h : IsDeduction d) (ok : IsAccepted d.over.signature) where
  abbrev sig : Signature
  sig = d.over.signature

  begins : Begins sig h.denotes.from h.denotes.to h.denotes.done (steps d.proof)
  begins = carries_begins sig [] d.proof h.denotes.from h.denotes.to h.denotes.done h.denotes.carries

  -- a deduction without a replacement leads from a term to itself
  pub idle : steps d.proof ≡ 0 → (d.run ≡ none) × (d.from ≡ d.to)
  idle z = (no_run d.run h.denotes.done h.denotes.same.2 nothing, sym h.begins.canonical ∙ normal_form-kept sig ok ends ∙ h.ends.canonical)
    where
      no_done : (es : Dones) → number es ≡ 0 → es ≡ none
      no_done none e = refl
      no_done (more e es) q = cc

      nothing : h.denotes.done ≡ none
      nothing = no_done h.denotes.done (begins.size ∙ z)

      no_run : (ds es : Dones) → SameDones sig ds es → es ≡ none → ds ≡ none
      no_run none es s e = refl
      no_run (more d ds) none s e = absurd s
      no_run (more d ds) (more e es) s q = cc

      ends : EqualModulo sig (nested sig d.from) (nested sig d.to)
      ends = trans h.denotes.same.0 (trans (begins.nothing nothing) (back h.denotes.same.1))

  -- else its first replacement is of the term that it begins with, which an operator sees that it may stand under
  pub seen_first : (o : Open) → (steps d.proof ≡ 0 → ⊥) → AllMayBeUnder d.over (o ∷ []) d.run → IsSeenBy sig o d.from
  seen_first o z a = by_run d.run h.denotes.done h.denotes.same.2 begins.starts begins.size a
    where
      is_from : (w x : RawTerm) → EqualModulo sig w x → EqualModulo sig h.denotes.from x → normal_form sig w ≡ d.from
      is_from w x p q = normal_form-kept sig ok (trans p (trans (back q) (back h.denotes.same.0))) ∙ h.begins.canonical

      seen_by : (e : Done) → MayBeUnder d.over (o ∷ []) e → IsSeenBy sig o (normal_form sig (whole_before e))
      seen_by (by_statement k s rs t u) m = m.0.seen
      seen_by (by_row t u) m = m.seen

      by_run : (ds es : Dones) → SameDones sig ds es → Starts sig h.denotes.from es → number es ≡ steps d.proof → AllMayBeUnder d.over (o ∷ []) ds → IsSeenBy sig o d.from
      by_run none none s b n m = absurd (z (sym n))
      by_run none (more e es) s b n m = absurd s
      by_run (more d ds) none s b n m = absurd s
      by_run (more x ds) (more e es) s b n m = subst (IsSeenBy sig o) (is_from (whole_before x) (whole_before e) (same_before sig x e s.0) b) (seen_by x m.0)

module _ (M : Module) (well : IsWellFormed M) where
  abbrev signature : Signature
  signature = M.signature

  ok : IsAccepted M.signature
  ok = well.accepted

  starts : (n : ℕ) (t : RawTerm) → IsAdmittedTerm signature t → IsStanding M (begun n t)
  starts n t h = begun_stands M ok n t (subst (IsCanonical signature) h.canonical (canonical signature ok (nested signature t))) h.raw h.admitted

  module _ (n f : ℕ) (b a : RawTerms) (t u w : RawTerm) (k l : Track) (m : Move) (ms : List Move) (h : IsKept M n t u k) (whole : IsAdmittedTerm signature w) (g : GoesTo M f b a w t m)
      (may : AllMayBeUnder M (opened f b a ∷ []) (end_of M n t k).run) (is : ms ≡ m ∷ moves M k) (left : Leaves ms (moves M l)) where
    abbrev hole : Open
    hole = opened f g.before g.after

    -- in the hole
    abbrev inside : Stand
    inside = going_in signature hole t (begun n w)

    -- where the moves end in it
    abbrev ended : Stand
    ended = behind_stand inside (under_stand signature (hole ∷ []) h.last)

    inside_stands : IsStanding M inside
    inside_stands = (subst (AreStanding M) (g.goes n) (move_stands M ok m (begun n w ∷ []) (starts n w whole, tt) (g.may n))).0

    all_may : AllMayBeUnder M (hole ∷ []) h.last.run
    all_may = all_may_alike M ok f b a g.before g.after g.alike h.last.run (subst (λ B. AllMayBeUnder M (opened f b a ∷ []) (first_of B).run) h.stands may)

    goes_there : AreMoves M (moves M k) (inside ∷ []) × (plays M (moves M k) (inside ∷ []) ≡ ended ∷ [])
    goes_there = raised M well (hole ∷ []) (moves M k) n t inside h.last (starts n t h.begins) h.made h.stands all_may inside_stands refl refl refl refl

    all_made : AreMoves M (m ∷ moves M k) (begun n w ∷ []) × (plays M (m ∷ moves M k) (begun n w ∷ []) ≡ ended ∷ [])
    all_made = ((g.may n, subst (AreMoves M (moves M k)) (sym (g.goes n)) goes_there.0), ap (plays M (moves M k)) (g.goes n) ∙ goes_there.1)

    opens : ended.opens ≡ hole ∷ []
    opens = ap (λ os. os ++ (hole ∷ [])) h.closed

    back_out : AreMoves M (moves M l) (begun n w ∷ []) × (plays M (moves M l) (begun n w ∷ []) ≡ going_out signature (hole ∷ []) ended ∷ [])
    back_out =
        let (x, y) = left_back M ok ms (moves M l) (begun n w ∷ []) ended [] hole [] (starts n w whole, tt) (subst (λ ns. AreMoves M ns (begun n w ∷ [])) (sym is) all_made.0)
        (ap (λ ns. plays M ns (begun n w ∷ [])) is ∙ all_made.1) opens left in
        (x, y ∙ ap (λ os. going_out signature os ended ∷ []) opens)

    pub kept_under : IsKept M n w (filled signature (opened f b a) u) l
    kept_under = record {
      low = h.low;
      begins = whole;
      made = back_out.0;
      last = going_out signature (hole ∷ []) ended;
      stands = back_out.1;
      closed = refl;
      used = h.used;
      reaches = ap (filled signature hole) h.reaches ∙ filled-alike signature ok f b a g.before g.after g.alike u;
    }

    pub run_under : (end_of M n w l).run ≡ under_dones signature (opened f b a ∷ []) (end_of M n t k).run
    run_under =
        ap (λ B. (first_of B).run) back_out.1 ∙ under_dones-alike signature ok f b a g.before g.after g.alike h.last.run
        ∙ ap (λ B. under_dones signature (opened f b a ∷ []) (first_of B).run) (sym h.stands)

module _ (N : Module) (well : IsWellFormed N) (f : ℕ) (before after : List RawTerm) (d : Deduction) (over : d.over ≡ N) where
  abbrev sides : Open
  sides = opened f (terms_of before) (terms_of after)

  module _ (shows : IsDeduction d) (clear : IsClear N.signature sides) (begins_there : IsAdmittedTerm N.signature (filled N.signature sides d.from)) (may : AllMayBeUnder N (sides ∷ []) d.run) where
    -- the same of a deduction
    idle_there : steps d.proof ≡ 0 → (d.run ≡ none) × (d.from ≡ d.to)
    idle_there z = idle d shows (subst (λ X. IsAccepted X.signature) (sym over) well.accepted) z

    -- without a replacement
    pub idle_under : steps d.proof ≡ 0 → (w v : RawTerm) (l : Track) → w ≡ filled N.signature sides d.from → v ≡ filled N.signature sides d.to → moves N l ≡ []
        → IsKept N d.rank w v l × ((end_of N d.rank w l).run ≡ under_dones N.signature (sides ∷ []) d.run)
    idle_under z w v l p q e =
        let (r, s) = idle_there z in
        let (h, n) = kept_itself N d.rank w l shows.low (subst (IsAdmittedTerm N.signature) (sym p) begins_there) e in
        (subst (λ x. IsKept N d.rank w x l) (p ∙ ap (filled N.signature sides) s ∙ sym q) h, n ∙ ap (under_dones N.signature (sides ∷ [])) (sym r))

    pub lifted_under : (steps d.proof ≡ 0 → ⊥) → (k l : Track) (ms : List Move) (w v : RawTerm) → IsKept d.over d.rank d.from d.to k → d ≡ deduced d.over d.rank d.from d.to k
        → w ≡ filled N.signature sides d.from → v ≡ filled N.signature sides d.to
        → ms ≡ way (numbers_in (is_comm N.signature f) (length before) (spread N.signature f d.from) (args_of w)) ∷ [] → Leaves (ms ++ moves N k) (moves N l)
        → IsKept N d.rank w v l × ((end_of N d.rank w l).run ≡ under_dones N.signature (sides ∷ []) d.run)
    lifted_under z k l ms w v kept is p q way_in left =
        let h : IsKept N d.rank d.from d.to k = subst (λ X. IsKept X d.rank d.from d.to k) over kept in
        let r : d.run ≡ (end_of N d.rank d.from k).run = ap (λ (x : Deduction). x.run) is ∙ ap (λ X. (end_of X d.rank d.from k).run) over in
        let canonical_there : IsCanonical N.signature d.from = subst (IsCanonical N.signature) h.begins.canonical (canonical N.signature well.accepted (nested N.signature d.from)) in
        let o : IsAccepted d.over.signature = subst (λ X. IsAccepted X.signature) (sym over) well.accepted in
        let seen : IsSeenBy N.signature sides d.from = subst (λ X. IsSeenBy X.signature sides d.from) over (seen_first d shows o sides z (subst (λ X. AllMayBeUnder X (sides ∷ []) d.run) (sym over) may)) in
        let n : number_of_terms (terms_of before) ≡ length before = number_terms before in
        let m : Move = way (numbers_in (is_comm N.signature f) (number_of_terms (terms_of before)) (spread N.signature f d.from) (args_of (filled N.signature sides d.from))) in
        let g : GoesTo N f (terms_of before) (terms_of after) (filled N.signature sides d.from) d.from m = goes_to N well.accepted f (terms_of before) d.from (terms_of after) clear canonical_there seen begins_there in
        let e : ms ++ moves N k ≡ m ∷ moves N k =
        ap (λ xs. xs ++ moves N k) (way_in ∙ ap (λ i. way (numbers_in (is_comm N.signature f) i (spread N.signature f d.from) (args_of w)) ∷ []) (sym n)
        ∙ ap (λ x. way (numbers_in (is_comm N.signature f) (number_of_terms (terms_of before)) (spread N.signature f d.from) (args_of x)) ∷ []) p) in
        let may_there : AllMayBeUnder N (sides ∷ []) (end_of N d.rank d.from k).run = subst (AllMayBeUnder N (sides ∷ [])) r may in
        let x : IsKept N d.rank (filled N.signature sides d.from) (filled N.signature sides d.to) l = kept_under N well d.rank f (terms_of before) (terms_of after) d.from d.to (filled N.signature sides d.from) k l m (ms ++ moves N k) h begins_there g may_there e left in
        let y = run_under N well d.rank f (terms_of before) (terms_of after) d.from d.to (filled N.signature sides d.from) k l m (ms ++ moves N k) h begins_there g may_there e left in (
          subst (λ a. IsKept N d.rank a v l) (sym p) (subst (λ b. IsKept N d.rank (filled N.signature sides d.from) b l) (sym q) x),
          subst (λ a. (end_of N d.rank a l).run ≡ under_dones N.signature (sides ∷ []) d.run) (sym p) (y ∙ ap (under_dones N.signature (sides ∷ [])) (sym r)),
        )

    module _ (xs zs : List RawTerm) (first : xs ≡ before) (last : zs ≡ after) (w v : RawTerm) (from : w ≡ filled N.signature (opened f (terms_of xs) (terms_of zs)) d.from)
        (to : v ≡ filled N.signature (opened f (terms_of xs) (terms_of zs)) d.to) where
      beside_is : (t : RawTerm) → filled N.signature (opened f (terms_of xs) (terms_of zs)) t ≡ filled N.signature sides t
      beside_is t = ap (λ ts. filled N.signature (opened f (terms_of ts) (terms_of zs)) t) first ∙ ap (λ ts. filled N.signature (opened f (terms_of before) (terms_of ts)) t) last

      at_rank : (r : ℕ) → r ≡ d.rank → (x y : RawTerm) (l : Track) → IsKept N d.rank x y l × ((end_of N d.rank x l).run ≡ under_dones N.signature (sides ∷ []) d.run)
          → IsKept N r x y l × ((end_of N r x l).run ≡ under_dones N.signature (sides ∷ []) d.run)
      at_rank r j x y l h = let IsIt : ℕ → Type 0 = λ n. IsKept N n x y l × ((end_of N n x l).run ≡ under_dones N.signature (sides ∷ []) d.run) in subst IsIt (sym j) h

      -- as it is built
      pub idle_built : (r : ℕ) → r ≡ d.rank → (n : ℕ) → n ≡ min (steps d.proof) (2 ^ 64 - 1) → n ≡ 0 → (l : Track) → moves N l ≡ [] → IsKept N r w v l × ((end_of N r w l).run ≡ under_dones N.signature (sides ∷ []) d.run)
      idle_built r j n i z l e = at_rank r j w v l (idle_under (omega (arith, i, z)) w v l (from ∙ beside_is d.from) (to ∙ beside_is d.to) e)

      pub lifted_built : (r : ℕ) → r ≡ d.rank → (n : ℕ) → n ≡ min (steps d.proof) (2 ^ 64 - 1) → (n ≡ 0 → ⊥) → (k l m : Track) → IsKept d.over d.rank d.from d.to k → d ≡ deduced d.over d.rank d.from d.to k
          → moves N m ≡ way (numbers_in (is_comm N.signature f) (length xs) (spread N.signature f d.from) (args_of w)) ∷ [] → Leaves (moves N m ++ moves N k) (moves N l)
          → IsKept N r w v l × ((end_of N r w l).run ≡ under_dones N.signature (sides ∷ []) d.run)
      lifted_built r j n i z k l m kept is way_in left =
          at_rank r j w v l (lifted_under (λ q. z (omega (arith, i, q))) k l (moves N m) w v kept is (from ∙ beside_is d.from) (to ∙ beside_is d.to)
          (way_in ∙ ap (λ n. way (numbers_in (is_comm N.signature f) n (spread N.signature f d.from) (args_of w)) ∷ []) (ap length first)) left)
