-- How far rules are asked at the parts of a subject, by the parts' terms alone.
use Rattle.std.specs.Prelude.{◌≡◌, ◌⊎◌, ◌≤◌, ℕ, zero, suc, List, [], ◌++◌, ◌∷◌, length, map, Option, Some, None, MatchOption, slice_get, refl, IfOk, Result, Ok, Err}
use Rattle.std.proofs.Common.{sym, subst, ap, ◌∙◌, inl, inr, ⊎_elim, arith}
use Rattle.std.proofs.lemmas.Option.{same_Some, none-some}
use Rattle.mw_logic.specs.Term.{RawTerm}
use Rattle.mw_logic.specs.Terms.{terms_of}
use Rattle.mw_logic.specs.Signature.{Signature, Member}
use Rattle.mw_logic.specs.Accepted.{IsAccepted}
use Rattle.mw_logic.specs.CanonicalPart.{AreSeveral}
use Rattle.mw_logic.specs.Module.{Module, IsStatement}
use Rattle.mw_least.specs.Workable.{IsWorkable}
use Rattle.mw_solving.specs.Values.{IsValue}
use Rattle.mw_index.specs.Index.{Asks, operator_of, AreRulesOf}
use Rattle.mw_index.specs.Choices.{Tried, tried_of}
use Rattle.mw_index.specs.declared.index.Rule.{Rule}
use Rattle.mw_index.proofs.Staying.{top_value}
use Rattle.mw_solving.proofs.Admitted.{admitted_value}
use Rattle.mw_multiset.specs.Together.{IsOfMultisets, together}
use Rattle.mw_world.specs.World.{Try}
use Rattle.mw_redexes.specs.Spots.{itself}
use Rattle.mw_redexes.specs.Redexes.{AreTriedOpen, IsFoundIn, IsFoundAt, AreBehind, AreAsked, AreAllAsked, AreValuesAt}
use Rattle.mw_redexes.specs.declared.spots.Spot.{Spot}
use Rattle.mw_redexes.specs.declared.redexes.Found.{Found}
use Rattle.mw_redexes.specs.declared.redexes.Redexes.{Redexes}
use Rattle.mw_redexes.proofs.Everywhere.{value_reached}
use Rattle.mw_redexes.proofs.Reaching.{part_reached, open_top}
use Rattle.mw_survey.specs.Surveys.{IsPartOfSubject, IsDone, Covers}
use Rattle.mw_survey.specs.Asked.{term_at, AreAllParts, IsSubject, AreTermValues, AreAskedAt, AreAllAskedAt, IsFoundAmong}
use Rattle.mw_survey.proofs.Covered.{past_of, whole_done}
use Rattle.mw_survey.proofs.Exhausted.{element_value}

-- what stands in a list that is mapped
module _ {X Y : Type 0} (h : X → Y) where
  pub map_there : (xs : List X) (i : ℕ) (x : X) → slice_get xs i ≡ Some x → slice_get (map h xs) i ≡ Some (h x)
  map_there [] zero x e = absurd (none-some x e)
  map_there [] (suc i) x e = absurd (none-some x e)
  map_there (y ∷ ys) zero x e = ap Some (ap h (same_Some y x e))
  map_there (y ∷ ys) (suc i) x e = map_there ys i x e

  pub map_back : (xs : List X) (i : ℕ) (u : Y) → slice_get (map h xs) i ≡ Some u → (x : X) × (slice_get xs i ≡ Some x) × (h x ≡ u)
  map_back [] zero u e = absurd (none-some u e)
  map_back [] (suc i) u e = absurd (none-some u e)
  map_back (y ∷ ys) zero u e = (y, refl, same_Some (h y) u e)
  map_back (y ∷ ys) (suc i) u e = map_back ys i u e

pub member_of_place : {X : Type 0} (xs : List X) (i : ℕ) (x : X) → slice_get xs i ≡ Some x → Member x xs
member_of_place [] zero x e = absurd (none-some x e)
member_of_place [] (suc i) x e = absurd (none-some x e)
member_of_place (y ∷ ys) zero x e = inl (same_Some y x e)
member_of_place (y ∷ ys) (suc i) x e = inr (member_of_place ys i x e)

pub member_mapped : {X : Type 0} (h : X → RawTerm) (xs : List X) (x : X) → Member x xs → Member (h x) (map h xs)
member_mapped h [] x m = absurd m
member_mapped h (y ∷ ys) x m = ⊎_elim (λ e. inl (ap h e)) (λ k. inr (member_mapped h ys x k)) m

pub mapped_member : {X : Type 0} (h : X → RawTerm) (xs : List X) (u : RawTerm) → Member u (map h xs) → (x : X) × Member x xs × (h x ≡ u)
mapped_member h [] u m = absurd m
mapped_member h (y ∷ ys) u m = ⊎_elim (λ e. (y, inl refl, e)) (λ k. let (x, n, e) = mapped_member h ys u k in (x, inr n, e)) m

-- the same of other parts with the same terms
module _ (M : Module) (rules : List Rule) (tried : List Tried) (ss zs : List Spot) (same : map term_at ss ≡ map term_at zs) where
  other_at : (j : ℕ) (z : Spot) → slice_get zs j ≡ Some z → (s : Spot) × (slice_get ss j ≡ Some s) × (s.term.now ≡ z.term.now)
  other_at j z e = map_back term_at ss j z.term.now (subst (λ us. slice_get us j ≡ Some z.term.now) (sym same) (map_there term_at zs j z e))

  other_member : (z : Spot) → Member z zs → (s : Spot) × Member s ss × (s.term.now ≡ z.term.now)
  other_member z m = mapped_member term_at ss z.term.now (subst (Member z.term.now) (sym same) (member_mapped term_at zs z m))

  pub asked_alike : (x : Redexes) → AreAsked M rules ss tried x → AreAsked M rules zs tried x
  asked_alike x h = record {
    behind = record {
      passed = λ i r l is z m. let (s, n, e) = other_member z m in subst (λ u. AreTriedOpen M u tried r) e (h.behind.passed i r l is s n);
      before = λ r is j z l at. let (s, there, e) = other_at j z at in subst (λ u. AreTriedOpen M u tried r) e (h.behind.before r is j s l there);
    };
    here = λ r z is at. let (s, there, e) = other_at x.at z at in subst (λ u. Rattle.mw_redexes.specs.Redexes.IsAskedThere M u r tried x.choices) e (h.here r s is there);
  }

module _ (M : Module) (rules : List Rule) (terms : List RawTerm) (ss : List Spot) (same : map term_at ss ≡ terms) where
  pub values_there : AreTermValues M terms → AreValuesAt M ss
  values_there v s m = v s.term.now (subst (Member s.term.now) same (member_mapped term_at ss s m))

  pub asked_from : (tried : List Tried) (x : Redexes) → AreAsked M rules ss tried x → AreAskedAt M rules terms tried x
  asked_from tried x h zs e = asked_alike M rules tried ss zs (same ∙ sym e) x h

  pub all_asked_from : (tried : List Tried) → AreAllAsked M rules ss tried → AreAllAskedAt M rules terms tried
  all_asked_from tried h r m u k =
      let (s, n, e) = mapped_member term_at ss u (subst (Member u) (sym same) k) in
      subst (λ u. AreTriedOpen M u tried r) e (h r m s n)

  pub found_from : (x : Found) → IsFoundIn M ss x → IsFoundAmong M terms x
  found_from x h = record { term = h.spot.term.now; there = subst (λ us. slice_get us x.at ≡ Some h.spot.term.now) same (map_there term_at ss x.at h.spot h.there); found = h.found }

  -- what is answered
  pub answered : (tried : List Tried) (x : Redexes) (o : Option Found) → MatchOption o (AreAllAsked M rules ss tried) (λ y. IsFoundIn M ss y × AreAsked M rules ss (tried ++ tried_of y.choice ∷ []) x)
      → MatchOption o (AreAllAskedAt M rules terms tried) (λ y. IsFoundAmong M terms y × AreAskedAt M rules terms (tried ++ tried_of y.choice ∷ []) x)
  answered tried x None h = all_asked_from tried h
  answered tried x (Some y) h = (found_from y h.0, asked_from (tried ++ tried_of y.choice ∷ []) x h.1)

pub ok_weaker : {X E : Type 0} (P Q : X → Type 0) → ((x : X) → P x → Q x) → (r : Result X E) → IfOk r P → IfOk r Q
ok_weaker P Q w (Ok x) h = w x h
ok_weaker P Q w (Err e) h = tt

-- several or not
pub told : (all : List RawTerm) → AreSeveral (terms_of all) ⊎ (AreSeveral (terms_of all) → ⊥)
told [] = inr (λ s. s)
told (x ∷ []) = inr (λ s. s)
told (x ∷ y ∷ zs) = inl tt

pub some_several : (all : List RawTerm) → AreSeveral (terms_of all) → all ≡ [] → ⊥
some_several [] s e = s
some_several (x ∷ xs) s e = cc e

pub some_there : (all : List RawTerm) (i : ℕ) (x : RawTerm) → slice_get all i ≡ Some x → all ≡ [] → ⊥
some_there [] zero x at e = none-some x at
some_there [] (suc i) x at e = none-some x at
some_there (y ∷ ys) i x at e = cc e

module _ (M : Module) (work : IsWorkable M) (f : ℕ) (rules : List Rule) (are : AreRulesOf M rules) (op : IsOfMultisets M f) where
  abbrev sig : Signature
  sig = M.signature

  abbrev ok : IsAccepted sig
  ok = work.signature.accepted

  module _ (tries : List Try) (free all : List RawTerm) (at : ℕ) (passed : List Tried) (h : Covers M f tries free all at passed) where
    whole_value : (all ≡ [] → ⊥) → IsValue sig (together sig f all)
    whole_value some = admitted_value sig ok (together sig f all) (h.admitted some)

    value_at : (i : ℕ) (x : RawTerm) → slice_get all i ≡ Some x → IsValue sig x
    value_at i x e = element_value M work f op.assoc op.comm op.free all h.members (whole_value (some_there all i x e)) x (member_of_place all i x e)

    -- the parts of a subject are values
    pub subject_values : (terms : List RawTerm) → at ≤ length all → IsSubject M f rules all at terms → AreTermValues M terms
    subject_values terms low s = by_number at refl s
      where
        got : (xs : List RawTerm) (i : ℕ) → suc i ≤ length xs → (x : RawTerm) × (slice_get xs i ≡ Some x)
        got [] i l = absurd (omega (arith, l))
        got (x ∷ xs) zero l = (x, refl)
        got (x ∷ xs) (suc i) l = got xs i (omega (arith, l))

        by_number : (j : ℕ) → at ≡ j → IsSubject M f rules all j terms → AreTermValues M terms
        by_number zero e s u m = ⊎_elim
            (λ k. ⊎_elim (λ q. subst (IsValue sig) q (whole_value (some_several all k))) (λ n. absurd n) (subst (Member u) (s.0 k) m))
            (λ k. absurd (subst (Member u) (s.1 k) m)) (told all)
        by_number (suc i) e s u m =
            let (x, is) = got all i (subst (λ k. k ≤ length all) e low) in
            value_reached sig ok x u (value_at i x is) ((s x is).reached u m)

    -- a subject is done where all rules were asked at its parts
    pub subject_done : (terms : List RawTerm) → IsSubject M f rules all at terms → AreAllAskedAt M rules terms passed → IsDone M f tries free all at
    subject_done terms s asked = by_number at refl
      where
        by_number : (j : ℕ) → at ≡ j → IsDone M f tries free all at
        by_number zero e = ⊎_elim
            (λ k.
            let ts : terms ≡ together sig f all ∷ [] = (subst (λ n. IsSubject M f rules all n terms) e s).0 k in
            whole_done M work f tries free all at passed h.passed e (whole_value (some_several all k)) rules are (λ r m. asked r m (together sig f all) (subst (Member (together sig f all)) (sym ts) (inl refl))))
            (λ no. λ w taken p. absurd (no (subst (λ n. IsPartOfSubject M f all n w) e p).0)) (told all)
        by_number (suc i) e = λ w taken p takes k r is rule t sol.
            let (x, here, part) = subst (λ n. IsPartOfSubject M f all n w) e p in
            let parts : AreAllParts sig rules x terms = (subst (λ n. IsSubject M f rules all n terms) e s) x here in
            let v : IsValue sig x = value_at i x here in
            let (u, reached, place) = part_reached sig x x w itself part in
            let there : IsValue sig u = value_reached sig ok x u v reached in
            let value : IsValue sig w = top_value sig ok u w (open_top sig u w place) there in
            let (y, member, number, asks) = are.complete k r is rule in
            let a : Asks y.section (operator_of u) = asks u w there (open_top sig u w place) t sol in
            let is_y : IsStatement M y.by.number r = subst (λ n. IsStatement M n r) (sym number) is in
            let (c, m, of, alike) = asked y member u (parts.complete u reached y member a) a r is_y w place t sol in
            past_of M work f tries free all at passed h.passed w taken value takes k r is t sol (c, m, subst (λ n. c.number ≡ n) number of, alike)
