-- What of a rule is tried at a part: each solution at it; what is left aside takes several arguments that rules may not change.
use Rattle.std.specs.Prelude.{◌≡◌, ◌⊎◌, ◌<◌, ◌≤◌, ◌+◌, ℕ, zero, suc, List, [], ◌∷◌, ◌++◌, length, true, false, Option, Some, None, is_some, slice_get, refl}
use Rattle.std.proofs.Common.{get_or, sym, subst, ap, ◌∙◌, arith, inl, inr, ⊎_elim}
use Rattle.std.proofs.lemmas.Bool.{cases_lt}
use Rattle.std.proofs.lemmas.Option.{same_Some}
use Rattle.mw_logic.specs.Term.{RawTerm, RawTerms, apply}
use Rattle.mw_logic.specs.Signature.{Signature, Member, at_number}
use Rattle.mw_logic.specs.Accepted.{IsAccepted}
use Rattle.mw_logic.specs.Parts.{nested, number_of_terms}
use Rattle.mw_logic.specs.NormalForm.{normal_form}
use Rattle.mw_logic.specs.CanonicalPart.{IsOpen}
use Rattle.mw_logic.specs.Substitution.{Substitution, instance, IsSolution, SameSolution}
use Rattle.mw_logic.specs.Module.{Module, Statement, IsStatement}
use Rattle.mw_logic.proofs.AxiomLaws.{trans}
use Rattle.mw_logic.proofs.CanonicalTerms.{canonical_unique}
use Rattle.mw_logic.proofs.InstanceLaws.{instance_same}
use Rattle.mw_logic.proofs.Members.{member-left}
use Rattle.mw_poset.proofs.Members.{member-last, member-push, member-at}
use Rattle.mw_arguments.specs.Places.{chosen, Rise}
use Rattle.mw_solving.specs.Values.{IsValue}
use Rattle.mw_solving.specs.Inside.{IsProperPart}
use Rattle.mw_solving.proofs.Numbers.{chosen_number}
use Rattle.mw_index.specs.Choices.{Tried, tried_of, solution_of, AreTried, IsTaken, IsChoice, IsKept, IsUnderWay}
use Rattle.mw_index.proofs.Staying.{top_value}
use Rattle.mw_index.proofs.TopParts.{taken_top}
use Rattle.mw_index.specs.declared.index.Rule.{Rule}
use Rattle.mw_index.specs.declared.choices.Choice.{Choice}
use Rattle.mw_index.specs.declared.choices.Choices.{Choices}
use Rattle.mw_redexes.specs.Spots.{IsOpenTop, whole, several}
use Rattle.mw_redexes.specs.Redexes.{AreTriedOpen, IsShut, IsAskedThere, AreBehind, AreAsked, AreAllAsked}
use Rattle.mw_redexes.specs.declared.spots.Spot.{Spot}
use Rattle.mw_redexes.specs.declared.redexes.Redexes.{Redexes}
use Rattle.mw_redexes.proofs.Reaching.{open_top}

-- several arguments, and not all of them, aren't the whole
proper_differs : (sig : Signature) (ks : List ℕ) (v w : RawTerm) → IsProperPart sig ks v w → w ≡ v → ⊥
proper_differs sig ks v w p e =
    let m = p.takes in
    let same : chosen 1 ks m.args ≡ m.args = same_arguments (sym m.part ∙ e ∙ m.term) in
    let one : suc (number_of_terms m.args) ≡ 1 + number_of_terms m.args = omega arith in
    let n = chosen_number 1 ks m.args (subst (λ j. Rise 1 j ks) one m.rise) in
    let z = ap number_of_terms same in
    let l = p.proper in
    omega (arith, n, z, l)
  where
    same_arguments : {f g : ℕ} {ts us : RawTerms} → apply f ts ≡ apply g us → ts ≡ us
    same_arguments q = cc

same_operator : {f g : ℕ} {ts us : RawTerms} → apply f ts ≡ apply g us → f ≡ g
same_operator q = cc

module _ (M : Module) (ok : IsAccepted M.signature) where
  abbrev sig : Signature
  sig = M.signature

  -- what is left aside is no solution where rules may change what is taken
  shut_fails : (v w : RawTerm) → IsValue sig v → IsOpenTop sig v w → (k : ℕ) (e : Statement) → IsStatement M k e → (s : Substitution) → IsSolution sig e.left (nested sig w) [] s
      → (c : Tried) → c.number ≡ k → SameSolution sig s (solution_of sig e c.values) → IsShut M v c → ⊥
  shut_fails v w val place k e is s sol c number same shut =
      let x : Choice = shut.choice in
      let q : IsChoice M v x = shut.chosen in
      let st : q.statement ≡ e = same_Some q.statement e (sym q.is_there.is_there ∙ ap (at_number M.statements) (ap (λ (t : Tried). t.number) shut.is ∙ number) ∙ is.is_there) in
      let values : x.values.items ≡ c.values = ap (λ (t : Tried). t.values) shut.is in
      let other : IsSolution sig e.left (nested sig q.part) [] (solution_of sig e c.values) =
      subst (λ vs. IsSolution sig e.left (nested sig q.part) [] (solution_of sig e vs)) values
      (subst (λ (d : Statement). IsSolution sig d.left (nested sig q.part) [] (solution_of sig d x.values.items)) st q.solution) in
      let here : IsValue sig q.part = top_value sig ok v q.part (taken_top sig ok x.take v q.part val q.taken) val in
      let there : IsValue sig w = top_value sig ok v w (open_top sig v w place) val in
      let a : w ≡ normal_form sig (instance s e.left) = canonical_unique sig ok w there.canonical sol.matches in
      let b : q.part ≡ normal_form sig (instance s e.left) = canonical_unique sig ok q.part here.canonical (trans (instance_same sig s (solution_of sig e c.values) same e.left) other.matches) in
      let proper : IsProperPart sig shut.numbers v q.part = subst (λ o. IsTaken sig o v q.part) shut.takes q.taken in
      by_place v w place (b ∙ sym a) proper shut.term
    where
      by_place : (v w : RawTerm) → IsOpenTop sig v w → shut.chosen.part ≡ w → IsProperPart sig shut.numbers v shut.chosen.part → v ≡ apply shut.operator shut.args → ⊥
      by_place v w whole e p t = proper_differs sig shut.numbers v shut.chosen.part p e
      by_place v w (several A o m cut) e p t = shut.shut (subst (λ g. IsOpen sig true g 1) (same_operator t) o)

  -- all that was answered is tried, or left aside
  pub all_tried : (v : RawTerm) → IsValue sig v → (r : Rule) (answered tried : List Tried) → ((x : Tried) → Member x answered → Member x tried ⊎ IsShut M v x)
      → ((e : Statement) → IsStatement M r.by.number e → AreTried sig v answered r.by.number e) → AreTriedOpen M v tried r
  all_tried v val r answered tried all told asks e is w place s sol =
      let (c, member, number, same) = told e is w (open_top sig v w place) s sol in
      ⊎_elim (λ j. (c, j, number, same)) (λ x. absurd (shut_fails v w val place r.by.number e is s sol c number same x)) (all c member)

-- one more is answered
pub one_answered : (M : Module) (v : RawTerm) (r : Rule) (tried : List Tried) (old new : Choices) (h : IsAskedThere M v r tried old) (c : Choice) → IsKept v new.subject → IsUnderWay M v (h.answered ++ tried_of c ∷ []) r.by new
    → IsAskedThere M v r (tried ++ tried_of c ∷ []) new
one_answered M v r tried old new h c kept way = record {
  answered = h.answered ++ tried_of c ∷ [];
  kept = kept;
  under_way = way;
  all = λ x m. ⊎_elim
      (λ j. ⊎_elim (λ k. inl (member-left x tried (tried_of c ∷ []) k)) (λ k. inr k) (h.all x j))
      (λ e. inl (subst (λ y. Member y (tried ++ tried_of c ∷ [])) e (member-last (tried_of c) tried)))
      (member-push x (tried_of c) h.answered m);
}

-- one is left aside
pub one_shut : (M : Module) (v : RawTerm) (r : Rule) (tried : List Tried) (old new : Choices) (h : IsAskedThere M v r tried old) (c : Choice) → IsKept v new.subject → IsUnderWay M v (h.answered ++ tried_of c ∷ []) r.by new
    → IsShut M v (tried_of c) → IsAskedThere M v r tried new
one_shut M v r tried old new h c kept way shut = record {
  answered = h.answered ++ tried_of c ∷ [];
  kept = kept;
  under_way = way;
  all = λ x m. ⊎_elim (λ j. h.all x j) (λ e. inr (subst (IsShut M v) e shut)) (member-push x (tried_of c) h.answered m);
}

-- at the beginning
pub none_answered : (M : Module) (v : RawTerm) (r : Rule) (tried : List Tried) (c : Choices) → IsKept v c.subject → IsUnderWay M v [] r.by c → IsAskedThere M v r tried c
none_answered M v r tried c kept way = record { answered = []; kept = kept; under_way = way; all = λ x m. absurd m }

-- where a member of a list stands, and what stands at a place
pub member_place : {X : Type 0} (xs : List X) (x : X) → Member x xs → (i : ℕ) × (i < length xs) × (slice_get xs i ≡ Some x)
member_place [] x m = absurd m
member_place (y ∷ ys) x m = ⊎_elim (λ e. (0, omega arith, ap Some e)) (λ k. let (i, l, e) = member_place ys x k in (suc i, omega (arith, l), e)) m

pub got_at : {X : Type 0} (xs : List X) (i : ℕ) (x : X) → i < length xs → x ≡ get_or xs i x → slice_get xs i ≡ Some x
got_at [] i x l e = absurd (omega (arith, l))
got_at (y ∷ ys) zero x l e = ap Some (sym e)
got_at (y ∷ ys) (suc i) x l e = got_at ys i x (omega (arith, l)) e

pub member_at : {X : Type 0} (xs : List X) (i : ℕ) (x : X) → i < length xs → x ≡ get_or xs i x → Member x xs
member_at xs i x l e = subst (λ y. Member y xs) (sym e) (member-at xs i x l)

-- several arguments are taken where not the whole is
pub some_take : (o : Option (List ℕ)) → is_some o ≡ true → (ks : List ℕ) × (o ≡ Some ks)
some_take None e = cc
some_take (Some ks) e = (ks, refl)

pub no_take : (o : Option (List ℕ)) (ks : List ℕ) → is_some o ≡ false → o ≡ Some ks → ⊥
no_take o ks e z = let bad : is_some (Some ks) ≡ false = ap is_some (sym z) ∙ e in cc

module _ (M : Module) (rules : List Rule) (spots : List Spot) (tried : List Tried) where
  -- more is tried
  tried_more : (c : Tried) (v : RawTerm) (r : Rule) → AreTriedOpen M v tried r → AreTriedOpen M v (tried ++ c ∷ []) r
  tried_more c v r h asks e is w place s sol = let (d, m, number, same) = h asks e is w place s sol in (d, member-left d tried (c ∷ []) m, number, same)

  -- one more is found
  pub one_found : (old new : Redexes) → new.rule ≡ old.rule → new.at ≡ old.at → AreAsked M rules spots tried old → (r : Rule) (s : Spot) → slice_get rules old.rule ≡ Some r → slice_get spots old.at ≡ Some s
      → (c : Tried) → IsAskedThere M s.term.now r (tried ++ c ∷ []) new.choices → AreAsked M rules spots (tried ++ c ∷ []) new
  one_found old new er ea h r s is at c now = record {
    behind = subst (λ n. AreBehind M rules spots (tried ++ c ∷ []) n new.at) (sym er) (subst (AreBehind M rules spots (tried ++ c ∷ []) old.rule) (sym ea) (record {
      passed = λ i r l is s m. tried_more c s.term.now r (h.behind.passed i r l is s m);
      before = λ r is j s l at. tried_more c s.term.now r (h.behind.before r is j s l at);
    }));
    here = λ q x is' at'.
        let a : r ≡ q = same_Some r q (sym is ∙ ap (slice_get rules) (sym er) ∙ is') in
        let b : s ≡ x = same_Some s x (sym at ∙ ap (slice_get spots) (sym ea) ∙ at') in
        subst (λ y. IsAskedThere M x.term.now y (tried ++ c ∷ []) new.choices) a (subst (λ (y : Spot). IsAskedThere M y.term.now r (tried ++ c ∷ []) new.choices) b now);
  }

  -- no rule is left
  pub none_left : (x : Redexes) → length rules ≤ x.rule → AreAsked M rules spots tried x → AreAllAsked M rules spots tried
  none_left x l h r m s k = let (i, below, at) = member_place rules r m in h.behind.passed i r (omega (arith, l, below)) at s k

  -- no part is left
  pub no_part_left : (x : Redexes) → length spots ≤ x.at → AreAsked M rules spots tried x → (r : Rule) (s : Spot) → slice_get rules x.rule ≡ Some r → Member s spots → AreTriedOpen M s.term.now tried r
  no_part_left x l h r s is m = let (j, below, at) = member_place spots s m in h.behind.before r is j s (omega (arith, l, below)) at

  module _ (rule at : ℕ) (new : Redexes) (h : AreBehind M rules spots tried rule at) (fresh : (v : RawTerm) (r : Rule) → IsAskedThere M v r tried new.choices) where
    -- the next part comes
    pub part_passed : new.rule ≡ rule → new.at ≤ at + 1 → ((r : Rule) (s : Spot) → slice_get rules rule ≡ Some r → slice_get spots at ≡ Some s → AreTriedOpen M s.term.now tried r) → AreAsked M rules spots tried new
    part_passed same next told = record {
      behind = record {
        passed = λ i r l is. h.passed i r (subst (λ n. i < n) same l) is;
        before = λ r is j s l there. by_place r (subst (λ n. slice_get rules n ≡ Some r) same is) j s there (near j (omega (arith, l, next)));
      };
      here = λ r s is there. fresh s.term.now r;
    }
      where
        near : (j : ℕ) → j ≤ at → (j < at) ⊎ (j ≡ at)
        near j l = ⊎_elim inl (λ g. inr (omega (arith, l, g))) (cases_lt j at)

        by_place : (r : Rule) → slice_get rules rule ≡ Some r → (j : ℕ) (s : Spot) → slice_get spots j ≡ Some s → (j < at) ⊎ (j ≡ at) → AreTriedOpen M s.term.now tried r
        by_place r is j s there (inl l) = h.before r is j s l there
        by_place r is j s there (inr e) = told r s is (subst (λ n. slice_get spots n ≡ Some s) e there)

    -- the next rule comes
    pub rule_passed : new.rule ≤ rule + 1 → new.at ≡ 0 → ((r : Rule) (s : Spot) → slice_get rules rule ≡ Some r → Member s spots → AreTriedOpen M s.term.now tried r) → AreAsked M rules spots tried new
    rule_passed next first told = record {
      behind = record {
        passed = λ i r l is s m. by_place i r is s m (near i (omega (arith, l, next)));
        before = λ r is j s l there. absurd (omega (arith, l, first));
      };
      here = λ r s is there. fresh s.term.now r;
    }
      where
        near : (i : ℕ) → i ≤ rule → (i < rule) ⊎ (i ≡ rule)
        near i l = ⊎_elim inl (λ g. inr (omega (arith, l, g))) (cases_lt i rule)

        by_place : (i : ℕ) (r : Rule) → slice_get rules i ≡ Some r → (s : Spot) → Member s spots → (i < rule) ⊎ (i ≡ rule) → AreTriedOpen M s.term.now tried r
        by_place i r is s m (inl l) = h.passed i r l is s m
        by_place i r is s m (inr e) = told r s (subst (λ n. slice_get rules n ≡ Some r) e is) m
