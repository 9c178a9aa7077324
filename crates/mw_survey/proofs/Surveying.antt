-- What a survey says, as it begins, answers, passes over and turns to the next subject.
use Rattle.std.specs.Prelude.{◌≡◌, ◌⊎◌, ◌<◌, ◌≤◌, ℕ, zero, suc, List, [], ◌++◌, ◌∷◌, length, map, true, Option, Some, None, MatchOption, IfSome, slice_get, refl, ⊤}
use Rattle.std.proofs.Common.{sym, subst, ap, ◌∙◌, inl, inr, ⊎_elim}
use Rattle.mw_logic.specs.Term.{RawTerm}
use Rattle.mw_logic.specs.Terms.{list_of}
use Rattle.mw_logic.specs.Signature.{Signature, Member, at_number}
use Rattle.mw_logic.specs.CanonicalPart.{IsOpen}
use Rattle.mw_logic.specs.Module.{Module}
use Rattle.mw_least.specs.Workable.{IsWorkable}
use Rattle.mw_index.specs.Index.{AreRulesOf}
use Rattle.mw_index.specs.Choices.{Tried, tried_of}
use Rattle.mw_index.specs.declared.index.Rule.{Rule}
use Rattle.mw_multiset.specs.Together.{together}
use Rattle.mw_multiset.specs.Together.{IsOfMultisets}
use Rattle.mw_world.specs.World.{Try}
use Rattle.mw_redexes.specs.Spots.{IsReached, IsSpot, AreWanted, AreAllSpots, AreWays}
use Rattle.mw_redexes.specs.declared.spots.Spot.{Spot}
use Rattle.mw_redexes.specs.declared.spots.Wanted.{Wanted}
use Rattle.mw_redexes.specs.declared.redexes.Found.{Found}
use Rattle.mw_redexes.specs.declared.redexes.Redexes.{Redexes}
use Rattle.mw_redexes.proofs.Passed.{member_place}
use Rattle.mw_survey.specs.Surveys.{IsPassed, Covers}
use Rattle.mw_survey.specs.Asked.{Standing, term_of, term_at, standing_of, standing_at, AreWaysOn, HaveWays, IsWaiting, parts_in, AreAllParts, IsSubject, AreAskedAt, AreAllAskedAt, with_last, IsSurveyWith, IsSurveyOf, IsWholeOf}
use Rattle.mw_survey.specs.declared.parts.Part.{Part}
use Rattle.mw_survey.specs.declared.survey.Survey.{Survey}
use Rattle.mw_survey.proofs.Covered.{covers_passed, covers_ended}
use Rattle.mw_survey.proofs.Asking.{map_there, map_back, mapped_member, member_mapped, subject_done}

-- the first subject's parts
pub first_subject : (M : Module) (f : ℕ) (rules : List Rule) (all : List RawTerm) (whole : Option RawTerm) → IsWholeOf M.signature f all whole → (terms : List RawTerm)
    → ((t : RawTerm) → whole ≡ Some t → terms ≡ t ∷ []) → (whole ≡ None → terms ≡ []) → IsSubject M f rules all 0 terms
first_subject M f rules all whole h terms one none = (λ s. one (together M.signature f all) (h.0 s), λ n. none (h.1 n))

-- the parts that were listed
pub parts_listed : (sig : Signature) (rules : List Rule) (wanted : Wanted) → AreWanted rules wanted → (x : RawTerm) (spots : List Spot) → AreAllSpots sig wanted x spots → (terms : List RawTerm) → terms ≡ map term_at spots → AreAllParts sig rules x terms
parts_listed sig rules wanted asks x spots listed terms same = record {
  reached = λ u m.
      let (s, n, e) = mapped_member term_at spots u (subst (Member u) same m) in
      let (i, l, at) = member_place spots s n in
      subst (IsReached sig x) e (listed.sound i s at).reached;
  complete = λ u r y k a.
      let (s, n, e) = listed.complete u r (asks y k u a) in
      subst (Member u) (sym same) (subst (λ v. Member v (map term_at spots)) e (member_mapped term_at spots s n));
}

-- parts that stand the same way have their ways too
pub ways_alike : (sig : Signature) (root : RawTerm) (ss zs : List Spot) → map standing_at ss ≡ map standing_at zs → AreWays sig root ss → AreWays sig root zs
ways_alike sig root ss zs same h j z there = alike (h j (at_other j z there).0 (at_other j z there).1) (at_other j z there).2
  where
    at_other : (j : ℕ) (z : Spot) → slice_get zs j ≡ Some z → (s : Spot) × (slice_get ss j ≡ Some s) × (standing_at s ≡ standing_at z)
    at_other j z e = map_back standing_at ss j (standing_at z) (subst (λ us. slice_get us j ≡ Some (standing_at z)) (sym same) (map_there standing_at zs j z e))

    parent_there : (i k : ℕ) (p : Spot) → i ≡ k → slice_get ss i ≡ Some p → (q : Spot) × (slice_get zs k ≡ Some q) × (p.term.now ≡ q.term.now)
    parent_there i k p e at =
        let (q, there, is) = map_back standing_at zs k (standing_at p) (subst (λ us. slice_get us k ≡ Some (standing_at p)) same (subst (λ n. slice_get (map standing_at ss) n ≡ Some (standing_at p)) e (map_there standing_at ss i p at))) in
        (q, there, ap (λ (x : Standing). x.term) (sym is))

    alike : {s : Spot} → IsSpot sig root ss j s → standing_at s ≡ standing_at z → IsSpot sig root zs j z
    alike {s} h e =
        let term : s.term.now ≡ z.term.now = ap (λ (x : Standing). x.term) e in
        let parent : s.parent ≡ z.parent = ap (λ (x : Standing). x.parent) e in
        let number : s.number ≡ z.number = ap (λ (x : Standing). x.number) e in
        record {
          reached = subst (IsReached sig root) term h.reached;
          placed = ⊎_elim
              (λ a. inl (a.0, sym term ∙ a.1))
              (λ (p, at, below, f, ts, is, arg, o).
              let (q, there, same_term) = parent_there s.parent z.parent p parent at in
              inr (
                q,
                there,
                subst (λ n. n < j) parent below,
                f,
                ts,
                sym same_term ∙ is,
                subst (λ n. at_number (list_of ts) n ≡ Some z.term.now) number (subst (λ u. at_number (list_of ts) s.number ≡ Some u) term arg),
                subst (IsOpen sig true f) number o,
              ))
              h.placed;
        }

-- so the parts that were listed have them
pub ways_listed : (sig : Signature) (wanted : Wanted) (x : RawTerm) (spots : List Spot) → AreAllSpots sig wanted x spots → (parts : List Part) → map standing_of parts ≡ map standing_at spots → AreWaysOn sig x parts
ways_listed sig wanted x spots listed parts same zs e = ways_alike sig x spots zs (sym same ∙ sym e) listed.sound

-- the last choice is passed over
pub passed_over : (M : Module) (f : ℕ) (rules : List Rule) (tries : List Try) (free : List RawTerm) (s : Survey) → IsSurveyOf M f rules tries free s
    → IfSome s.found (λ x. IsPassed M f tries free s.all.items s.at (tried_of x.choice)) → IsSurveyOf M f rules tries free (record s { found = None })
passed_over M f rules tries free s (passed, h) p = by_found s.found refl
  where
    by_found : (o : Option Found) → s.found ≡ o → IsSurveyOf M f rules tries free (record s { found = None })
    by_found None e = (passed, record { covers = h.covers; subject = h.subject; ways = h.ways; last = tt; asked = subst (λ o. AreAskedAt M rules (parts_in s) (with_last passed o) s.redexes) e h.asked })
    by_found (Some x) e = (
      passed ++ tried_of x.choice ∷ [],
      record {
        covers = covers_passed M f tries free s.all.items s.at passed (tried_of x.choice) h.covers (subst (λ o. IfSome o (λ y. IsPassed M f tries free s.all.items s.at (tried_of y.choice))) e p);
        subject = h.subject;
        ways = h.ways;
        last = tt;
        asked = subst (λ o. AreAskedAt M rules (parts_in s) (with_last passed o) s.redexes) e h.asked;
      },
    )

-- where none waits
pub none_waits : (M : Module) (f : ℕ) (rules : List Rule) (tries : List Try) (free : List RawTerm) (passed : List Tried) (s : Survey) → s.found ≡ None → IsSurveyWith M f rules tries free passed s → AreAskedAt M rules (parts_in s) passed s.redexes
none_waits M f rules tries free passed s e h = subst (λ o. AreAskedAt M rules (parts_in s) (with_last passed o) s.redexes) e h.asked

-- a choice is answered
pub one_waits : (M : Module) (f : ℕ) (rules : List Rule) (tries : List Try) (free : List RawTerm) (passed : List Tried) (s r : Survey) (x : Found) → r.all ≡ s.all → r.at ≡ s.at → r.parts ≡ s.parts → r.found ≡ Some x
    → IsSurveyWith M f rules tries free passed s → IsWaiting M s.all.items s.at (parts_in s) x → AreAskedAt M rules (parts_in s) (passed ++ tried_of x.choice ∷ []) r.redexes → IsSurveyWith M f rules tries free passed r
one_waits M f rules tries free passed s r x all at parts found h is asked =
    let same : parts_in s ≡ parts_in r = ap (λ ps. map term_of ps.items) (sym parts) in
    record {
      covers = subst (λ xs. Covers M f tries free xs.items r.at passed) (sym all) (subst (λ n. Covers M f tries free s.all.items n passed) (sym at) h.covers);
      subject = subst (λ xs. IsSubject M f rules xs.items r.at (parts_in r)) (sym all) (subst (λ n. IsSubject M f rules s.all.items n (parts_in r)) (sym at) (subst (IsSubject M f rules s.all.items s.at) same h.subject));
      ways = subst (λ xs. HaveWays M.signature xs.items r.at r.parts.items) (sym all) (subst (λ n. HaveWays M.signature s.all.items n r.parts.items) (sym at) (subst (λ ps. HaveWays M.signature s.all.items s.at ps.items) (sym parts) h.ways));
      last = subst (λ o. MatchOption o ⊤ (IsWaiting M r.all.items r.at (parts_in r))) (sym found)
          (subst (λ xs. IsWaiting M xs.items r.at (parts_in r) x) (sym all) (subst (λ n. IsWaiting M s.all.items n (parts_in r) x) (sym at) (subst (λ ts. IsWaiting M s.all.items s.at ts x) same is)));
      asked = subst (λ o. AreAskedAt M rules (parts_in r) (with_last passed o) r.redexes) (sym found) (subst (λ ts. AreAskedAt M rules ts (passed ++ tried_of x.choice ∷ []) r.redexes) same asked);
    }

-- the next subject comes
pub turned : (M : Module) → IsWorkable M → (f : ℕ) (rules : List Rule) → AreRulesOf M rules → (tries : List Try) (free : List RawTerm) (passed : List Tried) (s : Survey) (parts : List RawTerm) (at : ℕ) (redexes : Redexes)
    → IsOfMultisets M f → Covers M f tries free s.all.items s.at passed → IsSubject M f rules s.all.items s.at (parts_in s) → AreAllAskedAt M rules (parts_in s) passed
    → at ≡ suc s.at → ((x : RawTerm) → slice_get s.all.items s.at ≡ Some x → AreAllParts M.signature rules x parts)
    → Covers M f tries free s.all.items at [] × IsSubject M f rules s.all.items at parts
turned M work f rules are tries free passed s parts at redexes op covers subject asked next is =
    let d = subject_done M work f rules are op tries free s.all.items s.at passed covers (parts_in s) subject asked in
    (subst (λ n. Covers M f tries free s.all.items n []) (sym next) (covers_ended M f tries free s.all.items s.at passed covers d), subst (λ n. IsSubject M f rules s.all.items n parts) (sym next) is)

pub none_of : (o : Option Found) → Rattle.std.specs.Prelude.is_some o ≡ Rattle.std.specs.Prelude.false → o ≡ None
none_of None e = refl
none_of (Some x) e = cc e

pub one_part : (xs ys : List Part) (p : Part) → xs ≡ [] → ys ≡ xs ++ p ∷ [] → map term_of ys ≡ p.term ∷ []
one_part xs ys p e d = ap (map term_of) (d ∙ ap (λ zs. zs ++ p ∷ []) e)
