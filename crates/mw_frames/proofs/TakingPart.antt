-- Several arguments of the term in hand are taken, and what comes of them is put back among the others.
use Rattle.std.specs.Prelude.{◌≡◌, ◌≤◌, ◌<◌, ◌-◌, ℕ, suc, List, [], ◌∷◌, ◌++◌, length, take, drop, Bool, true, false, cond, nat_eq, refl}
use Rattle.std.proofs.Common.{sym, subst, ap, ◌∙◌, arith, inl, inr}
use Rattle.std.proofs.lemmas.Bool.{both_ways}
use Rattle.std.proofs.lemmas.List.{length-append}
use Rattle.std.proofs.Math.Seq.{drop-append_seam, take-append_seam}
use Rattle.mw_logic.specs.Term.{RawTerm, RawTerms, quoted, apply, nil, cons, join}
use Rattle.mw_logic.specs.Terms.{terms_of, front, skip}
use Rattle.mw_logic.specs.Signature.{Signature, Identity, constant_of, numeral_of}
use Rattle.mw_logic.specs.CanonicalPart.{AreSeveral}
use Rattle.mw_logic.specs.TermOrder.{stands_after, insert_term, sorted_terms}
use Rattle.mw_logic.specs.Parts.{is_assoc, number_of_terms}
use Rattle.mw_logic.specs.NormalForm.{is_comm, identity_of, arranged, applied_in}
use Rattle.mw_logic.specs.Module.{Module}
use Rattle.mw_logic.proofs.Canonical.{Each, IsElement, IsCanonical, is_identity-arguments, assoc-true, Each-join, Each-arranged, each_canonical, all_canonical}
use Rattle.mw_logic.proofs.CanonicalTerms.{not_successor}
use Rattle.mw_logic.proofs.Holes.{Each-parts, Each-unarranged}
use Rattle.mw_logic.proofs.Replacing.{sorted_terms-middle}
use Rattle.mw_logic.proofs.SortLaws.{join-nil}
use Rattle.mw_logic.proofs.SortedLists.{Climbs, climbs, sorted_terms-climbing}
use Rattle.mw_arguments.specs.Places.{chosen, others, Takes}
use Rattle.mw_arguments.proofs.Arguments.{args_in_order}
use Rattle.mw_arguments.proofs.ListPieces.{join_parts}
use Rattle.mw_stack.specs.Hidden.{IsHidden}
use Rattle.mw_deduction.specs.Standing.{Open, round, IsClear, AreClear}
use Rattle.mw_deduction.specs.Replay as Replay
use Rattle.mw_deduction.specs.Replay.{Move, among, Stand, opened, going_in, going_out, into_several, play, plays, IsMove, MayGoAmong}
use Rattle.mw_deduction.proofs.LeftBack.{left_back}
use Rattle.mw_stack.specs.Own.{spread}
use Rattle.mw_frames.specs.Fair.{Stays, IsFair}
use Rattle.mw_frames.specs.declared.job.Job.{Job}
use Rattle.mw_frames.specs.declared.job.Job.TheVariants.{Try, Normal}
use Rattle.mw_frames.specs.declared.job.Frame.{Frame}
use Rattle.mw_frames.specs.Jobs.{term_of, rest, arguments, IsOpenedAs, AreOpened}
use Rattle.mw_frames.specs.State.{Run, Data, Leads, IsRun, InHand, Settled, IsGood, AreGood, AreJobs, AreAtHand, IsDone, IsNormalHere}
use Rattle.mw_frames.specs.Redex.{IsSeenIn, hole_level, Stands}
use Rattle.mw_frames.specs.Fires.{IsWhole}
use Rattle.mw_frames.specs.Taking.{before_taken, behind_taken, waiting_normal, IsLeft, Receives}
use Rattle.mw_frames.proofs.Arguments.{spliced, same_applied}
use Rattle.mw_frames.proofs.Turning.{quoted_element, led, rest-append, level_here, same_head}
use Rattle.mw_frames.proofs.FiringHere.{at_term}

chosen_each : (P : RawTerm → Type 0) (i : ℕ) (ks : List ℕ) (ts : RawTerms) → Each P ts → Each P (chosen i ks ts)
chosen_each P i [] ts h = tt
chosen_each P i (k ∷ ks) nil h = tt
chosen_each P i (k ∷ ks) (cons t ts) h = by_test (nat_eq i k) (chosen_each P (suc i) ks ts h.1) (chosen_each P (suc i) (k ∷ ks) ts h.1)
  where
    by_test : (b : Bool) → Each P (chosen (suc i) ks ts) → Each P (chosen (suc i) (k ∷ ks) ts) → Each P (cond b (cons t (chosen (suc i) ks ts)) (chosen (suc i) (k ∷ ks) ts))
    by_test true a b = (h.0, a)
    by_test false a b = b

others_each : (P : RawTerm → Type 0) (i : ℕ) (ks : List ℕ) (ts : RawTerms) → Each P ts → Each P (others i ks ts)
others_each P i [] ts h = h
others_each P i (k ∷ ks) nil h = tt
others_each P i (k ∷ ks) (cons t ts) h = by_test (nat_eq i k) (others_each P (suc i) ks ts h.1) (others_each P (suc i) (k ∷ ks) ts h.1)
  where
    by_test : (b : Bool) → Each P (others (suc i) ks ts) → Each P (others (suc i) (k ∷ ks) ts) → Each P (cond b (others (suc i) ks ts) (cons t (others (suc i) (k ∷ ks) ts)))
    by_test true a b = a
    by_test false a b = (h.0, b)

others_climb : (i : ℕ) (ks : List ℕ) (ts : RawTerms) → Climbs ts → Climbs (others i ks ts)
others_climb i [] ts h = h
others_climb i (k ∷ ks) nil h = tt
others_climb i (k ∷ ks) (cons t ts) h = by_test (nat_eq i k) (others_climb (suc i) ks ts h.1) (others_climb (suc i) (k ∷ ks) ts h.1)
  where
    by_test : (b : Bool) → Climbs (others (suc i) ks ts) → Climbs (others (suc i) (k ∷ ks) ts) → Climbs (cond b (others (suc i) ks ts) (cons t (others (suc i) (k ∷ ks) ts)))
    by_test true a b = a
    by_test false a b = (others_each (λ u. stands_after t u ≡ false) (suc i) (k ∷ ks) ts h.0, b)

behind_climb : (ts : RawTerms) (i : ℕ) (ks : List ℕ) (us : RawTerms) → Climbs (join ts us) → Climbs (join ts (others i ks us))
behind_climb nil i ks us h = others_climb i ks us h
behind_climb (cons t ts) i ks us h =
    let p = Each-parts (λ u. stands_after t u ≡ false) ts us h.0 in
    (Each-join (λ u. stands_after t u ≡ false) ts (others i ks us) p.0 (others_each (λ u. stands_after t u ≡ false) i ks us p.1), behind_climb ts i ks us h.1)

-- what each argument has, each of those that are left has
pub each_left : (P : RawTerm → Type 0) (ks : List ℕ) (ts : RawTerms) → Each P ts → Each P (before_taken ks ts) × Each P (behind_taken ks ts)
each_left P [] ts h = (h, tt)
each_left P (k ∷ ks) ts h =
    let p = Each-parts P (front (k - 1) ts) (skip (k - 1) ts) (subst (Each P) (sym (join_parts (k - 1) ts)) h) in (p.0, others_each P k (k ∷ ks) (skip (k - 1) ts) p.1)

pub left_climb : (ks : List ℕ) (ts : RawTerms) → Climbs ts → Climbs (join (before_taken ks ts) (behind_taken ks ts))
left_climb [] ts h = subst Climbs (sym (join-nil ts)) h
left_climb (k ∷ ks) ts h = behind_climb (front (k - 1) ts) k (k ∷ ks) (skip (k - 1) ts) (subst Climbs (sym (join_parts (k - 1) ts)) h)

-- an argument stands among others in order wherever it comes
pub among_others : (b a : RawTerms) (t : RawTerm) → sorted_terms (join b (cons t a)) ≡ sorted_terms (join (join b a) (cons t nil))
among_others b a t = sorted_terms-middle b t a ∙ ap (λ us. insert_term t (sorted_terms us)) (sym (join-nil (join b a))) ∙ sym (sorted_terms-middle (join b a) t nil)

pub rest_normal : (sig : Signature) (vs ts : List RawTerm) → rest sig vs (waiting_normal ts) ≡ terms_of ts
rest_normal sig vs [] = refl
rest_normal sig vs (t ∷ ts) = rest-append sig vs (waiting_normal ts) (Normal t) ∙ ap (cons t) (rest_normal sig vs ts)

-- into them
into_taken : (sig : Signature) (ks : List ℕ) (f : ℕ) (args : RawTerms) (S : Stand) → AreSeveral (chosen 1 ks args)
    → into_several sig ks (apply f args) S ≡ going_in sig (opened f (before_taken ks args) (behind_taken ks args)) (apply f (chosen 1 ks args)) S
into_taken sig [] f args S l = absurd l
into_taken sig (k ∷ ks) f args S l = refl

module _ (K : Run) (sig : Signature) (run : IsRun K sig) (count : ℕ) where
  abbrev M : Module
  M = K.over

  abbrev here : Signature
  here = K.over.signature

  -- what a stand is with all that stands round it
  abbrev pub in_all : Stand → RawTerm
  in_all S = Replay.whole here S.opens S.hand

  -- the level of an operator that is opened in the innermost hole
  pub level_new : (vs : List RawTerm) (fs : List Frame) (ds : List RawTerm) (xs : List Job) (os : List Open) (g : ℕ) → AreClear here os → AreOpened here vs fs ds xs os
      → Rattle.mw_deduction.proofs.Depths.level_in here (round here os) (apply g nil) ≡ hole_level here fs (apply g nil)
  level_new vs [] ds xs os g c o = ap (λ ps. Rattle.mw_deduction.proofs.Depths.level_in here (round here ps) (apply g nil)) o
  level_new vs (f ∷ fs) ds xs os g c o = level_here K run.accepted run.sorted count vs f fs ds xs os g c o

  pub normal_jobs : (vs ts : List RawTerm) → Each (IsNormalHere M K.rank) (terms_of ts) → AreJobs M K.rank vs (waiting_normal ts)
  normal_jobs vs [] h = tt
  normal_jobs vs (t ∷ ts) h = behind (waiting_normal ts) (normal_jobs vs ts h.1)
    where
      behind : (xs : List Job) → AreJobs M K.rank vs xs → AreJobs M K.rank vs (xs ++ Normal t ∷ [])
      behind [] a = (h.0, tt)
      behind (x ∷ xs) a = (a.0, behind xs a.1)

  pub normal_at_hand : (ts : List RawTerm) → AreAtHand (waiting_normal ts)
  normal_at_hand [] = tt
  normal_at_hand (t ∷ ts) = behind (waiting_normal ts) (normal_at_hand ts)
    where
      behind : (xs : List Job) → AreAtHand xs → AreAtHand (xs ++ Normal t ∷ [])
      behind [] a = (tt, tt)
      behind (x ∷ xs) a = (a.0, behind xs a.1)

  pub as_done : (f : ℕ) (ts : RawTerms) → Each (IsNormalHere M K.rank) ts → Each (IsDone M K.rank f) ts
  as_done f nil h = tt
  as_done f (cons t ts) h = (inl h.0, as_done f ts h.1)

  as_staying : (f : ℕ) → is_assoc here f ≡ true → (ts : RawTerms) → Each (IsElement (identity_of here f) f) ts → Each (Stays here f) ts
  as_staying f h nil e = tt
  as_staying f h (cons t ts) e = (record { element = λ q. e.0; seen = λ z. not_successor here run.accepted f h z.successor }, as_staying f h ts e.1)

  -- several arguments are seen under any operator
  pub several_seen : (f g : ℕ) (us : RawTerms) → AreSeveral us → ¬ IsHidden here f (apply g us)
  several_seen f g nil l h = elim l [ ]
  several_seen f g (cons t nil) l h = elim l [ ]
  several_seen f g (cons t (cons u us)) l (inl h) = both_ways _ (is_identity-arguments (identity_of here f) g t (cons u us)) h.1
  several_seen f g (cons t (cons u us)) l (inr z) = let e = z.is in cc

  module _ (values : List RawTerm) (ms : List Move) (fs : List Frame) (ds : List RawTerm) (xs : List Job) (t w : RawTerm)
      (h : InHand K count (record { frames = fs; done = ds; jobs = xs; values = values; moves = ms }) (Try t)) (ks : List ℕ) (m : Takes here ks t w) (proper : length ks < number_of_terms m.args) where
    abbrev g : ℕ
    g = m.operator

    assoc : is_assoc here g ≡ true
    assoc = assoc-true here g m.assoc.operator m.assoc.is_there m.assoc.assoc

    canonical : IsCanonical here (apply g m.args)
    canonical = subst (IsCanonical here) m.term (at_term K sig run count ms h.stand t h.leads h.hand).canonical

    normal : Each (IsNormalHere M K.rank) m.args
    normal = h.job g m.args m.term

    abbrev b : RawTerms
    b = before_taken ks m.args

    abbrev a : RawTerms
    a = behind_taken ks m.args

    -- the others, as the frame has them
    parts_good : (f : Frame) → f.op ≡ g → (os : List RawTerm) (ys : List Job) → IsLeft here g ks m.args os ys
        → IsGood M K.rank values f (terms_of os) ys × ((u : RawTerm) → arranged (is_comm here g) (join b (cons u a)) ≡ arranged (is_comm here g) (join (terms_of os) (cons u (rest here values ys))))
    parts_good f e os ys l = by_comm (is_comm here g) refl
      where
        n : Each (IsNormalHere M K.rank) b × Each (IsNormalHere M K.rank) a
        n = each_left (IsNormalHere M K.rank) ks m.args normal

        waits : rest here values ys ≡ terms_of l.behind
        waits = ap (rest here values) l.jobs ∙ rest_normal here values l.behind

        good : Each (IsNormalHere M K.rank) (terms_of os) → arranged (is_comm here g) (terms_of os) ≡ terms_of os → Each (IsNormalHere M K.rank) (terms_of l.behind)
            → arranged (is_comm here g) (terms_of l.behind) ≡ terms_of l.behind → Each (IsElement (identity_of here g) g) (terms_of l.behind) → IsGood M K.rank values f (terms_of os) ys
        good n o nb ob eb =
            let c : is_comm here f.op ≡ is_comm here g = ap (is_comm here) e in
            record {
              done = as_done f.op (terms_of os) n;
              order = ap (λ x. arranged x (terms_of os)) c ∙ o;
              jobs = subst (AreJobs M K.rank values) (sym l.jobs) (normal_jobs values l.behind nb);
              jobs_order = ap (arranged (is_comm here f.op)) waits ∙ ap (λ x. arranged x (terms_of l.behind)) c ∙ ob ∙ sym waits;
              seen = subst (Each (Stays here f.op)) (sym waits) (subst (λ j. Each (Stays here j) (terms_of l.behind)) (sym e) (as_staying g assoc (terms_of l.behind) eb));
              at_hand = λ q. subst (AreAtHand) (sym l.jobs) (normal_at_hand l.behind);
            }

        by_comm : (c : Bool) → is_comm here g ≡ c
            → IsGood M K.rank values f (terms_of os) ys × ((u : RawTerm) → arranged (is_comm here g) (join b (cons u a)) ≡ arranged (is_comm here g) (join (terms_of os) (cons u (rest here values ys))))
        by_comm true q =
            let (d, z) = l.together q in
            let o : sorted_terms m.args ≡ m.args = subst (λ c. arranged c m.args ≡ m.args) q (args_in_order here run.accepted g assoc m.args canonical) in
            let s : sorted_terms (join b a) ≡ join b a = sorted_terms-climbing (join b a) (left_climb ks m.args (climbs m.args o)) in
            let nothing : terms_of l.behind ≡ nil = ap terms_of z in (
              good (subst (Each (IsNormalHere M K.rank)) (sym d) (Each-join (IsNormalHere M K.rank) b a n.0 n.1)) (ap (λ c. arranged c (terms_of os)) q ∙ ap sorted_terms d ∙ s ∙ sym d)
                  (subst (Each (IsNormalHere M K.rank)) (sym nothing) tt) (ap (λ c. arranged c (terms_of l.behind)) q ∙ ap sorted_terms nothing ∙ sym nothing) (subst (Each (IsElement (identity_of here g) g)) (sym nothing) tt),
              λ u. ap (λ c. arranged c (join b (cons u a))) q ∙ among_others b a u
                  ∙ ap sorted_terms (ap (λ us. join us (cons u nil)) (sym d) ∙ ap (λ us. join (terms_of os) (cons u us)) (sym (waits ∙ nothing)))
                  ∙ ap (λ c. arranged c (join (terms_of os) (cons u (rest here values ys)))) (sym q),
            )
        by_comm false q =
            let (d, z) = l.apart q in
            let es = each_left (IsElement (identity_of here g) g) ks m.args (canonical.2 assoc) in
            let flat : (us : RawTerms) → arranged (is_comm here g) us ≡ us = λ us. ap (λ c. arranged c us) q in (
              good (subst (Each (IsNormalHere M K.rank)) (sym d) n.0) (flat (terms_of os)) (subst (Each (IsNormalHere M K.rank)) (sym z) n.1) (flat (terms_of l.behind)) (subst (Each (IsElement (identity_of here g) g)) (sym z) es.1),
              λ u. ap (arranged (is_comm here g)) (ap (λ us. join us (cons u a)) (sym d) ∙ ap (λ us. join (terms_of os) (cons u us)) (sym (waits ∙ z))),
            )

    -- they are in hand, and the others stand round them
    pub takes : (f : Frame) → f.op ≡ g → f.from ≡ length ds → f.waits ≡ length xs → f.level ≡ hole_level here fs (apply f.op nil) → (os : List RawTerm) (ys : List Job) → IsLeft here g ks m.args os ys
        → (i : InHand K count (record { frames = f ∷ fs; done = ds ++ os; jobs = xs ++ ys; values = values; moves = ms ++ among ks ∷ [] }) (Try w)) × IsSeenIn here (f ∷ fs) w × (in_all i.stand ≡ in_all h.stand) × (i.stand.opens ≡ opened g b a ∷ h.stand.opens)
    takes f e ef ew el os ys l =
        let S : Stand = h.stand in
        let us : RawTerms = chosen 1 ks m.args in
        let T : Stand = going_in here (opened g b a) (apply g us) S in
        let (good, same) = parts_good f e os ys l in
        let is : S.hand ≡ t = h.hand in
        let may : MayGoAmong here ks S.hand = subst (MayGoAmong here ks) (sym is) (record { part = w; takes = m; proper = proper }) in
        let p : play M (among ks) (S ∷ K.below) ≡ T ∷ K.below = ap (λ u. into_several here ks u S ∷ K.below) (is ∙ m.term) ∙ ap (λ Q. Q ∷ K.below) (into_taken here ks g m.args S m.several) in
        let dd : drop f.from (ds ++ os) ≡ os = ap (λ i. drop i (ds ++ os)) ef ∙ drop-append_seam ds os in
        let td : take f.from (ds ++ os) ≡ ds = ap (λ i. take i (ds ++ os)) ef ∙ take-append_seam ds os in
        let dx : drop f.waits (xs ++ ys) ≡ ys = ap (λ i. drop i (xs ++ ys)) ew ∙ drop-append_seam xs ys in
        let tx : take f.waits (xs ++ ys) ≡ xs = ap (λ i. take i (xs ++ ys)) ew ∙ take-append_seam xs ys in
        let at = at_term K sig run count ms S t h.leads h.hand in
        let c : is_comm here f.op ≡ is_comm here g = ap (is_comm here) e in
        let opens_as : IsOpenedAs here values f (opened g b a) (terms_of os) (rest here values ys) = record {
          operator = sym e;
          same = λ u. ap (λ x. arranged x (join b (cons u a))) c ∙ same u ∙ ap (λ x. arranged x (join (terms_of os) (cons u (rest here values ys)))) (sym c);
          alone = λ z. absurd (not_successor here run.accepted g assoc (subst (Rattle.mw_logic.specs.Signature.IsSuccessor here) e z));
        } in
        let leads : Leads K count (ms ++ among ks ∷ []) T = led K count ms (among ks) S T h.leads may p refl refl h.leads.ready refl in
        let back = left_back M run.accepted (ms ++ among ks ∷ []) ms K.start T K.below (opened g b a) S.opens run.start leads.moves leads.plays refl (inr (inr (ks, refl))) in
        let same_stand : going_out here T.opens T ≡ S = same_head (sym back.1 ∙ h.leads.plays) in (
          record {
            stand = T;
            leads = leads;
            opened = (
              subst (λ zs. IsOpenedAs here values f (opened g b a) (terms_of zs) (rest here values (drop f.waits (xs ++ ys)))) (sym dd) (subst (λ zs. IsOpenedAs here values f (opened g b a) (terms_of os) (rest here values zs)) (sym dx) opens_as),
              el ∙ sym (level_new values fs ds xs S.opens f.op at.clear h.opened),
              subst (λ zs. AreOpened here values fs zs (take f.waits (xs ++ ys)) S.opens) (sym td) (subst (λ zs. AreOpened here values fs ds zs S.opens) (sym tx) h.opened),
            );
            hand = sym m.part;
            good = (
              subst (λ zs. IsGood M K.rank values f (terms_of zs) (drop f.waits (xs ++ ys))) (sym dd) (subst (IsGood M K.rank values f (terms_of os)) (sym dx) good),
              let n = length-append ds os in omega (arith, n, ef),
              let n = length-append xs ys in omega (arith, n, ew),
              subst (λ zs. AreGood M K.rank values fs zs (take f.waits (xs ++ ys))) (sym td) (subst (λ zs. AreGood M K.rank values fs ds zs) (sym tx) h.good),
            );
            job = λ j ts q. let z : us ≡ ts = same_arguments (sym m.part ∙ q) in subst (Each (IsNormalHere M K.rank)) z (chosen_each (IsNormalHere M K.rank) 1 ks m.args normal);
          },
          subst (λ x. ¬ IsHidden here f.op x) (sym m.part) (several_seen f.op g us m.several),
          ap in_all same_stand,
          refl,
        )
      where
        same_arguments : {i j : ℕ} {us ts : RawTerms} → apply i us ≡ apply j ts → us ≡ ts
        same_arguments q = cc

  -- Out of a hole of an associative operator: what stands there comes to its frame.
  pub comes_back : (values : List RawTerm) (ms ns : List Move) (f : Frame) (fs : List Frame) (ds : List RawTerm) (xs : List Job) (x : Job) → is_assoc here f.op ≡ true
      → InHand K count (record { frames = f ∷ fs; done = ds; jobs = xs; values = values; moves = ms }) x → Replay.Leaves ms ns
      → Receives K count (record { frames = fs; done = ds; jobs = xs; values = values; moves = ns }) f (term_of here values x)
  comes_back values ms ns f fs ds xs x assoc h lv = by_opens h.stand.opens refl h.opened
    where
      S : Stand
      S = h.stand

      t : RawTerm
      t = term_of here values x

      own : RawTerms
      own = terms_of (drop f.from ds)

      waiting : RawTerms
      waiting = rest here values (drop f.waits xs)

      by_opens : (os : List Open) → S.opens ≡ os → AreOpened here values (f ∷ fs) ds xs os → Receives K count (record { frames = fs; done = ds; jobs = xs; values = values; moves = ns }) f t
      by_opens [] e o = elim o [ ]
      by_opens (o ∷ os) e (is, level, below) =
          let T : Stand = going_out here (o ∷ os) S in
          let (am, p) = left_back M run.accepted ms ns K.start S K.below o os run.start h.leads.moves h.leads.plays e lv in
          let q : plays M ns K.start ≡ T ∷ K.below = p ∙ ap (λ zs. going_out here zs S ∷ K.below) e in
          let at = at_term K sig run count ms S t h.leads h.hand in
          let clear : IsClear here o = (subst (AreClear here) e at.clear).0 in
          let es : (P : RawTerm → Type 0) → Each P o.before → Each P o.after → P (quoted []) → Each P own × Each P waiting =
          λ P b l m.
          let z = Each-parts P own (cons (quoted []) waiting) (Each-unarranged P (is_comm here f.op) _ (subst (Each P) (is.same (quoted [])) (Each-arranged P (is_comm here f.op) _ (Each-join P o.before (cons (quoted []) o.after) b (m, l))))) in (z.0, z.1.1) in
          let canonical = es (IsCanonical here) (each_canonical here _ clear.before) (each_canonical here _ clear.after) tt in
          record {
            stand = T;
            leads = record { plays = q; moves = am; rank = h.leads.rank; from = h.leads.from; ready = h.leads.ready; steps = h.leads.steps; rules = h.leads.rules };
            opened = below;
            level = level;
            hand = ap (λ g'. applied_in here g' (join o.before (cons S.hand o.after))) is.operator
                ∙ ap (λ u. applied_in here f.op (join o.before (cons u o.after))) h.hand
                ∙ same_applied here run.accepted f.op (join o.before (cons t o.after)) (join own (cons t waiting)) (is.same t);
            assoc = assoc;
            canonical = at.canonical;
            fair = record {
              canonical = all_canonical here _ (Each-join (IsCanonical here) own waiting canonical.0 canonical.1);
              elements = λ m.
                  let m' : is_assoc here o.operator ≡ true = ap (is_assoc here) is.operator ∙ m in
                  let P : RawTerm → Type 0 = IsElement (identity_of here f.op) f.op in
                  let same : (us : RawTerms) → Each (IsElement (identity_of here o.operator) o.operator) us → Each P us = λ us. subst (λ g'. Each (IsElement (identity_of here g') g') us) is.operator in
                  let z = es P (same _ (clear.before_elements m')) (same _ (clear.after_elements m')) (quoted_element (identity_of here f.op) f.op) in Each-join P own waiting z.0 z.1;
              alone = λ z. absurd (not_successor here run.accepted f.op assoc z);
            };
            good = h.good;
          }

  -- The term's elements have come to the frame: they are done, or wait.
  pub received : (values : List RawTerm) (ms : List Move) (f : Frame) (fs : List Frame) (ds ds' : List RawTerm) (xs xs' : List Job) (t : RawTerm)
      → Receives K count (record { frames = fs; done = ds; jobs = xs; values = values; moves = ms }) f t
      → take f.from ds' ≡ take f.from ds → take f.waits xs' ≡ take f.waits xs → f.from ≤ length ds' → f.waits ≤ length xs'
      → arranged (is_comm here f.op) (arguments here values f ds' xs') ≡ arranged (is_comm here f.op) (join (terms_of (drop f.from ds)) (join (spread here f.op t) (rest here values (drop f.waits xs))))
      → IsFair here f.op (arguments here values f ds' xs') → IsGood M K.rank values f (terms_of (drop f.from ds')) (drop f.waits xs')
      → Settled K count (record { frames = fs; done = ds'; jobs = xs'; values = values; moves = ms }) f
  received values ms f fs ds ds' xs xs' t h ed ex lf lw e fair good = record {
    stand = h.stand;
    leads = h.leads;
    opened = subst (λ zs. AreOpened here values fs zs (take f.waits xs') h.stand.opens) (sym ed) (subst (λ zs. AreOpened here values fs (take f.from ds) zs h.stand.opens) (sym ex) h.opened);
    level = h.level;
    hand = h.hand ∙ spliced here run.accepted f.op (terms_of (drop f.from ds)) t (rest here values (drop f.waits xs)) h.canonical ∙ sym (same_applied here run.accepted f.op _ _ e);
    fair = fair;
    good = (good, lf, lw, subst (λ zs. AreGood M K.rank values fs zs (take f.waits xs')) (sym ed) (subst (λ zs. AreGood M K.rank values fs (take f.from ds) zs) (sym ex) h.good.3));
  }

  -- Out of a hole, whatever stands there: the frame is the term that stands in the hole below. The whole stays as it is.
  pub goes_out : (values : List RawTerm) (ms ns : List Move) (f : Frame) (fs : List Frame) (ds : List RawTerm) (xs : List Job) (t : RawTerm)
      → (h : Stands K count (record { frames = f ∷ fs; done = ds; jobs = xs; values = values; moves = ms }) t) → Replay.Leaves ms ns
      → (i : Stands K count (record { frames = fs; done = take f.from ds; jobs = take f.waits xs; values = values; moves = ns })
      (applied_in here f.op (join (terms_of (drop f.from ds)) (cons t (rest here values (drop f.waits xs)))))) × (in_all i.stand ≡ in_all h.stand)
  goes_out values ms ns f fs ds xs t h lv = by_opens h.stand.opens refl h.opened
    where
      S : Stand
      S = h.stand

      t' : RawTerm
      t' = applied_in here f.op (join (terms_of (drop f.from ds)) (cons t (rest here values (drop f.waits xs))))

      by_opens : (os : List Open) → S.opens ≡ os → AreOpened here values (f ∷ fs) ds xs os
          → (i : Stands K count (record { frames = fs; done = take f.from ds; jobs = take f.waits xs; values = values; moves = ns }) t') × (in_all i.stand ≡ in_all S)
      by_opens [] e o = elim o [ ]
      by_opens (o ∷ os) e (is, level, below) =
          let T : Stand = going_out here (o ∷ os) S in
          let (am, p) = left_back M run.accepted ms ns K.start S K.below o os run.start h.leads.moves h.leads.plays e lv in
          let q : plays M ns K.start ≡ T ∷ K.below = p ∙ ap (λ zs. going_out here zs S ∷ K.below) e in (
            record {
              stand = T;
              leads = record { plays = q; moves = am; rank = h.leads.rank; from = h.leads.from; ready = h.leads.ready; steps = h.leads.steps; rules = h.leads.rules };
              opened = below;
              hand = ap (λ g'. applied_in here g' (join o.before (cons S.hand o.after))) is.operator
                  ∙ ap (λ u. applied_in here f.op (join o.before (cons u o.after))) h.hand
                  ∙ same_applied here run.accepted f.op (join o.before (cons t o.after)) (join (terms_of (drop f.from ds)) (cons t (rest here values (drop f.waits xs)))) (is.same t);
            },
            ap (λ zs. Replay.whole here zs S.hand) (sym e),
          )

  -- the same, at data that are equal to these
  pub goes_out_so : (m n : Data) (f : Frame) (fs : List Frame) (t u : RawTerm) → (h : Stands K count m t) → m.frames ≡ f ∷ fs → n.frames ≡ fs → n.done ≡ take f.from m.done → n.jobs ≡ take f.waits m.jobs → n.values ≡ m.values
      → Replay.Leaves m.moves n.moves → u ≡ applied_in sig f.op (join (terms_of (drop f.from m.done)) (cons t (rest sig m.values (drop f.waits m.jobs)))) → (i : Stands K count n u) × (in_all i.stand ≡ in_all h.stand)
  goes_out_so m n f fs t u h em en ed ej ev lv eu =
      let (o, same) = goes_out m.values m.moves n.moves f fs m.done m.jobs t
      (record { stand = h.stand; leads = h.leads; opened = subst (λ gs. AreOpened here m.values gs m.done m.jobs h.stand.opens) em h.opened; hand = h.hand }) lv in
      let e : applied_in here f.op (join (terms_of (drop f.from m.done)) (cons t (rest here m.values (drop f.waits m.jobs)))) ≡ u =
      ap (λ s. applied_in s f.op (join (terms_of (drop f.from m.done)) (cons t (rest s m.values (drop f.waits m.jobs))))) run.signature ∙ sym eu in (
        record {
          stand = o.stand;
          leads = o.leads;
          opened = subst (λ gs. AreOpened here n.values gs n.done n.jobs o.stand.opens) (sym en)
              (subst (λ us. AreOpened here us fs n.done n.jobs o.stand.opens) (sym ev)
              (subst (λ ds. AreOpened here m.values fs ds n.jobs o.stand.opens) (sym ed)
              (subst (λ js. AreOpened here m.values fs (take f.from m.done) js o.stand.opens) (sym ej) o.opened)));
          hand = o.hand ∙ e;
        },
        same,
      )

  -- no frame is left: the term is the whole
  pub closed_whole : (m : Data) (t z : RawTerm) (h : Stands K count m t) → m.frames ≡ [] → in_all h.stand ≡ z → IsWhole K count m t × (t ≡ z)
  closed_whole m t z h e same =
      let c : h.stand.opens ≡ [] = subst (λ fs. AreOpened here m.values fs m.done m.jobs h.stand.opens) e h.opened in (
        record { stand = h.stand; leads = h.leads; closed = c; hand = h.hand },
        sym h.hand ∙ ap (λ os. Replay.whole here os h.stand.hand) (sym c) ∙ same,
      )
