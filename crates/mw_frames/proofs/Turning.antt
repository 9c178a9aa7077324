-- The machine's steps keep what it stands for.
use Rattle.std.specs.Prelude.{◌≡◌, ◌⊎◌, ◌≤◌, ◌<◌, min, ℕ, zero, suc, ◌+◌, ◌-◌, ◌*◌, List, [], ◌∷◌, ◌++◌, length, take, drop, Bool, true, false, cond, refl, Option, Some, None, slice_get, reverse}
use Rattle.std.proofs.Common.{sym, subst, ap, ◌∙◌, arith, inl, inr, ⊎_elim}
use Rattle.std.proofs.Math.Seq.{drop-append_seam, take-append_seam}
use Rattle.std.proofs.lemmas.List.{length-append, length-take, length-drop, reverse-append, drop-append-le, take-append-le, take_all, drop_all}
use Rattle.mw_logic.specs.TermOrder.{stands_after, insert_term, sorted_terms}
use Rattle.mw_logic.proofs.SortedLists.{climbs, sorted_terms-climbing}
use Rattle.mw_logic.specs.Term.{RawTerm, RawTerms, quoted, apply, nil, cons, join}
use Rattle.mw_logic.specs.Terms.{terms_of, front, skip}
use Rattle.mw_logic.specs.Signature.{Signature, Identity, constant_of, numeral_of, IsRawTerm}
use Rattle.mw_logic.specs.Accepted.{IsAccepted, IsWellSorted}
use Rattle.mw_logic.specs.Parts.{is_assoc, nested, number_of_terms}
use Rattle.mw_logic.specs.NormalForm.{is_comm, identity_of, is_identity, arranged, applied_in}
use Rattle.mw_logic.specs.Module.{Module}
use Rattle.mw_logic.specs.Proof as proof
use Rattle.mw_logic.specs.Judgements.{admitted_judgements}
use Rattle.mw_logic.proofs.SortLaws.{join-nil, join_assoc, insert_term-comm}
use Rattle.mw_logic.proofs.Canonical.{Each, IsElement, IsCanonical, AreCanonical, Each-join, each_canonical, all_canonical, arranged-one, arranged-left, arranged-right, arranged-twice, Each-arranged, flattened-elements}
use Rattle.mw_logic.proofs.CanonicalTerms.{not_successor}
use Rattle.mw_arguments.proofs.Arguments.{in_order}
use Rattle.mw_logic.proofs.Holes.{Each-parts, Each-unarranged}
use Rattle.mw_logic.proofs.Soundness.{IsLong}
use Rattle.mw_deduction.specs.Standing.{Open, round, IsClear, AreClear, IsSeen, At}
use Rattle.mw_deduction.specs.Tops.{NothingAtTops}
use Rattle.mw_deduction.specs.Stands.{IsStanding, AreStanding}
use Rattle.mw_deduction.specs.Replay as Replay
use Rattle.mw_deduction.proofs.MoveStands.{moves_stand}
use Rattle.mw_deduction.proofs.LeftBack.{left_back}
use Rattle.mw_deduction.specs.Chains.{proof_of}
use Rattle.mw_deduction.specs.Replay.{Move, into, among, out, Stand, opened, going_in, going_out, into_argument, play, plays, MayGoIn, IsMove, AreMoves}
use Rattle.mw_deduction.proofs.Depths.{added, level_in}
use Rattle.mw_deduction.proofs.Moves.{plays-append, moves-append}
use Rattle.mw_deduction.proofs.Taking.{into_is}
use Rattle.mw_frames.specs.Fair.{Stays, IsFair}
use Rattle.mw_stack.specs.Own.{spread}
use Rattle.mw_stack.specs.Hidden.{IsHiddenNumeral, IsHidden}
use denote.Ref.{Bor}
use Rattle.mw_pattern.specs.declared.pattern.Pattern.{Pattern}
use Rattle.mw_frames.specs.declared.job.Job.{Job}
use Rattle.mw_frames.specs.declared.job.Job.TheVariants.{Try, Normal, Made, Built}
use Rattle.mw_frames.specs.declared.job.Frame.{Frame}
use Rattle.mw_frames.specs.Jobs.{term_of, rest, arguments, AreOpened, weight, weights, work}
use Rattle.mw_frames.specs.Machines.{IsCutAt}
use Rattle.mw_frames.specs.State.{Run, Data, Leads, InHand, Settled, AreGood, IsOpening, IsJob, AreJobs, IsDone, IsAtHand, AreAtHand, HasNormalArguments, IsNormalHere}
use Rattle.mw_frames.proofs.Arguments.{several_of, applied_list, goes_into, spliced, spread_fits, same_applied}
use Rattle.mw_logic.proofs.Invariance.{successor_not_assoc}
use Rattle.mw_frames.proofs.Normals.{closed, spread_done, normal_has, ends_normal}
use Rattle.mw_frames.proofs.Levels.{level_at}

pub rest-append : (sig : Signature) (vs : List RawTerm) (xs : List Job) (x : Job) → rest sig vs (xs ++ x ∷ []) ≡ cons (term_of sig vs x) (rest sig vs xs)
rest-append sig vs [] x = refl
rest-append sig vs (y ∷ xs) x = ap (λ zs. join zs (cons (term_of sig vs y) nil)) (rest-append sig vs xs x)

pub sorted_middle : (ts : RawTerms) (u : RawTerm) (us : RawTerms) → sorted_terms (join ts (cons u us)) ≡ insert_term u (sorted_terms (join ts us))
sorted_middle nil u us = refl
sorted_middle (cons t ts) u us = ap (insert_term t) (sorted_middle ts u us) ∙ insert_term-comm t u (sorted_terms (join ts us))

number-insert : (t : RawTerm) (us : RawTerms) → number_of_terms (insert_term t us) ≡ suc (number_of_terms us)
number-insert t nil = refl
number-insert t (cons u us) = by_test (stands_after t u) (number-insert t us)
  where
    by_test : (b : Bool) → number_of_terms (insert_term t us) ≡ suc (number_of_terms us) → number_of_terms (cond b (cons u (insert_term t us)) (cons t (cons u us))) ≡ suc (suc (number_of_terms us))
    by_test true h = ap suc h
    by_test false h = refl

number-sorted : (ts : RawTerms) → number_of_terms (sorted_terms ts) ≡ number_of_terms ts
number-sorted nil = refl
number-sorted (cons t ts) = number-insert t (sorted_terms ts) ∙ ap suc (number-sorted ts)

-- one move more
pub led : (K : Run) (count : ℕ) (ms : List Move) (m : Move) (S T : Stand) → Leads K count ms S → IsMove K.over m (S ∷ K.below) → play K.over m (S ∷ K.below) ≡ T ∷ K.below
    → T.rank ≡ S.rank → T.from ≡ S.from → T.read.ready ≡ proof.nil → T.read.done ≡ S.read.done → Leads K count (ms ++ m ∷ []) T
led K count ms m S T h is p rank from ready done = record {
  plays = plays-append K.over ms (m ∷ []) K.start ∙ ap (plays K.over (m ∷ [])) h.plays ∙ p;
  moves = moves-append K.over ms (m ∷ []) K.start h.moves (subst (AreMoves K.over (m ∷ [])) (sym h.plays) (is, tt));
  rank = rank ∙ h.rank;
  from = from ∙ h.from;
  ready = ready;
  steps = ap (λ rs. Rattle.mw_logic.specs.Proof.steps (proof_of rs)) done ∙ h.steps;
  rules = ap (λ rs. Rattle.mw_logic.specs.Proof.rules (proof_of rs)) done ∙ h.rules;
}

-- The arguments of a frame, of which x comes next, are in order b, x and a.
pub record Divides (c : Bool) (own : RawTerms) (x : RawTerm) (waiting b a : RawTerms) : Type 0 where
  pub whole : arranged c (join own (cons x waiting)) ≡ join b (cons x a)
  pub same : (t : RawTerm) → arranged c (join b (cons t a)) ≡ arranged c (join own (cons t waiting))

pub quoted_element : (e : Option Identity) (f : ℕ) → IsElement e f (quoted [])
quoted_element None f = refl
quoted_element (Some (constant_of c)) f = refl
quoted_element (Some (numeral_of n)) f = refl

module _ (K : Run) (ok : IsAccepted K.over.signature) (sorted : IsWellSorted K.over.signature) (count : ℕ) where
  abbrev M : Module
  M = K.over

  abbrev sig : Signature
  sig = K.over.signature

  number-join : (xs ys : RawTerms) → number_of_terms (join xs ys) ≡ number_of_terms xs + number_of_terms ys
  number-join nil ys = omega arith
  number-join (cons x xs) ys = let h = number-join xs ys in omega (arith, h)

  jobs_parts : (vs : List RawTerm) (xs : List Job) (x : Job) → AreJobs M K.rank vs (xs ++ x ∷ []) → AreJobs M K.rank vs xs × IsJob M K.rank vs x
  jobs_parts vs [] x h = (tt, h.0)
  jobs_parts vs (y ∷ xs) x h = let (a, b) = jobs_parts vs xs x h.1 in ((h.0, a), b)

  at_hand_parts : (xs : List Job) (x : Job) → AreAtHand (xs ++ x ∷ []) → AreAtHand xs × IsAtHand x
  at_hand_parts [] x h = (tt, h.0)
  at_hand_parts (y ∷ xs) x h = let (a, b) = at_hand_parts xs x h.1 in ((h.0, a), b)

  not_hidden : (f : ℕ) (ts : RawTerms) → Each (Stays sig f) ts → Each (λ t. ¬ IsHiddenNumeral sig f t) ts
  not_hidden f nil h = tt
  not_hidden f (cons t ts) h = (h.0.seen, not_hidden f ts h.1)

  -- a list in order is in order behind its first term
  tail_ordered : (c : Bool) (t : RawTerm) (ts : RawTerms) → arranged c (cons t ts) ≡ cons t ts → arranged c ts ≡ ts
  tail_ordered false t ts h = refl
  tail_ordered true t ts h = sorted_terms-climbing ts (climbs (cons t ts) h).1

  drop_last : (i : ℕ) (xs : List Job) (x : Job) → i ≤ length xs → drop i (xs ++ x ∷ []) ≡ drop i xs ++ x ∷ []
  drop_last i xs x l = drop-append-le i xs (x ∷ []) l

  take_last : (i : ℕ) (xs : List Job) (x : Job) → i ≤ length xs → take i (xs ++ x ∷ []) ≡ take i xs
  take_last i xs x l = take-append-le i xs (x ∷ []) l

  -- what is settled, by the job that comes next
  record Next (vs : List RawTerm) (S : Stand) (f : Frame) (fs : List Frame) (ds : List RawTerm) (xs : List Job) (x : Job) : Type 0 where
    hand : S.hand ≡ applied_in sig f.op (join (terms_of (drop f.from ds)) (cons (term_of sig vs x) (rest sig vs (drop f.waits xs))))
    fair : IsFair sig f.op (join (terms_of (drop f.from ds)) (cons (term_of sig vs x) (rest sig vs (drop f.waits xs))))
    opened : AreOpened sig vs fs (take f.from ds) (take f.waits xs) S.opens
    done : Each (IsDone M K.rank f.op) (terms_of (drop f.from ds))
    order : arranged (is_comm sig f.op) (terms_of (drop f.from ds)) ≡ terms_of (drop f.from ds)
    jobs : AreJobs M K.rank vs (drop f.waits xs)
    job : IsJob M K.rank vs x
    jobs_order : arranged (is_comm sig f.op) (cons (term_of sig vs x) (rest sig vs (drop f.waits xs))) ≡ cons (term_of sig vs x) (rest sig vs (drop f.waits xs))
    seen : Stays sig f.op (term_of sig vs x)
    seen_behind : Each (Stays sig f.op) (rest sig vs (drop f.waits xs))
    at_hand : is_comm sig f.op ≡ true → AreAtHand (drop f.waits xs)
    at_hand_here : is_comm sig f.op ≡ true → IsAtHand x
    within : f.from ≤ length ds
    below : AreGood M K.rank vs fs (take f.from ds) (take f.waits xs)

  next_of : (vs : List RawTerm) (ms : List Move) (f : Frame) (fs : List Frame) (ds : List RawTerm) (xs : List Job) (x : Job) → f.waits ≤ length xs
      → (s : Settled K count (record { frames = fs; done = ds; jobs = xs ++ x ∷ []; values = vs; moves = ms }) f) → Next vs s.stand f fs ds xs x
  next_of vs ms f fs ds xs x l s =
      let own : RawTerms = terms_of (drop f.from ds) in
      let d : drop f.waits (xs ++ x ∷ []) ≡ drop f.waits xs ++ x ∷ [] = drop_last f.waits xs x l in
      let t : take f.waits (xs ++ x ∷ []) ≡ take f.waits xs = take_last f.waits xs x l in
      let r : rest sig vs (drop f.waits (xs ++ x ∷ [])) ≡ cons (term_of sig vs x) (rest sig vs (drop f.waits xs)) = ap (rest sig vs) d ∙ rest-append sig vs (drop f.waits xs) x in
      let g = s.good.0 in
      let j = jobs_parts vs (drop f.waits xs) x (subst (AreJobs M K.rank vs) d g.jobs) in
      let e : Each (Stays sig f.op) (cons (term_of sig vs x) (rest sig vs (drop f.waits xs))) = subst (Each (Stays sig f.op)) r g.seen in
      record {
        hand = s.hand ∙ ap (λ ys. applied_in sig f.op (join own ys)) r;
        fair = subst (λ ys. IsFair sig f.op (join own ys)) r s.fair;
        opened = subst (λ ys. AreOpened sig vs fs (take f.from ds) ys s.stand.opens) t s.opened;
        done = g.done;
        order = g.order;
        jobs = j.0;
        job = j.1;
        jobs_order = subst (λ ys. arranged (is_comm sig f.op) ys ≡ ys) r g.jobs_order;
        seen = e.0;
        seen_behind = e.1;
        at_hand = λ q. (at_hand_parts (drop f.waits xs) x (subst (AreAtHand) d (g.at_hand q))).0;
        at_hand_here = λ q. (at_hand_parts (drop f.waits xs) x (subst (AreAtHand) d (g.at_hand q))).1;
        within = s.good.1;
        below = subst (AreGood M K.rank vs fs (take f.from ds)) t s.good.3;
      }

  -- into an argument that waits
  pub enters : (vs : List RawTerm) (ms : List Move) (f : Frame) (fs : List Frame) (ds : List RawTerm) (xs : List Job) (x : Job) (b a : RawTerms) → f.waits ≤ length xs
      → Settled K count (record { frames = fs; done = ds; jobs = xs ++ x ∷ []; values = vs; moves = ms }) f
      → (is_assoc sig f.op ≡ true → IsLong (join (terms_of (drop f.from ds)) (rest sig vs (drop f.waits xs))))
      → Divides (is_comm sig f.op) (terms_of (drop f.from ds)) (term_of sig vs x) (rest sig vs (drop f.waits xs)) b a
      → InHand K count (record { frames = f ∷ fs; done = ds; jobs = xs; values = vs; moves = ms ++ into (suc (number_of_terms b)) ∷ [] }) x
  enters vs ms f fs ds xs x b a l s long d =
      let n = next_of vs ms f fs ds xs x l s in
      let S = s.stand in
      let own : RawTerms = terms_of (drop f.from ds) in
      let waiting : RawTerms = rest sig vs (drop f.waits xs) in
      let t : RawTerm = term_of sig vs x in
      let hidden : Each (λ u. ¬ IsHiddenNumeral sig f.op u) (join own (cons t waiting)) → MayGoIn sig (suc (number_of_terms b)) S.hand =
      λ h. goes_into sig ok f.op own t waiting b a S.hand n.fair long h d.whole n.hand in
      let visible = shown f.op own t waiting n.fair n.done (n.seen, n.seen_behind) in
      let may : MayGoIn sig (suc (number_of_terms b)) S.hand = hidden visible in
      let k : S.hand ≡ apply f.op (join b (cons t a)) = n.hand ∙ applied_list sig ok f.op (join own (cons t waiting)) n.fair (λ q. several_of own t waiting (long q)) visible ∙ ap (apply f.op) d.whole in
      let p : play M (into (suc (number_of_terms b))) (S ∷ K.below) ≡ going_in sig (opened f.op b a) t S ∷ K.below =
      ap (λ u. into_argument sig (suc (number_of_terms b)) u S ∷ K.below) k ∙ ap (λ T. T ∷ K.below) (into_is sig (suc (number_of_terms b)) f.op b t a S refl) in
      record {
        stand = going_in sig (opened f.op b a) t S;
        leads = led K count ms (into (suc (number_of_terms b))) S (going_in sig (opened f.op b a) t S) s.leads may p refl refl s.leads.ready refl;
        opened = (
          record {
            operator = refl;
            same = d.same;
            alone = λ z. let e = n.fair.alone z in let g = number-join own (cons t waiting) in omega (arith, e, g);
          },
          s.level,
          n.opened,
        );
        hand = refl;
        good = (
          record { done = n.done; order = n.order; jobs = n.jobs; jobs_order = tail_ordered (is_comm sig f.op) t waiting n.jobs_order; seen = n.seen_behind; at_hand = n.at_hand },
          n.within,
          l,
          n.below,
        );
        job = n.job;
      }
    where
      -- A numeral below `s_` is hidden only where it is done, and then nothing waits.
      shown : (f : ℕ) (own : RawTerms) (t : RawTerm) (waiting : RawTerms) → IsFair sig f (join own (cons t waiting)) → Each (IsDone M K.rank f) own → Stays sig f t × Each (Stays sig f) waiting
          → Each (λ u. ¬ IsHiddenNumeral sig f u) (join own (cons t waiting))
      shown f nil t waiting fair h s = (s.0.seen, not_hidden f waiting s.1)
      shown f (cons u own) t waiting fair h s = all (join (cons u own) (cons t waiting)) (λ q. two (fair.alone q))
        where
          two : number_of_terms (cons u (join own (cons t waiting))) ≡ 1 → ⊥
          two e = some own (inj e)
            where
              inj : {m n : ℕ} → suc m ≡ suc n → m ≡ n
              inj e = omega (arith, e)

              some : (xs : RawTerms) → number_of_terms (join xs (cons t waiting)) ≡ 0 → ⊥
              some nil e = cc
              some (cons y xs) e = cc

          all : (ts : RawTerms) → (Rattle.mw_logic.specs.Signature.IsSuccessor sig f → ⊥) → Each (λ u. ¬ IsHiddenNumeral sig f u) ts
          all nil z = tt
          all (cons y ts) z = (λ q. z q.successor, all ts z)

  -- one element alone is itself
  pub alone : (f : ℕ) (t : RawTerm) → is_assoc sig f ≡ true → IsFair sig f (cons t nil) → applied_in sig f (cons t nil) ≡ t
  alone f t h fair = rw (h, flattened-elements (identity_of sig f) f (cons t nil) (fair.elements h), arranged-one (is_comm sig f) t) refl

  -- the only argument that is left, which waits, comes in the frame's place
  pub collapses : (vs : List RawTerm) (ms : List Move) (f : Frame) (fs : List Frame) (ds : List RawTerm) (xs : List Job) (x : Job) → f.waits ≤ length xs
      → Settled K count (record { frames = fs; done = ds; jobs = xs ++ x ∷ []; values = vs; moves = ms }) f → is_assoc sig f.op ≡ true → length ds ≤ f.from → length xs ≤ f.waits
      → InHand K count (record { frames = fs; done = ds; jobs = xs; values = vs; moves = ms }) x
  collapses vs ms f fs ds xs x l s h e w =
      let n = next_of vs ms f fs ds xs x l s in
      let td : take f.from ds ≡ ds = take_all f.from ds e in
      let dd : drop f.from ds ≡ [] = drop_all f.from ds e in
      let tx : take f.waits xs ≡ xs = take_all f.waits xs w in
      let dx : drop f.waits xs ≡ [] = drop_all f.waits xs w in
      let q : join (terms_of (drop f.from ds)) (cons (term_of sig vs x) (rest sig vs (drop f.waits xs))) ≡ cons (term_of sig vs x) nil = rw (dd, dx) refl in
      let p : applied_in sig f.op (join (terms_of (drop f.from ds)) (cons (term_of sig vs x) (rest sig vs (drop f.waits xs)))) ≡ term_of sig vs x =
      ap (applied_in sig f.op) q ∙ alone f.op (term_of sig vs x) h (subst (IsFair sig f.op) q n.fair) in
      record {
        stand = s.stand;
        leads = s.leads;
        opened = subst (λ zs. AreOpened sig vs fs zs xs s.stand.opens) td (subst (λ zs. AreOpened sig vs fs (take f.from ds) zs s.stand.opens) tx n.opened);
        hand = n.hand ∙ p;
        good = subst (λ zs. AreGood M K.rank vs fs zs xs) td (subst (λ zs. AreGood M K.rank vs fs (take f.from ds) zs) tx n.below);
        job = n.job;
      }

  number-arranged : (c : Bool) (ts : RawTerms) → number_of_terms (arranged c ts) ≡ number_of_terms ts
  number-arranged false ts = refl
  number-arranged true ts = number-sorted ts

  number-spread : (f : ℕ) (t : RawTerm) → Rattle.mw_logic.specs.Signature.IsSuccessor sig f → number_of_terms (spread sig f t) ≡ 1
  number-spread f t z = rw (successor_not_assoc sig ok f z) refl

  -- Terms that are done come to a frame's own, in order; all of them, and what waits, are as they were modulo that.
  put_there : (f : Frame) (own own' : RawTerms) (t : RawTerm) (waiting : RawTerms) → IsCanonical sig t → IsFair sig f.op (join own (cons t waiting)) → own' ≡ arranged (is_comm sig f.op) (join own (spread sig f.op t))
      → (applied_in sig f.op (join own (cons t waiting)) ≡ applied_in sig f.op (join own' waiting)) × IsFair sig f.op (join own' waiting)
  put_there f own own' t waiting k fair e =
      let c : Bool = is_comm sig f.op in
      let sp : RawTerms = spread sig f.op t in
      let fits = spread_fits sig ok f.op t k in
      let q : arranged c (join own' waiting) ≡ arranged c (join own (join sp waiting)) =
      ap (λ ys. arranged c (join ys waiting)) e ∙ arranged-left c (join own sp) waiting ∙ ap (arranged c) (join_assoc own sp waiting) in
      let kc = Each-parts (IsCanonical sig) own (cons t waiting) (each_canonical sig _ fair.canonical) in
      let all : (P : RawTerm → Type 0) → Each P own → Each P sp → Each P waiting → Each P (join own' waiting) =
      λ P a b d. Each-join P own' waiting (subst (Each P) (sym e) (Each-arranged P c (join own sp) (Each-join P own sp a b))) d in (
        spliced sig ok f.op own t waiting k ∙ sym (same_applied sig ok f.op (join own' waiting) (join own (join sp waiting)) q),
        record {
          canonical = all_canonical sig _ (all (IsCanonical sig) kc.0 (each_canonical sig sp fits.0) kc.1.1);
          elements = λ h. let es = Each-parts (IsElement (identity_of sig f.op) f.op) own (cons t waiting) (fair.elements h) in all (IsElement (identity_of sig f.op) f.op) es.0 (fits.1 h) es.1.1;
          alone = λ z.
              let a = fair.alone z in
              let b = number-join own (cons t waiting) in
              let d = number-join own' waiting in
              let g = ap number_of_terms e ∙ number-arranged c (join own sp) ∙ number-join own sp in
              let i = number-spread f.op t z in omega (arith, a, b, d, g, i);
        },
      )

  each_done : (f : ℕ) (c : Bool) (own sp own' : RawTerms) → own' ≡ arranged c (join own sp) → Each (IsDone M K.rank f) own → Each (IsDone M K.rank f) sp → Each (IsDone M K.rank f) own'
  each_done f c own sp own' e a b = subst (Each (IsDone M K.rank f)) (sym e) (Each-arranged (IsDone M K.rank f) c (join own sp) (Each-join (IsDone M K.rank f) own sp a b))

  length-taken : (ds ds' : List RawTerm) (i : ℕ) → i ≤ length ds → take i ds' ≡ take i ds → i ≤ length ds'
  length-taken ds ds' i l e = let a = length-take i ds' in let b = length-take i ds in let c = ap length e in least i (length ds) (length ds') _ _ l a b c
    where
      least : (i a b x y : ℕ) → i ≤ a → x ≡ min i b → y ≡ min i a → x ≡ y → i ≤ b
      least i a b x y l p q r = omega (arith, l, p, q, r)

  -- an argument that waits is done at once
  pub settles : (vs : List RawTerm) (ms : List Move) (f : Frame) (fs : List Frame) (ds ds' : List RawTerm) (xs : List Job) (t : RawTerm) → f.waits ≤ length xs
      → Settled K count (record { frames = fs; done = ds; jobs = xs ++ Normal t ∷ []; values = vs; moves = ms }) f
      → take f.from ds' ≡ take f.from ds → terms_of (drop f.from ds') ≡ arranged (is_comm sig f.op) (join (terms_of (drop f.from ds)) (spread sig f.op t))
      → Settled K count (record { frames = fs; done = ds'; jobs = xs; values = vs; moves = ms }) f
  settles vs ms f fs ds ds' xs t l s et eo =
      let n = next_of vs ms f fs ds xs (Normal t) l s in
      let c : Bool = is_comm sig f.op in
      let own : RawTerms = terms_of (drop f.from ds) in
      let waiting : RawTerms = rest sig vs (drop f.waits xs) in
      let k : IsCanonical sig t = (Each-parts (IsCanonical sig) own (cons t waiting) (each_canonical sig _ n.fair.canonical)).1.0 in
      let (p, fair) = put_there f own (terms_of (drop f.from ds')) t waiting k n.fair eo in
      let d : Each (IsDone M K.rank f.op) (spread sig f.op t) = spread_done M ok sorted (admitted_judgements M K.rank).Fails f.op t (normal_has M ok sorted (admitted_judgements M K.rank).Fails t k n.job) (inl n.job) (λ e. inl n.job) in
      record {
        stand = s.stand;
        leads = s.leads;
        opened = subst (λ zs. AreOpened sig vs fs zs (take f.waits xs) s.stand.opens) (sym et) n.opened;
        level = s.level;
        hand = n.hand ∙ p;
        fair = fair;
        good = (
          record {
            done = each_done f.op c own (spread sig f.op t) _ eo n.done d;
            order = ap (arranged c) eo ∙ arranged-twice c _ ∙ sym eo;
            jobs = n.jobs;
            jobs_order = tail_ordered c t waiting n.jobs_order;
            seen = n.seen_behind;
            at_hand = n.at_hand;
          },
          length-taken ds ds' f.from n.within et,
          l,
          subst (λ zs. AreGood M K.rank vs fs zs (take f.waits xs)) (sym et) n.below,
        );
      }

  -- all arguments are done
  pub finishes : (vs : List RawTerm) (ms : List Move) (f : Frame) (fs : List Frame) (ds : List RawTerm) (xs : List Job) (t : RawTerm)
      → Settled K count (record { frames = fs; done = ds; jobs = xs; values = vs; moves = ms }) f → length xs ≤ f.waits → t ≡ applied_in sig f.op (terms_of (drop f.from ds))
      → InHand K count (record { frames = fs; done = take f.from ds; jobs = xs; values = vs; moves = ms }) (Try t)
  finishes vs ms f fs ds xs t s w e =
      let tx : take f.waits xs ≡ xs = take_all f.waits xs w in
      let dx : drop f.waits xs ≡ [] = drop_all f.waits xs w in
      let q : join (terms_of (drop f.from ds)) (rest sig vs (drop f.waits xs)) ≡ terms_of (drop f.from ds) = rw dx (join-nil (terms_of (drop f.from ds))) in
      record {
        stand = s.stand;
        leads = s.leads;
        opened = subst (λ zs. AreOpened sig vs fs (take f.from ds) zs s.stand.opens) tx s.opened;
        hand = s.hand ∙ ap (applied_in sig f.op) q ∙ sym e;
        good = subst (λ zs. AreGood M K.rank vs fs (take f.from ds) zs) tx s.good.3;
        job = subst (HasNormalArguments M K.rank) (sym e) (closed M ok sorted (admitted_judgements M K.rank).Fails f.op (terms_of (drop f.from ds)) (subst (IsFair sig f.op) q s.fair) s.good.0.done);
      }

  single : (xs : List RawTerm) → length xs ≡ 1 → (x : RawTerm) × (xs ≡ x ∷ [])
  single [] h = cc
  single (x ∷ []) h = (x, refl)
  single (x ∷ y ∷ xs) h = absurd (omega (arith, h))

  -- all but one are gone: it is normal
  pub finishes_one : (vs : List RawTerm) (ms : List Move) (f : Frame) (fs : List Frame) (ds : List RawTerm) (xs : List Job) (t : RawTerm)
      → Settled K count (record { frames = fs; done = ds; jobs = xs; values = vs; moves = ms }) f → length xs ≤ f.waits → t ≡ applied_in sig f.op (terms_of (drop f.from ds))
      → is_assoc sig f.op ≡ true → length (drop f.from ds) ≡ 1
      → InHand K count (record { frames = fs; done = take f.from ds; jobs = xs; values = vs; moves = ms }) (Normal t)
  finishes_one vs ms f fs ds xs t s w e h l =
      let i = finishes vs ms f fs ds xs t s w e in
      let dx : drop f.waits xs ≡ [] = drop_all f.waits xs w in
      let (x, z) = single (drop f.from ds) l in
      let d : Each (IsDone M K.rank f.op) (cons x nil) = subst (λ ys. Each (IsDone M K.rank f.op) (terms_of ys)) z s.good.0.done in
      let q : join (terms_of (drop f.from ds)) (rest sig vs (drop f.waits xs)) ≡ cons x nil = ap (λ ys. join (terms_of ys) (rest sig vs (drop f.waits xs))) z ∙ ap (λ ys. join (cons x nil) (rest sig vs ys)) dx in
      let fair : IsFair sig f.op (cons x nil) = subst (IsFair sig f.op) q s.fair in
      let p : t ≡ x = e ∙ ap (λ ys. applied_in sig f.op (terms_of ys)) z ∙ rw (h, flattened-elements (identity_of sig f.op) f.op (cons x nil) (fair.elements h), arranged-one (is_comm sig f.op) x) refl in
      let m : IsNormalHere M K.rank x = ⊎_elim (λ y. y) (λ y. absurd (not_successor sig ok f.op h y.successor)) d.0 in
      record { stand = i.stand; leads = i.leads; opened = i.opened; hand = i.hand; good = i.good; job = subst (IsNormalHere M K.rank) (sym p) m }

  -- where the moves lead to stands, and what is below
  pub all_standing : (ms : List Move) (S : Stand) → AreStanding M K.start → Leads K count ms S → AreStanding M (S ∷ K.below)
  all_standing ms S start h = subst (AreStanding M) h.plays (moves_stand M ok ms K.start start h.moves)

  pub standing : (ms : List Move) (S : Stand) → AreStanding M K.start → Leads K count ms S → IsStanding M S
  standing ms S start h = (all_standing ms S start h).0

  -- what is in hand is a canonical term, raw with all that stands round it, and round it stand open operators that are clear
  pub at_hand : (ms : List Move) (S : Stand) → AreStanding M K.start → Leads K count ms S
      → At M (admitted_judgements M K.rank).Held (admitted_judgements M K.rank).Fails (nested sig S.from) S.read S.opens S.hand
  at_hand ms S start h = subst (λ r. At M (admitted_judgements M r).Held (admitted_judgements M r).Fails (nested sig S.from) S.read S.opens S.hand) h.rank (standing ms S start h).at

  -- out of a hole: what stands there is done
  pub leaves : (vs : List RawTerm) (ms ns : List Move) (f : Frame) (fs : List Frame) (ds ds' : List RawTerm) (xs : List Job) (x : Job) → AreStanding M K.start
      → InHand K count (record { frames = f ∷ fs; done = ds; jobs = xs; values = vs; moves = ms }) x → Replay.Leaves ms ns
      → take f.from ds' ≡ take f.from ds → terms_of (drop f.from ds') ≡ arranged (is_comm sig f.op) (join (terms_of (drop f.from ds)) (spread sig f.op (term_of sig vs x)))
      → Each (IsDone M K.rank f.op) (spread sig f.op (term_of sig vs x))
      → Settled K count (record { frames = fs; done = ds'; jobs = xs; values = vs; moves = ns }) f
  leaves vs ms ns f fs ds ds' xs x start h lv et eo d = by_opens h.stand.opens refl h.opened
    where
      S : Stand
      S = h.stand

      t : RawTerm
      t = term_of sig vs x

      c : Bool
      c = is_comm sig f.op

      own : RawTerms
      own = terms_of (drop f.from ds)

      waiting : RawTerms
      waiting = rest sig vs (drop f.waits xs)

      by_opens : (os : List Open) → S.opens ≡ os → AreOpened sig vs (f ∷ fs) ds xs os → Settled K count (record { frames = fs; done = ds'; jobs = xs; values = vs; moves = ns }) f
      by_opens [] e o = elim o [ ]
      by_opens (o ∷ os) e (is, level, below) =
          let T : Stand = going_out sig (o ∷ os) S in
          let (am, p) = left_back M ok ms ns K.start S K.below o os start h.leads.moves h.leads.plays e lv in
          let q : plays M ns K.start ≡ T ∷ K.below = p ∙ ap (λ zs. going_out sig zs S ∷ K.below) e in
          let a = at_hand ms S start h.leads in
          let clear : IsClear sig o = (subst (AreClear sig) e a.clear).0 in
          let kt : IsCanonical sig t = subst (IsCanonical sig) h.hand a.canonical in
          let es : (P : RawTerm → Type 0) → Each P o.before → Each P o.after → P (quoted []) → Each P own × Each P waiting =
          λ P b l m.
          let z = Each-parts P own (cons (quoted []) waiting) (Each-unarranged P c _ (subst (Each P) (is.same (quoted [])) (Each-arranged P c _ (Each-join P o.before (cons (quoted []) o.after) b (m, l))))) in (z.0, z.1.1) in
          let canonical = es (IsCanonical sig) (each_canonical sig _ clear.before) (each_canonical sig _ clear.after) tt in
          let sp : RawTerms = spread sig f.op t in
          let fits = spread_fits sig ok f.op t kt in
          let g = h.good.0 in
          let own' : RawTerms = terms_of (drop f.from ds') in
          let r : arranged c (join own' waiting) ≡ arranged c (join own (join sp waiting)) =
          ap (λ ys. arranged c (join ys waiting)) eo ∙ arranged-left c (join own sp) waiting ∙ ap (arranged c) (join_assoc own sp waiting) in
          let put : (P : RawTerm → Type 0) → Each P own → Each P sp → Each P waiting → Each P (join own' waiting) =
          λ P b m f'. Each-join P own' waiting (subst (Each P) (sym eo) (Each-arranged P c (join own sp) (Each-join P own sp b m))) f' in
          let hand : T.hand ≡ applied_in sig f.op (join own' waiting) =
          ap (λ g'. applied_in sig g' (join o.before (cons S.hand o.after))) is.operator
          ∙ ap (λ u. applied_in sig f.op (join o.before (cons u o.after))) h.hand
          ∙ same_applied sig ok f.op (join o.before (cons t o.after)) (join own (cons t waiting)) (is.same t)
          ∙ spliced sig ok f.op own t waiting kt ∙ sym (same_applied sig ok f.op (join own' waiting) (join own (join sp waiting)) r) in
          record {
            stand = T;
            leads = record { plays = q; moves = am; rank = h.leads.rank; from = h.leads.from; ready = h.leads.ready; steps = h.leads.steps; rules = h.leads.rules };
            opened = subst (λ zs. AreOpened sig vs fs zs (take f.waits xs) os) (sym et) below;
            level = level;
            hand = hand;
            fair = record {
              canonical = all_canonical sig _ (put (IsCanonical sig) canonical.0 (each_canonical sig _ fits.0) canonical.1);
              elements = λ m.
                  let m' : is_assoc sig o.operator ≡ true = ap (is_assoc sig) is.operator ∙ m in
                  let P : RawTerm → Type 0 = IsElement (identity_of sig f.op) f.op in
                  let same : (us : RawTerms) → Each (IsElement (identity_of sig o.operator) o.operator) us → Each P us = λ us. subst (λ g'. Each (IsElement (identity_of sig g') g') us) is.operator in
                  let z = es P (same _ (clear.before_elements m')) (same _ (clear.after_elements m')) (quoted_element (identity_of sig f.op) f.op) in put P z.0 (fits.1 m) z.1;
              alone = λ z.
                  let i = is.alone z in
                  let j = number-join own' waiting in
                  let k = ap number_of_terms eo ∙ number-arranged c (join own sp) ∙ number-join own sp in
                  let l = number-spread f.op t z in omega (arith, i, j, k, l);
            };
            good = (
              record {
                done = each_done f.op c own sp own' eo g.done d;
                order = ap (arranged c) eo ∙ arranged-twice c _ ∙ sym eo;
                jobs = g.jobs;
                jobs_order = g.jobs_order;
                seen = g.seen;
                at_hand = g.at_hand;
              },
              length-taken ds ds' f.from h.good.1 et,
              h.good.2,
              subst (λ zs. AreGood M K.rank vs fs zs (take f.waits xs)) (sym et) h.good.3,
            );
          }

  -- how many levels stand above a term that comes into the innermost frame's hole
  pub level_here : (vs : List RawTerm) (f : Frame) (fs : List Frame) (ds : List RawTerm) (xs : List Job) (os : List Open) (g : ℕ) → AreClear sig os → AreOpened sig vs (f ∷ fs) ds xs os
      → level_in sig (round sig os) (apply g nil) ≡ added sig f.op (apply g nil) + f.level
  level_here vs f fs ds xs [] g c o = elim o [ ]
  level_here vs f fs ds xs (o ∷ os) g c (is, level, below) =
      level_at sig o os (apply g nil) c.0
      ∙ ap (λ h. added sig h (apply g nil) + level_in sig (round sig os) (apply h nil)) is.operator
      ∙ ap (λ l. added sig f.op (apply g nil) + l) (sym level)

  -- a term in hand is opened into a new frame
  pub opens : (vs : List RawTerm) (ms : List Move) (f : Frame) (fs : List Frame) (ds os : List RawTerm) (xs ys : List Job) (x : Job)
      → (h : InHand K count (record { frames = fs; done = ds; jobs = xs; values = vs; moves = ms }) x) → f.from ≡ length ds → f.waits ≡ length xs
      → f.level ≡ level_in sig (round sig h.stand.opens) (apply f.op nil) → IsOpening M K.rank vs (term_of sig vs x) f os ys
      → Settled K count (record { frames = fs; done = ds ++ os; jobs = xs ++ ys; values = vs; moves = ms }) f
  opens vs ms f fs ds os xs ys x h ef ew level o =
      let dd : drop f.from (ds ++ os) ≡ os = ap (λ i. drop i (ds ++ os)) ef ∙ drop-append_seam ds os in
      let td : take f.from (ds ++ os) ≡ ds = ap (λ i. take i (ds ++ os)) ef ∙ take-append_seam ds os in
      let dx : drop f.waits (xs ++ ys) ≡ ys = ap (λ i. drop i (xs ++ ys)) ew ∙ drop-append_seam xs ys in
      let tx : take f.waits (xs ++ ys) ≡ xs = ap (λ i. take i (xs ++ ys)) ew ∙ take-append_seam xs ys in
      let q : arguments sig vs f (ds ++ os) (xs ++ ys) ≡ join (terms_of os) (rest sig vs ys) = rw (dd, dx) refl in
      record {
        stand = h.stand;
        leads = h.leads;
        opened = rw (td, tx) h.opened;
        level = level;
        hand = h.hand ∙ o.is ∙ sym (ap (applied_in sig f.op) q);
        fair = subst (IsFair sig f.op) (sym q) o.fair;
        good = (rw (dd, dx) o.good, let l = length-append ds os in omega (arith, l, ef), let l = length-append xs ys in omega (arith, l, ew), rw (td, tx) h.good);
      }

  -- where nothing applies at the top of a term over normal arguments, it is normal
  pub normal_here : (vs : List RawTerm) (ms : List Move) (fs : List Frame) (ds : List RawTerm) (xs : List Job) (t : RawTerm) → AreStanding M K.start
      → (h : InHand K count (record { frames = fs; done = ds; jobs = xs; values = vs; moves = ms }) (Try t)) → IsSeen sig h.stand.opens t → NothingAtTops M (admitted_judgements M K.rank).Fails t
      → InHand K count (record { frames = fs; done = ds; jobs = xs; values = vs; moves = ms }) (Normal t)
  normal_here vs ms fs ds xs t start h seen nothing = record {
    stand = h.stand;
    leads = h.leads;
    opened = h.opened;
    hand = h.hand;
    good = h.good;
    job = ends_normal M ok sorted (admitted_judgements M K.rank).Fails (admitted_judgements M K.rank).Held t
        (subst (At M (admitted_judgements M K.rank).Held (admitted_judgements M K.rank).Fails (nested sig h.stand.from) h.stand.read h.stand.opens) h.hand (at_hand ms h.stand start h.leads)) seen h.job nothing;
  }

  -- what isn't hidden in the innermost frame is seen there
  pub seen_here : (vs : List RawTerm) (f : Frame) (fs : List Frame) (ds : List RawTerm) (xs : List Job) (os : List Open) (t : RawTerm) → AreOpened sig vs (f ∷ fs) ds xs os → ¬ IsHidden sig f.op t → IsSeen sig os t
  seen_here vs f fs ds xs [] t o h = tt
  seen_here vs f fs ds xs (o ∷ os) t (is, level, below) h = record {
    not_identity = λ a. not_true (is_identity (identity_of sig o.operator) t) (λ i. h (inl (ap (is_assoc sig) (sym is.operator) ∙ a, ap (λ g. is_identity (identity_of sig g) t) (sym is.operator) ∙ i)));
    not_numeral = λ m z e l. h (inr (record { number = m; is = e; successor = subst (Rattle.mw_logic.specs.Signature.IsSuccessor sig) is.operator z; folds = l }));
  }
    where
      not_true : (b : Bool) → (b ≡ true → ⊥) → Rattle.std.specs.Prelude.IsFalse b
      not_true false k = refl
      not_true true k = absurd (k refl)

  -- what is hidden is done, untried
  pub hidden_done : (f : ℕ) (t : RawTerm) → IsHidden sig f t → Each (IsDone M K.rank f) (spread sig f t)
  hidden_done f t (inl (a, i)) = rw (a, i) tt
  hidden_done f t (inr z) = rw (successor_not_assoc sig ok f z.successor) (inr z, tt)

  pub normal_done : (f : ℕ) (t : RawTerm) → IsCanonical sig t → IsNormalHere M K.rank t → Each (IsDone M K.rank f) (spread sig f t)
  normal_done f t k n = spread_done M ok sorted (admitted_judgements M K.rank).Fails f t (normal_has M ok sorted (admitted_judgements M K.rank).Fails t k n) (inl n) (λ e. inl n)

  -- Where nothing waits, a frame's own arguments are canonical, elements of it, and in order.
  pub own_fair : (vs : List RawTerm) (ms : List Move) (f : Frame) (fs : List Frame) (ds : List RawTerm) (xs : List Job)
      → Settled K count (record { frames = fs; done = ds; jobs = xs; values = vs; moves = ms }) f → length xs ≤ f.waits
      → AreCanonical sig (terms_of (drop f.from ds)) × (is_assoc sig f.op ≡ true → Each (IsElement (identity_of sig f.op) f.op) (terms_of (drop f.from ds))) × (arranged (is_comm sig f.op) (terms_of (drop f.from ds)) ≡ terms_of (drop f.from ds))
  own_fair vs ms f fs ds xs s w =
      let dx : drop f.waits xs ≡ [] = drop_all f.waits xs w in
      let q : join (terms_of (drop f.from ds)) (rest sig vs (drop f.waits xs)) ≡ terms_of (drop f.from ds) = rw dx (join-nil (terms_of (drop f.from ds))) in
      let fair : IsFair sig f.op (terms_of (drop f.from ds)) = subst (IsFair sig f.op) q s.fair in (fair.canonical, fair.elements, s.good.0.order)

  pub canonical_spread : (g : ℕ) (t : RawTerm) → IsCanonical sig t → arranged (is_comm sig g) (spread sig g t) ≡ spread sig g t
  canonical_spread g t k = by_assoc (is_assoc sig g) refl
    where
      by_assoc : (b : Bool) → is_assoc sig g ≡ b → arranged (is_comm sig g) (spread sig g t) ≡ spread sig g t
      by_assoc false e = rw e (arranged-one (is_comm sig g) t)
      by_assoc true e = rw e (in_order sig ok g e t k)

  -- what a term in hand is under an operator is in order
  pub spread_ordered : (vs : List RawTerm) (ms : List Move) (fs : List Frame) (ds : List RawTerm) (xs : List Job) (x : Job) → AreStanding M K.start
      → InHand K count (record { frames = fs; done = ds; jobs = xs; values = vs; moves = ms }) x → (g : ℕ) → arranged (is_comm sig g) (spread sig g (term_of sig vs x)) ≡ spread sig g (term_of sig vs x)
  spread_ordered vs ms fs ds xs x start h g = canonical_spread g (term_of sig vs x) (subst (IsCanonical sig) h.hand (at_hand ms h.stand start h.leads).canonical)

  -- into an argument that waits, where the frame's own ones are cut
  pub enters_cut : (vs : List RawTerm) (ms : List Move) (f : Frame) (fs : List Frame) (ds : List RawTerm) (xs : List Job) (x : Job) (i : ℕ) → f.waits ≤ length xs
      → Settled K count (record { frames = fs; done = ds; jobs = xs ++ x ∷ []; values = vs; moves = ms }) f
      → (is_assoc sig f.op ≡ true → (f.from < length ds) ⊎ (f.waits < length xs))
      → ((is_comm sig f.op ≡ true → IsAtHand x) → arranged (is_comm sig f.op) (terms_of (drop f.from ds)) ≡ terms_of (drop f.from ds) → IsCutAt sig f.op (terms_of (drop f.from ds)) (term_of sig vs x) i)
      → InHand K count (record { frames = f ∷ fs; done = ds; jobs = xs; values = vs; moves = ms ++ into (suc i) ∷ [] }) x
  enters_cut vs ms f fs ds xs x i l s long cut =
      let n = next_of vs ms f fs ds xs x l s in
      let c : Bool = is_comm sig f.op in
      let own : RawTerms = terms_of (drop f.from ds) in
      let waiting : RawTerms = rest sig vs (drop f.waits xs) in
      let t : RawTerm = term_of sig vs x in
      let k : IsCutAt sig f.op own t i = cut n.at_hand_here n.order in
      let e = k.cut waiting n.jobs_order in
      let z : number_of_terms (front i own) ≡ i = front_number i own k.bound in
      let d : Divides c own t waiting (front i own) (arranged c (join (skip i own) waiting)) = record {
        whole = e;
        same = λ u. beside_same c own u waiting i k.behind;
      } in
      subst (λ j. InHand K count (record { frames = f ∷ fs; done = ds; jobs = xs; values = vs; moves = ms ++ into (suc j) ∷ [] }) x) z
      (enters vs ms f fs ds xs x (front i own) (arranged c (join (skip i own) waiting)) l s (λ h. long_by (drop f.from ds) (drop f.waits xs) (some (length-drop f.from ds) (length-drop f.waits xs) (long h))) d)
    where
      front_number : (i : ℕ) (ts : RawTerms) → i ≤ number_of_terms ts → number_of_terms (front i ts) ≡ i
      front_number zero ts l = refl
      front_number (suc i) nil l = absurd (omega (arith, l))
      front_number (suc i) (cons t ts) l = ap suc (front_number i ts (omega (arith, l)))

      parts : (i : ℕ) (ts : RawTerms) → join (front i ts) (skip i ts) ≡ ts
      parts zero ts = refl
      parts (suc i) nil = refl
      parts (suc i) (cons t ts) = ap (cons t) (parts i ts)

      -- with another term in the hole
      beside_same : (c : Bool) (own : RawTerms) (u : RawTerm) (waiting : RawTerms) (i : ℕ) → (c ≡ false → skip i own ≡ nil)
          → arranged c (join (front i own) (cons u (arranged c (join (skip i own) waiting)))) ≡ arranged c (join own (cons u waiting))
      beside_same false own u waiting i h =
          let e : front i own ≡ own = sym (join-nil (front i own)) ∙ ap (join (front i own)) (sym (h refl)) ∙ parts i own in rw (h refl, e) refl
      beside_same true own u waiting i h =
          let b : RawTerms = front i own in
          let a : RawTerms = skip i own in
          sorted_middle b u (sorted_terms (join a waiting)) ∙ ap (insert_term u) (arranged-right true b (join a waiting) ∙ ap sorted_terms (sym (join_assoc b a waiting) ∙ ap (λ ys. join ys waiting) (parts i own)))
          ∙ sym (sorted_middle own u waiting)

      some : {i j a b x y : ℕ} → x ≡ a - i → y ≡ b - j → (i < a) ⊎ (j < b) → 0 < x + y
      some e k (inl l) = omega (arith, e, k, l)
      some e k (inr l) = omega (arith, e, k, l)

      long_by : (ds : List RawTerm) (js : List Job) → 0 < length ds + length js → IsLong (join (terms_of ds) (rest sig vs js))
      long_by (d ∷ ds) js h = tt
      long_by [] (j ∷ js) h = last (rest sig vs js)
        where
          last : (ys : RawTerms) → IsLong (join ys (cons (term_of sig vs j) nil))
          last nil = tt
          last (cons y ys) = tt
      long_by [] [] h = absurd (omega (arith, h))

  -- A term that waits and is normal may be put to the frame's own arguments.
  pub normal_waits : (vs : List RawTerm) (ms : List Move) (f : Frame) (fs : List Frame) (ds : List RawTerm) (xs : List Job) (t : RawTerm) → f.waits ≤ length xs
      → Settled K count (record { frames = fs; done = ds; jobs = xs ++ Normal t ∷ []; values = vs; moves = ms }) f
      → (f.from ≤ length ds) × (arranged (is_comm sig f.op) (terms_of (drop f.from ds)) ≡ terms_of (drop f.from ds)) × (arranged (is_comm sig f.op) (spread sig f.op t) ≡ spread sig f.op t)
  normal_waits vs ms f fs ds xs t l s =
      let n = next_of vs ms f fs ds xs (Normal t) l s in
      let own : RawTerms = terms_of (drop f.from ds) in
      let waiting : RawTerms = rest sig vs (drop f.waits xs) in
      let k : IsCanonical sig t = (Each-parts (IsCanonical sig) own (cons t waiting) (each_canonical sig _ n.fair.canonical)).1.0 in (n.within, n.order, canonical_spread f.op t k)

  -- what no innermost frame hides is seen
  pub is_seen : (vs : List RawTerm) (ms : List Move) (fs : List Frame) (ds : List RawTerm) (xs : List Job) (x : Job) (t : RawTerm) → (h : InHand K count (record { frames = fs; done = ds; jobs = xs; values = vs; moves = ms }) x)
      → ((f : Frame) (gs : List Frame) → fs ≡ f ∷ gs → IsHidden sig f.op t → ⊥) → IsSeen sig h.stand.opens t
  is_seen vs ms [] ds xs x t h none = subst (λ os. IsSeen sig os t) (sym h.opened) tt
  is_seen vs ms (f ∷ gs) ds xs x t h none = seen_here vs f gs ds xs h.stand.opens t h.opened (none f gs refl)

  -- an instance that is built is the one that isn't
  pub built_made : (d : Data) (t : RawTerm) (p : Bor Pattern) (base top : ℕ) → InHand K count d (Built t p base top) → InHand K count d (Made p base top)
  built_made d t p base top h = record { stand = h.stand; leads = h.leads; opened = h.opened; hand = h.hand ∙ h.job.1; good = h.good; job = h.job.0 }

  -- a normal term that leaves its hole is done there
  pub normal_leaves : (d : Data) (t : RawTerm) → AreStanding M K.start → InHand K count d (Normal t) → (f : ℕ) → Each (IsDone M K.rank f) (spread sig f t)
  normal_leaves d t start h f = normal_done f t (subst (IsCanonical sig) h.hand (at_hand d.moves h.stand start h.leads).canonical) h.job

pub same_head : {X : Type 0} {x y : X} {xs ys : List X} → x ∷ xs ≡ y ∷ ys → x ≡ y
same_head e = cc

-- what stands last in a list stands first in the reverse
last_at : {X : Type 0} (xs : List X) (x : X) (i : ℕ) → suc i ≡ length xs → Some x ≡ slice_get xs i → (ys : List X) × (reverse xs ≡ x ∷ ys)
last_at [] x i l e = absurd (omega (arith, l))
last_at (y ∷ []) x zero l e = let k : x ≡ y = cc in ([], rw k refl)
last_at (y ∷ []) x (suc i) l e = absurd (omega (arith, l))
last_at (y ∷ z ∷ zs) x zero l e = absurd (omega (arith, l))
last_at (y ∷ z ∷ zs) x (suc i) l e = let (ws, h) = last_at (z ∷ zs) x i (omega (arith, l)) e in (ws ++ y ∷ [], reverse-append (y ∷ []) (z ∷ zs) ∙ ap (λ us. us ++ y ∷ []) h)

pub last_first : {X : Type 0} (xs : List X) (x : X) → Some x ≡ slice_get xs (length xs - 1) → (ys : List X) × (reverse xs ≡ x ∷ ys)
last_first [] x e = absurd (cc)
last_first (y ∷ ys) x e = last_at (y ∷ ys) x (length (y ∷ ys) - 1) (omega arith) e

pub weights-append : (sig : Signature) (vs : List RawTerm) (xs : List Job) (x : Job) → weights sig vs (xs ++ x ∷ []) ≡ weights sig vs xs + weight sig vs x
weights-append sig vs [] x = omega arith
weights-append sig vs (y ∷ xs) x = let h = weights-append sig vs xs x in omega (arith, h)

pub work_is : (sig : Signature) (vs : List RawTerm) (fs : List Frame) (xs : List Job) → work sig vs fs xs ≡ 3 * length fs + weights sig vs xs
work_is sig vs [] xs = omega arith
work_is sig vs (f ∷ fs) xs = let h = work_is sig vs fs xs in omega (arith, h)

-- into an argument: less is left
pub entering_falls : (sig : Signature) (vs ws : List RawTerm) (fs gs : List Frame) (xs ys : List Job) (x : Job) (f : Frame) → gs ≡ f ∷ fs → ws ≡ vs → ys ≡ xs
    → weight sig ws x + work sig ws gs ys < suc (work sig vs (f ∷ fs) (xs ++ x ∷ []))
entering_falls sig vs ws fs gs xs ys x f p q r = subst (λ us. weight sig us x + work sig us gs ys < suc (work sig vs (f ∷ fs) (xs ++ x ∷ []))) (sym q) (subst (λ hs. weight sig vs x + work sig vs hs ys < suc (work sig vs (f ∷ fs) (xs ++ x ∷ []))) (sym p) (subst (λ zs. weight sig vs x + work sig vs (f ∷ fs) zs < suc (work sig vs (f ∷ fs) (xs ++ x ∷ []))) (sym r) same))
  where
    same : weight sig vs x + work sig vs (f ∷ fs) xs < suc (work sig vs (f ∷ fs) (xs ++ x ∷ []))
    same =
        let v = weights-append sig vs xs x in
        let a = work_is sig vs (f ∷ fs) xs in
        let b = work_is sig vs (f ∷ fs) (xs ++ x ∷ []) in omega (arith, v, a, b)
