-- A normal term in hand is gone into: one of its arguments is in hand, and the others stand round it.
use Rattle.std.specs.Prelude.{◌≡◌, ◌≤◌, ◌<◌, ◌-◌, ◌+◌, ◌⊎◌, ◌||◌, ℕ, zero, suc, List, [], ◌∷◌, ◌++◌, length, take, drop, Bool, true, false, Some, slice_get, IsTrue, refl}
use Rattle.std.proofs.Common.{sym, subst, ap, ◌∙◌, arith, inl, inr, ⊎_elim, append_assoc}
use Rattle.std.proofs.lemmas.Bool.{both_ways}
use Rattle.std.proofs.lemmas.List.{length-append}
use Rattle.std.proofs.lemmas.Option.{same_Some}
use Rattle.std.proofs.Math.Seq.{drop-append_seam, take-append_seam}
use Rattle.mw_logic.specs.Term.{RawTerm, RawTerms, apply, nil, cons, join}
use Rattle.mw_logic.specs.Terms.{terms_of, list_of, front, skip}
use Rattle.mw_logic.specs.Signature.{Signature, at_number, IsRawTerm}
use Rattle.mw_logic.specs.Parts.{is_assoc, nested, all_nested, number_of_terms, IsFrozenArgument, IsFrozen}
use Rattle.mw_logic.specs.NormalForm.{is_comm, identity_of, arranged, applied_in, height}
use Rattle.mw_logic.specs.CanonicalPart.{IsOpen}
use Rattle.mw_logic.specs.TermOrder.{sorted_terms}
use Rattle.mw_logic.specs.Module.{Module}
use Rattle.mw_logic.specs.Judgements.{admitted_judgements}
use Rattle.mw_logic.proofs.Canonical.{Each, IsElement, IsCanonical, nat_eq-refl, Each-join, arranged-one, each_canonical, all_canonical}
use Rattle.mw_logic.proofs.Inside.{raw_inside}
use Rattle.mw_logic.proofs.Frozen.{open_anywhere, open-iff}
use Rattle.mw_logic.proofs.Holes.{Each-parts}
use Rattle.mw_logic.proofs.SortedLists.{climbs, sorted_terms-climbing}
use Rattle.mw_logic.proofs.Soundness.{all_nested-join}
use Rattle.mw_arguments.specs.Places.{others}
use Rattle.mw_builtin.proofs.Forms.{listed_number}
use Rattle.mw_term.proofs.Terms.{list_of-terms_of}
use Rattle.mw_deduction.specs.Standing.{Open, round, At}
use Rattle.mw_deduction.specs.Replay.{Move, into, Stand, opened, whole, going_out, into_argument, play, plays}
use Rattle.mw_deduction.proofs.LeftBack.{left_back}
use Rattle.mw_deduction.proofs.Moves.{plays-append}
use Rattle.mw_stack.specs.Hidden.{IsHidden}
use Rattle.mw_stack.specs.Places.{IsPlace}
use Rattle.mw_frames.specs.Fair.{Stays, IsFair}
use Rattle.mw_frames.specs.declared.job.Job.{Job}
use Rattle.mw_frames.specs.declared.job.Job.TheVariants.{Normal}
use Rattle.mw_frames.specs.declared.job.Frame.{Frame}
use Rattle.mw_frames.specs.Jobs.{rest}
use Rattle.mw_frames.specs.State.{Run, Data, Leads, IsRun, InHand, Settled, AreJobs, AreAtHand, IsDone, IsOpening, IsNormalHere}
use Rattle.mw_frames.specs.Machines.{IsCutAt}
use Rattle.mw_frames.specs.Arrivals.{IsNewFrame}
use Rattle.mw_frames.specs.Entered.{IsEntered}
use Rattle.mw_frames.specs.Redex.{IsSeenIn}
use Rattle.mw_frames.specs.Taking.{before_taken, behind_taken, waiting_normal, IsLeft}
use Rattle.mw_frames.proofs.Arguments.{same_applied}
use Rattle.mw_frames.proofs.CutPlaces.{is_cut}
use Rattle.mw_frames.proofs.FiringHere.{at_term}
use Rattle.mw_frames.proofs.FiringPart.{same_data}
use Rattle.mw_frames.proofs.LeftOver.{terms_of-list_of}
use Rattle.mw_frames.proofs.Normals.{normal_has, stays_seen}
use Rattle.mw_frames.proofs.OpenHoles.{open_inside}
use Rattle.mw_frames.proofs.OpeningTerms.{term_opening, opened_into}
use Rattle.mw_frames.proofs.TakingPart.{left_climb, among_others, rest_normal, normal_jobs, normal_at_hand, as_done}
use Rattle.mw_frames.proofs.Turning.{alone, enters_cut, rest-append, same_head}

-- an argument between those before it and those behind it
pub one_taken : (k : ℕ) (ts : RawTerms) (u : RawTerm) → at_number (list_of ts) k ≡ Some u → join (before_taken (k ∷ []) ts) (cons u (behind_taken (k ∷ []) ts)) ≡ ts
one_taken zero ts u e = cc
one_taken (suc k) ts u e =
    let z : suc k - 1 ≡ k = omega arith in
    subst (λ i. join (front i ts) (cons u (others (suc k) (suc k ∷ []) (skip i ts))) ≡ ts) (sym z) (by_place k (suc k) ts e)
  where
    by_place : (j n : ℕ) (ts : RawTerms) → slice_get (list_of ts) j ≡ Some u → join (front j ts) (cons u (others n (n ∷ []) (skip j ts))) ≡ ts
    by_place zero n nil e = cc
    by_place zero n (cons t ts) e = rw (nat_eq-refl n) (ap (λ x. cons x ts) (sym (same_Some t u e)))
    by_place (suc j) n nil e = cc
    by_place (suc j) n (cons t ts) e = ap (cons t) (by_place j n ts e)

front_number : (i : ℕ) (ts : RawTerms) → i ≤ number_of_terms ts → number_of_terms (front i ts) ≡ i
front_number zero ts l = refl
front_number (suc i) nil l = absurd (omega (arith, l))
front_number (suc i) (cons t ts) l = ap suc (front_number i ts (omega (arith, l)))

number_all : (sig : Signature) (ts : RawTerms) → number_of_terms (all_nested sig ts) ≡ number_of_terms ts
number_all sig nil = refl
number_all sig (cons t ts) = ap suc (number_all sig ts)

number_join : (xs ys : RawTerms) → number_of_terms (join xs ys) ≡ number_of_terms ys + number_of_terms xs
number_join nil ys = omega arith
number_join (cons x xs) ys = let h = number_join xs ys in omega (arith, h)

skip_none : (i : ℕ) (ts : RawTerms) → skip i ts ≡ nil → number_of_terms ts ≤ i
skip_none zero nil e = omega arith
skip_none zero (cons t ts) e = cc
skip_none (suc i) nil e = omega arith
skip_none (suc i) (cons t ts) e = let h = skip_none i ts e in omega (arith, h)

-- how many arguments stand before the one with a number
number_before : (k : ℕ) (ts : RawTerms) (u : RawTerm) → at_number (list_of ts) k ≡ Some u → suc (number_of_terms (before_taken (k ∷ []) ts)) ≡ k
number_before zero ts u e = cc
number_before (suc k) ts u e = let z : suc k - 1 ≡ k = omega arith in let h = by_place k ts e in ap (λ i. suc (number_of_terms (front i ts))) z ∙ ap suc h
  where
    by_place : (j : ℕ) (ts : RawTerms) → slice_get (list_of ts) j ≡ Some u → number_of_terms (front j ts) ≡ j
    by_place zero ts e = refl
    by_place (suc j) nil e = cc
    by_place (suc j) (cons t ts) e = ap suc (by_place j ts e)

at_place : (i : ℕ) (ts : RawTerms) → i < number_of_terms ts → (w : RawTerm) × (join (front i ts) (cons w (skip (suc i) ts)) ≡ ts)
at_place i nil l = absurd (omega (arith, l))
at_place zero (cons t ts) l = (t, refl)
at_place (suc i) (cons t ts) l = let (w, e) = at_place i ts (omega (arith, l)) in (w, ap (cons t) e)

-- what each of some arguments has
behind_each : (P : RawTerm → Type 0) (b : RawTerms) (u : RawTerm) (a : RawTerms) → Each P (join b (cons u a)) → Each P b × P u × Each P a
behind_each P b u a h = let z = Each-parts P b (cons u a) h in (z.0, z.1.0, z.1.1)

jobs_more : (M : Module) (n : ℕ) (vs : List RawTerm) (xs : List Job) (u : RawTerm) → AreJobs M n vs xs → IsNormalHere M n u → AreJobs M n vs (xs ++ Normal u ∷ [])
jobs_more M n vs [] u a h = (h, tt)
jobs_more M n vs (x ∷ xs) u a h = (a.0, jobs_more M n vs xs u a.1 h)

hand_more : (xs : List Job) (u : RawTerm) → AreAtHand xs → AreAtHand (xs ++ Normal u ∷ [])
hand_more [] u a = (tt, tt)
hand_more (x ∷ xs) u a = (a.0, hand_more xs u a.1)

module _ (K : Run) (sig : Signature) (run : IsRun K sig) (count : ℕ) where
  abbrev M : Module
  M = K.over

  abbrev here : Signature
  here = K.over.signature

  module _ (values : List RawTerm) (ms : List Move) (fs : List Frame) (ds : List RawTerm) (xs : List Job) (f : Frame) (args : RawTerms)
      (h : InHand K count (record { frames = fs; done = ds; jobs = xs; values = values; moves = ms }) (Normal (apply f.op args))) (k : ℕ) (u : RawTerm) (is : at_number (list_of args) k ≡ Some u) where
    abbrev b : RawTerms
    b = before_taken (k ∷ []) args

    abbrev a : RawTerms
    a = behind_taken (k ∷ []) args

    cut_at : join b (cons u a) ≡ args
    cut_at = one_taken k args u is

    at : At M (admitted_judgements M K.rank).Held (admitted_judgements M K.rank).Fails (nested here h.stand.from) h.stand.read h.stand.opens (apply f.op args)
    at = at_term K sig run count ms h.stand (apply f.op args) h.leads h.hand

    raw : IsRawTerm here (nested here (apply f.op args))
    raw = raw_inside here run.accepted (round here h.stand.opens) (nested here (apply f.op args)) at.raw

    normal : Each (IsNormalHere M K.rank) args
    normal = normal_has M run.accepted run.sorted (admitted_judgements M K.rank).Fails (apply f.op args) at.canonical h.job f.op args refl

    each : (P : RawTerm → Type 0) → Each P args → Each P b × P u × Each P a
    each P g = behind_each P b u a (subst (Each P) (sym cut_at) g)

    -- with all arguments waiting
    waits : rest here values (waiting_normal (list_of args)) ≡ args
    waits = rest_normal here values (list_of args) ∙ terms_of-list_of args

    first : IsOpening M K.rank values (apply f.op args) f [] (waiting_normal (list_of args))
    first =
        term_opening M K.rank run.accepted values f args (waiting_normal (list_of args)) at.canonical raw waits
        (normal_jobs K sig run count values (list_of args) (subst (Each (IsNormalHere M K.rank)) (sym (terms_of-list_of args)) normal)) (λ q. normal_at_hand K sig run count (list_of args))

    is_args : apply f.op args ≡ applied_in here f.op args
    is_args = subst (λ zs. apply f.op args ≡ applied_in here f.op zs) waits first.is

    fair : IsFair here f.op args
    fair = subst (IsFair here f.op) waits first.fair

    ordered : arranged (is_comm here f.op) args ≡ args
    ordered = subst (λ zs. arranged (is_comm here f.op) zs ≡ zs) waits first.good.jobs_order

    stays : Each (Stays here f.op) args
    stays = subst (Each (Stays here f.op)) waits first.good.seen

    -- the argument is seen
    pub argument_seen : IsSeenIn here (f ∷ fs) u
    argument_seen = shown (each (Stays here f.op) stays).1
      where
        shown : Stays here f.op u → ¬ IsHidden here f.op u
        shown s (inl (m, i)) = both_ways _ ((stays_seen here (opened f.op nil nil) u s).not_identity m) i
        shown s (inr z) = s.seen z

    -- the other arguments come to a frame, and that one is next
    opening : (os : List RawTerm) (ys : List Job) → IsLeft here f.op (k ∷ []) args os ys → IsOpening M K.rank values (apply f.op args) f os (ys ++ Normal u ∷ [])
    opening os ys l = by_comm (is_comm here f.op) refl
      where
        n : Each (IsNormalHere M K.rank) b × IsNormalHere M K.rank u × Each (IsNormalHere M K.rank) a
        n = each (IsNormalHere M K.rank) normal

        last : rest here values (ys ++ Normal u ∷ []) ≡ cons u (terms_of l.behind)
        last = rest-append here values ys (Normal u) ∙ ap (cons u) (ap (rest here values) l.jobs ∙ rest_normal here values l.behind)

        by_comm : (c : Bool) → is_comm here f.op ≡ c → IsOpening M K.rank values (apply f.op args) f os (ys ++ Normal u ∷ [])
        by_comm true q =
            let (d, z) = l.together q in
            let nothing : terms_of l.behind ≡ nil = ap terms_of z in
            let waiting : rest here values (ys ++ Normal u ∷ []) ≡ cons u nil = last ∙ ap (cons u) nothing in
            let list : join (terms_of os) (rest here values (ys ++ Normal u ∷ [])) ≡ join (join b a) (cons u nil) = ap (λ us. join us (rest here values (ys ++ Normal u ∷ []))) d ∙ ap (join (join b a)) waiting in
            let o : sorted_terms args ≡ args = subst (λ c. arranged c args ≡ args) q ordered in
            let s : sorted_terms (join b a) ≡ join b a = sorted_terms-climbing (join b a) (left_climb (k ∷ []) args (climbs args o)) in
            let same : arranged (is_comm here f.op) args ≡ arranged (is_comm here f.op) (join (join b a) (cons u nil)) =
            ap (λ c. arranged c args) q ∙ ap sorted_terms (sym cut_at) ∙ among_others b a u ∙ ap (λ c. arranged c (join (join b a) (cons u nil))) (sym q) in
            let put : (P : RawTerm → Type 0) → Each P args → Each P (join (join b a) (cons u nil)) = λ P g. let e = each P g in Each-join P (join b a) (cons u nil) (Each-join P b a e.0 e.2) (e.1, tt) in
            let size : number_of_terms (join (join b a) (cons u nil)) ≡ number_of_terms args =
            let x = number_join (join b a) (cons u nil) in let y = number_join b a in let w = number_join b (cons u a) in let v = ap number_of_terms cut_at in omega (arith, x, y, w, v) in
            record {
              is = is_args ∙ same_applied here run.accepted f.op args (join (join b a) (cons u nil)) same ∙ ap (applied_in here f.op) (sym list);
              fair = subst (IsFair here f.op) (sym list) (record {
                canonical = all_canonical here _ (put (IsCanonical here) (each_canonical here args fair.canonical));
                elements = λ m. put (IsElement (identity_of here f.op) f.op) (fair.elements m);
                alone = λ m. size ∙ fair.alone m;
              });
              good = record {
                done = subst (Each (IsDone M K.rank f.op)) (sym d) (as_done K sig run count f.op (join b a) (Each-join (IsNormalHere M K.rank) b a n.0 n.2));
                order = ap (λ c. arranged c (terms_of os)) q ∙ ap sorted_terms d ∙ s ∙ sym d;
                jobs = jobs_more M K.rank values ys u (subst (AreJobs M K.rank values) (sym l.jobs) (normal_jobs K sig run count values l.behind (subst (Each (IsNormalHere M K.rank)) (sym nothing) tt))) n.1;
                jobs_order = ap (arranged (is_comm here f.op)) waiting ∙ arranged-one (is_comm here f.op) u ∙ sym waiting;
                seen = subst (Each (Stays here f.op)) (sym waiting) ((each (Stays here f.op) stays).1, tt);
                at_hand = λ m. hand_more ys u (subst AreAtHand (sym l.jobs) (normal_at_hand K sig run count l.behind));
              };
            }
        by_comm false q =
            let (d, z) = l.apart q in
            let waiting : rest here values (ys ++ Normal u ∷ []) ≡ cons u a = last ∙ ap (cons u) z in
            let list : join (terms_of os) (rest here values (ys ++ Normal u ∷ [])) ≡ args = ap (λ us. join us (rest here values (ys ++ Normal u ∷ []))) d ∙ ap (join b) waiting ∙ cut_at in
            let flat : (us : RawTerms) → arranged (is_comm here f.op) us ≡ us = λ us. ap (λ c. arranged c us) q in
            let s = each (Stays here f.op) stays in
            record {
              is = is_args ∙ ap (applied_in here f.op) (sym list);
              fair = subst (IsFair here f.op) (sym list) fair;
              good = record {
                done = subst (Each (IsDone M K.rank f.op)) (sym d) (as_done K sig run count f.op b n.0);
                order = flat (terms_of os);
                jobs = jobs_more M K.rank values ys u (subst (AreJobs M K.rank values) (sym l.jobs) (normal_jobs K sig run count values l.behind (subst (Each (IsNormalHere M K.rank)) (sym z) n.2))) n.1;
                jobs_order = flat (rest here values (ys ++ Normal u ∷ []));
                seen = subst (Each (Stays here f.op)) (sym waiting) (s.1, s.2);
                at_hand = λ m. absurd (both_ways _ q m);
              };
            }

    -- an associative operator has others beside it
    pub others_there : (os : List RawTerm) (ys : List Job) → IsLeft here f.op (k ∷ []) args os ys → is_assoc here f.op ≡ true → os ≡ [] → ys ≡ [] → ⊥
    others_there os ys l m eo ey =
        let o = opening os ys l in
        let list : join (terms_of os) (rest here values (ys ++ Normal u ∷ [])) ≡ cons u nil = ap (λ zs. join (terms_of zs) (rest here values (ys ++ Normal u ∷ []))) eo ∙ ap (λ zs. rest here values (zs ++ Normal u ∷ [])) ey in
        let one : apply f.op args ≡ u = o.is ∙ ap (applied_in here f.op) list ∙ alone K run.accepted run.sorted count f.op u m (subst (IsFair here f.op) list o.fair) in
        let e = ap height one in
        let inside = lower args cut_at in
        omega (arith, e, inside)
      where
        -- an argument has less depth
        lower : (ts : RawTerms) → join b (cons u a) ≡ ts → height u < height (apply f.op ts)
        lower ts e = subst (λ ts. height u < height (apply f.op ts)) e (among b)
          where
            among : (b : RawTerms) → height u < height (apply f.op (join b (cons u a)))
            among nil = omega arith
            among (cons x xs) = let h = among xs in omega (arith, h)

    module _ (os : List RawTerm) (ys : List Job) (l : IsLeft here f.op (k ∷ []) args os ys) (new : IsNewFrame sig fs ds xs f.op f) where
      from_is : drop f.from (ds ++ os) ≡ os
      from_is = ap (λ i. drop i (ds ++ os)) new.from ∙ drop-append_seam ds os

      settled : Settled K count (record { frames = fs; done = ds ++ os; jobs = (xs ++ ys) ++ Normal u ∷ []; values = values; moves = ms }) f
      settled =
          let js : List Job = xs ++ (ys ++ Normal u ∷ []) in
          let dj : drop f.waits js ≡ ys ++ Normal u ∷ [] = ap (λ i. drop i js) new.waits ∙ drop-append_seam xs (ys ++ Normal u ∷ []) in
          let tj : take f.waits js ≡ xs = ap (λ i. take i js) new.waits ∙ take-append_seam xs (ys ++ Normal u ∷ []) in
          let td : take f.from (ds ++ os) ≡ ds = ap (λ i. take i (ds ++ os)) new.from ∙ take-append_seam ds os in
          let o : IsOpening M K.rank values (apply f.op args) f (drop f.from (ds ++ os)) (drop f.waits js) =
          subst (λ zs. IsOpening M K.rank values (apply f.op args) f zs (drop f.waits js)) (sym from_is) (subst (IsOpening M K.rank values (apply f.op args) f os) (sym dj) (opening os ys l)) in
          subst (λ zs. Settled K count (record { frames = fs; done = ds ++ os; jobs = zs; values = values; moves = ms }) f) (sym (append_assoc xs ys (Normal u ∷ [])))
          (opened_into K count sig run (record { frames = fs; done = ds; jobs = xs; values = values; moves = ms }) (Normal (apply f.op args)) h (ds ++ os) js f.op f new td tj o)

      -- it is in hand
      pub goes_into : (i : ℕ) → (is_assoc here f.op ≡ true → (f.from < length (ds ++ os)) ⊎ (f.waits < length (xs ++ ys)))
          → (arranged (is_comm here f.op) (terms_of (drop f.from (ds ++ os))) ≡ terms_of (drop f.from (ds ++ os)) → IsCutAt here f.op (terms_of (drop f.from (ds ++ os))) u i)
          → InHand K count (record { frames = f ∷ fs; done = ds ++ os; jobs = xs ++ ys; values = values; moves = ms ++ into (suc i) ∷ [] }) (Normal u)
      goes_into i long cut =
          enters_cut K run.accepted run.sorted count values ms f fs (ds ++ os) (xs ++ ys) (Normal u) i (let n = length-append xs ys in omega (arith, n, new.waits)) settled long (λ m. cut)

      -- the stand that the move leads to has one hole more
      holes : (i : ℕ) (S : Stand) → Leads K count (ms ++ into (suc i) ∷ []) S → S.opens ≡ opened f.op (front i args) (skip (suc i) args) ∷ h.stand.opens
      holes i S leads =
          let p : play M (into (suc i)) (h.stand ∷ K.below) ≡ S ∷ K.below = sym (ap (plays M (into (suc i) ∷ [])) h.leads.plays) ∙ sym (plays-append M ms (into (suc i) ∷ []) K.start) ∙ leads.plays in
          let q : into_argument here (suc i) h.stand.hand h.stand ≡ S = same_head p in
          let z : suc i - 1 ≡ i = omega arith in
          sym (ap (λ (T : Stand). T.opens) (ap (λ t. into_argument here (suc i) t h.stand) (sym h.hand) ∙ q)) ∙ ap (λ j. opened f.op (front j args) (skip (suc i) args) ∷ h.stand.opens) z

      -- and the same whole
      whole_stays : (i : ℕ) (S : Stand) → Leads K count (ms ++ into (suc i) ∷ []) S → whole here S.opens S.hand ≡ whole here h.stand.opens h.stand.hand
      whole_stays i S leads =
          let o : Open = opened f.op (front i args) (skip (suc i) args) in
          let e = holes i S leads in
          let (am, p) = left_back M run.accepted (ms ++ into (suc i) ∷ []) ms K.start S K.below o h.stand.opens run.start leads.moves leads.plays e (inr (inl (suc i, refl))) in
          let back : going_out here (o ∷ h.stand.opens) S ≡ h.stand = ap (λ os. going_out here os S) (sym e) ∙ same_head (sym p ∙ h.leads.plays) in
          ap (λ os. whole here os S.hand) e ∙ ap (λ (T : Stand). whole here T.opens T.hand) back

      -- the place is open where the argument is, and what is round the whole
      pub still_open : (i : ℕ) → IsCutAt here f.op (terms_of (drop f.from (ds ++ os))) u i → IsOpen here true f.op k → ¬ IsFrozen here (round here h.stand.opens)
          → (S : Stand) → Leads K count (ms ++ into (suc i) ∷ []) S → ¬ IsFrozen here (round here S.opens)
      still_open i cut clear around S leads =
          subst (λ zs. ¬ IsFrozen here (round here zs)) (sym (holes i S leads)) (by_assoc (is_assoc here f.op) refl)
        where
          bs : RawTerms
          bs = front i args

          cs : RawTerms
          cs = skip (suc i) args

          own_size : number_of_terms (terms_of (drop f.from (ds ++ os))) ≡ number_of_terms (terms_of os)
          own_size = ap (λ zs. number_of_terms (terms_of zs)) from_is

          size : number_of_terms b + suc (number_of_terms a) ≡ number_of_terms args
          size = let w = number_join b (cons u a) in let v = ap number_of_terms cut_at in omega (arith, w, v)

          -- so many stand before it: fewer than there are arguments
          before : i < number_of_terms args
          before = by_comm (is_comm here f.op) refl
            where
              by_comm : (c : Bool) → is_comm here f.op ≡ c → i < number_of_terms args
              by_comm true q = let d = ap number_of_terms (l.together q).0 in let z = number_join b a in omega (arith, cut.bound, own_size, d, z, size)
              by_comm false q = let d = ap number_of_terms (l.apart q).0 in omega (arith, cut.bound, own_size, d, size)

          bs_size : number_of_terms bs ≡ i
          bs_size = front_number i args (omega (arith, before))

          all_size : number_of_terms (all_nested here bs) ≡ i
          all_size = number_all here bs ∙ bs_size

          by_assoc : (m : Bool) → is_assoc here f.op ≡ m → ¬ IsFrozen here (round here (opened f.op bs cs ∷ h.stand.opens))
          by_assoc true m = open_inside here run.accepted f.op m (at_first (rw m refl)) bs cs h.stand.opens around
            where
              at_first : (is_assoc here f.op || is_comm here f.op) ≡ true → ¬ IsFrozenArgument here f.op 1
              at_first z = let p = open_anywhere here true f.op k 1 z clear in let q : IsTrue true → ¬ IsFrozenArgument here f.op 1 = rw z at p in q refl
          by_assoc false m = rw m (λ x. ⊎_elim (not_there (is_comm here f.op) refl) around x)
            where
              not_there : (c : Bool) → is_comm here f.op ≡ c → ¬ IsFrozenArgument here f.op (suc (number_of_terms (all_nested here bs)))
              not_there true q =
                  let z : (is_assoc here f.op || is_comm here f.op) ≡ true = rw (m, q) refl in
                  let (w, e) = at_place i args before in
                  let whole : IsRawTerm here (apply f.op (all_nested here args)) = rw m at raw in
                  let parts : all_nested here args ≡ join (all_nested here bs) (cons (nested here w) (all_nested here cs)) = ap (all_nested here) (sym e) ∙ all_nested-join here bs (cons w cs) in
                  let p = open_anywhere here true f.op k (suc (number_of_terms (all_nested here bs))) z clear in
                  (open-iff here run.accepted true f.op (all_nested here bs) (nested here w) (all_nested here cs) (subst (λ us. IsRawTerm here (apply f.op us)) parts whole)).1 p refl
              not_there false q =
                  let free : ¬ IsFrozenArgument here f.op k = let z : (is_assoc here f.op || is_comm here f.op) ≡ false = rw (m, q) refl in let p : IsTrue true → ¬ IsFrozenArgument here f.op k = rw z at clear in p refl in
                  let d = ap number_of_terms (l.apart q).0 in
                  let most = skip_none i _ (cut.behind q) in
                  let place = number_before k args u is in
                  let n : suc (number_of_terms (all_nested here bs)) ≡ k = omega (arith, all_size, most, cut.bound, own_size, d, place) in
                  subst (λ j. ¬ IsFrozenArgument here f.op j) (sym n) free

      -- so the argument is in hand
      pub entered : (i : ℕ) → (is_assoc here f.op ≡ true → (f.from < length (ds ++ os)) ⊎ (f.waits < length (xs ++ ys)))
          → (arranged (is_comm here f.op) (terms_of (drop f.from (ds ++ os))) ≡ terms_of (drop f.from (ds ++ os)) → IsPlace (is_comm here f.op) (terms_of (drop f.from (ds ++ os))) u i) → i ≤ length (drop f.from (ds ++ os))
          → IsEntered K count (record { frames = fs; done = ds; jobs = xs; values = values; moves = ms }) (record { frames = f ∷ fs; done = ds ++ os; jobs = xs ++ ys; values = values; moves = ms ++ into (suc i) ∷ [] }) (apply f.op args) k u
      entered i long place within =
          let own : RawTerms = terms_of (drop f.from (ds ++ os)) in
          let n = listed_number (drop f.from (ds ++ os)) in
          let cut : arranged (is_comm here f.op) own ≡ own → IsCutAt here f.op own u i = λ o. is_cut here f.op own u i (omega (arith, n, within)) (place o) o in
          let ordered : arranged (is_comm here f.op) own ≡ own = subst (λ us. arranged (is_comm here f.op) us ≡ us) (sym (ap terms_of from_is)) (opening os ys l).good.order in
          record {
            is = is;
            holds = goes_into i long cut;
            seen = argument_seen;
            same = λ v w S leads. whole_stays i S leads ∙ w h.stand h.leads;
            free = λ g ts e o around S leads. still_open i (cut ordered) (subst (λ g'. IsOpen here true g' k) (sym (same_operator e)) o) (around h.stand h.leads) S leads;
          }
        where
          same_operator : {g g' : ℕ} {us ts : RawTerms} → apply g us ≡ apply g' ts → g ≡ g'
          same_operator e = cc

none_left : {X : Type 0} (xs : List X) → length xs ≡ 0 → xs ≡ []
none_left [] e = refl
none_left (x ∷ xs) e = absurd (omega (arith, e))

-- into the argument of a term in hand that is made of these
module _ (K : Run) (sig : Signature) (run : IsRun K sig) (count : ℕ) (m : Data) (t : RawTerm) (xs : List RawTerm) (f : Frame) (k : ℕ) (u : RawTerm) (os : List RawTerm) (ys : List Job)
    (h : InHand K count m (Normal t)) (is : t ≡ apply f.op (terms_of xs)) (new : IsNewFrame sig m.frames m.done m.jobs f.op f) (at : at_number xs k ≡ Some u) (l : IsLeft K.over.signature f.op (k ∷ []) (terms_of xs) os ys) where
  hand : InHand K count m (Normal (apply f.op (terms_of xs)))
  hand = subst (λ x. InHand K count m (Normal x)) is h

  there : at_number (list_of (terms_of xs)) k ≡ Some u
  there = ap (λ ts. at_number ts k) (list_of-terms_of xs) ∙ at

  pub some_beside : is_assoc K.over.signature f.op ≡ true → length (m.done ++ os) ≤ f.from → length (m.jobs ++ ys) ≤ f.waits → ⊥
  some_beside a ld lj =
      let d = length-append m.done os in
      let j = length-append m.jobs ys in
      let from = new.from in
      let waits = new.waits in
      others_there K sig run count m.values m.moves m.frames m.done m.jobs f (terms_of xs) hand k u there os ys l a (none_left os (omega (arith, ld, d, from))) (none_left ys (omega (arith, lj, j, waits)))

  pub arrives : (n : Data) (i : ℕ) → (is_assoc K.over.signature f.op ≡ true → (f.from < length (m.done ++ os)) ⊎ (f.waits < length (m.jobs ++ ys)))
      → (arranged (is_comm K.over.signature f.op) (terms_of (drop f.from (m.done ++ os))) ≡ terms_of (drop f.from (m.done ++ os)) → IsPlace (is_comm K.over.signature f.op) (terms_of (drop f.from (m.done ++ os))) u i)
      → i ≤ length (drop f.from (m.done ++ os)) → n.frames ≡ f ∷ m.frames → n.done ≡ m.done ++ os → n.jobs ≡ m.jobs ++ ys → n.values ≡ m.values → n.moves ≡ m.moves ++ into (suc i) ∷ [] → IsEntered K count m n t k u
  arrives n i long place within ef ed ej ev em =
      let inside : Data = record { frames = f ∷ m.frames; done = m.done ++ os; jobs = m.jobs ++ ys; values = m.values; moves = m.moves ++ into (suc i) ∷ [] } in
      let z : IsEntered K count m inside (apply f.op (terms_of xs)) k u =
      entered K sig run count m.values m.moves m.frames m.done m.jobs f (terms_of xs) hand k u there os ys l new i long place within in
      subst (λ d. IsEntered K count m d t k u) (sym (same_data inside n ef ed ej ev em)) (subst (λ x. IsEntered K count m inside x k u) (sym is) z)
