-- A term in hand is opened into a new frame.
use Rattle.std.specs.Prelude.{◌≡◌, ◌≤◌, ◌^◌, ◌&&◌, ◌+◌, ℕ, suc, List, [], ◌∷◌, ◌++◌, length, take, drop, reverse, nat_lt, Bool, true, false, cond, refl}
use Rattle.std.proofs.Common.{sym, subst, ap, ◌∙◌, arith, true≢false}
use Rattle.std.proofs.Math.Seq.{drop-append_seam, take-append_seam}
use Rattle.std.proofs.lemmas.List.{take-append-drop, take_all, drop_all}
use Rattle.std.proofs.lemmas.Bool.{both_ways, lt-ltb}
use Rattle.mw_logic.specs.Term.{RawTerm, RawTerms, numeral, quoted, variable, apply, nil, cons, join}
use Rattle.mw_logic.specs.Signature.{Signature, IsSuccessor, IsRawTerm, an_operator, AreRawTerms, end, next}
use Rattle.mw_logic.specs.Accepted.{IsAccepted}
use Rattle.mw_logic.specs.Kinds.{is_successor}
use Rattle.mw_logic.specs.Parts.{is_assoc, nested, all_nested, number_of_terms}
use Rattle.mw_logic.specs.NormalForm.{is_comm, identity_of, arranged, counted, applied_in}
use Rattle.mw_logic.specs.Module.{Module}
use Rattle.mw_logic.specs.Judgements.{admitted_judgements}
use Rattle.mw_logic.proofs.Canonical.{Each, IsElement, IsCanonical, arranged-nil, same_operator}
use Rattle.mw_logic.proofs.Invariance.{successor_not_assoc}
use Rattle.mw_logic.proofs.SortLaws.{join-nil}
use Rattle.mw_logic.proofs.Inside.{raw_inside}
use Rattle.mw_logic.proofs.Successor.{is_successor-true}
use Rattle.mw_deduction.specs.Standing.{Open, round, AreClear, At}
use Rattle.mw_deduction.proofs.Depths.{level_in}
use Rattle.mw_matching.specs.Matches.{evaluated_all}
use Rattle.mw_trail.specs.Tracks.{moves}
use Rattle.mw_arguments.proofs.Arguments.{args_in_order}
use Rattle.mw_stack.specs.Hidden.{IsHiddenNumeral}
use Rattle.mw_frames.specs.declared.job.Job.{Job}
use Rattle.mw_frames.specs.declared.job.Frame.{Frame}
use Rattle.mw_frames.specs.Fair.{Stays, IsFair}
use Rattle.mw_frames.specs.Jobs.{term_of, rest, AreOpened, weights, work}
use Rattle.mw_frames.specs.State.{Run, Data, IsRun, InHand, Settled, IsOpening, AreJobs, AreAtHand, HasArguments, AreKnownIn}
use Rattle.mw_frames.specs.Arrivals.{IsOver, StandForAll, KeepsFrames, level_over, IsNewFrame, Joins}
use Rattle.mw_frames.specs.Machines.{data_of}
use Rattle.mw_frames.specs.declared.machine.Machine.{Machine}
use Rattle.mw_frames.proofs.PartsWaiting.{all_known, number-evaluated}
use Rattle.mw_frames.proofs.Turning.{opens, at_hand, level_here}

-- What an operator that isn't associative is on its arguments, has these.
counted_args : (s : Bool) (f : ℕ) (us ts : RawTerms) → counted s f us ≡ apply f ts → us ≡ ts
counted_args s f nil ts e = cc
counted_args s f (cons (numeral n) nil) ts e = by_test (s && nat_lt (suc n) (2 ^ 128)) e
  where
    by_test : (b : Bool) → cond b (numeral (suc n)) (apply f (cons (numeral n) nil)) ≡ apply f ts → cons (numeral n) nil ≡ ts
    by_test true e = cc
    by_test false e = cc
counted_args s f (cons (quoted q) nil) ts e = cc
counted_args s f (cons (variable x) nil) ts e = cc
counted_args s f (cons (apply g us) nil) ts e = cc
counted_args s f (cons t (cons u us)) ts e = cc

nested-number : (sig : Signature) (ts : RawTerms) → number_of_terms (all_nested sig ts) ≡ number_of_terms ts
nested-number sig nil = refl
nested-number sig (cons t ts) = ap suc (nested-number sig ts)

module _ (sig : Signature) (ok : IsAccepted sig) where
  -- the arguments of an operator in a canonical term are in order
  pub canonical_order : (f : ℕ) (ts : RawTerms) → IsCanonical sig (apply f ts) → arranged (is_comm sig f) ts ≡ ts
  canonical_order f ts k = by_assoc (is_assoc sig f) refl
    where
      by_assoc : (b : Bool) → is_assoc sig f ≡ b → arranged (is_comm sig f) ts ≡ ts
      by_assoc true h = args_in_order sig ok f h ts k
      by_assoc false h = counted_args (is_successor sig f) f (arranged (is_comm sig f) ts) ts (rw h at k.1)

  -- none of them is hidden
  pub none_hidden : (f : ℕ) (ts : RawTerms) → applied_in sig f ts ≡ apply f ts → (IsSuccessor sig f → number_of_terms ts ≡ 1) → Each (λ t. ¬ IsHiddenNumeral sig f t) ts
  none_hidden f nil k one = tt
  none_hidden f (cons t nil) k one = (λ h. alone t k h, tt)
    where
      alone : (t : RawTerm) → applied_in sig f (cons t nil) ≡ apply f (cons t nil) → IsHiddenNumeral sig f t → ⊥
      alone t k h =
          let n : is_assoc sig f ≡ false = successor_not_assoc sig ok f h.successor in
          let s : is_successor sig f ≡ true = is_successor-true sig f h.successor in
          let l : nat_lt (suc h.number) (2 ^ 128) ≡ true = lt-ltb (suc h.number) (2 ^ 128) h.folds in
          apart h.number s l (Rattle.mw_logic.proofs.Canonical.arranged-one (is_comm sig f) (numeral h.number)) (subst (λ u. counted (is_successor sig f) f (arranged (is_comm sig f) (cons u nil)) ≡ apply f (cons u nil)) h.is (rw n at k))
        where
          apart : (n : ℕ) → is_successor sig f ≡ true → nat_lt (suc n) (2 ^ 128) ≡ true → arranged (is_comm sig f) (cons (numeral n) nil) ≡ cons (numeral n) nil
              → counted (is_successor sig f) f (arranged (is_comm sig f) (cons (numeral n) nil)) ≡ apply f (cons (numeral n) nil) → ⊥
          apart n s l a e = at_true (is_successor sig f && nat_lt (suc n) (2 ^ 128)) (rw (s, l) refl) (sym (ap (counted (is_successor sig f) f) a) ∙ e)
            where
              at_true : (b : Bool) → b ≡ true → cond b (numeral (suc n)) (apply f (cons (numeral n) nil)) ≡ apply f (cons (numeral n) nil) → ⊥
              at_true true q e = cc
              at_true false q e = cc
  none_hidden f (cons t (cons u us)) k one = all (cons t (cons u us)) (λ z. two (one z))
    where
      two : number_of_terms (cons t (cons u us)) ≡ 1 → ⊥
      two e = omega (arith, e)

      all : (ts : RawTerms) → (IsSuccessor sig f → ⊥) → Each (λ t. ¬ IsHiddenNumeral sig f t) ts
      all nil z = tt
      all (cons t ts) z = (λ h. z h.successor, all ts z)

  -- so each stays there
  pub each_stays : (f : ℕ) (ts : RawTerms) → (is_assoc sig f ≡ true → Each (IsElement (identity_of sig f) f) ts) → Each (λ t. ¬ IsHiddenNumeral sig f t) ts → Each (Stays sig f) ts
  each_stays f nil e h = tt
  each_stays f (cons t ts) e h = (record { element = λ a. (e a).0; seen = h.0 }, each_stays f ts (λ a. (e a).1) h.1)

  -- `s_` has one argument
  pub successor_alone : (f : ℕ) (ts : RawTerms) → IsRawTerm sig (nested sig (apply f ts)) → IsSuccessor sig f → number_of_terms ts ≡ 1
  successor_alone f ts raw s =
      sym (nested-number sig ts) ∙ of_raw (all_nested sig ts) (subst (λ b. IsRawTerm sig (Rattle.mw_logic.specs.Parts.nest b f (all_nested sig ts))) (successor_not_assoc sig ok f s) raw)
    where
      none : {us : RawTerms} {Ks : List ℕ} → AreRawTerms sig us Ks → Ks ≡ [] → number_of_terms us ≡ 0
      none end e = refl
      none (next a b r) e = cc

      behind : {K L : ℕ} {Ks : List ℕ} → L ∷ Ks ≡ K ∷ [] → Ks ≡ []
      behind e = cc

      one : {us : RawTerms} {K : ℕ} {Ks : List ℕ} → AreRawTerms sig us Ks → Ks ≡ K ∷ [] → number_of_terms us ≡ 1
      one end e = cc
      one (next a b r) e = ap suc (none r (behind e))

      of_raw : (us : RawTerms) → IsRawTerm sig (apply f us) → number_of_terms us ≡ 1
      of_raw us (an_operator o is args) = one args (ap (λ p. p.args) (same_operator sig f o s.operator is s.is_there) ∙ s.takes_one)

-- a canonical term on arguments that all wait
pub term_opening : (M : Module) (n : ℕ) → IsAccepted M.signature → (vs : List RawTerm) (f : Frame) (ts : RawTerms) (ys : List Job) → IsCanonical M.signature (apply f.op ts) → IsRawTerm M.signature (nested M.signature (apply f.op ts))
    → rest M.signature vs ys ≡ ts → AreJobs M n vs ys → (is_comm M.signature f.op ≡ true → AreAtHand ys) → IsOpening M n vs (apply f.op ts) f [] ys
term_opening M n ok vs f ts ys k raw r jobs hand =
    let sig : Signature = M.signature in
    record {
      is = sym k.1 ∙ ap (applied_in sig f.op) (sym r);
      fair = subst (IsFair sig f.op) (sym r) (record { canonical = k.0; elements = k.2; alone = successor_alone sig ok f.op ts raw });
      good = record {
        done = tt;
        order = arranged-nil (is_comm sig f.op);
        jobs = jobs;
        jobs_order = subst (λ us. arranged (is_comm sig f.op) us ≡ us) (sym r) (canonical_order sig ok f.op ts k);
        seen = subst (Each (Stays sig f.op)) (sym r) (each_stays sig ok f.op ts k.2 (none_hidden sig ok f.op ts k.1 (successor_alone sig ok f.op ts raw)));
        at_hand = hand;
      };
    }

-- work grows with what waits
pub work-weights : (sig : Signature) (vs : List RawTerm) (fs : List Frame) (js : List Job) → work sig vs fs js ≡ work sig vs fs [] + weights sig vs js
work-weights sig vs [] js = omega arith
work-weights sig vs (f ∷ fs) js = let h = work-weights sig vs fs js in omega (arith, h)

pub work_more : (sig : Signature) (vs : List RawTerm) (fs : List Frame) (js js' : List Job) (d : ℕ) → weights sig vs js' ≤ weights sig vs js + d → work sig vs fs js' ≤ work sig vs fs js + d
work_more sig vs fs js js' d h = let a = work-weights sig vs fs js in let b = work-weights sig vs fs js' in omega (arith, a, b, h)

module _ (K : Run) (k : ℕ) (sig : Signature) (run : IsRun K sig) (d : Data) (x : Job) (h : InHand K k d x) where
  -- what is in hand, and what stands round it
  pub in_hand_at : At K.over (admitted_judgements K.over K.rank).Held (admitted_judgements K.over K.rank).Fails (nested K.over.signature h.stand.from) h.stand.read h.stand.opens (term_of K.over.signature d.values x)
  in_hand_at =
      subst (At K.over (admitted_judgements K.over K.rank).Held (admitted_judgements K.over K.rank).Fails (nested K.over.signature h.stand.from) h.stand.read h.stand.opens) h.hand
      (at_hand K run.accepted run.sorted k d.moves h.stand run.start h.leads)

  pub in_hand_raw : IsRawTerm K.over.signature (nested K.over.signature (term_of K.over.signature d.values x))
  in_hand_raw = raw_inside K.over.signature run.accepted (round K.over.signature h.stand.opens) _ in_hand_at.raw

  -- a new frame's level
  level_is : (fs : List Frame) (ds : List RawTerm) (js : List Job) (os : List Open) (g : ℕ) → AreClear K.over.signature os → AreOpened K.over.signature d.values fs ds js os
      → level_over K.over.signature fs g ≡ level_in K.over.signature (round K.over.signature os) (apply g nil)
  level_is [] ds js os g c o = sym (ap (λ zs. level_in K.over.signature (round K.over.signature zs) (apply g nil)) o)
  level_is (f ∷ fs) ds js os g c o = sym (level_here K run.accepted run.sorted k d.values f fs ds js os g c o)

  -- it is opened into a frame
  pub opened_into : (ds' : List RawTerm) (js' : List Job) (g : ℕ) (f : Frame) → IsNewFrame sig d.frames d.done d.jobs g f → take f.from ds' ≡ d.done → take f.waits js' ≡ d.jobs
      → IsOpening K.over K.rank d.values (term_of K.over.signature d.values x) f (drop f.from ds') (drop f.waits js')
      → Settled K k (record { frames = d.frames; done = ds'; jobs = js'; values = d.values; moves = d.moves }) f
  opened_into ds' js' g f new ed ej o =
      let level : f.level ≡ level_in K.over.signature (round K.over.signature h.stand.opens) (apply f.op nil) =
      new.level ∙ ap (λ s. level_over s d.frames g) (sym run.signature) ∙ level_is d.frames d.done d.jobs h.stand.opens g in_hand_at.clear h.opened
      ∙ ap (λ i. level_in K.over.signature (round K.over.signature h.stand.opens) (apply i nil)) (sym new.operator) in
      let p : d.done ++ drop f.from ds' ≡ ds' = ap (λ zs. zs ++ drop f.from ds') (sym ed) ∙ take-append-drop f.from ds' in
      let q : d.jobs ++ drop f.waits js' ≡ js' = ap (λ zs. zs ++ drop f.waits js') (sym ej) ∙ take-append-drop f.waits js' in
      let z = opens K run.accepted run.sorted k d.values d.moves f d.frames d.done (drop f.from ds') d.jobs (drop f.waits js') x h new.from new.waits level o in
      subst (λ zs. Settled K k (record { frames = d.frames; done = zs; jobs = js'; values = d.values; moves = d.moves }) f) p
      (subst (λ zs. Settled K k (record { frames = d.frames; done = d.done ++ drop f.from ds'; jobs = zs; values = d.values; moves = d.moves }) f) q z)

  -- all its arguments wait
  pub walk_opened : (g : ℕ) (ts : RawTerms) (f : Frame) (js' : List Job) → term_of K.over.signature d.values x ≡ apply g ts → IsNewFrame sig d.frames d.done d.jobs g f
      → Joins K.over.signature d.values false f.waits ts (λ M n. Unit {0}) d.jobs js' → Settled K k (record { frames = d.frames; done = d.done; jobs = js'; values = d.values; moves = d.moves }) f
  walk_opened g ts f js' is new j =
      let l : f.waits ≤ length d.jobs = omega (arith, new.waits) in
      let td : take f.from d.done ≡ d.done = take_all f.from d.done (omega (arith, new.from)) in
      let dd : drop f.from d.done ≡ [] = drop_all f.from d.done (omega (arith, new.from)) in
      let dj : drop f.waits d.jobs ≡ [] = drop_all f.waits d.jobs (omega (arith, new.waits)) in
      let e : term_of K.over.signature d.values x ≡ apply f.op ts = is ∙ ap (λ i. apply i ts) (sym new.operator) in
      let r : rest K.over.signature d.values (drop f.waits js') ≡ ts =
      j.order l (λ q. absurd (true≢false (sym q))) refl ∙ ap (λ ys. join ts (rest K.over.signature d.values ys)) dj ∙ join-nil ts in
      let o : IsOpening K.over K.rank d.values (apply f.op ts) f [] (drop f.waits js') =
      term_opening K.over K.rank run.accepted d.values f ts (drop f.waits js') (subst (IsCanonical K.over.signature) e in_hand_at.canonical) (subst (λ u. IsRawTerm K.over.signature (nested K.over.signature u)) e in_hand_raw) r
      (j.known K.over K.rank l tt (subst (AreJobs K.over K.rank d.values) (sym dj) tt)) (λ q. j.at_hand l (subst AreAtHand (sym dj) tt)) in
      opened_into d.done js' g f new td (j.below l ∙ take_all f.waits d.jobs (omega (arith, new.waits)))
      (subst (λ zs. IsOpening K.over K.rank d.values (term_of K.over.signature d.values x) f zs (drop f.waits js')) (sym dd) (subst (λ u. IsOpening K.over K.rank d.values u f [] (drop f.waits js')) (sym e) o))

  -- parts of a right side wait under an operator that stays on top
  pub plain_opened : (g : ℕ) (ps : RawTerms) (base top : ℕ) (f : Frame) (xs js' : List Job) → is_assoc K.over.signature g ≡ false → is_comm K.over.signature g ≡ false
      → applied_in K.over.signature g (evaluated_all K.over.signature (drop base d.values) ps) ≡ apply g (evaluated_all K.over.signature (drop base d.values) ps)
      → term_of K.over.signature d.values x ≡ applied_in K.over.signature g (evaluated_all K.over.signature (drop base d.values) ps)
      → HasArguments K.over.signature g (number_of_terms ps) → AreKnownIn K.over K.rank d.values base top ps → IsNewFrame sig d.frames d.done d.jobs g f → js' ≡ d.jobs ++ xs
      → StandForAll K.over.signature d.values base top ps xs → Settled K k (record { frames = d.frames; done = d.done; jobs = js'; values = d.values; moves = d.moves }) f
  plain_opened g ps base top f xs js' n m e is has known new ej st =
      let s : Signature = K.over.signature in
      let ts : RawTerms = evaluated_all s (drop base d.values) ps in
      let td : take f.from d.done ≡ d.done = take_all f.from d.done (omega (arith, new.from)) in
      let dd : drop f.from d.done ≡ [] = drop_all f.from d.done (omega (arith, new.from)) in
      let tj : take f.waits js' ≡ d.jobs = ap (take f.waits) ej ∙ ap (λ i. take i (d.jobs ++ xs)) new.waits ∙ take-append_seam d.jobs xs in
      let dj : drop f.waits js' ≡ xs = ap (drop f.waits) ej ∙ ap (λ i. drop i (d.jobs ++ xs)) new.waits ∙ drop-append_seam d.jobs xs in
      let alone : IsSuccessor s g → number_of_terms ts ≡ 1 = λ z. number-evaluated s (drop base d.values) ps ∙ has.one z in
      let over : IsOver K.over s = record { signature = refl; accepted = run.accepted; sorted = run.sorted } in
      let good : (c : Bool) → is_comm s g ≡ c → c ≡ false → arranged (is_comm s g) (rest s d.values xs) ≡ rest s d.values xs = λ c q r. ap (λ b. arranged b (rest s d.values xs)) (q ∙ r) in
      let o : (i : ℕ) → i ≡ g → IsOpening K.over K.rank d.values (term_of s d.values x) (record f { op = i }) [] xs = λ i q.
      subst (λ i. IsOpening K.over K.rank d.values (term_of s d.values x) (record f { op = i }) [] xs) (sym q)
      (record {
        is = is ∙ ap (applied_in s g) (sym st.terms);
        fair = subst (IsFair s g) (sym st.terms) (record { canonical = all_known K.over K.rank run.accepted d.values base top ps known; elements = λ a. absurd (both_ways _ n a); alone = alone });
        good = record {
          done = tt;
          order = arranged-nil (is_comm s g);
          jobs = st.known K.over K.rank over known;
          jobs_order = good (is_comm s g) refl m;
          seen = subst (Each (Stays s g)) (sym st.terms) (each_stays s run.accepted g ts (λ a. absurd (both_ways _ n a)) (none_hidden s run.accepted g ts e alone));
          at_hand = λ a. absurd (both_ways _ m a);
        };
      }) in
      opened_into d.done js' g f new td tj
      (subst (λ zs. IsOpening K.over K.rank d.values (term_of s d.values x) f zs (drop f.waits js')) (sym dd) (subst (λ zs. IsOpening K.over K.rank d.values (term_of s d.values x) f [] zs) (sym dj) (o f.op new.operator)))

-- what the machine has kept is seen as it was
pub kept_settled : (K : Run) (k : ℕ) (m m' : Machine) (f : Frame) → KeepsFrames m m'
    → Settled K k (record { frames = reverse m.frames.items; done = m'.done.items; jobs = m'.jobs.items; values = m.kept.values; moves = moves K.over m.kept }) f → Settled K k (data_of K.over m') f
kept_settled K k m m' f h s =
    subst (λ t. Settled K k (record { frames = reverse m'.frames.items; done = m'.done.items; jobs = m'.jobs.items; values = t.values; moves = moves K.over t }) f) (sym h.kept)
    (subst (λ fs. Settled K k (record { frames = reverse fs; done = m'.done.items; jobs = m'.jobs.items; values = m.kept.values; moves = moves K.over m.kept }) f) (sym h.frames) s)

pub kept_work : (sig : Signature) (m m' : Machine) → KeepsFrames m m' → work sig m'.kept.values (reverse m'.frames.items) m'.jobs.items ≡ work sig m.kept.values (reverse m.frames.items) m'.jobs.items
kept_work sig m m' h = ap (λ t. work sig t.values (reverse m'.frames.items) m'.jobs.items) h.kept ∙ ap (λ fs. work sig m.kept.values (reverse fs) m'.jobs.items) h.frames
