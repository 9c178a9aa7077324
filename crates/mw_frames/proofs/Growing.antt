-- What waits and what frames are stays as it is where more values are kept.
use Rattle.std.specs.Prelude.{◌≡◌, ℕ, zero, suc, List, [], ◌∷◌, ◌++◌, take, drop, Option, Some, None, slice_get, unwrap_or, IsTrue, refl}
use Rattle.std.proofs.Common.{sym, subst, ap, ◌∙◌, true≢false}
use Rattle.mw_logic.specs.Term.{RawTerm, numeral, quoted, variable, apply, RawTerms, nil, cons, is_ground}
use Rattle.mw_logic.specs.Terms.{terms_of}
use Rattle.mw_logic.specs.Signature.{Signature}
use Rattle.mw_logic.specs.NormalForm.{is_comm, applied_in, arranged}
use Rattle.mw_logic.specs.Module.{Module}
use Rattle.mw_logic.proofs.Canonical.{Each}
use Rattle.mw_position.specs.Positions.{position}
use Rattle.mw_matching.specs.Matches.{evaluated, evaluated_all}
use Rattle.mw_pattern.specs.Clean.{clean}
use Rattle.mw_deduction.specs.Standing.{Open}
use Rattle.mw_frames.specs.Fair.{Stays}
use Rattle.mw_frames.specs.declared.job.Job.{Job}
use Rattle.mw_frames.specs.declared.job.Job.TheVariants.{Walk, Try, Normal, Made, Built}
use Rattle.mw_frames.specs.declared.job.Frame.{Frame}
use Rattle.mw_frames.specs.Jobs.{value_at, term_of, rest, IsOpenedAs, AreOpened}
use Rattle.mw_frames.specs.State.{IsKnown, IsKnownIn, AreKnownIn, IsJob, AreJobs, IsGood, AreGood}

module _ (M : Module) (n : ℕ) (ws : List RawTerm) where
  abbrev sig : Signature
  sig = M.signature

  get_first : (vs : List RawTerm) (i : ℕ) (u : RawTerm) → slice_get vs i ≡ Some u → slice_get (vs ++ ws) i ≡ Some u
  get_first [] i u e = cc
  get_first (v ∷ vs) zero u e = e
  get_first (v ∷ vs) (suc i) u e = get_first vs i u e

  get_grown : (vs : List RawTerm) (base i : ℕ) (u : RawTerm) → slice_get (drop base vs) i ≡ Some u → slice_get (drop base (vs ++ ws)) i ≡ Some u
  get_grown vs zero i u e = get_first vs i u e
  get_grown [] (suc base) i u e = cc
  get_grown (v ∷ vs) (suc base) i u e = get_grown vs base i u e

  module _ (vs : List RawTerm) (base : ℕ) where
    -- a value that is ground is there
    there : (i : ℕ) → IsTrue (is_ground (value_at vs base i)) → (u : RawTerm) × (slice_get (drop base vs) i ≡ Some u)
    there i g = by_value (slice_get (drop base vs) i) refl g
      where
        by_value : (o : Option RawTerm) → slice_get (drop base vs) i ≡ o → IsTrue (is_ground (unwrap_or o (variable (position i)))) → (u : RawTerm) × (slice_get (drop base vs) i ≡ Some u)
        by_value None e g = absurd (true≢false (sym g))
        by_value (Some u) e g = (u, e)

    module _ (top : ℕ) where
      mutual
        known_grown : (p : RawTerm) → IsKnownIn M n vs base top p → IsKnownIn M n (vs ++ ws) base top p
        known_grown (numeral m) h = tt
        known_grown (quoted q) h = tt
        known_grown (variable x) h =
            let (u, e) = there x.sort h.ground in
            let f = get_grown vs base x.sort u e in
            subst (IsKnown M n top) (ap (λ o. unwrap_or o (variable (position x.sort))) (e ∙ sym f)) h
        known_grown (apply f ts) h = (h.0, all_known_grown ts h.1)

        all_known_grown : (ts : RawTerms) → AreKnownIn M n vs base top ts → AreKnownIn M n (vs ++ ws) base top ts
        all_known_grown nil h = tt
        all_known_grown (cons t ts) h = (known_grown t h.0, all_known_grown ts h.1)

      mutual
        instance_grown : (p : RawTerm) → IsKnownIn M n vs base top p → evaluated sig (drop base (vs ++ ws)) p ≡ evaluated sig (drop base vs) p
        instance_grown (numeral m) h = refl
        instance_grown (quoted q) h = refl
        instance_grown (variable x) h =
            let (u, e) = there x.sort h.ground in
            let f = get_grown vs base x.sort u e in ap (λ o. unwrap_or o (variable x)) (f ∙ sym e)
        instance_grown (apply f ts) h = ap (applied_in sig f) (instances_grown ts h.1)

        instances_grown : (ts : RawTerms) → AreKnownIn M n vs base top ts → evaluated_all sig (drop base (vs ++ ws)) ts ≡ evaluated_all sig (drop base vs) ts
        instances_grown nil h = refl
        instances_grown (cons t ts) h = rw (instance_grown t h.0, instances_grown ts h.1) refl

  module _ (vs : List RawTerm) where
    pub term_grown : (x : Job) → IsJob M n vs x → term_of sig (vs ++ ws) x ≡ term_of sig vs x
    term_grown (Walk t) h = refl
    term_grown (Try t) h = refl
    term_grown (Normal t) h = refl
    term_grown (Made p base top) h = instance_grown vs base top (clean p.now) h
    term_grown (Built t p base top) h = refl

    pub job_grown : (x : Job) → IsJob M n vs x → IsJob M n (vs ++ ws) x
    job_grown (Walk t) h = h
    job_grown (Try t) h = h
    job_grown (Normal t) h = h
    job_grown (Made p base top) h = known_grown vs base top (clean p.now) h
    job_grown (Built t p base top) h = (known_grown vs base top (clean p.now) h.0, h.1 ∙ sym (instance_grown vs base top (clean p.now) h.0))

    pub jobs_grown : (xs : List Job) → AreJobs M n vs xs → AreJobs M n (vs ++ ws) xs
    jobs_grown [] h = tt
    jobs_grown (x ∷ xs) h = (job_grown x h.0, jobs_grown xs h.1)

    pub rest_grown : (xs : List Job) → AreJobs M n vs xs → rest sig (vs ++ ws) xs ≡ rest sig vs xs
    rest_grown [] h = refl
    rest_grown (x ∷ xs) h = rw (rest_grown xs h.1, term_grown x h.0) refl

    pub good_grown : (f : Frame) (own : RawTerms) (waiting : List Job) → IsGood M n vs f own waiting → IsGood M n (vs ++ ws) f own waiting
    good_grown f own waiting g = let e = sym (rest_grown waiting g.jobs) in record {
      done = g.done;
      order = g.order;
      jobs = jobs_grown waiting g.jobs;
      jobs_order = subst (λ ts. arranged (is_comm sig f.op) ts ≡ ts) e g.jobs_order;
      seen = subst (Each (Stays sig f.op)) e g.seen;
      at_hand = g.at_hand;
    }

    pub all_good_grown : (fs : List Frame) (ds : List RawTerm) (js : List Job) → AreGood M n vs fs ds js → AreGood M n (vs ++ ws) fs ds js
    all_good_grown [] ds js g = tt
    all_good_grown (f ∷ fs) ds js g = (good_grown f (terms_of (drop f.from ds)) (drop f.waits js) g.0, g.1, g.2, all_good_grown fs (take f.from ds) (take f.waits js) g.3)

    pub opened_grown : (fs : List Frame) (ds : List RawTerm) (js : List Job) (os : List Open) → AreGood M n vs fs ds js → AreOpened sig vs fs ds js os → AreOpened sig (vs ++ ws) fs ds js os
    opened_grown [] ds js os g o = o
    opened_grown (f ∷ fs) ds js [] g o = o
    opened_grown (f ∷ fs) ds js (p ∷ os) g (is, level, below) =
        (subst (IsOpenedAs sig (vs ++ ws) f p (terms_of (drop f.from ds))) (sym (rest_grown (drop f.waits js) g.0.jobs)) (record { operator = is.operator; same = is.same; alone = is.alone }), level, opened_grown fs (take f.from ds) (take f.waits js) os g.3 below)
