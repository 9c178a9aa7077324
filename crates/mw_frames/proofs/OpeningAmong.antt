-- A right side under an operator with axioms is opened into a new frame, to which its parts come.
use Rattle.std.specs.Prelude.{◌≡◌, ◌⊎◌, ◌≤◌, ◌^◌, ◌&&◌, ℕ, suc, nat_lt, cond, List, [], ◌∷◌, length, take, drop, Bool, true, false, refl}
use Rattle.std.proofs.Common.{sym, subst, ap, ◌∙◌, arith, inl, inr, ⊎_elim}
use Rattle.std.proofs.lemmas.List.{take_all, drop_all}
use denote.Ref.{Bor}
use Rattle.std.proofs.lemmas.Bool.{both_ways}
use Rattle.mw_logic.specs.Term.{RawTerm, RawTerms, numeral, quoted, variable, apply, nil, cons, join}
use Rattle.mw_logic.specs.Terms.{terms_of}
use Rattle.mw_logic.specs.Signature.{Signature, IsSuccessor}
use Rattle.mw_logic.specs.Accepted.{IsAccepted, IsWellSorted}
use Rattle.mw_logic.specs.Module.{Module}
use Rattle.mw_logic.specs.Kinds.{is_successor}
use Rattle.mw_logic.specs.Parts.{is_assoc}
use Rattle.mw_logic.specs.NormalForm.{is_comm, identity_of, arranged, counted, applied_in}
use Rattle.mw_logic.proofs.SortLaws.{join-nil}
use Rattle.mw_logic.proofs.Canonical.{Each, Each-join, Each-arranged, IsElement, IsCanonical, all_canonical, each_canonical, arranged-nil}
use Rattle.mw_logic.proofs.CanonicalTerms.{not_successor}
use Rattle.mw_logic.proofs.Holes.{Each-parts, Each-unarranged}
use Rattle.mw_logic.proofs.Successor.{is_successor-true}
use Rattle.mw_canon.specs.Axioms.{HasAxioms}
use Rattle.mw_canon.specs.declared.axioms.Axioms.{Axioms}
use Rattle.mw_canon.specs.declared.axioms.Axioms.TheVariants.{Plain, Commutative, Successor, Associative}
use Rattle.mw_canon.proofs.Ordered.{arguments_in_order}
use Rattle.mw_matching.specs.Matches.{evaluated_all}
use Rattle.mw_pattern.specs.declared.pattern.Pattern.{Pattern}
use Rattle.mw_pattern.specs.Clean.{clean}
use Rattle.mw_deduction.specs.Standing.{round}
use Rattle.mw_deduction.specs.Replay.{Move, Stand}
use Rattle.mw_deduction.proofs.Depths.{level_in}
use Rattle.mw_stack.specs.Own.{spread}
use Rattle.mw_frames.specs.declared.job.Job.{Job}
use Rattle.mw_frames.specs.declared.job.Job.TheVariants.{Made}
use Rattle.mw_frames.specs.declared.job.Hand.{Hand}
use Rattle.mw_frames.specs.declared.machine.Machine.{Machine}
use Rattle.mw_frames.specs.Fair.{IsFair}
use Rattle.mw_frames.specs.Machines.{data_of}
use Rattle.mw_frames.specs.declared.job.Frame.{Frame}
use Rattle.mw_frames.specs.Jobs.{term_of, rest, arguments, AreOpened}
use Rattle.mw_frames.specs.State.{Run, Data, Leads, IsRun, InHand, Settled, Holds, IsGood, AreGood, IsOpening, AreKnownIn}
use Rattle.mw_frames.specs.Arrivals.{IsOver, spread_all, AreAdded, Comes, IsNewFrame, Opens}
use Rattle.mw_frames.proofs.Arguments.{spliced, spread_fits, same_applied}
use Rattle.mw_frames.proofs.JobOrder.{still_within}
use Rattle.mw_frames.proofs.PartsWaiting.{all_known}
use Rattle.mw_frames.proofs.Arriving.{all_spliced, all_fit}
use Rattle.mw_frames.proofs.OpeningTerms.{opened_into}

module _ (K : Run) (k : ℕ) (sig : Signature) (run : IsRun K sig) (d : Data) (x : Job) (h : InHand K k d x) where
  abbrev s : Signature
  s = K.over.signature

  pub among_opened : (g : ℕ) (ps : RawTerms) (base top : ℕ) (f : Frame) (ds' : List RawTerm) (js' : List Job) → (is_assoc s g ≡ true) ⊎ (is_successor s g ≡ false) → term_of s d.values x ≡ applied_in s g (evaluated_all s (drop base d.values) ps)
      → AreKnownIn K.over K.rank d.values base top ps → IsNewFrame sig d.frames d.done d.jobs g f
      → Comes s d.values f (spread_all s f.op (evaluated_all s (drop base d.values) ps)) (λ M n. AreKnownIn M n d.values base top ps) d.done ds' d.jobs js'
      → Settled K k (record { frames = d.frames; done = ds'; jobs = js'; values = d.values; moves = d.moves }) f
  among_opened g ps base top f ds' js' axioms is known new comes =
      let ts : RawTerms = evaluated_all s (drop base d.values) ps in
      let es : RawTerms = spread_all s f.op ts in
      let c : Bool = is_comm s f.op in
      let z : IsSuccessor s f.op → ⊥ = λ q.
      let q' : IsSuccessor s g = subst (IsSuccessor s) new.operator q in ⊎_elim (λ a. not_successor s run.accepted g a q') (λ a. both_ways _ a (is_successor-true s g q')) axioms in
      let dd : drop f.from d.done ≡ [] = drop_all f.from d.done (omega (arith, new.from)) in
      let dj : drop f.waits d.jobs ≡ [] = drop_all f.waits d.jobs (omega (arith, new.waits)) in
      let lf : f.from ≤ length d.done = omega (arith, new.from) in
      let lw : f.waits ≤ length d.jobs = omega (arith, new.waits) in
      let over : IsOver K.over s = record { signature = refl; accepted = run.accepted; sorted = run.sorted } in
      let none : IsGood K.over K.rank d.values f nil [] = record { done = tt; order = arranged-nil c; jobs = tt; jobs_order = arranged-nil c; seen = tt; at_hand = λ q. tt } in
      let g0 : IsGood K.over K.rank d.values f (terms_of (drop f.from d.done)) (drop f.waits d.jobs) =
      subst (λ zs. IsGood K.over K.rank d.values f (terms_of zs) (drop f.waits d.jobs)) (sym dd) (subst (IsGood K.over K.rank d.values f nil) (sym dj) none) in
      let a : AreAdded K.over K.rank d.values f es (terms_of (drop f.from d.done)) (terms_of (drop f.from ds')) (drop f.waits d.jobs) (drop f.waits js') = comes.are_added K.over K.rank over z lf lw known g0 in
      let all : RawTerms = join (terms_of (drop f.from ds')) (rest s d.values (drop f.waits js')) in
      let e : arranged c all ≡ arranged c es =
      a.same nil ∙ ap (λ zs. arranged c (join (terms_of zs) (join es (rest s d.values (drop f.waits d.jobs))))) dd ∙ ap (λ ys. arranged c (join es (rest s d.values ys))) dj ∙ ap (arranged c) (join-nil es) in
      let canonical = all_known K.over K.rank run.accepted d.values base top ps known in
      let fits = all_fit s f.op run.accepted ts canonical in
      let each : (P : RawTerm → Type 0) → Each P es → Each P all = λ P p. Each-unarranged P c all (subst (Each P) (sym e) (Each-arranged P c es p)) in
      let o : IsOpening K.over K.rank d.values (term_of s d.values x) f (drop f.from ds') (drop f.waits js') = record {
        is = is ∙ ap (λ i. applied_in s i ts) (sym new.operator) ∙ all_spliced s f.op run.accepted nil ts canonical ∙ sym (same_applied s run.accepted f.op all es e);
        fair = record {
          canonical = all_canonical s all (each (IsCanonical s) fits.0);
          elements = λ q. each (IsElement (identity_of s f.op) f.op) (fits.1 q);
          alone = λ q. absurd (z q);
        };
        good = a.good;
      } in
      opened_into K k sig run d x h ds' js' g f new (comes.below lf ∙ take_all f.from d.done (omega (arith, new.from))) (comes.below_jobs lw ∙ take_all f.waits d.jobs (omega (arith, new.waits))) o

-- What is in hand in a frame's hole comes to it: it means what it did.
module _ (K : Run) (count : ℕ) (ok : IsAccepted K.over.signature) (sorted : IsWellSorted K.over.signature) where
  -- the arguments are those that were there and the term's elements
  pub fair_added : (n : ℕ) (vs : List RawTerm) (f : Frame) (t : RawTerm) (own own' : RawTerms) (xs xs' : List Job) → ¬ IsSuccessor K.over.signature f.op → IsFair K.over.signature f.op (join own (rest K.over.signature vs xs))
      → IsCanonical K.over.signature t → AreAdded K.over n vs f (spread K.over.signature f.op t) own own' xs xs'
      → IsFair K.over.signature f.op (join own' (rest K.over.signature vs xs')) × (applied_in K.over.signature f.op (join own' (rest K.over.signature vs xs')) ≡ applied_in K.over.signature f.op (join own (cons t (rest K.over.signature vs xs))))
  fair_added n vs f t own own' xs xs' z fair k a =
      let s : Signature = K.over.signature in
      let c : Bool = is_comm s f.op in
      let es : RawTerms = spread s f.op t in
      let w : RawTerms = rest s vs xs in
      let all : RawTerms = join own' (rest s vs xs') in
      let e : arranged c all ≡ arranged c (join own (join es w)) = a.same nil in
      let fits = spread_fits s ok f.op t k in
      let each : (P : RawTerm → Type 0) → Each P (join own w) → Each P es → Each P all = λ P p q.
      let (b, d) = Each-parts P own w p in Each-unarranged P c all (subst (Each P) (sym e) (Each-arranged P c (join own (join es w)) (Each-join P own (join es w) b (Each-join P es w q d)))) in (
        record {
          canonical = all_canonical s all (each (IsCanonical s) (each_canonical s _ fair.canonical) (each_canonical s es fits.0));
          elements = λ h. each (IsElement (identity_of s f.op) f.op) (fair.elements h) (fits.1 h);
          alone = λ h. absurd (z h);
        },
        same_applied s ok f.op all (join own (join es w)) e ∙ sym (spliced s ok f.op own t w k),
      )

  pub come_settled : (vs : List RawTerm) (ms : List Move) (f : Frame) (fs : List Frame) (ds ds' : List RawTerm) (js js' : List Job) (S : Stand) (t : RawTerm) (Known : Module → ℕ → Type 0) → Leads K count ms S
      → AreOpened K.over.signature vs fs (take f.from ds) (take f.waits js) S.opens → f.level ≡ level_in K.over.signature (round K.over.signature S.opens) (apply f.op nil)
      → S.hand ≡ applied_in K.over.signature f.op (join (terms_of (drop f.from ds)) (cons t (rest K.over.signature vs (drop f.waits js))))
      → IsFair K.over.signature f.op (arguments K.over.signature vs f ds js) → IsCanonical K.over.signature t → ¬ IsSuccessor K.over.signature f.op → AreGood K.over K.rank vs (f ∷ fs) ds js
      → Known K.over K.rank → Comes K.over.signature vs f (spread K.over.signature f.op t) Known ds ds' js js'
      → Settled K count (record { frames = fs; done = ds'; jobs = js'; values = vs; moves = ms }) f
  come_settled vs ms f fs ds ds' js js' S t Known leads opened level hand fair k z good known comes =
      let s : Signature = K.over.signature in
      let over : IsOver K.over s = record { signature = refl; accepted = ok; sorted = sorted } in
      let a = comes.are_added K.over K.rank over z good.1 good.2 known good.0 in
      let (fair', same) = fair_added K.rank vs f t (terms_of (drop f.from ds)) (terms_of (drop f.from ds')) (drop f.waits js) (drop f.waits js') z fair k a in
      let td : take f.from ds ≡ take f.from ds' = sym (comes.below good.1) in
      let tj : take f.waits js ≡ take f.waits js' = sym (comes.below_jobs good.2) in
      record {
        stand = S;
        leads = leads;
        opened = subst (λ zs. AreOpened s vs fs zs (take f.waits js') S.opens) td (subst (λ zs. AreOpened s vs fs (take f.from ds) zs S.opens) tj opened);
        level = level;
        hand = hand ∙ sym same;
        fair = fair';
        good = (
          a.good,
          still_within f.from ds ds' (comes.below good.1) good.1,
          still_within f.waits js js' (comes.below_jobs good.2) good.2,
          subst (λ zs. AreGood K.over K.rank vs fs zs (take f.waits js')) td (subst (λ zs. AreGood K.over K.rank vs fs (take f.from ds) zs) tj good.3),
        );
      }

-- a part of a right side in hand
pub made_opens : (K : Run) (k : ℕ) (sig : Signature) (old new : Machine) (p : Bor Pattern) (base top : ℕ) (hand : Hand) → IsRun K sig → InHand K k (data_of K.over old) (Made p base top) → Opens sig old new base top (clean p.now) hand → Holds K k (data_of K.over new) hand
made_opens K k sig old new p base top hand run h o = o K k (Made p base top) run h refl h.job

-- the same where the operator on top is known
pub op_opens : (K : Run) (k : ℕ) (sig : Signature) (old new : Machine) (p : Bor Pattern) (f : ℕ) (ps : RawTerms) (base top : ℕ) (hand : Hand) → clean p.now ≡ apply f ps → IsRun K sig → InHand K k (data_of K.over old) (Made p base top)
    → Opens sig old new base top (apply f ps) hand → Holds K k (data_of K.over new) hand
op_opens K k sig old new p f ps base top hand e run h o = made_opens K k sig old new p base top hand run h (subst (λ q. Opens sig old new base top q hand) (sym e) o)

-- an operator without axioms stands on its arguments, and so does `s_` where no numeral comes of it
pub plain_stays : (sig : Signature) (f : ℕ) (ts : RawTerms) → is_assoc sig f ≡ false → is_comm sig f ≡ false → is_successor sig f ≡ false → applied_in sig f ts ≡ apply f ts
plain_stays sig f ts n m z = sym (arguments_in_order sig f ts n z (ap (λ c. arranged c ts) m))

pub successor_stays : (sig : Signature) (f : ℕ) (ts : RawTerms) → is_assoc sig f ≡ false → is_comm sig f ≡ false → ((n : ℕ) → applied_in sig f ts ≡ numeral n → ⊥) → applied_in sig f ts ≡ apply f ts
successor_stays sig f ts n m none = whole ∙ by_shape ts (λ i e. none i (whole ∙ e))
  where
    whole : applied_in sig f ts ≡ counted (is_successor sig f) f ts
    whole = rw (n, m) refl

    by_shape : (ts : RawTerms) → ((i : ℕ) → counted (is_successor sig f) f ts ≡ numeral i → ⊥) → counted (is_successor sig f) f ts ≡ apply f ts
    by_shape nil h = refl
    by_shape (cons (numeral i) nil) h = by_test (is_successor sig f && nat_lt (suc i) (2 ^ 128)) (h (suc i))
      where
        by_test : (b : Bool) → (cond b (numeral (suc i)) (apply f (cons (numeral i) nil)) ≡ numeral (suc i) → ⊥) → cond b (numeral (suc i)) (apply f (cons (numeral i) nil)) ≡ apply f (cons (numeral i) nil)
        by_test true h = absurd (h refl)
        by_test false h = refl
    by_shape (cons (quoted q) nil) h = refl
    by_shape (cons (variable x) nil) h = refl
    by_shape (cons (apply g us) nil) h = refl
    by_shape (cons t (cons u us)) h = refl

-- an operator with other axioms
pub among_axioms : (sig : Signature) (f : ℕ) (a : Axioms) → HasAxioms sig f a → (a ≡ Plain → ⊥) → (a ≡ Successor → ⊥) → (is_assoc sig f ≡ true) ⊎ (is_successor sig f ≡ false)
among_axioms sig f Plain h p q = absurd (p refl)
among_axioms sig f Commutative h p q = inr h.2
among_axioms sig f Successor h p q = absurd (q refl)
among_axioms sig f (Associative c e) h p q = inl h.0
