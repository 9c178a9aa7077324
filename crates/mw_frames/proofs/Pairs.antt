-- A row is met at the first two of several arguments of the term in hand, and what comes of it comes among the others.
use Rattle.std.specs.Prelude.{◌≡◌, ◌≤◌, ◌<◌, ◌+◌, ◌&&◌, ℕ, suc, List, [], ◌∷◌, ◌++◌, length, take, drop, true, false, None, Bool, cond, max, refl}
use Rattle.std.proofs.Common.{sym, subst, ap, ◌∙◌, arith, inl, inr, ⊎_elim}
use Rattle.std.proofs.lemmas.Bool.{both_ways, cases_lt}
use Rattle.std.proofs.lemmas.List.{append-nil}
use Rattle.std.proofs.Math.Seq.{drop-append_seam, take-append_seam}
use Rattle.mw_logic.specs.Term.{RawTerm, RawTerms, numeral, apply, nil, cons, join}
use Rattle.mw_logic.specs.Terms.{terms_of, list_of}
use Rattle.mw_logic.specs.Signature.{Signature}
use Rattle.mw_logic.specs.CanonicalPart.{AreSeveral}
use Rattle.mw_logic.specs.TermOrder.{sorted_terms}
use Rattle.mw_logic.specs.Parts.{nested, continues}
use Rattle.mw_logic.specs.NormalForm.{is_comm, identity_of, is_identity, elements, arranged, applied_in, height, highest, is_largest, has_largest}
use Rattle.mw_logic.proofs.Canonical.{Each, IsElement, assoc_operator}
use Rattle.mw_logic.proofs.CanonicalTerms.{fixed, not_successor}
use Rattle.mw_logic.proofs.Inside.{raw_inside}
use Rattle.mw_logic.proofs.Soundness.{several-arranged, rebuilt-several}
use Rattle.mw_logic.proofs.SortLaws.{sorted_terms-comm}
use Rattle.mw_canon.proofs.Ordered.{elements_in_order}
use Rattle.mw_arguments.specs.Places.{Takes}
use Rattle.mw_position.proofs.Grounded.{part_ground}
use Rattle.mw_stack.specs.Hidden.{IsHidden}
use Rattle.mw_stack.specs.Own.{spread}
use Rattle.mw_stack.proofs.Under.{spread_elements}
use Rattle.mw_deduction.specs.Standing.{round}
use Rattle.mw_deduction.specs.Replay.{Move, among, meets, Leaves}
use Rattle.mw_deduction.proofs.Depths.{added}
use Rattle.mw_frames.specs.declared.job.Job.TheVariants.{Walk, Try, Normal}
use Rattle.mw_frames.specs.declared.job.Job.{Job}
use Rattle.mw_frames.specs.declared.job.Frame.{Frame}
use Rattle.mw_frames.specs.State.{Run, Data, IsRun, InHand, Settled, HasNormalArguments}
use Rattle.mw_frames.specs.Steps.{IsAsked}
use Rattle.mw_frames.specs.Redex.{IsSeenIn, hole_level, walked, MayCome, MayMeetRow}
use Rattle.mw_frames.specs.Taking.{IsLeft}
use Rattle.mw_frames.specs.Pairs.{IsJoining, IsPairMet}
use Rattle.mw_frames.proofs.Asking.{asked_rests}
use Rattle.mw_frames.proofs.FiringHere.{at_it, small_here, deep_here}
use Rattle.mw_frames.proofs.FiringPart.{same_data}
use Rattle.mw_frames.proofs.HoleDepths.{height-positive}
use Rattle.mw_frames.proofs.HoleFits.{assoc_not_successor, stays_here}
use Rattle.mw_frames.proofs.Larger.{grows_is}
use Rattle.mw_frames.proofs.LeftOver.{terms_of-list_of}
use Rattle.mw_frames.proofs.RowsMet.{meets_so}
use Rattle.mw_frames.proofs.TakingPart.{takes, several_seen}
use Rattle.mw_frames.proofs.Turning.{leaves, finishes, normal_leaves, own_fair}

-- what is in hand, and seen, has no more than 1,000 levels where it stands
low_there : (K : Run) (sig : Signature) → IsRun K sig → (count : ℕ) (m : Data) (w : RawTerm) → InHand K count m (Walk w) → IsSeenIn K.over.signature m.frames w
    → hole_level K.over.signature m.frames w + height w ≤ 1000
low_there K sig run count m w h seen =
    let here : Signature = K.over.signature in
    let at = at_it K sig run count m w h in
    let C = round here h.stand.opens in
    let v : RawTerm = nested here w in
    let comes : MayCome here w v = record { raw = raw_inside here run.accepted C v at.raw; is_ground = part_ground C v at.admitted.ground; kinds = λ L k. k } in
    ⊎_elim (λ l. absurd (at.admitted.not_deep (deep_here K sig run count m w h seen v comes (subst (λ u. 1000 < hole_level here m.frames u + height u) (sym (fixed here run.accepted w at.canonical)) l)))) (λ l. l)
    (cases_lt 1000 (hole_level here m.frames w + height w))

-- the operator on top alone tells the level
level_alone : (sig : Signature) (fs : List Frame) (f : ℕ) (ts : RawTerms) → hole_level sig fs (apply f ts) ≡ hole_level sig fs (apply f nil)
level_alone sig [] f ts = refl
level_alone sig (g ∷ fs) f ts = refl

module _ (K : Run) (sig : Signature) (run : IsRun K sig) (k : ℕ) (d : Data) (f : ℕ) (x y z : RawTerm) (zs : RawTerms) (joins : IsJoining K.over.signature f) (asked : IsAsked K k d (apply f (cons x (cons y (cons z zs))))) where
  abbrev here : Signature
  here = K.over.signature

  abbrev args : RawTerms
  args = cons x (cons y (cons z zs))

  -- the two arguments
  abbrev pair : RawTerm
  pair = apply f (cons x (cons y nil))

  abbrev others : List RawTerm
  others = list_of (cons z zs)

  abbrev frame : Frame
  frame = record { op = f; level = hole_level here d.frames (apply f nil); from = length d.done; waits = length d.jobs }

  -- the others stand round them
  abbrev inside : Data
  inside = record { frames = frame ∷ d.frames; done = d.done ++ others; jobs = d.jobs ++ []; values = d.values; moves = d.moves ++ among (1 ∷ 2 ∷ []) ∷ [] }

  abbrev two_taken : Takes here (1 ∷ 2 ∷ []) (apply f args) pair
  two_taken =
      let (o, there, assoc) = assoc_operator here f joins.assoc in
      record {
        operator = f;
        args = args;
        term = refl;
        assoc = record { operator = o; is_there = there; assoc = assoc };
        rise = (omega arith, omega arith, (omega arith, omega arith, tt));
        several = tt;
        follow = λ c. (refl, tt);
        part = refl;
      }

  two_left : IsLeft here f (1 ∷ 2 ∷ []) args others []
  two_left = record { behind = []; jobs = refl; together = λ c. (terms_of-list_of (cons z zs), refl); apart = λ c. absurd (both_ways _ c joins.comm) }

  pair_inside : IsAsked K k inside pair
  pair_inside =
      let (i, seen, same, opens) = takes K sig run k d.values d.moves d.frames d.done d.jobs (apply f args) pair asked.holds (1 ∷ 2 ∷ []) two_taken (omega arith) frame refl refl refl refl others [] two_left in
      record { holds = i; seen = seen }

  -- What comes of it there.
  module _ (to : RawTerm) (met : IsPairMet K f x y to) where
    alone : spread here f to ≡ cons to nil
    alone = spread_elements here f to None joins.assoc joins.whole ∙ subst (λ u. elements None f u ≡ cons u nil) (sym met.gives) refl

    -- all arguments, in order
    abbrev after : RawTerms
    after = sorted_terms (cons to (cons z zs))

    row_low : hole_level here inside.frames to + height to ≤ 1000
    row_low =
        let l = low_there K sig run k d (apply f args) (walked K k d (apply f args) asked.holds) asked.seen in
        let e = level_alone here d.frames f args in
        let h = height-positive x in
        levels (added here f to) (hole_level here d.frames (apply f nil)) (height x) (highest (cons y (cons z zs))) _ _ l e h (one_at_most (continues here f to)) (ap height met.gives)
      where
        one_at_most : (b : Bool) → cond {A = ℕ} b 0 1 ≤ 1
        one_at_most true = omega arith
        one_at_most false = omega arith

        levels : (a l h m L n : ℕ) → L + (1 + max h m) ≤ 1000 → L ≡ l → 1 ≤ h → a ≤ 1 → n ≡ 1 → a + l + n ≤ 1000
        levels a l h m L n p q r s t = omega (arith, p, q, r, s, t)

    meets_pair : MayMeetRow K k inside pair to
    meets_pair =
        let i = walked K k inside pair pair_inside.holds in
        let (clear, small, own) = small_here K sig run k inside pair i in
        let os = i.stand.opens in
        let grown = stays_here here run.accepted inside.values frame inside.frames d.frames inside.done inside.jobs to refl os clear i.opened (ap (λ b. b && is_largest (cons to nil)) (assoc_not_successor here run.accepted f joins.assoc))
        (drop frame.from inside.done) (drop frame.waits inside.jobs) refl refl (inr (inl (joins.assoc, ap (λ e. is_identity e to) joins.whole))) in
        record {
          row = met.row;
          stands = record { in_hand = i; seen = pair_inside.seen; low = row_low; small = grows_is here run.accepted os to small (ap (has_largest here) met.gives) ∙ sym grown };
        }

    no_arguments : HasNormalArguments K.over K.rank to
    no_arguments g ts e = let q : numeral met.number ≡ apply g ts = sym met.gives ∙ e in cc

    to_seen : ¬ IsHidden here f to
    to_seen (inl h) = both_ways _ (ap (λ e. is_identity e to) joins.whole) h.1
    to_seen (inr h) = not_successor here run.accepted f joins.assoc h.successor

    -- Out of the hole: what came stands in order among the others.
    pub pair_met : (n : Data) (ms : List Move) → n.frames ≡ d.frames → n.done ≡ d.done → n.jobs ≡ d.jobs → n.values ≡ d.values ++ to ∷ [] → ms ≡ inside.moves ++ meets to ∷ [] → Leaves ms n.moves → IsAsked K (suc k) n (apply f after)
    pair_met n ms ef ed ej ev em lv =
        let vs : List RawTerm = d.values ++ to ∷ [] in
        let xs : List Job = inside.jobs in
        let rowed : Data = record { frames = inside.frames; done = inside.done; jobs = xs; values = vs; moves = ms } in
        let tried : InHand K (suc k) rowed (Try to) = meets_so K sig run k inside rowed pair to meets_pair refl refl refl refl em (Try to) refl no_arguments in
        let h : InHand K (suc k) rowed (Normal to) = asked_rests K sig run (suc k) rowed to (record { holds = tried; seen = to_seen }) met.nothing in
        let ds : List RawTerm = d.done ++ list_of after in
        let here_is : terms_of (drop frame.from ds) ≡ after = ap terms_of (drop-append_seam d.done (list_of after)) ∙ terms_of-list_of after in
        let others_are : terms_of (drop frame.from inside.done) ≡ cons z zs = ap terms_of (drop-append_seam d.done others) ∙ terms_of-list_of (cons z zs) in
        let put : terms_of (drop frame.from ds) ≡ arranged (is_comm here f) (join (terms_of (drop frame.from inside.done)) (spread here f to)) =
        here_is ∙ sorted_terms-comm (cons to nil) (cons z zs) ∙ sym (rw (joins.comm, others_are, alone) refl) in
        let s : Settled K (suc k) (record { frames = d.frames; done = ds; jobs = xs; values = vs; moves = n.moves }) frame =
        leaves K run.accepted run.sorted (suc k) vs ms n.moves frame d.frames inside.done ds xs (Normal to) run.start h lv (take-append_seam d.done (list_of after) ∙ sym (take-append_seam d.done others)) put
        (normal_leaves K run.accepted run.sorted (suc k) rowed to run.start h f) in
        let none : length xs ≤ frame.waits = let e = ap length (append-nil d.jobs) in omega (arith, e) in
        let (canonical, elements, order) = own_fair K run.accepted run.sorted (suc k) vs n.moves frame d.frames ds xs s none in
        let es = subst (Each (IsElement (identity_of here f) f)) here_is (elements joins.assoc) in
        let o : arranged (is_comm here f) after ≡ after = subst (λ us. arranged (is_comm here f) us ≡ us) here_is order in
        let several : AreSeveral after = several-arranged true (cons to (cons z zs)) tt in
        let is : apply f after ≡ applied_in here f (terms_of (drop frame.from ds)) =
        sym (rebuilt-several (identity_of here f) f after several) ∙ elements_in_order here f after joins.assoc es o ∙ ap (applied_in here f) (sym here_is) in
        let i = finishes K run.accepted run.sorted (suc k) vs n.moves frame d.frames ds xs (apply f after) s none is in
        let e = same_data _ n ef (ed ∙ sym (take-append_seam d.done (list_of after))) (ej ∙ sym (append-nil d.jobs)) ev refl in
        let there : IsAsked K (suc k) (record { frames = d.frames; done = take frame.from ds; jobs = xs; values = vs; moves = n.moves }) (apply f after) = record { holds = i; seen = seen_by d.frames several } in
        subst (λ m. IsAsked K (suc k) m (apply f after)) (sym e) there
      where
        seen_by : (fs : List Frame) → AreSeveral after → IsSeenIn here fs (apply f after)
        seen_by [] l = tt
        seen_by (g ∷ fs) l = several_seen K sig run (suc k) g.op f after l

-- The two, which stand alone, are in hand.
pub pair_asked : (K : Run) (sig : Signature) → IsRun K sig → (k : ℕ) (d : Data) (f : ℕ) (x y z : RawTerm) (zs : RawTerms) → IsJoining K.over.signature f → IsAsked K k d (apply f (cons x (cons y (cons z zs))))
    → (d' : Data) × IsAsked K k d' (apply f (cons x (cons y nil)))
pair_asked K sig run k d f x y z zs joins asked = (inside K sig run k d f x y z zs joins asked, pair_inside K sig run k d f x y z zs joins asked)
