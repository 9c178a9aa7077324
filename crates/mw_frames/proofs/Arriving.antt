-- Terms come to a frame: what changes of its arguments.
use Rattle.std.specs.Prelude.{◌≡◌, ◌⊎◌, ◌≤◌, ◌+◌, ◌^◌, ◌&&◌, ℕ, suc, nat_lt, nat_eq, cond, List, [], length, take, drop, Bool, true, false, is_some, refl, Option, Some, None, Result, Ok, Err, OnOk, IfSome, IfNone}
use Rattle.std.proofs.Common.{sym, subst, ap, ◌∙◌, arith, inl, inr, ⊎_elim, true≢false}
use Rattle.std.proofs.lemmas.Bool.{and_parts, eqb-true}
use denote.Ref.{Bor}
use Rattle.mw_logic.specs.Term.{RawTerm, RawTerms, numeral, quoted, variable, apply, nil, cons, join}
use Rattle.mw_logic.specs.Terms.{terms_of}
use Rattle.mw_logic.specs.Signature.{Signature, Identity, IsSuccessor}
use Rattle.mw_logic.specs.Accepted.{IsAccepted, IsWellSorted}
use Rattle.mw_logic.specs.Parts.{is_assoc, number_of_terms}
use Rattle.mw_logic.specs.TermOrder.{stands_after, insert_term, sorted_terms}
use Rattle.mw_logic.specs.NormalForm.{is_comm, identity_of, elements, flattened, rebuilt, arranged, counted, applied, applied_in}
use Rattle.mw_logic.specs.Kinds.{is_successor}
use Rattle.mw_logic.proofs.Inside.{arranged-middle}
use Rattle.mw_logic.proofs.CanonicalTerms.{elements-applied, flattened-backed}
use Rattle.mw_logic.specs.Module.{Module}
use Rattle.mw_logic.specs.Judgements.{admitted_judgements}
use Rattle.mw_logic.proofs.SortLaws.{join_assoc, sorted_terms-left, sorted_terms-right, sorted_terms-comm}
use Rattle.mw_logic.proofs.Canonical.{Each, Each-join, Each-arranged, IsElement, IsCanonical, AreCanonical, each_canonical, arranged-right, arranged-twice, arranged-one}
use Rattle.mw_position.specs.Positions.{position}
use Rattle.mw_arguments.proofs.Arguments.{in_order}
use Rattle.mw_stack.specs.Own.{own, spread, IsOrdered}
use Rattle.mw_frames.specs.declared.job.Job.{Job}
use Rattle.mw_frames.specs.declared.job.Frame.{Frame}
use Rattle.mw_frames.specs.Fair.{Stays}
use Rattle.mw_frames.specs.Jobs.{value_at, is_sure, instance_of, rest, size, sizes}
use Rattle.mw_frames.specs.State.{IsNormalHere, IsDone, HasNormalArguments, IsKnown, IsKnownIn, AreKnownIn, IsGood}
use Rattle.mw_frames.specs.Arrivals.{IsOver, spread_all, Joins, AreAdded, Comes}
use Rattle.mw_matching.specs.Matches.{evaluated_all}
use Rattle.mw_frames.proofs.PartsWaiting.{all_known, number-evaluated}
use Rattle.mw_stack.proofs.Under.{spread_alone, spread_elements}
use Rattle.mw_frames.proofs.JobOrder.{still_within}
use Rattle.mw_frames.proofs.Arguments.{spliced, spread_fits}
use Rattle.mw_frames.proofs.Normals.{normal_has, spread_done}

-- what two clauses of a call tell
pub on_ok_both : {T E A B C D G : Type 0} (r : Result T E) → (A → OnOk r B) → (C → OnOk r D) → ((A → B) → (C → D) → G) → OnOk r G
on_ok_both (Ok x) h k f = f h k
on_ok_both (Err e) h k f = tt

-- what is there, where something is
pub pieces_given : (sp : RawTerms) (f : ℕ) (t : RawTerm) (o : Option (Bor (List RawTerm))) → is_some o ≡ true → IfSome o (λ ts. sp ≡ terms_of ts.now) → IfSome o (λ ts. (ts.now ≡ []) ⊎ (t ≡ apply f (terms_of ts.now)))
    → (ts : List RawTerm) × (sp ≡ terms_of ts) × ((ts ≡ []) ⊎ (t ≡ apply f (terms_of ts)))
pieces_given sp f t None e h k = cc
pieces_given sp f t (Some ts) e h k = (ts.now, h, k)

pub none_given : {X P : Type 0} (o : Option X) → is_some o ≡ false → IfNone o P → P
none_given None e h = h
none_given (Some x) e h = cc

arranged-end : (c : Bool) (ts us ws : RawTerms) → arranged c (join ts (join us (arranged c ws))) ≡ arranged c (join ts (join us ws))
arranged-end c ts us ws =
    ap (arranged c) (sym (join_assoc ts us (arranged c ws))) ∙ arranged-right c (join ts us) ws ∙ ap (arranged c) (join_assoc ts us ws)

-- in order, what stands where doesn't matter
moved : (ts us es ws : RawTerms) → sorted_terms (join (join ts es) (join us ws)) ≡ sorted_terms (join ts (join us (join es ws)))
moved ts us es ws =
    let swapped : sorted_terms (join es (join us ws)) ≡ sorted_terms (join us (join es ws)) =
    ap sorted_terms (sym (join_assoc es us ws)) ∙ sym (sorted_terms-left (join es us) ws) ∙ ap (λ zs. sorted_terms (join zs ws)) (sorted_terms-comm es us) ∙ sorted_terms-left (join us es) ws ∙ ap sorted_terms (join_assoc us es ws) in
    ap sorted_terms (join_assoc ts es (join us ws)) ∙ sym (sorted_terms-right ts (join es (join us ws))) ∙ ap (λ zs. sorted_terms (join ts zs)) swapped ∙ sorted_terms-right ts (join us (join es ws))

-- terms of which each stays come to those that wait
pub comes_waiting : (sig : Signature) (vs : List RawTerm) (f : Frame) (c : Bool) (es : RawTerms) (J Known : Module → ℕ → Type 0) (ds : List RawTerm) (js js' : List Job) → is_comm sig f.op ≡ c → Joins sig vs c f.waits es J js js'
    → ((M : Module) (n : ℕ) → IsOver M sig → ¬ IsSuccessor sig f.op → Known M n → J M n × Each (Stays sig f.op) es) → Comes sig vs f es Known ds ds js js'
comes_waiting sig vs f c es J Known ds js js' comm j known = record {
  below = λ l. refl;
  below_jobs = j.below;
  are_added = λ M n over z l m k g. at_module M n over z l m k g (known M n over z k);
}
  where
    at_module : (M : Module) (n : ℕ) → IsOver M sig → ¬ IsSuccessor sig f.op → f.from ≤ length ds → f.waits ≤ length js → Known M n → IsGood M n vs f (terms_of (drop f.from ds)) (drop f.waits js) → J M n × Each (Stays sig f.op) es
        → AreAdded M n vs f es (terms_of (drop f.from ds)) (terms_of (drop f.from ds)) (drop f.waits js) (drop f.waits js')
    at_module M n over z l m k g (known, stays) =
        let s : Signature = M.signature in
        let o : RawTerms = terms_of (drop f.from ds) in
        let w : RawTerms = rest s vs (drop f.waits js) in
        let d : is_comm s f.op ≡ c = ap (λ t. is_comm t f.op) over.signature ∙ comm in
        let i : Joins s vs c f.waits es J js js' = subst (λ t. Joins t vs c f.waits es J js js') (sym over.signature) j in
        let r : rest s vs (drop f.waits js') ≡ arranged c (join es w) = i.order m (λ q. g.at_hand (d ∙ q)) (subst (λ b. arranged b w ≡ w) d g.jobs_order) in
        let r' : rest s vs (drop f.waits js') ≡ arranged (is_comm s f.op) (join es w) = r ∙ sym (ap (λ b. arranged b (join es w)) d) in
        let st : Each (Stays s f.op) es = subst (λ t. Each (Stays t f.op) es) (sym over.signature) stays in
        record {
          same = λ us. ap (λ zs. arranged (is_comm s f.op) (join o (join us zs))) r' ∙ arranged-end (is_comm s f.op) o us (join es w);
          good = record {
            done = g.done;
            order = g.order;
            jobs = i.known M n m known g.jobs;
            jobs_order = ap (arranged (is_comm s f.op)) r' ∙ arranged-twice (is_comm s f.op) (join es w) ∙ sym r';
            seen = subst (Each (Stays s f.op)) (sym r') (Each-arranged (Stays s f.op) (is_comm s f.op) (join es w) (Each-join (Stays s f.op) es w st g.seen));
            at_hand = λ q. i.at_hand m (g.at_hand q);
          };
        }

-- terms that are done come among the others, in order
pub comes_done : (sig : Signature) (vs : List RawTerm) (f : Frame) (es : RawTerms) (Known : Module → ℕ → Type 0) (ds ds' : List RawTerm) (js : List Job) → is_comm sig f.op ≡ true → (f.from ≤ length ds → take f.from ds' ≡ take f.from ds)
    → (f.from ≤ length ds → IsOrdered sig f.op (own f.from ds) → IsOrdered sig f.op es → own f.from ds' ≡ arranged (is_comm sig f.op) (join (own f.from ds) es))
    → ((M : Module) (n : ℕ) → IsOver M sig → Known M n → Each (IsDone M n f.op) es × IsOrdered sig f.op es) → Comes sig vs f es Known ds ds' js js
comes_done sig vs f es Known ds ds' js comm below put known = record {
  below = below;
  below_jobs = λ l. refl;
  are_added = λ M n over z l m k g. at_module M n over l g (known M n over k);
}
  where
    at_module : (M : Module) (n : ℕ) → IsOver M sig → f.from ≤ length ds → IsGood M n vs f (terms_of (drop f.from ds)) (drop f.waits js) → Each (IsDone M n f.op) es × IsOrdered sig f.op es
        → AreAdded M n vs f es (terms_of (drop f.from ds)) (terms_of (drop f.from ds')) (drop f.waits js) (drop f.waits js)
    at_module M n over l g (done, order) =
        let s : Signature = M.signature in
        let o : RawTerms = terms_of (drop f.from ds) in
        let w : RawTerms = rest s vs (drop f.waits js) in
        let d : is_comm s f.op ≡ true = ap (λ t. is_comm t f.op) over.signature ∙ comm in
        let p : own f.from ds' ≡ sorted_terms (join o es) = put l (subst (λ t. IsOrdered t f.op o) over.signature g.order) order ∙ ap (λ b. arranged b (join o es)) comm in
        record {
          same = λ us.
              ap (λ b. arranged b (join (own f.from ds') (join us w))) d ∙ ap (λ zs. sorted_terms (join zs (join us w))) p ∙ sorted_terms-left (join o es) (join us w) ∙ moved o us es w ∙ sym (ap (λ b. arranged b (join o (join us (join es w)))) d);
          good = record {
            done = subst (Each (IsDone M n f.op)) (sym p) (Each-arranged (IsDone M n f.op) true (join o es) (Each-join (IsDone M n f.op) o es g.done done));
            order = ap (λ b. arranged b (own f.from ds')) d ∙ ap sorted_terms p ∙ arranged-twice true (join o es) ∙ sym p;
            jobs = g.jobs;
            jobs_order = g.jobs_order;
            seen = g.seen;
            at_hand = g.at_hand;
          };
        }

module _ (sig : Signature) (ok : IsAccepted sig) (f : ℕ) where
  -- what a canonical term is under an operator is in order, and stays there
  pub spread_order : (t : RawTerm) → IsCanonical sig t → IsOrdered sig f (spread sig f t)
  spread_order t k = by_assoc (is_assoc sig f) refl
    where
      by_assoc : (b : Bool) → is_assoc sig f ≡ b → IsOrdered sig f (spread sig f t)
      by_assoc true h = rw h (in_order sig ok f h t k)
      by_assoc false h = rw h (arranged-one (is_comm sig f) t)

  stays_each : (es : RawTerms) → (IsSuccessor sig f → ⊥) → (is_assoc sig f ≡ true → Each (IsElement (identity_of sig f) f) es) → Each (Stays sig f) es
  stays_each nil z e = tt
  stays_each (cons t es) z e = (record { element = λ a. (e a).0; seen = λ h. z h.successor }, stays_each es z (λ a. (e a).1))

  pub spread_stays : (t : RawTerm) → IsCanonical sig t → ¬ IsSuccessor sig f → Each (Stays sig f) (spread sig f t)
  spread_stays t k z = stays_each (spread sig f t) z (spread_fits sig ok f t k).1

-- values: normal where they are sure, and else over normal arguments
module _ (M : Module) (n : ℕ) (ok : IsAccepted M.signature) (sorted : IsWellSorted M.signature) (top : ℕ) (t : RawTerm) (k : IsKnown M n top t) where
  pub sure_normal : is_sure top t ≡ true → IsNormalHere M n t
  sure_normal e = ⊎_elim (λ h. h) (λ h. absurd (true≢false (sym e ∙ h.1))) k.known

  pub known_arguments : HasNormalArguments M n t
  known_arguments = ⊎_elim (λ h. normal_has M ok sorted (admitted_judgements M n).Fails t k.canonical h) (λ h. h.0) k.known

  pub sure_done : (f : ℕ) → is_sure top t ≡ true → Each (IsDone M n f) (spread M.signature f t)
  sure_done f e = spread_done M ok sorted (admitted_judgements M n).Fails f t known_arguments (inl (sure_normal e)) (λ q. inl (sure_normal e))

  -- its own arguments
  pub pieces_normal : (f : ℕ) (ts : List RawTerm) → (ts ≡ []) ⊎ (t ≡ apply f (terms_of ts)) → Each (IsNormalHere M n) (terms_of ts)
  pieces_normal f ts (inl e) = subst (λ us. Each (IsNormalHere M n) (terms_of us)) (sym e) tt
  pieces_normal f ts (inr e) = known_arguments f (terms_of ts) e

  all_done : (f : ℕ) (ts : RawTerms) → Each (IsNormalHere M n) ts → Each (IsDone M n f) ts
  all_done f nil h = tt
  all_done f (cons u us) h = (inl h.0, all_done f us h.1)

  pub pieces_done : (f : ℕ) (ts : List RawTerm) → (ts ≡ []) ⊎ (t ≡ apply f (terms_of ts)) → spread M.signature f t ≡ terms_of ts → Each (IsDone M n f) (spread M.signature f t)
  pieces_done f ts o e = subst (Each (IsDone M n f)) (sym e) (all_done f (terms_of ts) (pieces_normal f ts o))

-- so a term's elements, or the term, come to those that wait
pub term_waits : (sig : Signature) (vs : List RawTerm) (f : Frame) (c : Bool) (t : RawTerm) (es : RawTerms) (J Known : Module → ℕ → Type 0) (ds : List RawTerm) (js js' : List Job) → is_comm sig f.op ≡ c → spread sig f.op t ≡ es
    → ((M : Module) (n : ℕ) → IsOver M sig → Known M n → J M n × IsCanonical M.signature t) → Joins sig vs c f.waits es J js js' → Comes sig vs f (spread sig f.op t) Known ds ds js js'
term_waits sig vs f c t es J Known ds js js' comm e known j =
    comes_waiting sig vs f c (spread sig f.op t) J Known ds js js' comm (subst (λ us. Joins sig vs c f.waits us J js js') (sym e) j)
    (λ M n over z k.
    let (a, b) = known M n over k in
    (a, subst (λ s. (IsSuccessor s f.op → ⊥) → Each (Stays s f.op) (spread s f.op t)) over.signature (spread_stays M.signature over.accepted f.op t b) z))

-- or, where they are done, to these
pub term_settles : {T E : Type 0} (r : Result T E) (sig : Signature) (vs : List RawTerm) (f : Frame) (t : RawTerm) (Known : Module → ℕ → Type 0) (ds ds' : List RawTerm) (js : List Job) → is_comm sig f.op ≡ true
    → (f.from ≤ length ds → OnOk r (take f.from ds' ≡ take f.from ds))
    → (f.from ≤ length ds → IsOrdered sig f.op (own f.from ds) → IsOrdered sig f.op (spread sig f.op t) → OnOk r (own f.from ds' ≡ arranged (is_comm sig f.op) (join (own f.from ds) (spread sig f.op t))))
    → ((M : Module) (n : ℕ) → IsOver M sig → Known M n → Each (IsDone M n f.op) (spread M.signature f.op t) × IsCanonical M.signature t) → OnOk r (Comes sig vs f (spread sig f.op t) Known ds ds' js js)
term_settles {T} {E} r sig vs f t Known ds ds' js comm below put known =
    on_ok_both {C = (f.from ≤ length ds) × IsOrdered sig f.op (own f.from ds) × IsOrdered sig f.op (spread sig f.op t)} r below (λ q. put q.0 q.1 q.2)
    (λ b p.
    comes_done sig vs f (spread sig f.op t) Known ds ds' js comm b (λ l o q. p (l, o, q))
    (λ M n over k.
    let (a, d) = known M n over k in (
      subst (λ s. Each (IsDone M n f.op) (spread s f.op t)) over.signature a,
      subst (λ s. IsOrdered s f.op (spread s f.op t)) over.signature (spread_order M.signature over.accepted f.op t d),
    )))

-- a value comes as the variable's instance
pub value_comes : (sig : Signature) (vs : List RawTerm) (f : Frame) (base top i : ℕ) (p t : RawTerm) (ds ds' : List RawTerm) (js js' : List Job) → p ≡ variable (position i) → t ≡ value_at vs base i
    → Comes sig vs f (spread sig f.op t) (λ M n. IsKnown M n top t) ds ds' js js' → Comes sig vs f (spread sig f.op (instance_of sig vs p base)) (λ M n. IsKnownIn M n vs base top p) ds ds' js js'
value_comes sig vs f base top i p t ds ds' js js' e v h =
    subst (λ q. Comes sig vs f (spread sig f.op (instance_of sig vs q base)) (λ M n. IsKnownIn M n vs base top q) ds ds' js js') (sym e)
    (subst (λ u. Comes sig vs f (spread sig f.op u) (λ M n. IsKnown M n top u) ds ds' js js') v h)

pub value_instance : (sig : Signature) (vs : List RawTerm) (base i : ℕ) (p t : RawTerm) → p ≡ variable (position i) → t ≡ value_at vs base i → t ≡ instance_of sig vs p base
value_instance sig vs base i p t e v = v ∙ sym (ap (λ q. instance_of sig vs q base) e)

-- some come, and then others
pub comes_then : (sig : Signature) (vs : List RawTerm) (f : Frame) (es us : RawTerms) (J K L : Module → ℕ → Type 0) (ds ds' ds'' : List RawTerm) (js js' js'' : List Job) → ((M : Module) (n : ℕ) → L M n → J M n)
    → ((M : Module) (n : ℕ) → L M n → K M n) → Comes sig vs f es J ds ds' js js' → Comes sig vs f us K ds' ds'' js' js'' → Comes sig vs f (join us es) L ds ds'' js js''
comes_then sig vs f es us J K L ds ds' ds'' js js' js'' p q h k = record {
  below = λ l. k.below (still_within f.from ds ds' (h.below l) l) ∙ h.below l;
  below_jobs = λ l. k.below_jobs (still_within f.waits js js' (h.below_jobs l) l) ∙ h.below_jobs l;
  are_added = λ M n over z l m o g.
      let c : Bool = is_comm M.signature f.op in
      let a = h.are_added M n over z l m (p M n o) g in
      let b = k.are_added M n over z (still_within f.from ds ds' (h.below l) l) (still_within f.waits js js' (h.below_jobs m) m) (q M n o) a.good in
      let s : Signature = M.signature in
      let w : RawTerms = rest s vs (drop f.waits js) in
      record {
        same = λ vs'.
            b.same vs' ∙ ap (λ zs. arranged c (join (terms_of (drop f.from ds')) zs)) (sym (join_assoc vs' us (rest s vs (drop f.waits js')))) ∙ a.same (join vs' us)
            ∙ ap (λ zs. arranged c (join (terms_of (drop f.from ds)) zs)) (join_assoc vs' us (join es w) ∙ ap (join vs') (sym (join_assoc us es w)));
        good = b.good;
      };
}

-- The same terms in order may come for others.
pub comes_arranged : (sig : Signature) (vs : List RawTerm) (f : Frame) (es us : RawTerms) (J Known : Module → ℕ → Type 0) (ds ds' : List RawTerm) (js js' : List Job)
    → ((M : Module) (n : ℕ) → IsOver M sig → Known M n → J M n × (us ≡ arranged (is_comm M.signature f.op) es)) → Comes sig vs f es J ds ds' js js' → Comes sig vs f us Known ds ds' js js'
comes_arranged sig vs f es us J Known ds ds' js js' known h = record {
  below = h.below;
  below_jobs = h.below_jobs;
  are_added = λ M n over z l m o g.
      let (j, e) = known M n over o in
      let c : Bool = is_comm M.signature f.op in
      let a = h.are_added M n over z l m j g in
      let own : RawTerms = terms_of (drop f.from ds) in
      let w : RawTerms = rest M.signature vs (drop f.waits js) in
      record {
        same = λ zs.
            a.same zs ∙ ap (arranged c) (sym (join_assoc own zs (join es w))) ∙ sym (arranged-middle c (join own zs) es w) ∙ ap (arranged c) (join_assoc own zs (join (arranged c es) w))
            ∙ ap (λ ys. arranged c (join own (join zs (join ys w)))) (sym e);
        good = a.good;
      };
}

module _ (sig : Signature) (f : ℕ) where
  pub spread_flattened : is_assoc sig f ≡ true → (ts : RawTerms) → spread_all sig f ts ≡ flattened (identity_of sig f) f ts
  spread_flattened h nil = refl
  spread_flattened h (cons t ts) = ap (λ b. join b (spread_all sig f ts)) (spread_elements sig f t (identity_of sig f) h refl) ∙ ap (join (elements (identity_of sig f) f t)) (spread_flattened h ts)

  pub spread_same : is_assoc sig f ≡ false → (ts : RawTerms) → spread_all sig f ts ≡ ts
  spread_same h nil = refl
  spread_same h (cons t ts) = ap (λ b. join b (spread_all sig f ts)) (spread_alone sig f t h) ∙ ap (cons t) (spread_same h ts)

  -- what the operator gives on some terms has their elements, in order
  pub spread_applied : IsAccepted sig → is_assoc sig f ≡ true → (ts : RawTerms) → 1 ≤ number_of_terms ts → AreCanonical sig ts → spread sig f (applied_in sig f ts) ≡ arranged (is_comm sig f) (spread_all sig f ts)
  spread_applied ok h nil l k = absurd (omega (arith, l))
  spread_applied ok h (cons t ts) l k =
      spread_elements sig f (applied_in sig f (cons t ts)) (identity_of sig f) h refl ∙ elements-applied sig ok f h (cons t ts) k (flattened-backed sig ok (identity_of sig f) f t ts)
      ∙ sym (ap (arranged (is_comm sig f)) (spread_flattened h (cons t ts)))

  -- the operator stands on the elements
  pub all_spliced : IsAccepted sig → (b ts : RawTerms) → AreCanonical sig ts → applied_in sig f (join b ts) ≡ applied_in sig f (join b (spread_all sig f ts))
  all_spliced ok b nil k = refl
  all_spliced ok b (cons t ts) k =
      spliced sig ok f b t ts k.0 ∙ ap (applied_in sig f) (sym (join_assoc b (spread sig f t) ts)) ∙ all_spliced ok (join b (spread sig f t)) ts k.1
      ∙ ap (applied_in sig f) (join_assoc b (spread sig f t) (spread_all sig f ts))

  pub all_fit : IsAccepted sig → (ts : RawTerms) → AreCanonical sig ts → Each (IsCanonical sig) (spread_all sig f ts) × (is_assoc sig f ≡ true → Each (IsElement (identity_of sig f) f) (spread_all sig f ts))
  all_fit ok nil k = (tt, λ h. tt)
  all_fit ok (cons t ts) k =
      let a = spread_fits sig ok f t k.0 in
      let b = all_fit ok ts k.1 in (
        Each-join (IsCanonical sig) (spread sig f t) (spread_all sig f ts) (each_canonical sig _ a.0) b.0,
        λ h. Each-join (IsElement (identity_of sig f) f) (spread sig f t) (spread_all sig f ts) (a.1 h) (b.1 h),
      )

-- sizes
sizes-insert : (t : RawTerm) (us : RawTerms) → sizes (insert_term t us) ≡ size t + sizes us
sizes-insert t nil = refl
sizes-insert t (cons u us) = by_test (stands_after t u) (sizes-insert t us)
  where
    by_test : (b : Bool) → sizes (insert_term t us) ≡ size t + sizes us → sizes (cond b (cons u (insert_term t us)) (cons t (cons u us))) ≡ size t + (size u + sizes us)
    by_test true h = omega (arith, h)
    by_test false h = refl

sizes-arranged : (c : Bool) (ts : RawTerms) → sizes (arranged c ts) ≡ sizes ts
sizes-arranged false ts = refl
sizes-arranged true nil = refl
sizes-arranged true (cons t ts) = let h = sizes-insert t (sorted_terms ts) in let k = sizes-arranged true ts in omega (arith, h, k)

sizes-rebuilt : (e : Option Identity) (f : ℕ) (ts : RawTerms) → sizes ts ≤ size (rebuilt e f ts)
sizes-rebuilt e f nil = omega arith
sizes-rebuilt e f (cons t nil) = omega arith
sizes-rebuilt e f (cons t (cons u us)) = omega arith

sizes-counted : (s : Bool) (f : ℕ) (ts : RawTerms) → sizes ts ≤ size (counted s f ts)
sizes-counted s f nil = omega arith
sizes-counted s f (cons (numeral n) nil) = by_test (s && nat_lt (suc n) (2 ^ 128))
  where
    by_test : (b : Bool) → 5 + 0 ≤ size (cond b (numeral (suc n)) (apply f (cons (numeral n) nil)))
    by_test true = omega arith
    by_test false = omega arith
sizes-counted s f (cons (quoted q) nil) = omega arith
sizes-counted s f (cons (variable x) nil) = omega arith
sizes-counted s f (cons (apply g ts) nil) = omega arith
sizes-counted s f (cons t (cons u us)) = omega arith

-- what an operator gives is no smaller than all that its arguments are under it
pub sizes-spread : (sig : Signature) (f : ℕ) (ts : RawTerms) → sizes (spread_all sig f ts) ≤ size (applied_in sig f ts)
sizes-spread sig f ts = by_assoc (is_assoc sig f) refl
  where
    by_assoc : (b : Bool) → is_assoc sig f ≡ b → sizes (spread_all sig f ts) ≤ size (applied b (is_comm sig f) (is_successor sig f) (identity_of sig f) f ts)
    by_assoc true h =
        let F : RawTerms = flattened (identity_of sig f) f ts in
        let a = ap sizes (spread_flattened sig f h ts) in
        let b = sizes-arranged (is_comm sig f) F in
        let d = sizes-rebuilt (identity_of sig f) f (arranged (is_comm sig f) F) in omega (arith, a, b, d)
    by_assoc false h =
        let a = ap sizes (spread_same sig f h ts) in
        let b = sizes-arranged (is_comm sig f) ts in
        let d = sizes-counted (is_successor sig f) f (arranged (is_comm sig f) ts) in omega (arith, a, b, d)

pub sizes-join : (ts us : RawTerms) → sizes (join ts us) ≡ sizes ts + sizes us
sizes-join nil us = omega arith
sizes-join (cons t ts) us = let h = sizes-join ts us in omega (arith, h)

-- the parts of an associative operator under itself come as what it is on them
pub parts_come : (sig : Signature) (vs : List RawTerm) (f : Frame) (g base top : ℕ) (p : RawTerm) (ps : RawTerms) (ds ds' : List RawTerm) (js js' : List Job) → (nat_eq f.op g && is_assoc sig f.op) ≡ true → p ≡ apply g ps
    → Comes sig vs f (spread_all sig f.op (evaluated_all sig (drop base vs) ps)) (λ M n. AreKnownIn M n vs base top ps) ds ds' js js' → Comes sig vs f (spread sig f.op (instance_of sig vs p base)) (λ M n. IsKnownIn M n vs base top p) ds ds' js js'
parts_come sig vs f g base top p ps ds ds' js js' test e h =
    let (q, a) = and_parts _ _ test in
    let to : f.op ≡ g = eqb-true f.op g q in
    subst (λ r. Comes sig vs f (spread sig f.op (instance_of sig vs r base)) (λ M n. IsKnownIn M n vs base top r) ds ds' js js') (ap (λ i. apply i ps) to ∙ sym e)
    (comes_arranged sig vs f (spread_all sig f.op (evaluated_all sig (drop base vs) ps)) (spread sig f.op (applied_in sig f.op (evaluated_all sig (drop base vs) ps))) (λ M n. AreKnownIn M n vs base top ps)
    (λ M n. IsKnownIn M n vs base top (apply f.op ps)) ds ds' js js'
    (λ M n over k.
    let s : Signature = M.signature in
    let assoc : is_assoc s f.op ≡ true = ap (λ t. is_assoc t f.op) over.signature ∙ a in
    let l = k.0.arity.some assoc in
    let m = number-evaluated s (drop base vs) ps in
    let z : spread s f.op (applied_in s f.op (evaluated_all s (drop base vs) ps)) ≡ arranged (is_comm s f.op) (spread_all s f.op (evaluated_all s (drop base vs) ps)) =
    spread_applied s f.op over.accepted assoc (evaluated_all s (drop base vs) ps) (omega (arith, l, m)) (all_known M n over.accepted vs base top ps k.1) in
    (k.1, subst (λ t. spread t f.op (applied_in t f.op (evaluated_all t (drop base vs) ps)) ≡ arranged (is_comm s f.op) (spread_all t f.op (evaluated_all t (drop base vs) ps))) over.signature z)) h)
