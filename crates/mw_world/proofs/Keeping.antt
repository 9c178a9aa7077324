-- Each event keeps a pool sound.
use Rattle.std.proofs.Common.{arith, suc, zero, ◌≡◌, ◌≢◌, ◌≤◌, ℕ, ◌+◌, ◌-◌, List, [], ◌∷◌, ◌++◌, Option, None, Some, refl, sym, ◌∙◌, ap, subst, inl, inr, IsPermutation}
use Rattle.std.specs.Prelude.{pred, option_map}
use Rattle.std.proofs.lemmas.Bool.Decides.{eqb_tells}
use Rattle.std.proofs.lemmas.List.{append_assoc}
use Rattle.std.proofs.lemmas.List.Sorted.{IsPermutation-refl, IsPermutation-sym, IsPermutation-trans, IsPermutation-append_left, IsPermutation-append_right}
use Rattle.mw_logic.specs.Term.{RawTerm}
use Rattle.mw_logic.specs.Signature.{Signature, Member}
use Rattle.mw_logic.specs.Module.{Module}
use Rattle.mw_logic.specs.Proof.{rules, steps}
use Rattle.mw_proof.specs.Deductions.{Deduction}
use Rattle.mw_canon.specs.Canonical.{IsAdmittedTerm}
use Rattle.mw_multiset.specs.Together.{parts, IsOfMultisets, IsShallow}
use Rattle.mw_world.specs.World.{Claim, World, claim_at, claimed, open_count, rules_of, steps_of, Leads, IsReceipt, AreReceipts, IsClaim, AddsUp, HasFailed, IsSound}
use Rattle.mw_world.specs.Events.{IsSamePool, OthersStay, Claims, Gives, Releases, Event, IsRun, AllSound}
use Rattle.mw_world.proofs.Slots.{front_over, total_opened, claimed_opened}

leads_moved : (sig : Signature) (f : ℕ) (xs : List RawTerm) (ds : List Deduction) (ys zs : List RawTerm) → IsPermutation ys zs → Leads sig f xs ds ys → Leads sig f xs ds zs
leads_moved sig f xs [] ys zs p r = IsPermutation-trans xs ys zs r p
leads_moved sig f xs (d ∷ ds) ys zs p r = (r.0, r.1, leads_moved sig f (parts sig f d.to ++ r.0) ds ys zs p r.2)

leads_more : (sig : Signature) (f : ℕ) (xs : List RawTerm) (ds : List Deduction) (ys : List RawTerm) (d : Deduction) (rest : List RawTerm) → Leads sig f xs ds ys → IsPermutation ys (parts sig f d.from ++ rest)
    → Leads sig f xs (ds ++ d ∷ []) (parts sig f d.to ++ rest)
leads_more sig f xs [] ys d rest r p = (rest, IsPermutation-trans xs ys (parts sig f d.from ++ rest) r p, IsPermutation-refl (parts sig f d.to ++ rest))
leads_more sig f xs (e ∷ ds) ys d rest r p = (r.0, r.1, leads_more sig f (parts sig f e.to ++ r.0) ds ys d rest r.2 p)

rules-append : (ds : List Deduction) (d : Deduction) → rules_of (ds ++ d ∷ []) ≡ rules_of ds + rules d.proof
rules-append [] d = omega arith
rules-append (e ∷ ds) d = omega (arith, rules-append ds d)

steps-append : (ds : List Deduction) (d : Deduction) → steps_of (ds ++ d ∷ []) ≡ steps_of ds + steps d.proof
steps-append [] d = omega arith
steps-append (e ∷ ds) d = omega (arith, steps-append ds d)

receipts-append : (M : Module) (f : ℕ) (ds : List Deduction) (d : Deduction) → AreReceipts M f ds → IsReceipt M f d → AreReceipts M f (ds ++ d ∷ [])
receipts-append M f [] d h r = (r, tt)
receipts-append M f (e ∷ ds) d h r = (h.0, receipts-append M f ds d h.1 r)

-- the bounds
less_left : (left bound : Option ℕ) (others used : ℕ) → left ≢ Some 0 → AddsUp left bound (others + used) → AddsUp (option_map pred left) bound (suc others + used)
less_left None None others used n h = tt
less_left None (Some b) others used n h = h
less_left (Some l) None others used n h = h
less_left (Some zero) (Some b) others used n h = absurd (n refl)
less_left (Some (suc l)) (Some b) others used n h = omega (arith, h)

more_left : (left bound : Option ℕ) (others used n : ℕ) → n ≤ 1 → AddsUp left bound (suc others + used) → AddsUp (option_map (λ k. k + (1 - n)) left) bound (others + (used + n))
more_left None None others used n l h = tt
more_left None (Some b) others used n l h = h
more_left (Some k) None others used n l h = h
more_left (Some k) (Some b) others used n l h = omega (arith, h, l)

back_left : (left bound : Option ℕ) (others used : ℕ) → AddsUp left bound (suc others + used) → AddsUp (option_map suc left) bound (others + used)
back_left None None others used h = tt
back_left None (Some b) others used h = h
back_left (Some k) None others used h = h
back_left (Some k) (Some b) others used h = omega (arith, h)

-- a claim is one of the same pool
moved_claim : (w v : World) (c : Claim) → IsSamePool w v → IsClaim w c → IsClaim v c
moved_claim w v c s h =
    let P : Module → ℕ → ℕ → Type 0 = λ M f n. IsClaim (record { over = M; opening = v.opening; operator = f; side = n; free = v.free; claims = v.claims; journal = v.journal; tries = v.tries; rules_left = v.rules_left; steps_left = v.steps_left; rules_bound = v.rules_bound; steps_bound = v.steps_bound }) c in
    let h0 : P w.over w.operator w.side = record { of_operator = h.of_operator; of_side = h.of_side; admitted = h.admitted; filled = h.filled; rule = h.rule; is_there = h.is_there; is_rule = h.is_rule; at = h.at; place = h.place; open_way = h.open_way; solves = h.solves; alone = h.alone } in
    let h1 : P v.over w.operator w.side = subst (λ M. P M w.operator w.side) (sym s.over) h0 in
    let h2 : P v.over v.operator w.side = subst (λ f. P v.over f w.side) (sym s.operator) h1 in
    let h3 : P v.over v.operator v.side = subst (λ n. P v.over v.operator n) (sym s.side) h2 in
    record { of_operator = h3.of_operator; of_side = h3.of_side; admitted = h3.admitted; filled = h3.filled; rule = h3.rule; is_there = h3.is_there; is_rule = h3.is_rule; at = h3.at; place = h3.place; open_way = h3.open_way; solves = h3.solves; alone = h3.alone }

module _ (w v : World) (s : IsSamePool w v) where
  -- what is reached, in the same pool
  moved_reached : (ys : List RawTerm) (ds : List Deduction) → Leads w.over.signature w.operator (parts w.over.signature w.operator w.opening) ds ys → Leads v.over.signature v.operator (parts v.over.signature v.operator v.opening) ds ys
  moved_reached ys ds h =
      subst (λ M. Leads M.signature v.operator (parts M.signature v.operator v.opening) ds ys) (sym s.over)
      (subst (λ f. Leads w.over.signature f (parts w.over.signature f v.opening) ds ys) (sym s.operator) (subst (λ t. Leads w.over.signature w.operator (parts w.over.signature w.operator t) ds ys) (sym s.opening) h))

  -- the operator is one of multisets there
  moved_of : IsOfMultisets w.over w.operator → IsOfMultisets v.over v.operator
  moved_of h = subst (λ M. IsOfMultisets M v.operator) (sym s.over) (subst (IsOfMultisets w.over) (sym s.operator) h)

  claimed_moved : (cs : List (Option Claim)) → claimed w.over.signature w.operator cs ≡ claimed v.over.signature v.operator cs
  claimed_moved cs = ap (λ M. claimed M.signature w.operator cs) (sym s.over) ∙ ap (λ f. claimed v.over.signature f cs) (sym s.operator)

-- the claims after one was opened, or closed
opened_claims : (w v : World) (s : IsSamePool w v) (c : Claim) → claim_at v.claims c.number ≡ Some c → OthersStay w v c.number → IsClaim w c
    → ((k : ℕ) (d : Claim) → claim_at w.claims k ≡ Some d → (d.number ≡ k) × IsClaim w d) → (k : ℕ) (d : Claim) → claim_at v.claims k ≡ Some d → (d.number ≡ k) × IsClaim v d
opened_claims w v s c here others is old k d e =
    elim (eqb_tells k c.number) as (λ _. (d.number ≡ k) × IsClaim v d) [
      | inl q ↦ let a : claim_at v.claims c.number ≡ Some d = subst (λ (z : ℕ). claim_at v.claims z ≡ Some d) q.1 e in let same : d ≡ c = cc (a, here) in (ap (λ (x : Claim). x.number) same ∙ sym q.1, subst (IsClaim v) (sym same) (moved_claim w v c s is))
      | inr q ↦ let (n, i) = old k d (sym (others k q.1) ∙ e) in (n, moved_claim w v d s i)
    ]

closed_claims : (w v : World) (s : IsSamePool w v) (c : Claim) → claim_at v.claims c.number ≡ None → OthersStay w v c.number
    → ((k : ℕ) (d : Claim) → claim_at w.claims k ≡ Some d → (d.number ≡ k) × IsClaim w d) → (k : ℕ) (d : Claim) → claim_at v.claims k ≡ Some d → (d.number ≡ k) × IsClaim v d
closed_claims w v s c here others old k d e =
    elim (eqb_tells k c.number) as (λ _. (d.number ≡ k) × IsClaim v d) [
      | inl q ↦ let a : claim_at v.claims c.number ≡ Some d = subst (λ (z : ℕ). claim_at v.claims z ≡ Some d) q.1 e in absurd (cc (a, here))
      | inr q ↦ let (n, i) = old k d (sym (others k q.1) ∙ e) in (n, moved_claim w v d s i)
    ]

-- what comes to the free elements and the open ones
come_behind : (come free next held : List RawTerm) → IsPermutation (come ++ free) next → IsPermutation (come ++ (free ++ held)) (next ++ held)
come_behind come free next held p = subst (λ z. IsPermutation z (next ++ held)) (append_assoc come free held) (IsPermutation-append_left held (come ++ free) next p)

-- the open part comes to the front
part_front : (free held rest part : List RawTerm) → IsPermutation held (part ++ rest) → IsPermutation (free ++ held) (part ++ (free ++ rest))
part_front free held rest part h = IsPermutation-trans (free ++ held) (free ++ (part ++ rest)) (part ++ (free ++ rest)) (IsPermutation-append_right free held (part ++ rest) h) (front_over free part rest)

pub claims_sound : (w v : World) (c : Claim) → IsSound w → Claims w v c → IsSound v
claims_sound w v c h e =
    let sig : Signature = w.over.signature in
    let f : ℕ = w.operator in
    let part : List RawTerm = parts sig f c.part in
    let held : List RawTerm = claimed sig f w.claims in
    let next : List RawTerm = claimed sig f v.claims in
    let opened : IsPermutation next (part ++ held) = claimed_opened sig f w.claims v.claims c.number c e.was_free e.is_open e.others in
    let a : IsPermutation (w.free ++ held) ((part ++ v.free) ++ held) = IsPermutation-append_left held w.free (part ++ v.free) e.taken in
    let b : IsPermutation ((part ++ v.free) ++ held) (v.free ++ (part ++ held)) = subst (λ z. IsPermutation z (v.free ++ (part ++ held))) (sym (append_assoc part v.free held)) (front_over part v.free held) in
    let d : IsPermutation (v.free ++ (part ++ held)) (v.free ++ next) = IsPermutation-append_right v.free (part ++ held) next (IsPermutation-sym next (part ++ held) opened) in
    let all : IsPermutation (w.free ++ held) (v.free ++ next) = IsPermutation-trans (w.free ++ held) (v.free ++ (part ++ held)) (v.free ++ next) (IsPermutation-trans (w.free ++ held) ((part ++ v.free) ++ held) (v.free ++ (part ++ held)) a b) d in
    let r : Leads sig f (parts sig f w.opening) v.journal (v.free ++ next) =
    subst (λ ds. Leads sig f (parts sig f w.opening) ds (v.free ++ next)) (sym e.journal) (leads_moved sig f (parts sig f w.opening) w.journal (w.free ++ held) (v.free ++ next) all h.reached) in
    let n : open_count v.claims ≡ suc (open_count w.claims) = let t = total_opened (λ c. 1) w.claims v.claims c.number c e.was_free e.is_open e.others in omega (arith, t) in
    let g = total_opened (λ (x : Claim). x.steps) w.claims v.claims c.number c e.was_free e.is_open e.others in
    record {
      of = moved_of w v e.same h.of;
      reached = subst (λ zs. Leads v.over.signature v.operator (parts v.over.signature v.operator v.opening) v.journal (v.free ++ zs)) (claimed_moved w v e.same v.claims) (moved_reached w v e.same (v.free ++ next) v.journal r);
      claims = opened_claims w v e.same c e.is_open e.others e.is_claim h.claims;
      rules = subst (λ b. AddsUp v.rules_left b (open_count v.claims + rules_of v.journal)) (sym e.same.rules_bound)
          (subst (λ l. AddsUp l w.rules_bound (open_count v.claims + rules_of v.journal)) (sym e.rules)
          (subst (λ ds. AddsUp (option_map pred w.rules_left) w.rules_bound (open_count v.claims + rules_of ds)) (sym e.journal)
          (subst (λ k. AddsUp (option_map pred w.rules_left) w.rules_bound (k + rules_of w.journal)) (sym n) (less_left w.rules_left w.rules_bound (open_count w.claims) (rules_of w.journal) e.rules_left h.rules))));
      steps = (let x = h.steps in let y = e.steps in let z = e.granted in let u = e.same.steps_bound in let j : steps_of v.journal ≡ steps_of w.journal = ap steps_of e.journal in omega (arith, x, y, z, g, u, j));
      opening = subst (λ M. IsAdmittedTerm M.signature v.opening) (sym e.same.over) (subst (IsAdmittedTerm sig) (sym e.same.opening) h.opening);
      shallow = subst (λ M. IsShallow M.signature v.operator v.opening) (sym e.same.over) (subst (λ k. IsShallow sig k v.opening) (sym e.same.operator) (subst (IsShallow sig f) (sym e.same.opening) h.shallow));
      receipts = subst (λ M. AreReceipts M v.operator v.journal) (sym e.same.over) (subst (λ k. AreReceipts w.over k v.journal) (sym e.same.operator) (subst (AreReceipts w.over f) (sym e.journal) h.receipts));
      failed = λ t m. subst (λ M. HasFailed M t) (sym e.same.over) (h.failed t (subst (λ ts. Member t ts) e.tries m));
    }

pub gives_sound : (w v : World) (c : Claim) (d : Deduction) → IsSound w → Gives w v c d → IsSound v
gives_sound w v c d h e =
    let sig : Signature = w.over.signature in
    let f : ℕ = w.operator in
    let part : List RawTerm = parts sig f c.part in
    let held : List RawTerm = claimed sig f w.claims in
    let next : List RawTerm = claimed sig f v.claims in
    let others : (k : ℕ) → k ≢ c.number → claim_at w.claims k ≡ claim_at v.claims k = λ k q. sym (e.others k q) in
    let shut : IsPermutation held (part ++ next) = claimed_opened sig f v.claims w.claims c.number c e.closed e.was_open others in
    let front : IsPermutation (w.free ++ held) (part ++ (w.free ++ next)) = part_front w.free held next part shut in
    let from : IsPermutation (w.free ++ held) (parts sig f d.from ++ (w.free ++ next)) = subst (λ t. IsPermutation (w.free ++ held) (parts sig f t ++ (w.free ++ next))) (sym e.from) front in
    let more : Leads sig f (parts sig f w.opening) (w.journal ++ d ∷ []) (parts sig f d.to ++ (w.free ++ next)) = leads_more sig f (parts sig f w.opening) w.journal (w.free ++ held) d (w.free ++ next) h.reached from in
    let put : Leads sig f (parts sig f w.opening) (w.journal ++ d ∷ []) (v.free ++ next) = leads_moved sig f (parts sig f w.opening) (w.journal ++ d ∷ []) (parts sig f d.to ++ (w.free ++ next)) (v.free ++ next) (come_behind (parts sig f d.to) w.free v.free next e.come) more in
    let r : Leads sig f (parts sig f w.opening) v.journal (v.free ++ next) = subst (λ ds. Leads sig f (parts sig f w.opening) ds (v.free ++ next)) (sym e.journal) put in
    let n : open_count w.claims ≡ suc (open_count v.claims) = let t = total_opened (λ c. 1) v.claims w.claims c.number c e.closed e.was_open others in omega (arith, t) in
    let g = total_opened (λ (x : Claim). x.steps) v.claims w.claims c.number c e.closed e.was_open others in
    record {
      of = moved_of w v e.same h.of;
      reached = subst (λ zs. Leads v.over.signature v.operator (parts v.over.signature v.operator v.opening) v.journal (v.free ++ zs)) (claimed_moved w v e.same v.claims) (moved_reached w v e.same (v.free ++ next) v.journal r);
      claims = closed_claims w v e.same c e.closed e.others h.claims;
      rules = subst (λ b. AddsUp v.rules_left b (open_count v.claims + rules_of v.journal)) (sym e.same.rules_bound)
          (subst (λ l. AddsUp l w.rules_bound (open_count v.claims + rules_of v.journal)) (sym e.rules)
          (subst (λ k. AddsUp (option_map (λ j. j + (1 - rules d.proof)) w.rules_left) w.rules_bound (open_count v.claims + k)) (sym (ap rules_of e.journal ∙ rules-append w.journal d))
          (more_left w.rules_left w.rules_bound (open_count v.claims) (rules_of w.journal) (rules d.proof) e.one_rule (subst (λ k. AddsUp w.rules_left w.rules_bound (k + rules_of w.journal)) n h.rules))));
      steps = (let x = h.steps in let y = e.steps in let z = e.within in let u = e.same.steps_bound in let j : steps_of v.journal ≡ steps_of w.journal + steps d.proof = ap steps_of e.journal ∙ steps-append w.journal d in omega (arith, x, y, z, g, u, j));
      opening = subst (λ M. IsAdmittedTerm M.signature v.opening) (sym e.same.over) (subst (IsAdmittedTerm sig) (sym e.same.opening) h.opening);
      shallow = subst (λ M. IsShallow M.signature v.operator v.opening) (sym e.same.over) (subst (λ k. IsShallow sig k v.opening) (sym e.same.operator) (subst (IsShallow sig f) (sym e.same.opening) h.shallow));
      receipts = subst (λ M. AreReceipts M v.operator v.journal) (sym e.same.over) (subst (λ k. AreReceipts w.over k v.journal) (sym e.same.operator) (subst (AreReceipts w.over f) (sym e.journal) (receipts-append w.over f w.journal d h.receipts e.receipt)));
      failed = λ t m. subst (λ M. HasFailed M t) (sym e.same.over) (h.failed t (subst (λ ts. Member t ts) e.tries m));
    }

pub releases_sound : (w v : World) (c : Claim) → IsSound w → Releases w v c → IsSound v
releases_sound w v c h e =
    let sig : Signature = w.over.signature in
    let f : ℕ = w.operator in
    let part : List RawTerm = parts sig f c.part in
    let held : List RawTerm = claimed sig f w.claims in
    let next : List RawTerm = claimed sig f v.claims in
    let others : (k : ℕ) → k ≢ c.number → claim_at w.claims k ≡ claim_at v.claims k = λ k q. sym (e.others k q) in
    let shut : IsPermutation held (part ++ next) = claimed_opened sig f v.claims w.claims c.number c e.closed e.was_open others in
    let front : IsPermutation (w.free ++ held) (part ++ (w.free ++ next)) = part_front w.free held next part shut in
    let all : IsPermutation (w.free ++ held) (v.free ++ next) = IsPermutation-trans (w.free ++ held) (part ++ (w.free ++ next)) (v.free ++ next) front (come_behind part w.free v.free next e.back) in
    let r : Leads sig f (parts sig f w.opening) v.journal (v.free ++ next) =
    subst (λ ds. Leads sig f (parts sig f w.opening) ds (v.free ++ next)) (sym e.journal) (leads_moved sig f (parts sig f w.opening) w.journal (w.free ++ held) (v.free ++ next) all h.reached) in
    let n : open_count w.claims ≡ suc (open_count v.claims) = let t = total_opened (λ c. 1) v.claims w.claims c.number c e.closed e.was_open others in omega (arith, t) in
    let g = total_opened (λ (x : Claim). x.steps) v.claims w.claims c.number c e.closed e.was_open others in
    record {
      of = moved_of w v e.same h.of;
      reached = subst (λ zs. Leads v.over.signature v.operator (parts v.over.signature v.operator v.opening) v.journal (v.free ++ zs)) (claimed_moved w v e.same v.claims) (moved_reached w v e.same (v.free ++ next) v.journal r);
      claims = closed_claims w v e.same c e.closed e.others h.claims;
      rules = subst (λ b. AddsUp v.rules_left b (open_count v.claims + rules_of v.journal)) (sym e.same.rules_bound)
          (subst (λ l. AddsUp l w.rules_bound (open_count v.claims + rules_of v.journal)) (sym e.rules)
          (subst (λ k. AddsUp (option_map suc w.rules_left) w.rules_bound (open_count v.claims + k)) (sym (ap rules_of e.journal))
          (back_left w.rules_left w.rules_bound (open_count v.claims) (rules_of w.journal) (subst (λ k. AddsUp w.rules_left w.rules_bound (k + rules_of w.journal)) n h.rules))));
      steps = (let x = h.steps in let y = e.steps in let u = e.same.steps_bound in let j : steps_of v.journal ≡ steps_of w.journal = ap steps_of e.journal in omega (arith, x, y, g, u, j));
      opening = subst (λ M. IsAdmittedTerm M.signature v.opening) (sym e.same.over) (subst (IsAdmittedTerm sig) (sym e.same.opening) h.opening);
      shallow = subst (λ M. IsShallow M.signature v.operator v.opening) (sym e.same.over) (subst (λ k. IsShallow sig k v.opening) (sym e.same.operator) (subst (IsShallow sig f) (sym e.same.opening) h.shallow));
      receipts = subst (λ M. AreReceipts M v.operator v.journal) (sym e.same.over) (subst (λ k. AreReceipts w.over k v.journal) (sym e.same.operator) (subst (AreReceipts w.over f) (sym e.journal) h.receipts));
      failed = λ t m. subst (λ M. HasFailed M t) (sym e.same.over) (elim (e.tries t m) [ inl x ↦ h.failed t x | inr x ↦ x.2 ]);
    }

pub event_sound : (w v : World) → IsSound w → Event w v → IsSound v
event_sound w v h (inl (c, e)) = claims_sound w v c h e
event_sound w v h (inr (inl (c, d, e))) = gives_sound w v c d h e
event_sound w v h (inr (inr (c, e))) = releases_sound w v c h e

-- Every state of every run from a sound one is sound.
pub every_run : (w : World) (ws : List World) → IsSound w → IsRun w ws → AllSound ws
every_run w [] h r = tt
every_run w (v ∷ vs) h r = let k : IsSound v = event_sound w v h r.0 in (k, every_run v vs k r.1)
