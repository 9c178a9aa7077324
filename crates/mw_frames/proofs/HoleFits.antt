-- What is told of a term that comes into a hole.
use Rattle.std.specs.Prelude.{◌≡◌, ◌≢◌, ◌↔◌, ◌≤◌, ◌<◌, ◌+◌, ◌-◌, ◌^◌, ◌&&◌, min, ℕ, zero, suc, List, [], ◌∷◌, ◌++◌, length, take, drop, reverse, Bool, true, false, not, nat_eq, Option, Some, None, option_to_list, slice_get, MatchOption, IsTrue, IsFalse, refl}
use Rattle.std.proofs.Common.{sym, subst, ap, ◌∙◌, arith, inl, inr, ⊎_elim, true≢false, ◌⊎◌, ◌==◌}
use Rattle.std.proofs.lemmas.Bool.{both_ways, cases_lt}
use Rattle.std.proofs.lemmas.List.{reverse-append}
use Rattle.std.proofs.lemmas.Option.{slice_get_within}
use Rattle.mw_logic.specs.Term.{RawTerm, RawTerms, apply, nil, cons, join}
use Rattle.mw_logic.specs.Terms.{terms_of}
use Rattle.mw_logic.specs.Signature.{Signature}
use Rattle.mw_logic.specs.Accepted.{IsAccepted}
use Rattle.mw_logic.specs.Kinds.{is_successor}
use Rattle.mw_logic.specs.Parts.{is_assoc, number_of_terms}
use Rattle.mw_logic.specs.NormalForm.{arranged, applied_in, height, is_largest, has_largest}
use Rattle.mw_logic.proofs.CanonicalTerms.{not_successor}
use Rattle.mw_logic.proofs.Successor.{is_successor-sound}
use Rattle.mw_logic.proofs.Pushed.{terms_of-append}
use Rattle.mw_arguments.proofs.Middles.{differ}
use Rattle.mw_pattern.specs.declared.pattern.Pattern.{Pattern}
use Rattle.mw_pattern.specs.Clean.{clean, clean_all}
use Rattle.mw_position.specs.Positions.{fill, fill_all}
use Rattle.mw_matching.specs.Matches.{evaluated}
use Rattle.mw_deduction.specs.Standing.{Open, filled, AreClear}
use Rattle.mw_deduction.proofs.Clear.{IsBranch}
use Rattle.mw_frames.specs.declared.job.Job.{Job}
use Rattle.mw_frames.specs.declared.job.Frame.{Frame}
use Rattle.mw_frames.specs.declared.limits.Fit.TheVariants.{Fits, TooLarge}
use Rattle.mw_canon.specs.Free.{IsFree}
use Rattle.mw_frames.specs.Jobs.{term_of, rest, AreOpened}
use Rattle.mw_frames.specs.Redex.{hole_level}
use Rattle.mw_frames.specs.Larger.{grows, AreSmall, StaysBranch, IsUnfolded, IsFit}
use Rattle.mw_frames.proofs.Fitting.{evaluated_free, fits_told}
use Rattle.mw_frames.proofs.Larger.{number_arranged, large_kept, grows_is, unfolded, branch_stays, constant_stays, same_filled, same_number, same_above}

pub assoc_not_successor : (sig : Signature) → IsAccepted sig → (f : ℕ) → is_assoc sig f ≡ true → is_successor sig f ≡ false
assoc_not_successor sig ok f h = by_test (is_successor sig f) refl
  where
    by_test : (b : Bool) → is_successor sig f ≡ b → b ≡ false
    by_test false e = refl
    by_test true e = absurd (not_successor sig ok f h (is_successor-sound sig f e))

pub listed_branch : (f : ℕ) (t : RawTerm) (ts : List RawTerm) → t ≡ apply f (terms_of ts) → IsTrue (not (length ts == 0)) → IsBranch t
listed_branch f t [] e h = absurd (true≢false (sym h))
listed_branch f t (u ∷ us) e h = subst IsBranch (sym e) tt

pub listed_patterns : (ps : List Pattern) (ts : RawTerms) → clean_all ps ≡ ts → IsTrue (not (length ps == 0)) → (x : RawTerm) × (xs : RawTerms) × (ts ≡ cons x xs)
listed_patterns [] ts e h = absurd (true≢false (sym h))
listed_patterns (p ∷ ps) ts e h = (clean p, clean_all ps, sym e)

-- no numeral stands alone where there isn't one argument
pub not_alone : (c : Bool) (ts : List RawTerm) → length ts ≢ 1 → is_largest (arranged c (terms_of ts)) ≡ false
not_alone c ts h = by_test (is_largest (arranged c (terms_of ts))) refl
  where
    counted : (us : List RawTerm) → number_of_terms (terms_of us) ≡ length us
    counted [] = refl
    counted (u ∷ us) = ap suc (counted us)

    lone : (us : RawTerms) → is_largest us ≡ true → number_of_terms us ≡ 1
    lone nil e = absurd (both_ways _ refl e)
    lone (cons t nil) e = refl
    lone (cons t (cons u us)) e = absurd (both_ways _ refl e)

    by_test : (b : Bool) → is_largest (arranged c (terms_of ts)) ≡ b → b ≡ false
    by_test false e = refl
    by_test true e = absurd (h (let a = lone (arranged c (terms_of ts)) e in let b = number_arranged c (terms_of ts) in let d = counted ts in omega (arith, a, b, d)))

pub alone_largest : (c : Bool) (ts : List RawTerm) (t : RawTerm) → length ts ≡ 1 → t ≡ Rattle.std.proofs.Common.get_or ts 0 t → is_largest (cons t nil) ≡ is_largest (arranged c (terms_of ts))
alone_largest c [] t l e = absurd (omega (arith, l))
alone_largest true (u ∷ []) t l e = ap (λ x. is_largest (cons x nil)) e
alone_largest false (u ∷ []) t l e = ap (λ x. is_largest (cons x nil)) e
alone_largest c (u ∷ v ∷ us) t l e = absurd (omega (arith, l))

-- One job at most waits.
module _ (sig : Signature) (vs : List RawTerm) where
  pub one_waits : (xs : List Job) (x : Job) → length xs ≤ 1 → Some x ≡ slice_get xs 0 → rest sig vs xs ≡ cons (term_of sig vs x) nil
  one_waits [] x l e = cc
  one_waits (y ∷ []) x l e = let z : x ≡ y = same e in ap (λ j. cons (term_of sig vs j) nil) (sym z)
    where
      same : {y : Job} → Some x ≡ Some y → x ≡ y
      same e = cc
  one_waits (y ∷ z ∷ xs) x l e = absurd (omega (arith, l))

  pub none_waits : (xs : List Job) → None ≡ slice_get xs 0 → rest sig vs xs ≡ nil
  none_waits [] e = refl
  none_waits (y ∷ xs) e = cc

join-none : (ts : RawTerms) → join ts nil ≡ ts
join-none nil = refl
join-none (cons t ts) = ap (cons t) (join-none ts)

pub put_nothing : (sig : Signature) (vs : List RawTerm) (xs : List Job) (found : List RawTerm) → None ≡ slice_get xs 0 → terms_of found ≡ join (terms_of found) (rest sig vs xs)
put_nothing sig vs xs found e = sym (join-none (terms_of found)) ∙ ap (join (terms_of found)) (sym (none_waits sig vs xs e))

pub put_one : (sig : Signature) (vs : List RawTerm) (xs : List Job) (x : Job) (found found' : List RawTerm) (t : RawTerm) → length xs ≤ 1 → Some x ≡ slice_get xs 0 → t ≡ term_of sig vs x → found' ≡ found ++ t ∷ []
    → terms_of found' ≡ join (terms_of found) (rest sig vs xs)
put_one sig vs xs x found found' t l e q p = ap terms_of p ∙ terms_of-append found (t ∷ []) ∙ ap (λ u. join (terms_of found) (cons u nil)) q ∙ ap (join (terms_of found)) (sym (one_waits sig vs xs x l e))

-- what is put together to be folded
pub put_round : (f0 f1 f2 f3 own : List RawTerm) (t : RawTerm) (waiting : RawTerms) → f0 ≡ [] → terms_of f1 ≡ join (terms_of f0) (terms_of own) → f2 ≡ f1 ++ t ∷ [] → terms_of f3 ≡ join (terms_of f2) waiting
    → terms_of f3 ≡ join (terms_of own) (cons t waiting)
put_round f0 f1 f2 f3 own t waiting e0 e1 e2 e3 =
    e3 ∙ ap (λ xs. join (terms_of xs) waiting) e2 ∙ Rattle.mw_logic.proofs.Pushed.join_pushed f1 t waiting ∙ ap (λ us. join us (cons t waiting)) (e1 ∙ ap (λ xs. join (terms_of xs) (terms_of own)) e0)

last_at : {A : Type 0} (xs : List A) (n : ℕ) (x : A) → n + 1 ≡ length xs → Some x ≡ slice_get xs n → xs ≡ take n xs ++ x ∷ []
last_at [] n x l e = cc
last_at (y ∷ []) zero x l e = cc
last_at (y ∷ z ∷ zs) zero x l e = absurd (omega (arith, l))
last_at (y ∷ ys) (suc n) x l e = ap (λ zs. y ∷ zs) (last_at ys n x (omega (arith, l)) e)

-- the last one comes first from behind
pub last_first : {A : Type 0} (xs : List A) (x : A) → Some x ≡ slice_get xs (length xs - 1) → reverse xs ≡ x ∷ reverse (take (length xs - 1) xs)
last_first xs x e =
    let l = slice_get_within xs (length xs - 1) x (sym e) in
    ap reverse (last_at xs (length xs - 1) x (omega (arith, l)) e) ∙ reverse-append (take (length xs - 1) xs) (x ∷ [])

module _ (sig : Signature) (ok : IsAccepted sig) (vs : List RawTerm) (f : Frame) (fs gs : List Frame) (ds : List RawTerm) (xs : List Job) (t : RawTerm) (inner : fs ≡ f ∷ gs) (os : List Open) (clear : AreClear sig os) (opened : AreOpened sig vs fs ds xs os) where
  abbrev own : RawTerms
  own = terms_of (drop f.from ds)

  abbrev waiting : RawTerms
  waiting = rest sig vs (drop f.waits xs)

  -- the open operator of the innermost frame, and the others
  by_first : (P : List Open → Type 0) → ((o : Open) (ps : List Open) → os ≡ o ∷ ps → AreClear sig (o ∷ ps) → AreOpened sig vs (f ∷ gs) ds xs (o ∷ ps) → P (o ∷ ps)) → P os
  by_first P h = of os refl clear (subst (λ zs. AreOpened sig vs zs ds xs os) inner opened)
    where
      of : (ps : List Open) → os ≡ ps → AreClear sig ps → AreOpened sig vs (f ∷ gs) ds xs ps → P ps
      of [] e c o = elim o [ ]
      of (o ∷ ps) e c z = h o ps e c z

  -- `s_` stands on the largest numeral right here
  pub grown_here : (is_successor sig f.op && is_largest (cons t nil)) ≡ true → true ≡ grows sig os t
  grown_here e = by_first (λ ps. true ≡ grows sig ps t) (λ o ps q c (is, level, below). rw (same_above sig ok vs f o own waiting is t ∙ e) refl)

  -- it stays an operator on arguments
  pub stays_here : (is_successor sig f.op && is_largest (cons t nil)) ≡ false → (own' : List RawTerm) (waiting' : List Job) → own' ≡ drop f.from ds → waiting' ≡ drop f.waits xs → StaysBranch sig f.op (length own' + length waiting') t
      → false ≡ grows sig os t
  stays_here e own' waiting' ew ex stays = by_first (λ ps. false ≡ grows sig ps t) of
    where
      listed : (us : List RawTerm) → number_of_terms (terms_of us) ≡ length us
      listed [] = refl
      listed (u ∷ us) = ap suc (listed us)

      waits : (ys : List Job) → number_of_terms (rest sig vs ys) ≡ length ys
      waits [] = refl
      waits (y ∷ ys) = let a = Rattle.mw_arguments.proofs.ListPieces.number_join (rest sig vs ys) (cons (term_of sig vs y) nil) in let b = waits ys in omega (arith, a, b)

      of : (o : Open) (ps : List Open) → os ≡ o ∷ ps → AreClear sig (o ∷ ps) → AreOpened sig vs (f ∷ gs) ds xs (o ∷ ps) → false ≡ grows sig (o ∷ ps) t
      of o ps q c (is, level, below) =
          let n = same_number sig ok vs f o own waiting is in
          let l = listed (drop f.from ds) in
          let w = waits (drop f.waits xs) in
          let a = ap length ew in
          let b = ap length ex in
          let s : StaysBranch sig o.operator (number_of_terms (join o.before o.after)) t = subst (λ g. StaysBranch sig g (number_of_terms (join o.before o.after)) t) (sym is.operator) (subst (λ m. StaysBranch sig f.op m t) (omega (arith, n, l, w, a, b)) stays) in
          rw (same_above sig ok vs f o own waiting is t ∙ e) (sym (branch_stays sig ok ps (filled sig o t) c.1 (unfolded sig ok o c.0 t s)))

  -- further out, with what it is there
  pub grown_on : (is_successor sig f.op && is_largest (cons t nil)) ≡ false → (next : RawTerm) → next ≡ applied_in sig f.op (join own (cons t waiting))
      → (ps : List Open) × AreClear sig ps × AreOpened sig vs gs (take f.from ds) (take f.waits xs) ps × (grows sig ps next ≡ grows sig os t)
  grown_on e next q =
      by_first (λ qs. (ps : List Open) × AreClear sig ps × AreOpened sig vs gs (take f.from ds) (take f.waits xs) ps × (grows sig ps next ≡ grows sig qs t))
      (λ o ps z c (is, level, below). (ps, c.1, below, rw (same_above sig ok vs f o own waiting is t ∙ e) (ap (grows sig ps) (q ∙ sym (same_filled sig ok vs f o own waiting is t)))))

-- by the innermost frame alone
pub first_level : (sig : Signature) (fs gs : List Frame) (t : RawTerm) → fs ≡ take 1 gs → hole_level sig fs t ≡ hole_level sig gs t
first_level sig fs [] t e = ap (λ hs. hole_level sig hs t) e
first_level sig fs (g ∷ gs) t e = ap (λ hs. hole_level sig hs t) e

first_unfolded : (sig : Signature) (fs gs : List Frame) → fs ≡ take 1 gs → IsUnfolded sig fs → IsUnfolded sig gs
first_unfolded sig fs [] e h = tt
first_unfolded sig fs (g ∷ gs) e h = subst (IsUnfolded sig) e h

-- levels that were tested
pub told_levels : (sig : Signature) (hole : Option Frame) (fs : List Frame) (t : RawTerm) (b : Bool) → option_to_list hole ≡ take 1 fs → (IsTrue b ↔ (hole_level sig (option_to_list hole) t + height t ≤ 1000))
    → (IsTrue b → hole_level sig fs t + height t ≤ 1000) × (IsFalse b → 1000 < hole_level sig fs t + height t)
told_levels sig hole fs t b e h =
    let k = first_level sig (option_to_list hole) fs t e in (
      λ x. let z = h.0 x in omega (arith, z, k),
      λ x. ⊎_elim (λ l. l) (λ g. absurd (both_ways _ x (h.1 (omega (arith, g, k))))) (cases_lt 1000 (hole_level sig fs t + height t)),
    )

pub levels_tested : (sig : Signature) (hole : Option Frame) (fs : List Frame) (t : RawTerm) (b : Bool) (above d : ℕ) → option_to_list hole ≡ take 1 fs → (IsTrue b ↔ (above + d ≤ 1000)) → d ≡ min (height t) (2 ^ 16 - 1)
    → ((above + height t ≤ 1000) ↔ (hole_level sig (option_to_list hole) t + height t ≤ 1000)) → (IsTrue b → hole_level sig fs t + height t ≤ 1000) × (IsFalse b → 1000 < hole_level sig fs t + height t)
levels_tested sig hole fs t b above d e h q l = told_levels sig hole fs t b e (fits_told b above d (hole_level sig (option_to_list hole) t) (height t) h q l)

module _ (sig : Signature) (ok : IsAccepted sig) (fs : List Frame) (os : List Open) (t : RawTerm) (small : AreSmall sig os) where
  -- `s_` stands on the largest numeral in it,
  pub large_fit : hole_level sig fs t + height t ≤ 1000 → has_largest sig t ≡ true → IsFit sig fs os t TooLarge
  large_fit l h = (l, large_kept sig ok os t h)

  -- or over it,
  pub grown_fit : hole_level sig fs t + height t ≤ 1000 → has_largest sig t ≡ false → true ≡ grows sig os t → IsFit sig fs os t TooLarge
  grown_fit l h e = (l, grows_is sig ok os t small h ∙ sym e)

  -- or nowhere
  pub small_fit : hole_level sig fs t + height t ≤ 1000 → has_largest sig t ≡ false → false ≡ grows sig os t → IsFit sig fs os t Fits
  small_fit l h e = (l, grows_is sig ok os t small h ∙ sym e)

-- a right side without axioms, with an operator on top that stays
pub free_grows : (sig : Signature) (ok : IsAccepted sig) (vs us : List RawTerm) (p : RawTerm) (hole : Option Frame) (fs : List Frame) (ds : List RawTerm) (xs : List Job) (os : List Open) (f : ℕ) (ts : RawTerms)
    → p ≡ apply f ts → IsBranch (apply f ts) ⊎ IsUnfolded sig (option_to_list hole) → option_to_list hole ≡ take 1 fs → IsFree sig p → AreClear sig os → AreOpened sig us fs ds xs os
    → false ≡ grows sig os (evaluated sig vs p)
free_grows sig ok vs us p hole fs ds xs os f ts e stays inner free clear opened =
    sym (ap (grows sig os) (evaluated_free sig vs p free ∙ ap (fill vs) e) ∙ by_args ts stays)
  where
    not_assoc : IsUnfolded sig fs → (fs : List Frame) (ds : List RawTerm) (xs : List Job) → AreOpened sig us fs ds xs os → IsUnfolded sig fs → (o : Open) (ps : List Open) → os ≡ o ∷ ps → is_assoc sig o.operator ≡ false
    not_assoc z [] ds xs h u o ps q = let x : o ∷ ps ≡ [] = sym q ∙ h in cc
    not_assoc z (g ∷ gs) ds xs h u o ps q = let (is, level, below) = subst (AreOpened sig us (g ∷ gs) ds xs) q h in ap (is_assoc sig) is.operator ∙ u

    by_args : (ts : RawTerms) → IsBranch (apply f ts) ⊎ IsUnfolded sig (option_to_list hole) → grows sig os (apply f (fill_all vs ts)) ≡ false
    by_args nil (inl b) = elim b [ ]
    by_args nil (inr u) = let k = first_unfolded sig (option_to_list hole) fs inner u in constant_stays sig ok os f clear (not_assoc k fs ds xs opened k)
    by_args (cons t ts) h = branch_stays sig ok os (apply f (cons (Rattle.mw_position.specs.Positions.fill vs t) (fill_all vs ts))) clear tt

pub few_waiting : (a b : ℕ) → a + b ≤ 1 → b ≤ 1
few_waiting a b h = omega (arith, h)

pub one_missing : (n : ℕ) (b x : Bool) → n ≢ 1 → x ≡ false → nat_eq n 1 ≡ (b && x)
one_missing n b x h e = differ n 1 h ∙ sym (ap (λ z. b && z) e ∙ none b)
  where
    none : (b : Bool) → (b && false) ≡ false
    none true = refl
    none false = refl

-- the last frame was taken out
pub popped : (old new : List Frame) (o : Option Frame) (f : Frame) (fs : List Frame) (n m : ℕ) → old ≡ new ++ option_to_list o → MatchOption o ((n ≡ 0) × (m ≡ 0)) (λ x. m + 1 ≡ n) → new ≡ take (n - 1) old → reverse old ≡ f ∷ fs → reverse new ≡ fs
popped old new (Some g) f fs n m a b d e = same_tail (sym (ap reverse a ∙ reverse-append new (g ∷ [])) ∙ e)
  where
    same_tail : {g f : Frame} {gs fs : List Frame} → g ∷ gs ≡ f ∷ fs → gs ≡ fs
    same_tail e = cc
popped old new None f fs n m a b d e =
    let z : n - 1 ≡ 0 = let k = b.0 in omega (arith, k) in
    let q : new ≡ [] = d ∙ ap (λ i. take i old) z in
    let w : [] ≡ f ∷ fs = sym (ap reverse (a ∙ Rattle.std.proofs.lemmas.List.append-nil new ∙ q)) ∙ e in
    cc
