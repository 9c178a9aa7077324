-- Arguments, and jobs that wait, as they are gone through one by one.
use Rattle.std.specs.Prelude.{◌≡◌, ◌⊎◌, ◌≤◌, ◌<◌, ◌-◌, min, ℕ, List, [], ◌∷◌, ◌++◌, length, take, drop, true, false, refl}
use Rattle.std.proofs.Common.{sym, ap, ◌∙◌, arith, inl, inr}
use Rattle.std.proofs.lemmas.Bool.{both_ways}
use Rattle.std.proofs.lemmas.List.{append_assoc, length-append, drop-append-le, take-append-le, take_all, drop_all}
use Rattle.mw_logic.specs.Term.{RawTerm, RawTerms, nil, cons, join}
use Rattle.mw_logic.specs.Terms.{terms_of, list_of}
use Rattle.mw_logic.specs.Signature.{Signature}
use Rattle.mw_logic.specs.NormalForm.{is_comm}
use Rattle.mw_logic.proofs.Pushed.{terms_of-append, join_pushed}
use Rattle.mw_logic.proofs.SortLaws.{join-nil, join_assoc}
use Rattle.mw_arguments.specs.Places.{chosen, others}
use Rattle.mw_frames.specs.declared.job.Job.{Job}
use Rattle.mw_frames.specs.declared.job.Job.TheVariants.{Normal}
use Rattle.mw_frames.specs.Jobs.{term_of, rest}
use Rattle.mw_stack.proofs.Piles.{front-terms_of, skip-terms_of}
use Rattle.mw_stack.proofs.Piles as piles
use Rattle.mw_frames.specs.Taking.{before_taken, behind_taken, waiting_normal, IsLeft}
use Rattle.mw_frames.proofs.Turning.{rest-append}
use Rattle.mw_frames.proofs.ChosenOnes.{chosen_later}

waiting-last : (ts : List RawTerm) (t : RawTerm) → waiting_normal (ts ++ t ∷ []) ≡ Normal t ∷ waiting_normal ts
waiting-last [] t = refl
waiting-last (u ∷ ts) t = ap (λ xs. xs ++ Normal u ∷ []) (waiting-last ts t)

-- the last of the terms that are left waits, behind the jobs
pub waits_next : (js js' z : List Job) (ts us : List RawTerm) (t : RawTerm) → ts ≡ us ++ t ∷ [] → js' ≡ js ++ Normal t ∷ [] → js ++ waiting_normal ts ≡ z → js' ++ waiting_normal us ≡ z
waits_next js js' z ts us t e e' so_far =
    ap (λ xs. xs ++ waiting_normal us) e' ∙ append_assoc js (Normal t ∷ []) (waiting_normal us) ∙ ap (λ xs. js ++ xs) (sym (waiting-last us t)) ∙ ap (λ xs. js ++ waiting_normal xs) (sym e) ∙ so_far

-- One job more of those from a place on is put behind terms that are done.
pub put_next : (sig : Signature) (vs : List RawTerm) (w : ℕ) (js xs : List Job) (x : Job) (ds ds' d0 : List RawTerm) (z : RawTerms) → w < length js → js ≡ xs ++ x ∷ [] → ds' ≡ ds ++ term_of sig vs x ∷ []
    → (ws : List RawTerm) × (ds ≡ d0 ++ ws) × (join (terms_of ws) (rest sig vs (drop w js)) ≡ z)
    → (take w xs ≡ take w js) × ((ws : List RawTerm) × (ds' ≡ d0 ++ ws) × (join (terms_of ws) (rest sig vs (drop w xs)) ≡ z))
put_next sig vs w js xs x ds ds' d0 z l e e' (ws, d, s) =
    let n : w ≤ length xs = let a = ap length e in let b = length-append xs (x ∷ []) in omega (arith, l, a, b) in
    let q : drop w js ≡ drop w xs ++ x ∷ [] = ap (drop w) e ∙ drop-append-le w xs (x ∷ []) n in
    let r : rest sig vs (drop w js) ≡ cons (term_of sig vs x) (rest sig vs (drop w xs)) = ap (rest sig vs) q ∙ rest-append sig vs (drop w xs) x in (
      sym (ap (take w) e ∙ take-append-le w xs (x ∷ []) n),
      (ws ++ term_of sig vs x ∷ [], e' ∙ ap (λ us. us ++ term_of sig vs x ∷ []) d ∙ append_assoc d0 ws (term_of sig vs x ∷ []), join_pushed ws (term_of sig vs x) (rest sig vs (drop w xs)) ∙ ap (join (terms_of ws)) (sym r) ∙ s),
    )

-- no job is left from the place on
pub put_all : (sig : Signature) (vs : List RawTerm) (w : ℕ) (js : List Job) (z : RawTerms) (ws : List RawTerm) → length js ≤ w → join (terms_of ws) (rest sig vs (drop w js)) ≡ z → terms_of ws ≡ z
put_all sig vs w js z ws l e = sym (join-nil (terms_of ws)) ∙ ap (λ xs. join (terms_of ws) (rest sig vs xs)) (sym (drop_all w js l)) ∙ e

-- cut at a place, or at the end where the place is beyond it
pub cut_at : {A : Type 0} (n : ℕ) (xs : List A) → (drop (min n (length xs)) xs ≡ drop n xs) × (take (min n (length xs)) xs ≡ take n xs)
cut_at n xs = by_place (Rattle.std.proofs.lemmas.Bool.cases_lt (length xs) n)
  where
    by_place : (length xs < n) ⊎ (n ≤ length xs) → (drop (min n (length xs)) xs ≡ drop n xs) × (take (min n (length xs)) xs ≡ take n xs)
    by_place (inr l) = let e : min n (length xs) ≡ n = omega (arith, l) in (ap (λ m. drop m xs) e, ap (λ m. take m xs) e)
    by_place (inl l) =
        let e : min n (length xs) ≡ length xs = omega (arith, l) in (
          ap (λ m. drop m xs) e ∙ drop_all (length xs) xs (omega arith) ∙ sym (drop_all n xs (omega (arith, l))),
          ap (λ m. take m xs) e ∙ take_all (length xs) xs (omega arith) ∙ sym (take_all n xs (omega (arith, l))),
        )

-- A term came behind those that were there, of which some are a frame's own.
pub cut_with : (n at : ℕ) (d0 d1 : List RawTerm) (t : RawTerm) (r : RawTerms) → at ≡ min n (length d0) → d1 ≡ d0 ++ t ∷ []
    → (join (terms_of (drop at d1)) r ≡ join (terms_of (drop n d0)) (cons t r)) × (take at d1 ≡ take n d0)
cut_with n at d0 d1 t r ea e1 =
    let c = cut_at n d0 in
    let l : at ≤ length d0 = omega (arith, ea) in
    let p : drop at d1 ≡ drop n d0 ++ t ∷ [] = ap (drop at) e1 ∙ drop-append-le at d0 (t ∷ []) l ∙ ap (λ xs. xs ++ t ∷ []) (ap (λ m. drop m d0) ea ∙ c.0) in (
      ap (λ us. join (terms_of us) r) p ∙ join_pushed (drop n d0) t r,
      ap (take at) e1 ∙ take-append-le at d0 (t ∷ []) l ∙ ap (λ m. take m d0) ea ∙ c.1,
    )

-- Others came behind those that were there, and all are taken out from a place on.
pub taken_out : (at : ℕ) (d0 d1 ws args : List RawTerm) (r : RawTerms) → at ≤ length d0 → d1 ≡ d0 ++ ws → terms_of ws ≡ r → args ≡ drop at d1 → (terms_of args ≡ join (terms_of (drop at d0)) r) × (take at d1 ≡ take at d0)
taken_out at d0 d1 ws args r l e er eg = (
  ap terms_of (eg ∙ ap (drop at) e ∙ drop-append-le at d0 ws l) ∙ terms_of-append (drop at d0) ws ∙ ap (join (terms_of (drop at d0))) er,
  ap (take at) e ∙ take-append-le at d0 ws l,
)

pub terms_of-list_of : (ts : RawTerms) → terms_of (list_of ts) ≡ ts
terms_of-list_of nil = refl
terms_of-list_of (cons t ts) = ap (cons t) (terms_of-list_of ts)

-- Arguments are cut before the first one that is taken.
pub taken_behind : (k : ℕ) (ks : List ℕ) (args : List RawTerm) (at : ℕ) → at ≡ min (k - 1) (length args) → 1 ≤ k → chosen k (k ∷ ks) (terms_of (drop at args)) ≡ chosen 1 (k ∷ ks) (terms_of args)
taken_behind k ks args at e l =
    ap (λ n. chosen k (k ∷ ks) (terms_of (drop n args))) e ∙ ap (λ us. chosen k (k ∷ ks) (terms_of us)) (cut_at (k - 1) args).0 ∙ ap (chosen k (k ∷ ks)) (sym (skip-terms_of (k - 1) args))
    ∙ sym (chosen_later k ks 1 (k - 1) (terms_of args) (omega (arith, l)))

module _ (sig : Signature) (f k : ℕ) (ks : List ℕ) (args : List RawTerm) (at : ℕ) (e : at ≡ min (k - 1) (length args)) where
  before_is : terms_of (take at args) ≡ before_taken (k ∷ ks) (terms_of args)
  before_is = ap (λ n. terms_of (take n args)) e ∙ ap terms_of (cut_at (k - 1) args).1 ∙ sym (front-terms_of (k - 1) args)

  behind_is : others k (k ∷ ks) (terms_of (drop at args)) ≡ behind_taken (k ∷ ks) (terms_of args)
  behind_is = ap (others k (k ∷ ks)) (ap (λ n. terms_of (drop n args)) e ∙ ap terms_of (cut_at (k - 1) args).0 ∙ sym (skip-terms_of (k - 1) args))

  -- the others are put behind those that are done
  pub left_together : is_comm sig f ≡ true → (d0 d1 d2 : List RawTerm) → terms_of d1 ≡ join (terms_of d0) (terms_of (take at args)) → terms_of d2 ≡ join (terms_of d1) (others k (k ∷ ks) (terms_of (drop at args)))
      → (os : List RawTerm) × (d2 ≡ d0 ++ os) × IsLeft sig f (k ∷ ks) (terms_of args) os []
  left_together c d0 d1 d2 e1 e2 =
      let b : RawTerms = before_taken (k ∷ ks) (terms_of args) in
      let a : RawTerms = behind_taken (k ∷ ks) (terms_of args) in
      let q : terms_of d2 ≡ join (terms_of d0) (join b a) =
      e2 ∙ ap (λ us. join us (others k (k ∷ ks) (terms_of (drop at args)))) (e1 ∙ ap (join (terms_of d0)) before_is) ∙ ap (join (join (terms_of d0) b)) behind_is ∙ join_assoc (terms_of d0) b a in (
        list_of (join b a),
        piles.put_behind d0 d2 (join b a) q,
        record { behind = []; jobs = refl; together = λ h. (terms_of-list_of (join b a), refl); apart = λ h. absurd (both_ways _ h c) },
      )

  -- those before are put behind those that are done, and the others wait
  pub left_apart : is_comm sig f ≡ false → (d0 d1 us : List RawTerm) → terms_of d1 ≡ join (terms_of d0) (terms_of (take at args)) → terms_of us ≡ others k (k ∷ ks) (terms_of (drop at args))
      → (os : List RawTerm) × (d1 ≡ d0 ++ os) × IsLeft sig f (k ∷ ks) (terms_of args) os (waiting_normal us)
  left_apart c d0 d1 us e1 e2 =
      let b : RawTerms = before_taken (k ∷ ks) (terms_of args) in (
        list_of b,
        piles.put_behind d0 d1 b (e1 ∙ ap (join (terms_of d0)) before_is),
        record { behind = us; jobs = refl; together = λ h. absurd (both_ways _ c h); apart = λ h. (terms_of-list_of b, e2 ∙ behind_is) },
      )
