-- The last argument leaves the hole of a frame, and all of them are one term.
use Rattle.std.specs.Prelude.{◌≡◌, ◌≤◌, ℕ, List, ◌∷◌, ◌++◌, length, take, drop, true, refl}
use Rattle.std.proofs.Common.{sym, subst, ap, ◌∙◌, arith}
use Rattle.std.proofs.lemmas.List.{length-take, drop-append-le, take-append-le, take_all, drop_all}
use Rattle.mw_logic.specs.Term.{RawTerm, RawTerms, nil, cons}
use Rattle.mw_logic.specs.Terms.{terms_of, list_of}
use Rattle.mw_logic.specs.Signature.{Signature}
use Rattle.mw_logic.specs.Accepted.{IsAccepted, IsWellSorted}
use Rattle.mw_logic.specs.Parts.{is_assoc}
use Rattle.mw_logic.specs.NormalForm.{identity_of, applied_in}
use Rattle.mw_logic.proofs.Canonical.{Each, IsElement, AreCanonical}
use Rattle.mw_deduction.specs.Replay as Replay
use Rattle.mw_deduction.specs.Replay.{Move}
use Rattle.mw_deduction.specs.Stands.{AreStanding}
use Rattle.mw_stack.specs.Own.{own, spread, own_with, IsOrdered}
use Rattle.mw_frames.specs.declared.job.Job.{Job}
use Rattle.mw_frames.specs.declared.job.Job.TheVariants.{Try}
use Rattle.mw_frames.specs.declared.job.Frame.{Frame}
use Rattle.mw_frames.specs.Jobs.{term_of}
use Rattle.mw_frames.specs.State.{Run, InHand, Settled, IsDone}
use Rattle.mw_frames.proofs.Turning.{leaves, finishes, own_fair, spread_ordered}

terms_of-list_of : (ts : RawTerms) → terms_of (list_of ts) ≡ ts
terms_of-list_of nil = refl
terms_of-list_of (cons t ts) = ap (cons t) (terms_of-list_of ts)

-- other terms in place of those from a place on
abbrev pub with_own : ℕ → List RawTerm → RawTerms → List RawTerm
with_own from ds es = take from ds ++ list_of es

pub with_own-below : (from : ℕ) (ds : List RawTerm) (es : RawTerms) → from ≤ length ds → take from (with_own from ds es) ≡ take from ds
with_own-below from ds es l =
    let n = length-take from ds in take-append-le from (take from ds) (list_of es) (omega (arith, l, n)) ∙ take_all from (take from ds) (omega (arith, l, n))

pub with_own-behind : (from : ℕ) (ds : List RawTerm) (es : RawTerms) → from ≤ length ds → terms_of (drop from (with_own from ds es)) ≡ es
with_own-behind from ds es l =
    let n = length-take from ds in
    ap terms_of (drop-append-le from (take from ds) (list_of es) (omega (arith, l, n)) ∙ ap (λ xs. xs ++ list_of es) (drop_all from (take from ds) (omega (arith, l, n)))) ∙ terms_of-list_of es

module _ (K : Run) (ok : IsAccepted K.over.signature) (sorted : IsWellSorted K.over.signature) (count : ℕ) (vs : List RawTerm) (ms ns : List Move) (f : Frame) (fs : List Frame) (ds : List RawTerm) (xs : List Job) (x : Job) (start : AreStanding K.over K.start) (h : InHand K count (record { frames = f ∷ fs; done = ds; jobs = xs; values = vs; moves = ms }) x) (lv : Replay.Leaves ms ns) (w : length xs ≤ f.waits) (d : Each (IsDone K.over K.rank f.op) (spread K.over.signature f.op (term_of K.over.signature vs x))) where
  abbrev sig : Signature
  sig = K.over.signature

  -- all arguments of the frame
  abbrev pub all : RawTerms
  all = own_with sig f.op f.from ds (term_of sig vs x)

  settles_last : Settled K count (record { frames = fs; done = with_own f.from ds all; jobs = xs; values = vs; moves = ns }) f
  settles_last = leaves K ok sorted count vs ms ns f fs ds (with_own f.from ds all) xs x start h lv (with_own-below f.from ds all h.good.1) (with_own-behind f.from ds all h.good.1) d

  last_fair : AreCanonical sig all × (is_assoc sig f.op ≡ true → Each (IsElement (identity_of sig f.op) f.op) all)
  last_fair =
      let o = own_fair K ok sorted count vs ns f fs (with_own f.from ds all) xs settles_last w in
      let r : terms_of (drop f.from (with_own f.from ds all)) ≡ all = with_own-behind f.from ds all h.good.1 in
      (subst (AreCanonical sig) r o.0, λ a. subst (Each (IsElement (identity_of sig f.op) f.op)) r (o.1 a))

  -- what is told of the term u that t ends
  abbrev Tells : Signature → RawTerm → RawTerm → Type 0
  Tells S t u =
      f.from ≤ length ds → IsOrdered S f.op (own f.from ds) → IsOrdered S f.op (spread S f.op t) → AreCanonical S (own_with S f.op f.from ds t)
      → (is_assoc S f.op ≡ true → Each (IsElement (identity_of S f.op) f.op) (own_with S f.op f.from ds t)) → u ≡ applied_in S f.op (own_with S f.op f.from ds t)

  last_made : (S : Signature) (t u : RawTerm) → sig ≡ S → term_of sig vs x ≡ t → Tells S t u → u ≡ applied_in sig f.op all
  last_made S t u e p made =
      let a : Tells sig t u = subst (λ Z. Tells Z t u) (sym e) made in
      let b : Tells sig (term_of sig vs x) u = subst (λ z. Tells sig z u) (sym p) a in
      b h.good.1 h.good.0.order (spread_ordered K ok sorted count vs ms (f ∷ fs) ds xs x start h f.op) last_fair.0 last_fair.1

  pub leaves_last : (S : Signature) (t u : RawTerm) → sig ≡ S → term_of sig vs x ≡ t → Tells S t u → InHand K count (record { frames = fs; done = take f.from ds; jobs = xs; values = vs; moves = ns }) (Try u)
  leaves_last S t u e p made =
      subst (λ zs. InHand K count (record { frames = fs; done = zs; jobs = xs; values = vs; moves = ns }) (Try u)) (with_own-below f.from ds all h.good.1)
      (finishes K ok sorted count vs ns f fs (with_own f.from ds all) xs u settles_last w (last_made S t u e p made ∙ ap (applied_in sig f.op) (sym (with_own-behind f.from ds all h.good.1))))
