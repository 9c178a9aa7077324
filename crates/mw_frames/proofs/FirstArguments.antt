-- The first argument leaves the hole of a frame, a long list; one waits, and all of them are one term.
use Rattle.std.specs.Prelude.{◌≡◌, ◌≤◌, ℕ, List, [], ◌∷◌, ◌++◌, length, take, drop, true, false}
use Rattle.std.specs.Prelude.{Option, Some, None, IsNone, option_to_list}
use Rattle.std.proofs.Common.{sym, subst, ap, refl, ◌∙◌, arith, drop_of_length-le, append-nil, length-append}
use Rattle.mw_logic.specs.Term.{RawTerm, RawTerms, apply, join}
use Rattle.mw_logic.specs.Terms.{terms_of, args_of}
use Rattle.mw_logic.specs.Signature.{Signature}
use Rattle.mw_logic.specs.Accepted.{IsAccepted, IsWellSorted}
use Rattle.mw_logic.specs.Parts.{is_assoc}
use Rattle.mw_logic.specs.NormalForm.{is_comm, identity_of, arranged, applied_in}
use Rattle.mw_logic.proofs.Canonical.{Each, IsElement}
use Rattle.mw_deduction.specs.Replay as Replay
use Rattle.mw_deduction.specs.Replay.{Move}
use Rattle.mw_deduction.specs.Stands.{AreStanding}
use Rattle.mw_stack.specs.Own.{own, spread, own_with, IsOrdered}
use Rattle.mw_stack.proofs.LongLists.{list_opened, long_spread}
use Rattle.mw_frames.specs.declared.job.Job.{Job}
use Rattle.mw_frames.specs.declared.job.Job.TheVariants.{Normal, Try}
use Rattle.mw_frames.specs.declared.job.Frame.{Frame}
use Rattle.mw_frames.specs.Jobs.{term_of, weights}
use Rattle.mw_frames.specs.State.{Run, InHand, Settled, IsDone}
use Rattle.mw_frames.specs.Lists.{IsLongList}
use Rattle.mw_frames.proofs.LastArguments.{with_own, with_own-behind, with_own-below}
use Rattle.mw_frames.proofs.Turning.{leaves, settles, finishes, normal_waits, own_fair, weights-append}

-- the last job of two lists that are the same
ends_same : (xs ys : List Job) (x y : Job) → xs ++ x ∷ [] ≡ ys ++ y ∷ [] → (xs ≡ ys) × (x ≡ y)
ends_same [] [] x y e = (refl, cc)
ends_same [] (b ∷ ys) x y e = absurd (let n = ap length e in let a = length-append ys (y ∷ []) in omega (arith, n, a))
ends_same (a ∷ xs) [] x y e = absurd (let n = ap length e in let b = length-append xs (x ∷ []) in omega (arith, n, b))
ends_same (a ∷ xs) (b ∷ ys) x y e = let r = ends_same xs ys x y (ap (drop 1) e) in let o : a ≡ b = cc in (rw (o, r.0) refl, r.1)

pub last_taken : (js xs new : List Job) (t : RawTerm) (o : Option Job) (n : ℕ) → js ≡ xs ++ Normal t ∷ [] → length xs ≡ n → js ≡ new ++ option_to_list o → (IsNone o → length js ≤ n) → (new ≡ xs) × (o ≡ Some (Normal t))
last_taken js xs new t None n e c p none = absurd (let a = length-append xs (Normal t ∷ []) in let l = ap length e in let z = none refl in omega (arith, a, l, c, z))
last_taken js xs new t (Some x) n e c p none = let r = ends_same new xs x (Normal t) (sym p ∙ e) in (r.0, ap Some r.1)

pub lighter : (S : Signature) (vs : List RawTerm) (js new : List Job) (o : Option Job) → js ≡ new ++ option_to_list o → weights S vs new ≤ weights S vs js
lighter S vs js new None e = let a = ap (weights S vs) (e ∙ append-nil new) in omega (arith, a)
lighter S vs js new (Some x) e = let a = ap (weights S vs) e in let b = weights-append S vs new x in omega (arith, a, b)

module _ (K : Run) (ok : IsAccepted K.over.signature) (sorted : IsWellSorted K.over.signature) (count : ℕ) (vs : List RawTerm) (ms ns : List Move) (f : Frame) (fs : List Frame) (ds : List RawTerm) (xs : List Job) (t : RawTerm) (x : Job) (start : AreStanding K.over K.start) (h : InHand K count (record { frames = f ∷ fs; done = ds; jobs = xs ++ Normal t ∷ []; values = vs; moves = ms }) x) (lv : Replay.Leaves ms ns) (w : length xs ≡ f.waits) (none : length ds ≡ f.from) (l : IsLongList K.over.signature f.op (term_of K.over.signature vs x)) (d : Each (IsDone K.over K.rank f.op) (spread K.over.signature f.op (term_of K.over.signature vs x))) where
  abbrev sig : Signature
  sig = K.over.signature

  abbrev first : RawTerm
  first = term_of sig vs x

  -- what the frame has when the list is done, and then the last argument
  abbrev begun : List RawTerm
  begun = with_own f.from ds (own_with sig f.op f.from ds first)

  abbrev all : RawTerms
  all = own_with sig f.op f.from begun t

  abbrev ended : List RawTerm
  ended = with_own f.from begun all

  within : f.from ≤ length ds
  within = omega (arith, none)

  begun_behind : own f.from begun ≡ own_with sig f.op f.from ds first
  begun_behind = with_own-behind f.from ds (own_with sig f.op f.from ds first) within

  settles_first : Settled K count (record { frames = fs; done = begun; jobs = xs ++ Normal t ∷ []; values = vs; moves = ns }) f
  settles_first = leaves K ok sorted count vs ms ns f fs ds begun (xs ++ Normal t ∷ []) x start h lv (with_own-below f.from ds (own_with sig f.op f.from ds first) within) begun_behind d

  waits : f.waits ≤ length xs
  waits = omega (arith, w)

  -- the last argument is in order under the operator
  pub last_waits : (f.from ≤ length begun) × IsOrdered sig f.op (own f.from begun) × IsOrdered sig f.op (spread sig f.op t)
  last_waits = normal_waits K ok sorted count vs ns f fs begun xs t waits settles_first

  ended_behind : own f.from ended ≡ all
  ended_behind = with_own-behind f.from begun all last_waits.0

  settles_both : Settled K count (record { frames = fs; done = ended; jobs = xs; values = vs; moves = ns }) f
  settles_both = settles K ok sorted count vs ns f fs begun ended xs t waits settles_first (with_own-below f.from begun all last_waits.0) ended_behind

  -- they are the list's elements and, behind them, what the last one is under the operator
  all_is : all ≡ join (terms_of l.elements) (spread sig f.op t)
  all_is =
      let e : own f.from ds ≡ terms_of [] = ap terms_of (drop_of_length-le ds (omega (arith, none))) in
      let s : spread sig f.op first ≡ terms_of l.elements = ap (spread sig f.op) l.is ∙ long_spread sig f.op l.elements l.assoc l.several in
      let o : own_with sig f.op f.from ds first ≡ terms_of l.elements = ap (λ c. arranged c (join (own f.from ds) (spread sig f.op first))) l.ordered ∙ ap (λ us. join us (spread sig f.op first)) e ∙ s in
      ap (λ c. arranged c (join (own f.from begun) (spread sig f.op t))) l.ordered ∙ ap (λ us. join us (spread sig f.op t)) (begun_behind ∙ o)

  made : (u : RawTerm) → u ≡ apply f.op (join (args_of first) (spread sig f.op t)) → u ≡ applied_in sig f.op (own f.from ended)
  made u e =
      let fair = own_fair K ok sorted count vs ns f fs ended xs settles_both (omega (arith, w)) in
      let q : own f.from ended ≡ join (terms_of l.elements) (spread sig f.op t) = ended_behind ∙ all_is in
      let k : Each (IsElement (identity_of sig f.op) f.op) (join (terms_of l.elements) (spread sig f.op t)) = subst (Each (IsElement (identity_of sig f.op) f.op)) q (fair.1 l.assoc) in
      e ∙ ap (λ z. apply f.op (join (args_of z) (spread sig f.op t))) l.is ∙ list_opened sig f.op l.elements (spread sig f.op t) l.assoc l.ordered l.several k ∙ ap (applied_in sig f.op) (sym q)

  pub leaves_first : (u : RawTerm) → u ≡ apply f.op (join (args_of first) (spread sig f.op t)) → InHand K count (record { frames = fs; done = take f.from ds; jobs = xs; values = vs; moves = ns }) (Try u)
  leaves_first u e =
      subst (λ zs. InHand K count (record { frames = fs; done = zs; jobs = xs; values = vs; moves = ns }) (Try u))
      (with_own-below f.from begun all last_waits.0 ∙ with_own-below f.from ds (own_with sig f.op f.from ds first) within)
      (finishes K ok sorted count vs ns f fs ended xs u settles_both (omega (arith, w)) (made u e))
