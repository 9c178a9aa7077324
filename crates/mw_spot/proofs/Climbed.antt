-- A place in the innermost hole, as a place in the whole.
use Rattle.std.specs.Prelude.{◌≡◌, ◌+◌, ℕ, suc, List, [], ◌∷◌, ◌++◌, take, drop, reverse, Bool, true, false, ◌||◌, Option, None, All, IsTrue, ⊤, refl}
use Rattle.std.proofs.Common.{ap, sym, subst, ◌∙◌, inl, inr, ⊎_elim, arith}
use Rattle.std.proofs.lemmas.Bool.{or_left}
use Rattle.std.proofs.lemmas.List.Elements.{All-head, All-tail}
use Rattle.std.proofs.lemmas.List.{take-append-drop, reverse-append}
use Rattle.mw_logic.specs.Term.{RawTerm, RawTerms, nil, cons, join, Context, plug}
use Rattle.mw_logic.specs.Signature.{Signature, Operator, IsOperator, IsRawTerm}
use Rattle.mw_logic.specs.Accepted.{IsAccepted}
use Rattle.mw_logic.specs.Parts.{is_assoc, nested, all_nested, chain, number_of_terms, IsFrozenArgument}
use Rattle.mw_logic.specs.NormalForm.{is_comm, normal_form}
use Rattle.mw_logic.specs.CanonicalPart.{IsOpen}
use Rattle.mw_logic.specs.Module.{Module}
use Rattle.mw_logic.proofs.Canonical.{IsCanonical, canonical}
use Rattle.mw_logic.proofs.ContextLaws.{plug-append}
use Rattle.mw_logic.proofs.Frozen.{IsUnfrozen, IsOpenContext, open_first, open-iff}
use Rattle.mw_logic.proofs.Inside.{raw_inside}
use Rattle.mw_logic.proofs.Soundness.{IsLong}
use Rattle.mw_deduction.specs.Places.{frame, context_of}
use Rattle.mw_deduction.specs.Standing.{Open, filled, context_at, round, IsClear, AreClear}
use Rattle.mw_deduction.specs.Stands.{IsStanding}
use Rattle.mw_deduction.specs.Replay.{Stand, whole, MayReplace}
use Rattle.mw_spot.specs.Walks.{Walked, AreOrderly, IsAt}
use Rattle.mw_spot.specs.Spots.{places, is_spread, raised_path, raised_take, AreOpenHoles, StandsIn, ReplacesPart, IsFree, passed}
use Rattle.mw_spot.proofs.Held.{whole-append, stands_within, stands_beyond}
use Rattle.mw_spot.proofs.Fewer.{rises_part}

number-nested : (sig : Signature) (ts : RawTerms) → number_of_terms (all_nested sig ts) ≡ number_of_terms ts
number-nested sig nil = refl
number-nested sig (cons t ts) = ap suc (number-nested sig ts)

module _ (sig : Signature) where
  abbrev pub AreFree : List Open → Type 0
  AreFree [] = ⊤
  AreFree (o ∷ os) = IsFree sig o × AreFree os

  free-append : (os ps : List Open) → AreFree os → AreFree ps → AreFree (os ++ ps)
  free-append [] ps h k = k
  free-append (o ∷ os) ps h k = (h.0, free-append os ps h.1 k)

  free_reversed : (os : List Open) → All (IsFree sig) os → AreFree (reverse os)
  free_reversed [] h = tt
  free_reversed (o ∷ os) h =
      subst AreFree (sym (reverse-append (o ∷ []) os)) (free-append (reverse os) (o ∷ []) (free_reversed os (All-tail (IsFree sig) o os h)) (All-head (IsFree sig) o os h, tt))

module _ (sig : Signature) (ok : IsAccepted sig) (r : Bool) where
  parts_open : (C D : Context) → IsOpenContext sig r (C ++ D) → IsOpenContext sig r C × IsOpenContext sig r D
  parts_open [] D p = (λ t x. x, p)
  parts_open (c ∷ C) D p =
      let q = parts_open C D (λ t x. p t (inr x)) in
      (λ t. ⊎_elim (λ x. p t (inl x)) (q.0 t), q.1)

  -- of an associative operator both arguments are frozen, or none
  second_too : (f : ℕ) → is_assoc sig f ≡ true → IsFrozenArgument sig f 1 → IsFrozenArgument sig f 2
  second_too f h x = (x.0, x.1, (ok.frozen f x.0 x.1 (known x.0 x.1)).0 x.2)
    where
      known : (o : Operator) → IsOperator sig f o → IsTrue (o.assoc || o.comm)
      known o e = or_left o.assoc o.comm (rw e at h)

  unfrozen_open : (f i : ℕ) → is_assoc sig f ≡ true → IsUnfrozen sig r f 1 → IsOpen sig r f i
  unfrozen_open f i h p = let k : (is_assoc sig f || is_comm sig f) ≡ true = or_left (is_assoc sig f) (is_comm sig f) h in rw k p

  hole_open : (o : Open) (u : RawTerm) → IsRawTerm sig (plug (context_at sig o) u) → IsClear sig o → IsOpenContext sig r (context_at sig o) → IsOpen sig r o.operator (suc (number_of_terms o.before))
  hole_open o u raw clear p = by_assoc (is_assoc sig o.operator) refl raw p
    where
      f : ℕ
      f = o.operator

      of_plain : IsRawTerm sig (plug (context_of false o.operator (all_nested sig o.before) (all_nested sig o.after)) u) → IsOpenContext sig r (context_of false o.operator (all_nested sig o.before) (all_nested sig o.after))
          → IsOpen sig r o.operator (suc (number_of_terms o.before))
      of_plain raw p =
          subst (λ n. IsOpen sig r o.operator (suc n)) (number-nested sig o.before)
          ((open-iff sig ok r o.operator (all_nested sig o.before) u (all_nested sig o.after) raw).0 (open_first sig r (frame o.operator (all_nested sig o.before) (all_nested sig o.after)) [] p))

      of_assoc : is_assoc sig o.operator ≡ true → (b a : RawTerms) → IsLong (join b a) → IsOpenContext sig r (context_of true o.operator (all_nested sig b) (all_nested sig a)) → IsUnfrozen sig r o.operator 1
      of_assoc h nil nil l p = absurd l
      of_assoc h nil (cons t ts) l p = open_first sig r (frame o.operator nil (cons (chain o.operator (nested sig t) (all_nested sig ts)) nil)) [] p
      of_assoc h (cons t ts) a l p =
          let c = frame o.operator (cons (nested sig t) nil) nil in
          let q = (parts_open (context_of true o.operator (all_nested sig ts) (all_nested sig a)) (c ∷ []) p).1 in
          let s : IsUnfrozen sig r o.operator 2 = open_first sig r c [] q in
          λ e x. s e (second_too o.operator h x)

      by_assoc : (m : Bool) → is_assoc sig o.operator ≡ m → IsRawTerm sig (plug (context_of m o.operator (all_nested sig o.before) (all_nested sig o.after)) u)
          → IsOpenContext sig r (context_of m o.operator (all_nested sig o.before) (all_nested sig o.after)) → IsOpen sig r o.operator (suc (number_of_terms o.before))
      by_assoc false h raw p = of_plain raw p
      by_assoc true h raw p = unfrozen_open o.operator (suc (number_of_terms o.before)) h (of_assoc h o.before o.after (clear.others h) p)

  holes_open : (os : List Open) (u : RawTerm) → IsRawTerm sig (plug (round sig os) u) → AreClear sig os → IsOpenContext sig r (round sig os) → AreOpenHoles sig r os
  holes_open [] u raw clear p = tt
  holes_open (o ∷ os) u raw clear p =
      let q = parts_open (context_at sig o) (round sig os) p in
      let e : plug (context_at sig o ++ round sig os) u ≡ plug (round sig os) (plug (context_at sig o) u) = plug-append (context_at sig o) (round sig os) u in
      let s : IsRawTerm sig (plug (round sig os) (plug (context_at sig o) u)) = subst (IsRawTerm sig) e raw in
      (hole_open o u (raw_inside sig ok (round sig os) (plug (context_at sig o) u) s) clear.0 q.0, holes_open os (plug (context_at sig o) u) s clear.1 q.1)

  module _ (w x : RawTerm) (kx : IsCanonical sig x) where
    -- Through holes that are free a path goes on without a look at the term.
    passes : (os : List Open) (t y : RawTerm) (path : List ℕ) (take : Option (List ℕ)) → AreFree sig os → StandsIn sig r os t → ReplacesPart sig r w x path take t y
        → ReplacesPart sig r w x (passed os path) take (whole sig os t) (whole sig os y)
    passes [] t y path take free stands a = a
    passes (o ∷ os) t y path take free stands a =
        let p : is_assoc sig o.operator ≡ false = free.0.0 in
        let q : is_comm sig o.operator ≡ false = free.0.1 in
        let z : number_of_terms o.before + 0 + 1 ≡ number_of_terms o.before + 1 = omega arith in
        let one : raised_path (places sig (o ∷ [])) (is_spread sig o t) t path ≡ (number_of_terms o.before + 1) ∷ path = rw (p, q) (ap (λ n. n ∷ path) z) in
        let two : raised_take (places sig (o ∷ [])) (is_spread sig o t) t path take ≡ take = rw p refl in
        passes os (filled sig o t) (filled sig o y) ((number_of_terms o.before + 1) ∷ path) take free.1 (stands_beyond sig ok r (o ∷ []) os t stands)
        (subst (λ is. ReplacesPart sig r w x is take (filled sig o t) (filled sig o y)) one
        (subst (λ is. ReplacesPart sig r w x (raised_path (places sig (o ∷ [])) (is_spread sig o t) t path) is (filled sig o t) (filled sig o y)) two
        (rises_part sig ok r w x kx o [] tt t y (stands_within sig ok r (o ∷ []) os t stands) path take a)))

-- Where the innermost levels are climbed and the outermost passed, the place is that of the replacement.
pub stands_there : (M : Module) (sig : Signature) → M.signature ≡ sig → IsAccepted sig → (W : Walked) (S : Stand) (r : Bool) (w v : RawTerm) → IsAt sig W S → IsStanding M S → MayReplace M r S.opens S.hand w v
    → (levels : List Open) (n : ℕ) → reverse levels ≡ W.opens → All (IsFree sig) (take n levels) → (start path ways : List ℕ) (begun found taken : Option (List ℕ)) → start ≡ [] → begun ≡ None
    → (StandsIn sig r (reverse (drop n levels)) W.hand → IsCanonical sig (normal_form sig v) → ReplacesPart sig r S.hand (normal_form sig v) start begun W.hand (normal_form sig v)
    → ReplacesPart sig r S.hand (normal_form sig v) path found (whole sig (reverse (drop n levels)) W.hand) (whole sig (reverse (drop n levels)) (normal_form sig v)))
    → ways ≡ passed (reverse (take n levels)) path → taken ≡ found
    → ReplacesPart sig r S.hand (normal_form sig v) ways taken (whole sig S.opens S.hand) (whole sig S.opens (normal_form sig v))
stands_there M sig is ok W S r w v here stands may levels n e free start path ways begun found taken s b climbed l m =
    let os : List Open = reverse (drop n levels) in
    let ps : List Open = reverse (take n levels) in
    let t : RawTerm = S.hand in
    let x : RawTerm = normal_form sig v in
    let kx : IsCanonical sig x = canonical sig ok v in
    let parts : S.opens ≡ os ++ ps = here.opens ∙ sym e ∙ sym (ap reverse (take-append-drop n levels)) ∙ reverse-append (take n levels) (drop n levels) in
    let held : StandsIn sig r S.opens t = subst (λ sig. AreOrderly sig S.opens → StandsIn sig r S.opens t) is
    (λ o. record {
      orderly = o;
      clear = stands.at.clear;
      open_holes = holes_open M.signature (subst IsAccepted (sym is) ok) r S.opens (nested M.signature t) stands.at.raw stands.at.clear may.free;
      canonical = stands.at.canonical;
      seen = may.seen;
    }) (subst (AreOrderly sig) (sym here.opens) here.orderly) in
    let both : StandsIn sig r (os ++ ps) t = subst (λ os. StandsIn sig r os t) parts held in
    let begins : ReplacesPart sig r t x [] None t x = record {
      there = record { part = record { end = t; there = refl; taken = refl }; open_way = tt; becomes = refl };
      part = λ ks f ts e g. cc;
    } in
    let starts : ReplacesPart sig r t x start begun W.hand x =
    subst (λ path. ReplacesPart sig r t x path begun W.hand x) (sym s) (subst (λ take. ReplacesPart sig r t x [] take W.hand x) (sym b) (subst (λ u. ReplacesPart sig r t x [] None u x) here.hand begins)) in
    let inner : ReplacesPart sig r t x path found (whole sig os t) (whole sig os x) =
    subst (λ u. ReplacesPart sig r t x path found (whole sig os u) (whole sig os x)) (sym here.hand) (climbed (subst (StandsIn sig r os) here.hand (stands_within sig ok r os ps t both)) kx starts) in
    let outer : ReplacesPart sig r t x (passed ps path) found (whole sig ps (whole sig os t)) (whole sig ps (whole sig os x)) =
    passes sig ok r t x kx ps (whole sig os t) (whole sig os x) path found (free_reversed sig (take n levels) free) (stands_beyond sig ok r os ps t both) inner in
    let from : whole sig ps (whole sig os t) ≡ whole sig S.opens t = sym (whole-append sig os ps t) ∙ ap (λ os. whole sig os t) (sym parts) in
    let to : whole sig ps (whole sig os x) ≡ whole sig S.opens x = sym (whole-append sig os ps x) ∙ ap (λ os. whole sig os x) (sym parts) in
    subst (λ path. ReplacesPart sig r t x path taken (whole sig S.opens t) (whole sig S.opens x)) (sym l)
    (subst (λ take. ReplacesPart sig r t x (passed ps path) take (whole sig S.opens t) (whole sig S.opens x)) (sym m)
    (subst (λ u. ReplacesPart sig r t x (passed ps path) found u (whole sig S.opens x)) from (subst (ReplacesPart sig r t x (passed ps path) found (whole sig ps (whole sig os t))) to outer)))
