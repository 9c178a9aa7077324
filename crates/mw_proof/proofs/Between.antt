-- Pieces under an associative operator, one after another.
use Rattle.std.specs.Prelude.{◌≡◌, ◌<◌, ◌+◌, ◌==◌, ◌++◌, ℕ, max, List, [], ◌∷◌, length, take, Bool, true, false, cond, Option, refl}
use Rattle.std.proofs.Common.{sym, subst, ap, ◌∙◌, arith}
use Rattle.std.proofs.Common.{get_or}
use Rattle.std.proofs.Math.Dec.{eqb-suc-zero}
use Rattle.std.proofs.lemmas.List.{take_more}
use Rattle.mw_logic.specs.Terms.{terms_of}
use Rattle.mw_logic.specs.Term.{RawTerm, RawTerms, nil, cons, join}
use Rattle.mw_logic.specs.Signature.{Signature, Identity}
use Rattle.mw_logic.specs.Accepted.{IsAccepted}
use Rattle.mw_logic.specs.Parts.{is_assoc, nested}
use Rattle.mw_logic.specs.NormalForm.{is_comm, identity_of, elements, flattened, rebuilt, arranged, applied_in}
use Rattle.mw_logic.specs.Module.{Module}
use Rattle.mw_logic.proofs.Canonical.{Each-join, IsCanonical, AreCanonical, canonical, each_canonical, all_canonical, flattened-elements, elements_are, flattened_are}
use Rattle.mw_logic.proofs.CanonicalTerms.{applied-elements}
use Rattle.mw_logic.proofs.Replacing.{flattened-join}
use Rattle.mw_logic.proofs.SortLaws.{join-nil, join_assoc}
use Rattle.mw_logic.proofs.Soundness.{IsLong}
use Rattle.mw_canon.specs.Canonical.{IsAdmittedTerm}
use Rattle.mw_deduction.specs.Standing.{filled, IsClear}
use Rattle.mw_deduction.specs.Runs.{Dones, none, both}
use Rattle.mw_deduction.specs.Under.{under_dones}
use Rattle.mw_deduction.specs.Replay.{opened}
use Rattle.mw_deduction.proofs.Carrying.{both_none}
use Rattle.mw_deduction.proofs.RunLaws.{both-assoc}
use Rattle.mw_proof.specs.Deductions.{Deduction, IsDeduction}
use Rattle.mw_proof.specs.declared.besides.Piece.{Piece}
use Rattle.mw_proof.specs.declared.besides.Piece.TheVariants.{Rest, Part}
use Rattle.mw_proof.specs.Beside.{start_of, starts, stops, highest, between, is_nothing, beside_dones, AreElements, AreBeside, run_beside, IsReady, GoesOn, MayStand, Stands}

pub nothing_behind : (xs ys : List RawTerm) → length xs ≡ 0 → (length ys == 0) ≡ is_nothing (join (terms_of xs) (terms_of ys))
nothing_behind [] [] h = refl
nothing_behind [] (y ∷ ys) h = eqb-suc-zero (length ys)
nothing_behind (x ∷ xs) ys h = absurd (omega (arith, h))

pub something_there : (xs : List RawTerm) (ts : RawTerms) → (length xs ≡ 0 → ⊥) → is_nothing (join (terms_of xs) ts) ≡ false
something_there [] ts h = absurd (h refl)
something_there (x ∷ xs) ts h = refl

-- one piece more
starts-append : (ps qs : List Piece) → starts (ps ++ qs) ≡ join (starts ps) (starts qs)
starts-append [] qs = refl
starts-append (p ∷ ps) qs = ap (cons (start_of p)) (starts-append ps qs)

pub starts_more : (e : Option Identity) (f : ℕ) (ps : List Piece) (i : ℕ) (p : Piece) → i < length ps → p ≡ get_or ps i p → flattened e f (starts (take (i + 1) ps)) ≡ join (flattened e f (starts (take i ps))) (elements e f (start_of p))
starts_more e f ps i p h is =
    ap (λ xs. flattened e f (starts xs)) (take_more ps i p h ∙ ap (λ x. take i ps ++ x ∷ []) (sym is)) ∙ ap (flattened e f) (starts-append (take i ps) (p ∷ []))
    ∙ flattened-join e f (starts (take i ps)) (cons (start_of p) nil) ∙ ap (join (flattened e f (starts (take i ps)))) (join-nil (elements e f (start_of p)))

module _ (M : Module) (ok : IsAccepted M.signature) (f : ℕ) (assoc : is_assoc M.signature f ≡ true) where
  abbrev sig : Signature
  sig = M.signature

  abbrev e : Option Identity
  e = identity_of sig f

  pub more_elements : (b : RawTerms) (t : RawTerm) → AreElements sig f b → IsCanonical sig t → AreElements sig f (join b (elements e f t))
  more_elements b t h k =
      let (x, y) = elements_are sig ok f assoc t k in
      record { canonical = all_canonical sig (join b (elements e f t)) (Each-join _ b (elements e f t) (each_canonical sig b h.canonical) y); elements = Each-join _ b (elements e f t) h.elements x }

  flat_are : (ts : RawTerms) → AreCanonical sig ts → AreElements sig f (flattened e f ts)
  flat_are ts k = let (x, y) = flattened_are sig ok f assoc ts k in record { canonical = all_canonical sig (flattened e f ts) y; elements = x }

  -- the operator sees elements alone
  same_elements : (xs ys : RawTerms) → flattened e f xs ≡ flattened e f ys → applied_in sig f xs ≡ applied_in sig f ys
  same_elements xs ys q = rw assoc (ap (λ zs. rebuilt e f (arranged (is_comm sig f) zs)) q)

  flat : (b : RawTerms) → AreElements sig f b → flattened e f b ≡ b
  flat b h = flattened-elements e f b h.elements

  pub of_flattened : (ts : RawTerms) → AreCanonical sig ts → applied_in sig f (flattened e f ts) ≡ applied_in sig f ts
  of_flattened ts k = same_elements (flattened e f ts) ts (flat (flattened e f ts) (flat_are ts k))

  -- a term is in the list as its elements are
  spread_flat : (b : RawTerms) (t : RawTerm) (ts : RawTerms) → AreElements sig f b → IsCanonical sig t → flattened e f (join (join b (elements e f t)) ts) ≡ flattened e f (join b (cons t ts))
  spread_flat b t ts h k =
      let es : RawTerms = elements e f t in
      let own : flattened e f es ≡ es = flattened-elements e f es (elements_are sig ok f assoc t k).0 in
      flattened-join e f (join b es) ts ∙ ap (λ z. join z (flattened e f ts)) (flattened-join e f b es ∙ ap (join (flattened e f b)) own) ∙ join_assoc (flattened e f b) es (flattened e f ts) ∙ sym (flattened-join e f b (cons t ts))

  pub spread_in : (b : RawTerms) (t : RawTerm) (ts : RawTerms) → AreElements sig f b → IsCanonical sig t → applied_in sig f (join (join b (elements e f t)) ts) ≡ applied_in sig f (join b (cons t ts))
  spread_in b t ts h k = same_elements (join (join b (elements e f t)) ts) (join b (cons t ts)) (spread_flat b t ts h k)

  -- a term between elements before it and those of the terms behind it
  pub filled_between : (b : RawTerms) (t : RawTerm) (ts : RawTerms) → AreCanonical sig ts → filled sig (opened f b (flattened e f ts)) t ≡ applied_in sig f (join b (cons t ts))
  filled_between b t ts k =
      same_elements (join b (cons t (flattened e f ts))) (join b (cons t ts))
      (flattened-join e f b (cons t (flattened e f ts)) ∙ ap (λ z. join (flattened e f b) (join (elements e f t) z)) (flat (flattened e f ts) (flat_are ts k)) ∙ sym (flattened-join e f b (cons t ts)))

  pub clear_between : (b ts : RawTerms) → AreElements sig f b → AreCanonical sig ts → is_nothing (join b (flattened e f ts)) ≡ false → IsClear sig (opened f b (flattened e f ts))
  clear_between b ts h k n =
      let g = flat_are ts k in
      record { before = h.canonical; after = g.canonical; before_elements = λ m. h.elements; after_elements = λ m. g.elements; others = λ m. long (join b (flattened e f ts)) n }
    where
      long : (xs : RawTerms) → is_nothing xs ≡ false → IsLong xs
      long nil q = cc
      long (cons x xs) q = tt

  -- alone a term is what the operator makes of it
  pub alone_there : (b : RawTerms) (t : RawTerm) (ts : RawTerms) → IsCanonical sig t → is_nothing (join b (flattened e f ts)) ≡ true → applied_in sig f (join b (cons t ts)) ≡ t
  alone_there (cons x b) t ts k n = cc
  alone_there nil t ts k n = by_list (flattened e f ts) refl n
    where
      by_list : (zs : RawTerms) → flattened e f ts ≡ zs → is_nothing zs ≡ true → applied_in sig f (cons t ts) ≡ t
      by_list (cons z zs) q m = cc
      by_list nil q m =
          let es : RawTerms = elements e f t in
          let own : flattened e f es ≡ es = flattened-elements e f es (elements_are sig ok f assoc t k).0 in
          same_elements (cons t ts) es (ap (join es) q ∙ join-nil es ∙ sym own) ∙ applied-elements sig ok f assoc t k

  -- the pieces begin with canonical terms
  pub starts_canonical : (b : RawTerms) (ps : List Piece) → AreBeside M f b ps → AreCanonical sig (starts ps)
  starts_canonical b [] h = tt
  starts_canonical b (Rest t ∷ ps) h = (h.0, starts_canonical (join b (elements e f t)) ps h.1)
  starts_canonical b (Part d ∷ ps) h = (h.1, starts_canonical (join b (elements e f d.to)) ps h.3)

  pub rest_passed : (b : RawTerms) (t : RawTerm) (ps : List Piece) (p : Deduction) → IsReady M f b (Rest t ∷ ps) p → IsReady M f (join b (elements e f t)) ps p × GoesOn sig f b (Rest t ∷ ps) p (join b (elements e f t)) ps p
  rest_passed b t ps p h = (
    record { over = h.over; hand = h.hand ∙ sym (spread_in b t (starts ps) h.elements h.beside.0); elements = more_elements b t h.elements h.beside.0; beside = h.beside.1 },
    record { from = refl; run = refl; stops = spread_in b t (stops ps) h.elements h.beside.0; rank = omega arith },
  )

  pub part_passed : (b : RawTerms) (d : Deduction) (ps : List Piece) (p s q : Deduction) → IsReady M f b (Part d ∷ ps) p → IsCanonical sig d.to
      → s.to ≡ applied_in sig f (join b (cons d.to (starts ps))) → s.run ≡ beside_dones sig (between sig f b ps) d.run → s.rank ≡ d.rank
      → q.over ≡ p.over → q.from ≡ p.from → q.to ≡ s.to → q.run ≡ both p.run s.run → q.rank ≡ max p.rank s.rank
      → IsReady M f (join b (elements e f d.to)) ps q × GoesOn sig f b (Part d ∷ ps) p (join b (elements e f d.to)) ps q
  part_passed b d ps p s q h k to run rank qo qf qt qr qn =
      let rest : Dones = run_beside sig f (join b (elements e f d.to)) ps in (
        record { over = qo ∙ h.over; hand = qt ∙ to ∙ sym (spread_in b d.to (starts ps) h.elements k); elements = more_elements b d.to h.elements k; beside = h.beside.3 },
        record {
          from = qf;
          run = ap (λ x. both x rest) (qr ∙ ap (both p.run) run) ∙ both-assoc p.run (beside_dones sig (between sig f b ps) d.run) rest;
          stops = spread_in b d.to (stops ps) h.elements k;
          rank = omega (arith, qn, rank);
        },
      )

  -- a part in its place, or alone
  pub stands_alone : (b a : RawTerms) (d : Deduction) → is_nothing (join b a) ≡ true → Stands sig f b a d d
  stands_alone b a d n = record {
    from = sym (ap (λ m. cond m d.from (filled sig (opened f b a) d.from)) n);
    to = sym (ap (λ m. cond m d.to (filled sig (opened f b a) d.to)) n);
    run = sym (ap (λ m. cond m d.run (under_dones sig (opened f b a ∷ []) d.run)) n);
  }

  pub stands_under : (b a : RawTerms) (d p : Deduction) → is_nothing (join b a) ≡ false → p.from ≡ filled sig (opened f b a) d.from → p.to ≡ filled sig (opened f b a) d.to → p.run ≡ under_dones sig (opened f b a ∷ []) d.run → Stands sig f b a d p
  stands_under b a d p n from to run = record {
    from = from ∙ sym (ap (λ m. cond m d.from (filled sig (opened f b a) d.from)) n);
    to = to ∙ sym (ap (λ m. cond m d.to (filled sig (opened f b a) d.to)) n);
    run = run ∙ sym (ap (λ m. cond m d.run (under_dones sig (opened f b a ∷ []) d.run)) n);
  }

  module _ (b : RawTerms) (d : Deduction) (ps : List Piece) (p : Deduction) (h : IsReady M f b (Part d ∷ ps) p) where
    abbrev behind : RawTerms
    behind = flattened e f (starts ps)

    behind_canonical : AreCanonical sig (starts ps)
    behind_canonical = starts_canonical (join b (elements e f d.to)) ps h.beside.3

    pub may_stand : IsAdmittedTerm sig p.to → (x y : RawTerms) → x ≡ b → y ≡ behind → MayStand M f x y d
    may_stand a x y i j =
        let here : MayStand M f b behind d = record {
          clear = λ n. clear_between b (starts ps) h.elements behind_canonical n;
          begins = λ n. subst (IsAdmittedTerm sig) (h.hand ∙ sym (filled_between b d.from (starts ps) behind_canonical)) a;
          may = h.beside.2;
        } in
        subst (λ z. MayStand M f z y d) (sym i) (subst (λ z. MayStand M f b z d) (sym j) here)

    in_place : (t : RawTerm) → IsCanonical sig t → cond (is_nothing (join b behind)) t (filled sig (opened f b behind) t) ≡ applied_in sig f (join b (cons t (starts ps)))
    in_place t k = by_test (is_nothing (join b behind)) refl
      where
        by_test : (m : Bool) → is_nothing (join b behind) ≡ m → cond m t (filled sig (opened f b behind) t) ≡ applied_in sig f (join b (cons t (starts ps)))
        by_test true n = sym (alone_there b t (starts ps) k n)
        by_test false n = filled_between b t (starts ps) behind_canonical

    module _ (x y : RawTerms) (i : x ≡ b) (j : y ≡ behind) (s : Deduction) (stands : Stands sig f x y d s) where
      here : Stands sig f b behind d s
      here = subst (λ z. Stands sig f b z d s) j (subst (λ z. Stands sig f z y d s) i stands)

      pub step_from : s.from ≡ p.to
      step_from = here.from ∙ in_place d.from h.beside.1 ∙ sym h.hand

      pub step_to : IsCanonical sig d.to → s.to ≡ applied_in sig f (join b (cons d.to (starts ps)))
      step_to k = here.to ∙ in_place d.to k

      pub step_run : s.run ≡ beside_dones sig (between sig f b ps) d.run
      step_run = here.run

  ended_canonical : (d : Deduction) → IsDeduction d → d.over ≡ M → IsCanonical sig d.to
  ended_canonical d h o = let a : IsAdmittedTerm sig d.to = subst (λ X. IsAdmittedTerm X.signature d.to) o h.ends in subst (IsCanonical sig) a.canonical (canonical sig ok (nested sig d.to))

  pub ended_admitted : (d : Deduction) → IsDeduction d → d.over ≡ M → IsAdmittedTerm sig d.to
  ended_admitted d h o = subst (λ X. IsAdmittedTerm X.signature d.to) o h.ends

  pub part_canonical : (b : RawTerms) (d : Deduction) (ps : List Piece) → AreBeside M f b (Part d ∷ ps) → IsDeduction d → IsCanonical sig d.to
  part_canonical b d ps h x = ended_canonical d x h.0

  -- as they are built
  abbrev Passed : RawTerms → List Piece → Deduction → RawTerms → List Piece → Deduction → Type 0
  Passed b ps p c qs q = IsReady M f c qs q × GoesOn sig f b ps p c qs q

  pub rest_built : (b : RawTerms) (x : Piece) (t : RawTerm) (ps : List Piece) (p : Deduction) (c : RawTerms) → IsReady M f b (x ∷ ps) p → x ≡ Rest t → c ≡ join b (elements e f t) → Passed b (x ∷ ps) p c ps p
  rest_built b x t ps p c h i j =
      let k : IsReady M f b (Rest t ∷ ps) p = subst (λ y. IsReady M f b (y ∷ ps) p) i h in
      let r : Passed b (Rest t ∷ ps) p (join b (elements e f t)) ps p = rest_passed b t ps p k in
      subst (λ y. Passed b (y ∷ ps) p c ps p) (sym i) (subst (λ z. Passed b (Rest t ∷ ps) p z ps p) (sym j) r)

  pub part_built : (b : RawTerms) (x : Piece) (d : Deduction) (ps : List Piece) (p s q : Deduction) (c : RawTerms) → IsReady M f b (x ∷ ps) p → x ≡ Part d → c ≡ join b (elements e f d.to) → IsDeduction d
      → s.to ≡ applied_in sig f (join b (cons d.to (starts ps))) → s.run ≡ beside_dones sig (between sig f b ps) d.run → s.rank ≡ d.rank
      → q.over ≡ p.over → q.from ≡ p.from → q.to ≡ s.to → q.run ≡ both p.run s.run → q.rank ≡ max p.rank s.rank → Passed b (x ∷ ps) p c ps q
  part_built b x d ps p s q c h i j is to run rank qo qf qt qr qn =
      let k : IsReady M f b (Part d ∷ ps) p = subst (λ y. IsReady M f b (y ∷ ps) p) i h in
      let r : Passed b (Part d ∷ ps) p (join b (elements e f d.to)) ps q = part_passed b d ps p s q k (part_canonical b d ps k.beside is) to run rank qo qf qt qr qn in
      subst (λ y. Passed b (y ∷ ps) p c ps q) (sym i) (subst (λ z. Passed b (Part d ∷ ps) p z ps q) (sym j) r)

  -- where no piece is left
  pub all_passed : (ps : List Piece) (p q : Deduction) (b : RawTerms) (rest : List Piece) → length rest ≡ 0 → p.run ≡ none → p.rank ≡ 0 → IsReady M f b rest q → GoesOn sig f nil ps p b rest q
      → (q.to ≡ applied_in sig f (stops ps)) × (q.run ≡ run_beside sig f nil ps) × (q.rank ≡ highest ps)
  all_passed ps p q b (x ∷ rest) n i j h g = absurd (omega (arith, n))
  all_passed ps p q b [] n i j h g = (h.hand ∙ g.stops, sym (both_none q.run) ∙ g.run ∙ ap (λ ds. both ds (run_beside sig f nil ps)) i, (let r = g.rank in omega (arith, r, j)))
