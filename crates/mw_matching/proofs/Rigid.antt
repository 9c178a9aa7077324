-- The lists of arguments of which the first r are elements, each once.
use Rattle.std.specs.Prelude.{◌≡◌, ◌+◌, ◌≤◌, ℕ, zero, suc, map, true, Option, refl}
use Rattle.std.proofs.Common.{inl, ap, sym, subst, ◌∙◌, arith}
use Rattle.mw_logic.specs.Term.{RawTerm, RawTerms, nil, cons}
use Rattle.mw_logic.specs.Signature.{Signature, Identity}
use Rattle.mw_logic.specs.Accepted.{IsAccepted}
use Rattle.mw_logic.specs.Parts.{is_assoc, Among}
use Rattle.mw_logic.specs.TermOrder.{insert_term, sorted_terms}
use Rattle.mw_logic.specs.NormalForm.{is_comm, identity_of, elements, flattened, arranged}
use Rattle.mw_logic.proofs.Elements.{taken, taken-insert}
use Rattle.mw_logic.proofs.Canonical.{Each, IsElement, IsCanonical, elements_are}
use Rattle.mw_logic.proofs.Inside.{Among-insert}
use Rattle.mw_logic.proofs.SortedLists.{Climbs, climbs, sorted_terms-climbing}
use Rattle.mw_split.specs.Lists.{AllOnce}
use Rattle.mw_arguments.specs.Arguments.{Spells, Gives}
use Rattle.mw_arguments.specs.Pieces.{ArePieces}
use Rattle.mw_arguments.specs.Bags.{runs, heads}
use Rattle.mw_arguments.specs.Splits.{pieces}
use Rattle.mw_arguments.proofs.Once.{once_mapped, once_flat_mapped, once_same}
use Rattle.mw_arguments.proofs.Arguments.{spellings, given, spelled, in_order}
use Rattle.mw_arguments.proofs.Standing.{each_among, put_back, each_taken, climbs_taken}
use Rattle.mw_arguments.proofs.Runs.{heads_once}
use Rattle.mw_arguments.proofs.Splits.{of_pieces}
use Rattle.mw_matching.specs.Rigid.{FirstAreElements, rigid_splits}

module _ (sig : Signature) (ok : IsAccepted sig) (f : ℕ) (h : is_assoc sig f ≡ true) (ac : is_comm sig f ≡ true) where
  abbrev e : Option Identity
  e = identity_of sig f

  abbrev Rigid : ℕ → ℕ → RawTerms → RawTerms → Type 0
  Rigid r k zs vs = Spells sig f (r + k) zs vs × FirstAreElements e f r vs

  pub rigid_once : (r k : ℕ) (zs : RawTerms) → Each (IsElement e f) zs → Each (IsCanonical sig) zs → Climbs zs → AllOnce (Rigid r k zs) (rigid_splits e f r k zs)
  rigid_once zero k zs s q c =
      let l = spellings sig ok f h k zs s q (pieces true k zs) (subst (λ b. AllOnce (ArePieces b k zs) (pieces true k zs)) (sym ac) (of_pieces sig ok f true k zs (sorted_terms-climbing zs c))) in
      once_same (Spells sig f k zs) (Rigid 0 k zs) (rigid_splits e f 0 k zs)
      (λ vs g. (record { canonical = g.canonical; size = g.size ∙ omega arith; whole = g.whole }, tt))
      (λ vs g. record { canonical = g.0.canonical; size = g.0.size ∙ omega arith; whole = g.0.whole }) l
  rigid_once (suc r) k zs s q c =
      once_same (λ vs. (d : RawTerm) × Among zs d × Behind d vs) (Rigid (suc r) k zs) (rigid_splits e f (suc r) k zs) there back
      (once_flat_mapped (λ d. Among zs d) Behind (λ d. map (cons d) (rigid_splits e f r k (taken d zs))) (heads (runs zs)) (heads_once zs c)
      (λ d m. behind_all d m (rigid_once r k (taken d zs) (each_taken (IsElement e f) d zs s) (each_taken (IsCanonical sig) d zs q) (climbs_taken d zs c))) same_head)
    where
      Behind : RawTerm → RawTerms → Type 0
      Behind d vs = (us : RawTerms) × (vs ≡ cons d us) × Rigid r k (taken d zs) us

      behind_all : (d : RawTerm) → Among zs d → AllOnce (Rigid r k (taken d zs)) (rigid_splits e f r k (taken d zs)) → AllOnce (Behind d) (map (cons d) (rigid_splits e f r k (taken d zs)))
      behind_all d m l = once_mapped (Rigid r k (taken d zs)) (Behind d) (cons d) (rigid_splits e f r k (taken d zs)) l (λ us p. (us, refl, p)) (λ vs b. (let (us, w, p) = b in (us, p, sym w))) (λ us ws p p2 w. cc)

      same_head : (vs : RawTerms) (x y : RawTerm) → Among zs x → Among zs y → Behind x vs → Behind y vs → x ≡ y
      same_head vs x y m n (us, w, p) (us2, w2, p2) = cc

      there : (vs : RawTerms) → (d : RawTerm) × Among zs d × Behind d vs → Rigid (suc r) k zs vs
      there vs (d, m, (us, w, (g, a))) =
          let sd : IsElement e f d = each_among (IsElement e f) d zs s m in
          let n = g.size in
          let o : sorted_terms (flattened e f us) ≡ taken d zs = rw ac at g.whole in
          subst (Rigid (suc r) k zs) (sym w) (
            record {
              canonical = (each_among (IsCanonical sig) d zs q m, g.canonical);
              size = omega (arith, n);
              whole = rw (ac, sd) (ap (insert_term d) o ∙ put_back d zs c m);
            },
            (sd, a),
          )

      back : (vs : RawTerms) → Rigid (suc r) k zs vs → (d : RawTerm) × Among zs d × Behind d vs
      back nil (g, a) = absurd a
      back (cons d us) (g, a) =
          let n = g.size in
          let o : insert_term d (sorted_terms (flattened e f us)) ≡ zs = rw (ac, a.0) at g.whole in
          let t : taken d zs ≡ sorted_terms (flattened e f us) = ap (taken d) (sym o) ∙ taken-insert d (sorted_terms (flattened e f us)) in (
            d,
            subst (λ ys. Among ys d) o (Among-insert d d (sorted_terms (flattened e f us)) (inl refl)),
            (
              us,
              refl,
              (
                record {
                  canonical = g.canonical.1;
                  size = omega (arith, n);
                  whole = rw ac (sym t);
                },
                a.1,
              ),
            ),
          )

  -- on a term
  pub rigid_given_once : (r k : ℕ) → 1 ≤ r + k → (t : RawTerm) → IsCanonical sig t → AllOnce (λ vs. Gives sig f (r + k) t vs × FirstAreElements e f r vs) (rigid_splits e f r k (elements e f t))
  rigid_given_once r k some t kt =
      let zs : RawTerms = elements e f t in
      let s = elements_are sig ok f h t kt in
      let i : arranged (is_comm sig f) zs ≡ zs = in_order sig ok f h t kt in
      let o : sorted_terms zs ≡ zs = rw ac at i in
      let l = rigid_once r k zs s.0 s.1 (climbs zs o) in
      once_same (Rigid r k zs) (λ vs. Gives sig f (r + k) t vs × FirstAreElements e f r vs) (rigid_splits e f r k zs)
      (λ vs g. (given sig ok f h (r + k) some t kt vs g.0, g.1)) (λ vs g. (spelled sig ok f h (r + k) some t kt vs g.0, g.1)) l
