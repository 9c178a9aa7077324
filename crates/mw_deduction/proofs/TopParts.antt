-- The top parts of a raw term are those of its normal form.
use Rattle.std.specs.Prelude.{◌≡◌, ℕ, [], ◌∷◌, true, refl}
use Rattle.std.proofs.Common.{sym, subst, ap, ◌∙◌, inl, inr, ⊎_elim}
use Rattle.mw_logic.specs.Term.{RawTerm, RawTerms, apply, nil, cons, join, binary, Context, plug}
use Rattle.mw_logic.specs.Signature.{Signature, IsRawTerm}
use Rattle.mw_logic.specs.Accepted.{IsAccepted}
use Rattle.mw_logic.specs.Parts.{is_assoc, nested, IsClean, IsTopPart, whole, proper, AreFramesOf}
use Rattle.mw_logic.specs.NormalForm.{is_comm, own_arguments, arranged, normal_form}
use Rattle.mw_logic.specs.CanonicalPart.{AreSeveral}
use Rattle.mw_logic.proofs.SortLaws.{join-nil, join_assoc}
use Rattle.mw_logic.proofs.Canonical.{nat_eq-refl, arranged-one, assoc-true}
use Rattle.mw_logic.proofs.Invariance.{normal_form-kept}
use Rattle.mw_logic.proofs.RawKept.{raw_kept}
use Rattle.mw_logic.proofs.Soundness.{IsLong, own_arguments-long, several-join, several-arranged, long-arranged, long-join}
use Rattle.mw_logic.proofs.CleanForms.{assoc_form, raw_two}
use Rattle.mw_logic.proofs.Inside.{OwnCases, own_cases, tops, raw_inside, clean_inside, arranged-middle}
use Rattle.mw_deduction.specs.Tops.{IsTop}
use Rattle.mw_deduction.specs.Tops as top

module _ (sig : Signature) (ok : IsAccepted sig) (f : ℕ) (h : is_assoc sig f ≡ true) where
  abbrev own : RawTerm → RawTerms
  own x = own_arguments f (normal_form sig x)

  own_list : (zs : RawTerms) → IsLong zs → own_arguments f (apply f zs) ≡ zs
  own_list nil l = elim l [ ]
  own_list (cons z zs) l = rw (nat_eq-refl f) refl

  -- the elements of f on two
  own_two : (x y : RawTerm) → IsRawTerm sig (binary f x y) → IsClean sig (binary f x y) → own (binary f x y) ≡ arranged (is_comm sig f) (join (own x) (own y))
  own_two x y r c =
      let k = tops sig ok f (cons x (cons y nil)) r c in
      let l : IsLong (arranged (is_comm sig f) (join (own x) (own y))) = long-arranged (is_comm sig f) _ (long-join (own x) (own y) (own_arguments-long f (normal_form sig x))) in
      ap (own_arguments f) (assoc_form sig ok f h x y c k.0 k.1.0) ∙ own_list _ l

  in_order : (x : RawTerm) → IsRawTerm sig x → IsClean sig x → arranged (is_comm sig f) (own x) ≡ own x
  in_order x r c = ⊎_elim (λ e. rw (e) (arranged-one (is_comm sig f) (normal_form sig x))) (λ o. o.2) (own_cases sig ok f h x r c)

  -- some lists stand round the elements of what is in the hole
  abbrev Round : Context → RawTerm → Type 0
  Round C x = (b : RawTerms) × (a : RawTerms) × (own (plug C x) ≡ arranged (is_comm sig f) (join b (join (own x) a)))

  around : (C : Context) (x : RawTerm) → AreFramesOf f C → IsRawTerm sig (plug C x) → IsClean sig (plug C x) → Round C x
  around [] x fs r c = (nil, nil, sym (in_order x r c) ∙ ap (arranged (is_comm sig f)) (sym (join-nil (own x))))
  around (d ∷ C) x (e, fs) r c = at (around C (apply d.operator (join d.before (cons x d.after))) fs r c) d.before d.after refl refl
    where
      x' : RawTerm
      x' = apply d.operator (join d.before (cons x d.after))

      behind : (y : RawTerm) → x' ≡ binary f x y → Round C x' → own x' ≡ arranged (is_comm sig f) (join (own x) (own y)) → Round (d ∷ C) x
      behind y q (b, a, g) o = (b, join (own y) a, g ∙ ap (λ zs. arranged (is_comm sig f) (join b (join zs a))) o ∙ arranged-middle (is_comm sig f) b (join (own x) (own y)) a ∙ ap (λ zs. arranged (is_comm sig f) (join b zs)) (join_assoc (own x) (own y) a))

      before : (y : RawTerm) → x' ≡ binary f y x → Round C x' → own x' ≡ arranged (is_comm sig f) (join (own y) (own x)) → Round (d ∷ C) x
      before y q (b, a, g) o = (
        join b (own y),
        a,
        g ∙ ap (λ zs. arranged (is_comm sig f) (join b (join zs a))) o ∙ arranged-middle (is_comm sig f) b (join (own y) (own x)) a
            ∙ ap (λ zs. arranged (is_comm sig f) (join b zs)) (join_assoc (own y) (own x) a) ∙ ap (arranged (is_comm sig f)) (sym (join_assoc b (own y) (join (own x) a))),
      )

      raw' : IsRawTerm sig x'
      raw' = raw_inside sig ok C x' r

      clean' : IsClean sig x'
      clean' = clean_inside sig ok C x' c

      first : (y : RawTerm) → x' ≡ binary f x y → Round C x' → Round (d ∷ C) x
      first y q g = behind y q g (ap own q ∙ own_two x y (subst (IsRawTerm sig) q raw') (subst (IsClean sig) q clean'))

      second : (y : RawTerm) → x' ≡ binary f y x → Round C x' → Round (d ∷ C) x
      second y q g = before y q g (ap own q ∙ own_two y x (subst (IsRawTerm sig) q raw') (subst (IsClean sig) q clean'))

      at : Round C x' → (b a : RawTerms) → d.before ≡ b → d.after ≡ a → Round (d ∷ C) x
      at g b a eb ea =
          let (p, q, two) = raw_two sig ok f h (join d.before (cons x d.after)) (subst (λ g. IsRawTerm sig (apply g (join d.before (cons x d.after)))) e raw') in
          by_shape b a eb ea p q (sym (rw (eb, ea) refl) ∙ two)
        where
          by_shape : (b a : RawTerms) → d.before ≡ b → d.after ≡ a → (p q : RawTerm) → join b (cons x a) ≡ cons p (cons q nil) → Round (d ∷ C) x
          by_shape nil (cons y nil) eb ea p q k = first y (rw (e, eb, ea) refl) g
          by_shape (cons y nil) nil eb ea p q k = second y (rw (e, eb, ea) refl) g
          by_shape nil nil eb ea p q k = cc
          by_shape nil (cons y (cons z a)) eb ea p q k = cc
          by_shape (cons y nil) (cons z a) eb ea p q k = cc
          by_shape (cons y (cons z b)) a eb ea p q k = absurd (too_long b a k)
            where
              too_long : (b a : RawTerms) → cons y (cons z (join b (cons x a))) ≡ cons p (cons q nil) → ⊥
              too_long nil a k = cc
              too_long (cons w b) a k = cc

pub top_part_kept : (sig : Signature) → IsAccepted sig → (t : RawTerm) → normal_form sig (nested sig t) ≡ t → IsRawTerm sig (nested sig t) → (C : Context) (v : RawTerm) → IsTopPart sig (nested sig t) C v → IsTop sig t (normal_form sig v)
top_part_kept sig ok t k r C v (whole e p) =
    let q : normal_form sig (nested sig t) ≡ normal_form sig v = normal_form-kept sig ok p.equal ∙ ap (λ D. normal_form sig (plug D v)) e in
    subst (IsTop sig t) (sym k ∙ q) top.whole
top_part_kept sig ok t k r C _ (proper {f} {ts} A fs p) =
    let h : is_assoc sig f ≡ true = assoc-true sig f A.operator A.is_there A.assoc in
    let v : RawTerm = apply f ts in
    let rp : IsRawTerm sig (plug C v) = (raw_kept sig ok p.equal).0 r in
    let (b, a, g) = around sig ok f h C v fs rp p.clean in
    let n : normal_form sig (plug C v) ≡ t = sym (normal_form-kept sig ok p.equal) ∙ k in
    let g' : own_arguments f t ≡ arranged (is_comm sig f) (join b (join (own_arguments f (normal_form sig v)) a)) = ap (own_arguments f) (sym n) ∙ g in
    let rv : IsRawTerm sig v = raw_inside sig ok C v rp in
    let cv : IsClean sig v = clean_inside sig ok C v p.clean in
    let (zs, l, e) = several_of h rv cv in
    let o : own_arguments f (normal_form sig v) ≡ zs = ap (own_arguments f) e ∙ listed zs l in
    let s : arranged (is_comm sig f) zs ≡ zs = subst (λ x. arranged (is_comm sig f) x ≡ x) o (in_order sig ok f h v rv cv) in
    let w : own_arguments f t ≡ arranged (is_comm sig f) (join b (join zs a)) = g' ∙ ap (λ x. arranged (is_comm sig f) (join b (join x a))) o in
    let m : AreSeveral (own_arguments f t) = subst AreSeveral (sym w) (several-arranged (is_comm sig f) (join b (join zs a)) (more b (join zs a) (before zs a l))) in
    let d : t ≡ apply f (own_arguments f t) = on_top (subst (OwnCases sig ok f) n (own_cases sig ok f h (plug C v) rp p.clean)) m in
    subst (IsTop sig t) (sym e) (subst (λ x. IsTop sig x (apply f zs)) (sym d) (top.several A l (record { before = b; after = a; whole = sym w; in_order = s })))
  where
    listed : (zs : RawTerms) → AreSeveral zs → own_arguments f (apply f zs) ≡ zs
    listed nil l = elim l [ ]
    listed (cons z zs) l = rw (nat_eq-refl f) refl

    several_of : is_assoc sig f ≡ true → IsRawTerm sig (apply f ts) → IsClean sig (apply f ts) → (zs : RawTerms) × AreSeveral zs × (normal_form sig (apply f ts) ≡ apply f zs)
    several_of h r c =
        let (x, y, e) = raw_two sig ok f h ts r in
        let q : IsClean sig (binary f x y) = rw e at c in
        let kt = tops sig ok f (cons x (cons y nil)) (rw e at r) q in
        (_, several-arranged (is_comm sig f) _ (several-join (own_arguments f (normal_form sig x)) (own_arguments f (normal_form sig y)) (own_arguments-long f (normal_form sig x)) (own_arguments-long f (normal_form sig y))), ap (λ us. normal_form sig (apply f us)) e ∙ assoc_form sig ok f h x y q kt.0 kt.1.0)

    before : (xs ys : RawTerms) → AreSeveral xs → AreSeveral (join xs ys)
    before nil ys l = elim l [ ]
    before (cons x nil) ys l = elim l [ ]
    before (cons x (cons y xs)) ys l = tt

    more : (xs ys : RawTerms) → AreSeveral ys → AreSeveral (join xs ys)
    more nil ys l = l
    more (cons x nil) ys l = shifted ys l
      where
        shifted : (ys : RawTerms) → AreSeveral ys → AreSeveral (cons x ys)
        shifted nil l = elim l [ ]
        shifted (cons y ys) l = tt
    more (cons x (cons y xs)) ys l = tt

    on_top : OwnCases sig ok f t → AreSeveral (own_arguments f t) → t ≡ apply f (own_arguments f t)
    on_top (inl e) m = absurd (subst AreSeveral e m)
    on_top (inr o) m = o.0
