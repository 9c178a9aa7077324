-- How deep the whole is where an equation's right side comes for the term in hand, by the levels that stand above it.
use Rattle.std.specs.Prelude.{◌≡◌, ◌&&◌, ℕ, ◌+◌, ◌≤◌, ◌<◌, max, List, [], ◌∷◌, Bool, true, false, cond, nat_eq, Option, Some, None, IsFalse, refl}
use Rattle.std.proofs.Common.{sym, subst, ap, ◌∙◌, arith}
use Rattle.std.proofs.lemmas.Bool.{both_ways, and_parts, eqb-true}
use Rattle.mw_logic.specs.Term.{RawTerm, RawTerms, numeral, quoted, variable, apply, nil, cons, Context, plug}
use Rattle.mw_logic.specs.Signature.{Signature, Identity, constant_of, numeral_of, IsRawTerm}
use Rattle.mw_logic.specs.Accepted.{IsAccepted}
use Rattle.mw_logic.specs.Axioms.{done}
use Rattle.mw_logic.specs.Parts.{is_assoc, nested, all_nested, nest, depth, continues, IsAdmitted, IsTooDeep, IsTooLarge}
use Rattle.mw_logic.specs.NormalForm.{identity_of, is_identity, normal_form, height, highest, has_largest}
use Rattle.mw_logic.proofs.Admitted.{admitted-iff, too_large-iff}
use Rattle.mw_logic.proofs.Canonical.{IsCanonical, canonical, named, no_arguments}
use Rattle.mw_logic.proofs.CanonicalTerms.{fixed}
use Rattle.mw_logic.proofs.CleanForms.{clean_depth}
use Rattle.mw_logic.proofs.EqualTerms.{ground_kept}
use Rattle.mw_logic.proofs.Inside.{raw_inside}
use Rattle.mw_logic.proofs.RawKept.{raw_kept}
use Rattle.mw_logic.proofs.Soundness.{normal_form-sound}
use Rattle.mw_position.proofs.Grounded.{part_ground, ground_again}
use Rattle.mw_solving.specs.Values.{IsValue}
use Rattle.mw_solving.proofs.Parts.{arguments_several}
use Rattle.mw_deduction.specs.Standing.{Open, round, AreClear, IsSeen}
use Rattle.mw_deduction.specs.Replay.{whole}
use Rattle.mw_deduction.proofs.Clear.{clear_clean}
use Rattle.mw_deduction.proofs.Depths.{added, level_in, level_below}
use Rattle.mw_deduction.proofs.Heights.{canonical_depth}
use Rattle.mw_deduction.proofs.Stopping.{not_deep_after, deep_after}
use Rattle.mw_frames.specs.declared.job.Job.{Job}
use Rattle.mw_frames.specs.declared.job.Frame.{Frame}
use Rattle.mw_frames.specs.Jobs.{AreOpened}
use Rattle.mw_frames.specs.Larger.{AreSmall}
use Rattle.mw_frames.specs.Redex.{MayCome, hole_level}
use Rattle.mw_frames.proofs.Larger.{whole_form, small_inside}
use Rattle.mw_frames.proofs.Levels.{level_at}
use Rattle.mw_frames.proofs.Redexes.{raw_in_place}

pub height-positive : (t : RawTerm) → 1 ≤ height t
height-positive (numeral n) = omega arith
height-positive (quoted q) = omega arith
height-positive (variable x) = omega arith
height-positive (apply f ts) = omega arith

-- an identity has no arguments
identity-height : (e : Option Identity) (f : ℕ) (t : RawTerm) → is_identity e t ≡ true → height t ≡ 1
identity-height None f t h = absurd (both_ways _ refl h)
identity-height (Some i) f t h = ap height (named (Some i) f t h) ∙ alone i
  where
    alone : (i : Identity) → height (Rattle.mw_logic.specs.Signature.identity_term i) ≡ 1
    alone (constant_of c) = omega arith
    alone (numeral_of n) = omega arith

module _ (sig : Signature) (ok : IsAccepted sig) where
  -- a flattened term has on top what it means has there
  same_top : (f : ℕ) (t : RawTerm) → IsValue sig t → continues sig f (nested sig t) ≡ continues sig f t
  same_top f (numeral n) v = refl
  same_top f (quoted q) v = refl
  same_top f (variable x) v = refl
  same_top f (apply g ts) v = by_assoc (is_assoc sig g) refl
    where
      by_list : (ts : RawTerms) → Rattle.mw_logic.specs.CanonicalPart.AreSeveral ts → continues sig f (nest true g (all_nested sig ts)) ≡ continues sig f (apply g ts)
      by_list nil l = elim l [ ]
      by_list (cons t nil) l = elim l [ ]
      by_list (cons t (cons u us)) l = refl

      by_assoc : (b : Bool) → is_assoc sig g ≡ b → continues sig f (nest b g (all_nested sig ts)) ≡ continues sig f (apply g ts)
      by_assoc false h = refl
      by_assoc true h = by_list ts (arguments_several sig ok g h ts v)

  pub level_whole : (vs : List RawTerm) (fs : List Frame) (ds : List RawTerm) (xs : List Job) (os : List Open) (t : RawTerm) → AreClear sig os → AreOpened sig vs fs ds xs os → IsValue sig t
      → level_in sig (round sig os) (nested sig t) ≡ hole_level sig fs t
  level_whole vs [] ds xs os t c o v = ap (λ ps. level_in sig (round sig ps) (nested sig t)) o
  level_whole vs (f ∷ fs) ds xs [] t c o v = elim o [ ]
  level_whole vs (f ∷ fs) ds xs (o ∷ os) t c (is, level, below) v =
      level_at sig o os (nested sig t) c.0
      ∙ ap (λ g. added sig g (nested sig t) + level_in sig (round sig os) (apply g nil)) is.operator
      ∙ ap (λ b. cond b 0 1 + level_in sig (round sig os) (apply f.op nil)) (same_top f.op t v)
      ∙ ap (λ l. added sig f.op t + l) (sym level)

  -- Under an operator a term has two levels at least, counted from above that operator's own.
  two_levels : (f : ℕ) (t : RawTerm) → IsRawTerm sig (nested sig t) → 2 ≤ cond (continues sig f t) 0 1 + height t
  two_levels f (numeral n) r = omega arith
  two_levels f (quoted q) r = omega arith
  two_levels f (variable x) r = omega arith
  two_levels f (apply g nil) r = by_test (nat_eq f g && is_assoc sig f) refl
    where
      by_test : (b : Bool) → (nat_eq f g && is_assoc sig f) ≡ b → 2 ≤ cond b 0 1 + height (apply g nil)
      by_test false e = omega arith
      by_test true e =
          let p = and_parts _ _ e in
          let h : is_assoc sig g ≡ true = ap (is_assoc sig) (sym (eqb-true f g p.0)) ∙ p.1 in
          absurd (both_ways _ (no_arguments sig ok g (subst (λ b. IsRawTerm sig (nest b g nil)) h r)) h)
  two_levels f (apply g (cons t ts)) r = let a = height-positive t in deep (continues sig f (apply g (cons t ts))) a
    where
      deep : (b : Bool) → 1 ≤ height t → 2 ≤ cond b 0 1 + (1 + max (height t) (highest ts))
      deep true a = omega (arith, a)
      deep false a = omega (arith, a)

  -- A term that stands in the hole of a whole that is admitted, and is seen there; and a value of one level that comes for it.
  leaf_fits : (o : Open) (os : List Open) (w v : RawTerm) → AreClear sig (o ∷ os) → IsSeen sig (o ∷ os) w → IsValue sig w → IsRawTerm sig (plug (round sig (o ∷ os)) (nested sig w)) → IsAdmitted sig (plug (round sig (o ∷ os)) (nested sig w))
      → height v ≡ 1 → level_in sig (round sig (o ∷ os)) (nested sig v) + height v ≤ 1000
  leaf_fits o os w v c seen k raw a h =
      let C : Context = round sig (o ∷ os) in
      let b = ((admitted-iff sig ok raw).0 a).1 in
      let e : depth sig (plug C (nested sig w)) ≡ height (normal_form sig (plug C (nested sig w))) = clean_depth sig ok raw (record { clean = clear_clean sig ok (o ∷ os) w c k.canonical seen; equal = done }) in
      let l = level_below sig C (nested sig w) in
      let d = canonical_depth sig ok w k.canonical k.raw in
      let x = level_at sig o os (nested sig w) c.0 in
      let y = level_at sig o os (nested sig v) c.0 in
      let t = two_levels o.operator w k.raw in
      let s : added sig o.operator (nested sig w) ≡ cond (continues sig o.operator w) 0 1 = ap (λ b. cond b 0 1) (same_top o.operator w k) in
      let z = one_at_most (continues sig o.operator (nested sig v)) in
      sums (added sig o.operator (nested sig w)) (added sig o.operator (nested sig v)) (level_in sig (round sig os) (apply o.operator nil)) _ _ _ _ b e l d x y (subst (λ n. 2 ≤ n + height w) (sym s) t) z h
    where
      one_at_most : (b : Bool) → cond {A = ℕ} b 0 1 ≤ 1
      one_at_most true = omega arith
      one_at_most false = omega arith

      sums : (p q base H D L N : ℕ) {e g n : ℕ} → H ≤ 1000 → D ≡ H → L + e ≤ D → e ≡ g → L ≡ p + base → N ≡ q + base → 2 ≤ p + g → q ≤ 1 → n ≡ 1 → N + n ≤ 1000
      sums p q base H D L N b e l d x y t z h = omega (arith, b, e, l, d, x, y, t, z, h)

module _ (sig : Signature) (ok : IsAccepted sig) (w v : RawTerm) (m : MayCome sig w v)
    (values : List RawTerm) (fs : List Frame) (ds : List RawTerm) (xs : List Job) (os : List Open) (clear : AreClear sig os) (opened : AreOpened sig values fs ds xs os)
    (k : IsCanonical sig w) (seen : IsSeen sig os w) (raw : IsRawTerm sig (plug (round sig os) (nested sig w))) (a : IsAdmitted sig (plug (round sig os) (nested sig w))) where
  abbrev v' : RawTerm
  v' = normal_form sig v

  value_made : IsValue sig v'
  value_made =
      let e = normal_form-sound sig ok m.raw in
      record { canonical = canonical sig ok v; raw = (raw_kept sig ok e).0 m.raw; ground = sym (ground_kept sig e) ∙ m.is_ground }

  value_there : IsValue sig w
  value_there = record { canonical = k; raw = raw_inside sig ok (round sig os) (nested sig w) raw; ground = part_ground (round sig os) (nested sig w) a.ground }

  levels_are : level_in sig (round sig os) (nested sig v') ≡ hole_level sig fs v'
  levels_are = level_whole sig ok values fs ds xs os v' clear opened value_made

  pub raw_after : IsRawTerm sig (plug (round sig os) v)
  raw_after = raw_in_place sig ok (round sig os) (nested sig w) v raw m.raw m.kinds

  low_after : hole_level sig fs v' + height v' ≤ 1000 → ¬ IsTooDeep sig (plug (round sig os) v)
  low_after h = not_deep_after sig ok os clear w v k seen raw a raw_after (omega (arith, h, levels_are))

  -- what comes has no more than 1,000 levels where it stands, and makes no number too large: then the whole is admitted
  pub admitted_after : hole_level sig fs v' + height v' ≤ 1000 → has_largest sig (whole sig os v') ≡ false → IsAdmitted sig (plug (round sig os) v)
  admitted_after h l = record {
    ground = ground_again (round sig os) (nested sig w) v a.ground m.is_ground;
    not_deep = low_after h;
    not_large = λ z. both_ways _ l (sym (ap (has_largest sig) (whole_form sig ok os v clear)) ∙ (too_large-iff sig ok raw_after).0 z);
  }

  -- it makes one too large: then the whole is, and no more
  pub large_there : hole_level sig fs v' + height v' ≤ 1000 → has_largest sig (whole sig os v') ≡ true → IsTooLarge sig (plug (round sig os) v) × ¬ IsTooDeep sig (plug (round sig os) v)
  large_there h l = ((too_large-iff sig ok raw_after).1 (ap (has_largest sig) (whole_form sig ok os v clear) ∙ l), low_after h)

  -- it has more: then it is seen
  seen_after : 1000 < hole_level sig fs v' + height v' → IsSeen sig os v'
  seen_after h = by_opens os clear seen raw a (omega (arith, h, levels_are))
    where
      by_opens : (os : List Open) → AreClear sig os → IsSeen sig os w → IsRawTerm sig (plug (round sig os) (nested sig w)) → IsAdmitted sig (plug (round sig os) (nested sig w))
          → 1000 < level_in sig (round sig os) (nested sig v') + height v' → IsSeen sig os v'
      by_opens [] c s q b l = tt
      by_opens (o ∷ os) c s q b l = record {
        not_identity = λ h. by_test (is_identity (identity_of sig o.operator) v') refl;
        not_numeral = λ n z e y. never (ap height e);
      }
        where
          never : height v' ≡ 1 → ⊥
          never e = let x = leaf_fits sig ok o os w v' c s value_there q b e in omega (arith, x, l)

          by_test : (t : Bool) → is_identity (identity_of sig o.operator) v' ≡ t → IsFalse t
          by_test false e = refl
          by_test true e = absurd (never (identity-height (identity_of sig o.operator) o.operator v' e))

  -- and the whole is too deep
  pub deep_there : 1000 < hole_level sig fs v' + height v' → IsTooDeep sig (plug (round sig os) v)
  deep_there h = deep_after sig ok os clear v (seen_after h) raw_after (omega (arith, h, levels_are))

-- Where a whole is admitted `s_` stands on the largest numeral neither in what is in hand nor beside it.
pub small_there : (sig : Signature) (ok : IsAccepted sig) (os : List Open) (w : RawTerm) → AreClear sig os → IsCanonical sig w → IsRawTerm sig (plug (round sig os) (nested sig w)) → IsAdmitted sig (plug (round sig os) (nested sig w))
    → AreSmall sig os × (has_largest sig w ≡ false)
small_there sig ok os w clear k raw a =
    small_inside sig ok os w (sym (ap (has_largest sig) (whole_form sig ok os (nested sig w) clear ∙ ap (whole sig os) (fixed sig ok w k))) ∙ ((admitted-iff sig ok raw).0 a).2)
