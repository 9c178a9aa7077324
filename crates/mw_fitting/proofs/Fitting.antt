-- Moves that fit may be made wherever the term that they begin at stands under the operator.
use Rattle.std.specs.Prelude.{◌≡◌, ◌⊎◌, ◌≤◌, ◌<◌, ◌+◌, ℕ, zero, suc, pred, List, [], ◌∷◌, length, Bool, option_map, unwrap_or, IsFalse, refl}
use Rattle.std.proofs.Common.{arith, sym, subst, ap, ◌∙◌, inl, inr}
use Rattle.mw_logic.specs.Term.{RawTerm, numeral, apply, RawTerms, cons, join}
use Rattle.mw_logic.specs.Terms.{terms_of}
use Rattle.mw_logic.specs.Signature.{Signature, IsRawTerm}
use Rattle.mw_logic.specs.Accepted.{IsAccepted}
use Rattle.mw_logic.specs.Substitution.{Substitution, instance}
use Rattle.mw_logic.specs.Parts.{nested, depth}
use Rattle.mw_logic.specs.NormalForm.{identity_of, is_identity, normal_form, height, highest}
use Rattle.mw_logic.specs.Module.{Module, Statement}
use Rattle.mw_logic.specs.Proof.{Proof, replacement, row}
use Rattle.mw_logic.specs.Judgements.{admitted_judgements}
use Rattle.mw_logic.proofs.Canonical.{IsCanonical}
use Rattle.mw_logic.proofs.CanonicalTerms.{fixed}
use Rattle.mw_logic.proofs.Inside.{raw_inside}
use Rattle.mw_arguments.specs.Places.{chosen}
use Rattle.mw_deduction.specs.Standing.{Open, filled, round, IsSeen}
use Rattle.mw_deduction.specs.Runs.{Done, by_statement, by_row, Dones, none, more, one, both}
use Rattle.mw_deduction.specs.Replay.{Move, into, among, out, begins, ends, applies, meets, Stand, begun, opened, whole, going_in, into_argument, into_several, going_out, replacing, becomes, showing, play, plays, MayReplace, MayGoIn, MayGoAmong, IsMove, AreMoves}
use Rattle.mw_deduction.specs.Stands.{IsStanding, AreStanding}
use Rattle.mw_deduction.proofs.MoveStands.{becomes_is, move_stands}
use Rattle.mw_deduction.proofs.Standing.{several_filled}
use Rattle.mw_deduction.proofs.Taking.{into_is, Taken, taken, cut_out}
use Rattle.mw_deduction.proofs.Under.{outermost_run}
use Rattle.mw_multiset.specs.Together.{IsShallow, StandsUnder, DoneUnder, AllUnder}
use Rattle.mw_multiset.specs.Receipts.{IsMade, first_of, run_of}
use Rattle.mw_multiset.proofs.Made.{starts}
use Rattle.mw_fitting.specs.Fits.{right_depth, reach, Fits}
use Rattle.mw_fitting.proofs.Depths.{instance_low}
use Rattle.mw_fitting.proofs.Heights.{low_shallow, stand_canonical, not_identity_under, whole_low}
use Rattle.mw_deduction.proofs.Heights.{height_within}

-- the outermost stand
abbrev pub outer : List Stand → Stand
outer [] = begun 0 (numeral 0)
outer (S ∷ []) = S
outer (S ∷ Q ∷ B) = outer (Q ∷ B)

under-both : (sig : Signature) (f : ℕ) (ds es : Dones) → AllUnder sig f ds → AllUnder sig f es → AllUnder sig f (both ds es)
under-both sig f none es h k = k
under-both sig f (more d ds) es h k = (h.0, under-both sig f ds es h.1 k)

module _ (M : Module) (ok : IsAccepted M.signature) (f : ℕ) where
  abbrev sig : Signature
  sig = M.signature

  -- so many sides in, under so many operators, at a whole that is low
  pub record Stays (d o : ℕ) (B : List Stand) : Type 0 where
    pub size : length B ≡ suc d
    pub opens : length (outer B).opens ≡ o
    pub low : height (whole sig (outer B).opens (outer B).hand) ≤ 999
    pub under : AllUnder sig f (outermost_run B)

  -- of one stand
  stays_one : (o : ℕ) (S Q : Stand) → length Q.opens ≡ o → whole sig Q.opens Q.hand ≡ whole sig S.opens S.hand → Q.run ≡ S.run → height (whole sig S.opens S.hand) ≤ 999 → AllUnder sig f S.run → Stays 0 o (Q ∷ [])
  stays_one o S Q n e r l u = record { size = omega arith; opens = n; low = subst (λ x. height x ≤ 999) (sym e) l; under = subst (AllUnder sig f) (sym r) u }

  into_stays : (i o : ℕ) (S : Stand) → IsStanding M S → MayGoIn sig i S.hand → Stays 0 o (S ∷ []) → Stays 0 (suc o) (into_argument sig i S.hand S ∷ [])
  into_stays i o S h m k =
      let ts : RawTerms = join m.before (cons m.argument m.after) in
      let c : IsCanonical sig (apply m.operator ts) = subst (IsCanonical sig) m.is h.at.canonical in
      let e : into_argument sig i S.hand S ≡ going_in sig (opened m.operator m.before m.after) m.argument S = ap (λ t. into_argument sig i t S) m.is ∙ into_is sig i m.operator m.before m.argument m.after S m.number in
      let w : whole sig (opened m.operator m.before m.after ∷ S.opens) m.argument ≡ whole sig S.opens S.hand = ap (whole sig S.opens) (c.1 ∙ sym m.is) in
      let n = k.opens in
      subst (λ Q. Stays 0 (suc o) (Q ∷ [])) (sym e) (stays_one (suc o) S (going_in sig (opened m.operator m.before m.after) m.argument S) (omega (arith, n)) w refl k.low k.under)

  among_stays : (ks : List ℕ) (o : ℕ) (S : Stand) → IsStanding M S → MayGoAmong sig ks S.hand → Stays 0 o (S ∷ []) → Stays 0 (suc o) (into_several sig ks S.hand S ∷ [])
  among_stays [] o S h m k = absurd m.takes.several
  among_stays (j ∷ ks) o S h m k =
      let g : ℕ = m.takes.operator in
      let ts : RawTerms = m.takes.args in
      let c : IsCanonical sig (apply g ts) = subst (IsCanonical sig) m.takes.term h.at.canonical in
      let x : Taken sig j ks g ts = taken sig ok j ks g ts c m.takes.assoc m.takes.rise m.takes.follow in
      let e : into_several sig (j ∷ ks) S.hand S ≡ going_in sig (opened g x.before x.after) (apply g (chosen 1 (j ∷ ks) ts)) S = ap (λ t. into_several sig (j ∷ ks) t S) m.takes.term ∙ x.goes_in S in
      let back : filled sig (opened g x.before x.after) (apply g (chosen 1 (j ∷ ks) ts)) ≡ apply g ts =
      several_filled M ok (admitted_judgements M S.rank).Held (admitted_judgements M S.rank).Fails g m.takes.assoc ts (chosen 1 (j ∷ ks) ts) m.takes.several (cut_out x) c in
      let w : whole sig (opened g x.before x.after ∷ S.opens) (apply g (chosen 1 (j ∷ ks) ts)) ≡ whole sig S.opens S.hand = ap (whole sig S.opens) (back ∙ sym m.takes.term) in
      let n = k.opens in
      subst (λ Q. Stays 0 (suc o) (Q ∷ [])) (sym e) (stays_one (suc o) S (going_in sig (opened g x.before x.after) (apply g (chosen 1 (j ∷ ks) ts)) S) (omega (arith, n)) w refl k.low k.under)

  out_stays : (o : ℕ) (S : Stand) (a : Open) (os : List Open) → S.opens ≡ a ∷ os → Stays 0 o (S ∷ []) → Stays 0 (pred o) (going_out sig S.opens S ∷ [])
  out_stays o S a os e k =
      let n : length os ≡ pred o = ap pred (sym (ap length e) ∙ k.opens) in
      let w : whole sig os (filled sig a S.hand) ≡ whole sig S.opens S.hand = ap (λ qs. whole sig qs S.hand) (sym e) in
      subst (λ qs. Stays 0 (pred o) (going_out sig qs S ∷ [])) (sym e) (stays_one (pred o) S (going_out sig (a ∷ os) S) n w refl k.low k.under)

  -- a replacement
  replaced_stays : (o : ℕ) (S : Stand) (p : Proof) (d : RawTerm → RawTerm → Done) (u v : RawTerm) → IsStanding M S → IsStanding M (replacing sig p d u S) → u ≡ normal_form sig v → IsSeen sig S.opens S.hand → IsRawTerm sig v
      → ((x y : RawTerm) → StandsUnder sig f x y → DoneUnder sig f (d x y)) → o + height u ≤ 999 → IsFalse (is_identity (identity_of sig f) (normal_form sig (nested sig (whole sig S.opens S.hand))))
      → Stays 0 o (S ∷ []) → Stays 0 o (replacing sig p d u S ∷ [])
  replaced_stays o S p d u v h g e seen rv is fits other k =
      let Q : Stand = replacing sig p d u S in
      let l = whole_low M ok S Q v h g refl e seen rv in
      let n = k.opens in
      let b = k.low in
      let low : height (whole sig S.opens u) ≤ 999 = omega (arith, l, n, b, fits) in
      let form : normal_form sig (nested sig (whole sig S.opens u)) ≡ whole sig S.opens u = fixed sig ok (whole sig S.opens u) (stand_canonical M ok Q g) in
      record {
        size = omega arith;
        opens = n;
        low = low;
        under = under-both sig f S.run (one (d (nested sig (whole sig S.opens S.hand)) (nested sig (whole sig S.opens u)))) k.under
            (is (nested sig (whole sig S.opens S.hand)) (nested sig (whole sig S.opens u)) (record { seen = other; shallow = subst (IsShallow sig f) (sym form) (low_shallow sig f (whole sig S.opens u) low) }), tt);
      }

  -- the whole before isn't f's identity
  other_than : (o : ℕ) (S : Stand) (w : RawTerm) → IsStanding M S → IsSeen sig S.opens S.hand → normal_form sig w ≡ S.hand → length S.opens ≡ o → (0 < o) ⊎ IsFalse (is_identity (identity_of sig f) (normal_form sig w))
      → IsFalse (is_identity (identity_of sig f) (normal_form sig (nested sig (whole sig S.opens S.hand))))
  other_than o S w h seen e n (inl l) = not_identity_under M ok f S h seen (omega (arith, n, l))
  other_than o S w h seen e n (inr b) = by_opens S.opens refl
    where
      by_opens : (os : List Open) → S.opens ≡ os → IsFalse (is_identity (identity_of sig f) (normal_form sig (nested sig (whole sig S.opens S.hand))))
      by_opens (a ∷ os) q = not_identity_under M ok f S h seen (let z : length S.opens ≡ suc (length os) = ap length q in omega (arith, z))
      by_opens [] q =
          ap (λ qs. is_identity (identity_of sig f) (normal_form sig (nested sig (whole sig qs S.hand)))) q
          ∙ ap (is_identity (identity_of sig f)) (fixed sig ok S.hand h.at.canonical ∙ sym e) ∙ b

  reached : (k : ℕ) (s : Substitution) (vs : List RawTerm) (S : Stand) (r : Bool) → (m : Rattle.mw_deduction.specs.Replay.MayApply M k r s vs S) → height (becomes M k s S.hand) ≤ reach M k vs
  reached k s vs S r m =
      let e : becomes M k s S.hand ≡ normal_form sig (instance s m.statement.right) = becomes_is M ok k s S.hand m.statement m.is_there in
      let raw : IsRawTerm sig (instance s m.statement.right) = raw_inside sig ok (round sig S.opens) (instance s m.statement.right) m.may.raw in
      let a = height_within sig ok (instance s m.statement.right) raw in
      let b : depth sig (instance s m.statement.right) ≤ depth sig m.statement.right + highest (terms_of vs) = subst (λ q. depth sig (instance q m.statement.right) ≤ depth sig m.statement.right + highest (terms_of vs)) (sym m.values.are) (instance_low sig ok m.statement.variables vs m.statement.right m.values.canonical) in
      let c : right_depth M k ≡ depth sig m.statement.right = ap (λ x. unwrap_or (option_map (λ (e : Statement). depth sig e.right) x) 0) m.is_there in
      let d : height (becomes M k s S.hand) ≡ height (normal_form sig (instance s m.statement.right)) = ap height e in
      omega (arith, a, b, c, d)

  pub fitting : (ms : List Move) (d o : ℕ) (B : List Stand) → AreStanding M B → AreMoves M ms B → Stays d o B → Fits M f d o ms → AllUnder sig f (outermost_run (plays M ms B)) × (height (whole sig (outer (plays M ms B)).opens (outer (plays M ms B)).hand) ≤ 999)
  fitting [] d o B h i k z = (k.under, k.low)
  fitting (m ∷ ms) d o [] h i k z = absurd i.0
  fitting (into j ∷ ms) zero o (S ∷ []) h i k z = let g = move_stands M ok (into j) (S ∷ []) h i.0 in fitting ms zero (suc o) (into_argument sig j S.hand S ∷ []) g i.1 (into_stays j o S h.0 i.0 k) z
  fitting (among ks ∷ ms) zero o (S ∷ []) h i k z = let g = move_stands M ok (among ks) (S ∷ []) h i.0 in fitting ms zero (suc o) (into_several sig ks S.hand S ∷ []) g i.1 (among_stays ks o S h.0 i.0 k) z
  fitting (out ∷ ms) zero o (S ∷ []) h i k z = let g = move_stands M ok out (S ∷ []) h i.0 in let (a, os, e) = i.0 in fitting ms zero (pred o) (going_out sig S.opens S ∷ []) g i.1 (out_stays o S a os e k) z
  fitting (begins t ∷ ms) zero o (S ∷ []) h i k z = let g = move_stands M ok (begins t) (S ∷ []) h i.0 in fitting ms 1 o (play M (begins t) (S ∷ [])) g i.1 (record { size = omega arith; opens = k.opens; low = k.low; under = k.under }) z
  fitting (ends ∷ ms) zero o (S ∷ []) h i k z = absurd i.0
  fitting (applies n r s vs ∷ ms) zero o (S ∷ []) h i k z =
      let g = move_stands M ok (applies n r s vs) (S ∷ []) h i.0 in
      let m = i.0 in
      let l = reached n s vs S r m in
      let room = z.0 in
      fitting ms zero o (play M (applies n r s vs) (S ∷ [])) g i.1
      (replaced_stays o S (replacement n r s S.read.ready) (by_statement n s S.sides) (becomes M n s S.hand) (instance s m.statement.right) h.0 g.0 (becomes_is M ok n s S.hand m.statement m.is_there) m.may.seen
      (raw_inside sig ok (round sig S.opens) (instance s m.statement.right) m.may.raw) (λ x y q. q) (omega (arith, l, room))
      (other_than o S (instance s m.statement.left) h.0 m.may.seen m.may.is_part k.opens (elim z.1 [ inl q ↦ inl q | inr q ↦ inr (q m.statement m.is_there s) ])) k) z.2
  fitting (meets t ∷ ms) zero o (S ∷ []) h i k z =
      let g = move_stands M ok (meets t) (S ∷ []) h i.0 in
      let m = i.0 in
      fitting ms zero o (play M (meets t) (S ∷ [])) g i.1
      (replaced_stays o S row by_row t m.result h.0 g.0 (sym m.is) m.may.seen (raw_inside sig ok (round sig S.opens) m.result m.may.raw) (λ x y q. q) z.0
      (other_than o S m.form h.0 m.may.seen m.may.is_part k.opens (elim z.1 [ inl q ↦ inl q | inr q ↦ inr (ap (λ e. is_identity e (normal_form sig m.form)) q) ])) k) z.2
  fitting (m ∷ ms) zero o (S ∷ Q ∷ B) h i k z = let n = k.size in absurd (omega (arith, n))
  fitting (m ∷ ms) (suc d) o (S ∷ []) h i k z = let n = k.size in absurd (omega (arith, n))
  fitting (into j ∷ ms) (suc d) o (S ∷ Q ∷ B) h i k z = let g = move_stands M ok (into j) (S ∷ Q ∷ B) h i.0 in fitting ms (suc d) o (play M (into j) (S ∷ Q ∷ B)) g i.1 (record { size = k.size; opens = k.opens; low = k.low; under = k.under }) z
  fitting (among ks ∷ ms) (suc d) o (S ∷ Q ∷ B) h i k z = let g = move_stands M ok (among ks) (S ∷ Q ∷ B) h i.0 in fitting ms (suc d) o (play M (among ks) (S ∷ Q ∷ B)) g i.1 (record { size = k.size; opens = k.opens; low = k.low; under = k.under }) z
  fitting (out ∷ ms) (suc d) o (S ∷ Q ∷ B) h i k z = let g = move_stands M ok out (S ∷ Q ∷ B) h i.0 in fitting ms (suc d) o (play M out (S ∷ Q ∷ B)) g i.1 (record { size = k.size; opens = k.opens; low = k.low; under = k.under }) z
  fitting (begins t ∷ ms) (suc d) o (S ∷ Q ∷ B) h i k z = let g = move_stands M ok (begins t) (S ∷ Q ∷ B) h i.0 in let n = k.size in fitting ms (suc (suc d)) o (play M (begins t) (S ∷ Q ∷ B)) g i.1 (record { size = omega (arith, n); opens = k.opens; low = k.low; under = k.under }) z
  fitting (ends ∷ ms) (suc d) o (S ∷ Q ∷ []) h i k z = let g = move_stands M ok ends (S ∷ Q ∷ []) h i.0 in let n = k.size in fitting ms d o (showing sig S Q ∷ []) g i.1 (record { size = omega (arith, n); opens = k.opens; low = k.low; under = k.under }) z
  fitting (ends ∷ ms) (suc d) o (S ∷ Q ∷ P ∷ B) h i k z = let g = move_stands M ok ends (S ∷ Q ∷ P ∷ B) h i.0 in let n = k.size in fitting ms d o (showing sig S Q ∷ P ∷ B) g i.1 (record { size = omega (arith, n); opens = k.opens; low = k.low; under = k.under }) z
  fitting (applies n r s vs ∷ ms) (suc d) o (S ∷ Q ∷ B) h i k z = let g = move_stands M ok (applies n r s vs) (S ∷ Q ∷ B) h i.0 in fitting ms (suc d) o (play M (applies n r s vs) (S ∷ Q ∷ B)) g i.1 (record { size = k.size; opens = k.opens; low = k.low; under = k.under }) z
  fitting (meets t ∷ ms) (suc d) o (S ∷ Q ∷ B) h i k z = let g = move_stands M ok (meets t) (S ∷ Q ∷ B) h i.0 in fitting ms (suc d) o (play M (meets t) (S ∷ Q ∷ B)) g i.1 (record { size = k.size; opens = k.opens; low = k.low; under = k.under }) z

  -- Made moves that fit, from a term that is no higher than 999, may be made wherever it stands under f, and end at such a term.
  pub fits_under : (n : ℕ) (t u : RawTerm) (ms : List Move) → IsMade M n t u ms → height t ≤ 999 → Fits M f 0 0 ms → AllUnder sig f (run_of M n t ms) × IsShallow sig f u
  fits_under n t u ms h l z =
      let (a, b) = fitting ms 0 0 (begun n t ∷ []) (starts M ok n t h.begins, tt) h.made (record { size = omega arith; opens = refl; low = l; under = tt }) z in
      let w : whole sig h.last.opens h.last.hand ≡ u = ap (λ qs. whole sig qs h.last.hand) h.closed ∙ h.reaches in
      let c : height (whole sig h.last.opens h.last.hand) ≤ 999 = subst (λ B. height (whole sig (outer B).opens (outer B).hand) ≤ 999) h.stands b in
      (subst (λ B. AllUnder sig f (first_of B).run) (sym h.stands) (subst (λ B. AllUnder sig f (outermost_run B)) h.stands a), low_shallow sig f u (subst (λ x. height x ≤ 999) w c))
