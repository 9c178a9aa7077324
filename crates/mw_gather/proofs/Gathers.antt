-- A proof of some elements of a multiset, kept behind what was carried out before.
use Rattle.std.proofs.Math.Dec.{eqb-suc-zero}
use Rattle.std.specs.Prelude.{◌≡◌, ◌≢◌, ◌==◌, ℕ, suc, List, [], ◌∷◌, ◌++◌, length, Bool, true, false, cond, IsPermutation, refl}
use Rattle.std.proofs.Common.{sym, subst, ap, ◌∙◌, arith, length-append}
use Rattle.std.proofs.lemmas.List.{append_assoc}
use Rattle.std.proofs.lemmas.List.Sorted.{All-permutation, IsPermutation-refl, IsPermutation-sym, IsPermutation-trans, IsPermutation-cons, IsPermutation-append_left, IsPermutation-append_comm, length_permutation}
use Rattle.mw_logic.specs.Term.{RawTerm, RawTerms, nil, cons, join}
use Rattle.mw_logic.specs.Terms.{terms_of, list_of}
use Rattle.mw_logic.specs.Signature.{Signature}
use Rattle.mw_logic.specs.Accepted.{IsAccepted}
use Rattle.mw_logic.specs.Parts.{number_of_terms}
use Rattle.mw_logic.specs.TermOrder.{stands_after, insert_term, sorted_terms}
use Rattle.mw_logic.specs.NormalForm.{is_comm, identity_of, elements, rebuilt, arranged}
use Rattle.mw_logic.specs.Module.{Module}
use Rattle.mw_logic.proofs.SortLaws.{sorted_terms-idempotent, sorted_terms-comm, sorted_terms-right}
use Rattle.mw_logic.proofs.Soundness.{IsLong}
use Rattle.mw_canon.specs.Canonical.{IsAdmittedTerm}
use Rattle.mw_arguments.specs.Places.{chosen, others, Rise}
use Rattle.mw_deduction.specs.Runs.{both}
use Rattle.mw_deduction.specs.Replay.{Stand, begun, plays, Leaves}
use Rattle.mw_trail.specs.Tracks.{Track, moves}
use Rattle.mw_multiset.specs.Together.{parts, together, IsMember, AreMembers, IsOfMultisets, IsShallow, AllUnder}
use Rattle.mw_multiset.specs.Receipts.{IsMade, Receipt, run_of, beside}
use Rattle.mw_multiset.specs.Receipts as made
use Rattle.mw_multiset.proofs.Members.{admitted_canonical, parts_members}
use Rattle.mw_stack.specs.Own.{spread, IsOrdered}
use Rattle.mw_arguments.proofs.Arguments.{in_order}
use Rattle.mw_multiset.proofs.Together.{each_of, on_members, terms-append, terms_list, list_terms, together-permutation, alone_together}
use Rattle.mw_multiset.proofs.Going.{way}
use Rattle.mw_multiset.proofs.Made.{made_concludes, made_then, run_then}
use Rattle.mw_multiset.proofs.Gathering.{Placed, placed_alone, placed_among, left_same}
use Rattle.mw_proof.specs.Deductions.{Deduction, IsKept, end_of, deduced}
use Rattle.mw_proof.specs.Deductions as kept
use Rattle.mw_gather.specs.Gatherings.{IsGathered, StandAmong}
use Rattle.mw_proof.proofs.Keeping.{kept_itself}
use Rattle.mw_gather.proofs.Among.{among_permuted}
use Rattle.mw_gather.proofs.Taken.{counted_out, left_in_order}
use Rattle.mw_proof.specs.Ways as ways

-- what is kept is made, and the other way round
pub made_of : (M : Module) (n : ℕ) (t u : RawTerm) (k : Track) → IsKept M n t u k → IsMade M n t u (moves M k)
made_of M n t u k h = record { low = h.low; begins = h.begins; made = h.made; last = h.last; stands = h.stands; closed = h.closed; used = h.used; reaches = h.reaches }

kept_of : (M : Module) (n : ℕ) (t u : RawTerm) (k : Track) → IsMade M n t u (moves M k) → IsKept M n t u k
kept_of M n t u k h = record { low = h.low; begins = h.begins; made = h.made; last = h.last; stands = h.stands; closed = h.closed; used = h.used; reaches = h.reaches }

same_first : (B : List Stand) (S : Stand) → B ≡ S ∷ [] → kept.first_of B ≡ made.first_of B
same_first B S e = subst (λ C. kept.first_of C ≡ made.first_of C) (sym e) refl

pub same_run : (M : Module) (n : ℕ) (t u : RawTerm) (k : Track) → IsKept M n t u k → (end_of M n t k).run ≡ run_of M n t (moves M k)
same_run M n t u k h = ap (λ (S : Stand). S.run) (same_first (plays M (moves M k) (begun n t ∷ [])) h.last h.stands)

-- a list in order is a permutation
front_over : (a b c : List RawTerm) → IsPermutation (a ++ (b ++ c)) (b ++ (a ++ c))
front_over a b c =
    let e : a ++ (b ++ c) ≡ (a ++ b) ++ c = sym (append_assoc a b c) in
    let f : (b ++ a) ++ c ≡ b ++ (a ++ c) = append_assoc b a c in
    let p : IsPermutation ((a ++ b) ++ c) ((b ++ a) ++ c) = IsPermutation-append_left c (a ++ b) (b ++ a) (IsPermutation-append_comm a b) in
    subst (λ z. IsPermutation z (b ++ (a ++ c))) (sym e) (subst (λ z. IsPermutation ((a ++ b) ++ c) z) f p)

insert_permutes : (t : RawTerm) (us : RawTerms) → IsPermutation (list_of (insert_term t us)) (t ∷ list_of us)
insert_permutes t nil = IsPermutation-refl (t ∷ [])
insert_permutes t (cons u us) = by_test (stands_after t u) (insert_permutes t us)
  where
    by_test : (b : Bool) → IsPermutation (list_of (insert_term t us)) (t ∷ list_of us) → IsPermutation (list_of (cond b (cons u (insert_term t us)) (cons t (cons u us)))) (t ∷ u ∷ list_of us)
    by_test false p = IsPermutation-refl (t ∷ u ∷ list_of us)
    by_test true p = IsPermutation-trans (u ∷ list_of (insert_term t us)) (u ∷ t ∷ list_of us) (t ∷ u ∷ list_of us) (IsPermutation-cons u (list_of (insert_term t us)) (t ∷ list_of us) p) (front_over (u ∷ []) (t ∷ []) (list_of us))

sorted_permutes : (xs : List RawTerm) → IsPermutation (list_of (sorted_terms (terms_of xs))) xs
sorted_permutes [] = IsPermutation-refl []
sorted_permutes (x ∷ xs) =
    IsPermutation-trans (list_of (insert_term x (sorted_terms (terms_of xs)))) (x ∷ list_of (sorted_terms (terms_of xs))) (x ∷ xs) (insert_permutes x (sorted_terms (terms_of xs)))
    (IsPermutation-cons x (list_of (sorted_terms (terms_of xs))) xs (sorted_permutes xs))

-- lists that are the same in order are permutations
same_sorted : (xs ys : List RawTerm) → sorted_terms (terms_of xs) ≡ sorted_terms (terms_of ys) → IsPermutation xs ys
same_sorted xs ys e =
    IsPermutation-trans xs (list_of (sorted_terms (terms_of xs))) ys (IsPermutation-sym (list_of (sorted_terms (terms_of xs))) xs (sorted_permutes xs))
    (subst (λ zs. IsPermutation (list_of zs) ys) (sym e) (sorted_permutes ys))

no_length : (xs : List RawTerm) → length xs ≡ 0 → xs ≡ []
no_length [] e = refl
no_length (x ∷ xs) e = cc

module _ (M : Module) (f : ℕ) (from : RawTerm) (es : List RawTerm) (k : Track) (g : IsGathered M f from es k) (d : Deduction) (kd : Track) (held : IsKept d.over d.rank d.from d.to kd) (is : d ≡ deduced d.over d.rank d.from d.to kd)
    (over : d.over ≡ M) (rest : List RawTerm) (there : IsPermutation es (parts M.signature f d.from ++ rest)) (filled : parts M.signature f d.from ≢ []) (under : AllUnder M.signature f d.run) (shallow : IsShallow M.signature f d.to) where
  abbrev sig : Signature
  sig = M.signature

  ok : IsAccepted M.signature
  ok = g.of.well.accepted

  here : IsKept M d.rank d.from d.to kd
  here = subst (λ X. IsKept X d.rank d.from d.to kd) over held

  runs : d.run ≡ run_of M d.rank d.from (moves M kd)
  runs = ap (λ (x : Deduction). x.run) is ∙ ap (λ X. (end_of X d.rank d.from kd).run) over ∙ same_run M d.rank d.from d.to kd here

  abbrev r : Receipt
  r = record { rank = d.rank; from = d.from; to = d.to; moves = moves M kd }

  receipt : made.IsReceipt M f r
  receipt = record { made = made_of M d.rank d.from d.to kd here; filled = filled; under = subst (AllUnder sig f) runs under; shallow = shallow }

  so_far : IsMade M 63 from (together sig f es) (moves M k)
  so_far = made_of M 63 from (together sig f es) k g.kept

  whole : IsAdmittedTerm sig (together sig f es)
  whole = (made_concludes M ok 63 from (together sig f es) (moves M k) so_far).ends

  module _ (ks : List ℕ) (rise : Rise 1 (suc (number_of_terms (terms_of es))) ks) (chooses : chosen 1 ks (terms_of es) ≡ elements (identity_of sig f) f d.from) (left : List RawTerm) (leaves : terms_of left ≡ others 1 ks (terms_of es))
      (next : Track) (alone : left ≡ [] → moves M next ≡ moves M kd) (among : (left ≡ [] → ⊥) → Leaves (way ks ∷ moves M kd) (moves M next)) where
    rise_there : Rise 1 (suc (number_of_terms (sorted_terms (terms_of es)))) ks
    rise_there = subst (λ ts. Rise 1 (suc (number_of_terms ts)) ks) (sym g.order) rise

    chooses_there : chosen 1 ks (sorted_terms (terms_of es)) ≡ elements (identity_of sig f) f d.from
    chooses_there = ap (chosen 1 ks) g.order ∙ chooses

    -- what is left is the rest
    left_placed : IsLong (terms_of rest) → sorted_terms (terms_of left) ≡ sorted_terms (terms_of rest)
    left_placed some =
        ap sorted_terms (leaves ∙ ap (others 1 ks) (sym g.order)) ∙ left_same M g.of.well f g.of.assoc g.of.comm g.of.free 63 (omega arith) es g.members whole r receipt (let l = held.low in omega (arith, l)) rest there ks rise_there chooses_there some

    abbrev IsPlaced : Type 0
    IsPlaced = Placed M g.of.well f g.of.assoc g.of.comm g.of.free 63 es r rest (moves M next) × (sorted_terms (terms_of left) ≡ sorted_terms (terms_of rest))

    -- as many are left as stand beside
    same_length : length left ≡ length rest
    same_length =
        let a : length (parts sig f d.from ++ rest) ≡ length es = length_permutation es (parts sig f d.from ++ rest) there in
        let b = length-append (parts sig f d.from) rest in
        let c = counted_out es ks left (parts sig f d.from) rise (chooses ∙ sym (terms_list (elements (identity_of sig f) f d.from))) leaves in
        omega (arith, a, b, c)

    is_placed : IsPlaced
    is_placed = by_rest rest refl
      where
        by_rest : (zs : List RawTerm) → rest ≡ zs → IsPlaced
        by_rest [] q =
            let none : left ≡ [] = no_length left (same_length ∙ ap length q) in
            let p : Placed M g.of.well f g.of.assoc g.of.comm g.of.free 63 es r [] (moves M kd) = placed_alone M g.of.well f g.of.assoc g.of.comm g.of.free 63 (omega arith) es g.members whole r receipt (let l = held.low in omega (arith, l)) rest there q in (
              subst (λ ys. Placed M g.of.well f g.of.assoc g.of.comm g.of.free 63 es r ys (moves M next)) (sym q) (subst (λ ms. Placed M g.of.well f g.of.assoc g.of.comm g.of.free 63 es r [] ms) (sym (alone none)) p),
              ap (λ ys. sorted_terms (terms_of ys)) none ∙ ap (λ ys. sorted_terms (terms_of ys)) (sym q),
            )
        by_rest (z ∷ zs) q =
            let some : IsLong (terms_of rest) = subst (λ ys. IsLong (terms_of ys)) (sym q) tt in
            let not_none : left ≡ [] → ⊥ = λ e. let n : length left ≡ 0 = ap length e in let m : length rest ≡ suc (length zs) = ap length q in omega (arith, n, m, same_length) in
            (placed_among M g.of.well f g.of.assoc g.of.comm g.of.free 63 (omega arith) es g.members whole r receipt (let l = held.low in omega (arith, l)) rest there ks rise_there chooses_there some (moves M next) (among not_none), left_placed some)

    module _ (new : List RawTerm) (put : terms_of new ≡ sorted_terms (join (terms_of left) (elements (identity_of sig f) f d.to))) (l : Track) (behind : moves M l ≡ moves M k ++ moves M next) where
      pub put_there : IsPermutation new (parts sig f d.to ++ rest)
      put_there =
          let us : RawTerms = elements (identity_of sig f) f d.to in
          same_sorted new (parts sig f d.to ++ rest)
          (ap sorted_terms put ∙ sorted_terms-idempotent (join (terms_of left) us) ∙ sorted_terms-comm (terms_of left) us ∙ sym (sorted_terms-right us (terms_of left)) ∙ ap (λ zs. sorted_terms (join us zs)) is_placed.1
          ∙ sorted_terms-right us (terms_of rest) ∙ ap sorted_terms (sym (terms-append (parts sig f d.to) rest ∙ ap (λ z. join z (terms_of rest)) (terms_list us))))

      new_members : AreMembers sig f new
      new_members = All-permutation (IsMember sig f) (parts sig f d.to ++ rest) new (IsPermutation-sym new (parts sig f d.to ++ rest) put_there) is_placed.0.members

      same_whole : together sig f new ≡ together sig f (parts sig f d.to ++ rest)
      same_whole = together-permutation sig ok f g.of.assoc g.of.comm new (parts sig f d.to ++ rest) new_members put_there

      made_both : IsMade M 63 from (together sig f (parts sig f d.to ++ rest)) (moves M k ++ moves M next)
      made_both = made_then M ok 63 from (together sig f es) (together sig f (parts sig f d.to ++ rest)) (moves M k) (moves M next) so_far is_placed.0.made

      kept_both : IsKept M 63 from (together sig f new) l
      kept_both = kept_of M 63 from (together sig f new) l (subst (λ ms. IsMade M 63 from (together sig f new) ms) (sym behind) (subst (λ t. IsMade M 63 from t (moves M k ++ moves M next)) (sym same_whole) made_both))

      pub gathered_more : IsGathered M f from new l
      gathered_more = record {
        of = g.of;
        kept = kept_both;
        members = new_members;
        order = ap sorted_terms put ∙ sorted_terms-idempotent (join (terms_of left) (elements (identity_of sig f) f d.to)) ∙ sym put;
      }

      pub run_more : (end_of M 63 from l).run ≡ both (end_of M 63 from k).run (beside sig f rest d.run)
      run_more =
          same_run M 63 from (together sig f new) l kept_both ∙ ap (run_of M 63 from) behind
          ∙ run_then M ok 63 from (together sig f es) (together sig f (parts sig f d.to ++ rest)) (moves M k) (moves M next) so_far is_placed.0.made
          ∙ ap (λ x. both x (run_of M 63 (together sig f es) (moves M next))) (sym (same_run M 63 from (together sig f es) k g.kept))
          ∙ ap (both (end_of M 63 from k).run) (is_placed.0.run ∙ ap (beside sig f rest) (sym runs))

-- the way in mw_multiset
pub same_way : (ks : List ℕ) → ways.way ks ≡ way ks
same_way [] = refl
same_way (k ∷ []) = refl
same_way (k ∷ l ∷ ks) = refl

-- the operator on the elements, as it is made in the end
pub whole_closed : (M : Module) (f : ℕ) (from : RawTerm) (es : List RawTerm) (k : Track) → IsGathered M f from es k → (facts : Signature) (t : RawTerm) → facts ≡ M.signature → t ≡ rebuilt (identity_of facts f) f (terms_of es) → together M.signature f es ≡ t
whole_closed M f from es k g facts t e made =
    on_members M.signature g.of.well.accepted f g.of.assoc g.of.comm (terms_of es) (each_of (IsMember M.signature f) es g.members) ∙ ap (rebuilt (identity_of M.signature f) f) g.order ∙ ap (λ s. rebuilt (identity_of s f) f (terms_of es)) (sym e) ∙ sym made

-- what is left, with what comes, in order
pub put_in_order : (M : Module) (f : ℕ) (from : RawTerm) (es : List RawTerm) (k : Track) → IsGathered M f from es k → (left new : List RawTerm) (ks : List ℕ) (facts : Signature) (t : RawTerm) → facts ≡ M.signature → terms_of left ≡ others 1 ks (terms_of es) → IsAdmittedTerm M.signature t
    → (IsOrdered facts f (terms_of left) → IsOrdered facts f (spread facts f t) → terms_of new ≡ arranged (is_comm facts f) (join (terms_of left) (spread facts f t)))
    → terms_of new ≡ sorted_terms (join (terms_of left) (elements (identity_of M.signature f) f t))
put_in_order M f from es k g left new ks facts t e leaves admitted put =
    let sig : Signature = M.signature in
    let here : IsOrdered sig f (terms_of left) → IsOrdered sig f (spread sig f t) → terms_of new ≡ arranged (is_comm sig f) (join (terms_of left) (spread sig f t)) =
    subst (λ s. IsOrdered s f (terms_of left) → IsOrdered s f (spread s f t) → terms_of new ≡ arranged (is_comm s f) (join (terms_of left) (spread s f t))) e put in
    let own : spread sig f t ≡ elements (identity_of sig f) f t = rw (g.of.assoc) refl in
    let first : arranged (is_comm sig f) (terms_of left) ≡ terms_of left = ap (λ c. arranged c (terms_of left)) g.of.comm ∙ left_in_order es left ks g.order leaves in
    let second : arranged (is_comm sig f) (elements (identity_of sig f) f t) ≡ elements (identity_of sig f) f t = in_order sig g.of.well.accepted f g.of.assoc t (admitted_canonical sig g.of.well.accepted f g.of.assoc t admitted) in
    here first (subst (λ us. arranged (is_comm sig f) us ≡ us) (sym own) second) ∙ ap (λ us. arranged (is_comm sig f) (join (terms_of left) us)) own ∙ ap (λ c. arranged c (join (terms_of left) (elements (identity_of sig f) f t))) g.of.comm

-- whether a list is empty
pub empty_told : (xs : List RawTerm) (b : Bool) → b ≡ (length xs == 0) → (xs ≡ [] → b ≡ true) × ((xs ≡ [] → ⊥) → b ≡ false)
empty_told [] b e = ((λ q. e), λ q. absurd (q refl))
empty_told (x ∷ xs) b e = ((λ q. absurd (let n : suc (length xs) ≡ 0 = ap length q in omega (arith, n))), λ q. e ∙ eqb-suc-zero (length xs))

-- a list that is seen as a term's elements
pub parts_seen : (M : Module) (f : ℕ) (facts : Signature) (t : RawTerm) (us : List RawTerm) → facts ≡ M.signature → terms_of us ≡ elements (identity_of facts f) f t → us ≡ parts M.signature f t
parts_seen M f facts t us e h = sym (list_terms us) ∙ ap list_of (h ∙ ap (λ s. elements (identity_of s f) f t) e)

-- a term's elements stand in order
pub parts_in_order : (M : Module) (f : ℕ) (t : RawTerm) → IsOfMultisets M f → IsAdmittedTerm M.signature t → sorted_terms (terms_of (parts M.signature f t)) ≡ terms_of (parts M.signature f t)
parts_in_order M f t of admitted =
    let sig : Signature = M.signature in
    let second : arranged (is_comm sig f) (elements (identity_of sig f) f t) ≡ elements (identity_of sig f) f t = in_order sig of.well.accepted f of.assoc t (admitted_canonical sig of.well.accepted f of.assoc t admitted) in
    let third : sorted_terms (elements (identity_of sig f) f t) ≡ elements (identity_of sig f) f t = ap (λ c. arranged c (elements (identity_of sig f) f t)) (sym of.comm) ∙ second in
    subst (λ us. sorted_terms us ≡ us) (sym (terms_list (elements (identity_of sig f) f t))) third

-- those of a part stand among the others
pub parts_among : (M : Module) (f : ℕ) (from : RawTerm) (es : List RawTerm) (k : Track) → IsGathered M f from es k → (t : RawTerm) (rest : List RawTerm) → IsAdmittedTerm M.signature t → IsPermutation es (parts M.signature f t ++ rest)
    → (facts : Signature) (us : List RawTerm) → facts ≡ M.signature → terms_of us ≡ elements (identity_of facts f) f t → StandAmong us es
parts_among M f from es k g t rest admitted there facts us e h =
    subst (λ xs. StandAmong xs es) (sym (parts_seen M f facts t us e h)) (among_permuted (parts M.signature f t) es rest (parts_in_order M f t g.of admitted) g.order there)

-- a gathering begins
pub gathered_first : (M : Module) (f : ℕ) (t : RawTerm) (k : Track) → IsOfMultisets M f → IsAdmittedTerm M.signature t → IsShallow M.signature f t → moves M k ≡ [] → IsGathered M f t (parts M.signature f t) k
gathered_first M f t k of admitted shallow none = record {
  of = of;
  kept = subst (λ u. IsKept M 63 t u k) (sym (alone_together M.signature of.well.accepted f of.assoc of.comm t (admitted_canonical M.signature of.well.accepted f of.assoc t admitted))) (kept_itself M 63 t k (omega arith) admitted none).0;
  members = parts_members M.signature of.well.accepted f of.assoc t admitted shallow;
  order = parts_in_order M f t of admitted;
}
