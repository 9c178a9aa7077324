-- Another term in place of some of those that come among a level's arguments.
use Rattle.std.specs.Prelude.{◌≡◌, ◌+◌, ℕ, suc, List, ◌∷◌, Bool, true, false, refl}
use Rattle.std.proofs.Common.{ap, sym, ◌∙◌, arith}
use Rattle.mw_logic.specs.Term.{RawTerm, RawTerms, nil, cons, join}
use Rattle.mw_logic.specs.Signature.{Signature}
use Rattle.mw_logic.specs.Accepted.{IsAccepted}
use Rattle.mw_logic.specs.Parts.{number_of_terms}
use Rattle.mw_logic.specs.TermOrder.{sorted_terms}
use Rattle.mw_logic.specs.NormalForm.{is_comm, arranged, applied_in}
use Rattle.mw_logic.proofs.SortLaws.{join_assoc, sorted_terms-left, sorted_terms-right, sorted_terms-idempotent}
use Rattle.mw_arguments.specs.Places.{chosen, others, Rise, Follow}
use Rattle.mw_arguments.proofs.Places.{chosen_whole}
use Rattle.mw_arguments.proofs.Middles.{Divided, first_there, chosen-middle, others-middle, followed, in_front}
use Rattle.mw_redex.specs.Replaced.{exchanged}
use Rattle.mw_redex.proofs.Middles.{exchanged-middle, number-join, less}
use Rattle.mw_redex.proofs.Standing.{placed_anywhere}

-- one cut of a list
pub same_cut : (b c us vs : RawTerms) → number_of_terms b ≡ number_of_terms c → join b us ≡ join c vs → (b ≡ c) × (us ≡ vs)
same_cut nil nil us vs n e = (refl, e)
same_cut nil (cons u c) us vs n e = absurd (omega (arith, n))
same_cut (cons t b) nil us vs n e = absurd (omega (arith, n))
same_cut (cons t b) (cons u c) us vs n e =
    let h : t ≡ u = cc in
    let r = same_cut b c us vs (omega (arith, n)) cc in
    (ap (λ x. cons x b) h ∙ ap (cons u) r.0, r.1)

-- four lists in order
in_order_of_four : (c d b a : RawTerms) → sorted_terms (join (join c d) (join b a)) ≡ sorted_terms (join (join b c) (join d a))
in_order_of_four c d b a =
    ap sorted_terms (join_assoc c d (join b a)) ∙ sym (sorted_terms-right c (join d (join b a))) ∙ ap (λ ts. sorted_terms (join c ts)) (in_front d b a) ∙ sorted_terms-right c (join b (join d a))
    ∙ in_front c b (join d a) ∙ sym (ap sorted_terms (join_assoc b c (join d a)))

-- us stand among es, with c before them and d behind them
pub record StandAmong (comm : Bool) (es us c d : RawTerms) (n : ℕ) (ks : List ℕ) : Type 0 where
  pub in_order : comm ≡ true → sorted_terms (join us (join c d)) ≡ sorted_terms es
  pub whole : comm ≡ false → es ≡ join c (join us d)
  pub follow : comm ≡ false → Follow (n ∷ ks)

module _ (sig : Signature) (ok : IsAccepted sig) (f : ℕ) (b a es us c d : RawTerms) (n : ℕ) (ks : List ℕ) (stand : StandAmong (is_comm sig f) es us c d n ks) where
  abbrev all : RawTerms
  all = arranged (is_comm sig f) (join b (join es a))

  pub exchanged_among : (x : RawTerm) → Rise 1 (suc (number_of_terms all)) (n ∷ ks) → chosen 1 (n ∷ ks) all ≡ us → (is_comm sig f ≡ false → n ≡ suc (number_of_terms b + number_of_terms c))
      → applied_in sig f (exchanged 1 n ks x all) ≡ applied_in sig f (join (join b c) (cons x (join d a)))
  exchanged_among x rise picks number = by_place (first_there n ks all rise)
    where
      by_place : (i : ℕ) × (n ≡ suc i) × (t : RawTerm) × Divided all i t → applied_in sig f (exchanged 1 n ks x all) ≡ applied_in sig f (join (join b c) (cons x (join d a)))
      by_place (i, m, t, h) = ap (applied_in sig f) put ∙ by_comm (is_comm sig f) refl
        where
          z : n ≡ 1 + number_of_terms h.before
          z = let g = h.size in omega (arith, m, g)

          rest : RawTerms
          rest = others (suc n) ks h.after

          put : exchanged 1 n ks x all ≡ join h.before (cons x (others (suc n) ks h.after))
          put = ap (exchanged 1 n ks x) h.whole ∙ exchanged-middle 1 n ks x h.before t h.after z

          left : others 1 (n ∷ ks) all ≡ join h.before (others (suc n) ks h.after)
          left = ap (others 1 (n ∷ ks)) h.whole ∙ others-middle 1 n ks h.before t h.after z

          first : cons t (chosen (suc n) ks h.after) ≡ us
          first = sym (ap (chosen 1 (n ∷ ks)) h.whole ∙ chosen-middle 1 n ks h.before t h.after z) ∙ picks

          by_comm : (m : Bool) → is_comm sig f ≡ m → applied_in sig f (join h.before (cons x (others (suc n) ks h.after))) ≡ applied_in sig f (join (join b c) (cons x (join d a)))
          by_comm true e =
              let ys : RawTerms = join h.before (others (suc n) ks h.after) in
              let zs : RawTerms = join (join b c) (join d a) in
              let s : all ≡ sorted_terms (join b (join es a)) = ap (λ m. arranged m (join b (join es a))) e in
              let p : sorted_terms (join us ys) ≡ sorted_terms (join b (join es a)) =
              sym (ap (λ ts. sorted_terms (join ts ys)) picks) ∙ sym (ap (λ ts. sorted_terms (join (chosen 1 (n ∷ ks) all) ts)) left) ∙ chosen_whole 1 (n ∷ ks) all ∙ ap sorted_terms s ∙ sorted_terms-idempotent (join b (join es a)) in
              let q : sorted_terms (join b (join es a)) ≡ sorted_terms (join us zs) =
              in_front b es a ∙ sym (sorted_terms-left es (join b a)) ∙ ap (λ ts. sorted_terms (join ts (join b a))) (sym (stand.in_order e)) ∙ sorted_terms-left (join us (join c d)) (join b a)
              ∙ ap sorted_terms (join_assoc us (join c d) (join b a)) ∙ sym (sorted_terms-right us (join (join c d) (join b a))) ∙ ap (λ ts. sorted_terms (join us ts)) (in_order_of_four c d b a) ∙ sorted_terms-right us zs in
              placed_anywhere sig ok f e x h.before (others (suc n) ks h.after) (join b c) (join d a) (less us ys zs (p ∙ q))
          by_comm false e =
              let w : join h.before (cons t h.after) ≡ join b (join es a) = sym h.whole ∙ ap (λ m. arranged m (join b (join es a))) e in
              let v : cons t h.after ≡ join us (others (suc n) ks h.after) = ap (cons t) (sym (followed n ks h.after (stand.follow e))) ∙ ap (λ ts. join ts (others (suc n) ks h.after)) first in
              let u : join b (join es a) ≡ join (join b c) (join us (join d a)) =
              ap (λ ts. join b (join ts a)) (stand.whole e) ∙ ap (join b) (join_assoc c (join us d) a ∙ ap (join c) (join_assoc us d a)) ∙ sym (join_assoc b c (join us (join d a))) in
              let k = number-join b c in
              let l = number e in
              let r = same_cut h.before (join b c) (join us (others (suc n) ks h.after)) (join us (join d a)) (omega (arith, z, k, l)) (ap (join h.before) (sym v) ∙ w ∙ u) in
              let s = same_cut us us (others (suc n) ks h.after) (join d a) refl r.1 in
              ap (λ ts. applied_in sig f (join ts (cons x (others (suc n) ks h.after)))) r.0 ∙ ap (λ ts. applied_in sig f (join (join b c) (cons x ts))) s.1
