-- Operators without axioms, or the successor of numbers, on terms.
use Rattle.std.specs.Prelude.{◌≡◌, ◌≢◌, ◌<◌, ◌^◌, ◌&&◌, ℕ, zero, suc, List, [], ◌∷◌, length, drop, get_or, Bool, true, false, cond, nat_lt, refl}
use Rattle.std.proofs.Common.{sym, subst, ◌∙◌}
use Rattle.mw_logic.specs.Term.{RawTerm, numeral, quoted, variable, apply, RawTerms, nil, cons}
use Rattle.mw_logic.specs.Terms.{terms_of}
use Rattle.mw_logic.specs.Signature.{Signature}
use Rattle.mw_logic.specs.Parts.{is_assoc}
use Rattle.mw_logic.specs.Kinds.{is_successor}
use Rattle.mw_logic.specs.NormalForm.{is_comm, counted as counted_up, applied_in}
use Rattle.mw_matching.specs.Matches.{evaluated, evaluated_all}
use Rattle.mw_pattern.specs.Clean.{clean, clean_all}
use Rattle.mw_pattern.specs.declared.pattern.Pattern.{Pattern}
use Rattle.mw_pattern.proofs.Lists.{drop_at}
use Rattle.mw_match.specs.Matching.{Decides}
use Rattle.mw_match.specs.Straight.{IsStraight, AreStraight}

pub decides_no : (n : ℕ) (old new : List RawTerm) (P : List RawTerm → Type 0) → ((us : List RawTerm) → P us → ⊥) → Decides false n old new P
decides_no n old new P h = λ us b m p. h us p

-- a numeral is the successor of the one before
pub record IsCounted (s : Bool) (n : ℕ) (ts : RawTerms) : Type 0 where
  pub successor : s ≡ true
  pub less : ℕ
  pub number : n ≡ suc less
  pub only : ts ≡ cons (numeral less) nil

and_left : (a b : Bool) → (a && b) ≡ true → a ≡ true
and_left true b e = refl
and_left false b e = cc

pub counted_numeral : (s : Bool) (f n : ℕ) (ts : RawTerms) → counted_up s f ts ≡ numeral n → IsCounted s n ts
counted_numeral s f n nil e = cc
counted_numeral s f n (cons (numeral m) nil) e = by_test (s && nat_lt (suc m) (2 ^ 128)) refl e
  where
    by_test : (b : Bool) → (s && nat_lt (suc m) (2 ^ 128)) ≡ b → cond b (numeral (suc m)) (apply f (cons (numeral m) nil)) ≡ numeral n → IsCounted s n (cons (numeral m) nil)
    by_test true k e = record { successor = and_left s _ k; less = m; number = (cc); only = refl }
    by_test false k e = cc
counted_numeral s f n (cons (quoted q) nil) e = cc
counted_numeral s f n (cons (variable x) nil) e = cc
counted_numeral s f n (cons (apply h ts) nil) e = cc
counted_numeral s f n (cons t (cons u ts)) e = cc

pub several_stay : (s : Bool) (f : ℕ) (ts : List RawTerm) → length ts ≢ 1 → counted_up s f (terms_of ts) ≡ apply f (terms_of ts)
several_stay s f [] n = refl
several_stay s f (t ∷ []) n = absurd (n refl)
several_stay s f (t ∷ u ∷ ts) n = refl

module _ (sig : Signature) where
  -- without associativity and commutativity only the successor of a numeral is anything else
  pub straight_applied : (f : ℕ) (ts : RawTerms) → is_assoc sig f ≡ false → is_comm sig f ≡ false → applied_in sig f ts ≡ counted_up (is_successor sig f) f ts
  straight_applied f ts a c = rw (a, c) refl

  pub straight_drop : (ps : List Pattern) (i : ℕ) → AreStraight sig (clean_all ps) → AreStraight sig (clean_all (drop i ps))
  straight_drop ps zero h = h
  straight_drop [] (suc i) h = h
  straight_drop (p ∷ ps) (suc i) h = straight_drop ps i h.1

  pub straight_at : (ps : List Pattern) (i : ℕ) (p : Pattern) → i < length ps → p ≡ get_or ps i p → AreStraight sig (clean_all ps) → IsStraight sig (clean p)
  straight_at ps i p l e h = (subst (λ qs. AreStraight sig (clean_all qs)) (drop_at ps i p l e) (straight_drop ps i h)).0

  pub no_number : (n : ℕ) (old new : List RawTerm) (f m : ℕ) (ps : RawTerms) → is_assoc sig f ≡ false → is_comm sig f ≡ false
      → ((us : List RawTerm) → IsCounted (is_successor sig f) m (evaluated_all sig us ps) → ⊥) → Decides false n old new (λ us. evaluated sig us (apply f ps) ≡ numeral m)
  no_number n old new f m ps a c none = decides_no n old new _ (λ us e. none us (counted_numeral (is_successor sig f) f m _ (sym (straight_applied f _ a c) ∙ e)))

  pub one_pattern : (us : List RawTerm) (ps : List Pattern) (m : ℕ) → evaluated_all sig us (clean_all ps) ≡ cons (numeral m) nil → length ps ≡ 1
  one_pattern us [] m e = cc
  one_pattern us (p ∷ []) m e = refl
  one_pattern us (p ∷ q ∷ ps) m e = cc
