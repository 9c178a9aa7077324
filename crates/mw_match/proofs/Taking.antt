-- Numbers of arguments that are taken, one argument after another.
use Rattle.std.specs.Prelude.{◌≡◌, ◌≤◌, ◌<◌, ◌+◌, ◌-◌, ℕ, zero, suc, Bool, true, false, List, [], ◌∷◌, ◌++◌, length, drop, ◌==◌, cond, ◌&&◌, nat_lt, Some, None, refl}
use Rattle.std.proofs.Common.{sym, ap, ◌∙◌, arith, append_assoc, get_or, add-one, add-zero}
use Rattle.std.proofs.lemmas.Bool.{both_ways}
use Rattle.std.proofs.lemmas.List.{append-nil}
use Rattle.mw_logic.specs.Term.{RawTerm, RawTerms, nil, cons, join}
use Rattle.mw_logic.specs.Terms.{terms_of}
use Rattle.mw_logic.proofs.Pushed.{join_pushed}
use Rattle.mw_logic.proofs.SortLaws.{join-nil}
use Rattle.mw_arguments.specs.Bags.{same}
use Rattle.mw_arguments.specs.Places.{numbers_of}
use Rattle.mw_matching.specs.Found.{numbers_from}
use Rattle.mw_matching.specs.Multisets.{left_behind}
use Rattle.mw_logic.specs.Parts.{number_of_terms}
use Rattle.mw_solving.specs.Inside.{left_numbers}
use Rattle.mw_search.proofs.BagLists.{number_terms, terms_at, terms_past}

-- one number more
numbers_more : (n k : ℕ) → numbers_from n (suc k) ≡ numbers_from n k ++ (n + k) ∷ []
numbers_more n zero = ap (λ m. m ∷ []) (sym (add-zero n))
numbers_more n (suc k) = let e : suc n + k ≡ n + suc k = omega arith in ap (λ ns. n ∷ ns) (numbers_more (suc n) k ∙ ap (λ m. numbers_from (suc n) k ++ m ∷ []) e)

pub next_number : (from end i m : ℕ) (made next : List ℕ) → from ≤ i → i < end → m ≡ i + 1 → next ≡ made ++ m ∷ [] → made ≡ numbers_from (suc from) (i - from) → next ≡ numbers_from (suc from) (i + 1 - from)
next_number from end i m made next low high is pushed so_far =
    let e : i + 1 - from ≡ suc (i - from) = omega arith in
    let f : suc from + (i - from) ≡ m = omega arith in
    pushed ∙ ap (λ ns. ns ++ m ∷ []) so_far ∙ ap (λ k. numbers_from (suc from) (i - from) ++ k ∷ []) (sym f) ∙ sym (numbers_more (suc from) (i - from)) ∙ ap (numbers_from (suc from)) (sym e)

-- by the first of some terms
taken_first : (ts zs ts1 zs1 : RawTerms) (u z : RawTerm) → ts ≡ cons u ts1 → zs ≡ cons z zs1 → same u z ≡ true → left_behind ts zs ≡ left_behind ts1 zs1
taken_first ts zs ts1 zs1 u z e f s = rw (e, f, s) refl

left_first : (ts zs zs1 : RawTerms) (z : RawTerm) → ((u : RawTerm) (us : RawTerms) → ts ≡ cons u us → same u z ≡ false) → zs ≡ cons z zs1 → left_behind ts zs ≡ cons z (left_behind ts zs1)
left_first nil zs zs1 z n f = f
left_first (cons u us) zs zs1 z n f = let s : same u z ≡ false = n u us refl in rw (f, s) refl

number_first : (i : ℕ) (ts zs ts1 zs1 : RawTerms) (u z : RawTerm) → ts ≡ cons u ts1 → zs ≡ cons z zs1 → same u z ≡ true → numbers_of i ts zs ≡ i ∷ numbers_of (suc i) ts1 zs1
number_first i ts zs ts1 zs1 u z e f s = rw (e, f, s) refl

number_later : (i : ℕ) (ts zs zs1 : RawTerms) (z : RawTerm) → ((u : RawTerm) (us : RawTerms) → ts ≡ cons u us → same u z ≡ false) → zs ≡ cons z zs1 → numbers_of i ts zs ≡ numbers_of (suc i) ts zs1
number_later i nil zs zs1 z n f = refl
number_later i (cons u us) zs zs1 z n f = let s : same u z ≡ false = n u us refl in rw (f, s) refl

-- what was left, and what still goes
pub record IsLeaving (gone args : RawTerms) (left : List RawTerm) (rest behind : RawTerms) : Type 0 where
  pub leaves : join (terms_of left) (left_behind rest behind) ≡ left_behind gone args

pub leaves_none : (gone args : RawTerms) → IsLeaving gone args [] gone args
leaves_none gone args = record { leaves = refl }

module _ (gone args : RawTerms) (zs : List RawTerm) (i : ℕ) (z : RawTerm) (within : i < length zs) (is : z ≡ get_or zs i z) where
  pub leaves_taken : (left : List RawTerm) (rest after : RawTerms) (u : RawTerm) → rest ≡ cons u after → same u z ≡ true → IsLeaving gone args left rest (terms_of (drop i zs)) → IsLeaving gone args left after (terms_of (drop (i + 1) zs))
  leaves_taken left rest after u e s h = record {
    leaves = ap (join (terms_of left)) (sym (taken_first rest (terms_of (drop i zs)) after (terms_of (drop (i + 1) zs)) u z e (terms_at zs i z within is) s)) ∙ h.leaves;
  }

  pub leaves_more : (left next : List RawTerm) (x : RawTerm) (rest : RawTerms) → next ≡ left ++ x ∷ [] → x ≡ z → ((u : RawTerm) (us : RawTerms) → rest ≡ cons u us → same u z ≡ false)
      → IsLeaving gone args left rest (terms_of (drop i zs)) → IsLeaving gone args next rest (terms_of (drop (i + 1) zs))
  leaves_more left next x rest pushed same n h = record {
    leaves =
        ap (λ ts. join (terms_of ts) (left_behind rest (terms_of (drop (i + 1) zs)))) (pushed ∙ ap (λ y. left ++ y ∷ []) same) ∙ join_pushed left z (left_behind rest (terms_of (drop (i + 1) zs)))
        ∙ ap (join (terms_of left)) (sym (left_first rest (terms_of (drop i zs)) (terms_of (drop (i + 1) zs)) z n (terms_at zs i z within is))) ∙ h.leaves;
  }

none_behind : (rest : RawTerms) → left_behind rest nil ≡ nil
none_behind nil = refl
none_behind (cons u us) = refl

pub leaves_all : (gone args : RawTerms) (zs left : List RawTerm) (i : ℕ) (rest : RawTerms) → length zs ≤ i → IsLeaving gone args left rest (terms_of (drop i zs)) → terms_of left ≡ left_behind gone args
leaves_all gone args zs left i rest past h =
    sym (join-nil (terms_of left)) ∙ ap (join (terms_of left)) (sym (ap (left_behind rest) (terms_past zs i past) ∙ none_behind rest)) ∙ h.leaves

-- the numbers so far, and those still to come
pub record IsNumbering (some args : RawTerms) (made : List ℕ) (i : ℕ) (rest behind : RawTerms) : Type 0 where
  pub numbers : made ++ numbers_of (i + 1) rest behind ≡ numbers_of 1 some args

pub numbers_none : (some args : RawTerms) → IsNumbering some args [] 0 some args
numbers_none some args = record { numbers = refl }

module _ (some args : RawTerms) (zs : List RawTerm) (i : ℕ) (z : RawTerm) (within : i < length zs) (is : z ≡ get_or zs i z) where
  pub numbers_taken : (made next : List ℕ) (m : ℕ) (rest after : RawTerms) (u : RawTerm) → next ≡ made ++ m ∷ [] → m ≡ i + 1 → rest ≡ cons u after → same u z ≡ true
      → IsNumbering some args made i rest (terms_of (drop i zs)) → IsNumbering some args next (i + 1) after (terms_of (drop (i + 1) zs))
  numbers_taken made next m rest after u e number f s h =
      let more : List ℕ = numbers_of (i + 1 + 1) after (terms_of (drop (i + 1) zs)) in
      let step : numbers_of (i + 1) rest (terms_of (drop i zs)) ≡ (i + 1) ∷ more =
      number_first (i + 1) rest (terms_of (drop i zs)) after (terms_of (drop (i + 1) zs)) u z f (terms_at zs i z within is) s
      ∙ ap (λ n. (i + 1) ∷ numbers_of n after (terms_of (drop (i + 1) zs))) (sym (add-one (i + 1))) in
      record {
        numbers = ap (λ ns. ns ++ more) e ∙ append_assoc made (m ∷ []) more ∙ ap (λ n. made ++ n ∷ more) number ∙ ap (λ ns. made ++ ns) (sym step) ∙ h.numbers;
      }

  pub numbers_passed : (made : List ℕ) (rest : RawTerms) → ((u : RawTerm) (us : RawTerms) → rest ≡ cons u us → same u z ≡ false)
      → IsNumbering some args made i rest (terms_of (drop i zs)) → IsNumbering some args made (i + 1) rest (terms_of (drop (i + 1) zs))
  numbers_passed made rest n h =
      let step : numbers_of (i + 1) rest (terms_of (drop i zs)) ≡ numbers_of (i + 1 + 1) rest (terms_of (drop (i + 1) zs)) =
      number_later (i + 1) rest (terms_of (drop i zs)) (terms_of (drop (i + 1) zs)) z n (terms_at zs i z within is)
      ∙ ap (λ n. numbers_of n rest (terms_of (drop (i + 1) zs))) (sym (add-one (i + 1))) in
      record { numbers = ap (λ ns. made ++ ns) (sym step) ∙ h.numbers }

no_numbers : (i : ℕ) (rest : RawTerms) → numbers_of i rest nil ≡ []
no_numbers i nil = refl
no_numbers i (cons u us) = refl

pub numbers_all : (some args : RawTerms) (zs : List RawTerm) (made : List ℕ) (i : ℕ) (rest : RawTerms) → length zs ≤ i → IsNumbering some args made i rest (terms_of (drop i zs)) → made ≡ numbers_of 1 some args
numbers_all some args zs made i rest past h =
    sym (append-nil made) ∙ ap (λ ns. made ++ ns) (sym (ap (numbers_of (i + 1) rest) (terms_past zs i past) ∙ no_numbers (i + 1) rest)) ∙ h.numbers

-- what a test for none says
pub is_none : (n : ℕ) (b : Bool) → b ≡ (n == 0) → b ≡ true → n ≡ 0
is_none n b e h = grind arith

pub is_some : (n : ℕ) (b : Bool) → b ≡ (n == 0) → b ≡ false → n ≡ 0 → ⊥
is_some n b e h none = both_ways b h (e ∙ ap (λ n. n == 0) none)

-- what is taken where elements are left
lt_is : (m n : ℕ) → m < n → nat_lt m n ≡ true
lt_is m n h = grind arith

lt_not : (m n : ℕ) → n ≤ m → nat_lt m n ≡ false
lt_not m n h = grind arith

module _ (comm : Bool) (args left : List RawTerm) (from : ℕ) where
  abbrev of_comm : List ℕ
  of_comm = numbers_of 1 (left_behind (terms_of left) (terms_of args)) (terms_of args)

  abbrev of_list : List ℕ
  of_list = numbers_from (suc from) (number_of_terms (terms_of args) - from - number_of_terms (terms_of left))

  pub nothing_left : length left ≡ 0 → None ≡ left_numbers comm (terms_of args) from (terms_of left)
  nothing_left none =
      let e : number_of_terms (terms_of left) ≡ 0 = number_terms left ∙ none in
      sym (ap (λ n. cond (nat_lt 0 n && nat_lt (n + from + 1) (number_of_terms (terms_of args)))
      (Some (cond comm of_comm (numbers_from (suc from) (number_of_terms (terms_of args) - from - n)))) None) e)

  pub few_taken : length args - from ≤ length left + 1 → None ≡ left_numbers comm (terms_of args) from (terms_of left)
  few_taken few =
      let n : number_of_terms (terms_of left) ≡ length left = number_terms left in
      let m : number_of_terms (terms_of args) ≡ length args = number_terms args in
      let e : nat_lt (number_of_terms (terms_of left) + from + 1) (number_of_terms (terms_of args)) ≡ false = lt_not (number_of_terms (terms_of left) + from + 1) (number_of_terms (terms_of args)) (omega arith) in
      sym (ap (λ b. cond (nat_lt 0 (number_of_terms (terms_of left)) && b) (Some (cond comm of_comm of_list)) None) e ∙ no_one (nat_lt 0 (number_of_terms (terms_of left))))
    where
      no_one : (b : Bool) → cond (b && false) (Some (cond comm of_comm of_list)) None ≡ None
      no_one true = refl
      no_one false = refl

  some_taken : (length left ≡ 0 → ⊥) → length left + 1 < length args - from → left_numbers comm (terms_of args) from (terms_of left) ≡ Some (cond comm of_comm of_list)
  some_taken some more =
      let n : number_of_terms (terms_of left) ≡ length left = number_terms left in
      let m : number_of_terms (terms_of args) ≡ length args = number_terms args in
      let e : nat_lt 0 (number_of_terms (terms_of left)) ≡ true = lt_is 0 (number_of_terms (terms_of left)) (omega arith) in
      let f : nat_lt (number_of_terms (terms_of left) + from + 1) (number_of_terms (terms_of args)) ≡ true = lt_is (number_of_terms (terms_of left) + from + 1) (number_of_terms (terms_of args)) (omega arith) in
      ap (λ b. cond (b && nat_lt (number_of_terms (terms_of left) + from + 1) (number_of_terms (terms_of args))) (Some (cond comm of_comm of_list)) None) e
      ∙ ap (λ b. cond (true && b) (Some (cond comm of_comm of_list)) None) f

  pub taken_of_bag : (made : List ℕ) (some : List RawTerm) → (length left ≡ 0 → ⊥) → length left + 1 < length args - from → comm ≡ true → terms_of some ≡ left_behind (terms_of left) (terms_of args)
      → made ≡ numbers_of 1 (terms_of some) (terms_of args) → Some made ≡ left_numbers comm (terms_of args) from (terms_of left)
  taken_of_bag made some l more is_comm others done =
      ap Some (done ∙ ap (λ ts. numbers_of 1 ts (terms_of args)) others) ∙ sym (ap (λ b. Some (cond b of_comm of_list)) is_comm) ∙ sym (some_taken l more)

  pub taken_of_list : (made : List ℕ) → (length left ≡ 0 → ⊥) → length left + 1 < length args - from → comm ≡ false → made ≡ numbers_from (suc from) (length args - length left - from)
      → Some made ≡ left_numbers comm (terms_of args) from (terms_of left)
  taken_of_list made l more not_comm done =
      let n : number_of_terms (terms_of left) ≡ length left = number_terms left in
      let m : number_of_terms (terms_of args) ≡ length args = number_terms args in
      let e : length args - length left - from ≡ number_of_terms (terms_of args) - from - number_of_terms (terms_of left) = omega arith in
      ap Some (done ∙ ap (numbers_from (suc from)) e) ∙ sym (ap (λ b. Some (cond b of_comm of_list)) not_comm) ∙ sym (some_taken l more)
