-- Texts of numbers: digits without leading zeros, which tell the number, and how it compares with others.
use Rattle.std.proofs.Common.{◌≡◌, ◌≢◌, ◌∙◌, ◌+◌, ◌-◌, ◌*◌, ◌<◌, ◌≤◌, ℕ, zero, suc, List, [], ◌∷◌, map, length, get_or, Bool, true, false, nat_le, Option, Some, None, if◌then◌else◌, ⊎_elim, refl, ap, sym, subst, arith}
use Rattle.std.specs.Prelude.{◌↔◌, ◌==◌, cond, MatchOption, ⊤}
use Rattle.std.specs.declared.cmp.Ordering.{Ordering}
use Rattle.std.specs.declared.cmp.Ordering.TheVariants.{Less, Equal, Greater}
use Rattle.std.specs.Ordering.{is_lt, nat_cmp, ordering_then}
use Rattle.std.specs.Cmp.Lexicographic.{slice_cmp}
use Rattle.std.proofs.lemmas.Bool.{and_from, and_parts, cases_lt, le-leb, leb-true, lt-ltb, le-ltb, eq-eqb, ne_eqb}
use Rattle.std.specs.Int.Digits.{digits_of, number_from_digits_after, AllBelowBase}
use Rattle.std.proofs.lemmas.Int.Digits.{all_below_base_digits_of, first_digits_of, number_digits_of}
use Rattle.mw_proofread.specs.Numbers.{number_text, is_digit, saturated, read_after, IsNumber, IsLeading, Rises}
use Rattle.mw_proofread.specs.Parts.{is_low}

abbrev shifted : List ℕ → List ℕ
shifted ds = map (λ d. 48 + d) ds

abbrev value : ℕ → List ℕ → ℕ
value n ds = number_from_digits_after 10 n ds

abbrev AreDigits : List ℕ → Type 0
AreDigits ds = AllBelowBase 10 ds

-- a digit at least, and more than one only behind one that isn't 0
abbrev IsLead : List ℕ → Type 0
IsLead [] = ⊥
IsLead (d ∷ []) = ⊤
IsLead (d ∷ e ∷ ds) = 0 < d

record HasDigits (n : ℕ) : Type 0 where
  digits : List ℕ
  is : number_text n ≡ shifted digits
  below : AreDigits digits
  lead : IsLead digits
  number : value 0 digits ≡ n

lead_of : (ds : List ℕ) → 0 < get_or ds 0 0 → IsLead ds
lead_of [] h = absurd (omega arith)
lead_of (d ∷ []) h = tt
lead_of (d ∷ e ∷ ds) h = h

has_digits : (n : ℕ) → HasDigits n
unfolding number_text
has_digits zero = record { digits = 0 ∷ []; is = refl; below = (omega arith, tt); lead = tt; number = refl }
has_digits (suc n) = record {
  digits = digits_of 10 (suc n);
  is = refl;
  below = all_below_base_digits_of 10 (suc n) (omega arith);
  lead = lead_of (digits_of 10 (suc n)) (first_digits_of 10 (suc n) (omega arith) (omega arith));
  number = number_digits_of 10 (suc n) (omega arith);
}

-- of two lists of digits as long, behind a smaller number stands the smaller one
ahead : (ds es : List ℕ) → length ds ≡ length es → AreDigits ds → AreDigits es → (x y : ℕ) → x < y → value x ds < value y es
ahead [] [] l d e x y h = h
ahead [] (b ∷ es) l d e x y h = absurd (omega (arith, l))
ahead (a ∷ ds) [] l d e x y h = absurd (omega (arith, l))
ahead (a ∷ ds) (b ∷ es) l d e x y h = ahead ds es (omega (arith, l)) d.1 e.1 (x * 10 + a) (y * 10 + b) (let k = d.0 in omega (arith, h, k))

-- so it does where the other one is longer
longer : (k : ℕ) (ds es : List ℕ) → length es ≡ length ds + k → AreDigits ds → AreDigits es → (x y : ℕ) → x < y → value x ds < value y es
longer zero ds es l d e x y h = ahead ds es (omega (arith, l)) d e x y h
longer (suc k) ds [] l d e x y h = absurd (omega (arith, l))
longer (suc k) ds (b ∷ es) l d e x y h = longer k ds es (omega (arith, l)) d e.1 x (y * 10 + b) (omega (arith, h))

-- numbers with fewer digits are smaller
shorter : (ds es : List ℕ) → AreDigits ds → AreDigits es → IsLead ds → IsLead es → length ds < length es → value 0 ds < value 0 es
shorter [] es d e i j l = absurd i
shorter (a ∷ ds) [] d e i j l = absurd j
shorter (a ∷ ds) (b ∷ []) d e i j l = absurd (omega (arith, l))
shorter (a ∷ ds) (b ∷ c ∷ es) d e i j l = longer (length (c ∷ es) - length (a ∷ ds)) (a ∷ ds) (c ∷ es) (omega (arith, l)) d e.1 0 (0 * 10 + b) (omega (arith, j))

-- of two as long, the first difference decides
by_order : (P : Type 0) (a b : ℕ) → (a < b → P) → (a ≡ b → P) → (b < a → P) → P
by_order P a b f g h = ⊎_elim f (λ k. ⊎_elim (λ l. h l) (λ l. g (omega (arith, k, l))) (cases_lt b a)) (cases_lt a b)

same_digits : (ds es : List ℕ) → length ds ≡ length es → AreDigits ds → AreDigits es → (x : ℕ) → value x ds ≡ value x es → ds ≡ es
same_digits [] [] l d e x h = refl
same_digits [] (b ∷ es) l d e x h = absurd (omega (arith, l))
same_digits (a ∷ ds) [] l d e x h = absurd (omega (arith, l))
same_digits (a ∷ ds) (b ∷ es) l d e x h =
    let l' : length ds ≡ length es = omega (arith, l) in
    by_order (a ∷ ds ≡ b ∷ es) a b
    (λ k. let m = ahead ds es l' d.1 e.1 (x * 10 + a) (x * 10 + b) (omega (arith, k)) in absurd (omega (arith, m, h)))
    (λ k. let m : ds ≡ es = same_digits ds es l' d.1 e.1 (x * 10 + a) (h ∙ ap (λ (z : ℕ). value (x * 10 + z) es) (sym k)) in cc)
    (λ k. let m = ahead es ds (omega (arith, l')) e.1 d.1 (x * 10 + b) (x * 10 + a) (omega (arith, k)) in absurd (omega (arith, m, h)))

one_text : (ds es : List ℕ) → AreDigits ds → AreDigits es → IsLead ds → IsLead es → value 0 ds ≡ value 0 es → ds ≡ es
one_text ds es d e i j h =
    by_order (ds ≡ es) (length ds) (length es)
    (λ k. let m = shorter ds es d e i j k in absurd (omega (arith, m, h)))
    (λ k. same_digits ds es k d e 0 h)
    (λ k. let m = shorter es ds e d j i k in absurd (omega (arith, m, h)))

shifted_same : (ds es : List ℕ) → shifted ds ≡ shifted es → ds ≡ es
shifted_same [] [] h = refl
shifted_same [] (b ∷ es) h = cc
shifted_same (a ∷ ds) [] h = cc
shifted_same (a ∷ ds) (b ∷ es) h = let k : 48 + a ≡ 48 + b = cc in let m : shifted ds ≡ shifted es = cc in let i : a ≡ b = omega (arith, k) in let j = shifted_same ds es m in cc

-- the text tells the number
pub number_one : (m n : ℕ) → number_text m ≡ number_text n → m ≡ n
number_one m n h =
    let a = has_digits m in
    let b = has_digits n in
    let s : a.digits ≡ b.digits = shifted_same a.digits b.digits (sym a.is ∙ h ∙ b.is) in
    sym a.number ∙ ap (value 0) s ∙ b.number

-- its first byte is a digit
low_shifted : (ds : List ℕ) → AreDigits ds → IsLead ds → is_low (shifted ds) ≡ true
low_shifted [] d i = absurd i
low_shifted (a ∷ ds) d i = lt-ltb (48 + a) 58 (let k = d.0 in omega (arith, k))

pub number_low : (n : ℕ) → is_low (number_text n) ≡ true
number_low n = let a = has_digits n in ap is_low a.is ∙ low_shifted a.digits a.below a.lead

-- it is read
digit_is : (d : ℕ) → d < 10 → is_digit (48 + d) ≡ true
digit_is d h = and_from (nat_le 48 (48 + d)) (nat_le (48 + d) 57) (le-leb 48 (48 + d) (omega arith)) (le-leb (48 + d) 57 (omega (arith, h)))

read_digits : (ds : List ℕ) → AreDigits ds → (s n : ℕ) → s ≡ saturated n → read_after s (shifted ds) ≡ Some (saturated (value n ds))
read_digits [] d s n h = ap Some h
read_digits (a ∷ ds) d s n h =
    ap (λ (b : Bool). if b then read_after (saturated (s * 10 + (48 + a - 48))) (shifted ds) else None) (digit_is a d.0)
    ∙ read_digits ds d.1 (saturated (s * 10 + (48 + a - 48))) (n * 10 + a) (omega (arith, h))

pub read_number : (n : ℕ) → read_after 0 (number_text n) ≡ Some (saturated n)
read_number n = let a = has_digits n in ap (read_after 0) a.is ∙ read_digits a.digits a.below 0 0 refl ∙ ap (λ (m : ℕ). Some (saturated m)) a.number

-- what is read are digits
record AreRead (s : ℕ) (text : List ℕ) (v : ℕ) : Type 0 where
  digits : List ℕ
  is : text ≡ shifted digits
  below : AreDigits digits

read_next : (c s v : ℕ) (cs : List ℕ) → ((r : ℕ) → read_after r cs ≡ Some v → AreRead r cs v) → (b : Bool) → is_digit c ≡ b → (if b then read_after (saturated (s * 10 + (c - 48))) cs else None) ≡ Some v → AreRead s (c ∷ cs) v
read_next c s v cs go false e k = cc
read_next c s v cs go true e k =
    let r = go (saturated (s * 10 + (c - 48))) k in
    let p = and_parts (nat_le 48 c) (nat_le c 57) e in
    let low : 48 ≤ c = leb-true 48 c p.0 in
    let high : c ≤ 57 = leb-true c 57 p.1 in
    let i : c ≡ 48 + (c - 48) = omega (arith, low) in
    let j : cs ≡ shifted r.digits = r.is in
    record { digits = (c - 48) ∷ r.digits; is = cc; below = (omega (arith, high), r.below) }

read_are : (text : List ℕ) (s v : ℕ) → read_after s text ≡ Some v → AreRead s text v
read_are [] s v h = record { digits = []; is = refl; below = tt }
read_are (c ∷ cs) s v h = read_next c s v cs (λ r k. read_are cs r v k) (is_digit c) refl h

-- a digit goes on, any other byte ends it
pub digit_goes : (n m c : ℕ) (cs : List ℕ) → is_digit c ≡ true → m ≡ saturated (n * 10 + (c - 48)) → read_after n (c ∷ cs) ≡ read_after m cs
digit_goes n m c cs d e = rw (d, e) refl

pub no_digit : (n c : ℕ) (cs : List ℕ) → is_digit c ≡ false → read_after n (c ∷ cs) ≡ None
no_digit n c cs d = rw d refl

pub digit_low : (c : ℕ) → is_digit c ≡ true → 48 ≤ c
digit_low c d = leb-true 48 c (and_parts (nat_le 48 c) (nat_le c 57) d).0

-- for those who read digits
pub ruleset read_digits_laws = (digit_goes, no_digit, digit_low)

lead_read : (ds : List ℕ) → IsLeading (shifted ds) → IsLead ds
lead_read [] h = absurd h
lead_read (a ∷ []) h = tt
lead_read (a ∷ b ∷ ds) h = ⊎_elim (λ k. k) (λ k. absurd (h (omega (arith, k)))) (cases_lt 0 a)

pub read_is : (text : List ℕ) (v : ℕ) → IsLeading text → read_after 0 text ≡ Some v → IsNumber text v
read_is text v h e =
    let r = read_are text 0 v e in
    let lead : IsLead r.digits = lead_read r.digits (subst IsLeading r.is h) in
    let n : ℕ = value 0 r.digits in
    let a = has_digits n in
    let s : r.digits ≡ a.digits = one_text r.digits a.digits r.below a.below lead a.lead (sym a.number) in
    let t : text ≡ number_text n = r.is ∙ ap shifted s ∙ sym a.is in
    let v_is : Some v ≡ Some (saturated n) = sym e ∙ ap (read_after 0) t ∙ read_number n in
    let w : v ≡ saturated n = cc in
    (n, t, w)

-- and no other text is a number
leads_so : (ds : List ℕ) → IsLead ds → IsLeading (shifted ds)
leads_so [] h = absurd h
leads_so (a ∷ []) h = tt
leads_so (a ∷ b ∷ ds) h = λ e. absurd (omega (arith, e, h))

pub number_leads : (n : ℕ) → IsLeading (number_text n)
number_leads n = let a = has_digits n in subst IsLeading (sym a.is) (leads_so a.digits a.lead)

pub not_read : (text : List ℕ) → read_after 0 text ≡ None → (n : ℕ) → text ≢ number_text n
not_read text h n e = let k : Some (saturated n) ≡ None = sym (read_number n) ∙ ap (read_after 0) (sym e) ∙ h in cc

pub not_leading : (text : List ℕ) → ¬ IsLeading text → (n : ℕ) → text ≢ number_text n
not_leading text h n e = h (subst IsLeading (sym e) (number_leads n))

-- how texts of numbers compare
cmp_less : (x y : ℕ) → x < y → nat_cmp x y ≡ Less
cmp_less x y h = ap (λ (b : Bool). cond b Less (cond (x == y) Equal Greater)) (lt-ltb x y h)

cmp_more : (x y : ℕ) → y < x → nat_cmp x y ≡ Greater
cmp_more x y h = ap (λ (b : Bool). cond b Less (cond (x == y) Equal Greater)) (le-ltb x y (omega (arith, h))) ∙ ap (λ (b : Bool). cond b Equal Greater) (ne_eqb x y (λ e. absurd (omega (arith, h, e))))

cmp_same : (x y : ℕ) → x ≡ y → nat_cmp x y ≡ Equal
cmp_same x y h = ap (λ (b : Bool). cond b Less (cond (x == y) Equal Greater)) (le-ltb x y (omega (arith, h))) ∙ ap (λ (b : Bool). cond b Equal Greater) (eq-eqb x y h)

abbrev is_before : List ℕ → List ℕ → Bool
is_before x y = is_lt (slice_cmp nat_cmp x y)

before_is : (ds es : List ℕ) → length ds ≡ length es → AreDigits ds → AreDigits es → (x : ℕ) → (is_before (shifted ds) (shifted es) ≡ true) ↔ (value x ds < value x es)
before_is [] [] l d e x = ((λ h. let k : false ≡ true = h in cc), (λ h. absurd (omega (arith, h))))
before_is [] (b ∷ es) l d e x = absurd (omega (arith, l))
before_is (a ∷ ds) [] l d e x = absurd (omega (arith, l))
before_is (a ∷ ds) (b ∷ es) l d e x =
    let l' : length ds ≡ length es = omega (arith, l) in
    let rest : Ordering = slice_cmp nat_cmp (shifted ds) (shifted es) in
    let Goal : Ordering → Type 0 = λ o. (is_lt (ordering_then o rest) ≡ true) ↔ (value (x * 10 + a) ds < value (x * 10 + b) es) in
    by_order (Goal (nat_cmp (48 + a) (48 + b))) a b
    (λ k. subst Goal (sym (cmp_less (48 + a) (48 + b) (omega (arith, k)))) ((λ h. ahead ds es l' d.1 e.1 (x * 10 + a) (x * 10 + b) (omega (arith, k))), (λ h. refl)))
    (λ k. subst Goal (sym (cmp_same (48 + a) (48 + b) (omega (arith, k)))) (subst (λ (z : ℕ). (is_lt rest ≡ true) ↔ (value (x * 10 + a) ds < value (x * 10 + z) es)) k (before_is ds es l' d.1 e.1 (x * 10 + a))))
    (λ k. subst Goal (sym (cmp_more (48 + a) (48 + b) (omega (arith, k)))) (
      (λ h. let c : false ≡ true = h in cc),
      (λ h. let m = ahead es ds (omega (arith, l')) e.1 d.1 (x * 10 + b) (x * 10 + a) (omega (arith, k)) in absurd (omega (arith, h, m))),
    ))

length_shifted : (ds : List ℕ) → length (shifted ds) ≡ length ds
length_shifted [] = refl
length_shifted (d ∷ ds) = ap suc (length_shifted ds)

pub number_before : (m n : ℕ) (x y : List ℕ) → x ≡ number_text m → y ≡ number_text n → length x ≡ length y → (is_lt (slice_cmp nat_cmp x y) ≡ true) ↔ (m < n)
number_before m n x y p q l =
    let a = has_digits m in
    let b = has_digits n in
    let i : x ≡ shifted a.digits = p ∙ a.is in
    let j : y ≡ shifted b.digits = q ∙ b.is in
    let s : length a.digits ≡ length b.digits = sym (length_shifted a.digits) ∙ ap length (sym i) ∙ l ∙ ap length j ∙ length_shifted b.digits in
    let k = before_is a.digits b.digits s a.below b.below 0 in
    let same : is_before x y ≡ is_before (shifted a.digits) (shifted b.digits) = ap (λ z. is_before z y) i ∙ ap (is_before (shifted a.digits)) j in
    let u = a.number in
    let v = b.number in
    ((λ h. let w = k.0 (sym same ∙ h) in omega (arith, u, v, w)), (λ h. same ∙ k.1 (omega (arith, u, v, h))))

pub number_shorter : (m n : ℕ) (x y : List ℕ) → x ≡ number_text m → y ≡ number_text n → length x ≢ length y → (length x < length y) ↔ (m < n)
number_shorter m n x y p q l =
    let a = has_digits m in
    let b = has_digits n in
    let i : length x ≡ length a.digits = ap length (p ∙ a.is) ∙ length_shifted a.digits in
    let j : length y ≡ length b.digits = ap length (q ∙ b.is) ∙ length_shifted b.digits in
    let u = a.number in
    let v = b.number in (
      (λ h. let w = shorter a.digits b.digits a.below b.below a.lead b.lead (omega (arith, h, i, j)) in omega (arith, u, v, w)),
      (λ h. ⊎_elim (λ c. c) (λ c. let d : length b.digits < length a.digits = omega (arith, c, l, i, j) in let w = shorter b.digits a.digits b.below a.below b.lead a.lead d in absurd (omega (arith, u, v, w, h))) (cases_lt (length x) (length y))),
    )

-- what is read of a text that may be a number, and of another one
pub found_number : (text : List ℕ) (o : Option ℕ) → IsLeading text → o ≡ read_after 0 text → MatchOption o ((n : ℕ) → text ≢ number_text n) (IsNumber text)
found_number text None l e = not_read text (sym e)
found_number text (Some v) l e = read_is text v l (sym e)

-- numbers that rise, from the first two on
record AreTwo (ns : List ℕ) (x y : List ℕ) (ws : List (List ℕ)) : Type 0 where
  first : ℕ
  second : ℕ
  others : List ℕ
  are : ns ≡ first ∷ second ∷ others
  is_first : x ≡ number_text first
  is_second : y ≡ number_text second
  rest : y ∷ ws ≡ map number_text (second ∷ others)

two_of : (ns : List ℕ) (x y : List ℕ) (ws : List (List ℕ)) → x ∷ y ∷ ws ≡ map number_text ns → AreTwo ns x y ws
two_of [] x y ws e = cc
two_of (m ∷ []) x y ws e = cc
two_of (m ∷ n ∷ ns) x y ws e = record { first = m; second = n; others = ns; are = refl; is_first = cc; is_second = cc; rest = cc }

pub rises_one : (ns : List ℕ) (x : List ℕ) → x ∷ [] ≡ map number_text ns → Rises ns
rises_one [] x e = tt
rises_one (n ∷ []) x e = tt
rises_one (m ∷ n ∷ ns) x e = cc

pub rises_none : (ns : List ℕ) → [] ≡ map number_text ns → Rises ns
rises_none [] e = tt
rises_none (n ∷ ns) e = cc

pub rises_not : (ns : List ℕ) (x y : List ℕ) (ws : List (List ℕ)) → x ∷ y ∷ ws ≡ map number_text ns → ((m n : ℕ) → x ≡ number_text m → y ≡ number_text n → ¬ (m < n)) → ¬ Rises ns
rises_not ns x y ws e h r = let t = two_of ns x y ws e in let s : Rises (t.first ∷ t.second ∷ t.others) = subst Rises t.are r in h t.first t.second t.is_first t.is_second s.0

pub rises_on : (ns : List ℕ) (x y : List ℕ) (ws : List (List ℕ)) → x ∷ y ∷ ws ≡ map number_text ns → ((m n : ℕ) → x ≡ number_text m → y ≡ number_text n → m < n)
    → (ms : List ℕ) × (y ∷ ws ≡ map number_text ms) × (Rises ms ↔ Rises ns)
rises_on ns x y ws e h =
    let t = two_of ns x y ws e in
    (t.second ∷ t.others, t.rest, subst (λ z. Rises (t.second ∷ t.others) ↔ Rises z) (sym t.are) ((λ r. (h t.first t.second t.is_first t.is_second, r)), (λ r. r.1)))
