-- What is written where proofs are checked tells whether something was refused or answered no: else it is the lines of yes alone, one for each proof.
use Rattle.std.specs.Prelude.{◌≡◌, ◌<◌, ◌+◌, ◌^◌, ◌++◌, ◌||◌, ◌⊎◌, ℕ, suc, Bool, true, false, List, [], ◌∷◌, length, get_or, codes, refl, ⊤}
use Rattle.std.specs.Fmt.{decimal}
use Rattle.std.proofs.Common.{sym, subst, ap, ◌∙◌, inl, inr, ⊎_elim, arith, append_assoc, append-nil}
use Rattle.mw_lex.specs.declared.token.Token.{Token}
use Rattle.mw_module.specs.declared.faults.Fault.{Fault}
use Rattle.mw_module.specs.declared.faults.FaultKind.TheVariants.{AlreadyDefined}
use Rattle.mw_module.specs.Units.{Outcome}
use Rattle.mw_print.proofs.Digits.{AreDigits, AreSome, decimal_digits}
use Rattle.mw_block.specs.Blocks.{line}
use Rattle.mw_block.specs.Refused.{refusal_line}
use Rattle.mw_block.specs.Verdicts.{verdict_text, verdict_line}
use Rattle.mw_build.specs.Modules.{Accepted}
use Rattle.mw_logic.specs.Term.{RawTerm}
use Rattle.mw_logic.specs.Module.{Module}
use Rattle.mw_items.specs.Items.{Items}
use Rattle.mw_check.specs.declared.answer.Cause.{Cause}
use Rattle.mw_check.specs.declared.checking.Verdict.{Verdict}
use Rattle.mw_check.specs.declared.checking.Verdict.TheVariants.{Yes, No}
use Rattle.mw_top.specs.Proofs.{IsVerdictOn, IsProofAnswer, nameless, nowhere, formless as outside, checked, is_no}
use Rattle.mw_top.specs.declared.purpose.Purpose.TheVariants.{Check}
use Rattle.mw_top.specs.Sources.{Loaded, Gives, formless, taken, refused, accepted, no_command, faulty, answered, passed, judged, Answered, nothing_yet, one_more}
use Rattle.mw_top.specs.Outputs.{IsOutput, unlexed, answered as of_tokens, lexing_refusal, AgreeInStatus}

rest_is : {x y : ℕ} {xs ys : List ℕ} → x ∷ xs ≡ y ∷ ys → xs ≡ ys
rest_is e = cc

first_is : {x y : ℕ} {xs ys : List ℕ} → x ∷ xs ≡ y ∷ ys → x ≡ y
first_is e = cc

cancel : (xs ys zs : List ℕ) → xs ++ ys ≡ xs ++ zs → ys ≡ zs
cancel [] ys zs e = e
cancel (x ∷ xs) ys zs e = cancel xs ys zs (rest_is e)

-- digits in front of a space are told apart from it
digits_one : (xs ys a b : List ℕ) → AreDigits xs → AreDigits ys → xs ++ (32 ∷ a) ≡ ys ++ (32 ∷ b) → a ≡ b
digits_one [] [] a b h k e = rest_is e
digits_one [] (y ∷ ys) a b h k e = let i : 32 ≡ y = first_is e in let j = k.0.0 in absurd (omega (arith, i, j))
digits_one (x ∷ xs) [] a b h k e = let i : x ≡ 32 = first_is e in let j = h.0.0 in absurd (omega (arith, i, j))
digits_one (x ∷ xs) (y ∷ ys) a b h k e = digits_one xs ys a b h.1 k.1 (rest_is e)

are_digits : (xs : List ℕ) → AreSome xs → AreDigits xs
are_digits [] h = absurd h
are_digits (x ∷ xs) h = h

number_digits : (n : ℕ) → n < 2 ^ 128 → AreDigits (decimal n)
number_digits n h = are_digits (decimal n) (decimal_digits n h)

-- the first words of a line
abbrev before : ℕ → List ℕ
before n = codes "proof " ++ decimal n ++ codes ": "

abbrev yes_text : ℕ → List ℕ
yes_text c = codes "yes, " ++ decimal c ++ codes " rewrites"

abbrev yes_line : ℕ → ℕ → List ℕ
yes_line n c = line (before n ++ yes_text c)

line_apart : (n : ℕ) (text a : List ℕ) → line (before n ++ text) ++ a ≡ before n ++ (text ++ (10 ∷ a))
line_apart n text a = append_assoc (before n ++ text) (10 ∷ []) a ∙ append_assoc (before n) text (10 ∷ a)

yes_apart : (c : ℕ) (a : List ℕ) → yes_text c ++ a ≡ codes "yes, " ++ (decimal c ++ (codes " rewrites" ++ a))
yes_apart c a = append_assoc (codes "yes, " ++ decimal c) (codes " rewrites") a ∙ append_assoc (codes "yes, ") (decimal c) (codes " rewrites" ++ a)

-- two lines of yes of one number
yes_one : (n c d : ℕ) (a b : List ℕ) → c < 2 ^ 128 → d < 2 ^ 128 → yes_line n c ++ a ≡ yes_line n d ++ b → a ≡ b
yes_one n c d a b h k e =
    let texts : yes_text c ++ (10 ∷ a) ≡ yes_text d ++ (10 ∷ b) = cancel (before n) _ _ (sym (line_apart n (yes_text c) a) ∙ e ∙ line_apart n (yes_text d) b) in
    let numbers : decimal c ++ (codes " rewrites" ++ (10 ∷ a)) ≡ decimal d ++ (codes " rewrites" ++ (10 ∷ b)) = cancel (codes "yes, ") _ _ (sym (yes_apart c (10 ∷ a)) ∙ texts ∙ yes_apart d (10 ∷ b)) in
    rest_is (cancel (codes "rewrites") (10 ∷ a) (10 ∷ b) (digits_one (decimal c) (decimal d) (codes "rewrites" ++ (10 ∷ a)) (codes "rewrites" ++ (10 ∷ b)) (number_digits c h) (number_digits d k) numbers))

-- a line of no, or of a refusal
abbrev IsBadLine : ℕ → List ℕ → Type 0
IsBadLine n w = ((step : ℕ) × (why : Cause) × (w ≡ verdict_line n (No step why))) ⊎ ((f : Fault) × (w ≡ refusal_line f))

-- it isn't one of yes
not_yes : (n c : ℕ) (a b w : List ℕ) → IsBadLine n w → yes_line n c ++ a ≡ w ++ b → ⊥
not_yes n c a b w (inl (step, why, is)) e =
    let texts : yes_text c ++ (10 ∷ a) ≡ verdict_text (No step why) ++ (10 ∷ b) = cancel (before n) _ _ (sym (line_apart n (yes_text c) a) ∙ e ∙ ap (λ v. v ++ b) is ∙ line_apart n (verdict_text (No step why)) b) in
    let h : 121 ≡ 110 = ap (λ z. get_or z 0 0) texts in
    omega (arith, h)
not_yes n c a b w (inr (f, is)) e =
    let h : 112 ≡ 108 = ap (λ z. get_or z 0 0) (e ∙ ap (λ v. v ++ b) is) in
    omega (arith, h)

not_nothing : (n : ℕ) (b w : List ℕ) → IsBadLine n w → [] ≡ w ++ b → ⊥
not_nothing n b w (inl (step, why, is)) e = let h : 0 ≡ 112 = ap (λ z. get_or z 0 0) (e ∙ ap (λ v. v ++ b) is) in omega (arith, h)
not_nothing n b w (inr (f, is)) e = let h : 0 ≡ 108 = ap (λ z. get_or z 0 0) (e ∙ ap (λ v. v ++ b) is) in omega (arith, h)

-- lines of yes, from this number on
abbrev yes_lines : ℕ → List ℕ → List ℕ
yes_lines n [] = []
yes_lines n (c ∷ cs) = yes_line n c ++ yes_lines (suc n) cs

abbrev AreSmall : List ℕ → Type 0
AreSmall [] = ⊤
AreSmall (c ∷ cs) = (c < 2 ^ 128) × AreSmall cs

one_more_small : (cs : List ℕ) (c : ℕ) → AreSmall cs → c < 2 ^ 128 → AreSmall (cs ++ c ∷ [])
one_more_small [] c h k = (k, tt)
one_more_small (d ∷ cs) c h k = (h.0, one_more_small cs c h.1 k)

longer : (cs : List ℕ) (c : ℕ) → length (cs ++ c ∷ []) ≡ suc (length cs)
longer [] c = refl
longer (d ∷ cs) c = ap suc (longer cs c)

one_more_line : (n : ℕ) (cs : List ℕ) (c k : ℕ) → k ≡ n + length cs → yes_lines n (cs ++ c ∷ []) ≡ yes_lines n cs ++ yes_line k c
one_more_line n [] c k h =
    let same : n ≡ k = omega (arith, h) in
    append-nil (yes_line n c) ∙ ap (λ m. yes_line m c) same
one_more_line n (d ∷ cs) c k h =
    ap (λ z. yes_line n d ++ z) (one_more_line (suc n) cs c k (omega (arith, h))) ∙ sym (append_assoc (yes_line n d) (yes_lines (suc n) cs) (yes_line k c))

-- behind lines of yes, such a line leaves no text of yes alone
clash : (cs ds : List ℕ) → AreSmall cs → AreSmall ds → (n m : ℕ) → m ≡ n + length ds → (w b : List ℕ) → IsBadLine m w → yes_lines n cs ≡ yes_lines n ds ++ (w ++ b) → ⊥
clash [] [] h k n m l w b bad e = not_nothing m b w bad e
clash [] (d ∷ ds) h k n m l w b bad e = let i : 0 ≡ 112 = ap (λ z. get_or z 0 0) e in omega (arith, i)
clash (c ∷ cs) [] h k n m l w b bad e =
    let same : m ≡ n = omega (arith, l) in
    not_yes n c (yes_lines (suc n) cs) b w (subst (λ j. IsBadLine j w) same bad) e
clash (c ∷ cs) (d ∷ ds) h k n m l w b bad e =
    clash cs ds h.1 k.1 (suc n) m (omega (arith, l)) w b bad
    (yes_one n c d (yes_lines (suc n) cs) (yes_lines (suc n) ds ++ (w ++ b)) h.0 k.0 (e ∙ append_assoc (yes_line n d) (yes_lines (suc n) ds) (w ++ b)))

-- the text is of yes alone, or not
record IsGood (proofs : ℕ) (text : List ℕ) (bad : Bool) : Type 0 where
  counts : List ℕ
  small : AreSmall counts
  many : length counts ≡ proofs
  is : text ≡ yes_lines 1 counts
  good : bad ≡ false

record IsBad (text : List ℕ) (bad : Bool) : Type 0 where
  counts : List ℕ
  small : AreSmall counts
  bad_line : List ℕ
  rest : List ℕ
  told : IsBadLine (1 + length counts) bad_line
  is : text ≡ yes_lines 1 counts ++ (bad_line ++ rest)
  flag : bad ≡ true

-- counts are told as far as they can be
abbrev IsSmall : Verdict → Type 0
IsSmall (Yes from to count) = count < 2 ^ 128
IsSmall (No step why) = ⊤

small_on : (M : Module) (max : ℕ) (from to : RawTerm) (items : Items) (v : Verdict) → IsVerdictOn M max from to items v → IsSmall v
small_on M max from to items (Yes f t count) h = let e = h.2.count_is in omega (arith, e)
small_on M max from to items (No step why) h = tt

small : (ms : List Accepted) (max : ℕ) (tokens : List Token) (v : Verdict) → IsProofAnswer ms max tokens v → IsSmall v
small ms max tokens v (nameless n) = tt
small ms max tokens v (nowhere name h n) = tt
small ms max tokens v (outside name a part h m o) = tt
small ms max tokens v (checked name a from to items w h m is verdict) = small_on a.module max from to items w verdict

module _ (max : ℕ) where
  -- one unit more, where all were good
  told_bad : (proofs : ℕ) (text last : List ℕ) (bad : Bool) (g : IsGood proofs text bad) → IsBadLine (1 + length g.counts) last → (refusal : Bool) → refusal ≡ true → IsBad (text ++ last) (bad || refusal)
  told_bad proofs text last bad g line refusal r = record {
    counts = g.counts;
    small = g.small;
    bad_line = last;
    rest = [];
    told = line;
    is = ap (λ z. z ++ last) g.is ∙ ap (λ z. yes_lines 1 g.counts ++ z) (sym (append-nil last));
    flag = ap (λ b. b || refusal) g.good ∙ r;
  }

  told_nothing : (proofs : ℕ) (text : List ℕ) (bad : Bool) → IsGood proofs text bad → IsGood proofs (text ++ []) (bad || false)
  told_nothing proofs text bad g = record {
    counts = g.counts;
    small = g.small;
    many = g.many;
    is = append-nil text ∙ g.is;
    good = ap (λ b. b || false) g.good;
  }

  told_verdict : (proofs : ℕ) (text : List ℕ) (bad : Bool) (v : Verdict) → IsSmall v → IsGood proofs text bad
      → IsGood (suc proofs) (text ++ verdict_line (suc proofs) v) (bad || is_no v) ⊎ IsBad (text ++ verdict_line (suc proofs) v) (bad || is_no v)
  told_verdict proofs text bad (Yes from to count) h g =
      let m = g.many in
      inl (record {
        counts = g.counts ++ count ∷ [];
        small = one_more_small g.counts count g.small h;
        many = longer g.counts count ∙ ap suc g.many;
        is = ap (λ z. z ++ yes_line (suc proofs) count) g.is ∙ sym (one_more_line 1 g.counts count (suc proofs) (omega (arith, m)));
        good = ap (λ b. b || false) g.good;
      })
  told_verdict proofs text bad (No step why) h g =
      let m : suc proofs ≡ 1 + length g.counts = let n = g.many in omega (arith, n) in
      inr (told_bad proofs text (verdict_line (suc proofs) (No step why)) bad g (inl (step, why, ap (λ n. verdict_line n (No step why)) m)) true refl)

  goes_on : (before after : Loaded) (o : Outcome) (text last : List ℕ) (bad refusal : Bool) → Gives (Check max) before o last refusal after → IsGood before.proofs text bad
      → IsGood after.proofs (text ++ last) (bad || refusal) ⊎ IsBad (text ++ last) (bad || refusal)
  goes_on before after o text last bad refusal (formless f) g = inr (told_bad before.proofs text last bad g (inr (f, refl)) true refl)
  goes_on before after o text last bad refusal (taken u n named is_taken) g = inr (told_bad before.proofs text last bad g (inr (record { line = u.line; kind = AlreadyDefined n }, refl)) true refl)
  goes_on before after o text last bad refusal (refused u n r named free wrong) g = inr (told_bad before.proofs text last bad g (inr (r, refl)) true refl)
  goes_on before after o text last bad refusal (accepted u n reached a named free is) g = inl (told_nothing before.proofs text bad g)
  goes_on before after o text last bad refusal (no_command options u f by unnamed wrong) g = cc
  goes_on before after o text last bad refusal (faulty options u c cause by unnamed command wrong) g = cc
  goes_on before after o text last bad refusal (answered options u c a block by unnamed command m is) g = cc
  goes_on before after o text last bad refusal (passed most u by unnamed no_proof) g = inl (told_nothing before.proofs text bad g)
  goes_on before after o text last bad refusal (judged most u v by unnamed proof is) g = told_verdict before.proofs text bad v (small before.modules most u.tokens v is) g

  stays_bad : (text last : List ℕ) (bad refusal : Bool) → IsBad text bad → IsBad (text ++ last) (bad || refusal)
  stays_bad text last bad refusal b = record {
    counts = b.counts;
    small = b.small;
    bad_line = b.bad_line;
    rest = b.rest ++ last;
    told = b.told;
    is = ap (λ z. z ++ last) b.is ∙ append_assoc (yes_lines 1 b.counts) (b.bad_line ++ b.rest) last ∙ ap (λ z. yes_lines 1 b.counts ++ z) (append_assoc b.bad_line b.rest last);
    flag = ap (λ c. c || refusal) b.flag;
  }

  shape : (tokens : List Token) (at : ℕ) (l : Loaded) (text : List ℕ) (bad : Bool) → Answered (Check max) tokens at l text bad → IsGood l.proofs text bad ⊎ IsBad text bad
  shape tokens at l text bad nothing_yet = inl (record { counts = []; small = tt; many = refl; is = refl; good = refl })
  shape tokens at l text bad (one_more place before t b d outcome next last refusal after read gives) =
      ⊎_elim (λ g. goes_on before after outcome t last b refusal gives g) (λ h. inr (stays_bad t last b refusal h)) (shape tokens place before t b d)

  output_shape : (bytes text : List ℕ) (bad : Bool) → IsOutput (Check max) bytes text bad → ((proofs : ℕ) × IsGood proofs text bad) ⊎ IsBad text bad
  output_shape bytes text bad (unlexed f e) = inr (record {
    counts = [];
    small = tt;
    bad_line = text;
    rest = [];
    told = inr (lexing_refusal f, refl);
    is = sym (append-nil text);
    flag = refl;
  })
  output_shape bytes text bad (of_tokens tokens after t b e d) = ⊎_elim (λ g. inl (after.proofs, g)) (λ h. inr h) (shape tokens (length tokens) after t b d)

-- one text isn't both
not_both : (proofs : ℕ) (text : List ℕ) (bad worse : Bool) → IsGood proofs text bad → IsBad text worse → ⊥
not_both proofs text bad worse g b = clash g.counts b.counts g.small b.small 1 (1 + length b.counts) refl b.bad_line b.rest b.told (sym g.is ∙ b.is)

pub checks_tell : AgreeInStatus
checks_tell max most bytes others text bad worse h k =
    ⊎_elim
    (λ g. ⊎_elim (λ i. g.1.good ∙ sym i.1.good) (λ j. absurd (not_both g.0 text bad worse g.1 j)) (output_shape most others text worse k))
    (λ b. ⊎_elim (λ i. absurd (not_both i.0 text worse bad i.1 b)) (λ j. b.flag ∙ sym j.flag) (output_shape most others text worse k))
    (output_shape max bytes text bad h)
