-- What is written of items is cut into their tokens: words and forms with a space or a line feed behind each.
use Rattle.std.specs.Prelude.{◌≡◌, ◌+◌, ◌<◌, ◌≤◌, ◌^◌, ◌⊎◌, ℕ, List, [], ◌∷◌, ◌++◌, length, Bool, true, false, cond, Option, Some, None, codes, refl, ⊤}
use Rattle.std.specs.Fmt.{decimal}
use Rattle.std.proofs.Common.{sym, subst, ap, ◌∙◌, inl, inr, ⊎_elim, arith, lit≤, append_assoc, append-nil}
use Rattle.std.proofs.lemmas.Bool.{true≢false}
use Rattle.mw_lex.specs.Bytes.{is_punctuation, is_run_byte}
use Rattle.mw_lex.specs.Pieces.{run_len, opens_comment}
use Rattle.mw_lex.specs.Lexing.{lexed, line_after}
use Rattle.mw_lex.specs.Texts.{IsProper, IsRun}
use Rattle.mw_lex.proofs.Comments.{no_comment}
use Rattle.mw_logic.specs.Term.{RawTerm}
use Rattle.mw_logic.specs.Signature.{Signature}
use Rattle.mw_print.specs.Tokens.{ends_in_backquote}
use Rattle.mw_print.specs.Prefix.{prefix_text}
use Rattle.mw_print.specs.PrefixLaws.{IsTold, HasWholeSpellings, EndsLast}
use Rattle.mw_print.proofs.Digits.{decimal_proper}
use Rattle.mw_print.proofs.Lexed.{Finds, token_found}
use Rattle.mw_print.proofs.Runs.{Stops}
use Rattle.mw_print.proofs.Before.{prefix_lexed_before}
use Rattle.mw_items.specs.Items.{Spot, Item, step, built, Items, none, more, Groups, end, group}
use Rattle.mw_prooftext.specs.Texts as text
use Rattle.mw_proofread.specs.Numbers.{number_text}
use Rattle.mw_proofread.specs.TokenTexts as tokens
use Rattle.mw_proofread.specs.Lexing.{AreSmall, IsSmallTake, IsSmallSpot, AreAllTold, IsSmallItem, AreSmallItems, AreSmallGroups, TextLexes}
use Rattle.mw_proofread.proofs.Decimals.{numbers_decimal}

-- the bytes are cut into these tokens, wherever they stand
abbrev Anywhere : List ℕ → List (List ℕ) → Type 0
Anywhere bytes found = (at line : ℕ) → Finds (lexed 0 at line bytes) found

-- a space or a line feed is at the front, or nothing
abbrev IsGap : ℕ → Type 0
IsGap c = (c ≡ 32) ⊎ (c ≡ 10)

abbrev BeginsGap : List ℕ → Type 0
BeginsGap [] = ⊤
BeginsGap (c ∷ rest) = IsGap c

begins_both : (a b : List ℕ) → BeginsGap a → BeginsGap b → BeginsGap (a ++ b)
begins_both [] b h k = k
begins_both (c ∷ a) b h k = h

-- Before others with a gap in front, or before any others.
abbrev Fits : List ℕ → List (List ℕ) → Type 0
Fits a xs = (rest : List ℕ) (found : List (List ℕ)) → BeginsGap rest → Anywhere rest found → Anywhere (a ++ rest) (xs ++ found)

abbrev Always : List ℕ → List (List ℕ) → Type 0
Always a xs = (rest : List ℕ) (found : List (List ℕ)) → Anywhere rest found → Anywhere (a ++ rest) (xs ++ found)

fits_none : Fits [] []
fits_none rest found s f = f

fits_both : (a b : List ℕ) (xs ys : List (List ℕ)) → Fits a xs → BeginsGap b → Fits b ys → Fits (a ++ b) (xs ++ ys)
fits_both a b xs ys h g k rest found s f =
    subst (λ bytes. Anywhere bytes ((xs ++ ys) ++ found)) (sym (append_assoc a b rest))
    (subst (Anywhere (a ++ (b ++ rest))) (sym (append_assoc xs ys found)) (h (b ++ rest) (ys ++ found) (begins_both b rest g s) (k rest found s f)))

always_both : (a b : List ℕ) (xs ys : List (List ℕ)) → Always a xs → Always b ys → Always (a ++ b) (xs ++ ys)
always_both a b xs ys h k rest found f =
    subst (λ bytes. Anywhere bytes ((xs ++ ys) ++ found)) (sym (append_assoc a b rest))
    (subst (Anywhere (a ++ (b ++ rest))) (sym (append_assoc xs ys found)) (h (b ++ rest) (ys ++ found) (k rest found f)))

-- a gap is passed over
passed_space : (rest : List ℕ) (at line : ℕ) → lexed 0 at line (32 ∷ rest) ≡ lexed 0 (at + 1) line rest
passed_space rest at line = rw (no_comment 32 refl refl rest) refl

passed_feed : (rest : List ℕ) (at line : ℕ) → lexed 0 at line (10 ∷ rest) ≡ lexed 0 (at + 1) (line + 1) rest
passed_feed rest at line = rw (no_comment 10 refl refl rest) refl

space_before : (rest : List ℕ) (found : List (List ℕ)) → Anywhere rest found → Anywhere (32 ∷ rest) found
space_before rest found f at line = subst (λ l. Finds l found) (sym (passed_space rest at line)) (f (at + 1) line)

feed_before : (rest : List ℕ) (found : List (List ℕ)) → Anywhere rest found → Anywhere (10 ∷ rest) found
feed_before rest found f at line = subst (λ l. Finds l found) (sym (passed_feed rest at line)) (f (at + 1) (line + 1))

fits_space : (a : List ℕ) (xs : List (List ℕ)) → Fits a xs → Fits (32 ∷ a) xs
fits_space a xs h rest found s f = space_before (a ++ rest) (xs ++ found) (h rest found s f)

-- words, and marks that end nothing
gap_stops : (x rest : List ℕ) → BeginsGap rest → Stops x rest
gap_stops x [] s = tt
gap_stops x (c ∷ rest) s = ⊎_elim (λ e. subst (λ b. Stops x (b ∷ rest)) (sym e) (refl, λ q. refl)) (λ e. subst (λ b. Stops x (b ∷ rest)) (sym e) (refl, λ q. refl)) s

fits_word : (x : List ℕ) → IsProper x → Fits x (x ∷ [])
fits_word x h rest found s f = token_found x rest found h (λ run. gap_stops x rest s) f

fits_number : (n : ℕ) → n < 2 ^ 128 → Fits (decimal n) (number_text n ∷ [])
fits_number n h =
    let low : 2 ^ 128 ≤ 10 ^ 64 = lit≤ tt in
    subst (λ x. Fits (decimal n) (x ∷ [])) (sym (numbers_decimal n (omega (arith, h, low)))) (fits_word (decimal n) (decimal_proper n h))

mark_first : (b : ℕ) → is_punctuation b ≡ true → run_len (b ∷ []) ≡ 0 → (rest : List ℕ) (found : List (List ℕ)) → Anywhere rest found → Anywhere (b ∷ rest) ((b ∷ []) ∷ found)
mark_first b h no_length rest found f = token_found (b ∷ []) rest found (inl h) (λ run. absurd (no_run run)) f
  where
    no_run : IsRun (b ∷ []) → ⊥
    no_run run = let e : 0 ≡ 1 = sym no_length ∙ run.0 in omega (arith, e)

-- words of a text
word_step : IsProper (codes "step")
word_step = inr (refl, (λ e. absurd (omega (arith, e))), refl)

word_owise : IsProper (codes "owise")
word_owise = inr (refl, (λ e. absurd (omega (arith, e))), refl)

word_built : IsProper (codes "built")
word_built = inr (refl, (λ e. absurd (omega (arith, e))), refl)

word_at : IsProper (codes "at")
word_at = inr (refl, (λ e. absurd (omega (arith, e))), refl)

word_take : IsProper (codes "take")
word_take = inr (refl, (λ e. absurd (omega (arith, e))), refl)

word_with : IsProper (codes "with")
word_with = inr (refl, (λ e. absurd (omega (arith, e))), refl)

word_where : IsProper (codes "where")
word_where = inr (refl, (λ e. absurd (omega (arith, e))), refl)

word_proof : IsProper (codes "proof")
word_proof = inr (refl, (λ e. absurd (omega (arith, e))), refl)

word_in : IsProper (codes "in")
word_in = inr (refl, (λ e. absurd (omega (arith, e))), refl)

word_from : IsProper (codes "from")
word_from = inr (refl, (λ e. absurd (omega (arith, e))), refl)

word_to : IsProper (codes "to")
word_to = inr (refl, (λ e. absurd (omega (arith, e))), refl)

word_endproof : IsProper (codes "endproof")
word_endproof = inr (refl, (λ e. absurd (omega (arith, e))), refl)

-- a word behind a space, and what stands behind it
spaced_word : (x : List ℕ) → IsProper x → Fits (32 ∷ x) (x ∷ [])
spaced_word x h = fits_space x (x ∷ []) (fits_word x h)

-- a word with a space behind it, and what comes then
worded : (x : List ℕ) (a : List ℕ) (xs : List (List ℕ)) → IsProper x → Fits a xs → Fits (x ++ 32 ∷ a) (x ∷ xs)
worded x a xs h k = fits_both x (32 ∷ a) (x ∷ []) xs (fits_word x h) (inl refl) (fits_space a xs k)

-- numbers, each behind a space
numbers_gap : (ns : List ℕ) → BeginsGap (text.numbers_text ns)
numbers_gap [] = tt
numbers_gap (n ∷ ns) = inl refl

fits_numbers : (ns : List ℕ) → AreSmall ns → Fits (text.numbers_text ns) (tokens.numbers_tokens ns)
fits_numbers [] h = fits_none
fits_numbers (n ∷ ns) h =
    fits_space (decimal n ++ text.numbers_text ns) (number_text n ∷ tokens.numbers_tokens ns)
    (fits_both (decimal n) (text.numbers_text ns) (number_text n ∷ []) (tokens.numbers_tokens ns) (fits_number n h.0) (numbers_gap ns) (fits_numbers ns h.1))

take_gap : (take : Option (List ℕ)) → BeginsGap (text.take_text take)
take_gap None = tt
take_gap (Some ns) = inl refl

fits_take : (take : Option (List ℕ)) → IsSmallTake take → Fits (text.take_text take) (tokens.take_tokens take)
fits_take None h = fits_none
fits_take (Some ns) h = fits_both (codes " take") (text.numbers_text ns) (codes "take" ∷ []) (tokens.numbers_tokens ns) (spaced_word (codes "take") word_take) (numbers_gap ns) (fits_numbers ns h)

fits_spot : (s : Spot) → IsSmallSpot s → Fits (text.spot_text s) (tokens.spot_tokens s)
fits_spot s h =
    fits_both (codes " at") (text.numbers_text s.path ++ text.take_text s.take) (codes "at" ∷ []) (tokens.numbers_tokens s.path ++ tokens.take_tokens s.take) (spaced_word (codes "at") word_at)
    (begins_both (text.numbers_text s.path) (text.take_text s.take) (numbers_gap s.path) (take_gap s.take))
    (fits_both (text.numbers_text s.path) (text.take_text s.take) (tokens.numbers_tokens s.path) (tokens.take_tokens s.take) (fits_numbers s.path h.0) (take_gap s.take) (fits_take s.take h.1))

closing_is : (form : List ℕ) → text.closing form ≡ cond (ends_in_backquote form) (codes " ]") (codes "]")
closing_is [] = refl
closing_is (b ∷ []) = refl
closing_is (b ∷ c ∷ bs) = closing_is (c ∷ bs)

module _ (sig : Signature) (whole : HasWholeSpellings sig) where
  fits_form : (t : RawTerm) → IsTold t → Fits (prefix_text sig t) (tokens.form_tokens sig t)
  fits_form t h rest found s f = prefix_lexed_before sig t rest found whole h (ends rest s) f
    where
      ends : (rest : List ℕ) → BeginsGap rest → EndsLast (prefix_text sig t) rest
      ends [] s = tt
      ends (c ∷ rest) s = gap_stops (prefix_text sig t) (c ∷ rest) s

  -- a form before the bracket that closes it
  fits_closed : (t : RawTerm) → IsTold t → Fits (prefix_text sig t ++ text.closing (prefix_text sig t)) (tokens.form_tokens sig t ++ codes "]" ∷ [])
  fits_closed t h rest found s f =
      let form : List ℕ = prefix_text sig t in
      let bracket : Anywhere (93 ∷ rest) (codes "]" ∷ found) = mark_first 93 refl refl rest found f in
      let closed : Anywhere (form ++ (text.closing form ++ rest)) (tokens.form_tokens sig t ++ (codes "]" ∷ found)) =
      subst (λ c. Anywhere (form ++ (c ++ rest)) (tokens.form_tokens sig t ++ (codes "]" ∷ found))) (sym (closing_is form)) (by_end (ends_in_backquote form) refl bracket) in
      subst (λ bytes. Anywhere bytes ((tokens.form_tokens sig t ++ codes "]" ∷ []) ++ found)) (sym (append_assoc form (text.closing form) rest))
      (subst (Anywhere (form ++ (text.closing form ++ rest))) (sym (append_assoc (tokens.form_tokens sig t) (codes "]" ∷ []) found)) closed)
    where
      by_end : (b : Bool) → ends_in_backquote (prefix_text sig t) ≡ b → Anywhere (93 ∷ rest) (codes "]" ∷ found)
          → Anywhere (prefix_text sig t ++ (cond b (codes " ]") (codes "]") ++ rest)) (tokens.form_tokens sig t ++ (codes "]" ∷ found))
      by_end true e bracket = prefix_lexed_before sig t (32 ∷ 93 ∷ rest) (codes "]" ∷ found) whole h (refl, λ q. refl) (space_before (93 ∷ rest) (codes "]" ∷ found) bracket)
      by_end false e bracket = prefix_lexed_before sig t (93 ∷ rest) (codes "]" ∷ found) whole h (refl, λ q. absurd (true≢false (sym q ∙ e))) bracket

  fits_value : (t : RawTerm) → IsTold t → Fits (text.value_text sig t) (codes "[" ∷ (tokens.form_tokens sig t ++ codes "]" ∷ []))
  fits_value t h rest found s f =
      space_before (91 ∷ ((prefix_text sig t ++ text.closing (prefix_text sig t)) ++ rest)) (codes "[" ∷ ((tokens.form_tokens sig t ++ codes "]" ∷ []) ++ found)) (mark_first 91 refl refl ((prefix_text sig t ++ text.closing (prefix_text sig t)) ++ rest) ((tokens.form_tokens sig t ++ codes "]" ∷ []) ++ found) (fits_closed t h rest found s f))

  values_gap : (ts : List RawTerm) → BeginsGap (text.values_text sig ts)
  values_gap [] = tt
  values_gap (t ∷ ts) = inl refl

  fits_values : (ts : List RawTerm) → AreAllTold ts → Fits (text.values_text sig ts) (tokens.values_tokens sig ts)
  fits_values [] h = fits_none
  fits_values (t ∷ ts) h =
      subst (Fits (text.values_text sig (t ∷ ts))) (ap (λ z. codes "[" ∷ z) (append_assoc (tokens.form_tokens sig t) (codes "]" ∷ []) (tokens.values_tokens sig ts)))
      (fits_both (text.value_text sig t) (text.values_text sig ts) (codes "[" ∷ (tokens.form_tokens sig t ++ codes "]" ∷ [])) (tokens.values_tokens sig ts) (fits_value t h.0) (values_gap ts) (fits_values ts h.1))

  with_gap : (ts : List RawTerm) → BeginsGap (text.with_text sig ts)
  with_gap [] = tt
  with_gap (t ∷ ts) = inl refl

  fits_with : (ts : List RawTerm) → AreAllTold ts → Fits (text.with_text sig ts) (tokens.with_tokens sig ts)
  fits_with [] h = fits_none
  fits_with (t ∷ ts) h = fits_both (codes " with") (text.values_text sig (t ∷ ts)) (codes "with" ∷ []) (tokens.values_tokens sig (t ∷ ts)) (spaced_word (codes "with") word_with) (values_gap (t ∷ ts)) (fits_values (t ∷ ts) h)

  fits_step : (owise : Bool) (k : ℕ) (s : Spot) (vs : List RawTerm) → k < 2 ^ 128 → IsSmallSpot s → AreAllTold vs → Fits (text.step_text sig owise k s vs) (tokens.step_tokens sig owise k s vs)
  fits_step owise k s vs small at_spot told =
      let behind : Fits (decimal k ++ (text.spot_text s ++ text.with_text sig vs)) (number_text k ∷ (tokens.spot_tokens s ++ tokens.with_tokens sig vs)) =
      fits_both (decimal k) (text.spot_text s ++ text.with_text sig vs) (number_text k ∷ []) (tokens.spot_tokens s ++ tokens.with_tokens sig vs) (fits_number k small) (inl refl)
      (fits_both (text.spot_text s) (text.with_text sig vs) (tokens.spot_tokens s) (tokens.with_tokens sig vs) (fits_spot s at_spot) (with_gap vs) (fits_with vs told)) in
      by_owise owise behind
    where
      by_owise : (b : Bool) → Fits (decimal k ++ (text.spot_text s ++ text.with_text sig vs)) (number_text k ∷ (tokens.spot_tokens s ++ tokens.with_tokens sig vs))
          → Fits (cond b (codes "owise ") (codes "step ") ++ (decimal k ++ (text.spot_text s ++ text.with_text sig vs))) (cond b (codes "owise") (codes "step") ∷ number_text k ∷ (tokens.spot_tokens s ++ tokens.with_tokens sig vs))
      by_owise true h = worded (codes "owise") (decimal k ++ (text.spot_text s ++ text.with_text sig vs)) (number_text k ∷ (tokens.spot_tokens s ++ tokens.with_tokens sig vs)) word_owise h
      by_owise false h = worded (codes "step") (decimal k ++ (text.spot_text s ++ text.with_text sig vs)) (number_text k ∷ (tokens.spot_tokens s ++ tokens.with_tokens sig vs)) word_step h

  fits_built : (s : Spot) → IsSmallSpot s → Fits (text.built_text s) (tokens.built_tokens s)
  fits_built s h = fits_both (codes "step built") (text.spot_text s) (codes "step" ∷ codes "built" ∷ []) (tokens.spot_tokens s) (worded (codes "step") (codes "built") (codes "built" ∷ []) word_step (fits_word (codes "built") word_built)) (inl refl) (fits_spot s h)

  groups_gap : (gs : Groups) → BeginsGap (text.groups_text sig gs)
  groups_gap end = tt
  groups_gap (group g gs) = inl refl

  where_gap : (gs : Groups) → BeginsGap (text.where_word gs ++ text.groups_text sig gs)
  where_gap end = tt
  where_gap (group g gs) = inl refl

  items_gap : (is : Items) → BeginsGap (text.items_text sig is)
  items_gap none = tt
  items_gap (more i is) = inl refl

  -- a brace behind a space
  fits_brace : (b : ℕ) → is_punctuation b ≡ true → run_len (b ∷ []) ≡ 0 → Fits (32 ∷ b ∷ []) ((b ∷ []) ∷ [])
  fits_brace b h no_length rest found s f = space_before (b ∷ rest) ((b ∷ []) ∷ found) (mark_first b h no_length rest found f)

  fits_where : (gs : Groups) → Fits (text.groups_text sig gs) (tokens.groups_tokens sig gs) → Fits (text.where_word gs ++ text.groups_text sig gs) (tokens.where_word gs ++ tokens.groups_tokens sig gs)
  fits_where end h = h
  fits_where (group g gs) h = fits_both (codes " where") (text.groups_text sig (group g gs)) (codes "where" ∷ []) (tokens.groups_tokens sig (group g gs)) (spaced_word (codes "where") word_where) (inl refl) h

  mutual
    fits_item : (i : Item) → IsSmallItem i → Fits (text.item_text sig i) (tokens.item_tokens sig i)
    fits_item (step owise k s vs gs) h =
        fits_both (text.step_text sig owise k s vs) (text.where_word gs ++ text.groups_text sig gs) (tokens.step_tokens sig owise k s vs) (tokens.where_word gs ++ tokens.groups_tokens sig gs)
        (fits_step owise k s vs h.0 h.1 h.2) (where_gap gs) (fits_where gs (fits_groups gs h.3))
    fits_item (built s) h = fits_built s h

    fits_groups : (gs : Groups) → AreSmallGroups gs → Fits (text.groups_text sig gs) (tokens.groups_tokens sig gs)
    fits_groups end h = fits_none
    fits_groups (group g gs) h =
        fits_both (codes " {") (text.items_text sig g ++ (codes " }" ++ text.groups_text sig gs)) (codes "{" ∷ []) (tokens.items_tokens sig g ++ (codes "}" ∷ tokens.groups_tokens sig gs)) (fits_brace 123 refl refl)
        (begins_both (text.items_text sig g) (codes " }" ++ text.groups_text sig gs) (items_gap g) (inl refl))
        (fits_both (text.items_text sig g) (codes " }" ++ text.groups_text sig gs) (tokens.items_tokens sig g) (codes "}" ∷ tokens.groups_tokens sig gs) (fits_items g h.0) (inl refl)
        (fits_both (codes " }") (text.groups_text sig gs) (codes "}" ∷ []) (tokens.groups_tokens sig gs) (fits_brace 125 refl refl) (groups_gap gs) (fits_groups gs h.1)))

    fits_items : (is : Items) → AreSmallItems is → Fits (text.items_text sig is) (tokens.items_tokens sig is)
    fits_items none h = fits_none
    fits_items (more i is) h =
        fits_space (text.item_text sig i ++ text.items_text sig is) (tokens.items_tokens sig (more i is))
        (fits_both (text.item_text sig i) (text.items_text sig is) (tokens.item_tokens sig i) (tokens.items_tokens sig is) (fits_item i h.0) (items_gap is) (fits_items is h.1))

  -- lines
  lined : (a : List ℕ) (xs : List (List ℕ)) → Fits a xs → Always (text.line a) xs
  lined a xs h rest found f =
      subst (λ bytes. Anywhere bytes (xs ++ found)) (sym (append_assoc a (10 ∷ []) rest)) (h (10 ∷ rest) found (inr refl) (feed_before rest found f))

  always_lines : (is : Items) → AreSmallItems is → Always (text.lines_text sig is) (tokens.items_tokens sig is)
  always_lines none h = λ rest found f. f
  always_lines (more i is) h = always_both (text.line (text.item_text sig i)) (text.lines_text sig is) (tokens.item_tokens sig i) (tokens.items_tokens sig is) (lined (text.item_text sig i) (tokens.item_tokens sig i) (fits_item i h.0)) (always_lines is h.1)

  always_head : (name : List ℕ) (from : RawTerm) → IsProper name → IsTold from → Always (text.head_text sig 1 name from) (tokens.head_tokens sig 1 name from)
  always_head name from proper told =
      always_both (text.line (codes "proof " ++ (decimal 1 ++ (codes " in " ++ name)))) (text.line (codes "from " ++ prefix_text sig from)) (codes "proof" ∷ number_text 1 ∷ codes "in" ∷ name ∷ []) (codes "from" ∷ tokens.form_tokens sig from)
      (lined (codes "proof " ++ (decimal 1 ++ (codes " in " ++ name))) (codes "proof" ∷ number_text 1 ∷ codes "in" ∷ name ∷ []) (worded (codes "proof") (decimal 1 ++ (codes " in " ++ name)) (number_text 1 ∷ codes "in" ∷ name ∷ []) word_proof
      (fits_both (decimal 1) (codes " in " ++ name) (number_text 1 ∷ []) (codes "in" ∷ name ∷ []) (fits_number 1 (omega arith)) (inl refl)
      (fits_space (codes "in " ++ name) (codes "in" ∷ name ∷ []) (worded (codes "in") name (name ∷ []) word_in (fits_word name proper))))))
      (lined (codes "from " ++ prefix_text sig from) (codes "from" ∷ tokens.form_tokens sig from) (worded (codes "from") (prefix_text sig from) (tokens.form_tokens sig from) word_from (fits_form from told)))

  always_end : (to : RawTerm) → IsTold to → Always (text.end_text sig to) (tokens.end_tokens sig to ++ codes "endproof" ∷ [])
  always_end to told =
      always_both (text.line (codes "to " ++ prefix_text sig to)) (text.line (codes "endproof")) (tokens.end_tokens sig to) (codes "endproof" ∷ [])
      (lined (codes "to " ++ prefix_text sig to) (tokens.end_tokens sig to) (worded (codes "to") (prefix_text sig to) (tokens.form_tokens sig to) word_to (fits_form to told)))
      (lined (codes "endproof") (codes "endproof" ∷ []) (fits_word (codes "endproof") word_endproof))

pub text_lexed : TextLexes
text_lexed sig name from items to whole proper begins small ends =
    let head : List ℕ = text.head_text sig 1 name from in
    let middle : List ℕ = text.lines_text sig items in
    let last : List ℕ = text.end_text sig to in
    let all : Always (text.text_of sig 1 name from items to) (tokens.head_tokens sig 1 name from ++ (tokens.items_tokens sig items ++ (tokens.end_tokens sig to ++ codes "endproof" ∷ []))) =
    always_both head (middle ++ last) (tokens.head_tokens sig 1 name from) (tokens.items_tokens sig items ++ (tokens.end_tokens sig to ++ codes "endproof" ∷ []))
    (always_head sig whole name from proper begins)
    (always_both middle last (tokens.items_tokens sig items) (tokens.end_tokens sig to ++ codes "endproof" ∷ []) (always_lines sig whole items small) (always_end sig whole to ends)) in
    let whole_text = all [] [] (λ at line. ([], refl, refl)) 0 1 in
    let same : (tokens.head_tokens sig 1 name from ++ (tokens.items_tokens sig items ++ (tokens.end_tokens sig to ++ codes "endproof" ∷ []))) ++ [] ≡ tokens.text_tokens sig 1 name from items to ++ codes "endproof" ∷ [] =
    append-nil _ ∙ ap (λ z. tokens.head_tokens sig 1 name from ++ z) (sym (append_assoc (tokens.items_tokens sig items) (tokens.end_tokens sig to) (codes "endproof" ∷ [])))
    ∙ sym (append_assoc (tokens.head_tokens sig 1 name from) (tokens.items_tokens sig items ++ tokens.end_tokens sig to) (codes "endproof" ∷ [])) in
    subst (λ bytes. Finds (lexed 0 0 1 bytes) (tokens.text_tokens sig 1 name from items to ++ codes "endproof" ∷ [])) (append-nil (text.text_of sig 1 name from items to))
    (subst (Finds (lexed 0 0 1 (text.text_of sig 1 name from items to ++ []))) same whole_text)
