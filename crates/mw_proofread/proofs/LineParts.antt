-- Values and lines that are read, and tokens that have none.
use Rattle.std.proofs.Common.{◌≡◌, ◌∙◌, ℕ, List, [], ◌∷◌, ◌++◌, length, Some, false, refl, ap, sym, subst, arith, append_assoc}
use Rattle.std.specs.Prelude.{codes}
use Rattle.mw_logic.specs.Term.{RawTerm}
use Rattle.mw_logic.specs.Signature.{Signature}
use Rattle.mw_logic.specs.Module.{Module}
use Rattle.mw_redex.specs.declared.replacing.Place.{Place}
use Rattle.mw_items.specs.declared.Entry.{Entry}
use Rattle.mw_items.specs.declared.Entry.TheVariants.{Step, Built}
use Rattle.mw_items.specs.Items.{Spot}
use Rattle.mw_proofread.specs.Numbers.{number_text, entry_number, saturated}
use Rattle.mw_proofread.specs.TokenTexts.{form_tokens, values_tokens, with_tokens, spot_tokens}
use Rattle.mw_proofread.specs.Reading.{IsWritten, AreWritten, IsCount, values_of, groups_of}
use Rattle.mw_proofread.specs.Parts.{AreLow, IsHigh, NoForm, NoNumber, NotFirst, EndsLine, Line, by_statement, by_row, line_tokens, IsLine, HasPlace, HasValue, HasWith, HasLine, NoPlace, NoValue, NoValues, NoWith, NoLine}
use Rattle.mw_proofread.proofs.Digits.{number_one}
use Rattle.mw_proofread.proofs.Low.{form_low, low_one, ends_other, ends_spot}
use Rattle.mw_proofread.proofs.Places.{entry_saturated}
use Rattle.mw_proofread.proofs.Fronts.{first_is, rest_is, not_first, spot_one, value_apart, with_one, with_ends_spot, statement_apart, not_built}
use Rattle.mw_proofread.proofs.Tails.{value_one}

-- low tokens that are no form, in front of others
pub value_not : (sig : Signature) (ts front rest : List (List ℕ)) → ts ≡ front ++ rest → AreLow front → IsHigh rest → NoForm sig front → NoValue sig ts
value_not sig ts front rest is low high n t r w h e = let (i, j) = low_one front (form_tokens sig t) rest r low (form_low sig t w.told) high h (sym is ∙ e) in n t w (sym i)

module _ (sig : Signature) where
  -- one value more
  values_last : (ts : List RawTerm) (t : RawTerm) → values_tokens sig (ts ++ t ∷ []) ≡ values_tokens sig ts ++ (codes "[" ∷ (form_tokens sig t ++ (codes "]" ∷ [])))
  values_last [] t = refl
  values_last (u ∷ ts) t =
      ap (λ z. codes "[" ∷ (form_tokens sig u ++ (codes "]" ∷ z))) (values_last ts t)
      ∙ ap (λ z. codes "[" ∷ z) (sym (append_assoc (form_tokens sig u) (codes "]" ∷ values_tokens sig ts) (codes "[" ∷ (form_tokens sig t ++ (codes "]" ∷ [])))))

  written_last : (ts : List RawTerm) (t : RawTerm) → AreWritten sig ts → IsWritten sig t → AreWritten sig (ts ++ t ∷ [])
  written_last [] t h w = (w, tt)
  written_last (u ∷ ts) t h w = (h.0, written_last ts t h.1 w)

  -- Values are read up to these tokens: those that are found; and what values the tokens have, they go on here.
  pub record AreValuesTo (tokens : List (List ℕ)) (found : List RawTerm) (rest : List (List ℕ)) : Type 0 where
    pub is : tokens ≡ values_tokens sig found ++ rest
    pub written : AreWritten sig found
    pub complete : (ts : List RawTerm) (last : List (List ℕ)) → AreWritten sig ts → NotFirst (codes "[") last → tokens ≡ values_tokens sig ts ++ last → (us : List RawTerm) × AreWritten sig us × (rest ≡ values_tokens sig us ++ last)

  -- the first value
  record HasFirst (inner last : List (List ℕ)) : Type 0 where
    first : RawTerm
    others : List RawTerm
    written : IsWritten sig first
    all_written : AreWritten sig others
    is : inner ≡ form_tokens sig first ++ (codes "]" ∷ (values_tokens sig others ++ last))

  first_value : (ts : List RawTerm) (inner last : List (List ℕ)) → AreWritten sig ts → NotFirst (codes "[") last → codes "[" ∷ inner ≡ values_tokens sig ts ++ last → HasFirst inner last
  first_value [] inner last w n e = absurd (not_first (codes "[") last inner n (sym e))
  first_value (t ∷ ts) inner last w n e = record { first = t; others = ts; written = w.0; all_written = w.1; is = rest_is (e ∙ value_apart sig t ts last) }

  module _ (tokens rest inner : List (List ℕ)) (found : List RawTerm) (to : AreValuesTo tokens found rest) (is : rest ≡ codes "[" ∷ inner) where
    has_first : (ts : List RawTerm) (last : List (List ℕ)) → AreWritten sig ts → NotFirst (codes "[") last → tokens ≡ values_tokens sig ts ++ last → HasFirst inner last
    has_first ts last w n e = let (us, v, k) = to.complete ts last w n e in first_value us inner last v n (sym is ∙ k)

    pub no_value : NoValue sig inner → NoValues sig tokens
    no_value no_term ts last w n e = let h = has_first ts last w n e in no_term h.first (codes "]" ∷ (values_tokens sig h.others ++ last)) h.written refl h.is

    module _ (t : RawTerm) (behind : List (List ℕ)) (v : HasValue sig inner t behind) where
      behind_first : (ts : List RawTerm) (last : List (List ℕ)) → AreWritten sig ts → NotFirst (codes "[") last → tokens ≡ values_tokens sig ts ++ last
          → (us : List RawTerm) × AreWritten sig us × (behind ≡ codes "]" ∷ (values_tokens sig us ++ last))
      behind_first ts last w n e =
          let h = has_first ts last w n e in
          (h.others, h.all_written, value_one sig inner t h.first behind (codes "]" ∷ (values_tokens sig h.others ++ last)) v h.written refl h.is)

      pub no_bracket : NotFirst (codes "]") behind → NoValues sig tokens
      no_bracket m ts last w n e = let (us, a, k) = behind_first ts last w n e in not_first (codes "]") behind _ m k

      pub values_more : (next : List (List ℕ)) (new : List RawTerm) → behind ≡ codes "]" ∷ next → new ≡ found ++ t ∷ [] → AreValuesTo tokens new next
      values_more next new b e = subst (λ z. AreValuesTo tokens z next) (sym e) (record {
        is = to.is ∙ ap (λ z. values_tokens sig found ++ z) (is ∙ ap (λ z. codes "[" ∷ z) (v.is ∙ ap (λ z. form_tokens sig t ++ z) b ∙ sym (append_assoc (form_tokens sig t) (codes "]" ∷ []) next)))
            ∙ sym (append_assoc (values_tokens sig found) (codes "[" ∷ (form_tokens sig t ++ (codes "]" ∷ []))) next) ∙ ap (λ z. z ++ next) (sym (values_last found t));
        written = written_last found t to.written v.written;
        complete = λ ts last w n k. let (us, a, m) = behind_first ts last w n k in (us, a, rest_is (sym b ∙ m));
      })

  -- with the word
  pub without : (tokens : List (List ℕ)) (found : List RawTerm) → found ≡ [] → NotFirst (codes "with") tokens → HasWith sig tokens found tokens
  without tokens found e n = subst (λ z. HasWith sig tokens z tokens) (sym e) (record { is = refl; written = tt; ends = λ k. absurd (k refl); no_more = λ k. n })

  module _ (tokens behind : List (List ℕ)) (is : tokens ≡ codes "with" ∷ behind) where
    pub no_values : NoValues sig behind → NoWith sig tokens
    no_values m [] r w e k = not_first (codes "with") r behind (ends_other (codes "with") refl r e) (sym k ∙ is)
    no_values m (t ∷ ts) r w e k = m (t ∷ ts) r w (ends_other (codes "[") refl r e) (rest_is (sym is ∙ k))

module _ (M : Module) where
  -- a row
  pub row_is : (tokens rest : List (List ℕ)) (place : Place) (old new : List Entry) → HasPlace tokens place rest → new ≡ old ++ (Built place ∷ []) → HasLine M (codes "step" ∷ codes "built" ∷ tokens) rest (Some 0) old new
  row_is tokens rest place old new h p = record {
    line = by_row h.spot;
    is = ap (λ z. codes "step" ∷ codes "built" ∷ z) h.is;
    good = h.good;
    only = one_row;
    wants = refl;
    pushed = p ∙ ap (λ z. old ++ (Built z ∷ [])) h.place;
  }
    where
      one_row : (other : Line) (last : List (List ℕ)) → IsLine M other → EndsLine last → codes "step" ∷ codes "built" ∷ tokens ≡ line_tokens M.signature other ++ last → rest ≡ last
      one_row (by_row s) last g e k = (spot_one h.spot s rest last h.ends h.no_more (ends_spot last e) (sym h.is ∙ rest_is (rest_is k))).1
      one_row (by_statement i s vs) last g e k = absurd (not_built i (sym (first_is (rest_is k))))

  pub row_not : (tokens : List (List ℕ)) → NoPlace tokens → NoLine M (codes "step" ∷ codes "built" ∷ tokens)
  row_not tokens n (by_row s) r g e k = n s r g (ends_spot r e) (rest_is (rest_is k))
  row_not tokens n (by_statement i s vs) r g e k = not_built i (sym (first_is (rest_is k)))

  pub no_step : (tokens : List (List ℕ)) → NotFirst (codes "step") tokens → NoLine M tokens
  no_step tokens n (by_row s) r g e k = not_first (codes "step") tokens _ n k
  no_step tokens n (by_statement i s vs) r g e k = not_first (codes "step") tokens _ n k

  -- a statement
  pub number_not : (tokens : List (List ℕ)) → NotFirst (codes "built") tokens → NoNumber tokens → NoLine M (codes "step" ∷ tokens)
  number_not tokens b n (by_row s) r g e k = not_first (codes "built") tokens _ b (rest_is k)
  number_not tokens b n (by_statement i s vs) r g e k = none_there tokens n (rest_is k)
    where
      none_there : {vs : List (List ℕ)} (ws : List (List ℕ)) → NoNumber ws → ws ≡ number_text i ∷ vs → ⊥
      none_there [] h e = cc
      none_there (w ∷ ws) h e = h i (first_is e)

  module _ (tokens behind : List (List ℕ)) (n : ℕ) (is : tokens ≡ number_text n ∷ behind) where
    -- what another reading has
    record IsOther (k : ℕ) (s : Spot) (vs : List RawTerm) (r : List (List ℕ)) : Type 0 where
      number : n ≡ k
      rest : behind ≡ spot_tokens s ++ (with_tokens M.signature vs ++ r)

    other_is : (k : ℕ) (s : Spot) (vs : List RawTerm) (r : List (List ℕ)) → codes "step" ∷ tokens ≡ line_tokens M.signature (by_statement k s vs) ++ r → IsOther k s vs r
    other_is k s vs r e =
        let same = sym is ∙ rest_is (e ∙ statement_apart M.signature k s vs r) in
        record { number = number_one n k (first_is same); rest = rest_is same }

    no_row : (s : Spot) (r : List (List ℕ)) → codes "step" ∷ tokens ≡ line_tokens M.signature (by_row s) ++ r → ⊥
    no_row s r e = not_built n (first_is (sym is ∙ rest_is e))

    pub place_not_there : NoPlace behind → NoLine M (codes "step" ∷ tokens)
    place_not_there m (by_row s) r g e k = no_row s r k
    place_not_there m (by_statement i s vs) r g e k = let o = other_is i s vs r k in m s (with_tokens M.signature vs ++ r) g.0 (with_ends_spot M.signature vs r e) o.rest

    module _ (place : Place) (mid : List (List ℕ)) (h : HasPlace behind place mid) where
      mid_is : (k : ℕ) (s : Spot) (vs : List RawTerm) (r : List (List ℕ)) → EndsLine r → IsOther k s vs r → mid ≡ with_tokens M.signature vs ++ r
      mid_is k s vs r e o = (spot_one h.spot s mid (with_tokens M.signature vs ++ r) h.ends h.no_more (with_ends_spot M.signature vs r e) (sym h.is ∙ o.rest)).1

      pub with_not_there : NoWith M.signature mid → NoLine M (codes "step" ∷ tokens)
      with_not_there m (by_row s) r g e k = no_row s r k
      with_not_there m (by_statement i s vs) r g e k = m vs r g.1 e (mid_is i s vs r e (other_is i s vs r k))

      module _ (values : List RawTerm) (rest : List (List ℕ)) (w : HasWith M.signature mid values rest) where
        one_statement : (other : Line) (last : List (List ℕ)) → IsLine M other → EndsLine last → codes "step" ∷ tokens ≡ line_tokens M.signature other ++ last → rest ≡ last
        one_statement (by_row s) r g e k = absurd (no_row s r k)
        one_statement (by_statement i s vs) r g e k = (with_one M.signature values vs rest r w.written g.1 w.ends w.no_more e (sym w.is ∙ mid_is i s vs r e (other_is i s vs r k))).1

        pub count_not : ¬ IsCount (values_of M n) (length values) → NoLine M (codes "step" ∷ tokens)
        count_not m (by_row s) r g e k = no_row s r k
        count_not m (by_statement i s vs) r g e k =
            let o = other_is i s vs r k in
            let (l, b) = with_one M.signature values vs rest r w.written g.1 w.ends w.no_more e (sym w.is ∙ mid_is i s vs r e o) in
            m (subst (λ z. IsCount (values_of M z) (length values)) (sym o.number) (subst (IsCount (values_of M i)) (sym (ap length l)) g.2))

        pub statement_is : (cap found : ℕ) (old new : List Entry) → cap ≡ entry_number found → found ≡ saturated n → IsCount (values_of M n) (length values)
            → new ≡ old ++ (Step (record { owise = false; statement = cap; place = place; values = values }) ∷ []) → HasLine M (codes "step" ∷ tokens) rest (groups_of M n) old new
        statement_is cap found old new m f c p =
            let number : cap ≡ entry_number n = m ∙ entry_saturated n found f in
            record {
              line = by_statement n h.spot values;
              is = ap (λ z. codes "step" ∷ z) (is ∙ ap (λ z. number_text n ∷ z) (h.is ∙ ap (λ z. spot_tokens h.spot ++ z) w.is)) ∙ sym (statement_apart M.signature n h.spot values rest);
              good = (h.good, w.written, c);
              only = one_statement;
              wants = refl;
              pushed = p ∙ (λ i. old ++ (Step (record { owise = false; statement = number i; place = h.place i; values = values }) ∷ []));
            }
