-- The tokens of prefix forms are proper.
use Rattle.std.proofs.Common.{◌≡◌, ◌<◌, ◌^◌, ◌==◌, inr, ℕ, false, List, [], ◌∷◌, ◌++◌, Option, Some, None, arith, refl}
use Rattle.std.specs.Prelude.{option_map, unwrap_or}
use Rattle.std.specs.Fmt.{decimal}
use Rattle.std.proofs.lemmas.Bool.{ne_eqb}
use Rattle.mw_lex.specs.Texts.{IsProper}
use Rattle.mw_lex.proofs.Runs.{IsWhole, whole_one, takes_none}
use Rattle.mw_lex.proofs.Comments.{no_comment}
use Rattle.mw_logic.specs.Term.{RawTerm, numeral, quoted, variable, apply, RawTerms, nil, cons}
use Rattle.mw_logic.specs.Signature.{Signature, Operator, at_number}
use Rattle.mw_print.specs.Tokens.{token}
use Rattle.mw_print.specs.Prefix.{spelling_at, numbered, prefixed, prefixed_all}
use Rattle.mw_print.specs.PrefixLaws.{IsTold, AreTold, HasWholeSpellings, PrefixLexes}
use Rattle.mw_print.proofs.Digits.{IsDigit, AreDigits, AreSome, decimal_digits, decimal_proper, digit_runs}
use Rattle.mw_print.proofs.Proper.{AreProper, AreAllProper, all_proper, called_proper}
use Rattle.mw_print.proofs.Lexed.{lexes}
use Rattle.mw_print.proofs.PrefixWords.{numbered_is}

no_quote : (b : ℕ) → IsDigit b → (b == 96) ≡ false
no_quote b d = ne_eqb b 96 (λ e. absurd (omega (arith, d.1)))

-- digits before a whole run
digits_whole : (bs rest : List ℕ) → AreDigits bs → IsWhole rest → IsWhole (bs ++ rest)
digits_whole [] rest d w = w
digits_whole (b ∷ bs) rest d w = whole_one b (bs ++ rest) (digit_runs b d.0) (takes_none b (bs ++ rest) (no_quote b d.0)) (digits_whole bs rest d.1 w)

name_whole : (s : List ℕ) → IsWhole s → IsWhole (64 ∷ s)
name_whole s w = whole_one 64 s refl (takes_none 64 s refl) w

digits_before : (bs rest : List ℕ) → AreSome bs → IsWhole rest → IsProper (bs ++ rest)
digits_before [] rest d w = absurd d
digits_before (b ∷ bs) rest d w =
    inr (digits_whole (b ∷ bs) rest d w, (λ e. absurd (omega (arith, d.0))), no_comment b (ne_eqb b 42 (λ e. absurd (omega (arith, d.0)))) (ne_eqb b 45 (λ e. absurd (omega (arith, d.0)))) (bs ++ rest))

module _ (sig : Signature) (whole : HasWholeSpellings sig) where
  spelling_whole : (f : ℕ) → IsWhole (spelling_at sig f)
  spelling_whole f = of (at_number sig.operators f) (whole f)
    where
      of : (o : Option Operator) → ((p : Operator) → o ≡ Some p → IsWhole p.spelling) → IsWhole (unwrap_or (option_map (λ (o : Operator). o.spelling) o) [])
      of None h = refl
      of (Some o) h = h o refl

  numbered_proper : (f : ℕ) → f < 2 ^ 128 → IsProper (numbered sig f)
  numbered_proper f h = rw (numbered_is sig f) (digits_before (decimal f) (64 ∷ spelling_at sig f) (decimal_digits f h) (name_whole (spelling_at sig f) (spelling_whole f)))

  mutual
    pub form_proper : (t : RawTerm) → IsTold t → AreProper (prefixed sig t)
    form_proper (numeral n) h = (decimal_proper n h, tt)
    form_proper (quoted q) h = (h.1, tt)
    form_proper (variable x) h = tt
    form_proper (apply f ts) h = called_proper (token (numbered sig f) ∷ []) (prefixed_all sig ts) (numbered_proper f h.0, tt) (forms_proper ts h.1)

    forms_proper : (ts : RawTerms) → AreTold ts → AreAllProper (prefixed_all sig ts)
    forms_proper nil h = tt
    forms_proper (cons t ts) h = (form_proper t h.0, forms_proper ts h.1)

-- the text of a form is cut into its tokens
pub prefix_lexed : PrefixLexes
prefix_lexed sig t whole told = lexes (prefixed sig t) (all_proper (prefixed sig t) (form_proper sig whole t told)) 0 1
