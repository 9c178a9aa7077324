-- Tokens written one after another.
use Rattle.std.proofs.Common.{◌≡◌, ◌∙◌, ◌-◌, ◌<◌, ◌≤◌, ℕ, Bool, List, [], ◌∷◌, ◌++◌, length, take, drop, get_or, ap, sym, append_assoc, arith}
use Rattle.std.proofs.Math.Seq.{take-length}
use Rattle.mw_logic.specs.Term.{RawTerm}
use Rattle.mw_logic.specs.Signature.{Signature}
use Rattle.mw_logic.specs.NormalForm.{highest}
use Rattle.mw_logic.specs.Terms.{terms_of}
use Rattle.mw_print.specs.Tokens.{Token, comma}
use Rattle.mw_print.specs.Printing.{divided, arguments_of, shown, all_shown}
use Rattle.mw_print.specs.declared.writer.Writer.{Writer}
use Rattle.mw_print.specs.Writing.{written, Writes}
use Rattle.mw_print.proofs.Forms.{list_more}

pub writes_both : (u v w : Writer) (xs ys : List Token) → Writes u v xs → Writes v w ys → Writes u w (xs ++ ys)
writes_both u v w xs ys h k ts = k ts ∙ h (ys ++ ts) ∙ ap (written u) (sym (append_assoc xs ys ts))

-- a list is its first element and those behind it
pub front_and : (rest : List RawTerm) (d : RawTerm) → 1 ≤ length rest → d ≡ get_or rest 0 d → rest ≡ d ∷ take (length rest - 1) (drop 1 rest)
front_and [] d h e = absurd (omega arith)
front_and (x ∷ xs) d h e =
    let n : length (x ∷ xs) - 1 ≡ length xs = omega arith in
    rw (n, take-length xs) (ap (λ y. y ∷ xs) (sym e))

pub lower_behind : (rest : List RawTerm) (t : RawTerm) (behind : List RawTerm) → rest ≡ t ∷ behind → highest (terms_of behind) ≤ highest (terms_of rest)
lower_behind rest t behind is = rw is (omega arith)

-- the text behind an argument and a comma
pub past_argument : (sig : Signature) (assoc : Bool) (f : ℕ) (u v w : Writer) (arg : RawTerm) (rest behind : List RawTerm) → rest ≡ arg ∷ behind → 0 < length behind
    → Writes u v (shown sig arg).tokens → Writes v w (comma ∷ []) → (ts : List Token)
    → written w (divided (arguments_of assoc f (all_shown sig behind)) ++ ts) ≡ written u (divided (arguments_of assoc f (all_shown sig rest)) ++ ts)
past_argument sig assoc f u v w arg rest [] is some h k ts = absurd (omega arith)
past_argument sig assoc f u v w arg rest (b ∷ behind) is some h k ts =
    let ps = all_shown sig behind in
    let more = divided (arguments_of assoc f (shown sig b ∷ ps)) in
    let all : divided (arguments_of assoc f (all_shown sig rest)) ++ ts ≡ (shown sig arg).tokens ++ (comma ∷ more ++ ts)
    = rw is (ap (λ xs. xs ++ ts) (list_more assoc f (shown sig arg) (shown sig b) ps) ∙ append_assoc (shown sig arg).tokens (comma ∷ more) ts) in
    k (more ++ ts) ∙ h (comma ∷ more ++ ts) ∙ ap (written u) (sym all)
