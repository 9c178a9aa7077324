-- Prefix forms of arguments, written one after another.
use Rattle.std.proofs.Common.{◌≡◌, ◌∙◌, ◌<◌, suc, List, [], ◌∷◌, ◌++◌, length, ap, sym, refl, append_assoc, arith}
use Rattle.mw_logic.specs.Term.{RawTerm}
use Rattle.mw_logic.specs.Signature.{Signature}
use Rattle.mw_print.specs.Tokens.{Token, comma}
use Rattle.mw_print.specs.Printing.{divided}
use Rattle.mw_print.specs.Prefix.{prefixed, forms_of}
use Rattle.mw_print.specs.declared.writer.Writer.{Writer}
use Rattle.mw_print.specs.Writing.{written, Writes}
use Rattle.mw_print.proofs.Forms.{divided_more}

length_forms : (sig : Signature) (ts : List RawTerm) → length (forms_of sig ts) ≡ length ts
length_forms sig [] = refl
length_forms sig (t ∷ ts) = ap suc (length_forms sig ts)

pub forms_some : (sig : Signature) (ts : List RawTerm) → 0 < length ts → 0 < length (forms_of sig ts)
forms_some sig ts h = let n = length_forms sig ts in omega arith

-- the text behind an argument and a comma
pub past_form : (sig : Signature) (u v w : Writer) (arg : RawTerm) (rest behind : List RawTerm) → rest ≡ arg ∷ behind → 0 < length behind
    → Writes u v (prefixed sig arg) → Writes v w (comma ∷ []) → (ts : List Token) → written w (divided (forms_of sig behind) ++ ts) ≡ written u (divided (forms_of sig rest) ++ ts)
past_form sig u v w arg rest behind is some h k ts =
    let more : List Token = divided (forms_of sig behind) in
    let all : divided (forms_of sig rest) ++ ts ≡ prefixed sig arg ++ (comma ∷ more ++ ts)
    = rw is (ap (λ xs. xs ++ ts) (divided_more (prefixed sig arg) (forms_of sig behind) (forms_some sig behind some)) ∙ append_assoc (prefixed sig arg) (comma ∷ more) ts) in
    k (more ++ ts) ∙ h (comma ∷ more ++ ts) ∙ ap (written u) (sym all)
