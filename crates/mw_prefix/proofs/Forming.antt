-- The reader by the definition of forms.
use Rattle.std.specs.Prelude.{◌≡◌, suc, ℕ, List, Option, Some, None}
use Rattle.std.proofs.Common.{ap, sym, ◌∙◌, arith}
use Rattle.mw_logic.specs.Term.{RawTerm}
use Rattle.mw_logic.specs.Signature.{Signature}
use Rattle.mw_logic.specs.Accepted.{IsAccepted}
use Rattle.mw_print.specs.PrefixLaws.{most_open}
use Rattle.mw_print.proofs.PrefixWords.{words_are}
use Rattle.mw_print.proofs.PrefixOpen.{prefix_shallow}
use Rattle.mw_print.proofs.PrefixTold.{prefix_told}
use Rattle.mw_prefix.specs.Forms.{IsPrefixForm, IsNoForm, FormsTell}
use Rattle.mw_prefix.specs.Reading.{read}
use Rattle.mw_prefix.proofs.Fitting.{fit_told, fit_several, fit_raw, raw_fit}
use Rattle.mw_prefix.proofs.FormsRead.{form_read}
use Rattle.mw_prefix.proofs.ReadIsForm.{read_is_form}

module _ (sig : Signature) (ok : IsAccepted sig) (tokens : List (List ℕ)) where
  pub read_form : (t : RawTerm) → read sig tokens ≡ Some t → IsPrefixForm sig t tokens
  read_form t e =
      let (is, fits, low) = read_is_form sig t tokens e in
      let told = fit_told sig t fits in
      let form = words_are sig t ∙ sym is in
      let open_in = ap (λ xs. suc (most_open 0 xs)) (sym form) ∙ prefix_shallow sig t told in record {
        form = form;
        told = told;
        raw = fit_raw sig ok t fits;
        several = fit_several sig t fits;
        shallow = omega (arith, open_in, low);
      }

  pub form_is_read : (t : RawTerm) → IsPrefixForm sig t tokens → read sig tokens ≡ Some t
  form_is_read t p =
      let open_in = ap (λ xs. suc (most_open 0 xs)) (sym p.form) ∙ prefix_shallow sig t p.told in
      let shallow = p.shallow in
      ap (read sig) (sym p.form ∙ words_are sig t) ∙ form_read sig t (raw_fit sig ok t p.told p.several p.raw) (omega (arith, open_in, shallow))

  pub none_read : read sig tokens ≡ None → IsNoForm sig tokens
  none_read e t p = let both : ◌≡◌ {A = Option RawTerm} None (Some t) = sym e ∙ form_is_read t p in cc

pub forms_tell : FormsTell
forms_tell sig t u tokens p q = prefix_told sig t u p.told q.told (p.form ∙ sym q.form)
