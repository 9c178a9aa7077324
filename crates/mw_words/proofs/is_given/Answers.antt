use Rattle.std.proofs.Common.{◌≡◌, ◌∙◌, List, ℕ, Some, codes, sym, ap}
use Rattle.std.proofs.lemmas.Slice.Eq.{slice_eq-Decides}
use Rattle.std.proofs.lemmas.Bool.Decides.{Decides-eqb}
use Rattle.clap.specs.Walk.{first_of, rows_of}
use Rattle.clap.specs.Matches.{found_of}
use Rattle.mw_words.proofs.Rows.{first_value_rows}
use Rattle.mw_words.proofs.is_given.Goals as goal

same_some : {x y : List ℕ} → Some x ≡ Some y → x ≡ y
same_some e = cc

pub returns-in-Some : goal.returns-in-Some
returns-in-Some c =
    let same = slice_eq-Decides Decides-eqb c.in-Some.text.now (codes "true") c.eq.result c.eq.ensures in
    let row : Some c.in-Some.text.now ≡ first_of c.args.name.now (rows_of (found_of c.args.matches.now)) =
    (rw c.in-Some.is at c.get_str.ensures) ∙ first_value_rows (found_of c.args.matches.now) c.args.name.now in
    (λ h. sym row ∙ ap (λ (t : List ℕ). Some t) (same.0 h), λ e. same.1 (same_some (row ∙ e)))
