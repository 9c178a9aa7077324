use Rattle.std.proofs.Common.{◌≡◌, ◌≤◌, ◌+◌, List, ap, sym, subst, length, arith}
use Rattle.std.proofs.lemmas.Grind.{common_steps}
use Rattle.std.specs.Prelude.{slice_range}
use Rattle.mw_logic.specs.Term.{RawTerm}
use Rattle.mw_logic.specs.Terms.{terms_of}
use Rattle.mw_logic.specs.NormalForm.{highest}
use Rattle.mw_term.specs.Facts.{facts_of_all}
use Rattle.mw_term.specs.Sections.{IsTold}
use Rattle.mw_term.specs.Weights.{added_by, arguments_lighter, heaviest}
use Rattle.mw_term.proofs.Parts.{to_the_end}
use Rattle.mw_term.proofs.term.all_over.Goals as goal

pub over-requires : goal.over-requires
over-requires c =
    let list = c.in_ok-list.list.value in
    let ts = list.terms.items in
    let e : list ≡ c.args.list = grind (arith, common_steps) in
    let n : c.len-count.result ≡ length ts = grind (arith, common_steps) in
    let all : slice_range ts 0 c.len-count.result ≡ ts = to_the_end ts 0 c.len-count.result n in (
      subst IsTold (sym e) c.requires.told,
      omega arith,
      omega (arith, n),
      subst (λ (us : List RawTerm). heaviest (terms_of ts) ≤ highest (terms_of us) + added_by (terms_of us)) (sym all) (arguments_lighter (terms_of ts)),
      ap (λ (us : List RawTerm). facts_of_all (terms_of us)) all,
    )
