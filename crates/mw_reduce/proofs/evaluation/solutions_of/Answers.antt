use Rattle.std.specs.List.{zip}
use Rattle.std.proofs.Common.{◌≡◌, false, sym, subst, ap, ◌∙◌}
use Rattle.mw_logic.specs.Parts.{nested}
use Rattle.mw_logic.specs.NormalForm.{normal_form}
use Rattle.mw_logic.specs.Substitution.{Substitution, IsSubstitution}
use Rattle.mw_logic.proofs.Canonical.{IsCanonical, canonical}
use Rattle.mw_canon.specs.Canonical.{meant}
use Rattle.mw_position.specs.Variables.{bound_variables, bound_values}
use Rattle.mw_position.proofs.Meeting.{met_grows}
use Rattle.mw_solving.specs.Values.{IsValue, AreValues}
use Rattle.mw_solving.proofs.Candidates.{variables_zipped, values_zipped}
use Rattle.mw_compile.specs.Compiled.{IsCompiled}
use Rattle.mw_match.specs.Solutions.{Coming, IsAllSolutions, AreNamed}
use Rattle.mw_index.proofs.Fragments.{HasFront, zip_front}
use Rattle.mw_reduce.proofs.evaluation.solutions_of.Goals as goal

pub returns : goal.returns
returns c = λ n all xs l u C ready is values normal.
    let sig = c.args.context.now.signature in
    let vs = c.args.values.now in
    let t = c.args.subject.now in
    let compiled = c.args.compiled.now in
    let ys = compiled.variables in
    let given : Substitution = c.in_ok-given.given in
    let front : HasFront xs ys = subst (HasFront xs) (sym is.variables) (met_grows xs is.q) in
    let g : given ≡ zip xs vs = c.in_ok-given.ensures ∙ ap (λ zs. zip zs vs) c.as_slice.ensures ∙ zip_front xs ys vs front values.size in
    let numbered : IsCompiled sig (normal_form sig l) (bound_variables given) compiled =
    subst (λ zs. IsCompiled sig (normal_form sig l) zs compiled) (sym (ap bound_variables g ∙ variables_zipped xs vs values.size)) is in
    let substitution : IsSubstitution sig (meant sig given) = subst (λ s. IsSubstitution sig (meant sig s)) (sym g) values.substitution in
    let old : AreValues sig (bound_values given) = subst (AreValues sig) (sym (ap bound_values g ∙ values_zipped xs vs values.size)) values.values in
    let value : IsValue sig t =
    record { canonical = subst (IsCanonical sig) normal.canonical (canonical sig c.shows.ensures.signature.accepted (nested sig t)); raw = normal.raw; ground = normal.normal.admitted.ground } in
    let raw = ready.raw.0 in
    let same = sym c.in_ok-new.ensures.ok in (
      subst (λ (s : Coming). IsAllSolutions sig false l t (meant sig (zip xs vs)) s) same
          (subst (λ s. IsAllSolutions sig false l t (meant sig s) c.in_ok-solutions.solutions) g (c.in_ok-solutions.ensures.all l raw numbered value substitution old)),
      subst (λ (s : Coming). AreNamed sig ys s) same (c.in_ok-solutions.ensures.named l raw numbered value substitution old),
    )
