use Rattle.std.proofs.Common.{◌≡◌, [], ◌∷◌, List, None, true, false, Vec, Global, ap, sym, subst, refl}
use Rattle.mw_logic.specs.Term.{RawTerm}
use Rattle.mw_logic.specs.Terms.{args_of, terms_of}
use Rattle.mw_logic.specs.Module.{Module}
use Rattle.mw_term.specs.declared.term.Term.{Term}
use Rattle.mw_index.specs.Choices.{subject_of, tried_of, AreFitting}
use Rattle.mw_index.specs.declared.oriented.Oriented.{Oriented}
use Rattle.mw_index.specs.declared.choices.Choice.{Choice}
use Rattle.mw_index.proofs.Comparing.{are_straight, count_sorts}
use Rattle.mw_index.proofs.Trying.{all_lack, all_tried, plain_choice, search_more}
use Rattle.mw_index.proofs.choices.Choices.compare.Goals as goal

pub fits-requires-clause-count : goal.fits-requires-clause-count
fits-requires-clause-count c = count_sorts c.args.context.now c.shows.ensures _ c.args.by.now c.args.patterns.now c.requires

pub fits-requires-clause-straight : goal.fits-requires-clause-straight
fits-requires-clause-straight c = are_straight c.args.context.now c.shows.ensures _ c.args.by.now c.args.patterns.now c.requires

pub returns-then-not-branch-clause-is : goal.returns-then-not-branch-clause-is
returns-then-not-branch-clause-is c tried v kept under =
    let M : Module = c.args.context.now in
    let st : Oriented = c.args.by.now in
    let t : RawTerm = subject_of c.args.subject in
    let found : List RawTerm = c.fits.new.found.items in
    let h : AreFitting M.signature st.sorts c.args.patterns.now (args_of t) found false =
    subst (λ ts. AreFitting M.signature st.sorts c.args.patterns.now ts found false) c.args-args.ensures
    (subst (AreFitting M.signature st.sorts c.args.patterns.now (terms_of c.args-args.result.now) found) c.if-not-branch.true c.in_ok-fits.ensures) in
    record { subject = kept; answer = all_lack M c.shows.ensures _ st c.args.patterns.now c.requires t v refl tried found h }

pub returns-clause-is : goal.returns-clause-is
returns-clause-is c tried v kept under =
    let M : Module = c.args.context.now in
    let st : Oriented = c.args.by.now in
    let t : RawTerm = subject_of c.args.subject in
    let q : Choice = record { by = c.args.by; values = c.replace-values.result; take = None } in
    let values : c.replace-values.result.items ≡ c.fits.new.found.items = ap (λ (v : Vec Term Global). v.items) c.replace-values.ensures.value in
    let h : AreFitting M.signature st.sorts c.args.patterns.now (args_of t) q.values.items true =
    subst (λ us. AreFitting M.signature st.sorts c.args.patterns.now (args_of t) us true) (sym values)
    (subst (λ ts. AreFitting M.signature st.sorts c.args.patterns.now ts c.fits.new.found.items true) c.args-args.ensures
    (subst (AreFitting M.signature st.sorts c.args.patterns.now (terms_of c.args-args.result.now) c.fits.new.found.items) c.if-not-branch.false c.in_ok-fits.ensures)) in
    record {
      subject = kept;
      answer = (
        plain_choice M c.shows.ensures _ st c.args.patterns.now c.requires t v refl tried q refl refl h,
        refl,
        record {
          given = λ g. all_tried M c.shows.ensures _ st c.args.patterns.now c.requires t v refl tried q refl refl h;
          search = search_more M.signature tried (tried_of q ∷ []) M t st.number st.left (λ s. s.value) c.args.self.now.search under.search;
        },
      );
    }
