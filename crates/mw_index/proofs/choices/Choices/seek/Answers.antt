use Rattle.std.proofs.Common.{◌∙◌, ◌++◌, [], ◌∷◌, None, Some, sym, subst, refl}
use Rattle.mw_logic.specs.Term.{RawTerm}
use Rattle.mw_logic.specs.Module.{Module, Statement}
use Rattle.mw_match.specs.Hands.{IsNext}
use Rattle.mw_match.specs.Solutions.{Coming}
use Rattle.mw_index.specs.Choices.{subject_of, tried_of, AreComing}
use Rattle.mw_index.specs.declared.oriented.Oriented.{Oriented}
use Rattle.mw_index.specs.declared.oriented.Searched.{Searched}
use Rattle.mw_index.proofs.Sides.{left_raw}
use Rattle.mw_index.proofs.Seeking.{none_left, others_come, search_answer}
use Rattle.mw_index.proofs.Trying.{are_tried_more, search_to, comes_from}
use Rattle.mw_index.proofs.choices.Choices.seek.Goals as goal

pub returns-in_ok-choice-in-Some-clause-is : goal.returns-in_ok-choice-in-Some-clause-is
returns-in_ok-choice-in-Some-clause-is c tried v kept under =
    let M : Module = c.args.context.now in
    let st : Oriented = c.args.by.now in
    let s : Searched = c.args.searched.now in
    let t : RawTerm = subject_of c.args.subject in
    let e : Statement = c.requires.of.statement in
    let old : Coming = c.deref_mut.result.now in
    let new : Coming = c.next.new.self in
    let coming : AreComing M.signature t tried st.number e s.compiled.variables old = subst (AreComing M.signature t tried st.number e s.compiled.variables) (sym c.deref_mut.ensures.value)
    (c.in_ok-solutions.ensures.coming tried st.number e v (left_raw M c.shows.ensures st.number e c.requires.of.is_there) c.requires.left kept
    (search_to M t tried st.number e st.left s (λ b. b.value) c.args.self.now.search c.requires.of.is_there c.requires.here under.search)) in
    let next : IsNext old new (Some c.in-Some.solution) = subst (IsNext old new) c.in-Some.is c.in_ok-found.ensures.ok in
    search_answer M c.shows.ensures _ st s c.requires t v refl tried old coming c.in-Some.solution new next.0 next.1 c.in_ok-found.ensures.same c.in_ok-choice-in-Some.choice _ c.in_ok-choice-in-Some.ensures (c.in_ok-solutions.ensures.kept kept)
    (λ q a b d. record {
      given = λ g d is. are_tried_more M.signature tried (tried_of q ∷ []) t st.number d (under.given (sym c.solutions.ensures.given ∙ g) d is);
      search = λ f is. comes_from M.signature t (tried ++ tried_of q ∷ []) st.number f st.left s new c.requires.here
          (others_come M c.shows.ensures _ st s c.requires t v refl tried old coming c.in-Some.solution new next.0 next.1 c.in_ok-found.ensures.same q a b d f is);
    })

pub returns-in-None-clause-is : goal.returns-in-None-clause-is
returns-in-None-clause-is c tried v kept under =
    let M : Module = c.args.context.now in
    let st : Oriented = c.args.by.now in
    let s : Searched = c.args.searched.now in
    let t : RawTerm = subject_of c.args.subject in
    let e : Statement = c.requires.of.statement in
    let old : Coming = c.deref_mut.result.now in
    let new : Coming = c.next.new.self in
    let coming : AreComing M.signature t tried st.number e s.compiled.variables old = subst (AreComing M.signature t tried st.number e s.compiled.variables) (sym c.deref_mut.ensures.value)
    (c.in_ok-solutions.ensures.coming tried st.number e v (left_raw M c.shows.ensures st.number e c.requires.of.is_there) c.requires.left kept
    (search_to M t tried st.number e st.left s (λ b. b.value) c.args.self.now.search c.requires.of.is_there c.requires.here under.search)) in
    let next : IsNext old new None = subst (IsNext old new) c.in-None.is c.in_ok-found.ensures.ok in
    record {
      subject = c.in_ok-solutions.ensures.kept kept;
      answer = none_left M c.shows.ensures _ st s c.requires t v refl tried old coming next.0;
    }
