-- What is tried, and what is still to come, with one choice more.
use Rattle.std.specs.Prelude.{◌≡◌, ℕ, List, [], ◌∷◌, ◌++◌, true, false, Option, Some, None, MatchOption, refl, ⊤}
use Rattle.std.proofs.Common.{sym, ap, subst, ◌∙◌, inl, inr, ⊎_elim}
use Rattle.std.proofs.lemmas.Option.{same_Some}
use Rattle.mw_logic.specs.Term.{Variable, RawTerm, RawTerms}
use Rattle.mw_logic.specs.Terms.{args_of}
use Rattle.mw_logic.specs.Signature.{Signature}
use Rattle.mw_logic.specs.Module.{Module, Statement, IsStatement}
use Rattle.mw_logic.specs.Substitution.{Substitution, IsSolution, SameSolution}
use Rattle.mw_least.specs.Workable.{IsWorkable}
use Rattle.mw_match.specs.Solutions.{Coming, AreNamed, IsAllSolutions}
use Rattle.mw_logic.proofs.Members.{member-left}
use Rattle.mw_poset.proofs.Members.{member-last}
use Rattle.mw_solving.specs.Values.{IsValue, AreValues}
use Rattle.mw_index.specs.Oriented.{IsOriented}
use Rattle.mw_index.specs.Choices.{Tried, tried_of, solution_of, IsTried, AreTried, AreComing, ComesFor, IsSearch, IsChoice, IsTaken, IsPlainOne, AreFitting}
use Rattle.mw_index.specs.Index.{operator_of}
use Rattle.mw_index.specs.declared.oriented.Oriented.{Oriented}
use Rattle.mw_index.specs.declared.oriented.Searched.{Searched}
use Rattle.mw_index.specs.declared.oriented.Left.{Left}
use Rattle.mw_index.specs.declared.oriented.Left.TheVariants as left
use Rattle.mw_index.specs.declared.choices.Choice.{Choice}
use Rattle.mw_index.proofs.Comparing.{told_sorts, told_lack, solved_by, values_given, solution_given}

-- a number has one statement
pub one_statement : (M : Module) (k : ℕ) (d e : Statement) → IsStatement M k d → IsStatement M k e → d ≡ e
one_statement M k d e a b = same_Some d e (sym a.is_there ∙ b.is_there)

module _ (sig : Signature) (tried new : List Tried) where
  pub tried_more : (k : ℕ) (e : Statement) (s : Substitution) → IsTried sig tried k e s → IsTried sig (tried ++ new) k e s
  tried_more k e s (c, m, n, h) = (c, member-left c tried new m, n, h)

  pub are_tried_more : (t : RawTerm) (k : ℕ) (e : Statement) → AreTried sig t tried k e → AreTried sig t (tried ++ new) k e
  are_tried_more t k e h w top s sol = tried_more k e s (h w top s sol)

  pub coming_more : (t : RawTerm) (k : ℕ) (e : Statement) (xs : List Variable) (c : Coming) → AreComing sig t tried k e xs c → AreComing sig t (tried ++ new) k e xs c
  coming_more t k e xs c h = record {
    named = h.named;
    sound = h.sound;
    lacking = h.lacking;
    complete = λ ks s sol. ⊎_elim (λ a. inl (tried_more k e s a)) (λ a. inr a) (h.complete ks s sol);
  }

  comes_more : (t : RawTerm) (k : ℕ) (e : Statement) (l : Left) (c : Coming) → ComesFor sig t tried k e l c → ComesFor sig t (tried ++ new) k e l c
  comes_more t k e (left.Plain ps) c h = h
  comes_more t k e (left.Searched s) c h = coming_more t k e s.value.compiled.variables c h

  -- of the search, if there is one
  pub search_more : {B : Type 0} (M : Module) (t : RawTerm) (k : ℕ) (l : Left) (value : B → Coming) (o : Option B)
      → MatchOption o ⊤ (λ s. (e : Statement) → IsStatement M k e → ComesFor sig t tried k e l (value s)) → MatchOption o ⊤ (λ s. (e : Statement) → IsStatement M k e → ComesFor sig t (tried ++ new) k e l (value s))
  search_more M t k l value None h = tt
  search_more M t k l value (Some s) h = λ e is. comes_more t k e l (value s) (h e is)

-- what values that are found say of an equation with a plain left side
module _ (M : Module) (ok : IsWorkable M) (top : Option ℕ) (st : Oriented) (ps : RawTerms) (one : IsPlainOne M top st ps) (t : RawTerm) (v : IsValue M.signature t) (is : operator_of t ≡ top) (tried : List Tried) where
  abbrev e : Statement
  e = one.of.statement

  pub all_lack : (found : List RawTerm) → AreFitting M.signature st.sorts ps (args_of t) found false → (d : Statement) → IsStatement M st.number d → AreTried M.signature t tried st.number d
  all_lack found h d there w part s sol =
      let sol' : IsSolution M.signature e.left _ [] s = subst (λ (d : Statement). IsSolution M.signature d.left _ [] s) (one_statement M st.number d e there one.of.is_there) sol in
      let (us, size, gives, values, sorts, same) = solved_by M ok top st ps one t v is w part s sol' in
      absurd (told_lack M.signature ok.signature.accepted us st.sorts values (h us size gives) sorts)

  module _ (q : Choice) (by : q.by.now ≡ st) (whole : q.take ≡ None) (h : AreFitting M.signature st.sorts ps (args_of t) q.values.items true) where
    pub all_tried : (d : Statement) → IsStatement M st.number d → AreTried M.signature t (tried ++ tried_of q ∷ []) st.number d
    all_tried d there w part s sol =
        let de : d ≡ e = one_statement M st.number d e there one.of.is_there in
        let sol' : IsSolution M.signature e.left _ [] s = subst (λ (d : Statement). IsSolution M.signature d.left _ [] s) de sol in
        let (us, size, gives, values, sorts, same) = solved_by M ok top st ps one t v is w part s sol' in
        let found : us ≡ q.values.items = h.3 us size gives in (
          tried_of q,
          member-last (tried_of q) tried,
          ap (λ (st : Oriented). st.number) by,
          subst (λ us. SameSolution M.signature s (solution_of M.signature d us)) found (subst (λ d. SameSolution M.signature s (solution_of M.signature d us)) (sym de) same),
        )

    pub plain_choice : IsChoice M t q
    plain_choice =
        let values : AreValues M.signature q.values.items = values_given M ok top st ps one t v is q.values.items h.0 h.1 in
        record {
          statement = e;
          is_there = subst (λ (s : Oriented). IsStatement M s.number e) (sym by) one.of.is_there;
          is = subst (IsOriented M.signature (operator_of t) e) (sym by) (subst (λ top. IsOriented M.signature top e st) (sym is) one.of.is);
          part = t;
          taken = subst (λ o. IsTaken M.signature o t t) (sym whole) refl;
          values = values;
          solution = solution_given M ok top st ps one t v is q.values.items h.0 h.1 (told_sorts M.signature ok.signature.accepted q.values.items st.sorts values h.2);
        }

-- what a search begins with
pub fresh_coming : (sig : Signature) (t : RawTerm) (tried : List Tried) (k : ℕ) (e : Statement) (xs : List Variable) (c : Coming) → IsAllSolutions sig true e.left t [] c → AreNamed sig xs c → AreComing sig t tried k e xs c
fresh_coming sig t tried k e xs c h n = record {
  named = n;
  sound = h.sound;
  lacking = h.lacking;
  complete = λ ks s sol. let (r, m, f, take, same) = h.complete ks s sol in inr (r, m, f, same);
}

-- what comes for a left side that is searched for
pub comes_to : (sig : Signature) (t : RawTerm) (tried : List Tried) (k : ℕ) (e : Statement) (l : Left) (s : Searched) (c : Coming) → IsSearch l s → ComesFor sig t tried k e l c → AreComing sig t tried k e s.compiled.variables c
comes_to sig t tried k e (left.Plain ps) s c i h = absurd i
comes_to sig t tried k e (left.Searched b) s c i h = subst (λ (s : Searched). AreComing sig t tried k e s.compiled.variables c) i h

pub comes_from : (sig : Signature) (t : RawTerm) (tried : List Tried) (k : ℕ) (e : Statement) (l : Left) (s : Searched) (c : Coming) → IsSearch l s → AreComing sig t tried k e s.compiled.variables c → ComesFor sig t tried k e l c
comes_from sig t tried k e (left.Plain ps) s c i h = absurd i
comes_from sig t tried k e (left.Searched b) s c i h = subst (λ (s : Searched). AreComing sig t tried k e s.compiled.variables c) (sym i) h

pub search_to : {B : Type 0} (M : Module) (t : RawTerm) (tried : List Tried) (k : ℕ) (e : Statement) (l : Left) (s : Searched) (value : B → Coming) (o : Option B) → IsStatement M k e → IsSearch l s
    → MatchOption o ⊤ (λ b. (e : Statement) → IsStatement M k e → ComesFor M.signature t tried k e l (value b)) → MatchOption o ⊤ (λ b. AreComing M.signature t tried k e s.compiled.variables (value b))
search_to M t tried k e l s value None is i h = tt
search_to M t tried k e l s value (Some b) is i h = comes_to M.signature t tried k e l s (value b) i (h e is)
