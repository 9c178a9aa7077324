-- The choices at a term: a statement with values of its variables that make its left side the term, or several of its arguments.
use Rattle.std.specs.Prelude.{ℕ, ◌≡◌, ◌<◌, ◌+◌, ◌⊎◌, Bool, true, false, if◌then◌else◌, List, [], ◌∷◌, ◌++◌, length, Option, Some, None, MatchOption, slice_get, IsFalse, ⊤}
use Rattle.std.specs.List.{zip, filter_map}
use Rattle.mw_logic.specs.Term.{Variable, RawTerm, RawTerms, apply}
use Rattle.mw_logic.specs.Terms.{terms_of}
use Rattle.mw_logic.specs.Signature.{Signature, Member}
use Rattle.mw_logic.specs.Substitution.{Substitution, IsSolution, SameSolution}
use Rattle.mw_logic.specs.Module.{Module, Statement, IsStatement}
use Rattle.mw_logic.specs.Parts.{nested}
use Rattle.mw_position.specs.Variables.{met}
use Rattle.mw_canon.specs.Canonical.{meant}
use Rattle.mw_matching.specs.Matches.{evaluated_all}
use Rattle.mw_search.specs.Lacking.{HaveTheirSorts, OneLacksItsSort}
use Rattle.mw_deduction.specs.Tops.{IsTop}
use Rattle.mw_solving.specs.Values.{AreValues}
use Rattle.mw_solving.specs.Inside.{IsProperPart, IsSolutionOf}
use Rattle.mw_match.specs.Solutions.{Coming, FitsSorts, Lacks, AreNamed}
use Rattle.mw_match.specs.declared.solutions.Solution.{Solution}
use Rattle.mw_index.specs.Oriented.{IsOriented, IsPlainLeft, IsSearchedLeft}
use Rattle.mw_index.specs.Index.{operator_of, own_asked, others_asked, IsNextOf, IsOf}
use Rattle.mw_index.specs.declared.oriented.Oriented.{Oriented}
use Rattle.mw_index.specs.declared.oriented.Searched.{Searched}
use Rattle.mw_index.specs.declared.oriented.Left.{Left}
use Rattle.mw_index.specs.declared.oriented.Left.TheVariants as left
use Rattle.mw_index.specs.declared.index.Index.{Index}
use Rattle.mw_index.specs.declared.subject.Subject.{Subject}
use Rattle.mw_index.specs.declared.subject.Subject.TheVariants as subject
use Rattle.mw_index.specs.declared.choices.Choice.{Choice}
use Rattle.mw_index.specs.declared.choices.Choices.{Choices}

-- the term that is asked about
abbrev pub subject_of : Subject → RawTerm
subject_of (subject.Op f ts) = apply f (terms_of ts.now)
subject_of (subject.Term t) = t.now

-- a statement's number, with values of its left side's variables in their order
pub record Tried : Type 0 where
  pub number : ℕ
  pub values : List RawTerm

abbrev pub tried_of : Choice → Tried
tried_of c = record { number = c.by.now.number; values = c.values.items }

-- the solution of a statement's left side that values of its variables are
abbrev pub solution_of : Signature → Statement → List RawTerm → Substitution
solution_of sig e vs = meant sig (zip (met [] e.left) vs)

-- s is among those that were tried of the statement e, which has number k
abbrev pub IsTried : Signature → List Tried → ℕ → Statement → Substitution → Type 0
IsTried sig tried k e s = (c : Tried) × Member c tried × (c.number ≡ k) × SameSolution sig s (solution_of sig e c.values)

-- so is each solution of it for a top part of t
abbrev pub AreTried : Signature → RawTerm → List Tried → ℕ → Statement → Type 0
AreTried sig t tried k e = (w : RawTerm) → IsTop sig t w → (s : Substitution) → IsSolution sig e.left (nested sig w) [] s → IsTried sig tried k e s

-- and each of each executable equation
abbrev pub AreAllTried : Module → RawTerm → List Tried → Type 0
AreAllTried M t tried = (k : ℕ) (e : Statement) → IsStatement M k e → IsFalse e.rule → AreTried M.signature t tried k e

-- w is the whole of t, or a proper part of it, by the numbers of the arguments that it takes
abbrev pub IsTaken : Signature → Option (List ℕ) → RawTerm → RawTerm → Type 0
IsTaken sig None t w = w ≡ t
IsTaken sig (Some ks) t w = IsProperPart sig ks t w

-- an executable statement with a solution of its left side for a top part of t
pub record IsChoice (M : Module) (t : RawTerm) (c : Choice) : Type 0 where
  pub statement : Statement
  pub is_there : IsStatement M c.by.now.number statement
  pub is : IsOriented M.signature (operator_of t) statement c.by.now
  pub part : RawTerm
  pub taken : IsTaken M.signature c.take t part
  pub values : AreValues M.signature c.values.items
  pub solution : IsSolution M.signature statement.left (nested M.signature part) [] (solution_of M.signature statement c.values.items)

-- Each solution of e for a top part of t is tried or still to come, and what comes with its sorts is a solution.
pub record AreComing (sig : Signature) (t : RawTerm) (tried : List Tried) (k : ℕ) (e : Statement) (xs : List Variable) (c : Coming) : Type 0 where
  pub named : AreNamed sig xs c
  pub sound : (r : Solution) → Member r c.candidates → FitsSorts c r → IsSolutionOf sig true e.left t [] r.take (meant sig r.subst)
  pub lacking : (r : Solution) → Member r c.candidates → Lacks c r → IsSolutionOf sig true e.left t [] r.take (meant sig r.subst) → ⊥
  pub complete : (ks : Option (List ℕ)) (s : Substitution) → IsSolutionOf sig true e.left t [] ks s
      → IsTried sig tried k e s ⊎ ((r : Solution) × Member r c.candidates × FitsSorts c r × SameSolution sig s (meant sig r.subst))

-- the same of a search for the left side of a statement; a plain one has none
abbrev pub ComesFor : Signature → RawTerm → List Tried → ℕ → Statement → Left → Coming → Type 0
ComesFor sig t tried k e (left.Plain ps) c = ⊥
ComesFor sig t tried k e (left.Searched s) c = AreComing sig t tried k e s.value.compiled.variables c

-- the term that is kept, if one is
abbrev pub IsKept : RawTerm → Option RawTerm → Type 0
IsKept t o = MatchOption o ⊤ (λ u. u ≡ t)

-- How far a statement is asked: its only choice was given and is tried, or its solutions are tried or still to come.
pub record IsUnderWay (M : Module) (t : RawTerm) (tried : List Tried) (st : Oriented) (c : Choices) : Type 0 where
  pub given : c.given ≡ true → (e : Statement) → IsStatement M st.number e → AreTried M.signature t tried st.number e
  pub search : MatchOption c.search ⊤ (λ s. (e : Statement) → IsStatement M st.number e → ComesFor M.signature t tried st.number e st.left s.value)

-- Where the choices stand: each solution of an equation that they have passed is tried, and the next one is under way.
pub record Covers (M : Module) (m : Index) (t : RawTerm) (tried : List Tried) (c : Choices) : Type 0 where
  pub subject : IsKept t c.subject
  pub passed : (i : ℕ) (st : Oriented) (e : Statement) → i < c.own → slice_get (own_asked m (operator_of t)) i ≡ Some st → IsStatement M st.number e → AreTried M.signature t tried st.number e
  pub passed_others : (i : ℕ) (st : Oriented) (e : Statement) → i < c.others → slice_get (others_asked m (operator_of t)) i ≡ Some st → IsStatement M st.number e → AreTried M.signature t tried st.number e
  pub under_way : (st : Oriented) (own : Bool) → IsNextOf (slice_get (own_asked m (operator_of t)) c.own) (slice_get (others_asked m (operator_of t)) c.others) st own → IsUnderWay M t tried st c

-- the same one is under way
pub record Stays (old new : Choices) : Type 0 where
  pub own : new.own ≡ old.own
  pub others : new.others ≡ old.others

-- an equation more was passed, of the first list or of the second, and the next one hasn't begun
pub record Passes (first : Bool) (old new : Choices) : Type 0 where
  pub own : new.own ≡ old.own + (if first then 1 else 0)
  pub others : new.others ≡ old.others + (if first then 0 else 1)
  pub given : new.given ≡ false
  pub search : new.search ≡ None
  pub subject : new.subject ≡ old.subject

-- What is answered for a statement: a choice, which is tried from then on; or all are tried.
pub record IsAnswer (M : Module) (t : RawTerm) (tried : List Tried) (st : Oriented) (o : Option Choice) (c : Choices) : Type 0 where
  pub subject : IsKept t c.subject
  pub answer : MatchOption o ((e : Statement) → IsStatement M st.number e → AreTried M.signature t tried st.number e)
      (λ q. IsChoice M t q × (q.by.now ≡ st) × IsUnderWay M t (tried ++ tried_of q ∷ []) st c)

-- st is a statement with a plain left side, or with one that is searched for
pub record IsPlainOne (M : Module) (top : Option ℕ) (st : Oriented) (ps : RawTerms) : Type 0 where
  pub of : IsOf M top st
  pub operator : ℕ
  pub is_top : top ≡ Some operator
  pub left : IsPlainLeft M.signature operator of.statement ps

abbrev pub IsSearch : Left → Searched → Type 0
IsSearch (left.Plain ps) s = ⊥
IsSearch (left.Searched b) s = b.value ≡ s

pub record IsSearchedOne (M : Module) (top : Option ℕ) (st : Oriented) (s : Searched) : Type 0 where
  pub of : IsOf M top st
  pub here : IsSearch st.left s
  pub left : IsSearchedLeft M.signature of.statement s

-- a choice is of this statement, with as many values as its left side has variables
abbrev pub IsSized : Oriented → Option Choice → Type 0
IsSized st o = MatchOption o ⊤ (λ q. (q.by.now ≡ st) × (length q.values.items ≡ length st.sorts))

-- Values make patterns the terms ts and have these sorts, and no others make them so; or each that do lack a sort.
abbrev pub AreFitting : Signature → List ℕ → RawTerms → RawTerms → List RawTerm → Bool → Type 0
AreFitting sig sorts ps ts found true =
    (length found ≡ length sorts) × (evaluated_all sig found ps ≡ ts) × HaveTheirSorts sig sorts 0 found × ((us : List RawTerm) → length us ≡ length sorts → evaluated_all sig us ps ≡ ts → us ≡ found)
AreFitting sig sorts ps ts found false = (us : List RawTerm) → length us ≡ length sorts → evaluated_all sig us ps ≡ ts → OneLacksItsSort sig sorts 0 us

-- the values at these places, as far as there are such
abbrev pub in_order : List RawTerm → List ℕ → List RawTerm
in_order us ns = filter_map (λ n. slice_get us n) ns
