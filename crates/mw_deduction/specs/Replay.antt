-- What a kept proof means: its moves, carried out on flattened terms. They go into arguments and out of them, and replace what is in hand; the sides of a
-- condition stand between `begin` and `end`, before the statement that they are evidence for. A replay tells for each replacement where it is made, by
-- what, and the whole term before it and after it.
use Rattle.std.specs.Prelude.{◌≡◌, ◌⊎◌, ◌<◌, ◌-◌, ◌+◌, ℕ, suc, List, [], ◌∷◌, ◌++◌, length, map, Bool, false, ◌&&◌, cond, nat_eq, IsTrue, option_map, unwrap_or, ⊤}
use Rattle.std.specs.List.{zip}
use Rattle.mw_logic.specs.Term.{Variable, RawTerm, numeral, quoted, variable, apply, RawTerms, cons, join, plug}
use Rattle.mw_logic.specs.Terms.{list_of, front, skip}
use Rattle.mw_logic.specs.Signature.{Signature, IsRawTerm, at_number}
use Rattle.mw_logic.specs.Substitution.{Substitution, instance}
use Rattle.mw_logic.specs.Parts.{is_assoc, nested, number_of_terms, IsClean, IsAdmitted, IsFrozen}
use Rattle.mw_logic.specs.NormalForm.{normal_form}
use Rattle.mw_logic.specs.Module.{Fragment, equal, matches, has_sort, is_true, Statement, Module, Row}
use Rattle.mw_logic.specs.Proof.{Proof, equality, transitivity, replacement, row}
use Rattle.mw_logic.specs.Proof as proof
use Rattle.mw_logic.specs.Judgements.{Replaces, IsNormalBy, admitted_judgements}
use Rattle.mw_logic.proofs.Canonical.{IsCanonical}
use Rattle.mw_arguments.specs.Places.{chosen, others, Takes}
use Rattle.mw_deduction.specs.Places.{levels_of}
use Rattle.mw_deduction.specs.Chains.{proof_of}
use Rattle.mw_deduction.specs.Reading.{Reading, fresh, entering, leaving, applying, given}
use Rattle.mw_deduction.specs.Standing.{Open, filled, round, IsClear, IsSeen}
use Rattle.mw_deduction.specs.Runs.{Done, by_statement, by_row, Dones, none, one, both, Run, run, Runs, end, another}

-- Into the argument of this number; into several; out; into a side of a condition, which begins at this canonical term, and out of it; a statement, whether
-- it is a rule, its substitution, and the canonical terms that this was made of; a row of the schemata, and what comes of it. Arguments are numbered from 1,
-- as they stand in the flattened term in hand at that moment.
pub data Move : Type 0 where
  into : ℕ → Move
  among : List ℕ → Move
  out : Move
  begins : RawTerm → Move
  ends : Move
  applies : ℕ → Bool → Substitution → List RawTerm → Move
  meets : RawTerm → Move

-- A proof under way: the rank in which it is made, the flattened term that it began at, the operators that it went into, the innermost first, and the
-- term in hand; what was read; what was carried out, and the sides that were shown since the last replacement.
pub record Stand : Type 0 where
  pub rank : ℕ
  pub from : RawTerm
  pub opens : List Open
  pub hand : RawTerm
  pub read : Reading
  pub run : Dones
  pub sides : Runs

abbrev pub begun : ℕ → RawTerm → Stand
begun n t = record { rank = n; from = t; opens = []; hand = t; read = fresh; run = none; sides = end }

abbrev pub opened : ℕ → RawTerms → RawTerms → Open
opened f b a = record { operator = f; before = b; after = a }

-- the whole term, flattened
abbrev pub whole : Signature → List Open → RawTerm → RawTerm
whole sig [] t = t
whole sig (o ∷ os) t = whole sig os (filled sig o t)

-- into a hole in which t stands
abbrev pub going_in : Signature → Open → RawTerm → Stand → Stand
going_in sig o t S = record {
  rank = S.rank;
  from = S.from;
  opens = o ∷ S.opens;
  hand = t;
  read = entering (levels_of (is_assoc sig o.operator) (number_of_terms o.before) (number_of_terms o.after)) S.read;
  run = S.run;
  sides = S.sides;
}

abbrev pub into_argument : Signature → ℕ → RawTerm → Stand → Stand
into_argument sig i (numeral n) S = S
into_argument sig i (quoted q) S = S
into_argument sig i (variable x) S = S
into_argument sig i (apply f ts) S = going_in sig (opened f (front (i - 1) ts) (skip i ts)) (unwrap_or (at_number (list_of ts) i) (apply f ts)) S

abbrev pub into_several : Signature → List ℕ → RawTerm → Stand → Stand
into_several sig [] t S = S
into_several sig (k ∷ ks) (numeral n) S = S
into_several sig (k ∷ ks) (quoted q) S = S
into_several sig (k ∷ ks) (variable x) S = S
into_several sig (k ∷ ks) (apply f ts) S = going_in sig (opened f (front (k - 1) ts) (others k (k ∷ ks) (skip (k - 1) ts))) (apply f (chosen 1 (k ∷ ks) ts)) S

-- out of a hole: what stands there is put in order among the others
abbrev pub going_out : Signature → List Open → Stand → Stand
going_out sig [] S = S
going_out sig (o ∷ os) S = record {
  rank = S.rank;
  from = S.from;
  opens = os;
  hand = filled sig o S.hand;
  read = leaving S.read;
  run = S.run;
  sides = S.sides;
}

-- u comes for the term in hand
abbrev pub replacing : Signature → Proof → (RawTerm → RawTerm → Done) → RawTerm → Stand → Stand
replacing sig p d u S = record {
  rank = S.rank;
  from = S.from;
  opens = S.opens;
  hand = u;
  read = applying p S.read;
  run = both S.run (one (d (nested sig (whole sig S.opens S.hand)) (nested sig (whole sig S.opens u))));
  sides = end;
}

-- what comes for t by a statement: t itself where there is none
abbrev pub becomes : Module → ℕ → Substitution → RawTerm → RawTerm
becomes M k s t = unwrap_or (option_map (λ (e : Statement). normal_form M.signature (instance s e.right)) (at_number M.statements k)) t

abbrev pub put_behind : Runs → Run → Runs
put_behind end r = another r end
put_behind (another q qs) r = another q (put_behind qs r)

-- the side is shown
abbrev pub showing : Signature → Stand → Stand → Stand
showing sig S Q = record {
  rank = Q.rank;
  from = Q.from;
  opens = Q.opens;
  hand = Q.hand;
  read = given (proof_of S.read.done) Q.read;
  run = Q.run;
  sides = put_behind Q.sides (run (nested sig S.from) (nested sig S.hand) S.run);
}

-- One move. The proofs under way stand one on another: a side's on the one whose condition it belongs to.
abbrev pub play : Module → Move → List Stand → List Stand
play M m [] = []
play M (into i) (S ∷ B) = into_argument M.signature i S.hand S ∷ B
play M (among ks) (S ∷ B) = into_several M.signature ks S.hand S ∷ B
play M out (S ∷ B) = going_out M.signature S.opens S ∷ B
play M (begins t) (S ∷ B) = begun (S.rank - 1) t ∷ S ∷ B
play M ends (S ∷ []) = S ∷ []
play M ends (S ∷ Q ∷ B) = showing M.signature S Q ∷ B
play M (applies k r s vs) (S ∷ B) = replacing M.signature (replacement k r s S.read.ready) (by_statement k s S.sides) (becomes M k s S.hand) S ∷ B
play M (meets t) (S ∷ B) = replacing M.signature row by_row t S ∷ B

abbrev pub plays : Module → List Move → List Stand → List Stand
plays M [] B = B
plays M (m ∷ ms) B = plays M ms (play M m B)

-- What a replacement of w, a raw form of the term in hand, by v needs where it stands: the term is seen, a rule's place is open, and the whole that comes
-- is admitted.
pub record MayReplace (M : Module) (by_rule : Bool) (os : List Open) (t w v : RawTerm) : Type 0 where
  pub seen : IsSeen M.signature os t
  pub free : IsTrue by_rule → ¬ IsFrozen M.signature (round M.signature os)
  pub raw_part : IsRawTerm M.signature w
  pub is_part : normal_form M.signature w ≡ t
  pub raw : IsRawTerm M.signature (plug (round M.signature os) v)
  pub admitted : IsAdmitted M.signature (plug (round M.signature os) v)

-- into an argument, beside others that are as they must be
pub record MayGoIn (sig : Signature) (i : ℕ) (t : RawTerm) : Type 0 where
  pub operator : ℕ
  pub before : RawTerms
  pub argument : RawTerm
  pub after : RawTerms
  pub is : t ≡ apply operator (join before (cons argument after))
  pub number : i ≡ suc (number_of_terms before)
  pub clear : IsClear sig (opened operator before after)

-- into several arguments, and not all of them
pub record MayGoAmong (sig : Signature) (ks : List ℕ) (t : RawTerm) : Type 0 where
  pub part : RawTerm
  pub takes : Takes sig ks t part
  pub proper : length ks < number_of_terms takes.args

-- the sides of fragments, in order
abbrev pub sides_of : Fragment → List RawTerm
sides_of (equal u v) = u ∷ v ∷ []
sides_of (matches p u) = u ∷ []
sides_of (has_sort u S) = u ∷ []
sides_of (is_true b) = b ∷ []

abbrev pub all_sides : List Fragment → List RawTerm
all_sides [] = []
all_sides (f ∷ fs) = sides_of f ++ all_sides fs

-- what these sides begin at: their instances in canonical form
abbrev pub begun_sides : Signature → Substitution → List RawTerm → List RawTerm
begun_sides sig s ts = map (λ t. nested sig (normal_form sig (instance s t))) ts

abbrev pub beginnings : Runs → List RawTerm
beginnings end = []
beginnings (another (run t u ds) rs) = t ∷ beginnings rs

-- each is canonical
abbrev pub AreAllCanonical : Signature → List RawTerm → Type 0
AreAllCanonical sig [] = ⊤
AreAllCanonical sig (v ∷ vs) = (IsCanonical sig v × IsRawTerm sig (nested sig v)) × AreAllCanonical sig vs

-- the values of these variables, in their order, are these canonical terms
pub record AreValuesOf (sig : Signature) (xs : List Variable) (vs : List RawTerm) (s : Substitution) : Type 0 where
  pub size : length vs ≡ length xs
  pub canonical : AreAllCanonical sig vs
  pub are : s ≡ zip xs (map (nested sig) vs)

-- a statement applies, by the evidence that waits, which begins at the sides of its condition
pub record MayApply (M : Module) (k : ℕ) (r : Bool) (s : Substitution) (vs : List RawTerm) (S : Stand) : Type 0 where
  pub statement : Statement
  pub is_there : at_number M.statements k ≡ Rattle.std.specs.Prelude.Some statement
  pub rule : statement.rule ≡ r
  pub replaces : Replaces M (admitted_judgements M S.rank).Held (admitted_judgements M S.rank).Fails k r s S.read.ready (instance s statement.left) (instance s statement.right)
  pub values : AreValuesOf M.signature statement.variables vs s
  pub starts : beginnings S.sides ≡ begun_sides M.signature s (all_sides statement.fragments)
  pub may : MayReplace M r S.opens S.hand (instance s statement.left) (instance s statement.right)

-- a row is met, and no evidence waits: a row takes none
pub record MayMeet (M : Module) (t : RawTerm) (S : Stand) : Type 0 where
  pub form : RawTerm
  pub result : RawTerm
  pub meets : Row M.signature (IsNormalBy M (admitted_judgements M S.rank).Fails) form result
  pub clean : IsClean M.signature form
  pub is : normal_form M.signature result ≡ t
  pub may : MayReplace M false S.opens S.hand form result
  pub nothing_waits : S.read.ready ≡ proof.nil

-- a side may begin at this term, in the rank below
pub record MayBegin (M : Module) (t : RawTerm) (S : Stand) : Type 0 where
  pub rank : ℕ
  pub above : S.rank ≡ suc rank
  pub canonical : IsCanonical M.signature t
  pub raw : IsRawTerm M.signature (nested M.signature t)
  pub admitted : IsAdmitted M.signature (nested M.signature t)

-- A side ends outside its operators, and no evidence waits in it.
pub record MayEnd (S : Stand) : Type 0 where
  pub outside : S.opens ≡ []
  pub nothing_waits : S.read.ready ≡ proof.nil

-- the move may be made
abbrev pub IsMove : Module → Move → List Stand → Type 0
IsMove M m [] = ⊥
IsMove M (into i) (S ∷ B) = MayGoIn M.signature i S.hand
IsMove M (among ks) (S ∷ B) = MayGoAmong M.signature ks S.hand
IsMove M out (S ∷ B) = (o : Open) × (os : List Open) × (S.opens ≡ o ∷ os)
IsMove M (begins t) (S ∷ B) = MayBegin M t S
IsMove M ends (S ∷ []) = ⊥
IsMove M ends (S ∷ Q ∷ B) = MayEnd S
IsMove M (applies k r s vs) (S ∷ B) = MayApply M k r s vs S
IsMove M (meets t) (S ∷ B) = MayMeet M t S

-- each in turn
abbrev pub AreMoves : Module → List Move → List Stand → Type 0
AreMoves M [] B = ⊤
AreMoves M (m ∷ ms) B = IsMove M m B × AreMoves M ms (play M m B)

-- out of a hole; where nothing was done there, it was never gone into
abbrev pub Leaves : List Move → List Move → Type 0
Leaves old new = (new ≡ old ++ out ∷ []) ⊎ (((i : ℕ) × (old ≡ new ++ into i ∷ [])) ⊎ ((ks : List ℕ) × (old ≡ new ++ among ks ∷ [])))

-- the proof that a stand is at its end
abbrev pub concluded : Stand → Proof
concluded S = transitivity (proof_of S.read.done) equality

-- how many replacements the moves make, those in sides too
abbrev pub replacements : List Move → ℕ
replacements [] = 0
replacements (into i ∷ ms) = replacements ms
replacements (among ks ∷ ms) = replacements ms
replacements (out ∷ ms) = replacements ms
replacements (begins t ∷ ms) = replacements ms
replacements (ends ∷ ms) = replacements ms
replacements (applies k r s vs ∷ ms) = suc (replacements ms)
replacements (meets t ∷ ms) = suc (replacements ms)

-- how many they make outside sides, and by rules, so many sides further in
abbrev pub outer_steps : ℕ → List Move → ℕ
outer_steps d [] = 0
outer_steps d (into i ∷ ms) = outer_steps d ms
outer_steps d (among ks ∷ ms) = outer_steps d ms
outer_steps d (out ∷ ms) = outer_steps d ms
outer_steps d (begins t ∷ ms) = outer_steps (suc d) ms
outer_steps d (ends ∷ ms) = outer_steps (d - 1) ms
outer_steps d (applies k r s vs ∷ ms) = cond (nat_eq d 0) 1 0 + outer_steps d ms
outer_steps d (meets t ∷ ms) = cond (nat_eq d 0) 1 0 + outer_steps d ms

abbrev pub outer_rules : ℕ → List Move → ℕ
outer_rules d [] = 0
outer_rules d (into i ∷ ms) = outer_rules d ms
outer_rules d (among ks ∷ ms) = outer_rules d ms
outer_rules d (out ∷ ms) = outer_rules d ms
outer_rules d (begins t ∷ ms) = outer_rules (suc d) ms
outer_rules d (ends ∷ ms) = outer_rules (d - 1) ms
outer_rules d (applies k r s vs ∷ ms) = cond (r && nat_eq d 0) 1 0 + outer_rules d ms
outer_rules d (meets t ∷ ms) = outer_rules d ms
