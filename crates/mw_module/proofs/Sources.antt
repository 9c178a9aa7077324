-- What holds of all tokens of a source, and of each form of its tokens, holds of the units that are read.
use Rattle.std.proofs.Common.{ℕ, ◌+◌, ◌==◌, if◌then◌else◌, Bool, true, false, List, [], ◌∷◌, length, take, drop, Option, Some, None, IfSome, Ok, Err, IfOk, All, codes, subst}
use Rattle.std.specs.Bool.{⊤}
use Rattle.std.proofs.lemmas.List.Elements.{All-nil, All-cons, All-head, All-tail, All-take, All-drop}
use Rattle.mw_lex.specs.declared.token.Token.{Token}
use Rattle.mw_text.proofs.Proper.{names_are_proper}
use Rattle.mw_module.specs.declared.faults.FaultKind.{FaultKind}
use Rattle.mw_module.specs.declared.kinds.Kind.{Kind}
use Rattle.mw_module.specs.declared.kinds.Kind.TheVariants as kind
use Rattle.mw_module.specs.Forms.{Shape, Formed, form_of}
use Rattle.mw_module.specs.Kinds.{kind_of, end_word, unended}
use Rattle.mw_module.specs.Words.{is, count_before}
use Rattle.mw_module.specs.Units.{SeenLined, SeenUnit, Statement, with_token, cut, Body, with_statement, statements_before, left_of, body_of, head_fault, Outcome, module_with, module_named, module_behind, unit_with, Reading, reading_of, front_unit, Reads}
use Rattle.mw_module.specs.Known.{IsKnown, UnitsAreKnown}
use Rattle.mw_module.specs.Tokens.{HasProperParts, UnitsAreOfTokens}
use Rattle.mw_module.proofs.Bodies.{cut_before}
use Rattle.mw_module.proofs.Formed.{form_known}
use Rattle.mw_module.proofs.ProperForms.{IsToken, form_proper}

module _ (Q : Token → Type 0) (P : Shape → Type 0) (formed : (K : Kind) (ts : List Token) → All Q ts → IfOk (form_of K ts) P) where
  abbrev IsSo : SeenLined → Type 0
  IsSo s = P s.shape

  -- a body's statements, where there is nothing wrong with it
  abbrev AreSo : Body → Type 0
  AreSo b = IfOk b (All IsSo)

  abbrev Are : SeenUnit → Type 0
  Are u = All IsSo u.statements × All Q u.tokens

  abbrev AreIn : Outcome → Type 0
  AreIn o = IfOk o Are

  abbrev Has : Statement → Type 0
  Has s = All Q s.tokens

  -- one token more stands before the first statement
  first_longer : (t : Token) (ss : List Statement) (left : List Token) → Q t → All Has ss → All Has (with_token t ss left).statements
  first_longer t [] left one all = All-nil Has
  first_longer t (s ∷ ss) left one all =
      All-cons Has (record { line = t.line; tokens = t ∷ s.tokens }) ss (All-cons Q t s.tokens one (All-head Has s ss all)) (All-tail Has s ss all)

  -- a body is cut into statements
  statements_cut : (ts : List Token) → All Q ts → All Has (cut ts).statements
  statements_cut [] all = All-nil Has
  statements_cut (t ∷ rest) all = of (is (codes ".") t) (statements_cut rest (All-tail Q t rest all))
    where
      of : (b : Bool) → All Has (cut rest).statements → All Has (if b then cut_before t.line [] rest else with_token t (cut rest).statements (cut rest).left).statements
      of true more = All-cons Has (record { line = t.line; tokens = [] }) (cut rest).statements (All-nil Q) more
      of false more = first_longer t (cut rest).statements (cut rest).left (All-head Q t rest all) more

  -- one statement before the others
  one_before : (line : ℕ) (f : Formed) (others : Body) → IfOk f P → AreSo others → AreSo (with_statement line f others)
  one_before line (Ok shape) (Ok others) one all = All-cons IsSo (record { line = line; shape = shape }) others one all
  one_before line (Ok shape) (Err fault) one all = tt
  one_before line (Err kind) others one all = tt

  all_before : (K : Kind) (ss : List Statement) (others : Body) → All Has ss → AreSo others → AreSo (statements_before K ss others)
  all_before K [] others these all = all
  all_before K (s ∷ ss) others these all =
      one_before s.line (form_of K s.tokens) (statements_before K ss others) (formed K s.tokens (All-head Has s ss these)) (all_before K ss others (All-tail Has s ss these) all)

  -- what is left makes no statement
  none_left : (K : Kind) (left : List Token) → AreSo (left_of K left)
  none_left K [] = All-nil IsSo
  none_left K (t ∷ rest) = tt

  body_so : (K : Kind) (ts : List Token) → All Q ts → AreSo (body_of K ts)
  body_so K ts all = all_before K (cut ts).statements (left_of K (cut ts).left) (statements_cut ts all) (none_left K (cut ts).left)

  with_so : (ts : List Token) (first name : Token) (b : Body) → All Q ts → AreSo b → AreIn (module_with ts first name b)
  with_so ts first name (Ok statements) all so = (so, all)
  with_so ts first name (Err fault) all so = tt

  named_so : (K : Kind) (ts : List Token) (first name : Token) (behind : List Token) (o : Option FaultKind) → All Q ts → All Q behind → AreIn (module_named K ts first name behind o)
  named_so K ts first name behind None whole all = with_so ts first name (body_of K (drop 1 behind)) whole (body_so K (drop 1 behind) (All-drop Q 1 behind all))
  named_so K ts first name behind (Some kind) whole all = tt

  module_so : (K : Kind) (ts : List Token) (first : Token) (behind : List Token) → All Q ts → All Q behind → AreIn (module_behind K ts first behind)
  module_so K ts first [] whole all = tt
  module_so K ts first (name ∷ behind) whole all = named_so K ts first name behind (head_fault name behind) whole (All-tail Q name behind all)

  unit_so : (k : Kind) (first : Token) (ts : List Token) → All Q ts → AreIn (unit_with k first ts)
  unit_so kind.Functional first ts all = module_so kind.Functional ts first (drop 1 ts) all (All-drop Q 1 ts all)
  unit_so kind.System first ts all = module_so kind.System ts first (drop 1 ts) all (All-drop Q 1 ts all)
  unit_so kind.Object first ts all = module_so kind.Object ts first (drop 1 ts) all (All-drop Q 1 ts all)
  unit_so kind.Proof first ts all = (All-nil IsSo, all)
  unit_so kind.Command first ts all = (All-nil IsSo, all)
  unit_so _ first ts all = tt

  abbrev IsReadSo : Reading → Type 0
  IsReadSo r = AreIn r.outcome

  reading_so : (k : Kind) (first : Token) (ts : List Token) → All Q ts → IsReadSo (reading_of k first ts)
  reading_so k first ts all = of (n == length ts)
    where
      n : ℕ
      n = count_before (end_word k) ts

      of : (b : Bool) → IsReadSo (if b then record { outcome = Err (record { line = first.line; kind = unended k }); len = n } else record { outcome = unit_with k first (take n ts); len = n + 1 })
      of true = tt
      of false = unit_so k first (take n ts) (All-take Q n ts all)

  front_so : (proofs : Bool) (ts : List Token) → All Q ts → IfSome (front_unit proofs ts) IsReadSo
  front_so proofs [] all = tt
  front_so proofs (t ∷ rest) all = reading_so (kind_of proofs t.text) t (t ∷ rest) all

  pub units_so : (proofs : Bool) (tokens : List Token) (at next : ℕ) (u : SeenUnit) → All Q tokens → Reads proofs tokens at (Ok u) next → Are u
  units_so proofs tokens at next u all reads =
      subst (λ (o : Option Reading). IfSome o IsReadSo) reads.reading (front_so proofs (drop at tokens) (All-drop Q at tokens all))

-- a unit of a source that is made of tokens
pub units_are_of_tokens : UnitsAreOfTokens
units_are_of_tokens proofs tokens at next u all reads =
    let h = units_so IsToken HasProperParts (form_proper names_are_proper) proofs tokens at next u all reads in
    record { statements = h.0; tokens = h.1 }

abbrev IsAny : Token → Type 0
IsAny t = ⊤

any : (ts : List Token) → All IsAny ts
any [] = All-nil IsAny
any (t ∷ ts) = All-cons IsAny t ts tt (any ts)

pub units_are_known : UnitsAreKnown
units_are_known proofs tokens at next u reads = (units_so IsAny IsKnown (λ K ts all. form_known K ts) proofs tokens at next u (any tokens) reads).0
