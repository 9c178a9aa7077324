-- A body, statement by statement.
use Rattle.std.proofs.Common.{◌≡◌, ◌∙◌, ◌<◌, ◌≤◌, ◌+◌, inl, inr, ℕ, Bool, true, false, cond, suc, List, [], ◌∷◌, ◌++◌, length, take, drop, get_or, Ok, Err, refl, sym, ap, arith, append_assoc, codes}
use Rattle.std.proofs.lemmas.List.{map-append}
use Rattle.std.proofs.Math.Seq.{take-length}
use Rattle.std.proofs.Math.Nat.{eq-or-lt_of_le}
use Rattle.mw_lex.specs.declared.token.Token.{Token}
use Rattle.mw_module.specs.declared.faults.Fault.{Fault}
use Rattle.mw_module.specs.declared.faults.FaultKind.{FaultKind}
use Rattle.mw_module.specs.declared.faults.FaultKind.TheVariants.{BadStatement}
use Rattle.mw_module.specs.declared.forms.Form.{Form}
use Rattle.mw_module.specs.declared.kinds.Kind.{Kind}
use Rattle.mw_module.specs.declared.units.Lined.{Lined}
use Rattle.mw_module.specs.Forms.{Shape, shape_of, form_of}
use Rattle.mw_module.specs.Words.{is, count_before}
use Rattle.mw_module.specs.Units.{SeenLined, seen_statements, Cut, with_token, cut, Body, with_statements, statements_before, kind_unended, left_of, body_of}

-- the line of the first token
abbrev pub first_line : List Token → ℕ
first_line [] = 0
first_line (t ∷ rest) = t.line

-- a body whose first statement has this line and these tokens, before these others
abbrev pub cut_before : ℕ → List Token → List Token → Cut
cut_before line ts others = record { statements = record { line = line; tokens = ts } ∷ (cut others).statements; left = (cut others).left }

cut_case : (b : Bool) (t : Token) (rest : List Token) (n : ℕ) → (n < length rest → cut rest ≡ cut_before (first_line rest) (take n rest) (drop (n + 1) rest)) → cond b 0 (1 + n) < length (t ∷ rest)
    → cond b (cut_before t.line [] rest) (with_token t (cut rest).statements (cut rest).left) ≡ cut_before t.line (take (cond b 0 (1 + n)) (t ∷ rest)) (drop (cond b 0 (1 + n) + 1) (t ∷ rest))
cut_case true t rest n next h = refl
cut_case false t rest n next h =
    let more : 1 + n ≡ suc n = omega arith in
    let past : 1 + n + 1 ≡ suc (n + 1) = omega arith in
    let met : cut rest ≡ cut_before (first_line rest) (take n rest) (drop (n + 1) rest) = next (omega arith) in
    rw (past, more, met) refl

pub cut_at : (ts : List Token) → count_before (codes ".") ts < length ts
    → cut ts ≡ cut_before (first_line ts) (take (count_before (codes ".") ts) ts) (drop (count_before (codes ".") ts + 1) ts)
cut_at [] h = absurd (omega arith)
cut_at (t ∷ rest) h = cut_case (is (codes ".") t) t rest (count_before (codes ".") rest) (cut_at rest) h

whole_case : (b : Bool) (t : Token) (rest : List Token) (n : ℕ) → (n ≡ length rest → cut rest ≡ record { statements = []; left = rest }) → cond b 0 (1 + n) ≡ length (t ∷ rest)
    → cond b (cut_before t.line [] rest) (with_token t (cut rest).statements (cut rest).left) ≡ record { statements = []; left = t ∷ rest }
whole_case true t rest n next h = absurd (omega arith)
whole_case false t rest n next h = let met : cut rest ≡ record { statements = []; left = rest } = next (omega arith) in rw met refl

pub cut_whole : (ts : List Token) → count_before (codes ".") ts ≡ length ts → cut ts ≡ record { statements = []; left = ts }
cut_whole [] h = refl
cut_whole (t ∷ rest) h = whole_case (is (codes ".") t) t rest (count_before (codes ".") rest) (cut_whole rest) h

-- a body by how it is cut
abbrev body_by : Kind → Cut → Body
body_by K c = statements_before K c.statements (left_of K c.left)

-- a statement of a form, and the others
body_step : (K : Kind) (ts : List Token) (n : ℕ) (shape : Shape) → n ≡ count_before (codes ".") ts → n < length ts → form_of K (take n ts) ≡ Ok shape
    → body_of K ts ≡ with_statements (record { line = first_line ts; shape = shape } ∷ []) (body_of K (drop (n + 1) ts))
body_step K ts n shape e h f =
    let met : cut ts ≡ cut_before (first_line ts) (take n ts) (drop (n + 1) ts) = rw e (cut_at ts (omega arith)) in
    ap (body_by K) met ∙ rw f refl

-- a statement that is at fault, and that a full stop ends
body_bad : (K : Kind) (ts : List Token) (n : ℕ) (kind : FaultKind) → n ≡ count_before (codes ".") ts → n < length ts → form_of K (take n ts) ≡ Err kind
    → body_of K ts ≡ Err (record { line = first_line ts; kind = kind })
body_bad K ts n kind e h f =
    let met : cut ts ≡ cut_before (first_line ts) (take n ts) (drop (n + 1) ts) = rw e (cut_at ts (omega arith)) in
    ap (body_by K) met ∙ rw f refl

-- a statement that no full stop ends
body_left : (K : Kind) (ts : List Token) (n : ℕ) → n ≡ count_before (codes ".") ts → n ≡ length ts → 0 < length ts
    → body_of K ts ≡ Err (record { line = first_line ts; kind = kind_unended (form_of K (take n ts)) })
body_left K [] n e whole some = absurd (omega arith)
body_left K (t ∷ rest) n e whole some =
    let all : take n (t ∷ rest) ≡ t ∷ rest = rw whole (take-length (t ∷ rest)) in
    let met : cut (t ∷ rest) ≡ record { statements = []; left = t ∷ rest } = cut_whole (t ∷ rest) (sym e ∙ whole) in
    ap (body_by K) met ∙ rw all refl

first_line_is : (ts : List Token) (t : Token) → 0 < length ts → t ≡ get_or ts 0 t → first_line ts ≡ t.line
first_line_is [] t some head = absurd (omega arith)
first_line_is (u ∷ us) t some head = ap (λ (x : Token). x.line) (sym head)

-- a body whose first statement is at fault
pub body_fault : (K : Kind) (ts : List Token) (t : Token) (n : ℕ) (kind : FaultKind) → 0 < length ts → t ≡ get_or ts 0 t → n ≡ count_before (codes ".") ts → n ≤ length ts
    → form_of K (take n ts) ≡ Err kind → body_of K ts ≡ Err (record { line = t.line; kind = kind })
body_fault K ts t n kind some head e within form =
    let line : first_line ts ≡ t.line = first_line_is ts t some head in
    elim (eq-or-lt_of_le within) [
      | inr short ↦ rw line at (body_bad K ts n kind e short form)
      | inl whole ↦ rw (line, form) at (body_left K ts n e whole some)
    ]

-- a body whose first statement has no end, and nothing else that is wrong
pub body_unended : (K : Kind) (ts : List Token) (t : Token) (n : ℕ) (shape : Shape) → 0 < length ts → t ≡ get_or ts 0 t → n ≡ count_before (codes ".") ts → n ≡ length ts
    → form_of K (take n ts) ≡ Ok shape → body_of K ts ≡ Err (record { line = t.line; kind = BadStatement })
body_unended K ts t n shape some head e whole form =
    let line : first_line ts ≡ t.line = first_line_is ts t some head in
    rw (line, form) at (body_left K ts n e whole some)

-- a fault stays what it is behind statements that came before
pub fault_kept : (statements : List SeenLined) (b w : Body) (f : Fault) → with_statements statements b ≡ w → b ≡ Err f → Err f ≡ w
fault_kept statements b w f kept e = ap (with_statements statements) (sym e) ∙ kept

statements_twice : (xs ys : List SeenLined) (b : Body) → with_statements (xs ++ ys) b ≡ with_statements xs (with_statements ys b)
statements_twice xs ys (Ok others) = ap Ok (append_assoc xs ys others)
statements_twice xs ys (Err fault) = refl

-- one more statement came to those before
pub statements_kept : (K : Kind) (xs : List Lined) (form : Form) (ts behind : List Token) (t : Token) (n : ℕ) (w : Body) → 0 < length ts → t ≡ get_or ts 0 t → n ≡ count_before (codes ".") ts → n < length ts
    → form_of K (take n ts) ≡ Ok (shape_of form) → behind ≡ drop (n + 1) ts
    → with_statements (seen_statements xs) (body_of K ts) ≡ w → with_statements (seen_statements (xs ++ record { line = t.line; form = form } ∷ [])) (body_of K behind) ≡ w
statements_kept K xs form ts behind t n w some head e short formed next kept =
    let line : first_line ts ≡ t.line = first_line_is ts t some head in
    let one : List SeenLined = record { line = t.line; shape = shape_of form } ∷ [] in
    let step : body_of K ts ≡ with_statements one (body_of K (drop (n + 1) ts)) = rw line at (body_step K ts n (shape_of form) e short formed) in
    rw (map-append, next) (statements_twice (seen_statements xs) one (body_of K (drop (n + 1) ts)) ∙ ap (with_statements (seen_statements xs)) (sym step) ∙ kept)
