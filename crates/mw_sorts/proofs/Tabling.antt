-- Diagrams of all operators of a signature, one after another.
use Rattle.std.proofs.Common.{◌≡◌, ◌∙◌, ℕ, zero, suc, ◌<◌, ◌≤◌, ◌+◌, List, [], ◌∷◌, ◌++◌, length, map, get_or, ap, sym, subst, inl, inr, arith, length-append}
use Rattle.std.specs.Prelude.{slice_get, Option, Some, option_map}
use Rattle.mw_logic.specs.Signature.{Signature, Sorted, Operator, IsOperator, at_number}
use Rattle.mw_logic.specs.Accepted.{IsAccepted}
use Rattle.mw_logic.specs.Preregular.{AreOfKinds, HasItsSorts, HasLeastResult, IsPreregular}
use Rattle.mw_term.specs.Signatures.{sorted_of}
use Rattle.mw_term.specs.declared.signature.Sorted.{Sorted as Held}
use Rattle.mw_sorts.specs.declared.diagram.Diagram.{Diagram}
use Rattle.mw_sorts.specs.Results.{IsEndOn}
use Rattle.mw_sorts.specs.Diagrams.{Level, LeadsTo, EndsIn, IsDiagram, HaveDiagrams}
use Rattle.mw_sorts.specs.Sorting.{Sorting}
use Rattle.mw_sorts.specs.States.{IsOperatorOf}
use Rattle.mw_sorts.specs.Marks.{EndsAt, IsDrawn}
use Rattle.mw_sorting.specs.ComputedSorts.{IsResultOn}
use Rattle.mw_sorting.specs.PreregularModulo.{IsPreregularModulo}
use Rattle.mw_sorts.specs.Faults.{IsFirstLack, IsFirstFault}
use Rattle.mw_sorts.proofs.Getting.{read-get, get-none, get-left, get-last, get-within, map-get, some_same}
use Rattle.mw_sorts.proofs.Leading.{leads-map, leads-read}
use Rattle.mw_sorts.proofs.Taking.{result-least}
use Rattle.mw_sorts.proofs.Growing.{less_or_at}

pub operator-of : (sig : Signature) (f : ℕ) (o : Operator) → HasItsSorts sig → IsAccepted sig → IsOperator sig f o → IsOperatorOf sig o
operator-of sig f o h ok is = record { args = h.args f o is; result = h.results f o is; declarations = h.declarations f o is; comm = ok.comm f o is }

-- the operator that a loop has come to
pub operator-read : (sig : Signature) (read : List Operator) (n : ℕ) (o : Operator) → read ≡ sig.operators → n < length read → o ≡ get_or read n o → slice_get sig.operators n ≡ Some o
operator-read sig read n o e l h = read-get sig.operators read n o e (subst (λ (os : List Operator). n < length os) e l) h

-- a diagram with all its results
pub diagram-is : (sorting : Sorting) (o : Operator) (levels : List Level) (entries : List (List Sorted)) (ends : List (Option Held)) (results : List Held) → IsDrawn sorting o levels entries (map (option_map sorted_of) ends) → ends ≡ map Some results
    → LeadsTo sorting.signature sorting.places levels 0 o.args (EndsIn sorting.signature o results)
diagram-is sorting o levels entries ends results h e = leads-map sorting.signature sorting.places levels 0 o.args (EndsAt sorting.signature o (map (option_map sorted_of) ends)) (EndsIn sorting.signature o results) there h.leads
  where
    there : (Ss : List Sorted) (q : ℕ) → EndsAt sorting.signature o (map (option_map sorted_of) ends) Ss q → EndsIn sorting.signature o results Ss q
    there Ss q x =
        let y = map-get (option_map sorted_of) ends q x.0 x.1 in
        let z = map-get Some results q y.0 (subst (λ (es : List (Option Held)). slice_get es q ≡ Some y.0) e y.1) in
        let same : x.0 ≡ Some (sorted_of z.0) = sym y.2 ∙ ap (option_map sorted_of) (sym z.2) in
        (z.0, z.1, subst (λ (end : Option Sorted). IsEndOn sorting.signature o Ss end) same x.2)

-- where an operator has a diagram, it has its least results
pub diagram-least : (sig : Signature) (places : List ℕ) (o : Operator) (d : Diagram) → IsDiagram sig places o d → (Ss : List Sorted) → AreOfKinds sig Ss o.args → HasLeastResult sig o Ss
diagram-least sig places o d h Ss k = let r = leads-read sig places d.levels 0 o.args (EndsIn sig o d.ends) h.leads Ss k in result-least sig o Ss (sorted_of (r.1).0) (r.1).2

-- the diagrams of the first n operators
pub record AreDrawn (sig : Signature) (places : List ℕ) (n : ℕ) (diagrams : List Diagram) : Type 0 where
  pub size : length diagrams ≡ n
  pub each : (f : ℕ) (o : Operator) → f ≤ n → IsOperator sig f o → (d : Diagram) × (at_number diagrams f ≡ Some d) × IsDiagram sig places o d

pub drawn-none : (sig : Signature) (places : List ℕ) (diagrams : List Diagram) → diagrams ≡ [] → AreDrawn sig places 0 diagrams
drawn-none sig places diagrams e = record { size = ap (λ (ds : List Diagram). length ds) e; each = none }
  where
    none : (f : ℕ) (o : Operator) → f ≤ 0 → IsOperator sig f o → (d : Diagram) × (at_number diagrams f ≡ Some d) × IsDiagram sig places o d
    none zero o l is = absurd (get-none is)
    none (suc f) o l is = absurd (omega arith)

pub drawn-more : (sig : Signature) (places : List ℕ) (n : ℕ) (diagrams new : List Diagram) (o : Operator) (d : Diagram) → AreDrawn sig places n diagrams → slice_get sig.operators n ≡ Some o → IsDiagram sig places o d → new ≡ diagrams ++ d ∷ []
    → AreDrawn sig places (n + 1) new
drawn-more sig places n diagrams new o d h is i e = subst (λ (ds : List Diagram). AreDrawn sig places (n + 1) ds) (sym e) (record {
  size = let u = length-append diagrams (d ∷ []) in let m = h.size in omega arith;
  each = each;
})
  where
    each : (f : ℕ) (p : Operator) → f ≤ n + 1 → IsOperator sig f p → (b : Diagram) × (at_number (diagrams ++ d ∷ []) f ≡ Some b) × IsDiagram sig places p b
    each zero p l x = absurd (get-none x)
    each (suc f) p l x = elim (less_or_at f n (omega arith)) [
      | inl low ↦ let y = h.each (suc f) p (omega arith) x in (y.0, get-left diagrams (d ∷ []) f y.0 y.1, y.2)
      | inr at ↦
          let same : o ≡ p = some_same (sym is ∙ subst (λ (k : ℕ). slice_get sig.operators k ≡ Some p) at x) in
          let place : length diagrams ≡ f = h.size ∙ sym at in
          (d, subst (λ (k : ℕ). slice_get (diagrams ++ d ∷ []) k ≡ Some d) place (get-last diagrams d), subst (λ (q : Operator). IsDiagram sig places q d) same i)
    ]

-- all of them
pub drawn-all : (sig : Signature) (places : List ℕ) (n : ℕ) (diagrams : List Diagram) → length sig.operators ≤ n → AreDrawn sig places n diagrams → HaveDiagrams sig places diagrams
drawn-all sig places n diagrams l h zero o is = absurd (get-none is)
drawn-all sig places n diagrams l h (suc f) o is = h.each (suc f) o (let u = get-within sig.operators f o is in omega arith) is

-- operator n from 0 is the first that lacks a least result
pub fault-first : (sig : Signature) (places : List ℕ) (n number : ℕ) (diagrams : List Diagram) (o : Operator) (Ss : List Sorted) → AreDrawn sig places n diagrams → slice_get sig.operators n ≡ Some o → number ≡ n + 1 → IsFirstLack sig o Ss → IsFirstFault sig number Ss
fault-first sig places n number diagrams o Ss h is e l = record {
  operator = o;
  is_there = let one : number ≡ suc n = omega arith in subst (λ (f : ℕ). IsOperator sig f o) (sym one) is;
  lack = l;
  before = λ g p x b Ts k. let d = h.each g p (omega arith) x in diagram-least sig places p d.0 d.2 Ts k;
}

-- where each operator has its diagram, the signature is preregular
pub diagrams-preregular : (sig : Signature) (places : List ℕ) (diagrams : List Diagram) → HaveDiagrams sig places diagrams → IsPreregular sig
diagrams-preregular sig places diagrams h f o is Ss k = let d = h f o is in diagram-least sig places o d.0 d.2 Ss k

-- a signature that is preregular modulo its axioms is preregular
pub modulo-preregular : (sig : Signature) → IsPreregularModulo sig → IsPreregular sig
modulo-preregular sig ok f o is Ss k = let (R, r) = ok.results f o is Ss k in result-least sig o Ss R r

-- where each operator has its diagram, it has its results
pub diagrams-results : (sig : Signature) (places : List ℕ) (diagrams : List Diagram) → HaveDiagrams sig places diagrams → (f : ℕ) (o : Operator) → IsOperator sig f o → (Ss : List Sorted) → AreOfKinds sig Ss o.args → (R : Sorted) × IsResultOn sig o Ss R
diagrams-results sig places diagrams have f o is Ss k =
    let (d, e, h) = have f o is in
    let (r, (R, g, is_result)) = leads-read sig places d.levels 0 o.args (EndsIn sig o d.ends) h.leads Ss k in
    (sorted_of R, is_result)
