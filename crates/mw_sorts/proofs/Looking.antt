-- Look-ups in an operator's diagram, one argument after another.
use Rattle.std.proofs.Common.{◌≡◌, ◌∙◌, ℕ, zero, suc, ◌<◌, ◌≤◌, List, [], ◌∷◌, ◌++◌, length, drop, get_or, refl, ap, sym, subst, arith, append_assoc, append-nil}
use Rattle.std.specs.Prelude.{slice_get, Some, None}
use Rattle.mw_logic.specs.Signature.{Signature, Sorted, Operator, IsOperator, SameKind, at_number}
use Rattle.mw_logic.specs.Accepted.{number_of_sort}
use Rattle.mw_term.specs.declared.signature.Sorted.{Sorted as SortedHeld}
use Rattle.mw_sorts.specs.Entries.{place_in}
use Rattle.mw_sorts.specs.Diagrams.{Row, Level, LeadsTo, EndsIn, IsDiagram, AreTablesOf}
use Rattle.mw_sorts.specs.declared.diagram.Diagram.{Diagram}
use Rattle.mw_sorts.specs.declared.tables.Tables.{Tables}
use Rattle.mw_sorts.proofs.Getting.{drop-get, some_same}
use Rattle.mw_sorts.proofs.Leading.{leads-map}

drop-suc : {X : Type 0} (xs : List X) (i : ℕ) (y : X) (ys : List X) → drop i xs ≡ y ∷ ys → drop (suc i) xs ≡ ys
drop-suc [] zero y ys e = cc
drop-suc [] (suc i) y ys e = cc
drop-suc (x ∷ xs) zero y ys e = cc
drop-suc (x ∷ xs) (suc i) y ys e = drop-suc xs i y ys e

drop-head : {X : Type 0} (xs : List X) (i : ℕ) (y : X) (ys : List X) → drop i xs ≡ y ∷ ys → slice_get xs i ≡ Some y
drop-head [] zero y ys e = cc
drop-head [] (suc i) y ys e = cc
drop-head (x ∷ xs) zero y ys e = cc
drop-head (x ∷ xs) (suc i) y ys e = drop-head xs i y ys e

pub all_dropped : {X : Type 0} (xs : List X) (i : ℕ) → length xs ≤ i → drop i xs ≡ []
all_dropped [] zero l = refl
all_dropped [] (suc i) l = refl
all_dropped (x ∷ xs) zero l = absurd (omega (arith, l))
all_dropped (x ∷ xs) (suc i) l = all_dropped xs i (omega (arith, l))

module _ (sig : Signature) (places : List ℕ) (levels : List Level) (ends : List SortedHeld) (o : Operator) where
  -- the first arguments have these sorts, which lead to row q of level i
  abbrev pub IsLed : List Sorted → ℕ → ℕ → Type 0
  IsLed sorted i q = LeadsTo sig places (drop i levels) q (drop i o.args) (λ Ss r. EndsIn sig o ends (sorted ++ Ss) r)

  -- what one argument more leads to
  pub record IsNext (sorted : List Sorted) (i q : ℕ) (S : Sorted) (next : ℕ) : Type 0 where
    pub level : Level
    pub is_there : slice_get levels i ≡ Some level
    pub row : Row
    pub of_row : slice_get level q ≡ Some row
    pub of_next : slice_get row (place_in places (length row) S) ≡ Some next
    pub led : IsLed (sorted ++ S ∷ []) (suc i) next

  pub led-more : (sorted : List Sorted) (i q K : ℕ) (S : Sorted) → slice_get o.args i ≡ Some K → SameKind sig (number_of_sort S) K → IsLed sorted i q → (next : ℕ) × IsNext sorted i q S next
  led-more sorted i q K S e k h = of (drop i levels) refl (subst (λ Ks. LeadsTo sig places (drop i levels) q Ks (λ Ss r. EndsIn sig o ends (sorted ++ Ss) r)) (drop-get o.args i K e) h)
    where
      of : (ls : List Level) → drop i levels ≡ ls → LeadsTo sig places ls q (K ∷ drop (suc i) o.args) (λ Ss r. EndsIn sig o ends (sorted ++ Ss) r) → (next : ℕ) × IsNext sorted i q S next
      of [] a le = absurd le
      of (l ∷ ls) a le =
          let n = le.2 S k in
          let g : LeadsTo sig places ls n.0 (drop (suc i) o.args) (λ Ss r. EndsIn sig o ends ((sorted ++ S ∷ []) ++ Ss) r) =
          leads-map sig places ls n.0 (drop (suc i) o.args) (λ Ss r. EndsIn sig o ends (sorted ++ S ∷ Ss) r) (λ Ss r. EndsIn sig o ends ((sorted ++ S ∷ []) ++ Ss) r)
          (λ Ss r z. subst (λ Us. EndsIn sig o ends Us r) (sym (append_assoc sorted (S ∷ []) Ss)) z) n.2 in (
            n.0,
            record {
              level = l;
              is_there = drop-head levels i l ls a;
              row = le.0;
              of_row = le.1;
              of_next = n.1;
              led = subst (λ ms. LeadsTo sig places ms n.0 (drop (suc i) o.args) (λ Ss r. EndsIn sig o ends ((sorted ++ S ∷ []) ++ Ss) r)) (sym (drop-suc levels i l ls a)) g;
            },
          )

  -- behind all arguments stands the result
  pub led-end : (sorted : List Sorted) (i q : ℕ) → length o.args ≤ i → IsLed sorted i q → EndsIn sig o ends sorted q
  led-end sorted i q l h = of (drop i levels) (subst (λ Ks. LeadsTo sig places (drop i levels) q Ks (λ Ss r. EndsIn sig o ends (sorted ++ Ss) r)) (all_dropped o.args i l) h)
    where
      of : (ls : List Level) → LeadsTo sig places ls q [] (λ Ss r. EndsIn sig o ends (sorted ++ Ss) r) → EndsIn sig o ends sorted q
      of [] le = subst (λ Us. EndsIn sig o ends Us q) (append-nil sorted) le
      of (l ∷ ls) le = absurd le

-- the diagram of an operator, as it was found
pub found_diagram : (sig : Signature) (tables : Tables) (f : ℕ) (o : Operator) (d : Diagram) → AreTablesOf sig tables → IsOperator sig f o → Some d ≡ at_number tables.diagrams f → IsDiagram sig tables.places o d
found_diagram sig tables f o d t is e =
    let (x, h, g) = t.diagrams f o is in
    let k : x ≡ d = some_same (sym h ∙ sym e) in subst (IsDiagram sig tables.places o) k g

-- the tables have a diagram of each operator
pub no_diagram : (sig : Signature) (tables : Tables) (f : ℕ) (o : Operator) → AreTablesOf sig tables → IsOperator sig f o → None ≡ at_number tables.diagrams f → ⊥
no_diagram sig tables f o t is e = let (x, h, g) = t.diagrams f o is in let k : None ≡ Some x = e ∙ h in cc

pub got : {X : Type 0} (xs : List X) (i : ℕ) (x : X) → i < length xs → x ≡ get_or xs i x → slice_get xs i ≡ Some x
got [] i x h e = absurd (omega (arith, h))
got (y ∷ xs) zero x h e = ap Some (sym e)
got (y ∷ xs) (suc i) x h e = got xs i x (omega (arith, h)) e
