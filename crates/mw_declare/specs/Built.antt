-- What is built into a module: numbers, quoted identifiers and truth values, where the modules that have them are reached and declare them. (Maude Manual,
-- chapter 7, "Predefined data modules".)
use Rattle.std.specs.Prelude.{ℕ, zero, suc, List, [], ◌∷◌, Bool, false, true, ◌&&◌, not, nat_eq, bytes_eq, Option, None, Some, if◌then◌else◌, codes}
use Rattle.std.specs.List.{list_any}
use Rattle.mw_module.specs.Forms.{Shape, Sorts, Subsorts, Operators, Variables, Statement, Import, Class}
use Rattle.mw_module.specs.Sortings.{WrittenSort}
use Rattle.mw_module.specs.Units.{SeenLined}
use Rattle.mw_declare.specs.declared.built.Reached.{Reached}
use Rattle.mw_declare.specs.declared.built.Truth.{Truth}
use Rattle.mw_declare.specs.declared.built.Built.{Built}
use Rattle.mw_declare.specs.Meaning.{Name, is_among, number_of}
use Rattle.mw_declare.specs.Hierarchy.{Hierarchy, kind_of}

-- the sort of this name is written, and not its kind
abbrev pub is_sort : Name → WrittenSort → Bool
is_sort n s = not s.kind && bytes_eq s.name n

-- one argument of the sort, or none where there is no sort
abbrev pub takes : Option Name → List WrittenSort → Bool
takes None [] = true
takes None (s ∷ ss) = false
takes (Some n) [] = false
takes (Some n) (s ∷ []) = is_sort n s
takes (Some n) (s ∷ u ∷ ss) = false

-- the name is this one word
abbrev pub is_name : Name → List Name → Bool
is_name n [] = false
is_name n (w ∷ []) = bytes_eq w n
is_name n (w ∷ v ∷ ws) = false

-- the statement declares an operator of this name, which takes the sort, or nothing, and gives that one
abbrev pub declares_in : Name → Option Name → Name → Shape → Bool
declares_in name arg value (Sorts names) = false
declares_in name arg value (Subsorts groups) = false
declares_in name arg value (Operators names args result said) = (takes arg args && is_sort value result) && list_any (is_name name) names
declares_in name arg value (Variables names S) = false
declares_in name arg value (Statement rule left right fragments executable) = false
declares_in name arg value (Import m) = false
declares_in name arg value (Class c as_) = false

-- one of the statements does
abbrev pub some_declares : Name → Option Name → Name → List SeenLined → Bool
some_declares name arg value ss = list_any (λ (s : SeenLined). declares_in name arg value s.shape) ss

-- the constants `true` and `false` of the sort Bool
abbrev pub has_truths : List SeenLined → Bool
has_truths ss = some_declares (codes "true") None (codes "Bool") ss && some_declares (codes "false") None (codes "Bool") ss

-- the sort of the first name is declared directly below that of the second
abbrev pub is_pair : Hierarchy → Name → Name → Bool
is_pair h lower upper = list_any (λ (p : ℕ × ℕ). nat_eq p.0 (number_of h.names lower) && nat_eq p.1 (number_of h.names upper)) h.pairs

-- the successor, which takes Nat to NzNat, and Zero and NzNat below Nat
abbrev pub has_numbers : Hierarchy → List SeenLined → Bool
has_numbers h ss =
    some_declares (codes "s_") (Some (codes "Nat")) (codes "NzNat") ss && (is_pair h (codes "Zero") (codes "Nat") && is_pair h (codes "NzNat") (codes "Nat"))

-- the kind of the sort of a name
abbrev pub kind_named : Hierarchy → Name → ℕ
kind_named h n = kind_of h (number_of h.names n)

-- the sort Bool and its kind, where its constants are declared
abbrev pub truth_of : Hierarchy → List SeenLined → Option Truth
truth_of h ss = if has_truths ss then Some (record { sort = number_of h.names (codes "Bool"); kind = kind_named h (codes "Bool") }) else None

-- the kind of numbers, where NAT is reached and declares them
abbrev pub numbers_in : Bool → Hierarchy → List SeenLined → Option ℕ
numbers_in reached h ss = if reached && has_numbers h ss then Some (kind_named h (codes "Nat")) else None

-- what is built in, where these modules of the prelude are reached
abbrev pub built_in : Reached → Hierarchy → List SeenLined → Built
built_in r h ss = record { nat = numbers_in r.nat h ss; qid = r.qid && is_among h.names (codes "Qid"); truth = truth_of h ss }

-- the kinds among so many sorts, counted from this one, each named by its least sort
abbrev pub kinds_from : Hierarchy → ℕ → ℕ → List ℕ
kinds_from h zero S = []
kinds_from h (suc left) S = if nat_eq (kind_of h S) S then S ∷ kinds_from h left (suc S) else kinds_from h left (suc S)
