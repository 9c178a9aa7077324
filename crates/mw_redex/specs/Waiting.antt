-- Ways that wait: paths with what stands at their ends. The first is taken next, and the ways on from its end come to wait behind all others.
use Rattle.std.specs.Prelude.{ℕ, zero, suc, ◌+◌, List, [], ◌∷◌, ◌++◌}
use Rattle.mw_logic.specs.Term.{RawTerm, numeral, quoted, variable, apply, RawTerms, nil, cons}
use Rattle.mw_logic.specs.Terms.{list_of, args_of}
use Rattle.mw_redex.specs.declared.walking.Spot.{Spot}

abbrev pub Way : Type 0
Way = List ℕ × RawTerm

abbrev pub way_of : Spot → Way
way_of s = (s.path, s.term.now)

-- from the end of a path to the terms there, the first of which has number i
abbrev pub ways_to : List ℕ → ℕ → List RawTerm → List Way
ways_to path i [] = []
ways_to path i (t ∷ ts) = (path ++ i ∷ [], t) ∷ ways_to path (suc i) ts

abbrev pub ways_on : Way → List Way
ways_on w = ways_to w.0 1 (list_of (args_of w.1))

-- how many parts a term has, by their places
abbrev mutual
  pub parts_of : RawTerm → ℕ
  parts_of (numeral n) = 1
  parts_of (quoted q) = 1
  parts_of (variable x) = 1
  parts_of (apply f ts) = suc (parts_of_all ts)

  pub parts_of_all : RawTerms → ℕ
  parts_of_all nil = 0
  parts_of_all (cons t ts) = parts_of t + parts_of_all ts

abbrev pub parts_behind : List Way → ℕ
parts_behind [] = 0
parts_behind (w ∷ ws) = parts_of w.1 + parts_behind ws

-- the paths to come, of which there are n
abbrev pub coming : ℕ → List Way → List (List ℕ)
coming zero ws = []
coming (suc n) [] = []
coming (suc n) (w ∷ ws) = w.0 ∷ coming n (ws ++ ways_on w)

abbrev pub to_come : List Way → List (List ℕ)
to_come ws = coming (parts_behind ws) ws
