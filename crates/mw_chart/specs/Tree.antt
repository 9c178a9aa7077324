-- Terms as the chart builds them: a leaf, or an operator applied to one argument after another.
use Rattle.std.specs.Prelude.{ℕ, ◌+◌, ◌≡◌, refl}
use Rattle.std.specs.Coded.{Coded, code_by}
use denote.Struct.Codes.{itself}
use base.Stored.{Gv, gnil, gnum, gcons}
use mathlib.Core.Path.{ap}
use Rattle.std.proofs.Common.{◌∙◌}

pub data Tree : Type 0 where
  -- what a token spells by itself, by the caller's number
  leaf : ℕ → Tree
  -- an operator with no argument yet
  head : ℕ → Tree
  -- with one argument more
  app : Tree → Tree → Tree

abbrev pub size_of : Tree → ℕ
size_of (leaf x) = 1
size_of (head f) = 1
size_of (app t u) = 1 + (size_of t + size_of u)

-- how a ghost tree stores a tree
abbrev pub code_of : Tree → Gv
code_of (leaf x) = gcons gnil (gnum x)
code_of (head f) = gnum f
code_of (app t u) = gcons (gcons gnil (code_of t)) (code_of u)

abbrev pub tree_in : Gv → Tree
tree_in gnil = head 0
tree_in (gnum n) = head n
tree_in (gcons gnil (gnum x)) = leaf x
tree_in (gcons gnil other) = head 0
tree_in (gcons (gcons gnil a) b) = app (tree_in a) (tree_in b)
tree_in (gcons other b) = head 0

pub tree_in-code : (t : Tree) → tree_in (code_of t) ≡ t
tree_in-code (leaf x) = refl
tree_in-code (head f) = refl
tree_in-code (app t u) = ap (λ x. app x (tree_in (code_of u))) (tree_in-code t) ∙ ap (app t) (tree_in-code u)

abbrev pub coded_tree : Coded Tree
coded_tree = code_by Gv itself code_of tree_in tree_in-code
