-- Tables of terms, each once, where a term's arguments are in the table too. (Hash consing: Ershov 1958, "On
-- programming of arithmetic operations"; Goto 1974, "Monocopy and associative algorithms in an extended Lisp".)
use Rattle.std.specs.Prelude.{◌≡◌, ◌<◌, ◌≤◌, ℕ, Bool, true, false, List, [], ◌∷◌, length, get_or, slice_index_or, map, slice_range}
use Rattle.std.specs.List.{Contains}
use Rattle.mw_logic.specs.Term.{RawTerm, numeral, quoted, variable, apply}
use Rattle.mw_logic.specs.Terms.{terms_of}
use Rattle.mw_store.specs.Hashes.{leaf_hash, node_hash}
use Rattle.mw_store.specs.Slots.{IsFree, AreReached}
use Rattle.mw_store.specs.Numbers.{IsOnce, terms_at, AreBelow, HasNumber}
use Rattle.mw_store.specs.declared.nodes.Key.{Key}
use Rattle.mw_store.specs.declared.nodes.Key.TheVariants as key
use Rattle.mw_store.specs.declared.nodes.Kept.{Kept}
use Rattle.mw_store.specs.declared.nodes.Nodes.{Nodes}
use Rattle.mw_store.specs.declared.nodes.Sought.{Sought}
use Rattle.mw_store.specs.declared.nodes.Sought.TheVariants as sought
use Rattle.mw_store.specs.declared.nodes.Seek.{Seek}
use Rattle.mw_store.specs.declared.nodes.Seek.TheVariants as seek

abbrev pub is_leaf : RawTerm → Bool
is_leaf (numeral n) = true
is_leaf (quoted q) = true
is_leaf (variable x) = true
is_leaf (apply f ts) = false

abbrev pub terms_in : List Kept → List RawTerm
terms_in ks = map (λ (k : Kept). k.term) ks

abbrev pub hashes_in : List Kept → List ℕ
hashes_in ks = map (λ (k : Kept). k.hash) ks

-- the term that has number j is an operator on arguments of these lesser numbers
pub record IsNode (terms : List RawTerm) (j hash : ℕ) (t : RawTerm) (f : ℕ) (ns : List ℕ) : Type 0 where
  pub below : AreBelow j ns
  pub term : t ≡ apply f (terms_of (terms_at terms ns))
  pub hashed : hash ≡ node_hash f ns

-- the key is that of an operator on arguments of these numbers, some of which stand in a list of all arguments
abbrev pub HasKey : List ℕ → ℕ → List ℕ → Key → Type 0
HasKey arguments f ns key.Leaf = ⊥
HasKey arguments f ns (key.One g n) = (g ≡ f) × (n ∷ [] ≡ ns)
HasKey arguments f ns (key.Two g ms) = (g ≡ f) × (ms ≡ ns)
HasKey arguments f ns (key.Many g from to) =
    (g ≡ f) × (slice_range arguments from to ≡ ns) × (from ≤ to) × (to ≤ length arguments)

abbrev pub IsKeyed : List RawTerm → List ℕ → ℕ → ℕ → RawTerm → Key → Type 0
IsKeyed terms arguments j hash t key.Leaf = (is_leaf t ≡ true) × (hash ≡ leaf_hash t)
IsKeyed terms arguments j hash t (key.One f n) = IsNode terms j hash t f (n ∷ [])
IsKeyed terms arguments j hash t (key.Two f ns) = IsNode terms j hash t f ns
IsKeyed terms arguments j hash t (key.Many f from to) =
    (from ≤ to) × (to ≤ length arguments) × IsNode terms j hash t f (slice_range arguments from to)

-- each term has its key, by which it is found, and none stands twice
pub record IsTable (kept : List Kept) (arguments slots : List ℕ) : Type 0 where
  pub keyed : (j : ℕ) (k : Kept) → j < length kept → k ≡ get_or kept j k
      → IsKeyed (terms_in kept) arguments j k.hash k.term k.key
  pub once : IsOnce (terms_in kept)
  pub reached : AreReached slots (hashes_in kept)

abbrev pub IsSound : Nodes → Type 0
IsSound s = IsTable s.kept.items s.arguments.items s.slots.items

abbrev pub all_terms : Nodes → List RawTerm
all_terms s = terms_in s.kept.items

-- what is looked for
abbrev pub sought_term : List RawTerm → Sought → RawTerm
sought_term terms (sought.Leaf t) = t.now
sought_term terms (sought.Node f ns) = apply f (terms_of (terms_at terms ns.now))

-- it has this number
abbrev pub IsAt : List RawTerm → ℕ → Sought → Type 0
IsAt terms index s = slice_index_or terms index (sought_term terms s) ≡ sought_term terms s

abbrev pub IsSought : Sought → ℕ → List ℕ → Type 0
IsSought (sought.Leaf t) f ns = ⊥
IsSought (sought.Node g ms) f ns = (f ≡ g) × (ns ≡ ms.now)

abbrev pub sought_hash : Sought → ℕ
sought_hash (sought.Leaf t) = leaf_hash t.now
sought_hash (sought.Node f ns) = node_hash f ns.now

abbrev pub CanBeSought : List RawTerm → Sought → Type 0
CanBeSought terms (sought.Leaf t) = is_leaf t.now ≡ true
CanBeSought terms (sought.Node f ns) = AreBelow (length terms) ns.now

-- where it is, or where it can be put
abbrev pub Finds : List RawTerm → List ℕ → ℕ → RawTerm → Seek → Type 0
Finds terms slots hash t (seek.Old n) = HasNumber terms t n
Finds terms slots hash t (seek.Free at) = (¬ Contains terms t) × IsFree slots hash at
Finds terms slots hash t seek.Full = Unit {0}
