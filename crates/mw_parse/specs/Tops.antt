-- A term by its top and its arguments; and what the chart's faults tell.
use Rattle.std.specs.Prelude.{◌≡◌, List}
use Rattle.mw_logic.specs.Term.{RawTerm, apply}
use Rattle.mw_term.specs.declared.raw.Raw.{Raw}
use Rattle.mw_term.specs.Raws.{raw_term, raw_terms}
use Rattle.mw_chart.specs.Tree.{Tree}
use Rattle.mw_chart.specs.declared.fault.TreePair.{TreePair}
use Rattle.mw_grammar.specs.AloneTerms.{alone_term}
use Rattle.mw_grammar.specs.Meaning.{term_of}
use Rattle.mw_chart.specs.declared.fault.Unread.{Unread}
use Rattle.mw_chart.specs.declared.fault.Unread.TheVariants.{TooLong, NoParse, Ambiguous, Memory}
use Rattle.mw_parse.specs.declared.terms.Top.{Top}
use Rattle.mw_parse.specs.declared.terms.Top.TheVariants.{Operator, Leaf}

-- the term has this on top, and these arguments where it is an operator
abbrev pub IsTop : Top → List Raw → RawTerm → Type 0
IsTop (Operator f) args t = t ≡ apply f (raw_terms args)
IsTop (Leaf a) args t = t ≡ alone_term a

-- the error tells the chart's fault: two trees by their terms. Want of memory may come in place of each.
abbrev pub IsTold : List RawTerm → Unread Tree → Unread Raw → Type 0
IsTold leaves f TooLong = f ≡ TooLong
IsTold leaves f NoParse = f ≡ NoParse
IsTold leaves f (Ambiguous t u) = (a : Tree) × (b : Tree) × (f ≡ Ambiguous a b) × (raw_term t ≡ term_of leaves a) × (raw_term u ≡ term_of leaves b)
IsTold leaves f Memory = Unit {0}

-- the terms are those of a pair of trees
abbrev pub ArePairOf : List RawTerm → List RawTerm → TreePair → Raw × Raw → Type 0
ArePairOf lefts rights p t = (raw_term t.0 ≡ term_of lefts p.left) × (raw_term t.1 ≡ term_of rights p.right)

abbrev pub IsPairTold : List RawTerm → List RawTerm → Unread TreePair → Unread (Raw × Raw) → Type 0
IsPairTold lefts rights f TooLong = f ≡ TooLong
IsPairTold lefts rights f NoParse = f ≡ NoParse
IsPairTold lefts rights f (Ambiguous t u) = (p : TreePair) × (q : TreePair) × (f ≡ Ambiguous p q) × ArePairOf lefts rights p t × ArePairOf lefts rights q u
IsPairTold lefts rights f Memory = Unit {0}
