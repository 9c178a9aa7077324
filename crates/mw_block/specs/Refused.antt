-- The line for a unit that is refused.
use Rattle.std.specs.Prelude.{◌++◌, ℕ, List, [], ◌∷◌, codes}
use Rattle.std.specs.Fmt.{decimal}
use Rattle.mw_module.specs.declared.faults.Fault.{Fault}
use Rattle.mw_module.specs.declared.faults.FaultKind.{FaultKind}
use Rattle.mw_module.specs.declared.faults.FaultKind.TheVariants as kind
use Rattle.mw_block.specs.Blocks.{line}

-- names, each with a space before it
abbrev pub spaced : List (List ℕ) → List ℕ
spaced [] = []
spaced (n ∷ ns) = codes " " ++ n ++ spaced ns

-- the kind of a fault
abbrev pub kind_text : FaultKind → List ℕ
kind_text kind.BadByte = codes "bad byte"
kind_text kind.UnendedComment = codes "unended comment"
kind_text kind.UnendedModule = codes "unended module"
kind_text kind.UnendedCommand = codes "unended command"
kind_text kind.UnendedProof = codes "unended proof"
kind_text kind.NotInProfile = codes "not in this profile"
kind_text kind.BadStatement = codes "bad statement"
kind_text (kind.AlreadyDefined n) = codes "already defined"
kind_text (kind.UnknownModule n) = codes "unknown module"
kind_text (kind.CircularImport n) = codes "circular import"
kind_text (kind.UnknownSort n) = codes "unknown sort"
kind_text (kind.SortCycle n) = codes "sort cycle"
kind_text (kind.BadAxioms n) = codes "bad axioms"
kind_text (kind.AttributesDisagree n) = codes "attributes disagree"
kind_text (kind.NotPreregular n ss) = codes "not preregular"
kind_text (kind.NotAssociative n ss) = codes "not associative"
kind_text (kind.LowIdentity n s) = codes "low identity"
kind_text kind.TermTooLong = codes "term too long"
kind_text kind.NoParse = codes "no parse"
kind_text kind.Ambiguous = codes "ambiguous"
kind_text kind.TooDeep = codes "too deep"
kind_text kind.NumberTooLarge = codes "number too large"
kind_text kind.LoneVariable = codes "lone variable"
kind_text (kind.UnboundVariable n) = codes "unbound variable"
kind_text kind.OpenTerm = codes "open term"
kind_text kind.BadObject = codes "bad object"
kind_text kind.BadBound = codes "bad bound"
kind_text kind.NoModule = codes "no module"

-- its detail, behind a colon, where it has one
abbrev pub detail_text : FaultKind → List ℕ
detail_text kind.BadByte = []
detail_text kind.UnendedComment = []
detail_text kind.UnendedModule = []
detail_text kind.UnendedCommand = []
detail_text kind.UnendedProof = []
detail_text kind.NotInProfile = []
detail_text kind.BadStatement = []
detail_text (kind.AlreadyDefined n) = codes ": " ++ n
detail_text (kind.UnknownModule n) = codes ": " ++ n
detail_text (kind.CircularImport n) = codes ": " ++ n
detail_text (kind.UnknownSort n) = codes ": " ++ n
detail_text (kind.SortCycle n) = codes ": " ++ n
detail_text (kind.BadAxioms n) = codes ": " ++ n
detail_text (kind.AttributesDisagree n) = codes ": " ++ n
detail_text (kind.NotPreregular n ss) = codes ": " ++ n ++ spaced ss
detail_text (kind.NotAssociative n ss) = codes ": " ++ n ++ spaced ss
detail_text (kind.LowIdentity n s) = codes ": " ++ n ++ codes " " ++ s
detail_text kind.TermTooLong = []
detail_text kind.NoParse = []
detail_text kind.Ambiguous = []
detail_text kind.TooDeep = []
detail_text kind.NumberTooLarge = []
detail_text kind.LoneVariable = []
detail_text (kind.UnboundVariable n) = codes ": " ++ n
detail_text kind.OpenTerm = []
detail_text kind.BadObject = []
detail_text kind.BadBound = []
detail_text kind.NoModule = []

abbrev pub fault_text : FaultKind → List ℕ
fault_text k = kind_text k ++ detail_text k

-- the line for a refusal
abbrev pub refusal_line : Fault → List ℕ
refusal_line fault = line (codes "line " ++ decimal fault.line ++ codes ": refused: " ++ fault_text fault.kind)
