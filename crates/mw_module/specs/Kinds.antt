-- The kinds of units.
use Rattle.std.specs.Prelude.{ℕ, Bool, List, ◌&&◌, if◌then◌else◌, codes}
use Rattle.std.specs.Str.{bytes_eq}
use Rattle.mw_module.specs.declared.faults.FaultKind.{FaultKind}
use Rattle.mw_module.specs.declared.faults.FaultKind.TheVariants.{UnendedModule, UnendedCommand, UnendedProof, NotInProfile}
use Rattle.mw_module.specs.declared.kinds.Kind.{Kind}
use Rattle.mw_module.specs.declared.kinds.Kind.TheVariants as kind

-- the kind of a unit with this first word; what begins with no unit's word is a command
abbrev pub kind_of : Bool → List ℕ → Kind
kind_of proofs word = if bytes_eq word (codes "fmod") then kind.Functional
    else if bytes_eq word (codes "mod") then kind.System
    else if bytes_eq word (codes "omod") then kind.Object
    else if bytes_eq word (codes "fth") then kind.FunctionalTheory
    else if bytes_eq word (codes "th") then kind.SystemTheory
    else if bytes_eq word (codes "oth") then kind.ObjectTheory
    else if bytes_eq word (codes "view") then kind.View
    else if bytes_eq word (codes "smod") then kind.Strategy
    else if proofs && bytes_eq word (codes "proof") then kind.Proof else kind.Command

-- the token that ends units of this kind
abbrev pub end_word : Kind → List ℕ
end_word kind.Functional = codes "endfm"
end_word kind.System = codes "endm"
end_word kind.Object = codes "endom"
end_word kind.FunctionalTheory = codes "endfth"
end_word kind.SystemTheory = codes "endth"
end_word kind.ObjectTheory = codes "endoth"
end_word kind.View = codes "endv"
end_word kind.Strategy = codes "endsm"
end_word kind.Proof = codes "endproof"
end_word kind.Command = codes "."

-- what is wrong where the input ends in a unit of this kind; theories, views and strategy modules may be open
abbrev pub unended : Kind → FaultKind
unended kind.Functional = UnendedModule
unended kind.System = UnendedModule
unended kind.Object = UnendedModule
unended kind.FunctionalTheory = NotInProfile
unended kind.SystemTheory = NotInProfile
unended kind.ObjectTheory = NotInProfile
unended kind.View = NotInProfile
unended kind.Strategy = NotInProfile
unended kind.Proof = UnendedProof
unended kind.Command = UnendedCommand
