-- Why a text has no one reading.
use Rattle.std.specs.Prelude.{◌<◌, ◌⊎◌, ℕ, List, length, Option}
use Rattle.mw_logic.specs.Term.{Variable}
use Rattle.mw_logic.specs.Signature.{Signature}
use Rattle.mw_text.specs.Mixfix.{IsSpelled}
use Rattle.mw_text.specs.Readings.{NoneHas, BothHave, IsShort, ArePair}
use Rattle.mw_term.specs.Raws.{raw_term}
use Rattle.mw_term.specs.declared.raw.Raw.{Raw}
use Rattle.mw_chart.specs.declared.fault.Unread.{Unread}
use Rattle.mw_chart.specs.declared.fault.Unread.TheVariants.{TooLong, NoParse, Ambiguous, Memory}

-- of a text: it is too long, spells no such term, or these two different ones
abbrev pub HasCause : Signature → List Variable → Option ℕ → List (List ℕ) → Unread Raw → Type 0
HasCause sig variables wanted text TooLong = 1024 < length text
HasCause sig variables wanted text NoParse = IsShort text × NoneHas (IsSpelled sig variables wanted text)
HasCause sig variables wanted text (Ambiguous t u) = IsShort text × BothHave (IsSpelled sig variables wanted text) (raw_term t) (raw_term u)
HasCause sig variables wanted text Memory = Unit {0}

-- of two texts
abbrev pub HasPairCause : Signature → List Variable → List (List ℕ) → List (List ℕ) → Unread (Raw × Raw) → Type 0
HasPairCause sig variables left right TooLong = (1024 < length left) ⊎ (1024 < length right)
HasPairCause sig variables left right NoParse = IsShort left × IsShort right × NoneHas (ArePair sig variables left right)
HasPairCause sig variables left right (Ambiguous p q) = IsShort left × IsShort right
    × BothHave (ArePair sig variables left right) (raw_term p.0, raw_term p.1) (raw_term q.0, raw_term q.1)
HasPairCause sig variables left right Memory = Unit {0}
