-- What the reader's state stands for.
use Rattle.std.specs.Prelude.{List, [], ◌∷◌}
use Rattle.mw_term.specs.Raws.{raw_term, raw_terms}
use Rattle.mw_prefix.specs.declared.reading.Level.{Level}
use Rattle.mw_prefix.specs.declared.reading.Last.{Last}
use Rattle.mw_prefix.specs.declared.reading.Last.TheVariants.{Nothing, Named, Term}
use Rattle.mw_prefix.specs.Reading as spec

abbrev pub frame_of : Level → spec.Frame
frame_of l = spec.frame l.operator (raw_terms l.args.items)

-- the levels, the last one first
abbrev pub frames_of : List Level → List spec.Frame → List spec.Frame
frames_of [] fs = fs
frames_of (l ∷ ls) fs = frames_of ls (frame_of l ∷ fs)

abbrev pub last_of : Last → spec.Last
last_of Nothing = spec.nothing
last_of (Named f) = spec.named f
last_of (Term t) = spec.term (raw_term t)

-- the state that levels make with what was read last
abbrev pub state_of : List Level → Last → spec.State
state_of ls l = spec.state (frames_of ls []) (last_of l)
