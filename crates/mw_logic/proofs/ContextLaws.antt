-- A context in a context.
use Rattle.std.specs.Prelude.{◌≡◌, [], ◌∷◌, ◌++◌, refl}
use Rattle.mw_logic.specs.Term.{RawTerm, Context, plug}

-- filling the hole of a context in a context is filling both, the inner one first
pub plug-append : (C D : Context) (t : RawTerm) → plug (C ++ D) t ≡ plug D (plug C t)
plug-append [] D t = refl
plug-append (c ∷ C) D t = plug-append C D _
