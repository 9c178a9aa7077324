-- The forms of classes of objects.
use Rattle.std.specs.Prelude.{ℕ, List, [], ◌∷◌, Bool, ◌&&◌, Result, Ok, Err, if◌then◌else◌}
use Rattle.std.specs.List.{list_all}
use Rattle.mw_lex.specs.declared.token.Token.{Token}
use Rattle.mw_module.specs.declared.classes.ClassAttribute.{ClassAttribute}
use Rattle.mw_module.specs.declared.machine.Part.{Part}
use Rattle.mw_module.specs.declared.table.Place.TheVariants as place
use Rattle.mw_module.specs.declared.table.Role.TheVariants as role
use Rattle.mw_module.specs.declared.table.Want.TheVariants as want
use Rattle.mw_module.specs.declared.table.Wrong.TheVariants.{Bad}
use Rattle.mw_module.specs.OperatorNames.{is_plain_name}
use Rattle.mw_module.specs.Reading.{then_of, tokens_of, read_at}
use Rattle.mw_module.specs.Shapes.{Shaped, Class}

-- the first of these tokens as a word
abbrev pub front_word : List Token → List ℕ
front_word [] = []
front_word (t ∷ rest) = t.text

-- the word that a part is
abbrev pub word_of : List Token → Part → List ℕ
word_of ts p = front_word (tokens_of ts p)

-- the attributes that parts are, a name and a sort each
abbrev pub attributes_of : List Token → List Part → List ClassAttribute
attributes_of ts [] = []
attributes_of ts (p ∷ []) = []
attributes_of ts (p ∷ q ∷ ps) = record { name = word_of ts p; sort = word_of ts q } ∷ attributes_of ts ps

-- their names can be names of operators, and have no holes
abbrev pub are_named : List ClassAttribute → Bool
are_named as_ = list_all (λ (a : ClassAttribute). is_plain_name a.name) as_

-- a class of this name, which can be that of a constant, with these attributes
abbrev pub class_of : List ℕ → List ClassAttribute → Shaped
class_of name as_ = if is_plain_name name && are_named as_ then Ok (Class name as_) else Err Bad

abbrev pub classed : List Token → List Part → Shaped
classed ts [] = Err Bad
classed ts (p ∷ ps) = class_of (word_of ts p) (attributes_of ts ps)

-- `class`: a name, and attributes behind a bar, if there are some, divided by commas, each a name, a colon and a sort
abbrev pub class_form : List Token → Shaped
class_form ts = then_of (read_at place.Class role.Silent want.Nothing ts) (classed ts)
