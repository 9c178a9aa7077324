-- The crate's values as their readers see them.
use Rattle.std.specs.Prelude.{ℕ, List, [], ◌∷◌, ◌++◌, Option, map, option_map}
use Rattle.std.specs.Borrow.{Bor}
use Rattle.mw_term.specs.Signatures.{sorted_of}
use Rattle.mw_logic.specs.Signature.{Declaration}
use Rattle.mw_module.specs.Attributes.{Attributes, seen_attributes, joined}
use Rattle.mw_declare.specs.declared.hierarchy.Rank.{Rank as RankHeld}
use Rattle.mw_declare.specs.declared.operators.Profile.{Profile}
use Rattle.mw_declare.specs.declared.operators.Said.{Said}
use Rattle.mw_declare.specs.Operators.{Rank, Profile as ProfileOf, Declared}

abbrev pub seen_name : Option (Bor (List ℕ)) → Option (List ℕ)
seen_name name = option_map (λ (n : Bor (List ℕ)). n.now) name

abbrev pub seen_profile : Profile → ProfileOf
seen_profile p = record { spelling = p.spelling.items; args = p.args.items; result = p.result }

abbrev pub seen_rank : RankHeld → Rank
seen_rank r = record { declaration = record { args = map sorted_of r.args.items; result = sorted_of r.result }; args = r.kinds.items; result = r.kind }

-- the declarations of an operator and what they say of it
abbrev pub seen_said : Said → List Declaration × Attributes
seen_said s = (s.declarations.items, seen_attributes s.attributes)

-- the same of one declaration, and with one more
abbrev pub said_once : Declaration → Attributes → List Declaration × Attributes
said_once d a = (d ∷ [], a)

abbrev pub said_again : List Declaration × Attributes → Declaration → Attributes → List Declaration × Attributes
said_again s d a = (s.0 ++ d ∷ [], joined s.1 a)

-- an operator with its declarations and with what they say of it
abbrev pub seen_operator : Profile × Said → Declared
seen_operator e = record { profile = seen_profile e.0; declarations = e.1.declarations.items; attributes = seen_attributes e.1.attributes }
