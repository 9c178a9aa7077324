-- What carries terms, as its callers see it: from one signature to another.
use Rattle.std.specs.Prelude.{ℕ, List, IfSome, IsTrue, nat_eq}
use Rattle.std.specs.Map.{lookup}
use Rattle.mw_logic.specs.Term.{Variable, RawTerms}
use Rattle.mw_logic.specs.Signature.{Signature}
use Rattle.mw_logic.specs.Preregular.{HasItsSorts, IsSortOf}
use Rattle.mw_logic.specs.Substitution.{occurs_in}
use Rattle.mw_carry.specs.Carried.{IsPart, IsSameOperator}

pub record Carriage : Type 0 where
  pub from : Signature
  pub to : Signature

-- each operator that was met is kept with one that stands for it
abbrev pub AreMet : Carriage → List (ℕ × ℕ) → Type 0
AreMet c es = (f : ℕ) → IfSome (lookup (nat_eq f) es) (IsSameOperator c.from c.to f)

-- the one signature is part of the other, and has its sorts
pub record IsCarriage (c : Carriage) (es : List (ℕ × ℕ)) : Type 0 where
  pub part : IsPart c.from c.to
  pub numbers : HasItsSorts c.from
  pub met : AreMet c es

-- the sorts of the variables of terms are there
abbrev pub HaveSortsOf : Signature → RawTerms → Type 0
HaveSortsOf sig ts = (x : Variable) → IsTrue (occurs_in x ts) → IsSortOf sig x.sort
