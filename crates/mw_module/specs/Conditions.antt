-- The conditions of equations and rules: where one begins, and its fragments.
use Rattle.std.specs.Prelude.{ℕ, Bool, List, [], ◌∷◌, ◌+◌, ◌-◌, ◌==◌, ◌&&◌, map, take, drop, Option, None, Some, option_map, Result, Ok, Err, if◌then◌else◌, codes}
use Rattle.std.specs.Global.{Vec}
use Rattle.mw_lex.specs.declared.token.Token.{Token}
use Rattle.mw_module.specs.declared.conditions.WrittenFragment.{WrittenFragment as HeldFragment}
use Rattle.mw_module.specs.declared.conditions.WrittenFragment.TheVariants as held
use Rattle.mw_module.specs.declared.machine.Part.{Part}
use Rattle.mw_module.specs.declared.table.Place.TheVariants as place
use Rattle.mw_module.specs.declared.table.Role.TheVariants as role
use Rattle.mw_module.specs.declared.table.Want.TheVariants as want
use Rattle.mw_module.specs.declared.table.Wrong.{Wrong}
use Rattle.mw_module.specs.Reading.{then_of, tokens_of, read_at, divided_at}
use Rattle.mw_module.specs.Words.{is}

-- how many `fi` there are for which no `if` stands among these tokens in front of them: they close an `if` further in
-- front, if one is open there
abbrev pub closing : List Token → ℕ
closing [] = 0
closing (t ∷ rest) = if is (codes "if") t then closing rest - 1 else if is (codes "fi") t then closing rest + 1 else closing rest

-- an `if` that no `fi` among the tokens behind it closes
abbrev pub is_open : Token → List Token → Bool
is_open t rest = is (codes "if") t && closing rest == 0

-- how many there are
abbrev pub count_open : List Token → ℕ
count_open [] = 0
count_open (t ∷ rest) = if is_open t rest then count_open rest + 1 else count_open rest

-- how many tokens come before the first one: all where there is none
abbrev pub before_open : List Token → ℕ
before_open [] = 0
before_open (t ∷ rest) = if is_open t rest then 0 else before_open rest + 1

-- how many tokens come before the one `if` that no `fi` closes
abbrev pub open_if : List Token → Option ℕ
open_if ts = if count_open ts == 1 then Some (before_open ts) else None

-- what stands in front of it, and what stands behind it
abbrev pub cut_at_if : List Token → Option (List Token × List Token)
cut_at_if ts = option_map (λ n. (take n ts, drop (n + 1) ts)) (open_if ts)

-- a fragment of a condition: a pattern and a term round `:=`, two sides round `=`, or any other text
pub data WrittenFragment : Type 0 where
  Match : List Token → List Token → WrittenFragment
  Equal : List Token → List Token → WrittenFragment
  Other : List Token → WrittenFragment

-- a fragment as its readers see it
abbrev pub seen_fragment : HeldFragment → WrittenFragment
seen_fragment (held.Match pattern term) = Match pattern.now term.now
seen_fragment (held.Equal left right) = Equal left.now right.now
seen_fragment (held.Other text) = Other text.now

-- fragments as their readers see them
abbrev pub seen_fragments : List HeldFragment → List WrittenFragment
seen_fragments = map seen_fragment

-- a text that is no match: an equation, if there are two sides
abbrev pub unmatched : List Token → Option (List Token × List Token) → WrittenFragment
unmatched ts (Some sides) = Equal sides.0 sides.1
unmatched ts None = Other ts

-- a text: a match, if there are a pattern and a term
abbrev pub matched : List Token → Option (List Token × List Token) → WrittenFragment
matched ts (Some m) = Match m.0 m.1
matched ts None = unmatched ts (divided_at place.Left ts)

-- A fragment is divided at its first `:=` outside of brackets, also where a `=` stands in front; else at its first `=`.
abbrev pub fragment_of : List Token → WrittenFragment
fragment_of ts = matched ts (divided_at place.Pattern ts)

-- the fragments that parts are
abbrev pub fragments_of : List Token → List Part → List WrittenFragment
fragments_of ts parts = map (λ p. fragment_of (tokens_of ts p)) parts

-- the fragments of a condition, or what is wrong with it
abbrev pub Condition : Type 0
Condition = Result (List WrittenFragment) Wrong

-- the same as its readers see it
abbrev pub seen_condition : Result (Vec HeldFragment) Wrong → Condition
seen_condition (Ok fragments) = Ok (seen_fragments fragments.items)
seen_condition (Err wrong) = Err wrong

-- the fragments between the tokens `/\` outside of brackets, one at least; rewrites `=>` aren't read
abbrev pub condition_form : List Token → Condition
condition_form ts = then_of (read_at place.Condition role.Words want.Nothing ts) (λ parts. Ok (fragments_of ts parts))
