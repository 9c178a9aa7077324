-- What a unit asks for, as a command.
use Rattle.std.specs.Prelude.{ℕ, Bool, false, List, [], ◌∷◌, ◌+◌, ◌-◌, ◌==◌, ◌&&◌, ◌||◌, drop, Option, None, Some, option_map, Result, Ok, Err, if◌then◌else◌, codes}
use Rattle.std.specs.Str.{bytes_eq}
use Rattle.mw_lex.specs.declared.token.Token.{Token}
use Rattle.mw_module.specs.declared.faults.Fault.{Fault}
use Rattle.mw_module.specs.declared.faults.FaultKind.TheVariants.{NotInProfile, BadBound}
use Rattle.mw_module.specs.Words.{is, begins, count_before}
use Rattle.mw_module.specs.Units.{SeenUnit}
use Rattle.mw_command.specs.declared.commands.Command.{Command}
use Rattle.mw_command.specs.declared.commands.Word.{Word}
use Rattle.mw_command.specs.declared.commands.Word.TheVariants.{Reduce, Rewrite, Parse, Match, Xmatch}
use Rattle.mw_command.specs.Bounds.{bound_in_front}
use Rattle.mw_command.specs.Dividing.{pattern_of, subject_of}

-- a command as its readers see it
pub record SeenCommand : Type 0 where
  pub word : Word
  pub bound : Option ℕ
  pub «module» : Option (List ℕ)
  pub term : List Token
  pub subject : Option (List Token)

abbrev pub seen_command : Command → SeenCommand
seen_command c = record { word = c.word; bound = c.bound; «module» = option_map (λ name. name.now.text) c.module; term = c.term.now; subject = option_map (λ ts. ts.now) c.subject }

-- what stands behind a bound, if there is one: it goes to the first bracket that closes
abbrev pub behind_bound : List Token → List Token
behind_bound ts = if begins (codes "[") ts then drop (count_before (codes "]") ts + 1) ts else ts

-- of `depth` open braces the last is closed, and a colon follows directly
abbrev pub closes_before_colon : ℕ → List Token → Bool
closes_before_colon depth [] = false
closes_before_colon depth (t ∷ rest) = if is (codes "}") t then (if depth == 1 then begins (codes ":") rest else closes_before_colon (depth - 1) rest)
    else if is (codes "{") t then closes_before_colon (depth + 1) rest else closes_before_colon depth rest

-- an open brace that is closed, with a colon directly behind
abbrev pub has_braces_before_colon : List Token → Bool
has_braces_before_colon [] = false
has_braces_before_colon (t ∷ rest) = is (codes "{") t && closes_before_colon 1 rest

-- a module is named whose name has braces, behind it or as itself
abbrev pub names_with_braces : List Token → Bool
names_with_braces [] = false
names_with_braces (a ∷ []) = false
names_with_braces (a ∷ b ∷ rest) =
    is (codes "in") a && ((is (codes "{") b && begins (codes ":") rest) || has_braces_before_colon rest)

-- a command of this word with this bound, for what stands behind it, in this module
abbrev pub for_term : Word → Option ℕ → Option (List ℕ) → List Token → SeenCommand
for_term Reduce bound name term = record { word = Reduce; bound = bound; «module» = name; term = term; subject = None }
for_term Rewrite bound name term = record { word = Rewrite; bound = bound; «module» = name; term = term; subject = None }
for_term Parse bound name term = record { word = Parse; bound = bound; «module» = name; term = term; subject = None }
for_term Match bound name sides = record { word = Match; bound = bound; «module» = name; term = pattern_of sides; subject = subject_of sides }
for_term Xmatch bound name sides = record { word = Xmatch; bound = bound; «module» = name; term = pattern_of sides; subject = subject_of sides }

-- a command behind its word and its bound: exactly `in`, a name and a colon name a module, and what follows is the term
abbrev pub named_behind : Word → Option ℕ → List Token → SeenCommand
named_behind word bound [] = for_term word bound None []
named_behind word bound (a ∷ []) = for_term word bound None (a ∷ [])
named_behind word bound (a ∷ b ∷ []) = for_term word bound None (a ∷ b ∷ [])
named_behind word bound (a ∷ b ∷ c ∷ rest) = if is (codes "in") a && is (codes ":") c then for_term word bound (Some b.text) rest
    else for_term word bound None (a ∷ b ∷ c ∷ rest)

-- the bound that a command of this word has in front, and what stands behind it; `rewrite` alone takes one
abbrev pub bound_for : Word → List Token → Option (ℕ × List Token)
bound_for Reduce ts = None
bound_for Rewrite ts = bound_in_front ts
bound_for Parse ts = None
bound_for Match ts = None
bound_for Xmatch ts = None

-- a command behind its word, where no bracket stands there but a bound that it takes
abbrev pub command_behind : Word → List Token → Option SeenCommand
command_behind word ts = if begins (codes "[") ts then option_map (λ (p : ℕ × List Token). named_behind word (Some p.0) p.1) (bound_for word ts)
    else Some (named_behind word None ts)

-- a command, or what is wrong
abbrev pub Outcome : Type 0
Outcome = Result SeenCommand Fault

-- the command, where its bracket is a bound
abbrev pub bounded : ℕ → Option SeenCommand → Outcome
bounded line None = Err (record { line = line; kind = BadBound })
bounded line (Some c) = Ok c

-- what a command is behind its word; a module's name is looked at before the bound
abbrev pub outcome_behind : Word → ℕ → List Token → Outcome
outcome_behind word line ts = if names_with_braces (behind_bound ts) then Err (record { line = line; kind = NotInProfile }) else bounded line (command_behind word ts)

-- the command that a first word asks for
abbrev pub word_of : List ℕ → Option Word
word_of text = if bytes_eq text (codes "reduce") || bytes_eq text (codes "red") then Some Reduce
    else if bytes_eq text (codes "rewrite") || bytes_eq text (codes "rew") then Some Rewrite
    else if bytes_eq text (codes "parse") then Some Parse
    else if bytes_eq text (codes "match") then Some Match
    else if bytes_eq text (codes "xmatch") then Some Xmatch else None

abbrev pub outcome_of : Option Word → SeenUnit → Outcome
outcome_of None u = Err (record { line = u.line; kind = NotInProfile })
outcome_of (Some word) u = outcome_behind word u.line (drop 1 u.tokens)

-- the command that a unit is, by its first word
abbrev pub command_of : SeenUnit → Outcome
command_of u = outcome_of (word_of u.word) u
