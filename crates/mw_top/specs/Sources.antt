-- What is written for the units of a source, one after another.
use Rattle.std.specs.Prelude.{◌≡◌, ◌++◌, ◌||◌, ℕ, suc, codes, Bool, true, false, List, [], ◌∷◌, map, Option, Some, None, option_map, Ok, Err}
use Rattle.mw_words.specs.declared.Options.{Options}
use Rattle.mw_lex.specs.declared.token.Token.{Token}
use Rattle.mw_logic.specs.Signature.{Member}
use Rattle.mw_module.specs.declared.faults.Fault.{Fault}
use Rattle.mw_module.specs.declared.faults.FaultKind.{FaultKind}
use Rattle.mw_module.specs.declared.faults.FaultKind.TheVariants.{AlreadyDefined}
use Rattle.mw_module.specs.Units.{SeenUnit, Outcome, Reads}
use Rattle.mw_command.specs.Commands.{SeenCommand, command_of}
use Rattle.mw_omod.specs.Declaring.{declared_unit}
use Rattle.mw_import.specs.Flat.{FlatUnit}
use Rattle.mw_build.specs.Modules.{Accepted, IsAccepted, IsRefused}
use Rattle.mw_check.specs.declared.checking.Verdict.{Verdict}
use Rattle.mw_block.specs.Notes.{noted}
use Rattle.mw_block.specs.Refused.{refusal_line}
use Rattle.mw_block.specs.Verdicts.{verdict_line}
use Rattle.mw_top.specs.Commands.{IsAnswer, CommandFault, module_for}
use Rattle.mw_top.specs.Proofs.{IsProofAnswer, is_no}
use Rattle.mw_top.specs.Purposes.{is_noted, takes_proofs}
use Rattle.mw_top.specs.declared.purpose.Purpose.{Purpose}
use Rattle.mw_top.specs.declared.purpose.Purpose.TheVariants.{Run, Check}

-- the units that were accepted, and the modules that they are, one by one; and how many proofs were answered
pub record Loaded : Type 0 where
  pub units : List FlatUnit
  pub modules : List Accepted
  pub proofs : ℕ

abbrev pub no_modules : Loaded
no_modules = record { units = []; modules = []; proofs = 0 }

-- with one module more, of this name, that a unit is which reaches these
abbrev pub with_module : Loaded → List ℕ → SeenUnit → List ℕ → Accepted → Loaded
with_module before n u reached a = record {
  units = before.units ++ record { name = n; statements = u.statements; reached = reached } ∷ [];
  modules = before.modules ++ a ∷ [];
  proofs = before.proofs;
}

-- with one proof more that is answered
abbrev pub with_proof : Loaded → Loaded
with_proof before = record { units = before.units; modules = before.modules; proofs = suc before.proofs }

-- a module has this name
abbrev pub IsNameTaken : List Accepted → List ℕ → Type 0
IsNameTaken ms n = Member n (map (λ (a : Accepted). a.name) ms)

abbrev pub name_of : SeenUnit → Option (List ℕ)
name_of u = option_map (λ (t : Token). t.text) u.name

-- a proof, by its first word
abbrev pub IsProof : SeenUnit → Type 0
IsProof u = u.word ≡ codes "proof"

-- the line of a refusal, as it is written
abbrev pub told_refusal : Purpose → Fault → List ℕ
told_refusal purpose f = noted (is_noted purpose) (refusal_line f)

-- What a unit gives, where these modules were accepted: its text, whether it is refused, and the modules after it.
pub data Gives (purpose : Purpose) (before : Loaded) : Outcome → List ℕ → Bool → Loaded → Type 0 where
  -- what isn't a unit by its form
  formless : (f : Fault) → Gives purpose before (Err f) (told_refusal purpose f) true before
  -- a module, by what it declares: its name is taken, it has a fault, or it is accepted
  taken : (u : SeenUnit) (n : List ℕ) → name_of u ≡ Some n → IsNameTaken before.modules n
      → Gives purpose before (Ok u) (told_refusal purpose (record { line = u.line; kind = AlreadyDefined n })) true before
  refused : (u : SeenUnit) (n : List ℕ) (r : Fault) → name_of u ≡ Some n → (IsNameTaken before.modules n → ⊥) → IsRefused before.units before.modules (declared_unit u) n r
      → Gives purpose before (Ok u) (told_refusal purpose r) true before
  accepted : (u : SeenUnit) (n reached : List ℕ) (a : Accepted) → name_of u ≡ Some n → (IsNameTaken before.modules n → ⊥)
      → IsAccepted before.units before.modules (declared_unit u) n reached a → Gives purpose before (Ok u) [] false (with_module before n (declared_unit u) reached a)
  -- a command that is to be answered: it isn't of its form, it has a fault, or it is answered
  no_command : (options : Options) (u : SeenUnit) (f : Fault) → purpose ≡ Run options → name_of u ≡ None → command_of u ≡ Err f → Gives purpose before (Ok u) (told_refusal purpose f) true before
  faulty : (options : Options) (u : SeenUnit) (c : SeenCommand) (cause : FaultKind) → purpose ≡ Run options → name_of u ≡ None → command_of u ≡ Ok c → CommandFault before.modules c cause
      → Gives purpose before (Ok u) (told_refusal purpose (record { line = u.line; kind = cause })) true before
  answered : (options : Options) (u : SeenUnit) (c : SeenCommand) (a : Accepted) (text : List ℕ) → purpose ≡ Run options → name_of u ≡ None → command_of u ≡ Ok c → module_for before.modules c.module ≡ Some a
      → IsAnswer a options c text → Gives purpose before (Ok u) text false before
  -- one that is passed over, where proofs are checked; and a proof there
  passed : (max : ℕ) (u : SeenUnit) → purpose ≡ Check max → name_of u ≡ None → ¬ IsProof u → Gives purpose before (Ok u) [] false before
  judged : (max : ℕ) (u : SeenUnit) (v : Verdict) → purpose ≡ Check max → name_of u ≡ None → IsProof u → IsProofAnswer before.modules max u.tokens v
      → Gives purpose before (Ok u) (verdict_line (suc before.proofs) v) (is_no v) (with_proof before)

-- The units of these tokens up to a place are answered, in order: their texts, whether one of them was refused, and the modules that were accepted.
pub data Answered (purpose : Purpose) (tokens : List Token) : ℕ → Loaded → List ℕ → Bool → Type 0 where
  nothing_yet : Answered purpose tokens 0 no_modules [] false
  one_more : (at : ℕ) (before : Loaded) (text : List ℕ) (bad : Bool) → Answered purpose tokens at before text bad
      → (outcome : Outcome) (next : ℕ) (last : List ℕ) (refused : Bool) (after : Loaded) → Reads (takes_proofs purpose) tokens at outcome next
      → Gives purpose before outcome last refused after → Answered purpose tokens next after (text ++ last) (bad || refused)
