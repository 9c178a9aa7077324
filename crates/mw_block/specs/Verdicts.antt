-- The line for a proof text.
use Rattle.std.specs.Prelude.{◌++◌, ℕ, List, codes}
use Rattle.std.specs.Fmt.{decimal}
use Rattle.mw_check.specs.declared.answer.Cause.{Cause}
use Rattle.mw_check.specs.declared.answer.Cause.TheVariants as cause
use Rattle.mw_check.specs.declared.checking.Verdict.{Verdict}
use Rattle.mw_check.specs.declared.checking.Verdict.TheVariants.{Yes, No}
use Rattle.mw_block.specs.Blocks.{line}

-- why it isn't accepted, in a word
abbrev pub cause_word : Cause → List ℕ
cause_word cause.Module = codes "module"
cause_word cause.Text = codes "text"
cause_word cause.Statement = codes "statement"
cause_word cause.Binding = codes "binding"
cause_word cause.Part = codes "part"
cause_word cause.Overlap = codes "overlap"
cause_word cause.Condition = codes "condition"
cause_word cause.Stopped = codes "stopped"
cause_word cause.Limit = codes "limit"
cause_word cause.End = codes "end"

-- yes, with how many replacements it makes; or no, with the number of the item that is at fault and why
abbrev pub verdict_text : Verdict → List ℕ
verdict_text (Yes from to count) = codes "yes, " ++ decimal count ++ codes " rewrites"
verdict_text (No step why) = codes "no at step " ++ decimal step ++ codes ": " ++ cause_word why

-- the line for the proof of this number
abbrev pub verdict_line : ℕ → Verdict → List ℕ
verdict_line number v = line (codes "proof " ++ decimal number ++ codes ": " ++ verdict_text v)
