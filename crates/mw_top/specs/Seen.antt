-- The crate's values as their readers see them.
use Rattle.mw_reduce.specs.declared.drive.Outcome.{Outcome}
use Rattle.mw_reduce.specs.declared.drive.Outcome.TheVariants.{Done, Stopped}
use Rattle.mw_proof.specs.Reasons.{reason_of}
use Rattle.mw_block.specs.Blocks.{Word, limit}

-- the word for each way in which a reduction or a rewriting ends, where this one is for its end that is no stop
abbrev pub word_of : Word → Outcome → Word
word_of done Done = done
word_of done (Stopped reason) = limit (reason_of reason)
