-- The status of a block as the texts have it.
use Rattle.mw_proof.specs.Reasons.{reason_of}
use Rattle.mw_block.specs.declared.blocks.Status.{Status}
use Rattle.mw_block.specs.declared.blocks.Status.TheVariants.{Reduced, Final, Limit}
use Rattle.mw_block.specs.Blocks.{Word, reduced, final, limit}

abbrev pub word_of : Status → Word
word_of Reduced = reduced
word_of Final = final
word_of (Limit reason) = limit (reason_of reason)
