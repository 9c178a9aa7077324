-- How words are held.
use Rattle.std.specs.Prelude.{ℕ, List}
use Rattle.mw_module.specs.declared.word.HeldWord.{HeldWord}
use Rattle.mw_module.specs.declared.word.HeldWord.TheVariants.{Lent, Made}

-- the bytes of a word
abbrev pub held_bytes : HeldWord → List ℕ
held_bytes (Lent bytes) = bytes.now
held_bytes (Made bytes) = bytes.items
