-- Which modules of the prelude a source needs, by the texts of its tokens.
use Rattle.std.specs.Prelude.{ℕ, Bool, List, [], ◌∷◌, ◌++◌, true, false, ◌||◌, bytes_eq, if◌then◌else◌, codes}
use Rattle.std.specs.List.{list_any}
use Rattle.mw_prelude.specs.declared.modules.Predefined.{Predefined}
use Rattle.mw_prelude.specs.declared.modules.Predefined.TheVariants as module_of
use Rattle.mw_prelude.specs.declared.mentions.Mentioned.{Mentioned}
use Rattle.mw_prelude.specs.Modules.{name_of, text_of}

-- the text of a token asks for the module: it is its name; CONFIGURATION is asked for by the word that begins an object module too, since that imports it
abbrev pub asks_for : Predefined → List ℕ → Bool
asks_for module_of.Bool text = bytes_eq text (name_of module_of.Bool)
asks_for module_of.Nat text = bytes_eq text (name_of module_of.Nat)
asks_for module_of.Qid text = bytes_eq text (name_of module_of.Qid)
asks_for module_of.Configuration text = bytes_eq text (name_of module_of.Configuration) || bytes_eq text (codes "omod")

-- with one text more
abbrev pub mentioned_with : Mentioned → List ℕ → Mentioned
mentioned_with m text = record {
  some = true;
  nat = m.nat || asks_for module_of.Nat text;
  qid = m.qid || asks_for module_of.Qid text;
  configuration = m.configuration || asks_for module_of.Configuration text;
}

abbrev pub mentioned_from : Mentioned → List (List ℕ) → Mentioned
mentioned_from m [] = m
mentioned_from m (text ∷ texts) = mentioned_from (mentioned_with m text) texts

-- what these texts mention
abbrev pub mentioned_in : List (List ℕ) → Mentioned
mentioned_in texts = mentioned_from (record { some = false; nat = false; qid = false; configuration = false }) texts

-- the module's text, where one of these texts asks for it
abbrev pub text_where : Predefined → List (List ℕ) → List ℕ
text_where m texts = if list_any (asks_for m) texts then text_of m else []

-- What a source with tokens of these texts needs: nothing where there are none; else BOOL, and behind it each of the others that the text of a token asks for.
abbrev pub prelude_for : List (List ℕ) → List ℕ
prelude_for [] = []
prelude_for (text ∷ texts) =
    text_of module_of.Bool ++ (text_where module_of.Nat (text ∷ texts) ++ (text_where module_of.Qid (text ∷ texts) ++ text_where module_of.Configuration (text ∷ texts)))
