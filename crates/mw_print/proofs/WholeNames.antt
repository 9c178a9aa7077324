-- Names whose pieces are proper are spelled as runs that are read to their ends.
use Rattle.std.proofs.Common.{◌≡◌, ◌⊎◌, ◌==◌, ◌||◌, not, inl, inr, ℕ, Bool, true, false, List, [], ◌∷◌, ◌++◌, if◌then◌else◌, refl, subst}
use Rattle.std.specs.Prelude.{⊤, All}
use Rattle.std.proofs.lemmas.Bool.{cond_both, or_right}
use Rattle.std.proofs.lemmas.List.Elements.{All-head, All-tail}
use Rattle.mw_lex.specs.Bytes.{is_punctuation}
use Rattle.mw_lex.specs.Texts.{IsMark, IsProper}
use Rattle.mw_lex.proofs.Runs.{takes_none, IsWhole, whole_one, whole_two, behind_one, run_first}
use Rattle.mw_text.specs.Names.{NameItem, piece, hole, ended, items_from, items_of, items_of_tokens, pieces, is_mark, spelled_behind}
use Rattle.mw_text.proofs.Spellings.{spellings_read}
use Rattle.mw_print.specs.PrefixLaws.{NamesAreWhole}

-- no backquote and none of the seven stands in it
abbrev AreBare : List ℕ → Type 0
AreBare [] = ⊤
AreBare (b ∷ x) = ((b == 96) ≡ false) × (is_punctuation b ≡ false) × AreBare x

-- each piece is so, or is one of the seven
abbrev AreClean : List NameItem → Type 0
AreClean [] = ⊤
AreClean (hole ∷ items) = AreClean items
AreClean (piece x ∷ items) = (IsMark x ⊎ AreBare x) × AreClean items

bare_push : (run : List ℕ) (b : ℕ) → AreBare run → (b == 96) ≡ false → is_punctuation b ≡ false → AreBare (run ++ b ∷ [])
bare_push [] b p q m = (q, m, tt)
bare_push (c ∷ run) b p q m = (p.0, p.1, bare_push run b p.2 q m)

clean_ended : (run : List ℕ) (items : List NameItem) → AreBare run → AreClean items → AreClean (ended run items)
clean_ended [] items p c = c
clean_ended (b ∷ run) items p c = (inr p, c)

clean_from : (run x : List ℕ) → AreBare run → AreClean (items_from run x)
clean_from run [] p = clean_ended run [] p tt
clean_from run (b ∷ x) p =
    let anew = clean_from [] x tt in
    let more : AreBare (run ++ b ∷ []) → AreClean (items_from (run ++ b ∷ []) x) = λ q. clean_from (run ++ b ∷ []) x q in
    cond_both (b == 95) _ _ AreClean (λ u. clean_ended run (hole ∷ items_from [] x) p anew)
    (λ u. cond_both (b == 96) _ _ AreClean (λ q. clean_ended run (items_from [] x) p anew)
    (λ q. cond_both (is_punctuation b) _ _ AreClean (λ m. clean_ended run (piece (b ∷ []) ∷ items_from [] x) p (inl m, anew)) (λ m. more (bare_push run b p q m))))

clean_both : (xs ys : List NameItem) → AreClean xs → AreClean ys → AreClean (xs ++ ys)
clean_both [] ys c d = d
clean_both (hole ∷ xs) ys c d = clean_both xs ys c d
clean_both (piece x ∷ xs) ys c d = (c.0, clean_both xs ys c.1 d)

clean_tokens : (ts : List (List ℕ)) → AreClean (items_of_tokens ts)
clean_tokens [] = tt
clean_tokens (t ∷ ts) = clean_both (items_of t) (items_of_tokens ts) (clean_from [] t tt) (clean_tokens ts)

-- a run without backquotes, before one that is read to its end
bare_whole : (x rest : List ℕ) → AreBare x → IsWhole x → IsWhole rest → IsWhole (x ++ rest)
bare_whole [] rest p w h = h
bare_whole (b ∷ x) rest p w h =
    let behind = behind_one b x (takes_none b x p.0) w in
    whole_one b (x ++ rest) (run_first b x w) (takes_none b (x ++ rest) p.0) (bare_whole x rest p.2 behind h)

-- a piece, with a backquote before it or not
bare_piece : (touching : Bool) (b : ℕ) (x rest : List ℕ) → AreBare (b ∷ x) → IsWhole (b ∷ x) → IsWhole rest → IsWhole ((if touching || is_mark (b ∷ x) then 96 ∷ b ∷ x else b ∷ x) ++ rest)
bare_piece touching b x rest p w h =
    let behind : IsWhole (b ∷ x ++ rest) = bare_whole (b ∷ x) rest p w h in
    cond_both (touching || is_mark (b ∷ x)) (96 ∷ b ∷ x) (b ∷ x) (λ y. IsWhole (y ++ rest)) (λ m. whole_one 96 (b ∷ x ++ rest) refl p.1 behind) (λ m. behind)

mark_piece : (touching : Bool) (b : ℕ) (rest : List ℕ) → is_punctuation b ≡ true → IsWhole rest → IsWhole ((if touching || is_mark (b ∷ []) then 96 ∷ b ∷ [] else b ∷ []) ++ rest)
mark_piece touching b rest m h = rw (or_right touching (is_punctuation b) m) (whole_two 96 b rest m h)

piece_whole : (touching : Bool) (x rest : List ℕ) → IsMark x ⊎ AreBare x → IsProper x → IsWhole rest → IsWhole ((if touching || is_mark x then 96 ∷ x else x) ++ rest)
piece_whole touching [] rest c (inl mark) h = absurd mark
piece_whole touching [] rest c (inr run) h = absurd run
piece_whole touching (b ∷ []) rest c (inl mark) h = mark_piece touching b rest mark h
piece_whole touching (b ∷ d ∷ x) rest c (inl mark) h = absurd mark
piece_whole touching (b ∷ []) rest (inl mark) (inr run) h = mark_piece touching b rest mark h
piece_whole touching (b ∷ d ∷ x) rest (inl mark) (inr run) h = absurd mark
piece_whole touching (b ∷ x) rest (inr bare) (inr run) h = bare_piece touching b x rest bare run.0 h

name_whole : (touching : Bool) (items : List NameItem) → AreClean items → All IsProper (pieces items) → IsWhole (spelled_behind touching items)
name_whole touching [] c p = refl
name_whole touching (hole ∷ items) c p = let rest = spelled_behind false items in whole_one 95 rest refl (takes_none 95 rest refl) (name_whole false items c p)
name_whole touching (piece x ∷ items) c p =
    piece_whole touching x (spelled_behind (not (is_mark x)) items) c.0 (All-head IsProper x (pieces items) p) (name_whole (not (is_mark x)) items c.1 (All-tail IsProper x (pieces items) p))

pub names_whole : NamesAreWhole
names_whole ts proper = name_whole false (items_of_tokens ts) (clean_tokens ts) (subst (λ items. All IsProper (pieces items)) (spellings_read ts) proper.0)
