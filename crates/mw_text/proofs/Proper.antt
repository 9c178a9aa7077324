-- A name of tokens is proper, where no string and no comment begins in its pieces.
use Rattle.std.proofs.Common.{◌≡◌, ◌∙◌, ◌⊎◌, ◌==◌, ◌||◌, not, inl, inr, ℕ, Bool, true, false, List, [], ◌∷◌, ◌++◌, if◌then◌else◌, refl, sym, subst, append-nil}
use Rattle.std.specs.Prelude.{⊤, All}
use Rattle.std.proofs.lemmas.Bool.{cases_Bool, cond_both, eqb-false, and_parts, or_right, true≢false, false≢true}
use Rattle.std.proofs.lemmas.List.Elements.{All-nil, All-cons, All-head, All-tail, All-push}
use Rattle.mw_lex.specs.Bytes.{is_punctuation, is_run_byte}
use Rattle.mw_lex.specs.Texts.{IsMark, IsProper, IsQuoted, IsTokenText}
use Rattle.mw_lex.proofs.Runs.{takes_next, takes_none, IsWhole, whole_one, whole_two, behind_one, behind_two, run_first as whole_first}
use Rattle.mw_lex.proofs.Comments.{IsApart, no_comment, no_comment_before}
use Rattle.mw_text.specs.Names.{NameItem, piece, hole, ended, items_from, items_of, items_of_tokens, name_of_tokens, has_hole, pieces, is_mark, spelled_behind}
use Rattle.mw_text.specs.Proper.{BeginsNothing, NamesAreProper}
use Rattle.mw_text.proofs.Spellings.{run_first, spellings_read}

-- a byte of runs that is neither a backquote nor one of the seven
abbrev IsWordByte : ℕ → Type 0
IsWordByte b = (is_run_byte b ≡ true) × ((b == 96) ≡ false) × (is_punctuation b ≡ false)

-- one of the seven, or such bytes
abbrev IsWord : List ℕ → Type 0
IsWord [] = ⊥
IsWord (b ∷ x) = IsMark (b ∷ x) ⊎ All IsWordByte (b ∷ x)

-- the pieces are words
abbrev AreWords : List NameItem → Type 0
AreWords items = All IsWord (pieces items)

-- what is left of a token from some byte on: a whole run, behind one of the seven or not
abbrev IsLeft : List ℕ → Type 0
IsLeft [] = ⊤
IsLeft (b ∷ x) = IsWhole (b ∷ x) ⊎ ((is_punctuation b ≡ true) × IsWhole x)

left_whole : (x : List ℕ) → IsWhole x → IsLeft x
left_whole [] h = tt
left_whole (b ∷ x) h = inl h

-- and what is left behind its first byte
left_behind : (b : ℕ) (x : List ℕ) → IsLeft (b ∷ x) → IsLeft x
left_behind b x (inr m) = left_whole x m.1
left_behind b [] (inl h) = tt
left_behind b (c ∷ x) (inl h) =
    elim (cases_Bool (takes_next b (c ∷ x))) [ inl t ↦ inr ((and_parts (b == 96) (is_punctuation c) t).1, behind_two b c x t h) | inr t ↦ inl (behind_one b (c ∷ x) t h) ]

-- its first byte, if this is none of the seven
left_byte : (b : ℕ) (x : List ℕ) → is_punctuation b ≡ false → IsLeft (b ∷ x) → is_run_byte b ≡ true
left_byte b x p (inl h) = whole_first b x h
left_byte b x p (inr m) = absurd (true≢false (sym m.0 ∙ p))

-- the pieces of what is left, behind a word that is being read
words_ended : (run : List ℕ) (items : List NameItem) → All IsWordByte run → AreWords items → AreWords (ended run items)
words_ended [] items p h = h
words_ended (b ∷ run) items p h = All-cons IsWord (b ∷ run) (pieces items) (inr p) h

words_from : (run x : List ℕ) → All IsWordByte run → IsLeft x → AreWords (items_from run x)
words_from run [] p l = words_ended run [] p (All-nil IsWord)
words_from run (b ∷ x) p l =
    let anew = words_from [] x (All-nil IsWordByte) (left_behind b x l) in
    let more : All IsWordByte (run ++ b ∷ []) → AreWords (items_from (run ++ b ∷ []) x) = λ q. words_from (run ++ b ∷ []) x q (left_behind b x l) in
    cond_both (b == 95) _ _ AreWords (λ u. words_ended run (hole ∷ items_from [] x) p anew)
    (λ u. cond_both (b == 96) _ _ AreWords (λ q. words_ended run (items_from [] x) p anew)
    (λ q. cond_both (is_punctuation b) _ _ AreWords
    (λ m. words_ended run (piece (b ∷ []) ∷ items_from [] x) p (All-cons IsWord (b ∷ []) (pieces (items_from [] x)) (inl m) anew))
    (λ m. more (All-push IsWordByte run b p (left_byte b x m l, q, m)))))

-- a proper token is left of itself
proper_left : (x : List ℕ) → IsProper x → IsLeft x
proper_left [] h = tt
proper_left (b ∷ []) (inl mark) = inr (mark, refl)
proper_left (b ∷ c ∷ x) (inl mark) = absurd mark
proper_left (b ∷ x) (inr run) = inl run.0

-- the first piece of a token that begins with a quotation mark begins so
no_quoted : (x : List ℕ) → IsQuoted x → All BeginsNothing (pieces (items_of x)) → ⊥
no_quoted [] q h = absurd q
no_quoted (b ∷ x) q h =
    let at : All BeginsNothing (pieces (items_of (34 ∷ x))) = subst (λ (c : ℕ). All BeginsNothing (pieces (items_of (c ∷ x)))) q h in
    let first = subst (λ (items : List NameItem). All BeginsNothing (pieces items)) (run_first 34 x refl) at in
    (All-head BeginsNothing _ _ first).0 refl

-- the pieces of a token, and of tokens
token_words : (t : List ℕ) → IsTokenText t → All BeginsNothing (pieces (items_of t)) → AreWords (items_of t)
token_words t (inl proper) h = words_from [] t (All-nil IsWordByte) (proper_left t proper)
token_words t (inr quoted) h = absurd (no_quoted t quoted h)

-- what holds of the pieces of items and of others behind them, apart and together
module _ (P : List ℕ → Type 0) where
  pieces_parts : (xs ys : List NameItem) → All P (pieces (xs ++ ys)) → All P (pieces xs) × All P (pieces ys)
  pieces_parts [] ys h = (All-nil P, h)
  pieces_parts (hole ∷ xs) ys h = pieces_parts xs ys h
  pieces_parts (piece x ∷ xs) ys h =
      let rest = pieces_parts xs ys (All-tail P x (pieces (xs ++ ys)) h) in (All-cons P x (pieces xs) (All-head P x (pieces (xs ++ ys)) h) rest.0, rest.1)

  pieces_both : (xs ys : List NameItem) → All P (pieces xs) → All P (pieces ys) → All P (pieces (xs ++ ys))
  pieces_both [] ys h k = k
  pieces_both (hole ∷ xs) ys h k = pieces_both xs ys h k
  pieces_both (piece x ∷ xs) ys h k = All-cons P x (pieces (xs ++ ys)) (All-head P x (pieces xs) h) (pieces_both xs ys (All-tail P x (pieces xs) h) k)

tokens_words : (ts : List (List ℕ)) → All IsTokenText ts → All BeginsNothing (pieces (items_of_tokens ts)) → AreWords (items_of_tokens ts)
tokens_words [] h n = All-nil IsWord
tokens_words (t ∷ ts) h n =
    let parts = pieces_parts BeginsNothing (items_of t) (items_of_tokens ts) n in
    pieces_both IsWord (items_of t) (items_of_tokens ts) (token_words t (All-head IsTokenText t ts h) parts.0) (tokens_words ts (All-tail IsTokenText t ts h) parts.1)

-- a word before a whole run
whole_behind : (x rest : List ℕ) → All IsWordByte x → IsWhole rest → IsWhole (x ++ rest)
whole_behind [] rest p h = h
whole_behind (b ∷ x) rest p h =
    let byte = All-head IsWordByte b x p in whole_one b (x ++ rest) byte.0 (takes_none b (x ++ rest) byte.1) (whole_behind x rest (All-tail IsWordByte b x p) h)

word_whole : (x : List ℕ) → All IsWordByte x → IsWhole x
word_whole x p = rw append-nil at (whole_behind x [] p refl)

-- a word where no string and no comment begins
word_proper : (x : List ℕ) → IsWord x → BeginsNothing x → IsProper x
word_proper [] w n = absurd w
word_proper (b ∷ x) (inl mark) n = inl mark
word_proper (b ∷ x) (inr p) n = inr (word_whole (b ∷ x) p, n.0, n.1)

-- a piece in a name's spelling, with a backquote before it or not, before a whole run
piece_whole : (touching : Bool) (x rest : List ℕ) → IsWord x → IsWhole rest → IsWhole ((if touching || is_mark x then 96 ∷ x else x) ++ rest)
piece_whole touching [] rest w h = absurd w
piece_whole touching (b ∷ []) rest (inl mark) h = rw (or_right touching (is_punctuation b) mark) (whole_two 96 b rest mark h)
piece_whole touching (b ∷ c ∷ x) rest (inl mark) h = absurd mark
piece_whole touching (b ∷ x) rest (inr p) h =
    let behind : IsWhole (b ∷ x ++ rest) = whole_behind (b ∷ x) rest p h in
    cond_both (touching || is_mark (b ∷ x)) (96 ∷ b ∷ x) (b ∷ x) (λ y. IsWhole (y ++ rest)) (λ m. whole_one 96 (b ∷ x ++ rest) refl (All-head IsWordByte b x p).2 behind) (λ m. behind)

-- a name's spelling is a whole run
name_whole : (touching : Bool) (items : List NameItem) → AreWords items → IsWhole (spelled_behind touching items)
name_whole touching [] w = refl
name_whole touching (hole ∷ items) w = let rest = spelled_behind false items in whole_one 95 rest refl (takes_none 95 rest refl) (name_whole false items w)
name_whole touching (piece x ∷ items) w =
    piece_whole touching x (spelled_behind (not (is_mark x)) items) (All-head IsWord x (pieces items) w) (name_whole (not (is_mark x)) items (All-tail IsWord x (pieces items) w))

-- no string and no comment begins in a text with this first byte
begins_with : (b : ℕ) (x : List ℕ) → (b == 34) ≡ false → (b == 42) ≡ false → (b == 45) ≡ false → BeginsNothing (b ∷ x)
begins_with b x q s d = (eqb-false b 34 q, no_comment b s d x)

-- nor in a piece before what is spelled behind it
behind_apart : (items : List NameItem) → (¬ IsQuoted (spelled_behind true items)) × IsApart (spelled_behind true items)
behind_apart [] = ((λ q. q), tt)
behind_apart (hole ∷ items) = (eqb-false 95 34 refl, (refl, refl))
behind_apart (piece x ∷ items) = (eqb-false 96 34 refl, (refl, refl))

begins_before : (x rest : List ℕ) → BeginsNothing x → (¬ IsQuoted rest) × IsApart rest → BeginsNothing (x ++ rest)
begins_before [] rest n h = (h.0, no_comment_before [] rest refl h.1)
begins_before (b ∷ x) rest n h = (n.0, no_comment_before (b ∷ x) rest n.1 h.1)

-- nor in a name's spelling
name_begins : (items : List NameItem) → All BeginsNothing (pieces items) → BeginsNothing (spelled_behind false items)
name_begins [] n = ((λ q. q), refl)
name_begins (hole ∷ items) n = begins_with 95 (spelled_behind false items) refl refl refl
name_begins (piece x ∷ items) n =
    elim (cases_Bool (is_mark x)) [
      | inl m ↦ rw m (begins_with 96 (x ++ spelled_behind false items) refl refl refl)
      | inr m ↦ rw m (begins_before x (spelled_behind true items) (All-head BeginsNothing x (pieces items) n) (behind_apart items))
    ]

-- a name with holes isn't empty
name_proper : (name : List ℕ) → IsWhole name → BeginsNothing name → has_hole (items_of name) ≡ true → IsProper name
name_proper [] w n h = absurd (false≢true h)
name_proper (b ∷ x) w n h = inr (w, n.0, n.1)

-- a name of tokens is proper
pub names_are_proper : NamesAreProper
names_are_proper ts tokens begins =
    let items = items_of_tokens ts in
    let words = tokens_words ts tokens begins in
    let each : All IsProper (pieces items) = λ k d h. word_proper _ (words k d h) (begins k d h) in
    (subst (λ (items : List NameItem). All IsProper (pieces items)) (sym (spellings_read ts)) each, name_proper (name_of_tokens ts) (name_whole false items words) (name_begins items begins))
