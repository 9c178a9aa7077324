-- What a text is cut into are tokens.
use Rattle.std.proofs.Common.{◌≡◌, ◌<◌, ◌+◌, ◌-◌, ◌==◌, inl, inr, ℕ, zero, suc, true, false, List, [], ◌∷◌, take, drop, Option, Some, None, Ok, Err, subst, arith}
use Rattle.std.specs.Prelude.{⊤}
use Rattle.std.proofs.lemmas.Bool.{cond_both, eqb-true, eqb-false}
use Rattle.std.proofs.lemmas.List.Elements.{All-nil, All-cons}
use Rattle.mw_lex.specs.declared.token.Token.{Token}
use Rattle.mw_lex.specs.Bytes.{is_blank, is_visible, is_punctuation}
use Rattle.mw_lex.specs.Pieces.{run_len, line_len, string_len, block_len, opens_comment, closed, comment_piece, quoted, word_piece, plain_piece, piece_of}
use Rattle.mw_lex.specs.Lexing.{Lexed, with_front, token_at, meaning, lexed, line_after}
use Rattle.mw_lex.specs.Texts.{IsRun, IsQuoted, IsTokenText, AreTokens, LexedAreTokens}
use Rattle.mw_lex.specs.declared.pieces.Piece.{Piece}
use Rattle.mw_lex.specs.declared.pieces.Piece.TheVariants as piece
use Rattle.mw_lex.proofs.Runs.{IsWhole, run_some, front_whole}
use Rattle.mw_lex.proofs.Comments.{no_comment_front}

-- the piece is no token, or the first bytes of the text are one
abbrev CutsToken : List ℕ → Piece → Type 0
CutsToken s (piece.Token n) = IsTokenText (take n s)
CutsToken s (piece.Skip n) = ⊤
CutsToken s piece.Bad = ⊤
CutsToken s piece.Unended = ⊤

-- a comment is no token
closed_cuts : (s : List ℕ) (len : Option ℕ) → CutsToken s (closed len)
closed_cuts s (Some n) = tt
closed_cuts s None = tt

comment_cuts : (s x : List ℕ) → CutsToken s (comment_piece x)
comment_cuts s [] = tt
comment_cuts s (b ∷ x) = cond_both (b == 40) (closed (block_len 1 x)) (piece.Skip (3 + line_len (b ∷ x))) (CutsToken s) (λ e. closed_cuts s (block_len 1 x)) (λ e. tt)

-- the first bytes of what begins with a quotation mark
quoted_front : (n b : ℕ) (rest : List ℕ) → b ≡ 34 → 0 < n → IsQuoted (take n (b ∷ rest))
quoted_front zero b rest e h = absurd (omega arith)
quoted_front (suc n) b rest e h = e

quoted_cuts : (b : ℕ) (rest : List ℕ) (len : Option ℕ) (run : ℕ) → b ≡ 34 → 0 < run → CutsToken (b ∷ rest) (quoted len run)
quoted_cuts b rest (Some n) run e h = inr (quoted_front (1 + n) b rest e (omega arith))
quoted_cuts b rest None run e h = inr (quoted_front run b rest e h)

-- the first bytes that are a run
run_front : (n b : ℕ) (rest : List ℕ) → 0 < n → IsWhole (take n (b ∷ rest)) → (b == 34) ≡ false → opens_comment (b ∷ rest) ≡ false → IsRun (take n (b ∷ rest))
run_front zero b rest some whole q c = absurd (omega arith)
run_front (suc n) b rest some whole q c = (whole, eqb-false b 34 q, no_comment_front (suc n) (b ∷ rest) c)

-- what begins with a byte that stands in tokens
module _ (b : ℕ) (rest : List ℕ) (c : opens_comment (b ∷ rest) ≡ false) where
  run_cuts : 0 < run_len (b ∷ rest) → (b == 34) ≡ false → CutsToken (b ∷ rest) (piece.Token (run_len (b ∷ rest)))
  run_cuts some q = inl (inr (run_front (run_len (b ∷ rest)) b rest some (front_whole (b ∷ rest)) q c))

  string_cuts : 0 < run_len (b ∷ rest) → (b == 34) ≡ true → CutsToken (b ∷ rest) (quoted (string_len 34 rest) (run_len (b ∷ rest)))
  string_cuts some q = quoted_cuts b rest (string_len 34 rest) (run_len (b ∷ rest)) (eqb-true b 34 q) some

  word_cuts : is_visible b ≡ true → CutsToken (b ∷ rest) (word_piece b rest)
  word_cuts v =
      let some : is_punctuation b ≡ false → 0 < run_len (b ∷ rest) = λ p. run_some (b ∷ rest) (omega arith) v p in
      cond_both (is_punctuation b) _ _ (CutsToken (b ∷ rest)) (λ p. inl (inl p)) (λ p. cond_both (b == 34) _ _ (CutsToken (b ∷ rest)) (string_cuts (some p)) (run_cuts (some p)))

  plain_cuts : CutsToken (b ∷ rest) (plain_piece b rest)
  plain_cuts = cond_both (is_blank b) _ _ (CutsToken (b ∷ rest)) (λ e. tt) (λ e. cond_both (is_visible b) _ _ (CutsToken (b ∷ rest)) word_cuts (λ v. tt))

front_cuts : (b : ℕ) (rest : List ℕ) → CutsToken (b ∷ rest) (piece_of b rest)
front_cuts b rest = cond_both (opens_comment (b ∷ rest)) _ _ (CutsToken (b ∷ rest)) (λ c. comment_cuts (b ∷ rest) (drop 3 (b ∷ rest))) (plain_cuts b rest)

-- these are tokens, or there is a fault
abbrev HasTokens : Lexed → Type 0
HasTokens (Ok ts) = AreTokens ts
HasTokens (Err e) = ⊤

front_tokens : (t : Token) (r : Lexed) → IsTokenText t.text → HasTokens r → HasTokens (with_front (t ∷ []) r)
front_tokens t (Ok ts) h k = All-cons (λ (t : Token). IsTokenText t.text) t ts h k
front_tokens t (Err e) h k = tt

-- a piece, and what is lexed behind it
meant : (p : Piece) (at line : ℕ) (s : List ℕ) (next : ℕ → Lexed) → CutsToken s p → ((k : ℕ) → HasTokens (next k)) → HasTokens (meaning p at line s next)
meant (piece.Skip n) at line s next h k = k (n - 1)
meant (piece.Token n) at line s next h k = front_tokens (token_at n at line s) (next (n - 1)) h (k (n - 1))
meant piece.Bad at line s next h k = tt
meant piece.Unended at line s next h k = tt

lexed_tokens : (skip at line : ℕ) (s : List ℕ) → HasTokens (lexed skip at line s)
lexed_tokens skip at line [] = All-nil (λ (t : Token). IsTokenText t.text)
lexed_tokens (suc k) at line (b ∷ rest) = lexed_tokens k (at + 1) (line_after b line) rest
lexed_tokens zero at line (b ∷ rest) =
    meant (piece_of b rest) at line (b ∷ rest) (λ k. lexed k (at + 1) (line_after b line) rest) (front_cuts b rest) (λ k. lexed_tokens k (at + 1) (line_after b line) rest)

-- what a text is cut into are tokens
pub lexed_are_tokens : LexedAreTokens
lexed_are_tokens text tokens e = subst HasTokens e (lexed_tokens 0 0 1 text)
