-- The tokens that came so far lie in the text in their order.
use Rattle.std.proofs.Common.{◌≡◌, ◌∙◌, ◌+◌, ◌-◌, ◌<◌, ◌≤◌, ◌==◌, inl, inr, ℕ, true, false, cond, List, [], ◌∷◌, ◌++◌, length, take, drop, refl, sym, ap, subst, arith, length-drop, length-take}
use Rattle.std.specs.Prelude.{All}
use Rattle.std.proofs.lemmas.List.{take-append-drop}
use Rattle.std.proofs.Math.Seq.{take-append-add, drop-append-add}
use Rattle.std.proofs.lemmas.List.Elements.{All-append, All-nil, All-cons}
use Rattle.std.proofs.lemmas.List.Quantifiers.{all_pairs_push}
use Rattle.std.proofs.lemmas.List.Sums.{sum_by-append}
use Rattle.mw_lex.specs.declared.token.Token.{Token}
use Rattle.mw_lex.specs.Lexing.{token_at, line_after, line_behind}
use Rattle.mw_lex.specs.Places.{line_feeds, IsPlaced, IsBefore, AreInOrder, Adds}

-- the tokens so far, before this place and line of the text, and what is left from there
pub record Kept (text : List ℕ) (found : List Token) (at line : ℕ) (rest : List ℕ) : Type 0 where
  pub left : rest ≡ drop at text
  pub within : at ≤ length text
  pub counted : line ≡ 1 + line_feeds (take at text)
  pub order : AreInOrder text found
  pub before : All (λ t. t.to ≤ at) found

line_after-is : (b line : ℕ) → line_after b line ≡ line + cond (b == 10) 1 0
line_after-is b line = elim (b == 10) as (λ c. cond c (line + 1) line ≡ line + cond c 1 0) [ true ↦ refl | false ↦ omega arith ]

-- the line behind a text, by its line feeds
line_behind-is : (s : List ℕ) (line : ℕ) → line_behind s line ≡ line + line_feeds s
line_behind-is [] line = omega arith
line_behind-is (b ∷ rest) line =
    let more : line_feeds (b ∷ rest) ≡ 0 + cond (b == 10) 1 0 + line_feeds rest = sum_by-append (λ x. cond (x == 10) 1 0) (b ∷ []) rest in
    omega (arith, line_behind-is rest (line_after b line), line_after-is b line, more)

-- what comes before a later place, and what comes behind it
seam : (text : List ℕ) (at len : ℕ) → at ≤ length text
    → (take (at + len) text ≡ take at text ++ take len (drop at text)) × (drop (at + len) text ≡ drop len (drop at text))
seam text at len h =
    let size : length (take at text) ≡ at = omega (arith, length-take at text) in
    let both : take at text ++ drop at text ≡ text = take-append-drop at text in
    let front = take-append-add (take at text) (drop at text) len in
    let back = drop-append-add (take at text) (drop at text) len in
    (rw (size, both) at front, rw (size, both) at back)

-- a token that is the first bytes of what is left
placed_next : (text : List ℕ) (t : Token) (at line len : ℕ) (rest : List ℕ) → rest ≡ drop at text → at ≤ length text → line ≡ 1 + line_feeds (take at text)
    → 0 < len → len ≤ length rest → t ≡ token_at len at line rest → IsPlaced text t
placed_next text t at line len rest left within counted some short is =
    let from : t.from ≡ at = ap (λ (s : Token). s.from) is in
    let to : t.to ≡ at + len = ap (λ (s : Token). s.to) is in
    let copied : t.text ≡ take len rest = ap (λ (s : Token). s.text) is in
    let on : t.line ≡ line = ap (λ (s : Token). s.line) is in
    let long : t.to - t.from ≡ len = omega arith in
    record {
      some = omega arith;
      within = omega (arith, length-drop at text, ap length left);
      copied = rw (long, from, copied, left) refl;
      line = rw (on, from) counted;
    }

-- the state behind the next piece
pub kept_more : (text : List ℕ) (found found' : List Token) (at line line' len : ℕ) (rest : List ℕ) → Kept text found at line rest
    → Adds found found' at line len rest → 0 < len → len ≤ length rest → line' ≡ line_behind (take len rest) line → Kept text found' (at + len) line' (drop len rest)
kept_more text found found' at line line' len rest k adds some short next =
    let cut = seam text at len k.within in
    let counted : line_feeds (take (at + len) text) ≡ line_feeds (take at text) + line_feeds (take len rest)
    = rw (cut.0, ← k.left) (sum_by-append (λ x. cond (x == 10) 1 0) (take at text) (take len rest)) in
    let kept : (ts : List Token) → AreInOrder text ts → All (λ t. t.to ≤ at + len) ts → Kept text ts (at + len) line' (drop len rest)
    = λ ts order before. record {
      left = ap (drop len) k.left ∙ sym cut.1;
      within = omega (arith, length-drop at text, ap length k.left);
      counted = omega (arith, next, line_behind-is (take len rest) line, k.counted, counted);
      order = order;
      before = before;
    } in
    let earlier : All (λ t. t.to ≤ at + len) found = λ i d h. omega (arith, k.before i d h) in
    elim adds [
      | inl same ↦ subst (λ (ts : List Token). Kept text ts (at + len) line' (drop len rest)) (sym same) (kept found k.order earlier)
      | inr (t, more, is) ↦
          let from : t.from ≡ at = ap (λ (s : Token). s.from) is in
          let to : t.to ≡ at + len = ap (λ (s : Token). s.to) is in
          let placed : IsPlaced text t = placed_next text t at line len rest k.left k.within k.counted some short is in
          subst (λ (ts : List Token). Kept text ts (at + len) line' (drop len rest)) (sym more) (kept (found ++ t ∷ [])
          (record {
            placed = All-append (IsPlaced text) found (t ∷ []) k.order.placed (All-cons (IsPlaced text) t [] placed (All-nil (IsPlaced text)));
            ordered = all_pairs_push IsBefore found t k.order.ordered (λ i d h. omega (arith, k.before i d h));
          })
          (All-append (λ u. u.to ≤ at + len) found (t ∷ []) earlier (All-cons (λ u. u.to ≤ at + len) t [] (omega arith) (All-nil (λ u. u.to ≤ at + len)))))
    ]
