-- One token more.
use Rattle.std.proofs.Common.{◌≡◌, ◌-◌, ◌==◌, ◌||◌, ℕ, suc, Bool, true, false, List, [], ◌∷◌, ◌++◌, length, get_or, refl, append_assoc, arith}
use Rattle.std.proofs.lemmas.List.{append-nil}
use Rattle.std.specs.Prelude.{codes, if◌then◌else◌}
use Rattle.mw_print.specs.Tokens.{Token, text_of, is_near, is_apart, opens, ends_in_backquote}
use Rattle.mw_print.specs.declared.writer.End.TheVariants.{Apart, Opened, Plain}
use Rattle.mw_print.specs.declared.writer.End.{End}
use Rattle.mw_print.specs.declared.writer.Writer.{Writer}
use Rattle.mw_print.specs.Writing.{end_of, space, behind, written}

-- the space behind a token by how it ends
space_of : (apart opened near : Bool) → space (if apart then Apart else if opened then Opened else Plain) near ≡ (if apart then codes " " else if opened || near then [] else codes " ")
space_of true opened near = refl
space_of false true near = refl
space_of false false near = refl

-- a text with a token more, and what comes behind
behind_more : (text : List ℕ) (end : End) (x : Token) (ts : List Token)
    → ((text ++ space end (is_near x)) ++ text_of x) ++ behind (end_of x) ts ≡ text ++ behind end (x ∷ ts)
behind_more text end x [] = simp (append_assoc, append-nil)
behind_more text end x (y ∷ ts) =
    rw (space_of (is_apart x) (opens (text_of x)) (is_near y)) (simp append_assoc)

-- the same of writers
pub wrote : (w v : Writer) (x : Token) → v.text.items ≡ (w.text.items ++ space w.end (is_near x)) ++ text_of x → v.end ≡ end_of x
    → (ts : List Token) → written v ts ≡ written w (x ∷ ts)
wrote w v x e f ts = rw (e, f) (behind_more w.text.items w.end x ts)

-- the last byte tells whether a token ends in a backquote
pub last_backquote : (b : ℕ) (x : List ℕ) → (get_or (b ∷ x) (length (b ∷ x) - 1) 0 == 96) ≡ ends_in_backquote (b ∷ x)
last_backquote b [] = refl
last_backquote b (c ∷ x) =
    let shorter : length (b ∷ c ∷ x) - 1 ≡ suc (length (c ∷ x) - 1) = omega arith in
    rw shorter (last_backquote c x)
