-- How names are read, item by item, and that the prefix spelling of a name reads back as the name.
use Rattle.std.proofs.Common.{ℕ, ◌≡◌, ◌<◌, ◌∙◌, ◌⊎◌, ◌==◌, ◌||◌, not, Bool, true, false, List, [], ◌∷◌, ◌++◌, take, drop, if◌then◌else◌, suc, inl, inr, refl, sym, ap, arith, append_assoc, append-nil}
use Rattle.std.specs.Prelude.{⊤}
use Rattle.std.proofs.lemmas.Bool.{eqb-true}
use Rattle.mw_lex.specs.Bytes.{is_punctuation}
use Rattle.mw_text.specs.Names.{NameItem, piece, hole, ended, items_from, items_of, items_of_tokens, is_mark, spelled_behind, SpellingsRead}
use Rattle.mw_text.specs.Runs.{is_plain, run_len}

-- what is read of a byte, by what kind of byte it is
abbrev read_by : Bool → Bool → Bool → List ℕ → ℕ → List ℕ → List NameItem
read_by underscore backquote punctuation run b rest = if underscore then ended run (hole ∷ items_from [] rest)
    else if backquote then ended run (items_from [] rest)
    else if punctuation then ended run (piece (b ∷ []) ∷ items_from [] rest)
    else items_from (run ++ b ∷ []) rest

goes_on : (run : List ℕ) (b : ℕ) (rest : List ℕ) → is_plain b ≡ true → items_from run (b ∷ rest) ≡ items_from (run ++ b ∷ []) rest
goes_on run b rest h = of (b == 95) (b == 96) (is_punctuation b) h
  where
    of : (p q r : Bool) → not (p || (q || r)) ≡ true → read_by p q r run b rest ≡ items_from (run ++ b ∷ []) rest
    of true q r h = cc
    of false true r h = cc
    of false false true h = cc
    of false false false h = refl

ends_here : (run : List ℕ) (b : ℕ) (rest : List ℕ) → is_plain b ≡ false → items_from run (b ∷ rest) ≡ ended run (items_of (b ∷ rest))
ends_here run b rest h = of (b == 95) (b == 96) (is_punctuation b) h
  where
    of : (p q r : Bool) → not (p || (q || r)) ≡ false → read_by p q r run b rest ≡ ended run (read_by p q r [] b rest)
    of true q r h = refl
    of false true r h = refl
    of false false true h = refl
    of false false false h = cc

-- a run, and what is read behind it
run_read : (run text : List ℕ) → items_from run text ≡ ended (run ++ take (run_len text) text) (items_of (drop (run_len text) text))
run_read run [] = ap (λ r. ended r []) (sym (append-nil run))
run_read run (b ∷ rest) = of (run_read (run ++ b ∷ []) rest) (is_plain b) refl
  where
    of : items_from (run ++ b ∷ []) rest ≡ ended ((run ++ b ∷ []) ++ take (run_len rest) rest) (items_of (drop (run_len rest) rest)) → (c : Bool) → is_plain b ≡ c
        → items_from run (b ∷ rest) ≡ ended (run ++ take (if c then suc (run_len rest) else 0) (b ∷ rest)) (items_of (drop (if c then suc (run_len rest) else 0) (b ∷ rest)))
    of more true e = goes_on run b rest e ∙ more ∙ ap (λ r. ended r (items_of (drop (run_len rest) rest))) (append_assoc run (b ∷ []) (take (run_len rest) rest))
    of more false e = ends_here run b rest e ∙ ap (λ r. ended r (items_of (b ∷ rest))) (sym (append-nil run))

pub run_first : (b : ℕ) (rest : List ℕ) → is_plain b ≡ true → items_of (b ∷ rest) ≡ piece (take (run_len (b ∷ rest)) (b ∷ rest)) ∷ items_of (drop (run_len (b ∷ rest)) (b ∷ rest))
run_first b rest h = run_read [] (b ∷ rest) ∙ of (is_plain b) h
  where
    of : (c : Bool) → c ≡ true → ended (take (if c then suc (run_len rest) else 0) (b ∷ rest)) (items_of (drop (if c then suc (run_len rest) else 0) (b ∷ rest)))
        ≡ piece (take (if c then suc (run_len rest) else 0) (b ∷ rest)) ∷ items_of (drop (if c then suc (run_len rest) else 0) (b ∷ rest))
    of true e = refl
    of false e = cc

pub run_some : (b : ℕ) (rest : List ℕ) → is_plain b ≡ true → 0 < run_len (b ∷ rest)
run_some b rest h = of (is_plain b) h
  where
    of : (c : Bool) → c ≡ true → 0 < (if c then suc (run_len rest) else 0)
    of true e = omega arith
    of false e = cc

pub mark_first : (b : ℕ) (rest : List ℕ) → is_punctuation b ≡ true → items_of (b ∷ rest) ≡ piece (b ∷ []) ∷ items_of rest
mark_first b rest h = of (b == 95) refl (b == 96) refl (is_punctuation b) h
  where
    of : (p : Bool) → (b == 95) ≡ p → (q : Bool) → (b == 96) ≡ q → (r : Bool) → r ≡ true → read_by p q r [] b rest ≡ piece (b ∷ []) ∷ items_of rest
    of true e q f r g = let same = eqb-true b 95 e in let bad : is_punctuation 95 ≡ true = ap is_punctuation (sym same) ∙ h in cc
    of false e true f r g = let same = eqb-true b 96 f in let bad : is_punctuation 96 ≡ true = ap is_punctuation (sym same) ∙ h in cc
    of false e false f true g = refl
    of false e false f false g = cc

abbrev ArePlain : List ℕ → Type 0
ArePlain [] = ⊤
ArePlain (b ∷ x) = (is_plain b ≡ true) × ArePlain x

abbrev IsClean : List ℕ → Type 0
IsClean [] = ⊥
IsClean (b ∷ x) = (is_mark (b ∷ x) ≡ true) ⊎ ArePlain (b ∷ x)

abbrev AreClean : List NameItem → Type 0
AreClean [] = ⊤
AreClean (hole ∷ items) = AreClean items
AreClean (piece x ∷ items) = IsClean x × AreClean items

plain_push : (run : List ℕ) (b : ℕ) → ArePlain run → is_plain b ≡ true → ArePlain (run ++ b ∷ [])
plain_push [] b p e = (e, tt)
plain_push (c ∷ run) b p e = (p.0, plain_push run b p.1 e)

clean_ended : (run : List ℕ) (items : List NameItem) → ArePlain run → AreClean items → AreClean (ended run items)
clean_ended [] items p c = c
clean_ended (b ∷ run) items p c = (inr p, c)

clean_from : (run text : List ℕ) → ArePlain run → AreClean (items_from run text)
clean_from run [] p = clean_ended run [] p tt
clean_from run (b ∷ rest) p = of (clean_from [] rest tt) (clean_from (run ++ b ∷ []) rest) (b == 95) refl (b == 96) refl (is_punctuation b) refl
  where
    of : AreClean (items_from [] rest) → (ArePlain (run ++ b ∷ []) → AreClean (items_from (run ++ b ∷ []) rest)) → (u : Bool) → (b == 95) ≡ u → (q : Bool) → (b == 96) ≡ q → (m : Bool) → is_punctuation b ≡ m → AreClean (read_by u q m run b rest)
    of anew on true d q e m f = clean_ended run (hole ∷ items_from [] rest) p anew
    of anew on false d true e m f = clean_ended run (items_from [] rest) p anew
    of anew on false d false e true f = clean_ended run (piece (b ∷ []) ∷ items_from [] rest) p (inl f, anew)
    of anew on false d false e false f = on (plain_push run b p (rw (d, e, f) refl))

clean_append : (xs ys : List NameItem) → AreClean xs → AreClean ys → AreClean (xs ++ ys)
clean_append [] ys c d = d
clean_append (hole ∷ xs) ys c d = clean_append xs ys c d
clean_append (piece x ∷ xs) ys c d = (c.0, clean_append xs ys c.1 d)

clean_tokens : (ts : List (List ℕ)) → AreClean (items_of_tokens ts)
clean_tokens [] = tt
clean_tokens (t ∷ ts) = clean_append (items_of t) (items_of_tokens ts) (clean_from [] t tt) (clean_tokens ts)

plain_read : (run x rest : List ℕ) → ArePlain x → items_from run (x ++ rest) ≡ items_from (run ++ x) rest
plain_read run [] rest p = ap (λ r. items_from r rest) (sym (append-nil run))
plain_read run (b ∷ x) rest p = goes_on run b (x ++ rest) p.0 ∙ plain_read (run ++ b ∷ []) x rest p.1 ∙ ap (λ r. items_from r rest) (append_assoc run (b ∷ []) x)

no_mark : (b : ℕ) (x : List ℕ) → ArePlain (b ∷ x) → is_mark (b ∷ x) ≡ false
no_mark b [] p = of (b == 95) (b == 96) (is_punctuation b) p.0
  where
    of : (p q r : Bool) → not (p || (q || r)) ≡ true → r ≡ false
    of true q r h = cc
    of false true r h = cc
    of false false true h = cc
    of false false false h = refl
no_mark b (c ∷ x) p = refl

-- items read back behind a piece, and by themselves
record AreRead (items : List NameItem) : Type 0 where
  touching : (run : List ℕ) → items_from run (spelled_behind true items) ≡ ended run items
  apart : items_of (spelled_behind false items) ≡ items

piece_read : (x : List ℕ) (items : List NameItem) → IsClean x → AreRead items → items_of (x ++ spelled_behind (not (is_mark x)) items) ≡ piece x ∷ items
piece_read [] items h r = absurd h
piece_read (b ∷ []) items (inl e) r =
    mark_first b (spelled_behind (not (is_punctuation b)) items) e
    ∙ ap (λ m. piece (b ∷ []) ∷ items_of (spelled_behind (not m) items)) e
    ∙ ap (λ r. piece (b ∷ []) ∷ r) r.apart
piece_read (b ∷ d ∷ x) items (inl e) r = cc
piece_read (b ∷ x) items (inr p) r =
    plain_read [] (b ∷ x) (spelled_behind (not (is_mark (b ∷ x))) items) p
    ∙ ap (λ m. items_from (b ∷ x) (spelled_behind (not m) items)) (no_mark b x p)
    ∙ r.touching (b ∷ x)

read_back : (items : List NameItem) → AreClean items → AreRead items
read_back [] c = record { touching = λ run. refl; apart = refl }
read_back (hole ∷ items) c =
    let r = read_back items c in record { touching = λ run. ap (λ m. ended run (hole ∷ m)) r.apart; apart = ap (λ m. hole ∷ m) r.apart }
read_back (piece x ∷ items) c =
    let r = piece_read x items c.0 (read_back items c.1) in record { touching = λ run. ap (ended run) r; apart = of (is_mark x) ∙ r }
  where
    of : (m : Bool) → items_of ((if m then 96 ∷ x else x) ++ spelled_behind (not (is_mark x)) items) ≡ items_of (x ++ spelled_behind (not (is_mark x)) items)
    of true = refl
    of false = refl

pub spellings_read : SpellingsRead
spellings_read ts = (read_back (items_of_tokens ts) (clean_tokens ts)).apart
