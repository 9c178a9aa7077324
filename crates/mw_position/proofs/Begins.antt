-- Lists of values that begin with others.
use Rattle.std.specs.Prelude.{◌≡◌, ◌<◌, ◌≤◌, ℕ, zero, suc, List, [], ◌∷◌, ◌++◌, length, take, drop, Some, slice_get, refl}
use Rattle.std.proofs.Common.{ap, sym, subst, ◌∙◌, arith, take-append-drop}
use Rattle.mw_logic.specs.Term.{RawTerm}
use Rattle.mw_position.specs.Positions.{Begins}

pub begins_same : (vs : List RawTerm) → Begins vs vs
begins_same [] = tt
begins_same (v ∷ vs) = (refl, begins_same vs)

pub begins_then : (vs ws us : List RawTerm) → Begins vs ws → Begins ws us → Begins vs us
begins_then [] ws us a b = tt
begins_then (v ∷ vs) [] us a b = absurd a
begins_then (v ∷ vs) (w ∷ ws) [] a b = absurd b
begins_then (v ∷ vs) (w ∷ ws) (u ∷ us) a b = (a.0 ∙ b.0, begins_then vs ws us a.1 b.1)

pub begins_at : (vs us : List RawTerm) (i : ℕ) (v : RawTerm) → Begins vs us → slice_get vs i ≡ Some v → slice_get us i ≡ Some v
begins_at [] us i v b h = cc
begins_at (x ∷ vs) [] i v b h = absurd b
begins_at (x ∷ vs) (u ∷ us) zero v b h = let e = b.0 in cc
begins_at (x ∷ vs) (u ∷ us) (suc i) v b h = begins_at vs us i v b.1 h

-- one value more
pub begins_put : (vs us : List RawTerm) (t : RawTerm) → Begins vs us → slice_get us (length vs) ≡ Some t → Begins (vs ++ t ∷ []) us
begins_put [] [] t b h = cc
begins_put [] (u ∷ us) t b h = ((cc), tt)
begins_put (x ∷ vs) [] t b h = absurd b
begins_put (x ∷ vs) (u ∷ us) t b h = (b.0, begins_put vs us t b.1 h)

pub begins_last : (vs us : List RawTerm) (t : RawTerm) → Begins (vs ++ t ∷ []) us → slice_get us (length vs) ≡ Some t
begins_last [] [] t b = absurd b
begins_last [] (u ∷ us) t b = ap Some (sym b.0)
begins_last (x ∷ vs) [] t b = absurd b
begins_last (x ∷ vs) (u ∷ us) t b = begins_last vs us t b.1

-- at each place
pub begins_get : (vs us : List RawTerm) (i : ℕ) → Begins vs us → i < length vs → slice_get us i ≡ slice_get vs i
begins_get [] us i b h = absurd (omega (arith, h))
begins_get (v ∷ vs) [] i b h = absurd b
begins_get (v ∷ vs) (u ∷ us) zero b h = ap Some (sym b.0)
begins_get (v ∷ vs) (u ∷ us) (suc i) b h = begins_get vs us i b.1 (omega (arith, h))

pub begins_append : (vs us : List RawTerm) → Begins vs (vs ++ us)
begins_append [] us = tt
begins_append (v ∷ vs) us = (refl, begins_append vs us)

-- of one length they are one
pub begins_whole : (vs us : List RawTerm) → Begins vs us → length us ≡ length vs → vs ≡ us
begins_whole [] [] b l = refl
begins_whole [] (u ∷ us) b l = absurd (omega (arith, l))
begins_whole (v ∷ vs) [] b l = absurd b
begins_whole (v ∷ vs) (u ∷ us) b l = let e = b.0 in let r = begins_whole vs us b.1 (omega (arith, l)) in cc (e, r)

-- two beginnings of one length are one
pub begins_unique : (us vs ws : List RawTerm) → length us ≡ length vs → Begins us ws → Begins vs ws → us ≡ vs
begins_unique [] [] ws l h k = refl
begins_unique [] (v ∷ vs) ws l h k = cc
begins_unique (u ∷ us) [] ws l h k = cc
begins_unique (u ∷ us) (v ∷ vs) [] l h k = absurd h
begins_unique (u ∷ us) (v ∷ vs) (w ∷ ws) l h k = let e : u ≡ v = h.0 ∙ sym k.0 in let r : us ≡ vs = begins_unique us vs ws (omega (arith, l)) h.1 k.1 in rw (e, r) refl

-- the front of a list, and what it begins with
pub begins_take : (n : ℕ) (us : List RawTerm) → Begins (take n us) us
begins_take n us = subst (Begins (take n us)) (take-append-drop n us) (begins_append (take n us) (drop n us))

pub take_begins : (n : ℕ) (vs us : List RawTerm) → Begins vs us → length vs ≤ n → Begins vs (take n us)
take_begins n [] us h l = tt
take_begins n (v ∷ vs) [] h l = absurd h
take_begins zero (v ∷ vs) (u ∷ us) h l = absurd (omega (arith, l))
take_begins (suc n) (v ∷ vs) (u ∷ us) h l = (h.0, take_begins n vs us h.1 (omega (arith, l)))
