-- The reader's levels as frames, and arguments that are put behind others.
use Rattle.std.specs.Prelude.{◌≡◌, ℕ, ◌+◌, ◌<◌, ◌≤◌, List, [], ◌∷◌, ◌++◌, length, refl, Option, Some, None, option_map}
use Rattle.std.proofs.Common.{ap, ◌∙◌, arith}
use Rattle.std.proofs.lemmas.Bool.{lt-ltb, le-ltb}
use Rattle.mw_logic.specs.Term.{cons}
use Rattle.mw_logic.specs.Signature.{Signature}
use Rattle.mw_term.specs.declared.raw.Raw.{Raw}
use Rattle.mw_term.specs.Raws.{raw_term, raw_terms}
use Rattle.mw_prefix.specs.Reading as spec
use Rattle.mw_prefix.specs.Reading.{Frame, with_last}
use Rattle.mw_prefix.specs.States.{frame_of, frames_of, state_of}
use Rattle.mw_prefix.specs.declared.reading.Level.{Level}
use Rattle.mw_prefix.specs.declared.reading.Last.TheVariants.{Nothing}

frames_last : (ls : List Level) (l : Level) (fs : List Frame) → frames_of (ls ++ l ∷ []) fs ≡ frame_of l ∷ frames_of ls fs
frames_last [] l fs = refl
frames_last (k ∷ ls) l fs = frames_last ls l (frame_of k ∷ fs)

frames_length : (ls : List Level) (fs : List Frame) → length (frames_of ls fs) ≡ length ls + length fs
frames_length [] fs = omega arith
frames_length (l ∷ ls) fs = let h = frames_length ls (frame_of l ∷ fs) in omega (arith, h)

raws_last : (rs : List Raw) (r : Raw) → raw_terms (rs ++ r ∷ []) ≡ with_last (raw_terms rs) (raw_term r)
raws_last [] r = refl
raws_last (q ∷ rs) r = ap (cons (raw_term q)) (raws_last rs r)

-- The reader's steps on its levels, by what its vectors hold.
pub comma_is : (ls ks ns : List Level) (l n : Level) (t : Raw) (d : List Raw) → ls ≡ ks ++ l ∷ [] → d ≡ l.args.items ++ t ∷ [] → n.operator ≡ l.operator → n.args.items ≡ d → ns ≡ ks ++ n ∷ []
    → Some (state_of ns Nothing) ≡ spec.at_comma (frames_of ls []) (raw_term t)
comma_is ls ks ns l n t d a b o e s = rw (a, s, frames_last ks l [], frames_last ks n [], o, e, b, raws_last l.args.items t) refl

pub closing_is : (sig : Signature) (ls ks : List Level) (l : Level) (t : Raw) (d : List Raw) (o : Option Raw) → ls ≡ ks ++ l ∷ [] → d ≡ l.args.items ++ t ∷ [] → option_map raw_term o ≡ spec.taken sig l.operator (raw_terms d)
    → spec.with_term (frames_of ks []) (option_map raw_term o) ≡ spec.at_closing sig (frames_of ls []) (raw_term t)
closing_is sig ls ks l t d o a b e = rw (a, frames_last ks l [], ← raws_last l.args.items t, ← b, ← e) refl

pub opening_is : (ls ns : List Level) (n : Level) (f : ℕ) → n.operator ≡ f → n.args.items ≡ [] → ns ≡ ls ++ n ∷ [] → length ls < 999 → Some (state_of ns Nothing) ≡ spec.at_opening (frames_of ls []) f
opening_is ls ns n f o e s h =
    let k : length (frames_of ls []) ≡ length ls = frames_length ls [] ∙ omega arith in
    rw (s, frames_last ls n [], k, lt-ltb (length ls) 999 h, o, e) refl

pub shut_is : (ls : List Level) (f : ℕ) → 999 ≤ length ls → None ≡ spec.at_opening (frames_of ls []) f
shut_is ls f h =
    let k : length (frames_of ls []) ≡ length ls = frames_length ls [] ∙ omega arith in
    rw (k, le-ltb (length ls) 999 h) refl

-- a parenthesis is open
pub open_whole : (ls : List Level) → 0 < length ls → (sig : Signature) (l : spec.Last) → None ≡ spec.whole_by sig (frames_of ls []) l
open_whole ls h sig l = at (frames_of ls []) (let e = frames_length ls [] in omega (arith, e, h))
  where
    at : (fs : List Frame) → 0 < length fs → None ≡ spec.whole_by sig fs l
    at [] h = absurd (omega (arith, h))
    at (c ∷ fs) h = refl
