-- What a unit gives, from what is known of its text.
use Rattle.std.proofs.Common.{◌≡◌, ℕ, List, Bool, true, subst, sym, refl, Option, Some, None, option_map, Result, Ok, Err, MatchResult}
use Rattle.std.specs.Borrow.{Bor}
use Rattle.mw_top.specs.declared.purpose.Purpose.{Purpose}
use Rattle.mw_lex.specs.declared.token.Token.{Token}
use Rattle.mw_module.specs.declared.faults.Fault.{Fault}
use Rattle.mw_module.specs.Units.{Outcome}
use Rattle.mw_top.specs.Sources.{Loaded, Gives, told_refusal}

pub refused_gives : (purpose : Purpose) (before : Loaded) (out : Outcome) (r : Fault) (text : List ℕ) (refused : Bool) → Gives purpose before out (told_refusal purpose r) true before
    → (text ≡ told_refusal purpose r) × (refused ≡ true) → Gives purpose before out text refused before
refused_gives purpose before out r text refused g h =
    subst (λ b. Gives purpose before out text b before) (sym h.1) (subst (λ t. Gives purpose before out t true before) (sym h.0) g)

-- where no value is there
pub none_there : {A B : Type 0} (f : A → B) (r : Option A) (o : Option B) → ((x : A) → r ≡ Some x → ⊥) → option_map f r ≡ o → o ≡ None
none_there f None o h e = sym e
none_there f (Some x) o h e = absurd (h x refl)

pub none_named : (o : Option (Bor Token)) → ((t : Bor Token) → o ≡ Some t → ⊥)
    → option_map (λ (x : Token). x.text) (option_map (λ (t : Bor Token). t.now) o) ≡ None
none_named None h = refl
none_named (Some t) h = absurd (h t refl)

-- what is known of a value, and of an error
pub match_both : {A E : Type 0} {P P' : A → Type 0} {Q Q' : E → Type 0} (r : Result A E) → MatchResult r P Q → ((x : A) → P x → P' x) → ((x : E) → Q x → Q' x) → MatchResult r P' Q'
match_both (Ok y) h f g = f y h
match_both (Err y) h f g = g y h

pub match_ok : {A E : Type 0} (P : A → Type 0) (Q : E → Type 0) (r : Result A E) → MatchResult r P Q → (x : A) → r ≡ Ok x → P x
match_ok P Q (Ok y) h x e = let same : y ≡ x = (cc) in subst P same h
match_ok P Q (Err y) h x e = cc

pub match_err : {A E : Type 0} (P : A → Type 0) (Q : E → Type 0) (r : Result A E) → MatchResult r P Q → (x : E) → r ≡ Err x → Q x
match_err P Q (Ok y) h x e = cc
match_err P Q (Err y) h x e = let same : y ≡ x = (cc) in subst Q same h
