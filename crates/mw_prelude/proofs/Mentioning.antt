-- What texts mention, one after the other.
use Rattle.std.proofs.Common.{◌≡◌, ◌∙◌, ◌||◌, ◌++◌, ℕ, List, [], ◌∷◌, Bool, true, false, if◌then◌else◌, refl, ap, append_assoc}
use Rattle.std.specs.List.{list_any}
use Rattle.mw_prelude.specs.declared.modules.Predefined.{Predefined}
use Rattle.mw_prelude.specs.declared.modules.Predefined.TheVariants as module_of
use Rattle.mw_prelude.specs.declared.mentions.Mentioned.{Mentioned}
use Rattle.mw_prelude.specs.Modules.{text_of}
use Rattle.mw_prelude.specs.Mentions.{asks_for, mentioned_with, mentioned_from, mentioned_in, prelude_for}

abbrev named : Predefined → List (List ℕ) → Bool
named m texts = list_any (asks_for m) texts

assoc : (a b c : Bool) → ((a || b) || c) ≡ (a || (b || c))
assoc true b c = refl
assoc false b c = refl

nat_from : (m : Mentioned) (texts : List (List ℕ)) → (mentioned_from m texts).nat ≡ (m.nat || named module_of.Nat texts)
nat_from m [] = of m.nat
  where
    of : (b : Bool) → b ≡ (b || false)
    of true = refl
    of false = refl
nat_from m (t ∷ texts) = nat_from (mentioned_with m t) texts ∙ assoc m.nat (asks_for module_of.Nat t) (named module_of.Nat texts)

qid_from : (m : Mentioned) (texts : List (List ℕ)) → (mentioned_from m texts).qid ≡ (m.qid || named module_of.Qid texts)
qid_from m [] = of m.qid
  where
    of : (b : Bool) → b ≡ (b || false)
    of true = refl
    of false = refl
qid_from m (t ∷ texts) = qid_from (mentioned_with m t) texts ∙ assoc m.qid (asks_for module_of.Qid t) (named module_of.Qid texts)

configuration_from : (m : Mentioned) (texts : List (List ℕ)) → (mentioned_from m texts).configuration ≡ (m.configuration || named module_of.Configuration texts)
configuration_from m [] = of m.configuration
  where
    of : (b : Bool) → b ≡ (b || false)
    of true = refl
    of false = refl
configuration_from m (t ∷ texts) =
    configuration_from (mentioned_with m t) texts ∙ assoc m.configuration (asks_for module_of.Configuration t) (named module_of.Configuration texts)

some_from : (m : Mentioned) (texts : List (List ℕ)) → m.some ≡ true → (mentioned_from m texts).some ≡ true
some_from m [] e = e
some_from m (t ∷ texts) e = some_from (mentioned_with m t) texts refl

-- a module's text, where it is asked for
abbrev pub part : Bool → Predefined → List ℕ
part asked m = if asked then text_of m else []

-- four lists that are added one after the other
pub in_order : (a b c d : List ℕ) {v w x y z : List ℕ} → v ≡ [] → w ≡ v ++ a → x ≡ w ++ b → y ≡ x ++ c → z ≡ y ++ d → z ≡ (a ++ (b ++ (c ++ d)))
in_order a b c d none first second third last =
    last
    ∙ ap (λ y. y ++ d) (third ∙ ap (λ x. x ++ c) (second ∙ ap (λ w. w ++ b) (first ∙ ap (λ v. v ++ a) none)))
    ∙ append_assoc (a ++ b) c d ∙ append_assoc a b (c ++ d)

-- the four texts, each where it is asked for, are what is needed
pub needed : (m : Mentioned) (texts : List (List ℕ)) → m ≡ mentioned_in texts
    → (part m.some module_of.Bool ++ (part m.nat module_of.Nat ++ (part m.qid module_of.Qid ++ part m.configuration module_of.Configuration))) ≡ prelude_for texts
needed m [] is =
    ap (λ (m : Mentioned). part m.some module_of.Bool ++ (part m.nat module_of.Nat ++ (part m.qid module_of.Qid ++ part m.configuration module_of.Configuration))) is
needed m (t ∷ texts) is =
    let start : Mentioned = record { some = false; nat = false; qid = false; configuration = false } in
    let all = t ∷ texts in
    let some : m.some ≡ true = ap (λ (m : Mentioned). m.some) is ∙ some_from (mentioned_with start t) texts refl in
    let nat : m.nat ≡ named module_of.Nat all = ap (λ (m : Mentioned). m.nat) is ∙ nat_from start all in
    let qid : m.qid ≡ named module_of.Qid all = ap (λ (m : Mentioned). m.qid) is ∙ qid_from start all in
    let configuration : m.configuration ≡ named module_of.Configuration all = ap (λ (m : Mentioned). m.configuration) is ∙ configuration_from start all in
    rw (some, nat, qid, configuration) refl
