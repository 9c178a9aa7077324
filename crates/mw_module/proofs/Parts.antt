-- What holds of the parts that are read by the table.
use Rattle.std.proofs.Common.{◌≡◌, ◌≤◌, ◌+◌, if◌then◌else◌, ℕ, Bool, true, false, List, [], ◌∷◌, ◌++◌, length, Option, Some, None, Result, Ok, Err, IfOk, All, refl, ap, arith}
use Rattle.std.proofs.lemmas.List.Elements.{All-nil, All-cons, All-append}
use Rattle.mw_lex.specs.declared.token.Token.{Token}
use Rattle.mw_module.specs.declared.machine.Part.{Part}
use Rattle.mw_module.specs.declared.table.Place.{Place}
use Rattle.mw_module.specs.declared.table.Act.{Act}
use Rattle.mw_module.specs.declared.table.Act.TheVariants.{Skip, Deeper, Shallower, Close, After, Next, One}
use Rattle.mw_module.specs.declared.table.End.{End}
use Rattle.mw_module.specs.declared.table.End.TheVariants.{Never, Free, Closes}
use Rattle.mw_module.specs.declared.table.Role.{Role}
use Rattle.mw_module.specs.declared.table.Want.{Want}
use Rattle.mw_module.specs.declared.table.Wrong.{Wrong}
use Rattle.mw_module.specs.declared.table.Wrong.TheVariants.{Bad}
use Rattle.mw_module.specs.Rows.{Row, entry}
use Rattle.mw_module.specs.Reading.{State, then_of, tokens_of, row_for, is_fine, closed, closed_open, opened, taken, placed, followed, stepped, ended, reading, read_at}
use Rattle.mw_module.specs.Parts.{Ascend, IsFine, AreParts}

-- what holds behind two steps
pub then_holds : {A B : Type 0} (P : A → Type 0) (Q : B → Type 0) (r : Result A Wrong) (next : A → Result B Wrong) → IfOk r P → ((a : A) → P a → IfOk (next a) Q) → IfOk (then_of r next) Q
then_holds P Q (Ok a) next h k = k a h
then_holds P Q (Err wrong) next h k = tt

ascend-more : (a b c : ℕ) (ps : List Part) → Ascend a ps b → b ≤ c → Ascend a ps c
ascend-more a b c [] h le = omega (arith, h)
ascend-more a b c (p ∷ ps) h le = (h.0, (h.1.0, ascend-more p.to b c ps h.1.1 le))

ascend-one : (a b : ℕ) (ps : List Part) (p : Part) → Ascend a ps b → b ≤ p.from → p.from ≤ p.to → Ascend a (ps ++ p ∷ []) p.to
ascend-one a b [] p h low le = (omega (arith, h, low), (le, omega arith))
ascend-one a b (q ∷ ps) p h low le = (h.0, (h.1.0, ascend-one q.to b ps p h.1.1 low le))

module _ (ts : List Token) (want : Want) where
  -- the parts that are closed in front of number i
  abbrev Are : ℕ → State → Type 0
  Are i s = All (IsFine ts want) s.parts × (Ascend 0 s.parts s.from × (s.from ≤ i))

  abbrev AreAll : List Part → Type 0
  AreAll = AreParts ts want

  are-more : (i k : ℕ) (s : State) → Are i s → i ≤ k → Are k s
  are-more i k s h le = (h.0, (h.1.0, omega (arith, h.1.1, le)))

  closed_are : (i : ℕ) (p : Part) (s : State) → Are i s → s.from ≤ p.from → p.from ≤ p.to → p.to ≤ i + 1 → IfOk (closed ts want p s) (Are (i + 1))
  closed_are i p s h low le high = of (is_fine want p.role (tokens_of ts p)) refl
    where
      of : (b : Bool) → is_fine want p.role (tokens_of ts p) ≡ b → IfOk (if b then Ok (record s { from = p.to; parts = s.parts ++ p ∷ [] }) else Err Bad) (Are (i + 1))
      of true e = (All-append (IsFine ts want) s.parts (p ∷ []) h.0 (All-cons (IsFine ts want) p [] e (All-nil (IsFine ts want))), (ascend-one 0 s.from s.parts p h.1.0 low le, high))
      of false e = tt

  open_are : (i : ℕ) (s : State) → Are i s → IfOk (closed_open ts want i s) (Are (i + 1))
  open_are i s h = closed_are i (record { role = s.role; from = s.from; to = i }) s h (omega arith) h.1.1 (omega arith)

  opened_are : (i k : ℕ) (r : Role) (s : State) → Are k s → k ≤ i + 1 → Are (i + 1) (opened r i s)
  opened_are i k r s h le = (h.0, (ascend-more 0 s.from (i + 1) s.parts h.1.0 (omega (arith, h.1.1, le)), omega arith))

  taken_are : (act : Act) (i : ℕ) (s : State) → Are i s → IfOk (taken ts want act i s) (Are (i + 1))
  taken_are Skip i s h = are-more i (i + 1) s h (omega arith)
  taken_are Deeper i s h = are-more i (i + 1) s h (omega arith)
  taken_are Shallower i s h = are-more i (i + 1) s h (omega arith)
  taken_are Close i s h = open_are i s h
  taken_are (After r) i s h = opened_are i i r s h (omega arith)
  taken_are (Next r) i s h = then_holds (Are (i + 1)) (Are (i + 1)) (closed_open ts want i s) (λ (t : State). Ok (opened r i t)) (open_are i s h) (λ t k. opened_are i (i + 1) r t k (omega arith))
  taken_are (One r) i s h = closed_are i (record { role = r; from = i; to = i + 1 }) s h h.1.1 (omega arith) (omega arith)

  placed_are : (i : ℕ) (next : Result Place Wrong) (s : State) → Are i s → IfOk (placed next s) (Are i)
  placed_are i (Ok p) s h = h
  placed_are i (Err wrong) s h = tt

  followed_are : (i : ℕ) (s : State) (o : Option Row) → Are i s → IfOk (followed ts want i s o) (Are (i + 1))
  followed_are i s None h = tt
  followed_are i s (Some r) h = then_holds (Are (i + 1)) (Are (i + 1)) (taken ts want r.act i s) (placed r.next) (taken_are r.act i s h) (placed_are (i + 1) r.next)

  ended_are : (e : End) (s : State) → Are (length ts) s → IfOk (ended ts want e s) AreAll
  ended_are Never s h = tt
  ended_are Free s h = record { fine = h.0; ascend = ascend-more 0 s.from (length ts) s.parts h.1.0 h.1.1 }
  ended_are Closes s h = of (is_fine want s.role (tokens_of ts last)) refl
    where
      last : Part
      last = record { role = s.role; from = s.from; to = length ts }

      of : (b : Bool) → is_fine want s.role (tokens_of ts last) ≡ b
          → IfOk (then_of (if b then Ok (record s { from = length ts; parts = s.parts ++ last ∷ [] }) else Err Bad) (λ (t : State). Ok t.parts)) AreAll
      of true e = record {
        fine = All-append (IsFine ts want) s.parts (last ∷ []) h.0 (All-cons (IsFine ts want) last [] e (All-nil (IsFine ts want)));
        ascend = ascend-one 0 s.from s.parts last h.1.0 (omega arith) h.1.1;
      }
      of false e = tt

  reading_are : (i : ℕ) (s : State) (rest : List Token) → i + length rest ≡ length ts → Are i s → IfOk (reading ts want i s rest) AreAll
  reading_are i s [] size h = ended_are (entry s.place).end s (are-more i (length ts) s h (omega (arith, size)))
  reading_are i s (t ∷ rest) size h =
      then_holds (Are (i + 1)) AreAll (stepped ts want i t s) (λ (u : State). reading ts want (i + 1) u rest)
      (followed_are i s (row_for s.depth t.text (entry s.place).rows) h) (λ u k. reading_are (i + 1) u rest (omega (arith, size)) k)

-- the parts of a piece
pub parts_read : (place : Place) (role : Role) (want : Want) (ts : List Token) → IfOk (read_at place role want ts) (AreParts ts want)
parts_read place role want ts = reading_are ts want 0 (record { place = place; depth = 0; role = role; from = 0; parts = [] }) ts (omega arith) (All-nil (IsFine ts want), (omega arith, omega arith))

-- the parts begin with this one
abbrev pub Begins : Part → List Part → Type 0
Begins p ps = (more : List Part) × (ps ≡ p ∷ more)

module _ (ts : List Token) (want : Want) (p : Part) where
  abbrev BeginsIn : State → Type 0
  BeginsIn s = Begins p s.parts

  closed_begins : (q : Part) (s : State) → BeginsIn s → IfOk (closed ts want q s) BeginsIn
  closed_begins q s h = of (is_fine want q.role (tokens_of ts q))
    where
      of : (b : Bool) → IfOk (if b then Ok (record s { from = q.to; parts = s.parts ++ q ∷ [] }) else Err Bad) BeginsIn
      of true = (h.0 ++ q ∷ [], ap (λ ps. ps ++ q ∷ []) h.1)
      of false = tt

  taken_begins : (act : Act) (i : ℕ) (s : State) → BeginsIn s → IfOk (taken ts want act i s) BeginsIn
  taken_begins Skip i s h = h
  taken_begins Deeper i s h = h
  taken_begins Shallower i s h = h
  taken_begins Close i s h = closed_begins (record { role = s.role; from = s.from; to = i }) s h
  taken_begins (After r) i s h = h
  taken_begins (Next r) i s h =
      then_holds BeginsIn BeginsIn (closed_open ts want i s) (λ (t : State). Ok (opened r i t)) (closed_begins (record { role = s.role; from = s.from; to = i }) s h) (λ t k. k)
  taken_begins (One r) i s h = closed_begins (record { role = r; from = i; to = i + 1 }) s h

  placed_begins : (next : Result Place Wrong) (s : State) → BeginsIn s → IfOk (placed next s) BeginsIn
  placed_begins (Ok place) s h = h
  placed_begins (Err wrong) s h = tt

  followed_begins : (i : ℕ) (s : State) (o : Option Row) → BeginsIn s → IfOk (followed ts want i s o) BeginsIn
  followed_begins i s None h = tt
  followed_begins i s (Some r) h = then_holds BeginsIn BeginsIn (taken ts want r.act i s) (placed r.next) (taken_begins r.act i s h) (placed_begins r.next)

  ended_begins : (e : End) (s : State) → BeginsIn s → IfOk (ended ts want e s) (Begins p)
  ended_begins Never s h = tt
  ended_begins Free s h = h
  ended_begins Closes s h =
      then_holds BeginsIn (Begins p) (closed_open ts want (length ts) s) (λ (t : State). Ok t.parts) (closed_begins (record { role = s.role; from = s.from; to = length ts }) s h) (λ t k. k)

  -- what is read behind the first part leaves it where it is
  pub reading_begins : (i : ℕ) (s : State) (rest : List Token) → BeginsIn s → IfOk (reading ts want i s rest) (Begins p)
  reading_begins i s [] h = ended_begins (entry s.place).end s h
  reading_begins i s (t ∷ rest) h =
      then_holds BeginsIn (Begins p) (stepped ts want i t s) (λ (u : State). reading ts want (i + 1) u rest)
      (followed_begins i s (row_for s.depth t.text (entry s.place).rows) h) (λ u k. reading_begins (i + 1) u rest k)
