-- Which terms the tokens of a text spell. (Maude Manual, chapter 3, "Terms" and "Precedence and gathering"; that two readings are refused, and none
-- of them is chosen, is this project's own.)
use Rattle.std.specs.Prelude.{◌≡◌, ◌≢◌, ◌<◌, ◌≤◌, ◌⊎◌, ◌++◌, ℕ, List, [], ◌∷◌, length, codes, Option, Some, None, IsTrue, IsFalse, ⊤}
use Rattle.mw_lex.specs.Bytes.{is_punctuation}
use Rattle.mw_logic.specs.Term.{Variable, RawTerm, numeral, quoted, variable, apply, RawTerms, nil, cons}
use Rattle.mw_logic.specs.Signature.{Signature, Operator, Gather, less, most, any, IsOperator, IsSortNamed, HasKind, Member}
use Rattle.mw_text.specs.Names.{NameItem, piece, hole, items_of, has_hole, pieces}
use Rattle.mw_text.specs.Numerals.{number_in}

-- a hole with this mark, in a form of precedence p, takes texts of precedence q
abbrev pub IsTaken : Gather → ℕ → ℕ → Type 0
IsTaken less p q = q < p
IsTaken most p q = q ≤ p
IsTaken any p q = ⊤

-- A text that is a variable with its sort: its name, which isn't empty, is no punctuation and doesn't begin with a quotation mark, a colon, and the
-- sort's name.
abbrev pub IsVariableName : List ℕ → Type 0
IsVariableName [] = ⊥
IsVariableName (b ∷ []) = IsFalse (is_punctuation b) × (b ≢ 34)
IsVariableName (b ∷ c ∷ rest) = b ≢ 34

-- A text that is a quoted identifier: an apostrophe, and a byte at least behind it.
abbrev pub IsIdentifier : List ℕ → Type 0
IsIdentifier [] = ⊥
IsIdentifier (b ∷ []) = ⊥
IsIdentifier (b ∷ c ∷ rest) = b ≡ 39

-- What stands before the parenthesis of a prefix form, and for a constant: the name as one token, or the pieces of a name without holes.
abbrev pub IsHead : Operator → List (List ℕ) → Type 0
IsHead o head = (head ≡ o.spelling ∷ []) ⊎ (IsFalse (has_hole (items_of o.spelling)) × (head ≡ pieces (items_of o.spelling)))

module _ (sig : Signature) (variables : List Variable) where
  mutual
    -- The text spells the term, at a precedence. The arguments of an operator have its kinds.
    pub data Spells : RawTerm → ℕ → List (List ℕ) → Type 0 where
      -- a variable that is declared
      declared : (x : Variable) → Member x variables → Spells (variable x) 0 (x.name ∷ [])
      -- a variable with its sort
      with_sort : (x : Variable) (S : List ℕ) → IsSortNamed sig x.sort S → IsVariableName x.name → Spells (variable x) 0 ((x.name ++ codes ":" ++ S) ∷ [])
      -- a numeral
      numbered : (n : ℕ) (token : List ℕ) → IsTrue sig.nat → number_in token ≡ Some n → Spells (numeral n) 0 (token ∷ [])
      -- a quoted identifier, which is its token, with the apostrophe
      identified : (q : List ℕ) → IsTrue sig.qid → IsIdentifier q → Spells (quoted q) 0 (q ∷ [])
      -- a text in parentheses
      grouped : (t : RawTerm) (p : ℕ) (text : List (List ℕ)) → Spells t p text → Spells t 0 (codes "(" ∷ text ++ codes ")" ∷ [])
      a_constant : (f : ℕ) (o : Operator) (head : List (List ℕ)) → IsOperator sig f o → o.args ≡ [] → IsHead o head → Spells (apply f nil) 0 head
      -- the prefix form: arguments in parentheses, divided by commas
      prefixed : (f : ℕ) (o : Operator) (t : RawTerm) (ts : RawTerms) (head inner : List (List ℕ)) → IsOperator sig f o → IsHead o head
          → SpellsArguments o.args (cons t ts) inner → Spells (apply f (cons t ts)) 0 (head ++ codes "(" ∷ inner ++ codes ")" ∷ [])
      -- the prefix form of an associative operator on three or more arguments, nested to the right
      flattened : (f : ℕ) (o : Operator) (t u : RawTerm) (head inner : List (List ℕ)) → IsOperator sig f o → IsTrue o.assoc → IsHead o head
          → (p K : ℕ) (text : List (List ℕ)) → Spells t p text → Member K o.args → HasKind sig t K → SpellsNested f o u inner
          → Spells (apply f (cons t (cons u nil))) 0 (head ++ codes "(" ∷ text ++ codes "," ∷ inner ++ codes ")" ∷ [])
      -- the mixfix form, at the operator's precedence
      mixfix : (f : ℕ) (o : Operator) (ts : RawTerms) (text : List (List ℕ)) → IsOperator sig f o → IsTrue (has_hole (items_of o.spelling))
          → SpellsItems o.prec (items_of o.spelling) o.gather o.args ts text → Spells (apply f ts) o.prec text

    -- one or more arguments of these kinds, divided by commas
    pub data SpellsArguments : List ℕ → RawTerms → List (List ℕ) → Type 0 where
      last : (K : ℕ) (t : RawTerm) (p : ℕ) (text : List (List ℕ)) → Spells t p text → HasKind sig t K → SpellsArguments (K ∷ []) (cons t nil) text
      more : (K : ℕ) (Ks : List ℕ) (t : RawTerm) (ts : RawTerms) (p : ℕ) (text rest : List (List ℕ)) → Spells t p text → HasKind sig t K
          → SpellsArguments Ks ts rest → SpellsArguments (K ∷ Ks) (cons t ts) (text ++ codes "," ∷ rest)

    -- two or more arguments of the associative operator f, nested to the right
    pub data SpellsNested : ℕ → Operator → RawTerm → List (List ℕ) → Type 0 where
      two : (f : ℕ) (o : Operator) (t u : RawTerm) (text : List (List ℕ)) → SpellsArguments o.args (cons t (cons u nil)) text
          → SpellsNested f o (apply f (cons t (cons u nil))) text
      another : (f : ℕ) (o : Operator) (t u : RawTerm) (p K : ℕ) (text rest : List (List ℕ)) → Spells t p text → Member K o.args → HasKind sig t K
          → SpellsNested f o u rest → SpellsNested f o (apply f (cons t (cons u nil))) (text ++ codes "," ∷ rest)

    -- the items of a form of precedence p: pieces as tokens, and a text in each hole
    pub data SpellsItems : ℕ → List NameItem → List Gather → List ℕ → RawTerms → List (List ℕ) → Type 0 where
      no_items : (p : ℕ) → SpellsItems p [] [] [] nil []
      over_piece : (p : ℕ) (x : List ℕ) (items : List NameItem) (gather : List Gather) (Ks : List ℕ) (ts : RawTerms) (rest : List (List ℕ))
          → SpellsItems p items gather Ks ts rest → SpellsItems p (piece x ∷ items) gather Ks ts (x ∷ rest)
      over_hole : (p : ℕ) (g : Gather) (K q : ℕ) (t : RawTerm) (items : List NameItem) (gather : List Gather) (Ks : List ℕ) (ts : RawTerms)
          (text rest : List (List ℕ)) → Spells t q text → IsTaken g p q → HasKind sig t K → SpellsItems p items gather Ks ts rest
          → SpellsItems p (hole ∷ items) (g ∷ gather) (K ∷ Ks) (cons t ts) (text ++ rest)

  -- of the wanted kind, where one is wanted
  abbrev pub IsWanted : Option ℕ → RawTerm → Type 0
  IsWanted None t = ⊤
  IsWanted (Some K) t = HasKind sig t K

  -- the text spells the term, which is of the wanted kind
  pub record IsSpelled (wanted : Option ℕ) (text : List (List ℕ)) (t : RawTerm) : Type 0 where
    pub precedence : ℕ
    pub spells : Spells t precedence text
    pub kind : IsWanted wanted t

  -- the tokens, 1,024 at most, spell this term of the wanted kind and no other
  pub record Reads (wanted : Option ℕ) (text : List (List ℕ)) (t : RawTerm) : Type 0 where
    pub short : length text ≤ 1024
    pub spelled : IsSpelled wanted text t
    pub only : (u : RawTerm) → IsSpelled wanted text u → u ≡ t
