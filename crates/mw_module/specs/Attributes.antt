-- The attributes of operators.
use Rattle.std.specs.Prelude.{ℕ, Bool, true, false, List, [], ◌∷◌, ◌++◌, ◌+◌, ◌-◌, ◌*◌, ◌==◌, ◌&&◌, ◌||◌, not, nat_lt, nat_eq, Option, None, Some, is_some, take, if◌then◌else◌, codes}
use Rattle.std.specs.Char.{is_ascii_digit}
use Rattle.std.specs.Option.{option_or}
use Rattle.std.specs.Str.{bytes_eq}
use Rattle.mw_lex.specs.declared.token.Token.{Token}
use Rattle.mw_module.specs.declared.attribute.Attributes.{Attributes as HeldAttributes}
use Rattle.mw_module.specs.declared.table.Role.{Role}
use Rattle.mw_module.specs.declared.table.Role.TheVariants as role
use Rattle.mw_text.specs.Names.{NameItem, piece, hole, items_of}
use Rattle.mw_module.specs.Words.{is, texts, first_text, count_before}

-- what the attributes of an operator say
pub record Attributes : Type 0 where
  pub assoc : Bool
  pub comm : Bool
  -- the word that names the identity
  pub identity : Option (List ℕ)
  pub precedence : Option ℕ
  -- the marks
  pub gather : Option (List (List ℕ))
  pub config : Bool
  -- all arguments are frozen; and the numbers of frozen ones, as they are written
  pub all_frozen : Bool
  pub frozen : List (List ℕ)
  -- two different identities, precedences or gathers
  pub clash : Bool

-- attributes as their readers see them
abbrev pub seen_attributes : HeldAttributes → Attributes
seen_attributes a = record {
  assoc = a.assoc;
  comm = a.comm;
  identity = a.identity;
  precedence = a.precedence;
  gather = a.gather;
  config = a.config;
  all_frozen = a.all_frozen;
  frozen = a.frozen.items;
  clash = a.clash;
}

abbrev pub no_attributes : Attributes
no_attributes = record {
  assoc = false;
  comm = false;
  identity = None;
  precedence = None;
  gather = None;
  config = false;
  all_frozen = false;
  frozen = [];
  clash = false;
}

-- both have a value, and the two aren't the same
abbrev pub differ : {A : Type 0} → (A → A → Bool) → Option A → Option A → Bool
differ same None other = false
differ same (Some a) None = false
differ same (Some a) (Some b) = not (same a b)

abbrev pub same_texts : List (List ℕ) → List (List ℕ) → Bool
same_texts [] [] = true
same_texts [] (b ∷ bs) = false
same_texts (a ∷ as_) [] = false
same_texts (a ∷ as_) (b ∷ bs) = bytes_eq a b && same_texts as_ bs

-- texts that spell one name
abbrev pub same_item : NameItem → NameItem → Bool
same_item (piece x) (piece y) = bytes_eq x y
same_item (piece x) hole = false
same_item hole (piece y) = false
same_item hole hole = true

abbrev pub same_items : List NameItem → List NameItem → Bool
same_items [] [] = true
same_items [] (j ∷ js) = false
same_items (i ∷ is_) [] = false
same_items (i ∷ is_) (j ∷ js) = same_item i j && same_items is_ js

abbrev pub same_name : List ℕ → List ℕ → Bool
same_name x y = same_items (items_of x) (items_of y)

-- they say two different identities, precedences or gathers
abbrev pub disagree : Attributes → Attributes → Bool
disagree a b = differ same_name a.identity b.identity || (differ nat_eq a.precedence b.precedence || differ same_texts a.gather b.gather)

-- what the first says, with what both say of yes and no, and of precedences
abbrev pub joined_plainly : Attributes → Attributes → Attributes
joined_plainly a b = record a {
  assoc = a.assoc || b.assoc;
  comm = a.comm || b.comm;
  precedence = option_or a.precedence b.precedence;
  config = a.config || b.config;
  all_frozen = a.all_frozen || b.all_frozen;
  clash = a.clash || b.clash || disagree a b;
}

-- what both say; they clash where one of them does, or where they differ
abbrev pub joined : Attributes → Attributes → Attributes
joined a b = record {
  assoc = a.assoc || b.assoc;
  comm = a.comm || b.comm;
  identity = option_or a.identity b.identity;
  precedence = option_or a.precedence b.precedence;
  gather = option_or a.gather b.gather;
  config = a.config || b.config;
  all_frozen = a.all_frozen || b.all_frozen;
  frozen = a.frozen ++ b.frozen;
  clash = a.clash || b.clash || disagree a b;
}

-- a number that is a precedence
abbrev pub in_range : ℕ → Option ℕ
in_range n = if nat_lt n 128 then Some n else None

-- a precedence: a number from 0 to 127 in decimal digits, the first of which isn't 0 unless it stands alone
abbrev pub precedence_of : List ℕ → Option ℕ
precedence_of [] = None
precedence_of (a ∷ []) = if is_ascii_digit a then Some (a - 48) else None
precedence_of (a ∷ b ∷ []) = if is_ascii_digit a && is_ascii_digit b && not (a == 48) then Some (10 * (a - 48) + (b - 48)) else None
precedence_of (a ∷ b ∷ c ∷ []) = if is_ascii_digit a && is_ascii_digit b && is_ascii_digit c && not (a == 48) then in_range (100 * (a - 48) + 10 * (b - 48) + (c - 48)) else None
precedence_of (a ∷ b ∷ c ∷ d ∷ rest) = None

-- a text that is a precedence
abbrev pub is_precedence : List ℕ → Bool
is_precedence text = is_some (precedence_of text)

-- a mark of a gather
abbrev pub is_mark : Token → Bool
is_mark t = is (codes "e") t || is (codes "E") t || is (codes "&") t

-- the precedence that a token is
abbrev pub precedence_in : List Token → Option ℕ
precedence_in [] = None
precedence_in (t ∷ rest) = precedence_of t.text

-- what stands behind the word `frozen` says which arguments: numbers in parentheses; or nothing, and then it is all
abbrev pub frozen_by : List Token → Attributes
frozen_by [] = record no_attributes { all_frozen = true }
frozen_by (t ∷ rest) = if is (codes "(") t then record no_attributes { frozen = texts (take (count_before (codes ")") rest) rest) }
    else record no_attributes { all_frozen = true }

-- what the tokens of one attribute say, with those behind them
abbrev pub said_as : Role → List Token → List Token → Attributes
said_as role.Assoc ts behind = record no_attributes { assoc = true }
said_as role.Comm ts behind = record no_attributes { comm = true }
said_as role.Identity ts behind = record no_attributes { identity = first_text ts }
said_as role.Config ts behind = record no_attributes { config = true }
said_as role.Precedence ts behind = record no_attributes { precedence = precedence_in ts }
said_as role.Gather ts behind = record no_attributes { gather = Some (texts ts) }
said_as role.Words ts behind = no_attributes
said_as (role.Sort kind) ts behind = no_attributes
said_as role.Silent ts behind = no_attributes
said_as role.Nonexec ts behind = no_attributes
said_as role.Frozen ts behind = frozen_by behind
said_as role.Owise ts behind = no_attributes
