-- The table of the forms of statements: how a statement, or a piece of one, goes on from each place in it.
use Rattle.std.specs.Prelude.{ℕ, true, false, List, [], ◌∷◌, map, Result, Ok, Err, codes}
use Rattle.mw_module.specs.declared.table.Entry.{Entry as HeldEntry}
use Rattle.mw_module.specs.declared.table.Row.{Row as HeldRow}
use Rattle.mw_module.specs.declared.table.Place.{Place}
use Rattle.mw_module.specs.declared.table.Place.TheVariants as place
use Rattle.mw_module.specs.declared.table.Act.{Act}
use Rattle.mw_module.specs.declared.table.Act.TheVariants.{Skip, Deeper, Shallower, Close, After, Next, One}
use Rattle.mw_module.specs.declared.table.Test.{Test}
use Rattle.mw_module.specs.declared.table.Test.TheVariants as test
use Rattle.mw_module.specs.declared.table.Role.TheVariants as role
use Rattle.mw_module.specs.declared.table.Wrong.{Wrong}
use Rattle.mw_module.specs.declared.table.Wrong.TheVariants.{Bad, Unread}
use Rattle.mw_module.specs.declared.table.End.{End}
use Rattle.mw_module.specs.declared.table.End.TheVariants as end

-- a row: a token with this text, or any where the text is empty, that passes the test; what becomes of it, and the
-- place of the next token or what is wrong
pub record Row : Type 0 where
  pub word : List ℕ
  pub test : Test
  pub act : Act
  pub next : Result Place Wrong

abbrev pub seen_row : HeldRow → Row
seen_row r = record { word = r.word.now; test = r.test; act = r.act; next = r.next }

abbrev pub row : List ℕ → Test → Act → Result Place Wrong → Row
row word test act next = record { word = word; test = test; act = act; next = next }

-- what the table says of a place: how a piece may end there, and the rows, of which the first that a token meets is
-- taken
pub record Entry : Type 0 where
  pub end : End
  pub rows : List Row

abbrev pub seen_entry : HeldEntry → Entry
seen_entry e = record { end = e.end; rows = map seen_row e.rows.now }

abbrev pub at : End → List Row → Entry
at end rows = record { end = end; rows = rows }

-- how a list of attributes goes on
abbrev pub attribute_rows : List Row
attribute_rows = row (codes "]") test.Any Skip (Ok place.Whole)
    ∷ row (codes "assoc") test.Any (One role.Assoc) (Ok place.Attribute)
    ∷ row (codes "comm") test.Any (One role.Comm) (Ok place.Attribute)
    ∷ row (codes "id:") test.Any Skip (Ok place.Identity)
    ∷ row (codes "ctor") test.Any (One role.Silent) (Ok place.Attribute)
    ∷ row (codes "ditto") test.Any (One role.Silent) (Ok place.Attribute)
    ∷ row (codes "memo") test.Any (One role.Silent) (Ok place.Attribute)
    ∷ row (codes "object") test.Any (One role.Silent) (Ok place.Attribute)
    ∷ row (codes "message") test.Any (One role.Silent) (Ok place.Attribute)
    ∷ row (codes "frozen") test.Any (One role.Frozen) (Ok place.Frozen)
    ∷ row (codes "config") test.Any (One role.Config) (Ok place.Attribute)
    ∷ row (codes "prec") test.Any Skip (Ok place.Precedence)
    ∷ row (codes "gather") test.Any Skip (Ok place.Gather)
    ∷ row (codes "format") test.Any (One role.Silent) (Ok place.Format)
    ∷ row (codes "metadata") test.Any (One role.Silent) (Ok place.Metadata)
    ∷ row [] test.Any Skip (Err Unread) ∷ []

-- what may stand behind the word `frozen`: numbers in parentheses, or, as behind any attribute, what goes on with the list
abbrev pub behind_frozen : List Row
behind_frozen = row (codes "(") test.Any Skip (Ok place.Number) ∷ attribute_rows

abbrev pub entry : Place → Entry
entry place.Sorts = at end.Free (row (codes "{") test.Any Skip (Err Unread)
    ∷ row [] test.Run Skip (Ok place.Sorts) ∷ [])
entry place.Variables = at end.Free (row [] test.Run Skip (Ok place.Variables) ∷ [])
entry place.Group = at end.Never (row (codes "<") test.Any Skip (Err Bad)
    ∷ row (codes "{") test.Any Skip (Err Unread)
    ∷ row [] test.Plain Skip (Ok place.InGroup) ∷ [])
entry place.InGroup = at end.Closes (row (codes "<") test.Any (Next role.Words) (Ok place.Group)
    ∷ row (codes "{") test.Any Skip (Err Unread)
    ∷ row [] test.Plain Skip (Ok place.InGroup) ∷ [])
entry place.Sort = at end.Never (row (codes "{") test.Any Skip (Err Unread)
    ∷ row [] test.Plain (One (role.Sort false)) (Ok place.SortEnd) ∷ [])
entry place.Name = at end.Closes (row [] test.Any Skip (Ok place.Name) ∷ [])
entry place.Names = at end.Free (row (codes "(") test.Any (After role.Words) (Ok place.Parentheses)
    ∷ row (codes ")") test.Any Skip (Err Bad)
    ∷ row [] test.Any (One role.Words) (Ok place.Names) ∷ [])
entry place.Parentheses = at end.Never (row (codes ")") test.Outside Close (Ok place.Names)
    ∷ row (codes ")") test.Any Shallower (Ok place.Parentheses)
    ∷ row (codes "(") test.Any Deeper (Ok place.Parentheses)
    ∷ row [] test.Any Skip (Ok place.Parentheses) ∷ [])
entry place.Args = at end.Free (row (codes "[") test.Any Skip (Ok place.ArgKind)
    ∷ row (codes "{") test.Any Skip (Err Unread)
    ∷ row [] test.Plain (One (role.Sort false)) (Ok place.Args) ∷ [])
entry place.ArgKind = at end.Never (row (codes "{") test.Any Skip (Err Unread)
    ∷ row [] test.Plain (One (role.Sort true)) (Ok place.ArgKindEnd) ∷ [])
entry place.ArgKindEnd = at end.Never (row (codes "]") test.Any Skip (Ok place.Args)
    ∷ row (codes "{") test.Any Skip (Err Unread) ∷ [])
entry place.Value = at end.Never (row (codes "[") test.Any Skip (Ok place.ValueKind)
    ∷ row (codes "{") test.Any Skip (Err Unread)
    ∷ row [] test.Plain (One (role.Sort false)) (Ok place.Behind) ∷ [])
entry place.ValueKind = at end.Never (row (codes "{") test.Any Skip (Err Unread)
    ∷ row [] test.Plain (One (role.Sort true)) (Ok place.ValueKindEnd) ∷ [])
entry place.ValueKindEnd = at end.Never (row (codes "]") test.Any Skip (Ok place.Behind)
    ∷ row (codes "{") test.Any Skip (Err Unread) ∷ [])
entry place.Behind = at end.Free (row (codes "[") test.Any (One role.Silent) (Ok place.Attribute)
    ∷ row (codes "{") test.Any Skip (Err Unread) ∷ [])
entry place.Attribute = at end.Never attribute_rows
entry place.Frozen = at end.Never behind_frozen
entry place.Number = at end.Never (row [] test.Digits Skip (Ok place.Numbers) ∷ [])
entry place.Numbers = at end.Never (row (codes ")") test.Any Skip (Ok place.Attribute)
    ∷ row [] test.Digits Skip (Ok place.Numbers) ∷ [])
entry place.Class = at end.Never (row (codes "{") test.Any Skip (Err Unread)
    ∷ row [] test.Run (One role.Words) (Ok place.BehindClass) ∷ [])
entry place.BehindClass = at end.Free (row (codes "|") test.Any Skip (Ok place.ClassAttribute)
    ∷ row (codes "{") test.Any Skip (Err Unread) ∷ [])
entry place.ClassAttribute = at end.Never (row [] test.Any (One role.Words) (Ok place.ClassColon) ∷ [])
entry place.ClassColon = at end.Never (row (codes ":") test.Any Skip (Ok place.ClassSort) ∷ [])
entry place.ClassSort = at end.Never (row (codes "{") test.Any Skip (Err Unread)
    ∷ row [] test.Run (One role.Words) (Ok place.BehindClassSort) ∷ [])
entry place.BehindClassSort = at end.Free (row (codes ",") test.Any Skip (Ok place.ClassAttribute)
    ∷ row (codes "{") test.Any Skip (Err Unread) ∷ [])
entry place.Identity = at end.Never (row [] test.Any (One role.Identity) (Ok place.Attribute) ∷ [])
entry place.Precedence = at end.Never (row [] test.Precedence (One role.Precedence) (Ok place.Attribute) ∷ [])
entry place.Gather = at end.Never (row (codes "(") test.Any (After role.Gather) (Ok place.Marks) ∷ [])
entry place.Marks = at end.Never (row (codes ")") test.Any Close (Ok place.Attribute)
    ∷ row [] test.Any Skip (Ok place.Marks) ∷ [])
entry place.Format = at end.Never (row (codes "(") test.Any Skip (Ok place.Formatted) ∷ [])
entry place.Formatted = at end.Never (row (codes ")") test.Any Skip (Ok place.Attribute)
    ∷ row [] test.Any Skip (Ok place.Formatted) ∷ [])
entry place.Metadata = at end.Never (row [] test.Text Skip (Ok place.Attribute) ∷ [])
entry place.Left = at end.Never (row (codes "=") test.Outside (Next role.Words) (Ok place.Right)
    ∷ row (codes "(") test.Any Deeper (Ok place.Left)
    ∷ row (codes "[") test.Any Deeper (Ok place.Left)
    ∷ row (codes "{") test.Any Deeper (Ok place.Left)
    ∷ row (codes "if") test.Any Deeper (Ok place.Left)
    ∷ row (codes ")") test.Any Shallower (Ok place.Left)
    ∷ row (codes "]") test.Any Shallower (Ok place.Left)
    ∷ row (codes "}") test.Any Shallower (Ok place.Left)
    ∷ row (codes "fi") test.Any Shallower (Ok place.Left)
    ∷ row [] test.Any Skip (Ok place.Left) ∷ [])
entry place.RuleLeft = at end.Never (row (codes "=>") test.Outside (Next role.Words) (Ok place.Right)
    ∷ row (codes "(") test.Any Deeper (Ok place.RuleLeft)
    ∷ row (codes "[") test.Any Deeper (Ok place.RuleLeft)
    ∷ row (codes "{") test.Any Deeper (Ok place.RuleLeft)
    ∷ row (codes "if") test.Any Deeper (Ok place.RuleLeft)
    ∷ row (codes ")") test.Any Shallower (Ok place.RuleLeft)
    ∷ row (codes "]") test.Any Shallower (Ok place.RuleLeft)
    ∷ row (codes "}") test.Any Shallower (Ok place.RuleLeft)
    ∷ row (codes "fi") test.Any Shallower (Ok place.RuleLeft)
    ∷ row [] test.Any Skip (Ok place.RuleLeft) ∷ [])
entry place.Right = at end.Closes (row [] test.Any Skip (Ok place.Right) ∷ [])
entry place.Pattern = at end.Never (row (codes ":=") test.Outside (Next role.Words) (Ok place.Right)
    ∷ row (codes "(") test.Any Deeper (Ok place.Pattern)
    ∷ row (codes "[") test.Any Deeper (Ok place.Pattern)
    ∷ row (codes "{") test.Any Deeper (Ok place.Pattern)
    ∷ row (codes "if") test.Any Deeper (Ok place.Pattern)
    ∷ row (codes ")") test.Any Shallower (Ok place.Pattern)
    ∷ row (codes "]") test.Any Shallower (Ok place.Pattern)
    ∷ row (codes "}") test.Any Shallower (Ok place.Pattern)
    ∷ row (codes "fi") test.Any Shallower (Ok place.Pattern)
    ∷ row [] test.Any Skip (Ok place.Pattern) ∷ [])
entry place.Condition = at end.Closes (row (codes "/\\") test.Outside (Next role.Words) (Ok place.Condition)
    ∷ row (codes "=>") test.Outside Skip (Err Unread)
    ∷ row (codes "(") test.Any Deeper (Ok place.Condition)
    ∷ row (codes "[") test.Any Deeper (Ok place.Condition)
    ∷ row (codes "{") test.Any Deeper (Ok place.Condition)
    ∷ row (codes "if") test.Any Deeper (Ok place.Condition)
    ∷ row (codes ")") test.Any Shallower (Ok place.Condition)
    ∷ row (codes "]") test.Any Shallower (Ok place.Condition)
    ∷ row (codes "}") test.Any Shallower (Ok place.Condition)
    ∷ row (codes "fi") test.Any Shallower (Ok place.Condition)
    ∷ row [] test.Any Skip (Ok place.Condition) ∷ [])
entry place.Statement = at end.Free (row (codes "nonexec") test.Any (One role.Nonexec) (Ok place.Statement)
    ∷ row (codes "owise") test.Any (One role.Owise) (Ok place.Statement)
    ∷ row (codes "label") test.Any Skip (Ok place.Label)
    ∷ row (codes "metadata") test.Any Skip (Ok place.Text)
    ∷ row [] test.Any Skip (Err Unread) ∷ [])
entry place.Label = at end.Never (row [] test.Any Skip (Ok place.Statement) ∷ [])
entry place.Text = at end.Never (row [] test.Text Skip (Ok place.Statement) ∷ [])
entry place.Whole = at end.Free ([])
entry place.SortEnd = at end.Free (row (codes "{") test.Any Skip (Err Unread) ∷ [])
