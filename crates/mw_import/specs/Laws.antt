-- What holds of flattened modules.
use Rattle.std.specs.Prelude.{◌≡◌, ◌++◌, ℕ, List, slice_get, Some, true}
use Rattle.mw_logic.specs.Signature.{Member}
use Rattle.mw_module.specs.Units.{SeenLined, IsWithin}
use Rattle.mw_import.specs.Flat.{FlatUnit, AreAccepted, IsFlat, is_reached, all_statements}

-- The statements of a module that is reached are among those of the module that reaches it, and so are its modules; and what it reaches stays the same when more
-- units are accepted.
pub record FlattenedWithin : Type 0 where
  pub within : (us : List FlatUnit) (ss : List SeenLined) (line from k : ℕ) (reached : List ℕ) (u : FlatUnit) → AreAccepted us → IsFlat us ss reached → Member k reached
      → slice_get us k ≡ Some u → IsWithin (all_statements us from u.reached u.statements) (all_statements us line reached ss)
  pub kept : (us more : List FlatUnit) (line k : ℕ) (u : FlatUnit) → AreAccepted us → slice_get us k ≡ Some u
      → all_statements (us ++ more) line u.reached u.statements ≡ all_statements us line u.reached u.statements
  pub reaches : (us : List FlatUnit) (ss : List SeenLined) (k : ℕ) (reached : List ℕ) (u : FlatUnit) (own name : List ℕ) → AreAccepted us → IsFlat us ss reached → Member k reached
      → slice_get us k ≡ Some u → is_reached us u.reached u.name name ≡ true → is_reached us reached own name ≡ true
  pub reaches_kept : (us more : List FlatUnit) (k : ℕ) (u : FlatUnit) (name : List ℕ) → AreAccepted us → slice_get us k ≡ Some u
      → is_reached (us ++ more) u.reached u.name name ≡ is_reached us u.reached u.name name
