-- A module with the order of its sorts, what its operators' tables tell, and what its operators compute.
use Rattle.std.specs.Prelude.{List, ◌≡◌}
use Rattle.mw_logic.specs.Module.{Module}
use Rattle.mw_sorts.specs.Diagrams.{AreTablesOf}
use Rattle.mw_poset.specs.SortOrder.{SortOrder, order_of}
use Rattle.mw_sorts.specs.declared.tables.Tables.{Tables}
use Rattle.mw_least.specs.declared.sure.Sure.{Sure}
use Rattle.mw_builtin.specs.Schemata.{AreSchemataOf}
use Rattle.mw_builtin.specs.declared.table.Schemata.{Schemata}
use Rattle.mw_least.specs.declared.closed.Home.{Home}
use Rattle.mw_least.specs.Closed.{AreHomes}
use Rattle.mw_least.specs.Sure.{AreSure}
use Rattle.mw_least.specs.Workable.{IsWorkable}

pub record IsContext (M : Module) (sorts : SortOrder) (results : Tables) (sure : Sure) (homes : List Home) (schemata : Schemata) : Type 0 where
  pub workable : IsWorkable M
  pub order : sorts ≡ order_of M.signature
  pub tables : AreTablesOf M.signature results
  pub each_sure : AreSure M.signature sure
  pub each_home : AreHomes M.signature M.signature.operators homes
  pub computing : AreSchemataOf M.signature schemata
