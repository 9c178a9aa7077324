-- Accepted modules are those that contexts hold.
use Rattle.std.proofs.Common.{ℕ, List, length, refl, sym, subst}
use Rattle.mw_logic.specs.Term.{Variable}
use Rattle.mw_logic.specs.Signature.{Signature, Member}
use Rattle.mw_logic.specs.Preregular.{IsSortOf}
use Rattle.mw_logic.specs.Module.{Statement}
use Rattle.mw_poset.proofs.Members.{member-all}
use Rattle.mw_least.specs.Workable.{IsWorkable}
use Rattle.mw_module.specs.Units.{SeenLined, SeenUnit}
use Rattle.mw_import.specs.Flat.{FlatUnit}
use Rattle.mw_declare.specs.declared.declarations.Declarations.{Declarations}
use Rattle.mw_declare.specs.declared.built.Reached.{Reached}
use Rattle.mw_declare.proofs.Accepting.{sorts_declared, built_declared}
use Rattle.mw_declare.proofs.Proper.{declared_sorted}
use Rattle.mw_build.specs.Sides.{Sides, sides_of}
use Rattle.mw_build.specs.Imported.{Origin, origins_of}
use Rattle.mw_build.specs.Modules.{Accepted, IsAccepted, AreAll, flattened, reached_of}
use Rattle.mw_build.specs.Working.{AcceptedAreWorkable}
use Rattle.std.specs.Prelude.{IfSome}
use Rattle.mw_omod.specs.Workable.{AreClasses}
use Rattle.mw_build.proofs.Accepting.{objects_there, all_joined, all_stand}
use Rattle.mw_build.proofs.Loading.{own_within}
use Rattle.mw_build.proofs.Sides.{workable_module}

module _ (us : List FlatUnit) (ms : List Accepted) (u : SeenUnit) (name reached : List ℕ) (a : Accepted) (p : IsAccepted us ms u name reached a) where
  abbrev d : Declarations
  d = p.declarations

  abbrev ss : List SeenLined
  ss = flattened us u reached

  abbrev has : Reached
  has = reached_of us name reached

  abbrev sts : List Statement
  sts = a.module.statements

  abbrev origins : List Origin
  origins = origins_of ms reached

  abbrev written : List Sides
  written = sides_of u.statements

  sorted : (x : Variable) → Member x d.variables → IsSortOf d.signature x.sort
  sorted = member-all (λ (x : Variable). IsSortOf d.signature x.sort) d.variables (declared_sorted u.statements ss (own_within us u.line reached u.statements) p.typing p.flat.typed has d p.declared)

  classes : IfSome p.objects (AreClasses d.signature)
  classes = objects_there d.signature p.holds.preregular.accepted u.word ss p.objects p.classes

  all : AreAll d.signature d.variables p.objects origins written (length p.holds.imported) sts
  all = all_joined d.signature d.variables p.objects origins written p.holds.imported a.own sts (length p.holds.imported) refl p.holds.statements p.holds.imported_are p.holds.own_are

  workable : IsWorkable (record { signature = d.signature; statements = sts })
  workable = workable_module d.signature p.holds.preregular (sorts_declared has p.typing ss d p.declared) (built_declared has p.typing ss d p.declared) sts
      (all_stand d.signature p.holds.preregular d.variables sorted p.objects classes origins written (length p.holds.imported) sts all)

pub accepted_workable : AcceptedAreWorkable
accepted_workable us ms u name reached a p =
    subst (λ (S : Signature). IsWorkable (record { signature = S; statements = a.module.statements })) (sym p.holds.signature) (workable us ms u name reached a p)
