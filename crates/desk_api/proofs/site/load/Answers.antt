use Rattle.std.specs.Prelude.{ℕ, List, [], Err}
use Rattle.std.proofs.Common.{Global, sym, subst}
use Rattle.db_text.specs.Macros.{Macros}
use Rattle.db_load.specs.Loading.{Loads}
use Rattle.db_load.specs.declared.fault.LoadFault.{LoadFault}
use Rattle.db_load.specs.declared.fault.LoadFault.TheVariants as loads
use Rattle.desk_api.proofs.Stating.{records_new}
use Rattle.desk_api.specs.Records.{IsLoadFault, unloaded}
use Rattle.desk_api.specs.declared.fault.SiteFault.{SiteFault}
use Rattle.desk_api.proofs.site.load.Goals as goal

pub returns-in-Ok-clause-new : goal.returns-in-Ok-clause-new
returns-in-Ok-clause-new c = let loaded = (c.in-Ok.ensures {u = tt}).exact in records_new [] loaded.1 c.in-Ok.records.items loaded.4

-- a fault of the loading is one of the site
load_fault : (Z : Type 0) (macros : Macros) (text : List ℕ) (fault : LoadFault) → Loads {Z = Z} macros text (Err fault) → IsLoadFault macros text (unloaded fault)
load_fault Z macros text (loads.Text fault) is = is
load_fault Z macros text (loads.SameRecord name line) is = is
load_fault Z macros text (loads.UnknownKind name line) is = is
load_fault Z macros text (loads.UnknownField name line) is = is
load_fault Z macros text (loads.BadForm line) is = is
load_fault Z macros text (loads.Count count) is = is
load_fault Z macros text loads.NoMemory is = tt

pub returns-in-Err-clause-fault : goal.returns-in-Err-clause-fault
returns-in-Err-clause-fault c =
    subst (λ (f : SiteFault). IsLoadFault c.args.macros.now c.args.text.now f) (sym c.unloaded.ensures)
    (load_fault Global c.args.macros.now c.args.text.now c.in-Err.fault (c.in-Err.ensures {u = tt}).exact)
