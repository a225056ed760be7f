-- What an argument asks of the service (EPICS Normative Types 1.0, "NTURI"): its field `query.op` names an operation.
use Rattle.std.specs.Prelude.{ℕ, Bool, false, List, codes, Option, None, Some, Result, Ok, Err, if◌then◌else◌}
use Rattle.std.specs.Option.{option_and_then}
use Rattle.std.specs.Str.{bytes_eq}
use Rattle.pvd_type.specs.Tree.{Tree, node, struct}
use Rattle.pvd_type.specs.Numbers.{number_at}
use Rattle.pvd_value.specs.Data.{Data, text, single}
use Rattle.pvd_value.specs.Leaves.{leaf_at}
use Rattle.rpc_services.specs.declared.asking.RpcOp.{RpcOp}
use Rattle.rpc_services.specs.declared.asking.RpcOp.TheVariants.{Channels, Info, Snapshot}
use Rattle.rpc_services.specs.declared.asking.RpcRefusal.{RpcRefusal}
use Rattle.rpc_services.specs.declared.asking.RpcRefusal.TheVariants.{NotNturi, UnknownOperation}

-- the text that a value is, whether its type bounds it or not
abbrev pub text_in : Data → Option (List ℕ)
text_in (single (text t)) = Some t
text_in _ = None

-- the text of the field with this path, its names joined by dots; only structures have fields
abbrev pub text_at : List ℕ → Tree → Data → Option (List ℕ)
text_at path t v = option_and_then text_in (option_and_then (λ n. leaf_at n t v) (number_at path t))

-- whether a type is a structure with this id
abbrev pub has_id : List ℕ → Tree → Bool
has_id id (node struct other fs) = bytes_eq other id
has_id id _ = false

-- the text that names an operation
abbrev pub operation_text : Tree → Data → Option (List ℕ)
operation_text t v = if has_id (codes "epics:nt/NTURI:1.0") t then text_at (codes "query.op") t v else None

-- the operation with this name, in lower case
abbrev pub operation_named : List ℕ → Result RpcOp RpcRefusal
operation_named name =
    if bytes_eq (codes "channels") name then Ok Channels else (
    if bytes_eq (codes "info") name then Ok Info else (
    if bytes_eq (codes "snapshot") name then Ok Snapshot else Err UnknownOperation))

abbrev pub asked_by : Option (List ℕ) → Result RpcOp RpcRefusal
asked_by None = Err NotNturi
asked_by (Some name) = operation_named name

-- What a value of this type asks for, or why it asks for nothing.
abbrev pub asked : Tree → Data → Result RpcOp RpcRefusal
asked t v = asked_by (operation_text t v)
