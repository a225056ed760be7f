-- The structures that a client sends: which fields and options it asks for, and arguments (pvAccess Protocol
-- Specification, "pvRequest").
use Rattle.std.specs.Prelude.{ℕ, zero, suc, Bool, true, false, List, [], ◌∷◌, ◌++◌, map, codes}
use Rattle.std.specs.Prelude.{Option, None, Some, if◌then◌else◌}
use Rattle.std.specs.Fmt.{decimal}
use Rattle.std.specs.List.{flat_map, list_any}
use Rattle.std.specs.Str.{bytes_eq}
use Rattle.pvd_type.specs.Check.{contains}
use Rattle.pvd_type.specs.Numbers.{path_of}
use Rattle.pvd_type.specs.Tree.{Tree, leaf, node, plain, struct, Fields, no_fields, field}
use Rattle.pvd_type.specs.View.{fields_of}
use Rattle.pvd_type.specs.declared.shape.Scalar.TheVariants.{Text}
use Rattle.pvd_value.specs.Blank.{blank_of}
use Rattle.pvd_value.specs.Data.{Data, single, text, members, Row, end, more}
use Rattle.pvd_value.specs.View.{row_of}

-- a structure without an id
abbrev pub structure : Fields → Tree
structure fields = node struct [] fields

-- Texts, each under a name.

abbrev pub Texts : Type 0
Texts = List (List ℕ × List ℕ)

abbrev pub text_field : List ℕ × List ℕ → List ℕ × Tree
text_field t = (t.0, leaf (plain Text))

abbrev pub text_fields : Texts → Fields
text_fields ts = fields_of (map text_field ts)

abbrev pub text_datum : List ℕ × List ℕ → Data
text_datum t = single (text t.1)

abbrev pub text_row : Texts → Row
text_row ts = row_of (map text_datum ts)

-- a structure of them, and its value
abbrev pub texts_type : Texts → Tree
texts_type ts = structure (text_fields ts)

abbrev pub texts_value : Texts → Data
texts_value ts = members (text_row ts)

-- Which fields are asked for. A path is the list of its names.

abbrev pub Path : Type 0
Path = List (List ℕ)

-- what follows this first name in a path
abbrev pub behind : List ℕ → Path → List Path
behind name [] = []
behind name (first ∷ path) = if bytes_eq first name then path ∷ [] else []

abbrev pub is_end : Path → Bool
is_end [] = true
is_end (name ∷ path) = false

-- a path that ends here hides those that go on below it
abbrev pub unless_ended : List Path → List Path
unless_ended paths = if list_any is_end paths then [] else paths

-- the paths below the member of this name
abbrev pub below : List ℕ → List Path → List Path
below name paths = unless_ended (flat_map (behind name) paths)

abbrev pub first_name : Path → List ℕ
first_name [] = []
first_name (name ∷ path) = name

-- A member for each name that isn't among those before it, in the order in which the names are given.
abbrev pub members_by : (List ℕ → Tree) → List (List ℕ) → List (List ℕ) → List (List ℕ × Tree)
members_by below before [] = []
members_by below before (name ∷ names) =
    if contains name before then members_by below before names
    else (name, below name) ∷ members_by below (before ++ name ∷ []) names

-- An empty structure for each path, in one for each name that leads there. A path has at most so many names.
unfoldable pub chosen : ℕ → List Path → Fields
chosen zero paths = no_fields
chosen (suc depth) paths =
    fields_of (members_by (λ name. structure (chosen depth (below name paths))) [] (map first_name paths))

-- a path has at most so many names
abbrev pub deepest : ℕ
deepest = 30

-- the members of the structures for these fields
abbrev pub selected : List (List ℕ) → Fields
selected paths = chosen deepest (map path_of paths)

-- Which options are given.

abbrev pub truth : Bool → List ℕ
truth true = codes "true"
truth false = codes "false"

abbrev pub atomic_options : Option Bool → Texts
atomic_options None = []
atomic_options (Some atomic) = (codes "atomic", truth atomic) ∷ []

-- a monitor has the size of its queue, and tells that it has a window
abbrev pub window_options : Option ℕ → Texts
window_options None = []
window_options (Some free) = (codes "pipeline", codes "true") ∷ []

abbrev pub monitor_options : ℕ → Option ℕ → Texts
monitor_options queue window = (codes "queueSize", decimal queue) ∷ window_options window

-- A request: the structure `field` or `getField` and, where there are options, `record`, which has them.

abbrev pub record_fields : Texts → Fields
record_fields options =
    field (codes "record") (structure (field (codes "_options") (texts_type options) no_fields)) no_fields

abbrev pub record_row : Texts → Row
record_row options = more (members (more (texts_value options) end)) end

abbrev pub record_type : Texts → Fields
record_type [] = no_fields
record_type (o ∷ os) = record_fields (o ∷ os)

abbrev pub record_value : Texts → Row
record_value [] = end
record_value (o ∷ os) = record_row (o ∷ os)

abbrev pub request_type : List ℕ → Fields → Texts → Tree
request_type root fields options = structure (field root (structure fields) (record_type options))

abbrev pub request_value : Fields → Texts → Data
request_value fields options = members (more (blank_of (structure fields)) (record_value options))

-- The type and the value that are sent.
abbrev pub request : List ℕ → Fields → Texts → Tree × Data
request root fields options = (request_type root fields options, request_value fields options)

-- the user and the host of a validation
abbrev pub user_texts : List ℕ × List ℕ → Texts
user_texts user = (codes "user", user.0) ∷ (codes "host", user.1) ∷ []

abbrev pub user_of : List ℕ × List ℕ → Tree × Data
user_of user = (texts_type (user_texts user), texts_value (user_texts user))

-- An NTURI that calls the operation of this name (EPICS Normative Types 1.0, "NTURI").

abbrev pub query : List ℕ → Texts
query name = (codes "op", name) ∷ []

abbrev pub uri_type : List ℕ → Tree
uri_type name =
    node struct (codes "epics:nt/NTURI:1.0")
    (field (codes "scheme") (leaf (plain Text)) (field (codes "path") (leaf (plain Text))
    (field (codes "query") (texts_type (query name)) no_fields)))

abbrev pub uri_value : List ℕ → List ℕ → Data
uri_value path name =
    members (more (single (text (codes "pva"))) (more (single (text path)) (more (texts_value (query name)) end)))

abbrev pub uri : List ℕ → List ℕ → Tree × Data
uri path name = (uri_type name, uri_value path name)
