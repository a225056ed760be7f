-- The options of a request, which stand in the member `_options` of its member `record` (pvAccess Protocol Specification,
-- "pvRequest"; QSRV manual, "atomic").
use Rattle.std.specs.Prelude.{ℕ, ℤ, pos, negsuc, Bool, true, false, ◌&&◌, min, max, List, drop, length, codes, Option, Some, None, option_map, unwrap_or, Result, Ok, Err, nat_lt, if◌then◌else◌}
use Rattle.std.specs.List.{list_all}
use Rattle.std.specs.Char.{is_ascii_digit}
use Rattle.std.specs.Str.{bytes_eq}
use Rattle.std.specs.Str.Parse.{starts_with_minus, signed_digits_value}
use Rattle.pvd_type.specs.Tree.{Tree}
use Rattle.pvd_type.specs.Numbers.{number_at}
use Rattle.pvd_value.specs.Data.{Data, Single, boolean, byte, short, int, long, ubyte, ushort, uint, ulong, text, single}
use Rattle.pvd_value.specs.Leaves.{leaf_at}
use Rattle.pvd_request.specs.declared.options.Options.{Options}
use Rattle.pvd_request.specs.declared.request.RequestFault.{RequestFault}
use Rattle.pvd_request.specs.declared.request.RequestFault.TheVariants.{BadOption}

-- The option with this path, where the request has one: its value, and None for a structure.
abbrev pub option_in : Option (Tree × Data) → List ℕ → Option (Option Data)
option_in None path = None
option_in (Some r) path = option_map (λ n. leaf_at n r.0 r.1) (number_at path r.0)

-- What an option says, read by `read`, which knows no structure; where the option isn't given, the default. None is a bad
-- option.
abbrev pub read_or : {A : Type 0} → A → (Data → Option A) → Option (Option Data) → Option A
read_or default read None = Some default
read_or default read (Some None) = None
read_or default read (Some (Some d)) = read d

abbrev pub are_digits : List ℕ → Bool
are_digits ds = nat_lt 0 (length ds) && list_all is_ascii_digit ds

-- one or more decimal digits, behind a minus or not
abbrev pub is_decimal : List ℕ → Bool
is_decimal t = are_digits (if starts_with_minus t then drop 1 t else t)

-- a queue has at least one place and at most 64
abbrev pub queue_size : ℤ → ℕ
queue_size (pos n) = min 64 (max 1 n)
queue_size (negsuc n) = 1

abbrev pub queue_of_text : List ℕ → Option ℕ
queue_of_text t = if is_decimal t then Some (queue_size (signed_digits_value 10 t)) else None

-- a queue's size is a whole number of any type, or a text that writes one
abbrev pub queue_of_single : Single → Option ℕ
queue_of_single (byte z) = Some (queue_size z)
queue_of_single (short z) = Some (queue_size z)
queue_of_single (int z) = Some (queue_size z)
queue_of_single (long z) = Some (queue_size z)
queue_of_single (ubyte n) = Some (queue_size (pos n))
queue_of_single (ushort n) = Some (queue_size (pos n))
queue_of_single (uint n) = Some (queue_size (pos n))
queue_of_single (ulong n) = Some (queue_size (pos n))
queue_of_single (text t) = queue_of_text t
queue_of_single _ = None

abbrev pub queue_of : Data → Option ℕ
queue_of (single x) = queue_of_single x
queue_of _ = None

abbrev pub truth_of_text : List ℕ → Option Bool
truth_of_text t =
    if bytes_eq t (codes "true") then Some true else (if bytes_eq t (codes "false") then Some false else None)

-- a truth is a boolean, or one of two texts
abbrev pub truth_of_single : Single → Option Bool
truth_of_single (boolean b) = Some b
truth_of_single (text t) = truth_of_text t
truth_of_single _ = None

abbrev pub truth_of : Data → Option Bool
truth_of (single x) = truth_of_single x
truth_of _ = None

-- the size of a monitor's queue
abbrev pub queue_in : Option (Tree × Data) → Option ℕ
queue_in request = read_or 4 queue_of (option_in request (codes "record._options.queueSize"))

-- the truth of an option, where it is given
abbrev pub truth_given : Option (Option Data) → Option (Option Bool)
truth_given given = read_or None (λ d. option_map Some (truth_of d)) given

-- whether all members of a group are read or written at once, where the request says so
abbrev pub atomic_in : Option (Tree × Data) → Option (Option Bool)
atomic_in request = truth_given (option_in request (codes "record._options.atomic"))

-- whether a monitor waits for acknowledgements, where the request says so
abbrev pub pipeline_in : Option (Tree × Data) → Option (Option Bool)
pipeline_in request = truth_given (option_in request (codes "record._options.pipeline"))

-- the options together; the first that is bad is told
abbrev pub options_of : Option ℕ → Option (Option Bool) → Option (Option Bool) → Result Options RequestFault
options_of None atomic pipeline = Err (BadOption (codes "queueSize"))
options_of (Some queue) None pipeline = Err (BadOption (codes "atomic"))
options_of (Some queue) (Some atomic) None = Err (BadOption (codes "pipeline"))
options_of (Some queue) (Some atomic) (Some pipeline) =
    Ok (record { queue = queue; atomic = atomic; pipeline = unwrap_or pipeline false })

abbrev pub options_in : Option (Tree × Data) → Result Options RequestFault
options_in request = options_of (queue_in request) (atomic_in request) (pipeline_in request)
