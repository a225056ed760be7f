-- What the public readers answer, from what the readers over slices gave.
use Rattle.std.proofs.Common.{◌≡◌, ◌∙◌, ◌≤◌, ℕ, Bool, true, false, cond, List, ◌∷◌, ◌++◌, length, Option, Some, None, Result, Ok, Err, IfOk, IfErr, refl, sym, ap, subst, arith}
use Rattle.std.proofs.lemmas.List.{length-append}
use Rattle.std.specs.Ordering.{nat_cmp}
use Rattle.std.specs.FinSet.{FinSet}
use Rattle.pva_wire.specs.declared.order.Order.{Order}
use Rattle.pva_wire.specs.declared.fault.Stop.{Stop}
use Rattle.pva_wire.specs.declared.fault.Stop.TheVariants as wire_stops
use Rattle.pva_wire.specs.Reading as wire
use Rattle.pva_wire.specs.Spelling.{number_bytes}
use Rattle.pva_wire.proofs.Takes.{ok_is}
use Rattle.pva_wire.proofs.Digits.{number_len}
use Rattle.pvd_type.specs.Tree.{Tree}
use Rattle.pvd_value.specs.View.{view}
use Rattle.pvd_value.specs.Fits.{fits_of}
use Rattle.pvd_value.specs.declared.value.PvValue.{PvValue}
use Rattle.pvd_desc.specs.Types.{Types, laid}
use Rattle.pvd_codec.specs.declared.fault.ValueFault.{ValueFault}
use Rattle.pvd_codec.specs.declared.fault.ValueFault.TheVariants.{NoMemory}
use Rattle.pvd_codec.specs.Reading.{Read, State}
use Rattle.pvd_codec.specs.Faults.{IsFaultOf}
use Rattle.pvd_codec.specs.Grammar.{Part}
use Rattle.pvd_codec.proofs.FoundItems.{err_ok}
use Rattle.pvd_codec.proofs.FittingValues.{part_fits}
use Rattle.pva_messages.specs.declared.fault.MessageFault.{MessageFault}
use Rattle.pva_messages.specs.declared.command.Command.{Command}
use Rattle.pva_messages.specs.declared.command.Command.TheVariants as command
use Rattle.pva_messages.specs.Fields.{Field, byte, short, word, text, channels, valued, last_valued, part, rest}
use Rattle.pva_messages.specs.Requests as requests
use Rattle.pva_messages.specs.Requests.{Request, PutPart, absent, unread, part_place, part_in, request_of}
use Rattle.pva_messages.specs.Subcommands.{asks_back}
use Rattle.pva_messages.specs.Grammar.{SpellsAll}
use Rattle.pva_messages.specs.Rows.{Row, command_of, to_server}
use Rattle.pva_messages.specs.Reading.{row_of, made_by, id_of}
use Rattle.pva_messages.specs.Payloads.{IsMessage, IsRequest}
use Rattle.pva_messages.proofs.Messages.{Begins}
use Rattle.pva_messages.specs.Faults.{GivesMessage, AnswersMessage, IsWithin, PartWithin}

pub cause_is : {Y : Type 0} (end : ℕ) (read : Read State Y) (y : Y × State) (cause : ValueFault) → read ≡ Ok y → IsFaultOf end cause read → cause ≡ NoMemory
cause_is end read y NoMemory is h = refl
cause_is end read y cause is h = absurd (err_ok (h.0, h.1) y (sym h.2 ∙ is))

-- a call answers what reading gives
pub answers : {X Y : Type 0} (command end : ℕ) (before after : Types) (seen : X → Y) (result : Result X MessageFault) (read : Read State Y) (y : Y) (s : State) → read ≡ Ok (y, s) → GivesMessage command end before after seen result read → AnswersMessage seen result y
answers {Y = Y} command end before after seen (Ok x) read y s is h = ap (λ (z : Y × State). z.0) (ok_is (seen x, (h.0, after)) (y, s) (sym h.1 ∙ is))
answers command end before after seen (Err fault) read y s is h = cause_is end read (y, s) fault.cause is h.1

-- what was read is handed on with the types that it defines, unless memory ran out
pub settled_gives : {X Y : Type 0} (command end : ℕ) (before after defined : Types) (seen : X → Y) (x : X) (result : Result X MessageFault) (read : Read State Y) (more : List ℕ)
    → IfOk result (λ m. (m ≡ x) × (after ≡ laid before defined)) → IfErr result (λ (fault : MessageFault). (fault.command ≡ command) × (fault.cause ≡ NoMemory) × (after ≡ before))
    → (after ≡ laid before defined → read ≡ Ok (seen x, (more, after))) → GivesMessage command end before after seen result read
settled_gives {X = X} command end before after defined seen x (Ok m) read more ok err gave = (more, gave ok.1 ∙ ap (λ (z : X). Ok (seen z, (more, after))) (sym ok.0))
settled_gives command end before after defined seen x (Err fault) read more ok err gave = (err.0, subst (λ (cause : ValueFault). IsFaultOf end cause read) (sym err.1) tt, err.2)

-- what a call answers is spelled at the front
pub spelled_message : {X M : Type 0} (Is : List ℕ → List ℕ → M → Types → Type 0) (command end : ℕ) (before after : Types) (seen : X → M) (result : Result X MessageFault) (read : Read State M) (bytes : List ℕ)
    → ((x : M × State) → read ≡ Ok x → Begins Is bytes x) → GivesMessage command end before after seen result read → IfOk result (λ m. (front : List ℕ) × (follow : List ℕ) × Is front follow (seen m) after × (bytes ≡ front ++ follow))
spelled_message Is command end before after seen (Ok m) read bytes takes h = let (front, is, parts) = takes (seen m, (h.0, after)) h.1 in (front, h.0, is, parts)
spelled_message Is command end before after seen (Err fault) read bytes takes h = tt

-- ---- the place of a part that was left unread

within_else : (b : Bool) (n : ℕ) → part_place ≤ n → IsWithin (cond b absent (unread part_place)) n
within_else true n long = tt
within_else false n long = long

within_part : (sub : ℕ) (fields : List Field) (n : ℕ) → part_place ≤ n → IsWithin (part_in sub fields) n
within_part sub (valued v ∷ fields) n long = tt
within_part sub (part p ∷ fields) n long = tt
within_part sub fields n long = within_else (asks_back sub) n long

number_long : (o : Order) (n x : ℕ) (bytes : List ℕ) → bytes ≡ number_bytes o n x → length bytes ≡ n
number_long o n x bytes h = ap length h ∙ number_len o n x

-- two ids and a subcommand take so many bytes
head_long : (o : Order) (sid req sub : ℕ) (fields : List Field) (before : Types) (front : List ℕ) (after : Types) (follow : List ℕ) → SpellsAll o (word sid ∷ word req ∷ byte sub ∷ fields) before front after follow
    → part_place ≤ length (front ++ follow)
head_long o sid req sub fields before front after follow (a, b, m, one, (c, d, n, two, (e, f, k, three, others, p3), p2), p1) =
    let l1 = number_long o 4 sid a one.0.1 in
    let l2 = number_long o 4 req c two.0.1 in
    let l3 = number_long o 1 sub e three.0.1 in
    let q3 = ap length p3 ∙ length-append e f in
    let q2 = ap length p2 ∙ length-append c d in
    let q1 = ap length p1 ∙ length-append a b in
    omega (arith, l1, l2, l3, q1, q2, q3, length-append front follow)

fields_within : (o : Order) (c : Command) (fields : List Field) (before : Types) (front : List ℕ) (after : Types) (follow : List ℕ) → SpellsAll o fields before front after follow
    → PartWithin (request_of c fields) (length (front ++ follow))
fields_within o command.Validation (word buffer ∷ short registry ∷ short qos ∷ text method ∷ last_valued v ∷ fields) before front after follow h = tt
fields_within o command.Echo (rest xs ∷ fields) before front after follow h = tt
fields_within o command.CreateChannel (channels cs ∷ fields) before front after follow h = tt
fields_within o command.DestroyChannel (word sid ∷ word cid ∷ fields) before front after follow h = tt
fields_within o command.Get (word sid ∷ word req ∷ byte sub ∷ fields) before front after follow h = tt
fields_within o command.Put (word sid ∷ word req ∷ byte sub ∷ fields) before front after follow h = within_part sub fields (length (front ++ follow)) (head_long o sid req sub fields before front after follow h)
fields_within o command.PutGet (word sid ∷ word req ∷ byte sub ∷ fields) before front after follow h = within_part sub fields (length (front ++ follow)) (head_long o sid req sub fields before front after follow h)
fields_within o command.Monitor (word sid ∷ word req ∷ byte sub ∷ fields) before front after follow h = tt
fields_within o command.DestroyRequest (word sid ∷ word req ∷ fields) before front after follow h = tt
fields_within o command.Cancel (word sid ∷ word req ∷ fields) before front after follow h = tt
fields_within o command.GetField (word sid ∷ word req ∷ text path ∷ fields) before front after follow h = tt
fields_within o command.Message (word req ∷ byte kind ∷ text t ∷ fields) before front after follow h = tt
fields_within o command.Rpc (word sid ∷ word req ∷ byte sub ∷ valued v ∷ fields) before front after follow h = tt
fields_within o c fields before front after follow h = tt

row_within : (o : Order) (c : Option Command) (row : Option Row) (number : ℕ) (before : Types) (front follow : List ℕ) (m : Request) (after : Types)
    → IsMessage o row (made_by request_of (requests.skipped number) c) (requests.skipped number) before front follow m after → PartWithin m (length (front ++ follow))
row_within o c None number before front follow m after (none, is, same) = subst (λ (m : Request). PartWithin m (length (front ++ follow))) (sym is) tt
row_within o None (Some row) number before front follow m after (fields, of, spelled, is) = subst (λ (m : Request). PartWithin m (length (front ++ follow))) (sym is) tt
row_within o (Some c) (Some row) number before front follow m after (fields, of, spelled, is) =
    subst (λ (m : Request). PartWithin m (length (front ++ follow))) (sym is) (fields_within o c fields before front after follow spelled)

pub part_within : (o : Order) (number : ℕ) (before : Types) (front follow : List ℕ) (m : Request) (after : Types) → IsRequest o None number before front follow m after → PartWithin m (length (front ++ follow))
unfolding IsRequest
part_within o number before front follow m after h = row_within o (command_of number) (row_of (to_server None) (command_of number)) number before front follow m after h

-- four bytes that aren't there are no id
pub no_id : (X : Type 0) (e : Stop) (read : wire.Read ℕ) → wire.Fails e read → wire.TakesNone {X = X} (Err e) → id_of read ≡ None
no_id X wire_stops.Memory read h none = absurd none
no_id X (wire_stops.Fault cause left) read h none = rw h refl

-- the place of a part that was left unread lies in the payload
pub message_within : {X : Type 0} (o : Order) (number : ℕ) (before after : Types) (seen : X → Request) (result : Result X MessageFault) (bytes : List ℕ)
    → IfOk result (λ m. (front : List ℕ) × (follow : List ℕ) × IsRequest o None number before front follow (seen m) after × (bytes ≡ front ++ follow)) → IfOk result (λ m. PartWithin (seen m) (length bytes))
message_within o number before after seen (Ok m) bytes (front, follow, is, parts) =
    subst (λ (b : List ℕ). PartWithin (seen m) (length b)) (sym parts) (part_within o number before front follow (seen m) after is)
message_within o number before after seen (Err fault) bytes h = tt

-- a part that a call answers fits its type
pub part_fitting : (o : Order) (before after : Types) (t : Tree) (result : Result (FinSet nat_cmp × PvValue) MessageFault) (bytes : List ℕ)
    → IfOk result (λ x. (front : List ℕ) × (rest : List ℕ) × Part o before t front x.0 (view x.1) after × (bytes ≡ front ++ rest)) → IfOk result (λ x. fits_of 16 (view x.1) t ≡ true)
part_fitting o before after t (Ok x) bytes (front, follow, is, parts) = part_fits o before t front x.0 (view x.1) after is
part_fitting o before after t (Err fault) bytes h = tt
