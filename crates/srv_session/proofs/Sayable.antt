-- Replies that have a spelling, and what may be said to which requests.
use Rattle.std.proofs.Common.{◌≡◌, ℕ, ◌≤◌, true, List, ◌++◌, drop, length, Result, Ok, Err, ◌∙◌, ap}
use Rattle.std.specs.Prelude.{OnOk}
use Rattle.std.proofs.lemmas.Bool.{false≢true}
use Rattle.std.proofs.lemmas.List.{drop-append-le}
use Rattle.pvd_type.specs.Tree.{Tree}
use Rattle.pvd_type.specs.declared.memory.NoMemory.{NoMemory}
use Rattle.pva_messages.specs.Laws.{IsReplyWritable}
use Rattle.pva_messages.specs.Replies.{Reply, begun_reply}
use Rattle.pva_messages.specs.Subcommands.{begins}
use Rattle.chan_table.specs.declared.ask.AskKind.{AskKind}
use Rattle.chan_table.specs.declared.ask.AskKind.TheVariants as kinds
use Rattle.srv_session.specs.Replies.{HasLeafBits, IsSayable, said, is_call, begun, command_of_kind}
use Rattle.srv_session.specs.Views.{HasOneType, HasPart, IsOkAlone, MayRefuse}

-- a reply was added to the output, of which a front was sent already
pub added_reply : (sent : ℕ) (before after more : List ℕ) (r : Reply) (result : Result (Unit {0}) NoMemory) → sent ≤ length before → HasLeafBits r
    → OnOk result (after ≡ before ++ more) → OnOk result (IsReplyWritable r) → OnOk result ((drop sent after ≡ drop sent before ++ more) × IsSayable (said r))
added_reply sent before after more r (Ok u) within bits ok can = (ap (drop sent) ok ∙ drop-append-le sent before more within, (can, bits))
added_reply sent before after more r (Err e) within bits ok can = tt

-- what holds anyway
pub and_this : (A B : Type 0) (result : Result (Unit {0}) NoMemory) → B → OnOk result A → OnOk result (A × B)
and_this A B (Ok u) b a = (a, b)
and_this A B (Err e) b a = tt

-- the beginning of a request
pub begun_sayable : (kind : AskKind) (req sub : ℕ) (ty : Tree) → HasOneType kind → IsReplyWritable (begun_reply (command_of_kind kind) req sub ty) → IsSayable (said (begun kind req sub ty))
begun_sayable kinds.Get req sub ty one w = (w, tt)
begun_sayable kinds.Put req sub ty one w = (w, tt)
begun_sayable kinds.PutGet req sub ty one w = absurd one
begun_sayable kinds.Rpc req sub ty one w = absurd one
begun_sayable kinds.Monitor req sub ty one w = (w, tt)

-- Which requests may be refused so.

pub begins_refused : (kind : AskKind) (sub : ℕ) → begins sub ≡ true → MayRefuse kind sub
begins_refused kinds.Get sub is = tt
begins_refused kinds.Put sub is = tt
begins_refused kinds.PutGet sub is = tt
begins_refused kinds.Rpc sub is = tt
begins_refused kinds.Monitor sub is = is

pub part_refused : (kind : AskKind) (sub : ℕ) → HasPart kind sub → MayRefuse kind sub
part_refused kinds.Get sub part = tt
part_refused kinds.Put sub part = tt
part_refused kinds.PutGet sub part = tt
part_refused kinds.Rpc sub part = absurd part
part_refused kinds.Monitor sub part = absurd part

-- a call begins with OK alone
pub call_alone : (kind : AskKind) (sub : ℕ) → is_call kind ≡ true → begins sub ≡ true → IsOkAlone kind sub
call_alone kinds.Get sub call is = absurd (false≢true call)
call_alone kinds.Put sub call is = absurd (false≢true call)
call_alone kinds.PutGet sub call is = absurd (false≢true call)
call_alone kinds.Rpc sub call is = is
call_alone kinds.Monitor sub call is = absurd (false≢true call)
