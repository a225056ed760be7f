-- What a parse says, moved to the program's own command.
use Rattle.std.proofs.Common.{◌≡◌, refl, true, subst, List, [], ◌∷◌, inl, inr, Result}
use Rattle.clap.specs.Words.{App, HasMatchesOf, Text, is_simple, is_simple_and_free, rows_of, found_of, FailsBy, HasKind, IsAmong, Kinds, fault_of, kind_of}
use Rattle.clap.specs.declared.error.Error.{Error}
use Rattle.clap.specs.declared.error.kind.ErrorKind.{ErrorKind}
use Rattle.clap.specs.declared.error.kind.ErrorKind.TheVariants.{OutOfMemory}
use Rattle.clap.specs.declared.parser.matches.ArgMatches.{ArgMatches}
use Rattle.clap.proofs.OnLiterals.{clap_on_literals}
use Rattle.prog_server.specs.Words.{server_app, word_rows, word_faults}

pub server_is_free : is_simple_and_free server_app ≡ true
unfolding clap_on_literals
server_is_free = refl

server_is_simple : is_simple server_app ≡ true
unfolding clap_on_literals
server_is_simple = refl

pub faults-at : {T : Type 0} (a : App) (words : List Text) (r : Result T Error) → a ≡ server_app → FailsBy (fault_of a words) r
    → FailsBy (word_faults words) r
unfolding word_faults
faults-at a words r e h = subst (λ (x : App). FailsBy (fault_of x words) r) e h

-- where a kind is among the faults, there is one
some_fault : (ks : Kinds) (k : ErrorKind) → IsAmong k ks → ks ≡ [] → ⊥
some_fault [] k among none = among
some_fault (x ∷ ks) k among none = cc

-- words that were refused, and not for want of memory, have a fault
pub refused_faulty : (words : List Text) (e : Error) → HasKind (word_faults words) e → (kind_of e ≡ OutOfMemory → ⊥) → word_faults words ≡ [] → ⊥
refused_faulty words e (inl memory) not_memory none = not_memory memory
refused_faulty words e (inr among) not_memory none = some_fault (word_faults words) (kind_of e) among none

pub rows-at : (a : App) (words : List Text) (m : ArgMatches) → a ≡ server_app → HasMatchesOf a words m
    → rows_of (found_of m) ≡ word_rows words
unfolding word_rows
rows-at a words m e h =
    let at : HasMatchesOf server_app words m = subst (λ (x : App). HasMatchesOf x words m) e h in
    (at server_is_simple).0
