-- The forms of an access security file: groups of users, of hosts and of rules (EPICS IOC Application Developer's Guide,
-- "Access Security", "Access Security Configuration File"). Each is read from left to right; the first token that can't
-- stand where it does is told.
use Rattle.std.specs.Prelude.{◌≡◌, ℕ, zero, suc, ◌+◌, Bool, true, false, ◌&&◌, ◌||◌, List, [], ◌∷◌, ◌++◌, length, fold}
use Rattle.std.specs.Prelude.{Option, Some, None, Result, Ok, Err, ◌==◌, nat_le, codes, if◌then◌else◌}
use Rattle.std.specs.Borrow.{Bor}
use Rattle.std.specs.Str.{bytes_eq}
use Rattle.db_text.specs.Grammar.{is_bare, is_sign, is_name}
use Rattle.db_text.specs.declared.token.Token.{Token}
use Rattle.db_text.specs.declared.token.TokenKind.{TokenKind}
use Rattle.db_text.specs.declared.token.TokenKind.TheVariants as kinds
use Rattle.acf_rules.specs.declared.access.Access.{Access}
use Rattle.acf_rules.specs.declared.access.Access.TheVariants as accesses
use Rattle.acf_rules.specs.declared.keywords.Keyword.{Keyword}
use Rattle.acf_rules.specs.declared.keywords.Keyword.TheVariants as words
use Rattle.acf_rules.specs.declared.rules.Rule.{Rule}
use Rattle.acf_rules.specs.declared.rules.Rules.{Rules}
use Rattle.acf_rules.specs.declared.rules.Who.{Who}
use Rattle.acf_rules.specs.declared.fault.AcfFault.TheVariants.{BadForm, SameName, UnknownName, Unsupported, NoMemory}
use Rattle.acf_rules.specs.declared.fault.FormStop.{FormStop}
use Rattle.acf_rules.specs.declared.fault.FormStop.TheVariants.{Short, Fault}
use Rattle.acf_rules.specs.Access.{Name, Groups, is_among, has}

abbrev pub Tokens : Type 0
Tokens = List Token

-- something, and the tokens after it
abbrev pub Read : Type 0 → Type 0
Read A = Result (A × Tokens) FormStop

infixl 10 ◌>>=◌
abbrev pub ◌>>=◌ : {A B : Type 0} → Result A FormStop → (A → Result B FormStop) → Result B FormStop
(Ok x) >>= f = f x
(Err e) >>= f = Err e

-- What a function returned, seen by view, is what reading gives; want of memory is free.
abbrev pub Fails : {Y : Type 0} → FormStop → Result Y FormStop → Type 0
Fails (Fault NoMemory) read = Unit {0}
Fails stop read = read ≡ Err stop

abbrev pub Gives : {X Y : Type 0} → (X → Y) → Result X FormStop → Result Y FormStop → Type 0
Gives view (Ok x) read = read ≡ Ok (view x)
Gives view (Err e) read = Fails e read

abbrev pub bad : {A : Type 0} → Token → Result A FormStop
bad t = Err (Fault (BadForm t.line))

-- the next token
unfoldable pub next : Tokens → Read Token
next [] = Err Short
next (t ∷ rest) = Ok (t, rest)

-- whether a token is this mark
abbrev pub is_mark : ℕ → Token → Bool
is_mark b t = is_sign t.kind && bytes_eq t.text (b ∷ [])

-- what follows a mark
unfoldable pub mark_at : ℕ → Tokens → Result Tokens FormStop
mark_at b tokens = next tokens >>= λ t. if is_mark b t.0 then Ok t.1 else bad t.0

-- what follows a mark that may stand here
abbrev pub after_mark : ℕ → Tokens → Option Tokens
after_mark b [] = None
after_mark b (t ∷ rest) = if is_mark b t then Some rest else None

-- a bare word; a name, bare or in quotes
unfoldable pub word_at : Tokens → Read Token
word_at tokens = next tokens >>= λ t. if is_bare t.0.kind then Ok t else bad t.0

unfoldable pub name_at : Tokens → Read Token
name_at tokens = next tokens >>= λ t. if is_name t.0.kind then Ok t else bad t.0

-- the words `INPA` to `INPL`
abbrev pub is_input : Name → Bool
is_input (i ∷ n ∷ p ∷ letter ∷ []) = i == 73 && n == 78 && p == 80 && nat_le 65 letter && nat_le letter 76
is_input name = false

-- what a bare word begins
abbrev pub keyword_of : Name → Keyword
keyword_of name =
    if bytes_eq name (codes "UAG") then words.Users
    else if bytes_eq name (codes "HAG") then words.Hosts
    else if bytes_eq name (codes "ASG") then words.Rules
    else if bytes_eq name (codes "RULE") then words.Rule
    else if bytes_eq name (codes "CALC") || is_input name then words.Unsupported
    else words.Other

-- what a token begins, or ends: keywords are bare words
abbrev pub keyword_by : Token → TokenKind → Keyword
keyword_by t kinds.Bare = keyword_of t.text
keyword_by t kinds.Mark = if bytes_eq t.text (125 ∷ []) then words.Close else words.Other
keyword_by t kinds.Quoted = words.Other
keyword_by t kinds.Json = words.Other

abbrev pub keyword_in : Token → Keyword
keyword_in t = keyword_by t t.kind

-- A step goes on from what was read before it, and tells whether another step follows.
abbrev pub Step : Type 0 → Type 0
Step A = A → Tokens → Read (A × Bool)

abbrev pub on : {A : Type 0} → (A → Tokens → Read A) → (A × Bool) × Tokens → Read A
on more x = if x.0.1 then more x.0.0 x.1 else Ok (x.0.0, x.1)

-- one step after another, at most so many
unfoldable pub repeat : {A : Type 0} → Step A → ℕ → A → Tokens → Read A
repeat step zero a tokens = Err Short
repeat step (suc n) a tokens = step a tokens >>= on (repeat step n)

-- all steps from here
abbrev pub all_steps : {A : Type 0} → Step A → A → Tokens → Read A
all_steps step a tokens = repeat step (length tokens + 1) a tokens

-- a name, which must be known
abbrev pub known_in : Bool → Token → Result Name FormStop
known_in known t = if known then Ok t.text else Err (Fault (UnknownName t.text t.line))

-- behind a name another follows where a comma does
abbrev pub after_name : List Name → Tokens → Option Tokens → Read (List Name × Bool)
after_name names rest None = Ok ((names, false), rest)
after_name names rest (Some more) = Ok ((names, true), more)

unfoldable pub name_step : (Name → Bool) → Step (List Name)
name_step known names tokens =
    name_at tokens >>= λ t. known_in (known t.0.text) t.0 >>= λ name.
    after_name (names ++ name ∷ []) t.1 (after_mark 44 t.1)

-- `name, ...`
abbrev pub names_at : (Name → Bool) → Tokens → Read (List Name)
names_at known tokens = all_steps (name_step known) [] tokens

-- the names that may stand in a list: those of groups, or all
abbrev pub is_known : Option (Bor Groups) → Name → Bool
is_known None name = true
is_known (Some groups) name = has name groups.now

-- `(name, ...)`, names of groups that stand before
unfoldable pub listed : Groups → Tokens → Read (List Name)
listed groups tokens =
    mark_at 40 tokens >>= λ a. names_at (λ name. has name groups) a >>= λ names. mark_at 41 names.1 >>= λ rest.
    Ok (names.0, rest)

-- In a rule's braces: `UAG(name, ...)` and `HAG(name, ...)`, each at most once, up to the closing brace.
abbrev pub nobody : Who
nobody = record { users = []; hosts = [] }

abbrev pub with_users : Who → List Name → Who
with_users who users = record { users = users; hosts = who.hosts }

abbrev pub with_hosts : Who → List Name → Who
with_hosts who hosts = record { users = who.users; hosts = hosts }

abbrev pub once_more : {A : Type 0} → (List Name → A) → Read (List Name) → Read (A × Bool)
once_more put (Err e) = Err e
once_more put (Ok names) = Ok ((put names.0, true), names.1)

-- the word isn't supported, or there is no memory to say so
abbrev pub IsUnsupported : Token → FormStop → Type 0
IsUnsupported t (Fault NoMemory) = Unit {0}
IsUnsupported t stop = stop ≡ Fault (Unsupported t.text t.line)

abbrev pub unsupported : {A : Type 0} → Token → Result A FormStop
unsupported t = Err (Fault (Unsupported t.text t.line))

abbrev pub who_in : Rules → Who → Token → Keyword → Tokens → Read (Who × Bool)
who_in rules who t words.Users rest =
    if length who.users == 0 then once_more (with_users who) (listed rules.users rest) else bad t
who_in rules who t words.Hosts rest =
    if length who.hosts == 0 then once_more (with_hosts who) (listed rules.hosts rest) else bad t
who_in rules who t words.Close rest = Ok ((who, false), rest)
who_in rules who t words.Unsupported rest = unsupported t
who_in rules who t words.Rules rest = bad t
who_in rules who t words.Rule rest = bad t
who_in rules who t words.Other rest = bad t

unfoldable pub who_step : Rules → Step Who
who_step rules who tokens = next tokens >>= λ t. who_in rules who t.0 (keyword_in t.0) t.1

abbrev pub inside_at : Rules → Tokens → Read Who
inside_at rules tokens = all_steps (who_step rules) nobody tokens

abbrev pub braced : Rules → Tokens → Option Tokens → Read Who
braced rules tokens None = Ok (nobody, tokens)
braced rules tokens (Some rest) = inside_at rules rest

unfoldable pub who_at : Rules → Tokens → Read Who
who_at rules tokens = braced rules tokens (after_mark 123 tokens)

-- a level: 0 or 1
abbrev pub level_in : Token → Result ℕ FormStop
level_in t =
    if bytes_eq t.text (codes "0") then Ok 0
    else if bytes_eq t.text (codes "1") then Ok 1
    else bad t

-- a permission
abbrev pub access_in : Token → Result Access FormStop
access_in t =
    if bytes_eq t.text (codes "NONE") then Ok accesses.Nothing
    else if bytes_eq t.text (codes "READ") then Ok accesses.Read
    else if bytes_eq t.text (codes "WRITE") then Ok accesses.Write
    else bad t

-- a third word, where a comma follows the permission; it has no effect
abbrev pub trap_in : Token → Result (Unit {0}) FormStop
trap_in t =
    if bytes_eq t.text (codes "TRAPWRITE") then Ok tt
    else if bytes_eq t.text (codes "NOTRAPWRITE") then Ok tt
    else bad t

abbrev pub trapped : Tokens → Option Tokens → Result Tokens FormStop
trapped tokens None = Ok tokens
trapped tokens (Some rest) = word_at rest >>= λ t. trap_in t.0 >>= λ _. Ok t.1

unfoldable pub trap_at : Tokens → Result Tokens FormStop
trap_at tokens = trapped tokens (after_mark 44 tokens)

-- `(level, permission)` or `(level, permission, word)`
unfoldable pub permission_at : Tokens → Read (ℕ × Access)
permission_at tokens =
    mark_at 40 tokens >>= λ a. word_at a >>= λ l. level_in l.0 >>= λ level. mark_at 44 l.1 >>= λ b.
    word_at b >>= λ p. access_in p.0 >>= λ access. trap_at p.1 >>= λ c. mark_at 41 c >>= λ rest.
    Ok ((level, access), rest)

abbrev pub rule_of : ℕ × Access → Who → Rule
rule_of permission who =
    record { level = permission.0; access = permission.1; users = who.users; hosts = who.hosts }

-- a rule behind its word
unfoldable pub rule_at : Rules → Tokens → Read Rule
rule_at rules tokens =
    permission_at tokens >>= λ p. who_at rules p.1 >>= λ who. Ok (rule_of p.0 who.0, who.1)

-- rules, up to the closing brace
abbrev pub add_rule : List Rule → Read Rule → Read (List Rule × Bool)
add_rule list (Err e) = Err e
add_rule list (Ok r) = Ok ((list ++ r.0 ∷ [], true), r.1)

abbrev pub rule_in : Rules → List Rule → Token → Keyword → Tokens → Read (List Rule × Bool)
rule_in rules list t words.Rule rest = add_rule list (rule_at rules rest)
rule_in rules list t words.Close rest = Ok ((list, false), rest)
rule_in rules list t words.Unsupported rest = unsupported t
rule_in rules list t words.Users rest = bad t
rule_in rules list t words.Hosts rest = bad t
rule_in rules list t words.Rules rest = bad t
rule_in rules list t words.Other rest = bad t

unfoldable pub rule_step : Rules → Step (List Rule)
rule_step rules list tokens = next tokens >>= λ t. rule_in rules list t.0 (keyword_in t.0) t.1

abbrev pub rules_at : Rules → Tokens → Read (List Rule)
rules_at rules tokens = all_steps (rule_step rules) [] tokens

-- `(name) {`: a group's name, which no group of its sort before it may have
abbrev pub untaken : Bool → Token → Result Name FormStop
untaken taken t = if taken then Err (Fault (SameName t.text t.line)) else Ok t.text

unfoldable pub opened_at : Tokens → Read Token
opened_at tokens = mark_at 40 tokens >>= λ a. name_at a

unfoldable pub braces_at : Tokens → Result Tokens FormStop
braces_at tokens = mark_at 41 tokens >>= λ b. mark_at 123 b

-- Of names that are given again the first stays.
abbrev pub with_name : List Name → Name → List Name
with_name names name = if is_among name names then names else names ++ name ∷ []

abbrev pub once : List Name → List Name
once names = fold with_name [] names

-- `name, ... }`
unfoldable pub members_at : Tokens → Read (List Name)
members_at tokens = names_at (is_known None) tokens >>= λ names. mark_at 125 names.1 >>= λ rest. Ok (names.0, rest)

-- `(name) {name, ...}`: a group of users, or of hosts, behind those before it
unfoldable pub group_at : Groups → Tokens → Read Groups
group_at groups tokens =
    opened_at tokens >>= λ t. untaken (has t.0.text groups) t.0 >>= λ name. braces_at t.1 >>= λ a. members_at a >>= λ names.
    Ok (groups ++ (name, once names.0) ∷ [], names.1)

-- `(name) { rules }`: a group of rules behind those before it
unfoldable pub rule_group_at : Rules → Tokens → Read (List (Name × List Rule))
rule_group_at rules tokens =
    opened_at tokens >>= λ t. untaken (has t.0.text rules.groups) t.0 >>= λ name. braces_at t.1 >>= λ a.
    rules_at rules a >>= λ list. Ok (rules.groups ++ (name, list.0) ∷ [], list.1)

-- the groups of a file, one after another, up to its end
abbrev pub no_rules : Rules
no_rules = record { users = []; hosts = []; groups = [] }

abbrev pub file_in : Rules → Token → Keyword → Tokens → Read (Rules × Bool)
file_in rules t words.Users rest =
    group_at rules.users rest >>= λ g. Ok ((record { users = g.0; hosts = rules.hosts; groups = rules.groups }, true), g.1)
file_in rules t words.Hosts rest =
    group_at rules.hosts rest >>= λ g. Ok ((record { users = rules.users; hosts = g.0; groups = rules.groups }, true), g.1)
file_in rules t words.Rules rest =
    rule_group_at rules rest >>= λ g. Ok ((record { users = rules.users; hosts = rules.hosts; groups = g.0 }, true), g.1)
file_in rules t words.Rule rest = bad t
file_in rules t words.Unsupported rest = bad t
file_in rules t words.Close rest = bad t
file_in rules t words.Other rest = bad t

unfoldable pub file_step : Step Rules
file_step rules [] = Ok ((rules, false), [])
file_step rules (t ∷ rest) = file_in rules t (keyword_in t) rest

abbrev pub file_at : Tokens → Result Rules FormStop
file_at tokens = all_steps file_step no_rules tokens >>= λ x. Ok x.0
