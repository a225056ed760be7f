use Rattle.std.proofs.Common.{◌≡◌, ℕ, ◌≤◌, ◌+◌, [], List, length, drop, ap, sym, ◌∙◌, arith}
use Rattle.std.proofs.lemmas.List.{drop_all, drop-drop}
use Rattle.cli_session.specs.Views.{View, view_of, ask_of}
use Rattle.cli_session.proofs.Standing.{taken_more, taken_stands}
use Rattle.cli_session.proofs.client.Client.took.Goals as goal

pub returns-then-self-len-clause-view : goal.returns-then-self-len-clause-view
returns-then-self-len-clause-view c =
    let old = view_of c.args.self.now in
    let xs = c.args.self.now.output.items in
    let all : length xs ≤ c.args.self.now.sent + c.args.count = omega (arith, c.len.ensures, c.args.self.now.output.ok, c.if-self-len.true) in
    let none : drop c.args.count (drop c.args.self.now.sent xs) ≡ [] =
    drop-drop c.args.count c.args.self.now.sent xs ∙ drop_all (c.args.self.now.sent + c.args.count) xs all in
    ap (λ (ys : List ℕ). let v : View = record old { output = ys } in v) (c.clear.ensures.items ∙ sym none)

pub returns-else-self-len-clause-view : goal.returns-else-self-len-clause-view
returns-else-self-len-clause-view c =
    let old = view_of c.args.self.now in
    ap (λ (xs : List ℕ). let v : View = record old { output = xs } in v) (sym (drop-drop c.args.count c.args.self.now.sent c.args.self.now.output.items))

pub returns-then-self-len-clause-accounts : goal.returns-then-self-len-clause-accounts
returns-then-self-len-clause-accounts c events given taken accounts =
    taken_more (ask_of c.args.self.now) events given taken (view_of c.args.self.now) _ c.args.count (returns-then-self-len-clause-view c) accounts

pub returns-else-self-len-clause-accounts : goal.returns-else-self-len-clause-accounts
returns-else-self-len-clause-accounts c events given taken accounts =
    taken_more (ask_of c.args.self.now) events given taken (view_of c.args.self.now) _ c.args.count (returns-else-self-len-clause-view c) accounts

pub returns-then-self-len-clause-stands : goal.returns-then-self-len-clause-stands
returns-then-self-len-clause-stands c events given taken stands =
    taken_stands (ask_of c.args.self.now) events given taken (view_of c.args.self.now) _ c.args.count (returns-then-self-len-clause-view c) stands

pub returns-else-self-len-clause-stands : goal.returns-else-self-len-clause-stands
returns-else-self-len-clause-stands c events given taken stands =
    taken_stands (ask_of c.args.self.now) events given taken (view_of c.args.self.now) _ c.args.count (returns-else-self-len-clause-view c) stands
