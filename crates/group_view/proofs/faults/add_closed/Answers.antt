use Rattle.std.proofs.Common.{◌≡◌, List, ℕ, length, true, not, ◌&&◌, ◌||◌, ◌∙◌, refl, ap, cond}
use Rattle.std.specs.Str.{bytes_eq}
use Rattle.group_view.specs.Faults.{has_name}
use Rattle.group_view.proofs.Misplacing.{or_is, same_name}
use Rattle.group_view.proofs.faults.add_closed.Goals as goal

pub returns-then-holds_members : goal.returns-then-holds_members
returns-then-holds_members c = λ name.
    ap (λ h. (not h && bytes_eq c.args.member.now.def.name name) || has_name c.args.closed.now name) c.if-holds_members.ensures

pub returns : goal.returns
returns c = λ name.
    let mine : List ℕ = c.args.member.now.def.name in
    let old = has_name c.args.closed.now name in
    let key = c.as_bytes-name.result in
    let is : key.now ≡ mine = c.as_bytes-name.ensures.value ∙ c.as_str.ensures.text in
    c.in_ok-insert.ensures.updates.0 (length name, record { ref_ptr = key.ref_ptr; now = name })
    ∙ ap (λ b. cond b true old) (same_name key.now name (length key.now) refl ∙ ap (λ (n : List ℕ). bytes_eq n name) is)
    ∙ or_is (bytes_eq mine name) old
    ∙ ap (λ h. (not h && bytes_eq mine name) || old) c.if-holds_members.ensures
