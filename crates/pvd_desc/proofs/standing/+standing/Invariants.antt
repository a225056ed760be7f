use Rattle.std.proofs.Common.{◌≡◌, ◌+◌, ◌≤◌, length, take, drop, []}
use Rattle.pvd_type.specs.View.{members_view, names_of}
use Rattle.pvd_type.specs.Check.{visits, first_fault}
use Rattle.pvd_desc.specs.Named.{AreNamed}
use Rattle.pvd_desc.proofs.standing.+standing.Given as goal

abbrev pub invariant-members_stand-loop-i : goal.invariant-members_stand-loop-i
invariant-members_stand-loop-i l =
    let rest = visits l.level (names_of (take l.i l.members)) (members_view (drop l.i l.members)) in
    let all = visits l.level [] (members_view l.members) in
    record {
      few : l.count ≤ 4096;
      named : AreNamed (names_of (take l.i l.members)) (members_view (drop l.i l.members));
      fault : first_fault l.count rest ≡ first_fault l.seen all;
      total : l.count + length rest ≡ l.seen + length all;
    }
