use Rattle.pvd_desc.proofs.FoundThere.{found_there}
use Rattle.pvd_desc.proofs.OnlyThis.{only_this}
use Rattle.pvd_desc.proofs.Unique.{unique_from_only}
use Rattle.pvd_desc.proofs.Back.{read_back}
use Rattle.pvd_desc.proofs.laws.descriptions.Goals as goal

pub returns-clause-found : goal.returns-clause-found
returns-clause-found c = found_there

pub returns-clause-only : goal.returns-clause-only
returns-clause-only c = only_this

pub returns-clause-unique : goal.returns-clause-unique
returns-clause-unique c = unique_from_only only_this

pub returns-clause-read_back : goal.returns-clause-read_back
returns-clause-read_back c = read_back
