use Rattle.srv_host.proofs.session.serve_desk.Given as goal

abbrev pub ghosts-serve : goal.ghosts-serve
ghosts-serve g a = record { start = g.L.Link.wire a.link }
