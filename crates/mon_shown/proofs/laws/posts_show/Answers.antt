use Rattle.mon_queue.proofs.Showing.{posts_show, first_shows}
use Rattle.mon_shown.proofs.laws.posts_show.Goals as goal

pub returns-clause-later : goal.returns-clause-later
returns-clause-later c = posts_show

pub returns-clause-first : goal.returns-clause-first
returns-clause-first c = first_shows
