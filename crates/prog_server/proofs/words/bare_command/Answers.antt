use Rattle.std.proofs.Common.{◌∙◌, ap}
use Rattle.clap.specs.Simple.{app_of_fields}
use Rattle.clap.specs.declared.builder.command.Command.{Command}
use Rattle.clap.specs.declared.builder.command.Command.TheOpen.{Command-F}
use Rattle.prog_server.specs.Words.{unnamed}
use Rattle.prog_server.proofs.words.bare_command.Goals as goal

pub returns-clause-app : goal.returns-clause-app
returns-clause-app c = ap app_of_fields c.no_binary_name.ensures ∙ ap unnamed c.new.ensures.app

pub returns-clause-whole : goal.returns-clause-whole
returns-clause-whole c = ap (λ (f : Command-F Command). f.is_broken) c.no_binary_name.ensures ∙ c.new.ensures.whole
