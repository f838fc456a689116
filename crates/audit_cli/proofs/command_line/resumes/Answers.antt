use Rattle.std.proofs.Common.{◌∙◌, ap, codes}
use Rattle.clap.specs.Words.{found_of}
use Rattle.clap.proofs.WalkLemmas.{first_value-rows}
use Rattle.audit_cli.specs.CommandLine.{is_true}
use Rattle.audit_cli.proofs.command_line.resumes.Goals as goal

pub returns : goal.returns
returns c = c.is_set.ensures ∙ ap is_true (c.get_str.ensures ∙ first_value-rows (found_of c.args.found.now) (codes "resume"))
