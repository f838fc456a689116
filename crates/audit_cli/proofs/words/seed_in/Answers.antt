use Rattle.std.proofs.Common.{◌≡◌, true}
use Rattle.std.specs.List.{list_all}
use Rattle.std.specs.Char.{is_ascii_digit}
use Rattle.audit_cli.proofs.Numbers.{refused}
use Rattle.audit_cli.proofs.words.seed_in.Goals as goal

pub returns-in-Err : goal.returns-in-Err
returns-in-Err c =
    let digits : list_all is_ascii_digit c.args.word.now ≡ true = cc in
    refused 64 c.args.word.now c.in-Err.field-0 digits (rw c.in-Err.is at c.parse.ensures.value.0)
