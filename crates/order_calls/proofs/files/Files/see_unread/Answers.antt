use Rattle.std.proofs.Common.{◌∙◌, sym}
use Rattle.order_calls.proofs.MinorLemmas.{minor_heard, minor_stands}
use Rattle.order_calls.proofs.files.Files.see_unread.Goals as goal

pub returns-then-not-awaits-clause-hears : goal.returns-then-not-awaits-clause-hears
returns-then-not-awaits-clause-hears c =
    minor_heard c.args.self.now c.args.line.now (c.args.ms, c.args.serial) (sym c.is_minor.ensures ∙ c.if-is_minor.true)
    (sym c.awaits.ensures ∙ c.if-not-awaits.true)

pub returns-then-not-awaits-clause-stands : goal.returns-then-not-awaits-clause-stands
returns-then-not-awaits-clause-stands c = λ before stands.
    minor_stands c.args.self.now c.args.line.now (c.args.ms, c.args.serial) before (sym c.is_minor.ensures ∙ c.if-is_minor.true)
    (sym c.awaits.ensures ∙ c.if-not-awaits.true) stands
