use Rattle.std.proofs.Common.{◌∙◌, ap, not}
use Rattle.audit_order.specs.Words.{with_join, with_shared, with_names, with_compat, with_own, with_report}
use Rattle.audit_order.proofs.words.order_of.Goals as goal

pub returns : goal.returns
returns c =
    let no_join = c.has_word-no_join.result.0 in
    let shared = c.has_word-shared.result.0 in
    let no_names = c.has_word-no_names.result.0 in
    let no_compat = c.has_word-no_compat.result.0 in
    let no_own = c.has_word-no_own.result.0 in
    c.with_window.ensures
    ∙ ap (with_report (record { join = not no_join; apart = not shared; names = not no_names; own = not no_own; compat = not no_compat })) c.has_word-report.ensures
    ∙ ap (with_own no_join shared no_names no_compat) c.has_word-no_own.ensures
    ∙ ap (with_compat no_join shared no_names) c.has_word-no_compat.ensures
    ∙ ap (with_names no_join shared) c.has_word-no_names.ensures
    ∙ ap (with_shared no_join) c.has_word-shared.ensures
    ∙ ap with_join c.has_word-no_join.ensures
