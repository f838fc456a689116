use Rattle.store_runs.proofs.status.status_line.Goals as goal

pub returns-in-BadStore : goal.returns-in-BadStore
returns-in-BadStore c =
    let line = c.as_line-in-BadStore.ensures in
    let text = c.as_str.ensures.value in
    let bad = c.bad_text.ensures.text in
    rw c.in-BadStore.is cc

pub returns-in-BadRow : goal.returns-in-BadRow
returns-in-BadRow c =
    let line = c.as_line-in-BadRow.ensures in
    let text = c.as_str-in-BadRow.ensures.value in
    let bad = c.bad_text-in-BadRow.ensures.text in
    rw c.in-BadRow.is cc

pub returns-in-WrongMode : goal.returns-in-WrongMode
returns-in-WrongMode c =
    let line = c.as_line-in-WrongMode.ensures in
    let text = c.as_str-in-WrongMode.ensures.value in
    let wrong = c.wrong_text.ensures.text in
    rw c.in-WrongMode.is cc

pub returns-in-ShortLog : goal.returns-in-ShortLog
returns-in-ShortLog c =
    let line = c.as_line-in-ShortLog.ensures in
    let text = c.as_str-in-ShortLog.ensures.value in
    let short = c.short_text.ensures.text in
    rw c.in-ShortLog.is cc
