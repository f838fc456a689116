use Rattle.std.proofs.Common.{rules, ◌≡◌, ℕ, List, length, take, sym, subst}
use Rattle.block_cache.specs.Cached.{HasRange}
use Rattle.row_codec.specs.declared.rows.StoreRow.TheVariants.{Kept}
use Rattle.row_codec.specs.Rows.{Begins, IsSpelling}
use Rattle.saved_rows.proofs.RowLemmas.{fault_gives}
use Rattle.saved_rows.proofs.SpelledLemmas.{is_found, is_there, kept_long, same_row, same_kept}
use Rattle.saved_rows.proofs.reading.kept_at.Goals as goal

pub returns-in-Some-clause-row : goal.returns-in-Some-clause-row
returns-in-Some-clause-row g c = λ told firm r is.
    let reads = (g.D.Disk.state c.args.disk.now).reads in
    let whole : length c.fill.new.bytes ≡ 46 = search rules in
    let same : c.as_slice.result.now ≡ c.fill.new.bytes = search rules in
    let found = c.in-Some.ensures.found in
    let begins : Begins (Kept c.in-Some.row) found.0 c.fill.new.bytes = subst (λ (xs : List ℕ). Begins (Kept c.in-Some.row) found.0 xs) same found.1 in
    same_kept c.in-Some.row r (same_row reads firm c.args.place 46 (Kept r) is (kept_long r) c.fill.new.bytes (c.in-Ok.ensures.bytes told) whole c.spellings_are_apart.ensures (Kept c.in-Some.row) found.0 begins)

pub returns-in-None-clause-row : goal.returns-in-None-clause-row
returns-in-None-clause-row g c = λ told firm r is.
    let reads = (g.D.Disk.state c.args.disk.now).reads in
    let whole : length c.fill.new.bytes ≡ 46 = search rules in
    let same : c.as_slice.result.now ≡ c.fill.new.bytes = search rules in
    is_found reads firm c.args.place 46 (Kept r) is (kept_long r) c.fill.new.bytes (c.in-Ok.ensures.bytes told) whole
    (λ k s. c.in-None.ensures.none (search rules) r k (subst (λ (xs : List ℕ). IsSpelling (Kept r) (take k xs)) (sym same) s))

pub returns-in-Err-clause-row : goal.returns-in-Err-clause-row
returns-in-Err-clause-row g c = λ told firm r is.
    let reads = (g.D.Disk.state c.args.disk.now).reads in
    let whole : length c.fill.new.bytes ≡ 46 = search rules in
    let there : HasRange c.args.place (length c.fill.new.bytes) reads = subst (λ (n : ℕ). HasRange c.args.place n reads) (sym whole) (is_there reads firm c.args.place 46 (Kept r) is (kept_long r)) in
    fault_gives c.in-Err.fault r (λ place e. c.in-Err.ensures.there told there place (let same = e in cc))
