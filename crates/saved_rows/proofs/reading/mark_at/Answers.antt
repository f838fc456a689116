use Rattle.std.proofs.Common.{rules, ◌≡◌, ℕ, List, length, take, sym, ap, subst}
use Rattle.block_cache.specs.Cached.{HasRange}
use Rattle.row_codec.specs.declared.rows.ExtendRow.{ExtendRow}
use Rattle.row_codec.specs.declared.rows.StoreRow.TheVariants.{Extend}
use Rattle.row_codec.specs.Rows.{Begins, IsSpelling}
use Rattle.saved_rows.proofs.RowLemmas.{fault_gives}
use Rattle.saved_rows.proofs.SpelledLemmas.{is_found, is_there, extend_long, same_row, same_extend}
use Rattle.saved_rows.proofs.reading.mark_at.Goals as goal

pub returns-in-Some-clause-mark : goal.returns-in-Some-clause-mark
returns-in-Some-clause-mark g c = λ told firm r is.
    let reads = (g.D.Disk.state c.args.disk.now).reads in
    let whole : length c.fill.new.bytes ≡ 30 = search rules in
    let same : c.as_slice.result.now ≡ c.fill.new.bytes = search rules in
    let found = c.in-Some.ensures.found in
    let begins : Begins (Extend c.in-Some.row) found.0 c.fill.new.bytes = subst (λ (xs : List ℕ). Begins (Extend c.in-Some.row) found.0 xs) same found.1 in
    ap (λ (e : ExtendRow). e.mark) (same_extend c.in-Some.row r (same_row reads firm c.args.place 30 (Extend r) is (extend_long r) c.fill.new.bytes (c.in-Ok.ensures.bytes told) whole c.spellings_are_apart.ensures (Extend c.in-Some.row) found.0 begins))

pub returns-in-None-clause-mark : goal.returns-in-None-clause-mark
returns-in-None-clause-mark g c = λ told firm r is.
    let reads = (g.D.Disk.state c.args.disk.now).reads in
    let whole : length c.fill.new.bytes ≡ 30 = search rules in
    let same : c.as_slice.result.now ≡ c.fill.new.bytes = search rules in
    is_found reads firm c.args.place 30 (Extend r) is (extend_long r) c.fill.new.bytes (c.in-Ok.ensures.bytes told) whole
    (λ k s. c.in-None.ensures.none (search rules) r k (subst (λ (xs : List ℕ). IsSpelling (Extend r) (take k xs)) (sym same) s))

pub returns-in-Err-clause-mark : goal.returns-in-Err-clause-mark
returns-in-Err-clause-mark g c = λ told firm r is.
    let reads = (g.D.Disk.state c.args.disk.now).reads in
    let whole : length c.fill.new.bytes ≡ 30 = search rules in
    let there : HasRange c.args.place (length c.fill.new.bytes) reads = subst (λ (n : ℕ). HasRange c.args.place n reads) (sym whole) (is_there reads firm c.args.place 30 (Extend r) is (extend_long r)) in
    fault_gives c.in-Err.fault r.mark (λ place e. c.in-Err.ensures.there told there place (let same = e in cc))
