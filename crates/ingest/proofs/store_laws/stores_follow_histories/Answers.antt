use Rattle.std.proofs.Common.{◌≤◌, ◌^◌, ◌++◌, sym, subst, [], arith}
use Rattle.name_text.specs.Addresses.{text_of}
use Rattle.store_check.specs.Conditions.{bounds_of}
use Rattle.stored.specs.Moment.{Moment}
use Rattle.stored.specs.Stored.{Stored}
use Rattle.ingest.specs.Storing.{moment_of}
use Rattle.ingest.proofs.store_laws.stores_follow_histories.Goals as goal

pub returns-clause-bytes : goal.returns-clause-bytes
returns-clause-bytes g c = λ limits mode engine h more p0 p bytes after payload rows stands s commit spelled store.
    let part : p ≤ 2 ^ 60 = omega (arith, stands.has_part.within, stands.stands.fits.input, limits.input_within) in
    c.commits_store.ensures.bytes text_of limits.names limits.payload (bounds_of limits) mode bytes after payload rows (moment_of limits h p0) (moment_of limits (h ++ more) p)
    s commit (c.histories_may_be_committed.ensures.may limits engine h more p0 p stands.stands part) spelled store

pub returns-clause-image : goal.returns-clause-image
returns-clause-image g c = λ limits mode engine h more p0 p bytes image payload rows stands s commit spelled store.
    let part : p ≤ 2 ^ 60 = omega (arith, stands.has_part.within, stands.stands.fits.input, limits.input_within) in
    c.commits_store.ensures.image text_of limits.names limits.payload (bounds_of limits) mode bytes image payload rows (moment_of limits h p0) (moment_of limits (h ++ more) p)
    s commit (c.histories_may_be_committed.ensures.may limits engine h more p0 p stands.stands part) spelled store

pub returns-clause-empty : goal.returns-clause-empty
returns-clause-empty g c = λ limits mode bytes none. record {
  batches = [];
  payloads = [];
  spelled = tt;
  store = none;
  stored = subst (λ (m : Moment). Stored text_of limits.names (bounds_of limits) mode [] m) (sym (c.histories_may_be_committed.ensures.nothing limits)) (c.commits_store.ensures.empty text_of limits.names (bounds_of limits) mode);
}
