use Rattle.block_cache.proofs.CacheLemmas.{cache_of_firm, cache_of_more}
use Rattle.block_cache.proofs.laws.caches_outlive_commits.Goals as goal

pub returns-clause-kept : goal.returns-clause-kept
returns-clause-kept c = cache_of_firm

pub returns-clause-raised : goal.returns-clause-raised
returns-clause-raised c = cache_of_more
