use Rattle.store_tests.proofs.engine_over_a_store.disk_after.Goals as goal

pub commit-requires : goal.commit-requires
commit-requires g c = record {
  can = c.what_can_commit_still_can.ensures c.args.engine.joined.keep c.takes.new.engine.joined.keep c.takes.ensures c.requires;
}
