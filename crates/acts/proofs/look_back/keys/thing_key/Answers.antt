use Rattle.std.proofs.Common.{rules}
use Rattle.acts.specs.LookBack.{so_far}
use Rattle.acts.proofs.Unopened.{nothing_held}
use Rattle.acts.proofs.look_back.keys.thing_key.Goals as goal

pub returns-in-Fd : goal.returns-in-Fd
returns-in-Fd c = rw (c.in-Fd.is, nothing_held (so_far c.args.taken.now) c.args.pid c.in-Fd.fd c.requires.none_opened) (search rules)
