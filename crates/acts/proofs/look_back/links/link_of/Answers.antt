use Rattle.acts.proofs.look_back.links.link_of.Goals as goal

pub returns-in-See : goal.returns-in-See
returns-in-See c = rw c.in-See.is (c.parent_link.ensures c.in-See.exe)
