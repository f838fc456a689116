use Rattle.std.proofs.Common.{◌+◌, ◌*◌, ◌<◌, [], sym, subst, ◌∙◌, arith}
use Rattle.reduce_source.specs.Pools.{Adds, Fits}
use Rattle.reduce_source.specs.Shelves.{HasNumber}
use Rattle.reduce_source.specs.Sets.{standing_of}
use Rattle.reduce_source.proofs.Joining.{stands_next}
use Rattle.reduce_source.proofs.Room.{ends_fit, wide_ends, fits_fewer, fits_left, room_left}
use Rattle.reduce_source.proofs.sets.SourceSets.union.Goals as goal

pub begin-requires-clause-place : goal.begin-requires-clause-place
begin-requires-clause-place c = let r = c.requires.room in (ends_fit c.args.self.now r.0 [] c.args.with.0 c.args.into.0 r.2 r.1).0

pub begin-requires-clause-set : goal.begin-requires-clause-set
begin-requires-clause-set c =
    let r = c.requires.room in
    let e = (ends_fit c.args.self.now r.0 [] c.args.with.0 c.args.into.0 r.2 r.1).0 in
    let o = (r.2).objects in
    omega (arith, e, o)

pub begin-requires-clause-number : goal.begin-requires-clause-number
begin-requires-clause-number c =
    let r = c.requires.room in
    let w = (wide_ends c.args.self.now r.0 [] c.args.with.0 c.args.into.0 r.2 r.1).0 in
    let n = (r.2).numbers in
    omega (arith, w, n)

pub begin-requires-clause-room : goal.begin-requires-clause-room
begin-requires-clause-room c = let s = c.args.self.now.shared in fits_fewer (1 * (s.width + 1)) 1 s.pools (omega arith) (c.requires.room.2).fits

pub see-requires : goal.see-requires
see-requires c = let r = c.requires.room in subst (λ n. c.args.into.0 < n) (sym c.begin.ensures.places) (ends_fit c.args.self.now r.0 [] c.args.with.0 c.args.into.0 r.2 r.1).1

pub join-requires : goal.join-requires
join-requires c =
    let r = c.requires.room in
    let old = c.args.self.now.shared in
    let e = (ends_fit c.args.self.now r.0 [] c.args.with.0 c.args.into.0 r.2 r.1).1 in
    let w = (wide_ends c.args.self.now r.0 [] c.args.with.0 c.args.into.0 r.2 r.1).1 in
    let o = (r.2).objects in
    let shape = c.begin.ensures.shape in
    let from = shape.places c.args.with.0 in
    let to = shape.places c.args.into.0 in
    let narrow = old.sound.narrow c.args.with.0 in
    let all : Fits (old.width + 1) old.pools = fits_fewer (1 * (old.width + 1)) (old.width + 1) old.pools (omega arith) (r.2).fits in
    record {
      object = let same = shape.objects in omega (arith, e, o, same);
      places = omega (arith, from, to, narrow, w);
      room = fits_fewer old.width _ c.begin.new.self.shared.pools (omega (arith, from, narrow)) (fits_left old.width 1 old.pools c.begin.new.self.shared.pools c.begin.ensures.adds shape.pages shape.blocks all);
    }

pub returns-clause-next : goal.returns-clause-next
returns-clause-next c = λ K f between apart later s.
    let old = c.args.self.now in
    let middle = c.begin.new.self in
    stands_next c.args.with.0 c.args.into.0 old _ (standing_of middle) (HasNumber middle.shared)
    (record {
      begun = c.begin.ensures.standings;
      entered = c.see.ensures.standings;
      marked = c.begin.ensures.sets;
      joined = c.join.ensures.sets;
      count = c.begin.ensures.count;
      places = c.see.ensures.len ∙ c.begin.ensures.places;
    }) K f between.0 between.1 apart later s

pub returns-clause-rest : goal.returns-clause-rest
returns-clause-rest c = λ f rest r.
    let old = c.args.self.now in
    let shape = c.begin.ensures.shape in
    let joined = c.join.ensures.adds in
    let marked = c.begin.ensures.adds in
    let from = shape.places c.args.with.0 in
    let narrow = old.shared.sound.narrow c.args.with.0 in
    let used : Adds (old.shared.width + 1) old.shared.pools c.join.new.self.pools =
    record {
      pages = let a = joined.pages in let b = marked.pages in omega (arith, a, b, from, narrow);
      blocks = let a = joined.blocks in let b = marked.blocks in omega (arith, a, b, from, narrow);
    } in
    room_left old _ (standing_of old c.args.with.0) c.begin.ensures.count (c.see.ensures.len ∙ c.begin.ensures.places)
    (record {
      places = λ v. c.join.ensures.shape.places v ∙ shape.places v;
      objects = c.join.ensures.shape.objects ∙ shape.objects;
      pages = c.join.ensures.shape.pages ∙ shape.pages;
      blocks = c.join.ensures.shape.blocks ∙ shape.blocks;
      width = c.join.ensures.shape.width ∙ shape.width;
    })
    used f rest r
