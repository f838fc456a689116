use Rattle.std.proofs.Common.{◌≡◌, [], ◌∷◌, ◌++◌, List, ℕ, length, refl, sym, ap, subst, false}
use Rattle.order_text.specs.Stamp.{stamp_of}
use Rattle.order_place.specs.Nodes.{HasPlace, SeesLine}
use Rattle.order_kin.specs.Families.{Reads}
use Rattle.audit_order.specs.declared.bounds.Bounds.{Bounds}
use Rattle.audit_order.specs.Sorted.{Holds, HasRoom, any_is_past}
use Rattle.audit_order.specs.Turns.{Next}
use Rattle.audit_order.proofs.ReadLemmas.{on_ok_two}
use Rattle.audit_order.proofs.SortLemmas.{reads, comes}
use Rattle.audit_order.proofs.release.SorterTaker.take_line.Goals as goal

pub returns-clause-takes : goal.returns-clause-takes
returns-clause-takes g c = on_ok_two c.release_past.result c.release_past.ensures.goes c.release_past.ensures.past
    (λ goes past before lines s.
    let place = c.in_ok-read.read.place in
    let line = c.args.line in
    let now = g.O.Sink.written c.args.sink.now in
    let read = reads before now c.args.self.now (record c.args.self.now { places = c.read_line.new.places; kin = c.read_line.new.kin }) place line lines refl
    (record {
      has = subst (λ (l : List ℕ). HasPlace c.args.self.now.places (stamp_of l) place) c.as_slice.ensures c.in_ok-read.ensures.place;
      last = c.in_ok-read.ensures.last;
      sees = subst (λ (l : List ℕ). SeesLine c.args.self.now.places c.read_line.new.places (stamp_of l) l place) c.as_slice.ensures c.in_ok-read.ensures.sees;
    })
    (subst (λ (l : List ℕ). Reads c.args.self.now.kin c.read_line.new.kin l) c.as_slice.ensures c.in_ok-read.ensures.kin) c.in_ok-read.ensures.compat s in
    let started = c.in_ok-release_before.ensures.goes (Next place line) refl before lines read in
    let fits = c.in_ok-make_room.ensures.goes (Next place line) (sym (ap length c.as_slice-2.ensures)) before lines started in
    let held = c.make_room.new.sorter in
    let room : HasRoom held.bounds.memory (length line) held.queue.waits =
    subst (λ (b : Bounds). HasRoom b.memory (length line) held.queue.waits) (sym c.make_room.ensures.bounds)
    (subst (λ (l : List ℕ). HasRoom c.release_before.new.sorter.bounds.memory (length l) held.queue.waits) c.as_slice-2.ensures c.in_ok-make_room.ensures.early) in
    record {
      at = goes before (lines ++ line ∷ [])
          (comes before (g.O.Sink.written c.make_room.new.sink) held c.hold.new.sorter place line lines
          (λ starts. c.in_ok-make_room.ensures.none (c.in_ok-release_before.ensures.none starts)) room
          (subst (Holds held c.hold.new.sorter place) c.new-noted.ensures c.in_ok-hold.ensures.holds) fits);
      past = subst (λ (b : Bounds). any_is_past b.window c.release_past.new.sorter.places.clock c.release_past.new.sorter.queue.waits ≡ false)
          (sym c.release_past.ensures.bounds) past;
    })
