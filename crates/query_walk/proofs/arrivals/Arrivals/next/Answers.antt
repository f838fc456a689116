use Rattle.std.proofs.Common.{ℕ, Option, sym, subst, inl, inr}
use Rattle.std.specs.List.{Contains}
use Rattle.std.specs.Option.{IfSome, IfNone}
use Rattle.query_walk.specs.Arrivals.{Held, IsDue, IsLeastFrom, NoneFrom, SitsAt, StayFrom, arrival, place_after}
use Rattle.query_walk.proofs.ArrivalLemmas.{Both, sooner_first, sooner_none}
use Rattle.query_walk.proofs.arrivals.Arrivals.next.Goals as goal

pub returns-clause-some : goal.returns-clause-some
returns-clause-some c =
    let S = SitsAt c.self.inside.slots in
    let H = Contains c.self.inside.queue in
    let low = place_after c.args.after in
    let one = c.next.result in
    let other = c.next-queued.result in
    let sooner = sooner_first S H low one other c.next.ensures.some c.next.ensures.none c.next-queued.ensures.some c.next-queued.ensures.none in
    subst (λ (held : Held). IfSome c.sooner.result (λ a. IsLeastFrom (IsDue held) low (arrival a.0 a.1))) c.self.view_is
    (subst (λ (found : Option (ℕ × ℕ)). IfSome found (λ a. IsLeastFrom (Both S H low) low (arrival a.0 a.1))) (sym c.sooner.ensures) sooner)

pub returns-clause-none : goal.returns-clause-none
returns-clause-none c =
    let S = SitsAt c.self.inside.slots in
    let H = Contains c.self.inside.queue in
    let low = place_after c.args.after in
    let none = sooner_none S H low c.next.result c.next-queued.result c.next.ensures.none c.next-queued.ensures.none in
    subst (λ (held : Held). IfNone c.sooner.result (NoneFrom (IsDue held) low)) c.self.view_is
    (subst (λ (found : Option (ℕ × ℕ)). IfNone found (NoneFrom (Both S H low) low)) (sym c.sooner.ensures) none)

pub returns-clause-stay : goal.returns-clause-stay
returns-clause-stay c =
    let queued = c.next-queued.ensures.stay in
    subst (λ (held : Held). StayFrom (IsDue held) (place_after c.args.after) (IsDue (record { slots = c.self.inside.slots; heap = c.next-queued.new.self }))) c.self.view_is (record {
      rest = λ a was h. elim was [ inl s ↦ inl s | inr w ↦ inr (queued.rest a w h) ];
      no_more = λ a is. elim is [ inl s ↦ inl s | inr w ↦ inr (queued.no_more a w) ];
    })
