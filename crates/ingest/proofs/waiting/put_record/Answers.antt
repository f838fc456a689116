use Rattle.record_join.specs.declared.event.Taken.{Taken}
use Rattle.std.proofs.Common.{◌≡◌, ◌⊎◌, inl, inr, ◌∙◌, sym, subst, ◌∷◌, []}
use Rattle.record_join.specs.Events.{seen_time}
use Rattle.record_join.specs.StandsFor.{StandsFor}
use Rattle.record_join.specs.declared.clock.JoinClock.{JoinClock}
use Rattle.record_join.specs.declared.event.Taken.TheVariants.{Held, Closed, Excess}
use Rattle.ingest.specs.Waiting.{with_records}
use Rattle.ingest.proofs.PutBack.{ripe_is_hopeless, still_hopeless, leads_records, no_entry, enters_held, held_enters, enters, sound_more}
use Rattle.ingest.proofs.waiting.put_record.Goals as goal

pub returns-then-ripe : goal.returns-then-ripe
returns-then-ripe c = λ limits s good.
    still_hopeless limits s (with_records s (c.args.item ∷ [])) (leads_records s (c.args.item ∷ []))
    (ripe_is_hopeless limits s (sym (c.ripe.ensures.ripe limits s good.stands) ∙ c.if-ripe.true))

pub returns-then-not-is_seen : goal.returns-then-not-is_seen
returns-then-not-is_seen c = λ limits s good. no_entry limits s c.args.item (λ may.
    let seen = c.is_seen.ensures.1 (subst (λ (k : JoinClock). seen_time k.seen c.args.item.key.ms ≡ k.seen) (sym (c.clock.ensures ∙ good.stands.clock)) may.2) in
    cc)

pub returns-in-Held : goal.returns-in-Held
returns-in-Held c = λ limits s good.
    let seen = subst (λ (k : JoinClock). seen_time k.seen c.args.item.key.ms ≡ k.seen) (c.clock.ensures ∙ good.stands.clock) (c.is_seen.ensures.0 c.if-not-is_seen.false) in
    let may = held_enters limits s c.args.item (sym (c.in_ok-take.ensures.ok limits s good.stands) ∙ c.in-Held.is) seen in
    record {
      stands = subst (StandsFor limits c.take.new.self) (enters limits s c.args.item may) (c.in_ok-take.ensures.stands limits s good.stands);
      sound = sound_more limits s c.args.item may good.sound;
    }

not_held : (taken : Taken) → (taken ≡ Closed) ⊎ (taken ≡ Excess) → taken ≡ Held → ⊥
not_held taken (inl e) h = let z : Closed ≡ Held = sym e ∙ h in cc
not_held taken (inr e) h = let z : Excess ≡ Held = sym e ∙ h in cc

pub returns-in-Closed : goal.returns-in-Closed
returns-in-Closed c = λ limits s good. no_entry limits s c.args.item (λ may.
    not_held c.in_ok-take.field-0 c.in-Closed.is (c.in_ok-take.ensures.ok limits s good.stands ∙ enters_held limits s c.args.item may))
