-- The process of an event after its see, and after acts that leave it as it is.
use Rattle.std.proofs.Common.{◌≡◌, ◌==◌, ◌∙◌, sym, refl, ℕ, false, List, ◌∷◌, Option}
use Rattle.acts.specs.declared.act.Act.{Act}
use Rattle.acts.specs.declared.act.Act.TheVariants.{See, Fork, End, Exec, Set, SetBoth, Copy, Close, Mark, Address, Birth, Move}
use Rattle.acts.specs.Lives.{life_of}
use Rattle.acts.specs.Holding.{holds}
use Rattle.acts.specs.Standing.{standing}
use Rattle.proc_table.specs.Table.{Table as Procs, StandsFor}
use Rattle.fd_table.specs.Table.{Table as Fds, HoldsAs, AddressesAs}
use Rattle.flow_events.specs.declared.acting.Acting.{Acting}
use Rattle.flow_events.specs.Acting.{IsActing}
use Rattle.call_acts.specs.Events.{IsCalm}

-- a birth and a move leave the process as it is
pub calm_acting : (procs : Procs) (fds : Fds) (acting : Acting) (act : Act) (acts : List Act) → IsCalm act → IsActing procs fds acting acts → IsActing procs fds acting (act ∷ acts)
calm_acting procs fds acting (Birth file) acts calm is = record { life_is = is.life_is; held_are = is.held_are; addresses_are = record { each = is.addresses_are.each }; others_are = is.others_are }
calm_acting procs fds acting (Move pid inward how what) acts calm is = record { life_is = is.life_is; held_are = is.held_are; addresses_are = record { each = is.addresses_are.each }; others_are = is.others_are }
calm_acting procs fds acting (See pid ppid exe) acts calm is = absurd calm
calm_acting procs fds acting (Fork pid child) acts calm is = absurd calm
calm_acting procs fds acting (End pid) acts calm is = absurd calm
calm_acting procs fds acting (Exec pid) acts calm is = absurd calm
calm_acting procs fds acting (Set pid fd what cloexec) acts calm is = absurd calm
calm_acting procs fds acting (SetBoth pid first second cloexec) acts calm is = absurd calm
calm_acting procs fds acting (Copy pid from to cloexec) acts calm is = absurd calm
calm_acting procs fds acting (Close pid fd) acts calm is = absurd calm
calm_acting procs fds acting (Mark pid fd cloexec) acts calm is = absurd calm
calm_acting procs fds acting (Address pid fd bytes) acts calm is = absurd calm

-- a see changes its own pid alone
apart : (acts : List Act) (pid ppid : ℕ) (exe : Option (List ℕ)) (p : ℕ) → (p == pid) ≡ false → standing (See pid ppid exe ∷ acts) p ≡ standing acts p
apart acts pid ppid exe p other = rw other refl

-- the process once it was seen
pub seen_acting : (procs : Procs) (fds : Fds) (acting : Acting) (acts : List Act) (ppid : ℕ) (exe : Option (List ℕ)) → StandsFor procs acts → HoldsAs fds acts → AddressesAs fds acts
    → life_of (See acting.pid ppid exe ∷ acts) acting.pid ≡ acting.life → ((n : ℕ) → holds (See acting.pid ppid exe ∷ acts) acting.pid n ≡ holds acts acting.holder n)
    → IsActing procs fds acting (See acting.pid ppid exe ∷ acts)
seen_acting procs fds acting acts ppid exe lives held addresses life holder = record {
  life_is = life;
  held_are = λ n. holder n ∙ sym (held.each acting.holder n);
  addresses_are = record { each = addresses.each };
  others_are = λ p other. lives.each p ∙ sym (apart acts acting.pid ppid exe p other);
}
