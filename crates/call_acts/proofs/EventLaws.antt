-- The laws of events' acts, from what holds of each act of a caller.
use Rattle.std.proofs.Common.{◌≡◌, refl, ap, sym, subst, ◌∙◌, ℕ, Bool, true, false, List, [], ◌∷◌, ◌++◌, reverse, Option, None, Some, if◌then◌else◌, inl, inr, eq-eqb, append_assoc}
use Rattle.std.specs.Prelude.{◌==◌, option_map}
use Rattle.std.specs.Option.{option_and_then}
use Rattle.std.proofs.lemmas.Grind.{reverse_onto}
use Rattle.std.proofs.lemmas.List.{reverse-append}
use Rattle.record_join.specs.declared.event.Event.{Event}
use Rattle.std.proofs.lemmas.Bool.{both_ways}
use Rattle.audit_record.specs.declared.types.Record.{Record}
use Rattle.audit_record.specs.declared.types.Syscall.{Syscall}
use Rattle.acts.specs.declared.act.Act.{Act}
use Rattle.acts.specs.declared.act.Act.TheVariants as TheAct
use Rattle.acts.specs.Lives.{live, is_child}
use Rattle.acts.specs.Admitted.{Admitted, names_live}
use Rattle.acts.specs.LookBack.{opens}
use Rattle.call_acts.specs.declared.calls.Call.{Call}
use Rattle.call_acts.specs.declared.calls.Row.{Row}
use Rattle.call_acts.specs.Calls.{flags_of}
use Rattle.call_acts.specs.Records.{call}
use Rattle.call_acts.specs.Acts.{kind_acts, acts_by, acts_from, acts_of_events, event_acts, event_call, kind_of, row_of}
use Rattle.call_acts.specs.Laws.{is_act_of, AreOfCaller, OpenNothing, opens_descriptors}
use Rattle.call_acts.proofs.RowActs.{HoldsOfCaller, ends_caller, Each, all_of_each, all_hold, ends_or_not}

-- ---- they are the caller's

own_acts : (caller : Syscall) (by : Call) → HoldsOfCaller caller by (λ act. is_act_of caller.pid act ≡ true)
own_acts caller by =
    let same : (caller.pid == caller.pid) ≡ true = eq-eqb caller.pid caller.pid refl in
    record {
      moves = λ inward way what. same;
      births = λ file. refl;
      closes = λ n. same;
      marks = λ n cloexec. same;
      forks = λ child. same;
      execs = same;
      ends = λ exits. same;
      sets = λ opening n what cloexec. same;
      both = λ opening first second cloexec. same;
      copies = λ opening from to cloexec. same;
      addresses = λ opening n bytes. same;
    }

own_by : (limit : ℕ) (records : List Record) (caller : Syscall) (by : Option Row) → Each (λ act. is_act_of caller.pid act ≡ true) (acts_by limit records caller by)
own_by limit records caller None = tt
own_by limit records caller (Some by) = all_hold limit records caller (flags_of by.flags caller) by.call _ (own_acts caller by.call)

pub of_caller : (limit : ℕ) (records : List Record) (caller : Syscall) → call records ≡ Some caller → AreOfCaller caller (event_acts limit records)
of_caller limit records caller is = record {
  rest = acts_by limit records caller (row_of caller);
  begins = ap (acts_from limit records) is;
  follows = all_of_each _ _ (own_by limit records caller (row_of caller));
}

-- ---- they are admitted

-- after acts that leave the pid live, the act names a live pid and leaves it live
abbrev LeavesLive : ℕ → Act → Type 0
LeavesLive pid act = (before : List Act) → live before pid ≡ true → (names_live before act ≡ true) × (live (act ∷ before) pid ≡ true)

true_or : (b was : Bool) → was ≡ true → (if b then true else was) ≡ true
true_or true was is = refl
true_or false was is = is

leaving_acts : (caller : Syscall) (by : Call) → ends_caller by ≡ false → HoldsOfCaller caller by (LeavesLive caller.pid)
leaving_acts caller by stays = record {
  moves = λ inward way what before is. (is, is);
  births = λ file before is. (refl, is);
  closes = λ n before is. (is, is);
  marks = λ n cloexec before is. (is, is);
  forks = λ child before is. (is, true_or (is_child caller.pid child caller.pid) _ is);
  execs = λ before is. (is, is);
  ends = λ exits. absurd (both_ways _ stays exits);
  sets = λ opening n what cloexec before is. (is, is);
  both = λ opening first second cloexec before is. (is, is);
  copies = λ opening from to cloexec before is. (is, is);
  addresses = λ opening n bytes before is. (is, is);
}

-- one more act before others, both turned to the newest first
turned : (act : Act) (acts before : List Act) → reverse (act ∷ acts) ++ before ≡ reverse acts ++ act ∷ before
turned act acts before = ap (λ (front : List Act). front ++ before) (reverse_onto acts act []) ∙ append_assoc (reverse acts) (act ∷ []) before

admitted_after : (pid : ℕ) (acts before : List Act) → Each (LeavesLive pid) acts → live before pid ≡ true → Admitted before → Admitted (reverse acts ++ before)
admitted_after pid [] before all is admitted = admitted
admitted_after pid (act ∷ acts) before all is admitted =
    let one = all.0 before is in
    subst Admitted (sym (turned act acts before)) (admitted_after pid acts (act ∷ before) all.1 one.1 (one.0, admitted))

kind_admitted : (limit : ℕ) (records : List Record) (caller : Syscall) (flags : ℕ) (by : Call) (before : List Act) → live before caller.pid ≡ true → Admitted before → Admitted (reverse (kind_acts limit records caller flags by) ++ before)
kind_admitted limit records caller flags by before is admitted =
    elim (ends_or_not by) [
      | inl exits ↦ subst (λ (one : Call). Admitted (reverse (kind_acts limit records caller flags one) ++ before)) (sym exits) (is, admitted)
      | inr stays ↦ admitted_after caller.pid _ before (all_hold limit records caller flags by _ (leaving_acts caller by stays)) is admitted
    ]

by_admitted : (limit : ℕ) (records : List Record) (caller : Syscall) (by : Option Row) (before : List Act) → live before caller.pid ≡ true → Admitted before → Admitted (reverse (acts_by limit records caller by) ++ before)
by_admitted limit records caller None before is admitted = admitted
by_admitted limit records caller (Some by) before is admitted = kind_admitted limit records caller (flags_of by.flags caller) by.call before is admitted

from_admitted : (limit : ℕ) (records : List Record) (caller : Option Syscall) (before : List Act) → Admitted before → Admitted (reverse (acts_from limit records caller) ++ before)
from_admitted limit records None before admitted = admitted
from_admitted limit records (Some caller) before admitted =
    let see = TheAct.See caller.pid caller.ppid caller.exe in
    let seen : live (see ∷ before) caller.pid ≡ true = ap (λ (b : Bool). if b then true else live before caller.pid) (eq-eqb caller.pid caller.pid refl) in
    subst Admitted (sym (turned see (acts_by limit records caller (row_of caller)) before)) (by_admitted limit records caller (row_of caller) (see ∷ before) seen (refl, admitted))

pub event_admitted : (limit : ℕ) (records : List Record) (before : List Act) → Admitted before → Admitted (reverse (event_acts limit records) ++ before)
event_admitted limit records before admitted = from_admitted limit records (call records) before admitted

-- the acts of an event go before those of the events after it
both_turned : (acts more before : List Act) → reverse (acts ++ more) ++ before ≡ reverse more ++ (reverse acts ++ before)
both_turned acts more before = ap (λ (front : List Act). front ++ before) (reverse-append acts more) ∙ append_assoc (reverse more) (reverse acts) before

pub events_admitted : (limit : ℕ) (events : List Event) (before : List Act) → Admitted before → Admitted (reverse (acts_of_events limit events) ++ before)
events_admitted limit [] before admitted = admitted
events_admitted limit (event ∷ events) before admitted =
    subst Admitted (sym (both_turned (event_acts limit event.records) (acts_of_events limit events) before))
    (events_admitted limit events (reverse (event_acts limit event.records) ++ before) (event_admitted limit event.records before admitted))

-- ---- those of other calls opening nothing

closed_acts : (caller : Syscall) (by : Call) → opens_descriptors by ≡ false → HoldsOfCaller caller by (λ act. opens act ≡ false)
closed_acts caller by closed = record {
  moves = λ inward way what. refl;
  births = λ file. refl;
  closes = λ n. refl;
  marks = λ n cloexec. refl;
  forks = λ child. refl;
  execs = refl;
  ends = λ exits. refl;
  sets = λ opening n what cloexec. absurd (both_ways _ closed opening);
  both = λ opening first second cloexec. absurd (both_ways _ closed opening);
  copies = λ opening from to cloexec. absurd (both_ways _ closed opening);
  addresses = λ opening n bytes. absurd (both_ways _ closed opening);
}

closed_by : (limit : ℕ) (records : List Record) (caller : Syscall) (by : Option Row) → ((one : Call) → option_map (λ row. row.call) by ≡ Some one → opens_descriptors one ≡ false) → Each (λ act. opens act ≡ false) (acts_by limit records caller by)
closed_by limit records caller None closed = tt
closed_by limit records caller (Some by) closed = all_hold limit records caller (flags_of by.flags caller) by.call _ (closed_acts caller by.call (closed by.call refl))

closed_from : (limit : ℕ) (records : List Record) (caller : Option Syscall) → ((one : Call) → option_and_then kind_of caller ≡ Some one → opens_descriptors one ≡ false) → Each (λ act. opens act ≡ false) (acts_from limit records caller)
closed_from limit records None closed = tt
closed_from limit records (Some caller) closed = (refl, closed_by limit records caller (row_of caller) closed)

pub open_nothing : (limit : ℕ) (records : List Record) → ((one : Call) → event_call records ≡ Some one → opens_descriptors one ≡ false) → OpenNothing (event_acts limit records)
open_nothing limit records closed = all_of_each _ _ (closed_from limit records (call records) closed)
