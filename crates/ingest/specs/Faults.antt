-- Why the engine gives no answer.
use Rattle.std.specs.Prelude.{Result, Ok, Err}
use Rattle.flow_base.specs.declared.faults.NoMemory.{NoMemory}
use Rattle.report_json.specs.declared.reply.Reply.{Reply}
use Rattle.query_walk.specs.declared.fault.WalkFault.{WalkFault}
use Rattle.query_walk.specs.declared.fault.WalkFault.TheVariants as walk
use Rattle.ingest.specs.declared.ask_fault.AskFault.{AskFault}
use Rattle.ingest.specs.declared.ask_fault.AskFault.TheVariants as fault

-- the fault of a walk, as the engine hands it on
abbrev pub of_walk : WalkFault → AskFault
of_walk walk.StoreFault = fault.StoreFault
of_walk (walk.BadStore place) = fault.BadStore place
of_walk walk.NoMemory = fault.NoMemory

-- a reply that only want of memory refuses, as the engine hands it on
abbrev pub of_reply : Result Reply NoMemory → Result Reply AskFault
of_reply (Ok reply) = Ok reply
of_reply (Err e) = Err fault.NoMemory
