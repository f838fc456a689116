use Rattle.std.proofs.Common.{◌≡◌, ◌≤◌, ◌+◌, ◌-◌, ◌++◌, List, length, take, drop}
use Rattle.flow_base.specs.declared.types.Flow.{Flow}
use Rattle.reach_rows.specs.Kept.{known_after}
use Rattle.kept_flows.specs.KeptFlows.{AreTied, ComeNext, SameFaults, StandsFor, kept_by}
use Rattle.kept_flows.specs.Taking.{BringsOnly, HasRoomFor, MayTakeIn}
use Rattle.kept_flows.proofs.one_flow.put_all.Given as goal

-- the flows so far are put, and the others may be taken in, for which there is room
abbrev pub invariant-loop-flow : goal.invariant-loop-flow
invariant-loop-flow g l = record {
  tied : AreTied (g.M.Reducer.stands_for l.reducer) (g.M.Reducer.holds l.reducer) (g.K.Rows.rows l.rows) (g.K.Rows.count l.rows) (g.K.Rows.known l.rows);
  taken : (F : List Flow) → StandsFor (kept_by g.M.Reducer.mode (g.K.Rows.rows l.initial.rows) (g.K.Rows.count l.initial.rows) (g.K.Rows.known l.initial.rows)) F → ComeNext F l.flows
      → StandsFor (kept_by g.M.Reducer.mode (g.K.Rows.rows l.rows) (g.K.Rows.count l.rows) (g.K.Rows.known l.rows)) (F ++ take l.flow-index l.flows);
  next : MayTakeIn (kept_by g.M.Reducer.mode (g.K.Rows.rows l.rows) (g.K.Rows.count l.rows) (g.K.Rows.known l.rows)) (drop l.flow-index l.flows);
  objects : known_after (g.K.Rows.known l.rows) (drop l.flow-index l.flows) ≡ known_after (g.K.Rows.known l.initial.rows) l.flows;
  count : g.K.Rows.count l.rows ≤ g.K.Rows.count l.initial.rows + l.flow-index;
  brings : BringsOnly (g.K.Rows.rows l.initial.rows) l.flows (g.K.Rows.rows l.rows);
  covers : g.M.Reducer.covers l.reducer (drop l.flow-index l.flows);
  faults : SameFaults g.K.Rows.faults g.K.Rows.spent l.initial.rows l.rows;
  alike : g.K.Rows.alike l.initial.rows l.rows;
  room : HasRoomFor (g.K.Keep.has_room l.rows) (length l.flows - l.flow-index);
}
