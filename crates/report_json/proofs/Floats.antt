-- No reply has a float.
use Rattle.std.proofs.Common.{◌≡◌, ℕ, List, [], ◌∷◌, None, Some, map, false, refl}
use Rattle.flow_base.specs.declared.types.Bad.{Bad}
use Rattle.flow_base.specs.declared.types.EntityId.{EntityId}
use Rattle.flow_base.specs.declared.types.Flow.{Flow}
use Rattle.serde_json.specs.View.{items_of}
use Rattle.serde_json.specs.Written.{has_float, items_have_float}
use Rattle.report_json.specs.Replies.{id_data, bad_data, flow_data, text_data, data_of}
use Rattle.report_json.specs.declared.reply.Reply.{Reply}
use Rattle.report_json.specs.declared.reply.Reply.TheVariants as reply

no_float_in_ids : (ids : List EntityId) → items_have_float (items_of (map id_data ids)) ≡ false
no_float_in_ids [] = refl
no_float_in_ids (id ∷ ids) = no_float_in_ids ids

no_float_in_bads : (bads : List Bad) → items_have_float (items_of (map bad_data bads)) ≡ false
no_float_in_bads [] = refl
no_float_in_bads (bad ∷ bads) = no_float_in_bads bads

no_float_in_flows : (flows : List Flow) → items_have_float (items_of (map flow_data flows)) ≡ false
no_float_in_flows [] = refl
no_float_in_flows (flow ∷ flows) = no_float_in_flows flows

no_float_in_texts : (texts : List (List ℕ)) → items_have_float (items_of (map text_data texts)) ≡ false
no_float_in_texts [] = refl
no_float_in_texts (text ∷ texts) = no_float_in_texts texts

pub no_float : (said : Reply) → has_float (data_of said) ≡ false
no_float (reply.Take count) = refl
no_float (reply.Settle count) = refl
no_float (reply.Back of ids) = rw (no_float_in_ids ids) refl
no_float (reply.Fore of ids) = rw (no_float_in_ids ids) refl
no_float (reply.Sources of ids) = rw (no_float_in_ids ids) refl
no_float (reply.Why from to None) = refl
no_float (reply.Why from to (Some flows)) = rw (no_float_in_flows flows) refl
no_float (reply.Find text ids) = rw (no_float_in_ids ids) refl
no_float (reply.Show id key names) = rw (no_float_in_texts names) refl
no_float (reply.Stat counts) = rw (no_float_in_bads counts.malformed_lines) refl
no_float reply.End = refl
no_float reply.BadQuestion = refl
no_float reply.Unknown = refl
no_float reply.NotKept = refl
