-- What the code reads of a request, as the definitions see it.
use Rattle.std.specs.Prelude.{◌≡◌, ◌≤◌, ◌<◌, ◌^◌, List, length, IfSome, ⊤}
use Rattle.sc_reply.specs.Refusals as refusals
use Rattle.sc_record.specs.Orders.{order_limit}
use Rattle.sc_commands.specs.Updates.{update_of}
use Rattle.sc_model.specs.declared.message.Param.{Param}
use Rattle.sc_admin.specs.Commands.{admin_command}
use Rattle.sc_admin.specs.Cuts.{IsCutIfAny}
use Rattle.sc_session.specs.Requests as asking
use Rattle.sc_session.specs.declared.asked.Asked.{Asked}
use Rattle.sc_session.specs.declared.asked.Asked.TheVariants as asks
use Rattle.sc_session.specs.declared.select.Select.{Select}
use Rattle.sc_session.specs.declared.select.SelectFault.{SelectFault}
use Rattle.sc_session.specs.declared.select.SelectFault.TheVariants as select_faults
use Rattle.sc_session.specs.declared.asked.Refused.{Refused}
use Rattle.sc_session.specs.declared.asked.Refused.TheVariants as refuses

-- why a request is refused
abbrev pub refused_of : Refused → refusals.Refusal
refused_of refuses.NotFound = refusals.not_found
refused_of refuses.MethodNotAllowed = refusals.method_not_allowed
refused_of refuses.EncodedBody = refusals.encoded_body
refused_of refuses.NoLength = refusals.no_length
refused_of (refuses.BadParam name) = refusals.bad_param name.now
refused_of (refuses.BadCommand name) = refusals.bad_param name
refused_of (refuses.Command fault) = asking.command_refusal fault

-- a search that is asked for
abbrev pub select_of : Select → asking.Select
select_of select = record { queries = select.queries; route = select.route; start = select.start; rows = select.rows }

-- the parameters ask for no search for this fault, or memory ran out
abbrev pub RefusesSearch : List Param → SelectFault → Type 0
RefusesSearch params (select_faults.BadParam name) = asking.asked_search params ≡ asking.bad_parameter name.now
RefusesSearch params select_faults.Memory = ⊤

-- what a request asks for
abbrev pub asked_by_request : Asked → asking.Asked
asked_by_request (asks.Refused refused) = asking.refused (refused_of refused)
asked_by_request (asks.Update batch) = asking.update (update_of batch)
asked_by_request (asks.Get id) = asking.get id
asked_by_request (asks.GetIds ids) = asking.get_ids ids
asked_by_request (asks.Select select) = asking.select (select_of select)
asked_by_request (asks.Command admin) = asking.command (admin_command admin)

-- what was asked for is within its limits: a batch has no more orders than may be, a list of ids no more than may be, a route has a
-- length that can be hashed, and a split is in 2 to 8 parts
abbrev pub IsWithinLimits : Asked → Type 0
IsWithinLimits (asks.Update batch) = length batch.orders ≤ order_limit
IsWithinLimits (asks.GetIds ids) = length ids ≤ asking.most_ids
IsWithinLimits (asks.Select select) = (0 < length select.queries) × IfSome select.route (λ route. length route < 2 ^ 32)
IsWithinLimits (asks.Command admin) = IsCutIfAny admin
IsWithinLimits asked = ⊤
