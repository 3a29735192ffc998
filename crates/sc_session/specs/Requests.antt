-- What a request asks for.
use Rattle.std.specs.Prelude.{ℕ, ◌-◌, Bool, true, false, not, ◌&&◌, ◌||◌, List, [], ◌∷◌, ◌++◌, length, codes, nat_lt, nat_le, if◌then◌else◌, Option, Some, None, is_some, Result, Ok, Err}
use Rattle.std.specs.List.{list_any, list_all}
use Rattle.std.specs.Str.{bytes_eq}
use Rattle.sc_record.specs.Ids.{id_limit}
use Rattle.sc_schema.specs.declared.fault.DocFault.{DocFault}
use Rattle.sc_schema.specs.declared.fault.DocFault.TheVariants as documents
use Rattle.sc_commands.specs.declared.batch.Flags.{Flags}
use Rattle.sc_commands.specs.declared.fault.CommandFault.{CommandFault}
use Rattle.sc_commands.specs.declared.fault.CommandFault.TheVariants as commands
use Rattle.sc_commands.specs.Updates.{Update, asked_by_update}
use Rattle.sc_reply.specs.Refusals as refusals
use Rattle.sc_model.specs.declared.message.Incoming.{Incoming}
use Rattle.sc_model.specs.declared.message.Method.{Method}
use Rattle.sc_model.specs.declared.message.Method.TheVariants as methods
use Rattle.sc_model.specs.declared.message.Param.{Param}
use Rattle.sc_model.specs.Heads.{form_params}
use Rattle.sc_model.specs.Counts.{count_of}
use Rattle.sc_model.specs.Parameters.{parameter, is_set_to, between_commas}
use Rattle.sc_admin.specs.Commands.{AdminCommand, asked_admin}
use Rattle.sc_session.specs.Parameters.{query_texts, other_fault}
use Rattle.sc_session.specs.declared.path.Path.{Path}
use Rattle.sc_session.specs.declared.path.Path.TheVariants as paths

-- a search that is asked for: the texts of its queries, the text of its route, and the page that is to be shown
pub record Select : Type 0 where
  pub queries : List (List ℕ)
  pub route : Option (List ℕ)
  pub start : ℕ
  pub rows : ℕ

-- what a request asks for, or why it is refused
pub data Asked : Type 0 where
  refused : refusals.Refusal → Asked
  -- the orders of a batch
  update : Update → Asked
  -- the document of an id
  get : List ℕ → Asked
  -- the documents of several ids
  get_ids : List (List ℕ) → Asked
  -- a page of the documents that queries find
  select : Select → Asked
  -- a command to the collection
  command : AdminCommand → Asked

-- what the parameters of an update set (Solr Reference Guide, "Indexing with Update Handlers", "Optimistic Concurrency")
abbrev pub flags_of : List Param → Flags
flags_of params = record {
  commit = is_set_to (codes "true") (codes "commit") params || is_set_to (codes "true") (codes "softCommit") params;
  versions = is_set_to (codes "true") (codes "versions") params;
  fail_on_conflict = not (is_set_to (codes "false") (codes "failOnVersionConflicts") params);
}

-- why a document is refused
abbrev pub document_refusal : DocFault → refusals.Refusal
document_refusal documents.NoId = refusals.no_id
document_refusal documents.IdTooLong = refusals.id_too_long
document_refusal (documents.UnknownField name) = refusals.unknown_field name
document_refusal (documents.WrongValue name) = refusals.wrong_value name
document_refusal documents.Memory = refusals.memory

-- why the body of an update is refused
abbrev pub command_refusal : CommandFault → refusals.Refusal
command_refusal commands.BadJson = refusals.bad_json
command_refusal (commands.BadShape at) = refusals.bad_shape at
command_refusal commands.TooMany = refusals.too_many
command_refusal (commands.Doc fault) = document_refusal fault
command_refusal commands.Memory = refusals.memory

-- what the body of an update asks for
abbrev pub asked_batch : Result Update CommandFault → Asked
asked_batch (Ok batch) = update batch
asked_batch (Err fault) = refused (command_refusal fault)

-- the text is an id
abbrev pub is_id : List ℕ → Bool
is_id text = nat_lt 0 (length text) && nat_le (length text) id_limit

-- what a parameter that names an id asks for; a faulty one beside `ids` is told as `ids`
abbrev pub asked_id : List ℕ → List Param → Asked
asked_id id params =
    if is_id id then get id
    else refused (refusals.bad_param (if is_some (parameter (codes "ids") params) then codes "ids" else codes "id"))

-- the most ids that one get asks for
abbrev pub most_ids : ℕ
most_ids = 4096

-- what a parameter that lists ids asks for: each between two commas, as many as one get may ask for
abbrev pub asked_list : List ℕ → Asked
asked_list text =
    if nat_le (length (between_commas text)) most_ids && list_all is_id (between_commas text) then get_ids (between_commas text)
    else refused (refusals.bad_param (codes "ids"))

-- what the parameters of a get ask for (Solr Reference Guide, "RealTime Get"): the document of `id`, or without it those of `ids`
abbrev pub asked_params : List Param → Asked
asked_params params = by_id params (parameter (codes "id") params) (parameter (codes "ids") params)
  where
    by_id : List Param → Option (List ℕ) → Option (List ℕ) → Asked
    by_id params (Some id) ids = asked_id id params
    by_id params None (Some ids) = asked_list ids
    by_id params None None = refused (refusals.bad_param (codes "id"))

-- the most rows of a page
abbrev pub most_rows : ℕ
most_rows = 1000

-- the number of rows where none is given
abbrev pub usual_rows : ℕ
usual_rows = 10

-- the end of the last page
abbrev pub last_row : ℕ
last_row = 100000

-- a parameter of this name has no such value
abbrev pub bad_parameter : List ℕ → Asked
bad_parameter name = refused (refusals.bad_param name)

-- what the parameters of a search ask for (Solr Reference Guide, "Common Query Parameters"); the first that has no such value, in
-- this order, is told
abbrev pub asked_search : List Param → Asked
asked_search params = by_rows params (count_of usual_rows most_rows (parameter (codes "rows") params))
  where
    page : List Param → ℕ → ℕ → Option (List ℕ) → Asked
    page params rows start (Some name) = bad_parameter name
    page params rows start None = select (record {
      queries = query_texts params;
      route = parameter (codes "_route_") params;
      start = start;
      rows = rows;
    })

    by_start : List Param → ℕ → Option ℕ → Asked
    by_start params rows None = bad_parameter (codes "start")
    by_start params rows (Some start) = page params rows start (other_fault params)

    by_rows : List Param → Option ℕ → Asked
    by_rows params None = bad_parameter (codes "rows")
    by_rows params (Some rows) = by_start params rows (count_of 0 (last_row - rows) (parameter (codes "start") params))

-- what the parameters of a command ask for, or which of them is at fault
abbrev pub asked_command : Result AdminCommand (List ℕ) → Asked
asked_command (Ok one) = command one
asked_command (Err name) = refused (refusals.bad_param name)

-- the paths of updates
abbrev pub update_paths : List (List ℕ)
update_paths = codes "/solr/docs/update" ∷ codes "/solr/docs/update/json" ∷ []

-- the path of gets
abbrev pub get_path : List ℕ
get_path = codes "/solr/docs/get"

-- the path of searches
abbrev pub select_path : List ℕ
select_path = codes "/solr/docs/select"

-- the path of commands to the collection
abbrev pub admin_path : List ℕ
admin_path = codes "/solr/admin/collections"

-- the path that a text is, where it is one of those that are served
abbrev pub served_path : List ℕ → Option Path
served_path text =
    if list_any (bytes_eq text) update_paths then Some paths.Update
    else (if bytes_eq text get_path then Some paths.Get
    else (if bytes_eq text select_path then Some paths.Select
    else (if bytes_eq text admin_path then Some paths.Collections
    else None)))

-- the request is a POST
abbrev pub is_post : Incoming → Bool
is_post request = by_method request.method
  where
    by_method : Method → Bool
    by_method methods.Post = true
    by_method method = false

-- the request is neither a GET nor a POST
abbrev pub is_other_method : Incoming → Bool
is_other_method request = by_method request.method
  where
    by_method : Method → Bool
    by_method methods.Other = true
    by_method method = false

-- the parameters of a request that is no update: those of its target, and after them the pairs of the form that the body of a POST is
abbrev pub all_params : Incoming → List Param
all_params request = request.params ++ (if is_post request then form_params request.body else [])

-- what a request to this path asks for, where its head gives no cause to refuse it
abbrev pub asked_at : Path → Incoming → Asked
asked_at paths.Update request = asked_batch (asked_by_update (flags_of request.params) request.body)
asked_at paths.Get request = asked_params (all_params request)
asked_at paths.Select request = asked_search (all_params request)
asked_at paths.Collections request = asked_command (asked_admin (all_params request))

-- a POST of an update that states no length of its body (RFC 9110, section 8.6)
abbrev pub is_lengthless_update : Path → Incoming → Bool
is_lengthless_update paths.Update request = is_post request && request.lengthless
is_lengthless_update path request = false

-- the first cause to refuse a request to a path that is served, by its head: its method, the coding of its body, or the missing length
abbrev pub refused_at : Path → Incoming → Option refusals.Refusal
refused_at path request =
    if is_other_method request then Some refusals.method_not_allowed
    else (if request.encoded then Some refusals.encoded_body
    else (if is_lengthless_update path request then Some refusals.no_length
    else None))

-- what a request asks for; its path is looked at first, then the rest of its head, and then what it says
abbrev pub asked : Incoming → Asked
asked request = by_path request (served_path request.path)
  where
    by_refusal : Path → Incoming → Option refusals.Refusal → Asked
    by_refusal path request (Some refusal) = refused refusal
    by_refusal path request None = asked_at path request

    by_path : Incoming → Option Path → Asked
    by_path request None = refused refusals.not_found
    by_path request (Some path) = by_refusal path request (refused_at path request)
