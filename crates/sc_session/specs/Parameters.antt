-- The queries and the route among the parameters of a request.
use Rattle.std.specs.Prelude.{ℕ, ◌^◌, Bool, false, ◌||◌, List, [], ◌∷◌, length, codes, map, filter, nat_le, if◌then◌else◌, Option, Some, None, is_some}
use Rattle.std.specs.Option.{option_map_or, unwrap_or}
use Rattle.std.specs.Str.{bytes_eq}
use Rattle.sc_model.specs.declared.message.Param.{Param}
use Rattle.sc_model.specs.Parameters.{parameter, is_other_than}

-- the texts of all queries: `q`, which is empty where it is not there, and then each `fq` in order
abbrev pub query_texts : List Param → List (List ℕ)
query_texts params =
    unwrap_or (parameter (codes "q") params) []
    ∷ map (λ (param : Param). param.value) (filter (λ (param : Param). bytes_eq param.name (codes "fq")) params)

-- there is a route that is none: it has no byte, or 2^32 and more, which no request has
abbrev pub has_bad_route : List Param → Bool
has_bad_route params =
    option_map_or (λ route. nat_le (length route) 0 || nat_le (2 ^ 32) (length route)) (parameter (codes "_route_") params) false

-- the first parameter after `rows` and `start` that has no such value
abbrev pub other_fault : List Param → Option (List ℕ)
other_fault params =
    if has_bad_route params then Some (codes "_route_")
    else (if is_other_than (codes "id asc") (codes "sort") params then Some (codes "sort")
    else (if is_some (parameter (codes "fl") params) then Some (codes "fl")
    else (if is_other_than (codes "json") (codes "wt") params then Some (codes "wt")
    else None)))
