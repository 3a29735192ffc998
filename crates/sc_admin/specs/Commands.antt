-- What the parameters of a request ask of the collection (Solr Reference Guide, "Collections API": SPLITSHARD, CLUSTERSTATUS and
-- DELETESHARD).
use Rattle.std.specs.Prelude.{◌≡◌, ℕ, ◌-◌, ◌==◌, Bool, true, false, ◌&&◌, List, [], ◌∷◌, length, codes, map, if◌then◌else◌, Option, Some, None, is_some, Result, Ok, Err, ℤ, ⊤}
use Rattle.std.specs.Option.{unwrap_or}
use Rattle.std.specs.Str.{str_eq_ignore_ascii_case}
use Rattle.sc_hash.specs.Bounds.{bounds}
use Rattle.sc_model.specs.declared.message.Param.{Param}
use Rattle.sc_model.specs.Parameters.{parameter, is_other_than}
use Rattle.sc_board.specs.declared.cut.Cut.{Cut}
use Rattle.sc_board.specs.declared.cut.Cut.TheVariants as cuts
use Rattle.sc_admin.specs.declared.admin.Action.{Action}
use Rattle.sc_admin.specs.declared.admin.Action.TheVariants as actions
use Rattle.sc_admin.specs.declared.admin.Admin.{Admin}
use Rattle.sc_admin.specs.declared.admin.Admin.TheVariants as admins
use Rattle.sc_admin.specs.declared.admin.AdminFault.{AdminFault}
use Rattle.sc_admin.specs.declared.admin.AdminFault.TheVariants as faults
use Rattle.sc_admin.specs.Ranges.{may_be_parts, ranges_of}

-- how the range of a shard is to be cut: into so many parts, or into these ranges
pub data Pieces : Type 0 where
  parts : ℕ → Pieces
  ranges : List (ℤ × ℤ) → Pieces

-- what is asked of the collection
pub data AdminCommand : Type 0 where
  -- to split the shard of this name so
  split : List ℕ → Pieces → AdminCommand
  -- to show its shards
  status : AdminCommand
  -- to delete the shard of this name
  delete : List ℕ → AdminCommand

-- the action of this name, in any ASCII case
abbrev pub action_of : List ℕ → Option Action
action_of text =
    if str_eq_ignore_ascii_case text (codes "SPLITSHARD") then Some actions.Split
    else (if str_eq_ignore_ascii_case text (codes "CLUSTERSTATUS") then Some actions.Status
    else (if str_eq_ignore_ascii_case text (codes "DELETESHARD") then Some actions.Delete
    else None))

-- the value of the first parameter of a name, which is empty where there is none
abbrev pub parameter_value : List ℕ → List Param → List ℕ
parameter_value name params = unwrap_or (parameter name params) []

-- the number of parts that a text of one digit asks for
abbrev pub parts_asked : List ℕ → Option ℕ
parts_asked (digit ∷ []) = if may_be_parts (digit - 48) then Some (digit - 48) else None
parts_asked text = None

-- into so many parts; the parameter is at fault where there is no such number
abbrev pub in_parts : Option ℕ → Result Pieces (List ℕ)
in_parts (Some n) = Ok (parts n)
in_parts None = Err (codes "numSubShards")

-- into these ranges; the parameter is at fault where there are none
abbrev pub in_ranges : Option (List (ℤ × ℤ)) → Result Pieces (List ℕ)
in_ranges (Some list) = Ok (ranges list)
in_ranges None = Err (codes "ranges")

-- how a shard is to be cut by the values of `numSubShards` and `ranges`, of which one may be there
abbrev pub cut_by : Option (List ℕ) → Option (List ℕ) → Result Pieces (List ℕ)
cut_by None None = Ok (parts 2)
cut_by (Some text) None = in_parts (parts_asked text)
cut_by (Some text) (Some list) = Err (codes "numSubShards")
cut_by None (Some list) = in_ranges (ranges_of list)

-- how a shard is to be cut, or the name of the parameter at fault
abbrev pub asked_cut : List Param → Result Pieces (List ℕ)
asked_cut params = cut_by (parameter (codes "numSubShards") params) (parameter (codes "ranges") params)

-- the method of a split is one that there isn't
abbrev pub has_other_method : List Param → Bool
has_other_method params = is_other_than (codes "rewrite") (codes "splitMethod") params && is_other_than (codes "link") (codes "splitMethod") params

-- the first parameter of a split at fault, after those that say how it cuts
abbrev pub other_split_fault : List Param → Option (List ℕ)
other_split_fault params =
    if has_other_method params then Some (codes "splitMethod")
    else (if is_some (parameter (codes "split.key") params) then Some (codes "split.key")
    else (if is_some (parameter (codes "splitFuzz") params) then Some (codes "splitFuzz")
    else (if is_some (parameter (codes "async") params) then Some (codes "async")
    else (if is_other_than (codes "false") (codes "splitByPrefix") params then Some (codes "splitByPrefix")
    else None))))

-- a split, where no other parameter is at fault
abbrev pub split_by : List ℕ → List Param → Result Pieces (List ℕ) → Result AdminCommand (List ℕ)
split_by shard params (Err name) = Err name
split_by shard params (Ok pieces) = where_sound (split shard pieces) (other_split_fault params)
  where
    where_sound : AdminCommand → Option (List ℕ) → Result AdminCommand (List ℕ)
    where_sound command (Some name) = Err name
    where_sound command None = Ok command

-- what is asked of a shard
abbrev pub asked_of_shard : Bool → List ℕ → List Param → Result AdminCommand (List ℕ)
asked_of_shard splits shard params =
    if length shard == 0 then Err (codes "shard")
    else (if splits then split_by shard params (asked_cut params) else Ok (delete shard))

-- what an action asks for
abbrev pub asked_by : Action → List Param → Result AdminCommand (List ℕ)
asked_by action params =
    if is_other_than (codes "docs") (codes "collection") params then Err (codes "collection") else of_action action params
  where
    of_action : Action → List Param → Result AdminCommand (List ℕ)
    of_action actions.Status params = Ok status
    of_action actions.Split params = asked_of_shard true (parameter_value (codes "shard") params) params
    of_action actions.Delete params = asked_of_shard false (parameter_value (codes "shard") params) params

-- what the parameters ask for, or the name of the first at fault
abbrev pub asked_admin : List Param → Result AdminCommand (List ℕ)
asked_admin params = by_action params (action_of (parameter_value (codes "action") params))
  where
    by_action : List Param → Option Action → Result AdminCommand (List ℕ)
    by_action params None = Err (codes "action")
    by_action params (Some action) = asked_by action params

-- how a cut is asked for
abbrev pub pieces_of : Cut → Pieces
pieces_of (cuts.Parts n) = parts n
pieces_of (cuts.Ranges list) = ranges (map bounds list)

-- the command that the program reads
abbrev pub admin_command : Admin → AdminCommand
admin_command (admins.Split shard cut) = split shard (pieces_of cut)
admin_command admins.Status = status
admin_command (admins.Delete shard) = delete shard

-- the fault names the parameter that was found at fault, or memory ran out before
abbrev pub IsAdminFault : {T : Type 0} → Result T (List ℕ) → AdminFault → Type 0
IsAdminFault found (faults.BadParam name) = found ≡ Err name
IsAdminFault found faults.Memory = ⊤

-- the fault is that the parameter of this name has no such value, or memory ran out before
abbrev pub IsNamed : List ℕ → AdminFault → Type 0
IsNamed name (faults.BadParam found) = found ≡ name
IsNamed name faults.Memory = ⊤
