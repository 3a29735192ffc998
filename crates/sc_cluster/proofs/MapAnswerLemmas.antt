-- A map that a call has changed, as the answers need it: where the call saw it as `old` and left it as `new`.
use Rattle.std.proofs.Common.{◌≡◌, List, Result, Ok, Err, OnOk, OnErr, sym, subst}
use Rattle.sc_cluster.specs.declared.slice.Slice.{Slice}
use Rattle.sc_cluster.specs.Map.{IsMap}
use Rattle.sc_cluster.specs.Changes.{Change, after, MayChange}
use Rattle.sc_cluster.proofs.MapLemmas.{change_is_map}

-- what a change that is allowed leaves is a map
pub IsMap-changed : (old view new : List Slice) (change : Change) → old ≡ view → new ≡ after old change → IsMap old → MayChange view change → IsMap new
IsMap-changed old view new change same changed is_map may =
    subst IsMap (sym changed) (change_is_map old change is_map (subst (λ slices. MayChange slices change) (sym same) may))

-- what a change that is made or left out leaves is a map
pub IsMap-tried : {T E : Type 0} (result : Result T E) (old view new : List Slice) (change : Change) → old ≡ view
    → OnOk result (new ≡ after old change) → OnErr result (new ≡ old) → IsMap old → MayChange view change → IsMap new
IsMap-tried (Ok x) old view new change same ok err is_map may = IsMap-changed old view new change same ok is_map may
IsMap-tried (Err e) old view new change same ok err is_map may = subst IsMap (sym err) is_map
