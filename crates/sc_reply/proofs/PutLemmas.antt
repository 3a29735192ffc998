-- Members that are put one list after another.
use Rattle.std.proofs.Common.{◌≡◌, ℕ, List, [], ◌∷◌, ◌++◌, refl, ap}
use Rattle.serde_json.specs.Data.{Data, Members, put}
use Rattle.sc_json.specs.Documents.{put_all}

pub put_all_append : (first later : List (List ℕ × Data)) (old : Members) → put_all (first ++ later) old ≡ put_all first (put_all later old)
put_all_append [] later old = refl
put_all_append (one ∷ first) later old = ap (put one.0 one.1) (put_all_append first later old)
