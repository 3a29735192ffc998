-- The slice that has the id of a plan's parent is the one that the plan cuts.
use Rattle.std.proofs.Common.{◌≡◌, ℕ, List, map, Contains, Some, slice_get, sym, ◌∙◌, subst}
use Rattle.sc_record.specs.declared.slice.SliceId.{SliceId}
use Rattle.sc_record.specs.declared.slice.SubSlice.{SubSlice}
use Rattle.sc_cluster.specs.declared.slice.Slice.{Slice}
use Rattle.sc_cluster.specs.Slices.{greatest_id}
use Rattle.sc_cluster.specs.Map.{IsMap}
use Rattle.sc_cluster.specs.Plans.{sub_bounds, MayCut, IsPlanned, IsPlan}
use Rattle.sc_cluster.proofs.LeaderLemmas.{same_from_id}

abbrev pub IsCutBy : List Slice → SliceId → List SubSlice → Slice → Type 0
IsCutBy slices parent subs slice =
    MayCut slices parent (map sub_bounds subs) slice
    × ((i : ℕ) (sub : SubSlice) → slice_get subs i ≡ Some sub → IsPlanned slice (greatest_id slices) i sub)

pub cut_from_plan : (slices : List Slice) (parent : SliceId) (subs : List SubSlice) (slice : Slice) → IsMap slices
    → Contains slices slice → slice.id ≡ parent → IsPlan slices parent subs → IsCutBy slices parent subs slice
cut_from_plan slices parent subs slice is_map there named plan =
    let (other, may_cut, planned) = plan.cut in
    let same = same_from_id slices other slice is_map may_cut.there there (may_cut.named ∙ sym named) in
    subst (IsCutBy slices parent subs) same (may_cut, planned)
