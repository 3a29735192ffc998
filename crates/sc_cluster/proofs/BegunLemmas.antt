-- The slices that a split has begun to make.
use Rattle.std.proofs.Common.{◌≡◌, List, [], ◌++◌, map, All, refl}
use Rattle.std.proofs.lemmas.List.Elements.{All-nil, All-same, All-append, All-filter, All-map, filter-append}
use Rattle.sc_record.specs.declared.slice.SubSlice.{SubSlice}
use Rattle.sc_cluster.specs.declared.slice.State.TheVariants as states
use Rattle.sc_cluster.specs.declared.slice.Slice.{Slice}
use Rattle.sc_cluster.specs.Slices.{is_forming, forming}
use Rattle.sc_cluster.specs.Changes.{begun_slice}

-- where none was being made before, all are under construction
pub All-forming_begun : (slices : List Slice) (subs : List SubSlice) → forming slices ≡ []
    → All (λ (slice : Slice). slice.state ≡ states.Construction) (forming (slices ++ map begun_slice subs))
All-forming_begun slices subs idle =
    let P : Slice → Type 0 = λ (slice : Slice). slice.state ≡ states.Construction in
    let begun : List Slice = map begun_slice subs in
    All-same P _ _ (filter-append is_forming slices begun)
    (All-append P (forming slices) (forming begun) (All-same P _ _ idle (All-nil P)) (All-filter is_forming P begun (All-map P begun_slice subs (λ k d within. refl))))
