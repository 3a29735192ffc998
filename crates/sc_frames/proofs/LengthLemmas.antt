-- How long slices are: the first and the next, and that they are no longer than all.
use Rattle.std.proofs.Common.{◌≡◌, ℕ, ◌+◌, ◌<◌, ◌≤◌, List, length, map, get_or, take, sym, ap, ◌∙◌, arith}
use Rattle.std.specs.List.{flat_map}
use Rattle.std.proofs.lemmas.List.{length-append}
use Rattle.std.proofs.lemmas.List.Folds.{flat_map-map, length-flat_map-take}
use Rattle.sc_record.specs.declared.slice.SubSlice.{SubSlice}
use Rattle.sc_frames.specs.Stored.{StoredSub, stored_sub}
use Rattle.sc_frames.specs.Entries.{after_name, spelling_of_sub}
use Rattle.sc_frames.proofs.PushLemmas.{bytes_more}

-- how many bytes a slice has
pub length-sub : (sub : StoredSub) → length (spelling_of_sub sub) ≡ 21 + length sub.name
unfolding after_name
length-sub sub = omega (arith, length-append sub.name (after_name sub.min sub.max sub.replicas sub.node))

-- the bytes of a slice
abbrev bytes_of : SubSlice → List ℕ
bytes_of sub = spelling_of_sub (stored_sub sub)

-- the first slices and the next are no longer than all
pub length-so_far : (subs : List SubSlice) (i : ℕ) (x d : SubSlice) → i < length subs → x ≡ get_or subs i d
    → length (flat_map spelling_of_sub (map stored_sub (take i subs))) + length (spelling_of_sub (stored_sub x)) ≤ length (flat_map spelling_of_sub (map stored_sub subs))
length-so_far subs i x d lt is =
    let part = ap (length {A = ℕ}) (flat_map-map spelling_of_sub stored_sub (take i subs)) in
    let all = ap (length {A = ℕ}) (flat_map-map spelling_of_sub stored_sub subs) in
    let one : length (bytes_of x) ≡ length (bytes_of (get_or subs i d)) = ap (λ (s : SubSlice). length (bytes_of s)) is in
    let enough = length-flat_map-take bytes_of subs i d lt in
    omega (arith, part, all, one, enough)

-- how long the first slices are, and the next
pub length-more : (subs : List SubSlice) (i : ℕ) (x d : SubSlice) → i < length subs → x ≡ get_or subs i d
    → length (flat_map spelling_of_sub (map stored_sub (take (i + 1) subs))) ≡ length (flat_map spelling_of_sub (map stored_sub (take i subs))) + (21 + length x.name)
length-more subs i x d lt is =
    let spelled : List ℕ = flat_map spelling_of_sub (map stored_sub (take i subs)) in
    sym (ap (length {A = ℕ}) (bytes_more subs i x d lt is)) ∙ length-append spelled (spelling_of_sub (stored_sub x))
    ∙ ap (λ (n : ℕ). length spelled + n) (length-sub (stored_sub x))
