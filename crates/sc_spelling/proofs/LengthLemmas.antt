-- Some pieces are no longer than all of them.
use Rattle.std.proofs.Common.{◌≡◌, ℕ, zero, suc, ◌+◌, ◌<◌, ◌≤◌, List, [], ◌∷◌, length, get_or, take, arith}
use Rattle.std.specs.List.{flat_map}
use Rattle.std.proofs.lemmas.List.{length-append}
use Rattle.std.proofs.lemmas.List.Concat.{flat_map-cons}

-- the first pieces and the next are no longer than all
pub length-flat_map_so_far : {A : Type 0} (f : A → List ℕ) (xs : List A) (i : ℕ) (x d : A) → i < length xs → x ≡ get_or xs i d
    → length (flat_map f (take i xs)) + length (f x) ≤ length (flat_map f xs)
length-flat_map_so_far f [] i x d lt is = absurd (omega arith)
length-flat_map_so_far f (y ∷ ys) zero x d lt is =
    rw (is, flat_map-cons f y ys) (omega (arith, length-append (f y) (flat_map f ys)))
length-flat_map_so_far f (y ∷ ys) (suc i) x d lt is =
    let rest = length-flat_map_so_far f ys i x d (omega arith) is in
    rw (flat_map-cons f y (take i ys), flat_map-cons f y ys) (omega (arith, rest, length-append (f y) (flat_map f (take i ys)), length-append (f y) (flat_map f ys)))
