-- A list of which the element at a place is changed, as what changes it there sees it.
use Rattle.std.proofs.Common.{◌≡◌, ◌∙◌, ◌<◌, ℕ, List, length, get_or, set, slice_get, Some, Result, Ok, Err, refl, ap}
use Rattle.std.specs.Prelude.{OnOk, OnErr}
use Rattle.std.proofs.lemmas.List.{set-get_or}
use Rattle.std.proofs.lemmas.Option.{slice_get_read, get_or_from_slice_get}

-- the element at a place, as what changes it there sees it
pub here_at : {X : Type 0} (items xs : List X) (at : ℕ) (here : X) → items ≡ xs → at < length xs → here ≡ get_or items at here
    → slice_get xs at ≡ Some here
here_at items xs at here same within is =
    slice_get_read xs (length xs) at here refl within (is ∙ ap (λ these. get_or these at here) same)

-- and what it is once it is changed
pub changed_at : {X : Type 0} (f : X → X) (items xs : List X) (at : ℕ) (x here new : X) → items ≡ xs
    → slice_get xs at ≡ Some x → here ≡ get_or items at here → new ≡ f here → new ≡ f x
changed_at f items xs at x here new same there here_is new_is =
    new_is
    ∙ ap f (here_is ∙ ap (λ these. get_or these at here) same ∙ get_or_from_slice_get xs at x here there)

-- so the list is the one with it changed
pub set_at : {X : Type 0} (f : X → X) (items xs : List X) (at : ℕ) (x here new : X) → items ≡ xs
    → slice_get xs at ≡ Some x → here ≡ get_or items at here → new ≡ f here → set items at new ≡ set xs at (f x)
set_at f items xs at x here new same there here_is new_is =
    ap (λ these. set these at new) same
    ∙ ap (set xs at) (changed_at f items xs at x here new same there here_is new_is)

-- and so it is where it was changed, and as it was where it was not
pub set_where_ok : {X T F : Type 0} (f : X → X) (result : Result T F) (items xs : List X) (at : ℕ) (here new : X)
    → items ≡ xs → here ≡ get_or items at here → OnOk result (new ≡ f here)
    → OnOk result ((x : X) → slice_get xs at ≡ Some x → set items at new ≡ set xs at (f x))
set_where_ok f (Ok value) items xs at here new same here_is new_is =
    λ x there. set_at f items xs at x here new same there here_is new_is
set_where_ok f (Err fault) items xs at here new same here_is new_is = tt

pub same_where_err : {X T F : Type 0} (result : Result T F) (items xs : List X) (at : ℕ) (here new : X)
    → items ≡ xs → here ≡ get_or items at here → OnErr result (new ≡ here) → OnErr result (set items at new ≡ xs)
same_where_err (Ok value) items xs at here new same here_is new_is = tt
same_where_err (Err fault) items xs at here new same here_is new_is =
    ap (set items at) (new_is ∙ here_is) ∙ set-get_or items at here ∙ same
