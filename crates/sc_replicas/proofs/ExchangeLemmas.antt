-- Two cores that change seats.
use Rattle.std.proofs.Common.{◌≡◌, ◌≢◌, ◌∙◌, ◌<◌, ◌⊎◌, inl, inr, ℕ, true, false, List, [], ◌∷◌, length, set, swap, get_or, slice_get, Some, refl, sym, ap, subst, arith}
use Rattle.std.proofs.lemmas.Bool.{cases_eq}
use Rattle.std.proofs.lemmas.List.{get_or-set_same, get_or-set_other, length-set, set-set, set_comm}
use Rattle.std.proofs.lemmas.Option.{slice_get_within, get_or_from_slice_get, none-some}
use Rattle.sc_record.specs.declared.slice.CoreId.{CoreId}
use Rattle.sc_replica.specs.Core.{Core}
use Rattle.sc_replicas.specs.Cores.{seated}

-- two elements in each other's place
swap_is : {X : Type 0} (xs : List X) (i j : ℕ) (x y : X) → slice_get xs i ≡ Some x → slice_get xs j ≡ Some y
    → swap xs i j ≡ set (set xs i y) j x
swap_is [] i j x y at_i at_j = absurd (none-some x at_i)
swap_is (z ∷ xs) i j x y at_i at_j =
    ap (λ a. set (set (z ∷ xs) i a) j (get_or (z ∷ xs) i z)) (get_or_from_slice_get (z ∷ xs) j y z at_j)
    ∙ ap (λ a. set (set (z ∷ xs) i y) j a) (get_or_from_slice_get (z ∷ xs) i x z at_i)

-- where the elements at two places changed places, and what came to each was changed there, what stood at the other place was changed
changed_there : {X : Type 0} (f g : X → X) (xs after : List X) (i j : ℕ) (x y here there : X) → ((a : X) → f (g a) ≡ f a)
    → slice_get xs i ≡ Some x → slice_get xs j ≡ Some y → after ≡ swap xs i j
    → here ≡ get_or after i here → there ≡ get_or (set after i (g here)) j there
    → set (set after i (g here)) j (f there) ≡ set (set xs i (g y)) j (f x)
changed_there f g xs after i j x y here there last at_i at_j swapped is_here is_there = by (cases_eq i j) where
  within_i : i < length xs
  within_i = slice_get_within xs i x at_i

  within_j : j < length xs
  within_j = slice_get_within xs j y at_j

  after_is : after ≡ set (set xs i y) j x
  after_is = swapped ∙ swap_is xs i j x y at_i at_j

  first_length : length (set xs i y) ≡ length xs
  first_length = length-set xs i y

  after_length : length after ≡ length xs
  after_length = ap length after_is ∙ length-set (set xs i y) j x ∙ first_length

  by : (i ≡ j) ⊎ (i ≢ j) → set (set after i (g here)) j (f there) ≡ set (set xs i (g y)) j (f x)
  by (inl same) =
      let there_is : there ≡ g here =
      is_there ∙ ap (λ n. get_or (set after i (g here)) n there) (sym same)
      ∙ get_or-set_same after i (g here) there (omega (arith, after_length, within_i)) in
      let twice : after ≡ set xs i x =
      after_is ∙ ap (λ n. set (set xs i y) n x) (sym same) ∙ set-set xs i y x in
      let here_is : here ≡ x = is_here ∙ ap (λ these. get_or these i here) twice ∙ get_or-set_same xs i x here within_i in
      ap (λ n. set (set after i (g here)) n (f there)) (sym same)
      ∙ set-set after i (g here) (f there)
      ∙ ap (λ a. set after i (f a)) there_is
      ∙ ap (set after i) (last here)
      ∙ ap (λ a. set after i (f a)) here_is
      ∙ ap (λ these. set these i (f x)) twice
      ∙ set-set xs i x (f x)
      ∙ sym (set-set xs i (g y) (f x))
      ∙ ap (λ n. set (set xs i (g y)) n (f x)) same
  by (inr apart) =
      let here_is : here ≡ y =
      is_here ∙ ap (λ these. get_or these i here) after_is ∙ get_or-set_other (set xs i y) j i x here apart
      ∙ get_or-set_same xs i y here within_i in
      let there_is : there ≡ x =
      is_there ∙ get_or-set_other after i j (g here) there (λ same. apart (sym same))
      ∙ ap (λ these. get_or these j there) after_is
      ∙ get_or-set_same (set xs i y) j x there (omega (arith, first_length, within_j)) in
      ap (λ these. set (set these i (g here)) j (f there)) after_is
      ∙ ap (λ these. set these j (f there)) (sym (set_comm (set xs i y) i j (g here) x apart))
      ∙ ap (λ these. set (set these j x) j (f there)) (set-set xs i y (g here))
      ∙ set-set (set xs i (g here)) j x (f there)
      ∙ ap (λ a. set (set xs i (g a)) j (f there)) here_is
      ∙ ap (λ a. set (set xs i (g y)) j (f a)) there_is

-- so each of two cores sits in the other's seat, once they changed places and each took the seat of its place
pub exchanged_is : (cores after : List Core) (first second : ℕ) (seat name : CoreId) (one other here there up down : Core)
    → slice_get cores first ≡ Some one → slice_get cores second ≡ Some other → after ≡ swap cores first second
    → seat ≡ one.core → name ≡ other.core → up ≡ seated seat false here → down ≡ seated name true there
    → here ≡ get_or after first here → there ≡ get_or (set after first up) second there
    → set (set after first up) second down
    ≡ set (set cores first (seated one.core false other)) second (seated other.core true one)
exchanged_is cores after first second seat name one other here there up down at_first at_second swapped is_seat is_name is_up is_down
    is_here is_there =
    ap (λ (core : Core). set (set after first core) second down) is_up
    ∙ ap (set (set after first (seated seat false here)) second) is_down
    ∙ changed_there (seated name true) (seated seat false) cores after first second one other here there (λ core. refl) at_first
    at_second swapped is_here (subst (λ (core : Core). there ≡ get_or (set after first core) second there) is_up is_there)
    ∙ ap (λ (id : CoreId). set (set cores first (seated id false other)) second (seated name true one)) is_seat
    ∙ ap (λ (id : CoreId). set (set cores first (seated one.core false other)) second (seated id true one)) is_name
