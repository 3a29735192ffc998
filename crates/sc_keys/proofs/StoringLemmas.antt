-- Keys by their places among stored keys.
use Rattle.std.proofs.Common.{◌≡◌, ℕ, zero, suc, ◌+◌, ◌-◌, ◌<◌, ◌≤◌, List, [], ◌∷◌, ◌++◌, length, take, drop, get_or, slice_get, Option, Some, refl, sym, ap, subst, ◌∙◌, arith}
use Rattle.std.proofs.lemmas.Cmp.{tied_itself}
use Rattle.std.proofs.lemmas.List.{length-append, drop_more, drop_all, take_more}
use Rattle.std.proofs.lemmas.List.Elements.{All-head, All-tail, filter_map-append}
use Rattle.std.proofs.lemmas.Option.{slice_get_read, slice_get_within, get_or_from_slice_get}
use Rattle.std.specs.Cmp.{IsTotalOrder}
use Rattle.std.specs.declared.cmp.Ordering.{Ordering}
use Rattle.std.specs.declared.cmp.Ordering.TheVariants.{Equal}
use Rattle.std.specs.List.{cons_option}
use Rattle.sc_keys.specs.declared.keys.Piece.{Piece}
use Rattle.sc_keys.specs.Searching.{StandsAt}
use Rattle.sc_keys.specs.Storing.{KeysState, HasPlaces, keys_in, stored_in, keys_at, ArePlaces, AreAlike}

-- ---- an element at a place
module _ {X : Type 0} where
  pub found-within : (xs : List X) (i : ℕ) → i < length xs → (x : X) × (slice_get xs i ≡ Some x)
  found-within [] i within = absurd (omega arith)
  found-within (x ∷ xs) zero within = (x, refl)
  found-within (x ∷ xs) (suc i) within = found-within xs i (omega arith)

  -- an element of the first list, and one of a list after it
  pub found-first : (xs more : List X) (i : ℕ) → i < length xs → slice_get (xs ++ more) i ≡ slice_get xs i
  found-first [] more i within = absurd (omega arith)
  found-first (x ∷ xs) more zero within = refl
  found-first (x ∷ xs) more (suc i) within = found-first xs more i (omega arith)

  pub found-after : (xs ys : List X) (i : ℕ) → slice_get (xs ++ ys) (length xs + i) ≡ slice_get ys i
  found-after [] ys i = ap (slice_get ys) (omega arith)
  found-after (x ∷ xs) ys i =
      let next : length (x ∷ xs) + i ≡ suc (length xs + i) = omega arith in
      ap (slice_get ((x ∷ xs) ++ ys)) next ∙ found-after xs ys i

-- one element more
pub take-place : {X : Type 0} (xs : List X) (i : ℕ) (x : X) → slice_get xs i ≡ Some x → take (i + 1) xs ≡ take i xs ++ x ∷ []
take-place xs i x at =
    let within = slice_get_within xs i x at in
    take_more xs i x within ∙ ap (λ (y : _). take i xs ++ y ∷ []) (get_or_from_slice_get xs i x x at)

module _ {K : Type 0} (R : K → K → Ordering) where
  -- the key there is one that compares equal
  pub stands : (q : K) (ks : List K) (at : ℕ) → at < length ks → ((k : K) → slice_get ks at ≡ Some k → Equal ≡ R q k) → StandsAt R ks q at
  stands q ks at within equal =
      let here = found-within ks at within in
      (here.0, here.1, sym (equal here.0 here.1))

-- ---- the pieces
module _ {K : Type 0} where
  -- where keys are left from a piece on, there is this piece
  pub piece-within : (pieces : List (Piece K)) (at rest : ℕ) → rest < length (stored_in (drop at pieces)) → at < length pieces
  piece-within [] at rest within =
      let none : length (stored_in {K = K} (drop at [])) ≡ 0 = ap (λ (ps : List (Piece K)). length (stored_in ps)) (drop_all at [] (omega arith)) in
      absurd (omega (arith, none, within))
  piece-within (p ∷ ps) zero rest within = omega arith
  piece-within (p ∷ ps) (suc i) rest within =
      let later = piece-within ps i rest within in
      omega (arith, later)

  module _ (pieces : List (Piece K)) (at rest : ℕ) (piece : Piece K) (is : piece ≡ get_or pieces at piece) (left : rest < length (stored_in (drop at pieces))) where
    stored-split : stored_in (drop at pieces) ≡ keys_in piece ++ stored_in (drop (at + 1) pieces)
    stored-split =
        ap stored_in (drop_more pieces at piece (piece-within pieces at rest left) ∙ ap (λ (p : Piece K). p ∷ drop (at + 1) pieces) (sym is))

    -- a key after those of the piece
    pub left-after : length (keys_in piece) ≤ rest → rest - length (keys_in piece) < length (stored_in (drop (at + 1) pieces))
    left-after past =
        let all = ap length stored-split ∙ length-append (keys_in piece) (stored_in (drop (at + 1) pieces)) in
        omega (arith, all, past, left)

    pub same-after : length (keys_in piece) ≤ rest → slice_get (stored_in (drop at pieces)) rest ≡ slice_get (stored_in (drop (at + 1) pieces)) (rest - length (keys_in piece))
    same-after past =
        let sum : rest ≡ length (keys_in piece) + (rest - length (keys_in piece)) = omega (arith, past) in
        ap (slice_get (stored_in (drop at pieces))) sum
        ∙ ap (λ (ks : List K). slice_get ks (length (keys_in piece) + (rest - length (keys_in piece)))) stored-split
        ∙ found-after (keys_in piece) (stored_in (drop (at + 1) pieces)) (rest - length (keys_in piece))

    -- one of the piece
    pub same-here : rest < length (keys_in piece) → slice_get (stored_in (drop at pieces)) rest ≡ slice_get (keys_in piece) rest
    same-here within =
        ap (λ (ks : List K). slice_get ks rest) stored-split ∙ found-first (keys_in piece) (stored_in (drop (at + 1) pieces)) rest within

-- ---- the keys at places
module _ {K : Type 0} (stored : List K) where
  abbrev pub IsWithin : ℕ → Type 0
  IsWithin place = place < length stored

  pub keys_at-cons : (p : ℕ) (ps : List ℕ) (key : K) → slice_get stored p ≡ Some key → keys_at stored (p ∷ ps) ≡ key ∷ keys_at stored ps
  keys_at-cons p ps key found = ap (λ (o : Option K). cons_option o (keys_at stored ps)) found

  pub length-keys_at : (ps : List ℕ) → ArePlaces stored ps → length (keys_at stored ps) ≡ length ps
  length-keys_at [] are = refl
  length-keys_at (p ∷ ps) are =
      let here = found-within stored p (All-head IsWithin p ps are) in
      ap length (keys_at-cons p ps here.0 here.1) ∙ ap suc (length-keys_at ps (All-tail IsWithin p ps are))

  pub key_of_place : (ps : List ℕ) (i p : ℕ) → ArePlaces stored ps → slice_get ps i ≡ Some p → slice_get (keys_at stored ps) i ≡ slice_get stored p
  key_of_place [] i p are at = absurd cc
  key_of_place (q ∷ qs) zero p are at =
      let same : q ≡ p = cc in
      let here = found-within stored q (All-head IsWithin q qs are) in
      ap (λ (ks : List K). slice_get ks 0) (keys_at-cons q qs here.0 here.1) ∙ sym here.1 ∙ ap (slice_get stored) same
  key_of_place (q ∷ qs) (suc i) p are at =
      let here = found-within stored q (All-head IsWithin q qs are) in
      ap (λ (ks : List K). slice_get ks (suc i)) (keys_at-cons q qs here.0 here.1) ∙ key_of_place qs i p (All-tail IsWithin q qs are) at

  -- one place more
  pub keys_at-push : (ps : List ℕ) (p : ℕ) (key : K) → slice_get stored p ≡ Some key → keys_at stored (ps ++ p ∷ []) ≡ keys_at stored ps ++ key ∷ []
  keys_at-push ps p key found = filter_map-append (slice_get stored) ps (p ∷ []) ∙ ap (λ (o : Option K). keys_at stored ps ++ cons_option o []) found

-- ---- the places of the keys of an index
module _ {K : Type 0} (state : KeysState K) (places : List ℕ) (has : HasPlaces state places) (at : ℕ) (key : K) (found : slice_get state.keys at ≡ Some key) where
  pub in_places : at < length places
  in_places =
      let within = slice_get_within state.keys at key found in
      let as_long = ap length has.keys in
      omega (arith, within, as_long, length-keys_at state.stored places has.are_places)

  -- the place that is read is that of the key, also where more keys are stored
  module _ (place : ℕ) (is : place ≡ get_or places at place) where
    pub key_stored : slice_get state.stored place ≡ Some key
    key_stored =
        sym (key_of_place state.stored places at place has.are_places (slice_get_read places (length places) at place refl in_places is))
        ∙ ap (λ (ks : List K). slice_get ks at) has.keys
        ∙ found

    pub key_in_more : (stored more : List K) → state.stored ≡ stored → slice_get (stored ++ more) place ≡ Some key
    key_in_more stored more seen =
        subst (λ (ks : List K). slice_get (ks ++ more) place ≡ Some key) seen (found-first state.stored more place (slice_get_within state.stored place key key_stored) ∙ key_stored)

-- ---- keys that are alike
module _ {K : Type 0} (order : K → K → Ordering) where
  pub alike-push : (ks ls : List K) (k l : K) → AreAlike order ks ls → order k l ≡ Equal → AreAlike order (ks ++ k ∷ []) (ls ++ l ∷ [])
  alike-push [] [] k l alike equal = (equal, tt)
  alike-push [] (y ∷ ys) k l alike equal = absurd alike
  alike-push (x ∷ xs) [] k l alike equal = absurd alike
  alike-push (x ∷ xs) (y ∷ ys) k l alike equal = (alike.0, alike-push xs ys k l alike.1 equal)

  pub length-alike : (ks ls : List K) → AreAlike order ks ls → length ls ≡ length ks
  length-alike [] [] alike = refl
  length-alike [] (l ∷ ls) alike = absurd alike
  length-alike (k ∷ ks) [] alike = absurd alike
  length-alike (k ∷ ks) (l ∷ ls) alike = ap suc (length-alike ks ls alike.1)

module _ {K : Type 0} {order : K → K → Ordering} (o : IsTotalOrder order) where
  pub alike-itself : (ks : List K) → AreAlike order ks ks
  alike-itself [] = tt
  alike-itself (k ∷ ks) = (tied_itself o k, alike-itself ks)
