-- The heads of keys, which go with their order, and those of a run of places.
use Rattle.std.proofs.Common.{◌≡◌, ℕ, zero, suc, ◌+◌, ◌-◌, ◌<◌, ◌≤◌, List, [], ◌∷◌, ◌++◌, length, map, take, drop, get_or, slice_get, Option, Some, refl, sym, ap, subst, ◌∙◌, arith, length-drop}
use Rattle.std.proofs.Math.Seq.{take-add}
use Rattle.std.proofs.lemmas.List.{get_or-map, length-map, map-append, take-map, drop-map, take_all, length-take-le}
use Rattle.std.proofs.lemmas.List.Elements.{All-head, All-tail, All-take, All-drop}
use Rattle.std.proofs.lemmas.Option.{slice_get_within, get_or_from_slice_get}
use Rattle.std.specs.List.{cons_option}
use Rattle.sc_keys.proofs.StoringLemmas.{found-within, found-first, length-keys_at}
use Rattle.sc_keys.specs.Storing.{ArePlaces, keys_at}

module _ {K : Type 0} (heading : K → ℕ) where
  -- the head that is read is that of the key
  pub head_of_key : (keys : List K) (heads : List ℕ) (at head : ℕ) (key : K) → heads ≡ map heading keys → slice_get keys at ≡ Some key → head ≡ get_or heads at head → head ≡ heading key
  head_of_key keys heads at head key are found read =
      read
      ∙ ap (λ (hs : List ℕ). get_or hs at head) are
      ∙ get_or-map heading keys at key head (slice_get_within keys at key found)
      ∙ ap heading (get_or_from_slice_get keys at key key found)

  -- there are as many heads as places
  pub heads_as_long : (stored : List K) (places heads : List ℕ) → ArePlaces stored places → heads ≡ map heading (keys_at stored places) → length heads ≡ length places
  heads_as_long stored places heads within are = ap length are ∙ length-map (keys_at stored places) heading ∙ length-keys_at stored places within

-- ---- the keys at a run of places
-- a list from one on, as it is cut
module _ {X : Type 0} (xs : List X) (from : ℕ) where
  cut : take (length xs - from) (drop from xs) ≡ drop from xs
  cut = let left = length-drop from xs in take_all (length xs - from) (drop from xs) (omega (arith, left))

  -- a run of it ends within the list
  pub run_ends : (run : ℕ) → from ≤ length xs → run ≤ length (take (length xs - from) (drop from xs)) → from + run ≤ length xs
  run_ends run within few =
      let left = length-drop from xs in
      omega (arith, within, few, left, ap length cut)

module _ {K : Type 0} (stored : List K) where
  abbrev IsWithin : ℕ → Type 0
  IsWithin place = place < length stored

  -- so many first places are those of so many first keys
  keys_at-take : (n : ℕ) (ps : List ℕ) → ArePlaces stored ps → keys_at stored (take n ps) ≡ take n (keys_at stored ps)
  keys_at-take zero ps are = refl
  keys_at-take (suc n) [] are = refl
  keys_at-take (suc n) (p ∷ ps) are =
      let here = found-within stored p (All-head IsWithin p ps are) in
      ap (λ (o : Option K). cons_option o (keys_at stored (take n ps))) here.1
      ∙ ap (λ (ks : List K). here.0 ∷ ks) (keys_at-take n ps (All-tail IsWithin p ps are))
      ∙ sym (ap (λ (o : Option K). take (suc n) (cons_option o (keys_at stored ps))) here.1)

  keys_at-drop : (n : ℕ) (ps : List ℕ) → ArePlaces stored ps → keys_at stored (drop n ps) ≡ drop n (keys_at stored ps)
  keys_at-drop zero ps are = refl
  keys_at-drop (suc n) [] are = refl
  keys_at-drop (suc n) (p ∷ ps) are =
      let here = found-within stored p (All-head IsWithin p ps are) in
      keys_at-drop n ps (All-tail IsWithin p ps are)
      ∙ sym (ap (λ (o : Option K). drop (suc n) (cons_option o (keys_at stored ps))) here.1)

  -- the keys at so many places from one on are so many keys from its number on
  keys_at-run : (from count : ℕ) (ps : List ℕ) → ArePlaces stored ps → keys_at stored (take count (drop from ps)) ≡ take count (drop from (keys_at stored ps))
  keys_at-run from count ps are =
      keys_at-take count (drop from ps) (All-drop IsWithin from ps are) ∙ ap (take count) (keys_at-drop from ps are)

  -- at places of the first keys the same keys stand where more are stored after them
  keys_at-more : (more : List K) (ps : List ℕ) → ArePlaces stored ps → keys_at (stored ++ more) ps ≡ keys_at stored ps
  keys_at-more more [] are = refl
  keys_at-more more (p ∷ ps) are =
      ap (λ (o : Option K). cons_option o (keys_at (stored ++ more) ps)) (found-first stored more p (All-head IsWithin p ps are))
      ∙ ap (λ (ks : List K). cons_option (slice_get stored p) ks) (keys_at-more more ps (All-tail IsWithin p ps are))

module _ {K : Type 0} (heading : K → ℕ) where
  -- the heads of a run after those of the first keys
  pub run_after : (stored old added : List K) (places heads run next : List ℕ) (at : ℕ) → stored ≡ old ++ added → ArePlaces stored places
      → ArePlaces old (take (length run) (take (length places - at) (drop at places))) → heads ≡ map heading (take at (keys_at stored places))
      → run ≡ map heading (keys_at old (take (length run) (take (length places - at) (drop at places)))) → next ≡ heads ++ run
      → next ≡ map heading (take (at + length run) (keys_at stored places))
  run_after stored old added places heads run next at both are are_old headed is after =
      let keys = keys_at stored places in
      let some = take (length run) (take (length places - at) (drop at places)) in
      let same : keys_at old some ≡ take (length run) (drop at keys) =
      sym (keys_at-more old added some are_old)
      ∙ ap (λ (ks : List K). keys_at ks some) (sym both)
      ∙ ap (λ (ps : List ℕ). keys_at stored (take (length run) ps)) (cut places at)
      ∙ keys_at-run stored at (length run) places are in
      after
      ∙ ap (λ (hs : List ℕ). hs ++ run) headed
      ∙ ap (λ (hs : List ℕ). map heading (take at keys) ++ hs) (is ∙ ap (map heading) same)
      ∙ sym (map-append heading (take at keys) (take (length run) (drop at keys)))
      ∙ ap (map heading) (sym (take-add at (length run) keys))

-- a run of a list's own places from one on, which are the first of the places that were given
module _ {K : Type 0} (heading : K → ℕ) (stored : List K) (own heads places : List ℕ) (from run : ℕ) (are : ArePlaces stored own) (headed : heads ≡ map heading (keys_at stored own))
    (within : from ≤ length own) (few : run ≤ length (take (length own - from) (drop from own))) (same : take run (take (length own - from) (drop from own)) ≡ take run places) where
  within_heads : from + run ≤ length heads
  within_heads = omega (arith, run_ends own from run within few, heads_as_long heading stored own heads are headed)

  abbrev part : List ℕ
  part = take (from + run - from) (drop from heads)

  just : part ≡ take run (drop from heads)
  just = ap (λ n. take n (drop from heads)) (let count : from + run - from ≡ run = omega arith in count)

  pub run_length : length part ≡ run
  run_length =
      let all = length-drop from heads in
      ap length just ∙ length-take-le run (drop from heads) (omega (arith, all, within_heads))

  first : take run (drop from own) ≡ take (length part) places
  first = ap (take run) (sym (cut own from)) ∙ same ∙ ap (λ n. take n places) (sym run_length)

  pub run_places : ArePlaces stored (take (length part) places)
  run_places = subst (ArePlaces stored) first (All-take (λ place. place < length stored) run (drop from own) (All-drop (λ place. place < length stored) from own are))

  pub run_heads : part ≡ map heading (keys_at stored (take (length part) places))
  run_heads =
      just
      ∙ ap (λ (hs : List ℕ). take run (drop from hs)) headed
      ∙ ap (take run) (drop-map heading from (keys_at stored own))
      ∙ take-map heading run (drop from (keys_at stored own))
      ∙ ap (map heading) (sym (keys_at-run stored from run own are) ∙ ap (keys_at stored) first)
