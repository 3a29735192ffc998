-- Which places one event adds to those of a journal's entries.
use Rattle.std.proofs.Common.{◌≡◌, ◌⊎◌, inl, inr, ℕ, zero, suc, ◌+◌, ◌≤◌, Bool, true, false, cond, ltb, List, [], ◌∷◌, ◌++◌, length, drop, sym, ap, ◌∙◌, subst, arith}
use Rattle.std.specs.Prelude.{map, filter, not}
use Rattle.std.specs.List.{range_with_len, enumerate_from}
use Rattle.std.proofs.lemmas.Bool.{lt-ltb, le-ltb}
use Rattle.std.proofs.lemmas.List.{append-nil, length_push, map-append, drop-append-le, length-drop}
use Rattle.std.proofs.lemmas.List.Elements.{filter-append}
use Rattle.sc_record.specs.declared.entry.Entry.{Entry}
use Rattle.sc_keeper.specs.Part.{is_of_keeper, keeper_entries}
use Rattle.sc_keeper.specs.Laws.{AddsAtMost}
use Rattle.sc_collection.specs.Desks.{place_added}
use Rattle.sc_collection.specs.Alone.{places, pass_places}

-- one number more
pub range-push : (from n : ℕ) → range_with_len from (suc n) ≡ range_with_len from n ++ (from + n) ∷ []
range-push from zero = let same : from ≡ from + 0 = omega arith in ap (λ k. k ∷ []) same
range-push from (suc n) =
    let same : (from + 1) + n ≡ from + suc n = omega arith in
    ap (λ ks. from ∷ ks) (range-push (from + 1) n ∙ ap (λ k. range_with_len (from + 1) n ++ k ∷ []) same)

-- an entry at the end adds its place
places-push : {A : Type 0} (from : ℕ) (entries : List A) (one : A) → from ≤ length entries
    → places from (entries ++ one ∷ []) ≡ places from entries ++ length entries ∷ []
places-push {A} from entries one since =
    let dropped : length (drop from (entries ++ one ∷ [])) ≡ length (drop from entries ++ one ∷ []) =
    ap (λ (left : List A). length left) (drop-append-le from entries (one ∷ []) since) in
    let longer : length (drop from (entries ++ one ∷ [])) ≡ suc (length (drop from entries)) =
    omega (arith, dropped, length_push (drop from entries) one) in
    let last : from + length (drop from entries) ≡ length entries = omega (arith, since, length-drop from entries) in
    ap (range_with_len from) longer ∙ range-push from (length (drop from entries))
    ∙ ap (λ place. places from entries ++ place ∷ []) last

-- it is the place that was added
pub place_added-push : {A : Type 0} (entries : List A) (one : A)
    → place_added entries (entries ++ one ∷ []) ≡ length entries ∷ []
place_added-push entries one =
    let more : ltb (length entries) (length (entries ++ one ∷ [])) ≡ true =
    lt-ltb (length entries) (length (entries ++ one ∷ [])) (omega (arith, length_push entries one)) in
    ap (λ b. cond b (length entries ∷ []) []) more

-- where nothing was added there is none
pub place_added-none : {A : Type 0} (entries : List A) → place_added entries entries ≡ []
place_added-none entries =
    ap (λ b. cond b (length entries ∷ []) []) (le-ltb (length entries) (length entries) (omega arith))

-- the same entries, or one more, have the places of the first and that which was added
pub places_added : {A : Type 0} (from : ℕ) (old new : List A) → from ≤ length old → (new ≡ old) ⊎ ((one : A) × (new ≡ old ++ one ∷ []))
    → places from new ≡ places from old ++ place_added old new
places_added from old new since (inl same) =
    ap (places from) same ∙ sym (append-nil (places from old))
    ∙ ap (λ more. places from old ++ more) (sym (ap (place_added old) same ∙ place_added-none old))
places_added from old new since (inr (one, is)) =
    ap (places from) is ∙ places-push from old one since
    ∙ ap (λ more. places from old ++ more) (sym (ap (place_added old) is ∙ place_added-push old one))

-- one more is counted after the others
enumerate-push : (from : ℕ) (journal : List Entry) (one : Entry)
    → enumerate_from from (journal ++ one ∷ []) ≡ enumerate_from from journal ++ (from + length journal, one) ∷ []
enumerate-push from [] one =
    let same : from ≡ from + 0 = omega arith in ap (λ n. (n, one) ∷ []) same
enumerate-push from (first ∷ journal) one =
    let same : (from + 1) + length journal ≡ from + suc (length journal) = omega arith in
    ap (λ rest. (from, first) ∷ rest)
    (enumerate-push (from + 1) journal one ∙ ap (λ n. enumerate_from (from + 1) journal ++ (n, one) ∷ []) same)

-- of one more the place is added, unless the keeper made it
pass_places-push : (from : ℕ) (journal : List Entry) (one : Entry) (of_keeper : Bool) → from ≤ length journal → is_of_keeper one ≡ of_keeper
    → pass_places from (journal ++ one ∷ []) ≡ pass_places from journal ++ cond of_keeper [] (length journal ∷ [])
pass_places-push from journal one of_keeper since is =
    ap (λ (all : List Entry). map place (filter passes (enumerate_from from all))) (drop-append-le from journal (one ∷ []) since)
    ∙ ap (λ all. map place (filter passes all)) (enumerate-push from left one)
    ∙ ap (map place) (filter-append passes (enumerate_from from left) last)
    ∙ map-append place (filter passes (enumerate_from from left)) (filter passes last)
    ∙ ap (λ more. pass_places from journal ++ more) (by of_keeper is)
  where
    left : List Entry
    left = drop from journal

    place : ℕ × Entry → ℕ
    place one = one.0

    passes : ℕ × Entry → Bool
    passes one = not (is_of_keeper one.1)

    last : List (ℕ × Entry)
    last = (from + length left, one) ∷ []

    end : from + length left ≡ length journal
    end = omega (arith, since, length-drop from journal)

    by : (b : Bool) → is_of_keeper one ≡ b → map place (filter passes last) ≡ cond b [] (length journal ∷ [])
    by true at = ap (λ b. map place (cond (not b) last [])) at
    by false at = ap (λ b. map place (cond (not b) last [])) at ∙ ap (λ n. n ∷ []) end

-- an event of the bucket's own adds the place of the entry that it adds, if it adds one
pub step_places : (from : ℕ) (old new : List Entry) → from ≤ length old → AddsAtMost false old new
    → pass_places from new ≡ pass_places from old ++ place_added old new
step_places from old new since (inl same) =
    ap (pass_places from) same ∙ sym (append-nil (pass_places from old))
    ∙ ap (λ more. pass_places from old ++ more) (sym (ap (place_added old) same ∙ place_added-none old))
step_places from old new since (inr (one, by_pass, is)) =
    ap (pass_places from) is ∙ pass_places-push from old one false since by_pass
    ∙ ap (λ more. pass_places from old ++ more) (sym (ap (place_added old) is ∙ place_added-push old one))

-- one of the keeper's adds none
pub keeper_places : (from : ℕ) (old new : List Entry) → from ≤ length old → AddsAtMost true old new
    → pass_places from new ≡ pass_places from old
keeper_places from old new since (inl same) = ap (pass_places from) same
keeper_places from old new since (inr (one, by_keeper, is)) =
    ap (pass_places from) is ∙ pass_places-push from old one true since by_keeper ∙ append-nil (pass_places from old)

-- the keeper's entries once one more came, which it made or not
own-push : (from : ℕ) (journal : List Entry) (one : Entry) (of_keeper : Bool) → from ≤ length journal → is_of_keeper one ≡ of_keeper
    → keeper_entries (drop from (journal ++ one ∷ [])) ≡ keeper_entries (drop from journal) ++ cond of_keeper (one ∷ []) []
own-push from journal one of_keeper since is =
    ap keeper_entries (drop-append-le from journal (one ∷ []) since)
    ∙ filter-append is_of_keeper (drop from journal) (one ∷ [])
    ∙ ap (λ b. keeper_entries (drop from journal) ++ cond b (one ∷ []) []) is

-- what a keeper adds is among the entries that the keeper made
pub keeper_adds_own : (from : ℕ) (old new : List Entry) → from ≤ length old → AddsAtMost true old new
    → (made : List Entry) × (new ≡ old ++ made) × (keeper_entries (drop from new) ≡ keeper_entries (drop from old) ++ made)
keeper_adds_own from old new since (inl same) = (
  [],
  same ∙ sym (append-nil old),
  ap (λ (all : List Entry). keeper_entries (drop from all)) same ∙ sym (append-nil (keeper_entries (drop from old))),
)
keeper_adds_own from old new since (inr (one, by_keeper, is)) = (
  one ∷ [],
  is,
  ap (λ (all : List Entry). keeper_entries (drop from all)) is ∙ own-push from old one true since by_keeper,
)

-- an event of the bucket's own leaves them as they were
pub step_keeps_own : (from : ℕ) (old new : List Entry) → from ≤ length old → AddsAtMost false old new
    → keeper_entries (drop from new) ≡ keeper_entries (drop from old)
step_keeps_own from old new since (inl same) = ap (λ (all : List Entry). keeper_entries (drop from all)) same
step_keeps_own from old new since (inr (one, by_pass, is)) =
    ap (λ (all : List Entry). keeper_entries (drop from all)) is ∙ own-push from old one false since by_pass
    ∙ append-nil (keeper_entries (drop from old))

-- a journal gets no shorter by either
pub adds_longer : (of_keeper : Bool) (from : ℕ) (old new : List Entry) → from ≤ length old → AddsAtMost of_keeper old new → from ≤ length new
adds_longer of_keeper from old new since (inl same) = subst (λ (all : List Entry). from ≤ length all) (sym same) since
adds_longer of_keeper from old new since (inr (one, by, is)) =
    subst (λ (all : List Entry). from ≤ length all) (sym is) (omega (arith, since, length_push old one))
