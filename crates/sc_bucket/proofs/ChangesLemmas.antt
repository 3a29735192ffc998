-- Of each run of writes with one id the last: where the ids do not descend, it is the last write of the id.
use Rattle.std.proofs.Common.{◌≡◌, ◌∙◌, ℕ, suc, ◌+◌, ◌-◌, Bool, true, false, not, cond, List, [], ◌∷◌, ◌++◌, length, map, filter, take, Some, None, ◌⊎◌, inl, inr, refl, sym, ap, subst, arith}
use Rattle.std.specs.Prelude.{slice_get}
use Rattle.std.specs.Arc.{arc_value}
use Rattle.std.specs.declared.alloc.Global.{Global}
use Rattle.std.specs.declared.sync.Arc.{Arc}
use Rattle.std.specs.Option.{option_map}
use Rattle.std.specs.Cmp.Lexicographic.{slice_cmp, texts_ties}
use Rattle.std.specs.List.{dedup_from, take-map}
use Rattle.std.specs.List.Sorted.{IsStrictlySortedBy}
use Rattle.std.specs.Ordering.{nat_cmp}
use Rattle.std.specs.Str.{bytes_eq}
use Rattle.std.proofs.lemmas.Cmp.{nat_list_cmp_total}
use Rattle.std.proofs.lemmas.List.{append-nil}
use Rattle.std.proofs.lemmas.Option.{slice_get-map}
use Rattle.std.proofs.lemmas.List.Kept.{IsStrictlySortedBy-dedup}
use Rattle.sc_record.specs.Writes.{Write, is_of, write_of, AscendById}
use Rattle.sc_replica.proofs.CellLemmas.{ids}
use Rattle.sc_replica.proofs.PlaceLemmas.{write_of-below}
use Rattle.sc_journal.specs.Journal.{last_of}
use Rattle.sc_journal.proofs.ListLemmas.{last_of_cases}
use Rattle.sc_journal.proofs.JournalLemmas.{id_from_is_of}
use Rattle.sc_bucket.specs.Taking.{AreLastOf, IsSortedById}
use Rattle.sc_replicas.proofs.FindLemmas.{filter_take-next}

-- what those of the first cells that pass become with the next
passing-one : (p : Write → Bool) (cells : List (Arc Write Global)) (at : ℕ) (cell : Arc Write Global) (found : List Write)
    → slice_get cells at ≡ Some cell → found ≡ filter p (map arc_value (take at cells))
    → found ++ filter p (arc_value cell ∷ []) ≡ filter p (map arc_value (take (at + 1) cells))
passing-one p cells at cell found there so_far =
    ap (λ (these : List Write). these ++ filter p (arc_value cell ∷ [])) so_far
    ∙ ap (λ (these : List Write). filter p these ++ filter p (arc_value cell ∷ [])) (sym (take-map arc_value at cells))
    ∙ filter_take-next p (map arc_value cells) at (arc_value cell) (slice_get-map arc_value cells at ∙ ap (option_map arc_value) there)
    ∙ ap (filter p) (take-map arc_value (at + 1) cells)

-- where it passes
pub passing-next : (p : Write → Bool) (cells : List (Arc Write Global)) (at : ℕ) (cell : Arc Write Global) (found : List Write)
    → slice_get cells at ≡ Some cell → p (arc_value cell) ≡ true → found ≡ filter p (map arc_value (take at cells))
    → found ++ arc_value cell ∷ [] ≡ filter p (map arc_value (take (at + 1) cells))
passing-next p cells at cell found there passes so_far =
    let one : filter p (arc_value cell ∷ []) ≡ arc_value cell ∷ [] = rw passes refl in
    ap (λ (these : List Write). found ++ these) (sym one) ∙ passing-one p cells at cell found there so_far

-- and where it doesn't
pub not_passing-next : (p : Write → Bool) (cells : List (Arc Write Global)) (at : ℕ) (cell : Arc Write Global) (found : List Write)
    → slice_get cells at ≡ Some cell → p (arc_value cell) ≡ false → found ≡ filter p (map arc_value (take at cells))
    → found ≡ filter p (map arc_value (take (at + 1) cells))
not_passing-next p cells at cell found there fails so_far =
    let none : filter p (arc_value cell ∷ []) ≡ [] = rw fails refl in
    sym (append-nil found) ∙ ap (λ (these : List Write). found ++ these) (sym none) ∙ passing-one p cells at cell found there so_far

-- of a write and of those that follow, the last of each run of one id
abbrev pub last_of_runs : Write → List Write → List Write
last_of_runs write [] = write ∷ []
last_of_runs write (next ∷ rest) = cond (is_of write.id next) (last_of_runs next rest) (write ∷ last_of_runs next rest)

-- two writes are not of one id, as their ids tell
pub differs : (one other : List ℕ) (is : Bool) (latest next : Write) → one ≡ next.id → other ≡ latest.id → is ≡ not (bytes_eq one other)
    → is ≡ not (is_of latest.id next)
differs one other is latest next one_is other_is tells =
    tells ∙ ap (λ id. not (bytes_eq id other)) one_is ∙ ap (λ id. not (bytes_eq next.id id)) other_is

-- where the next write is not of the id, the run ends
pub runs-apart : (write next : Write) (rest : List Write) → not (is_of write.id next) ≡ true
    → last_of_runs write (next ∷ rest) ≡ write ∷ last_of_runs next rest
runs-apart write next rest apart = by (is_of write.id next) apart where
  by : (b : Bool) → not b ≡ true → cond b (last_of_runs next rest) (write ∷ last_of_runs next rest) ≡ write ∷ last_of_runs next rest
  by false is = refl
  by true is = absurd (cc)

-- and where it is, it goes on
pub runs-same : (write next : Write) (rest : List Write) → not (is_of write.id next) ≡ false
    → last_of_runs write (next ∷ rest) ≡ last_of_runs next rest
runs-same write next rest same = by (is_of write.id next) same where
  by : (b : Bool) → not b ≡ false → cond b (last_of_runs next rest) (write ∷ last_of_runs next rest) ≡ last_of_runs next rest
  by true is = refl
  by false is = absurd (cc)

-- their ids are those of all, each run once
ids-last_of_runs : (write : Write) (rest : List Write) → ids (last_of_runs write rest) ≡ dedup_from bytes_eq write.id (ids rest)
ids-last_of_runs write [] = refl
ids-last_of_runs write (next ∷ rest) = by (is_of write.id next) refl (ids-last_of_runs next rest) where
  by : (b : Bool) → is_of write.id next ≡ b → ids (last_of_runs next rest) ≡ dedup_from bytes_eq next.id (ids rest)
      → ids (cond b (last_of_runs next rest) (write ∷ last_of_runs next rest))
      ≡ cond b (dedup_from bytes_eq write.id (ids rest)) (write.id ∷ dedup_from bytes_eq next.id (ids rest))
  by true is same = same ∙ ap (λ id. dedup_from bytes_eq id (ids rest)) (id_from_is_of write.id next is)
  by false is same = ap (λ these. write.id ∷ these) same

-- so they ascend, where those of all do not descend
pub AscendById-runs : (write : Write) (rest : List Write) → IsSortedById (write ∷ rest) → AscendById (last_of_runs write rest)
AscendById-runs write rest sorted =
    subst (IsStrictlySortedBy (slice_cmp nat_cmp)) (sym (ids-last_of_runs write rest))
    (IsStrictlySortedBy-dedup nat_list_cmp_total texts_ties (ids (write ∷ rest)) sorted)

-- the last of a longer list
last_of-cons : (first next : Write) (rest : List Write) → last_of (next ∷ rest) ≡ last_of (first ∷ next ∷ rest)
last_of-cons first next rest =
    let short : length (next ∷ rest) - 1 ≡ length rest = omega arith in
    let long : suc (length rest) ≡ length (first ∷ next ∷ rest) - 1 = omega arith in
    ap (slice_get (next ∷ rest)) short ∙ ap (slice_get (first ∷ next ∷ rest)) long

-- a list with no last has nothing
empty-from_last : (these : List Write) → last_of these ≡ None → these ≡ []
empty-from_last these none = by (last_of_cases these) where
  by : ((these ≡ []) × (last_of these ≡ None)) ⊎ ((init : List Write) × (last : Write) × (these ≡ init ++ last ∷ []) × (last_of these ≡ Some last))
      → these ≡ []
  by (inl (empty, _)) = empty
  by (inr (init, last, _, some)) = let differ : None ≡ Some last = sym none ∙ some in absurd (cc)

-- and where they ascend, each is the last write of its id
pub AreLastOf-runs : (write : Write) (rest : List Write) → AscendById (last_of_runs write rest) → AreLastOf (write ∷ rest) (last_of_runs write rest)
unfolding IsStrictlySortedBy
AreLastOf-runs write [] up id = by (is_of id write) where
  by : (b : Bool) → cond b (Some write) None ≡ last_of (cond b (write ∷ []) [])
  by true = refl
  by false = refl
AreLastOf-runs write (next ∷ rest) up id = by (is_of write.id next) refl up (λ ascend. AreLastOf-runs next rest ascend id) where
  later : List Write
  later = filter (is_of id) (next ∷ rest)

  -- a write of the same id follows
  same : (b : Bool) → last_of (cond b (next ∷ filter (is_of id) rest) (filter (is_of id) rest))
      ≡ last_of (cond b (write ∷ cond b (next ∷ filter (is_of id) rest) (filter (is_of id) rest)) (cond b (next ∷ filter (is_of id) rest) (filter (is_of id) rest)))
  same true = last_of-cons write next (filter (is_of id) rest)
  same false = refl

  -- those that follow have other ids
  other : (b : Bool) → is_of id write ≡ b → write_of (last_of_runs next rest) write.id ≡ None → write_of (last_of_runs next rest) id ≡ last_of later
      → cond b (Some write) (write_of (last_of_runs next rest) id) ≡ last_of (cond b (write ∷ later) later)
  other true is none last =
      let empty : later ≡ [] = empty-from_last later (sym last ∙ ap (write_of (last_of_runs next rest)) (sym (id_from_is_of id write is)) ∙ none) in
      ap (λ (these : List Write). last_of (write ∷ these)) (sym empty)
  other false is none last = last

  by : (b : Bool) → is_of write.id next ≡ b → AscendById (cond b (last_of_runs next rest) (write ∷ last_of_runs next rest))
      → (AscendById (last_of_runs next rest) → write_of (last_of_runs next rest) id ≡ last_of later)
      → write_of (cond b (last_of_runs next rest) (write ∷ last_of_runs next rest)) id ≡ last_of (filter (is_of id) (write ∷ next ∷ rest))
  by true is ascend last =
      let alike : is_of id next ≡ is_of id write = ap (λ (text : List ℕ). bytes_eq text id) (id_from_is_of write.id next is) in
      last ascend
      ∙ same (is_of id next)
      ∙ ap (λ b. last_of (cond b (write ∷ later) later)) alike
  by false is ascend last =
      other (is_of id write) refl (write_of-below (last_of_runs next rest) write.id ascend.0) (last ascend.1)

-- no writes ascend
pub ascend-none : AscendById []
unfolding IsStrictlySortedBy
ascend-none = tt

-- so they are the last of these writes, and ascend
pub ascend-from_runs : (write : Write) (rest these shares : List Write) → these ≡ write ∷ rest → IsSortedById these → shares ≡ last_of_runs write rest
    → AscendById shares
ascend-from_runs write rest these shares is sorted runs = subst AscendById (sym runs) (AscendById-runs write rest (subst IsSortedById is sorted))

pub last-from_runs : (write : Write) (rest these shares : List Write) → these ≡ write ∷ rest → IsSortedById these → shares ≡ last_of_runs write rest
    → AreLastOf these shares
last-from_runs write rest these shares is sorted runs =
    subst (λ (all : List Write). AreLastOf all shares) (sym is)
    (subst (AreLastOf (write ∷ rest)) (sym runs) (AreLastOf-runs write rest (AscendById-runs write rest (subst IsSortedById is sorted))))
