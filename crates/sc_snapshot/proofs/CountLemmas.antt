-- After changes there are at most as many rows as there were and as there are changes.
use Rattle.std.proofs.Common.{◌≡◌, ℕ, ◌+◌, ◌<◌, ◌≤◌, List, [], ◌∷◌, Bool, true, false, cond, not, is_some, filter, length, Option, Some, None, refl, sym, ap, ◌∙◌, arith}
use Rattle.std.proofs.lemmas.Slice.Eq.{bytes_eq-Decides}
use Rattle.std.specs.Str.{bytes_eq}
use Rattle.sc_record.specs.Writes.{Write, is_of, write_of, AscendById}
use Rattle.sc_snapshot.specs.Rows.{AreChanged}
use Rattle.sc_snapshot.proofs.PlaceLemmas.{Ascend, ascend-from, none_above}

-- the writes of all other ids
abbrev others : List ℕ → List Write → List Write
others id writes = filter (λ (write : Write). not (is_of id write)) writes

-- there are no more of them
few : (id : List ℕ) (writes : List Write) → length (others id writes) ≤ length writes
few id [] = omega arith
few id (write ∷ writes) =
    let rest = few id writes in
    elim (is_of id write) as (λ b. length (cond (not b) (write ∷ others id writes) (others id writes)) ≤ length (write ∷ writes)) [
      | true ↦ omega (arith, rest)
      | false ↦ omega (arith, rest)
    ]

-- and fewer where the id has a write
fewer : (id : List ℕ) (writes : List Write) → is_some (write_of writes id) ≡ true → length (others id writes) < length writes
fewer id [] has = cc
fewer id (write ∷ writes) has = by_test (λ there. fewer id writes there) (is_of id write) refl
  where
    by_test : (is_some (write_of writes id) ≡ true → length (others id writes) < length writes) → (b : Bool) → is_of id write ≡ b
        → length (cond (not (is_of id write)) (write ∷ others id writes) (others id writes)) < length (write ∷ writes)
    by_test later true here = let rest = few id writes in rw here (omega (arith, rest))
    by_test later false there =
        let rest = later (rw there at has) in
        rw there (omega (arith, rest))

-- the id has no write among them
none : (id : List ℕ) (writes : List Write) → write_of (others id writes) id ≡ None
none id [] = refl
none id (write ∷ writes) = by_test (none id writes) (is_of id write) refl
  where
    by_test : write_of (others id writes) id ≡ None → (b : Bool) → is_of id write ≡ b
        → write_of (cond (not (is_of id write)) (write ∷ others id writes) (others id writes)) id ≡ None
    by_test later true here = rw here later
    by_test later false there = rw (there, there) later

-- and each other id has the write that it had
same : (id other : List ℕ) (writes : List Write) → bytes_eq id other ≡ false → write_of (others id writes) other ≡ write_of writes other
same id other [] apart = refl
same id other (write ∷ writes) apart = by_test (same id other writes apart) (is_of id write) refl
  where
    by_test : write_of (others id writes) other ≡ write_of writes other → (b : Bool) → is_of id write ≡ b
        → write_of (cond (not (is_of id write)) (write ∷ others id writes) (others id writes)) other ≡ write_of (write ∷ writes) other
    by_test later true here =
        let one : write.id ≡ id = (bytes_eq-Decides write.id id).0 here in
        let differs : is_of other write ≡ false = ap (λ (x : List ℕ). bytes_eq x other) one ∙ apart in
        rw (here, differs) later
    by_test later false there =
        rw there (ap (λ (found : Option Write). cond (is_of other write) (Some write) found) later)

-- one of two lists has the write
one_has : (id : List ℕ) (old changes : List Write) (row : Write) → Some row ≡ cond (is_some (write_of changes id)) (write_of changes id) (write_of old id)
    → length (others id old) + length (others id changes) < length old + length changes
one_has id old changes row is = by_change (is_some (write_of changes id)) refl
  where
    by_change : (b : Bool) → is_some (write_of changes id) ≡ b → length (others id old) + length (others id changes) < length old + length changes
    by_change true has =
        let less = fewer id changes has in
        let most = few id old in
        omega (arith, less, most)
    by_change false has =
        let there : Some row ≡ write_of old id = rw has at is in
        let less = fewer id old (ap is_some (sym there)) in
        let most = few id changes in
        omega (arith, less, most)

count : (rows old changes : List Write) → Ascend rows → AreChanged old changes rows → length rows ≤ length old + length changes
count [] old changes ascend changed = omega arith
count (row ∷ rows) old changes ascend changed =
    let id = row.id in
    let first : write_of (row ∷ rows) id ≡ Some row =
    ap (λ b. cond b (Some row) (write_of rows id)) ((bytes_eq-Decides id id).1 refl) in
    let less = one_has id old changes row (sym first ∙ changed id) in
    let rest = count rows (others id old) (others id changes) ascend.1 (λ other. by_id other (bytes_eq id other) refl) in
    omega (arith, less, rest)
  where
    by_id : (other : List ℕ) (b : Bool) → bytes_eq row.id other ≡ b
        → write_of rows other ≡ cond (is_some (write_of (others row.id changes) other)) (write_of (others row.id changes) other) (write_of (others row.id old) other)
    by_id other true alike =
        let one : row.id ≡ other = (bytes_eq-Decides row.id other).0 alike in
        ap (write_of rows) (sym one) ∙ none_above row.id rows ascend.0
        ∙ sym (ap (λ (x : List ℕ). cond (is_some (write_of (others row.id changes) x)) (write_of (others row.id changes) x) (write_of (others row.id old) x)) (sym one)
        ∙ rw (none row.id changes, none row.id old) refl)
    by_id other false apart =
        let left : write_of (row ∷ rows) other ≡ write_of rows other = rw apart refl in
        sym left ∙ changed other
        ∙ sym (rw (same row.id other changes apart, same row.id other old apart) refl)

pub count-changed : (rows old changes : List Write) → AscendById rows → AreChanged old changes rows → length rows ≤ length old + length changes
count-changed rows old changes ascend changed = count rows old changes (ascend-from rows ascend) changed
