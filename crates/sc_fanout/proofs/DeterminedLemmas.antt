-- Lists that ascend and have the same writes are one list, so the journals at its stops determine what a search shows.
use Rattle.std.proofs.Common.{◌≡◌, ℕ, zero, suc, List, [], ◌∷◌, length, map, take, drop, Contains, refl, sym, ap, ap₂, subst, ◌∙◌, ◌⊎◌, inl, inr, ⊎_elim, arith, Less, Equal, Greater, nat_cmp}
use Rattle.std.specs.Cmp.Lexicographic.{slice_cmp}
use Rattle.std.specs.List.{AllByRecursion}
use Rattle.std.specs.Ordering.{ordering_reverse}
use Rattle.std.proofs.lemmas.Cmp.{nat_list_cmp_total, tied_itself}
use Rattle.std.proofs.lemmas.Map.Keys.{sorted_head, sorted_tail}
use Rattle.sc_record.specs.Writes.{Write, AscendById}
use Rattle.sc_record.specs.declared.entry.Entry.{Entry}
use Rattle.sc_seen.specs.Seen.{Layout, Seen, journal_at}
use Rattle.sc_seen.specs.declared.stop.Stop.{Stop}
use Rattle.sc_fanout.specs.Searches.{IsFoundIn, IsFoundAtOne, Search}
use Rattle.sc_fanout.specs.SearchLaws.{SearchIsDetermined}

-- the id comes before the other
abbrev IsBelow : List ℕ → List ℕ → Type 0
IsBelow id other = slice_cmp nat_cmp id other ≡ Less

-- an id that comes before those of a list comes before that of each of its writes
below-member : (id : List ℕ) (ws : List Write) (v : Write) → AllByRecursion (IsBelow id) (map (λ (w : Write). w.id) ws) → Contains ws v
    → IsBelow id v.id
below-member id [] v all has = absurd (omega (arith, has.1))
below-member id (w ∷ ws) v all (zero, within, at) = subst (λ (x : Write). IsBelow id x.id) at all.0
below-member id (w ∷ ws) v all (suc k, within, at) = below-member id ws v all.1 (k, omega (arith, within), at)

-- no id comes before itself, nor before one that comes before it
not-itself : (id : List ℕ) → IsBelow id id → ⊥
not-itself id h = let both : Less ≡ Equal = sym h ∙ tied_itself nat_list_cmp_total id in cc

not-both : (id other : List ℕ) → IsBelow id other → IsBelow other id → ⊥
not-both id other h k =
    let both : Less ≡ Greater = sym h ∙ nat_list_cmp_total.antisymm id other ∙ ap ordering_reverse k in cc

-- the first of a list, or one of the others
first-or : (x : Write) (xs : List Write) (w : Write) → Contains (x ∷ xs) w → (x ≡ w) ⊎ Contains xs w
first-or x xs w (zero, within, at) = inl at
first-or x xs w (suc k, within, at) = inr (k, omega (arith, within), at)

first-in : (x : Write) (xs : List Write) → Contains (x ∷ xs) x
first-in x xs = (0, omega arith, refl)

later-in : (x : Write) (xs : List Write) (w : Write) → Contains xs w → Contains (x ∷ xs) w
later-in x xs w (k, within, at) = (suc k, omega (arith, within), at)

-- the writes of one list are among those of another
abbrev AreAmong : List Write → List Write → Type 0
AreAmong xs ys = (w : Write) → Contains xs w → Contains ys w

module _ (x : Write) (xs : List Write) (y : Write) (ys : List Write) (upx : AscendById (x ∷ xs)) (upy : AscendById (y ∷ ys)) where
  below_x : (w : Write) → Contains xs w → IsBelow x.id w.id
  below_x w has = below-member x.id xs w (sorted_head (slice_cmp nat_cmp) x.id (map (λ (v : Write). v.id) xs) upx) has

  below_y : (w : Write) → Contains ys w → IsBelow y.id w.id
  below_y w has = below-member y.id ys w (sorted_head (slice_cmp nat_cmp) y.id (map (λ (v : Write). v.id) ys) upy) has

  same-first : AreAmong (x ∷ xs) (y ∷ ys) → AreAmong (y ∷ ys) (x ∷ xs) → x ≡ y
  same-first to back =
      ⊎_elim
      (λ (is : y ≡ x). sym is)
      (λ (after : Contains ys x). ⊎_elim
      (λ (is : x ≡ y). is)
      (λ (before : Contains xs y). absurd (not-both x.id y.id (below_x y before) (below_y x after)))
      (first-or x xs y (back y (first-in y ys))))
      (first-or y ys x (to x (first-in x xs)))

  among-rest : x ≡ y → AreAmong (x ∷ xs) (y ∷ ys) → AreAmong xs ys
  among-rest is to w has =
      ⊎_elim
      (λ (first : y ≡ w). absurd (not-itself x.id (subst (λ (v : Write). IsBelow x.id v.id) (sym (is ∙ first)) (below_x w has))))
      (λ (rest : Contains ys w). rest)
      (first-or y ys w (to w (later-in x xs w has)))

same-members : (xs ys : List Write) → AscendById xs → AscendById ys → AreAmong xs ys → AreAmong ys xs → xs ≡ ys
same-members [] [] upx upy to back = refl
same-members [] (y ∷ ys) upx upy to back = absurd (omega (arith, (back y (first-in y ys)).1))
same-members (x ∷ xs) [] upx upy to back = absurd (omega (arith, (to x (first-in x xs)).1))
same-members (x ∷ xs) (y ∷ ys) upx upy to back =
    let first : x ≡ y = same-first x xs y ys upx upy to back in
    ap₂ (λ (w : Write) (ws : List Write). w ∷ ws) first
    (same-members xs ys (sorted_tail (slice_cmp nat_cmp) x.id (map (λ (v : Write). v.id) xs) upx)
    (sorted_tail (slice_cmp nat_cmp) y.id (map (λ (v : Write). v.id) ys) upy)
    (among-rest x xs y ys upx upy first to) (among-rest y ys x xs upy upx (sym first) back))

-- what a search finds where the journals at its stops are the same
found-same : (layout : Layout) (seen other : Seen) (search : Search) (write : Write)
    → ((stop : Stop) → Contains search.stops stop → journal_at seen stop ≡ journal_at other stop)
    → IsFoundAtOne layout seen search write → IsFoundAtOne layout other search write
found-same layout seen other search write same (stop, there, found) =
    (stop, there, subst (λ (journal : List Entry). IsFoundIn layout.first journal search.criterion search.route write) (same stop there) found)

pub search_determined : SearchIsDetermined
search_determined layout seen other_seen search one other same first second =
    let sorted : first.sorted ≡ second.sorted =
    same-members first.sorted second.sorted first.are_found.ascend second.are_found.ascend
    (λ write has. (second.are_found.exactly write).1 (found-same layout seen other_seen search write same ((first.are_found.exactly write).0 has)))
    (λ write has. (first.are_found.exactly write).1
    (found-same layout other_seen seen search write (λ stop there. sym (same stop there)) ((second.are_found.exactly write).0 has))) in (
      first.found_is ∙ ap (λ (ws : List Write). length ws) sorted ∙ sym second.found_is,
      λ start rows. first.docs_are ∙ ap₂ (λ (n m : ℕ). take n (drop m first.sorted)) rows start
          ∙ ap (λ (ws : List Write). take other.rows (drop other.start ws)) sorted ∙ sym second.docs_are,
    )
