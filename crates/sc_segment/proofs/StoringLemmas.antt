-- An index that is written with places for its keys, among stored keys.
use Rattle.std.proofs.Common.{◌≡◌, ℕ, ◌+◌, ◌-◌, ◌<◌, Bool, cond, List, [], ◌∷◌, ◌++◌, All, length, slice_get, Option, Some, option_map, unwrap_or, refl, sym, ap, subst, ◌∙◌, arith}
use Rattle.std.proofs.lemmas.Cmp.{alike_right, tied_itself}
use Rattle.std.proofs.lemmas.List.{map-append}
use Rattle.std.proofs.lemmas.List.Elements.{All-nil, All-cons, All-head, All-tail, All-append, filter_map-append}
use Rattle.std.proofs.lemmas.Option.{slice_get_within}
use Rattle.std.specs.Cmp.{IsTotalOrder}
use Rattle.std.specs.declared.cmp.Ordering.{Ordering}
use Rattle.std.specs.declared.cmp.Ordering.TheVariants.{Less, Equal}
use Rattle.std.specs.List.{AllByRecursion, cons_option, slice_range}
use Rattle.std.specs.List.Sorted.{IsStrictlyIncreasing, IsStrictlySortedBy}
use Rattle.std.specs.Map.{keys_of, lookup}
use Rattle.std.specs.Ordering.{is_eq}
use Rattle.sc_keys.proofs.StoringLemmas.{IsWithin, found-within, keys_at-cons, length-keys_at, length-alike}
use Rattle.sc_keys.specs.Storing.{keys_at, ArePlaces, AreAlike}
use Rattle.sc_rows.specs.Joining.{has_row}
use Rattle.sc_segment.proofs.EntryLemmas.{HasEntryMore}
use Rattle.sc_segment.specs.Carrying.{IsCarried, IsCarriedSoFar}
use Rattle.sc_segment.specs.Flat.{entries_from, entry_for}
use Rattle.sc_segment.specs.Index.{HasRows}
use Rattle.sc_segment.specs.Storing.{entries_of_places, AreEntriesAlike, IsCarriedAt}

-- ---- entries
module _ {K : Type 0} (stored : List K) where
  -- the keys are those at the places, and the rows are the same
  pub entries_of_places-flat : (from : ℕ) (ps ends rows : List ℕ) → ArePlaces stored ps → entries_of_places stored (entries_from from ps ends rows) ≡ entries_from from (keys_at stored ps) ends rows
  entries_of_places-flat from [] ends rows are = refl
  entries_of_places-flat from (p ∷ ps) [] rows are =
      let here = found-within stored p (All-head (IsWithin stored) p ps are) in
      sym (ap (λ (ks : List K). entries_from from ks [] rows) (keys_at-cons stored p ps here.0 here.1))
  entries_of_places-flat from (p ∷ ps) (e ∷ es) rows are =
      let here = found-within stored p (All-head (IsWithin stored) p ps are) in
      ap (λ (o : Option K). cons_option (option_map (λ (k : K). (k, slice_range rows from e)) o) (entries_of_places stored (entries_from e ps es rows))) here.1
      ∙ ap (λ (xs : List (K × List ℕ)). (here.0, slice_range rows from e) ∷ xs) (entries_of_places-flat e ps es rows (All-tail (IsWithin stored) p ps are))
      ∙ sym (ap (λ (ks : List K). entries_from from ks (e ∷ es) rows) (keys_at-cons stored p ps here.0 here.1))

  -- an entry put at the end
  entries_of_places-put : (entries : List (ℕ × List ℕ)) (place : ℕ) (rows : List ℕ) (key : K) → slice_get stored place ≡ Some key
      → entries_of_places stored (entries ++ entry_for place rows) ≡ entries_of_places stored entries ++ entry_for key rows
  entries_of_places-put entries place rows key found =
      filter_map-append (λ (e : ℕ × List ℕ). option_map (λ (k : K). (k, e.1)) (slice_get stored e.0)) entries (entry_for place rows)
      ∙ ap (λ (es : List (K × List ℕ)). entries_of_places stored entries ++ es) (one rows)
    where
      one : (rs : List ℕ) → entries_of_places stored (entry_for place rs) ≡ entry_for key rs
      one [] = refl
      one (r ∷ rs) = ap (λ (o : Option K). cons_option (option_map (λ (k : K). (k, r ∷ rs)) o) []) found

  places-put : (entries : List (ℕ × List ℕ)) (place : ℕ) (rows : List ℕ) → place < length stored → ArePlaces stored (keys_of entries) → ArePlaces stored (keys_of (entries ++ entry_for place rows))
  places-put entries place rows within are =
      subst (All (IsWithin stored)) (sym (map-append (λ (e : ℕ × List ℕ). e.0) entries (entry_for place rows)))
      (All-append (IsWithin stored) (keys_of entries) (keys_of (entry_for place rows)) are (one rows))
    where
      one : (rs : List ℕ) → All (IsWithin stored) (keys_of (entry_for place rs))
      one [] = All-nil (IsWithin stored)
      one (r ∷ rs) = All-cons (IsWithin stored) place [] within (All-nil (IsWithin stored))

  module _ {order : K → K → Ordering} (o : IsTotalOrder order) where
    more-put : (key : K) (rows : List ℕ) (old new : List (K × List ℕ)) → new ≡ old ++ entry_for key rows → HasEntryMore o key rows old new
    more-put key [] old new is = ([], is, refl)
    more-put key (r ∷ rs) old new is = ((key, r ∷ rs) ∷ [], is, (tied_itself o key, refl, omega arith))

    -- one entry more is carried, as what is said of its key shows
    pub carried_at-put : (moved : List (Option ℕ)) (old added old' added' : List (K × List ℕ)) (now next : List (ℕ × List ℕ)) (place : ℕ) (rows : List ℕ) (key : K)
        → slice_get stored place ≡ Some key → next ≡ now ++ entry_for place rows → IsCarriedAt order stored moved old added now
        → ((later : List (K × List ℕ)) → HasEntryMore o key rows (entries_of_places stored now) later → IsCarriedSoFar order moved old' added' later)
        → IsCarriedAt order stored moved old' added' next
    carried_at-put moved old added old' added' now next place rows key found is so_far step =
        subst (IsCarriedAt order stored moved old' added') (sym is) (record {
          are_places = places-put now place rows (slice_get_within stored place key found) so_far.are_places;
          so_far = step (entries_of_places stored (now ++ entry_for place rows))
              (more-put key rows (entries_of_places stored now) (entries_of_places stored (now ++ entry_for place rows)) (entries_of_places-put now place rows key found));
        })

-- ---- entries that are alike
module _ {K : Type 0} (order : K → K → Ordering) where
  entries-alike : (from : ℕ) (ks ls : List K) (ends rows : List ℕ) → AreAlike order ks ls → AreEntriesAlike order (entries_from from ks ends rows) (entries_from from ls ends rows)
  entries-alike from [] [] ends rows alike = tt
  entries-alike from [] (l ∷ ls) ends rows alike = absurd alike
  entries-alike from (k ∷ ks) [] ends rows alike = absurd alike
  entries-alike from (k ∷ ks) (l ∷ ls) [] rows alike = tt
  entries-alike from (k ∷ ks) (l ∷ ls) (e ∷ es) rows alike = (alike.0, refl, entries-alike e ks ls es rows alike.1)

  -- entries whose keys compare equal to those at the places
  pub entries_of_places-alike : (stored : List K) (ps ps' ends ends' rows rows' : List ℕ) (entries : List (ℕ × List ℕ)) (keys : List K) → entries_from 0 ps ends rows ≡ entries
      → ps' ≡ ps → ends' ≡ ends → rows' ≡ rows → ArePlaces stored ps' → AreAlike order (keys_at stored ps') keys → AreEntriesAlike order (entries_of_places stored entries) (entries_from 0 keys ends' rows')
  entries_of_places-alike stored ps ps' ends ends' rows rows' entries keys laid as_ps as_ends as_rows are alike =
      let flat : entries_of_places stored entries ≡ entries_from 0 (keys_at stored ps') ends' rows' =
      ap (entries_of_places stored) (sym laid)
      ∙ ap (λ (qs : List ℕ). entries_of_places stored (entries_from 0 qs ends rows)) (sym as_ps)
      ∙ entries_of_places-flat stored 0 ps' ends rows are
      ∙ ap (λ (es : List ℕ). entries_from 0 (keys_at stored ps') es rows) (sym as_ends)
      ∙ ap (λ (rs : List ℕ). entries_from 0 (keys_at stored ps') ends' rs) (sym as_rows) in
      subst (λ (es : List (K × List ℕ)). AreEntriesAlike order es (entries_from 0 keys ends' rows')) (sym flat) (entries-alike 0 (keys_at stored ps') keys ends' rows' alike)

  -- there are as many keys as ends
  pub as_long-alike : (stored : List K) (ps ps' ends ends' : List ℕ) (keys : List K) → length ps ≡ length ends → ps' ≡ ps → ends' ≡ ends → ArePlaces stored ps'
      → AreAlike order (keys_at stored ps') keys → length keys ≡ length ends'
  as_long-alike stored ps ps' ends ends' keys same as_ps as_ends are alike =
      length-alike order (keys_at stored ps') keys alike
      ∙ length-keys_at stored ps' are
      ∙ ap length as_ps
      ∙ same
      ∙ sym (ap length as_ends)

module _ {K : Type 0} {order : K → K → Ordering} (o : IsTotalOrder order) where
  less-alike : (x y : K) (es fs : List (K × List ℕ)) → order x y ≡ Equal → AreEntriesAlike order es fs → AllByRecursion (λ z. order x z ≡ Less) (keys_of es)
      → AllByRecursion (λ z. order y z ≡ Less) (keys_of fs)
  less-alike x y [] [] equal alike less = tt
  less-alike x y [] (f ∷ fs) equal alike less = absurd alike
  less-alike x y (e ∷ es) [] equal alike less = absurd alike
  less-alike x y (e ∷ es) (f ∷ fs) equal alike less =
      (sym (o.congr x y f.0 equal) ∙ sym (alike_right o e.0 f.0 x alike.0) ∙ less.0, less-alike x y es fs equal alike.2 less.1)

  sorted-alike : (es fs : List (K × List ℕ)) → AreEntriesAlike order es fs → IsStrictlySortedBy order (keys_of es) → IsStrictlySortedBy order (keys_of fs)
  unfolding IsStrictlySortedBy
  sorted-alike [] [] alike sorted = sorted
  sorted-alike [] (f ∷ fs) alike sorted = absurd alike
  sorted-alike (e ∷ es) [] alike sorted = absurd alike
  sorted-alike (e ∷ es) (f ∷ fs) alike sorted = (less-alike e.0 f.0 es fs alike.0 alike.2 sorted.0, sorted-alike es fs alike.2 sorted.1)

  rows-alike : (es fs : List (K × List ℕ)) → AreEntriesAlike order es fs → All HasRows es → All HasRows fs
  rows-alike [] [] alike all = all
  rows-alike [] (f ∷ fs) alike all = absurd alike
  rows-alike (e ∷ es) [] alike all = absurd alike
  rows-alike (e ∷ es) (f ∷ fs) alike all =
      All-cons HasRows f fs (subst (λ (rs : List ℕ). (0 < length rs) × IsStrictlyIncreasing rs) alike.1 (All-head HasRows e es all))
      (rows-alike es fs alike.2 (All-tail HasRows e es all))

  lookup-alike : (q : K) (es fs : List (K × List ℕ)) → AreEntriesAlike order es fs → lookup (λ k. is_eq (order q k)) es ≡ lookup (λ k. is_eq (order q k)) fs
  lookup-alike q [] [] alike = refl
  lookup-alike q [] (f ∷ fs) alike = absurd alike
  lookup-alike q (e ∷ es) [] alike = absurd alike
  lookup-alike q (e ∷ es) (f ∷ fs) alike =
      ap (λ (b : Bool). cond b (Some e.1) (lookup (λ k. is_eq (order q k)) es)) (ap is_eq (alike_right o e.0 f.0 q alike.0))
      ∙ ap (λ (rs : List ℕ). cond (is_eq (order q f.0)) (Some rs) (lookup (λ k. is_eq (order q k)) es)) alike.1
      ∙ ap (λ (r : Option (List ℕ)). cond (is_eq (order q f.0)) (Some f.1) r) (lookup-alike q es fs alike.2)

  -- an index whose keys compare equal one by one is carried as well
  pub carried-alike : (moved : List (Option ℕ)) (old added es fs : List (K × List ℕ)) → AreEntriesAlike order es fs → IsCarried order moved old added es → IsCarried order moved old added fs
  carried-alike moved old added es fs alike is = record {
    in_order = record { keys = sorted-alike es fs alike is.in_order.keys; rows = rows-alike es fs alike is.in_order.rows };
    members = λ key row. ap (λ (r : Option (List ℕ)). has_row (unwrap_or r []) row) (sym (lookup-alike key es fs alike)) ∙ is.members key row;
  }
