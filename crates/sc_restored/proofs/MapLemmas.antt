-- The map after the entries up to one, with it.
use Rattle.std.proofs.Common.{◌≡◌, ◌∙◌, ℕ, ◌+◌, ◌<◌, List, [], ◌∷◌, ◌++◌, take, drop, length, get_or, filter_map, Option, Some, None, refl, sym, ap, subst}
use Rattle.std.specs.List.{cons_option}
use Rattle.std.specs.Prelude.{Result, Ok, Err, OnOk}
use Rattle.std.proofs.lemmas.List.{take-append-drop, drop_more}
use Rattle.sc_record.specs.declared.slice.SliceId.{SliceId}
use Rattle.sc_record.specs.declared.slice.SubSlice.{SubSlice}
use Rattle.sc_record.specs.declared.entry.Entry.{Entry}
use Rattle.sc_record.specs.declared.entry.Entry.TheVariants as entry
use Rattle.sc_cluster.specs.declared.slice.Slice.{Slice}
use Rattle.sc_cluster.specs.Slices.{forming}
use Rattle.sc_cluster.specs.Map.{IsMap}
use Rattle.sc_cluster.specs.Changes.{Change, after}
use Rattle.sc_cluster.specs.Histories.{AreAllowed}
use Rattle.sc_journal.specs.Legal.{IsLegal}
use Rattle.sc_journal.specs.Splits.{map_change_of, map_after}
use Rattle.sc_journal.proofs.GoneLemmas.{allowed-after}
use Rattle.sc_journal.proofs.SplitLemmas.{map_after-push, map_after-push_other}
use Rattle.sc_restored.specs.Course.{Allows, after_change, changed_by}
use Rattle.sc_restored.proofs.MarkLemmas.{taken_next}

-- the entries up to one, it, and those after it
parted : (journal : List Entry) (at : ℕ) (one : Entry) → at < length journal → one ≡ get_or journal at one
    → journal ≡ take at journal ++ one ∷ drop (at + 1) journal
parted journal at one below is =
    sym (take-append-drop at journal)
    ∙ ap (λ (rest : List Entry). take at journal ++ rest)
    (drop_more journal at one below ∙ ap (λ (e : Entry). e ∷ drop (at + 1) journal) (sym is))

-- the map after the entries up to one allows what it does
pub allows_next : (first : List Slice) (journal : List Entry) (at : ℕ) (one : Entry) (map : List Slice) → IsMap first → forming first ≡ []
    → IsLegal first journal → at < length journal → one ≡ get_or journal at one → map ≡ map_after first (take at journal) → Allows map one
allows_next first journal at one map is_map idle legal below is so_far =
    subst (λ (slices : List Slice). Allows slices one) (sym so_far) allows where
      before : List Entry
      before = take at journal

      rest : List Entry
      rest = drop (at + 1) journal

      allowed : AreAllowed (map_after first before) (cons_option (map_change_of one) (filter_map map_change_of rest))
      allowed = allowed-after first before (one ∷ rest) is_map idle (subst (IsLegal first) (parted journal at one below is) legal)

      allows : Allows (map_after first before) one
      allows change changes =
          (subst (λ (c : Option Change). AreAllowed (map_after first before) (cons_option c (filter_map map_change_of rest))) changes allowed).0

-- and is the next one by it
pub map_next : (first : List Slice) (journal : List Entry) (at : ℕ) (one : Entry) (map next : List Slice) → at < length journal
    → one ≡ get_or journal at one → map ≡ map_after first (take at journal) → next ≡ changed_by one map
    → next ≡ map_after first (take (at + 1) journal)
map_next first journal at one map next below is so_far changed =
    changed ∙ ap (changed_by one) so_far ∙ by (map_change_of one) refl ∙ ap (map_after first) (sym (taken_next journal at one below is)) where
      by : (change : Option Change) → map_change_of one ≡ change
          → after_change (map_change_of one) (map_after first (take at journal)) ≡ map_after first (take at journal ++ one ∷ [])
      by None none =
          ap (λ (c : Option Change). after_change c (map_after first (take at journal))) none
          ∙ sym (map_after-push_other first (take at journal) one none)
      by (Some change) some =
          ap (λ (c : Option Change). after_change c (map_after first (take at journal))) some
          ∙ sym (map_after-push first (take at journal) one change some)

-- an entry makes its change
pub changed_where : (one : Entry) (change : Change) (old : List Slice) → map_change_of one ≡ Some change → after old change ≡ changed_by one old
changed_where one change old is = sym (ap (λ (c : Option Change). after_change c old) is)

-- and any other none
pub changes_nothing : (one : Entry) (old : List Slice) → ((parent : SliceId) (subs : List SubSlice) → one ≡ entry.Begun parent subs → ⊥)
    → ((parent : SliceId) → one ≡ entry.Switched parent → ⊥) → ((parent : SliceId) → one ≡ entry.Failed parent → ⊥)
    → ((slice : SliceId) → one ≡ entry.Dropped slice → ⊥) → old ≡ changed_by one old
changes_nothing (entry.Write cell) old b s f d = refl
changes_nothing (entry.Settled place) old b s f d = refl
changes_nothing entry.Committed old b s f d = refl
changes_nothing (entry.Begun parent subs) old b s f d = absurd (b parent subs refl)
changes_nothing (entry.Switched parent) old b s f d = absurd (s parent refl)
changes_nothing (entry.Failed parent) old b s f d = absurd (f parent refl)
changes_nothing (entry.Dropped slice) old b s f d = absurd (d slice refl)
changes_nothing (entry.Down core) old b s f d = refl
changes_nothing (entry.Up core) old b s f d = refl
changes_nothing (entry.Led core) old b s f d = refl

-- what follows of a call that succeeds
pub where_ok : {T E : Type 0} {P Q : Type 0} (r : Result T E) → (P → Q) → OnOk r P → OnOk r Q
where_ok (Ok x) follows holds = follows holds
where_ok (Err e) follows holds = tt
