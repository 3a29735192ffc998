-- What a legal journal makes of the slices.
use Rattle.std.proofs.Common.{◌≡◌, List, [], ◌∷◌, ◌++◌, Some, None, Option, refl, sym, ◌∙◌, subst}
use Rattle.sc_record.specs.declared.slice.SliceId.{SliceId}
use Rattle.sc_record.specs.declared.entry.Entry.{Entry}
use Rattle.sc_record.specs.declared.entry.Entry.TheVariants as entry
use Rattle.sc_cluster.specs.declared.slice.Slice.{Slice}
use Rattle.sc_cluster.specs.Slices.{forming}
use Rattle.sc_cluster.specs.Map.{IsMap}
use Rattle.sc_cluster.specs.Changes.{Change, after, IsBeingSplit}
use Rattle.sc_cluster.proofs.MapLemmas.{change_is_map, begun_is_split, switched_is_idle, failed_is_idle, dropped_is_idle}
use Rattle.sc_journal.specs.Splits.{map_change_of, map_after, split_after, open_split}
use Rattle.sc_journal.specs.Legal.{MayFollow, IsLegal}
use Rattle.sc_journal.specs.Laws.{JournalsKeepAMap}
use Rattle.sc_journal.proofs.SplitLemmas.{map_after-push, map_after-left, open_split-push, open_split-left, LeavesSlices, LeavesSlices-write, LeavesSlices-settled, LeavesSlices-committed, LeavesSlices-down, LeavesSlices-up, LeavesSlices-led}
use Rattle.sc_journal.proofs.LegalLemmas.{legal_induction}

-- the slices are a map, and those that are being made are those of the open split
pub record FitsSplit (slices : List Slice) (split : Option SliceId) : Type 0 where
  pub is_map : IsMap slices
  pub idle : split ≡ None → forming slices ≡ []
  pub splitting : (parent : SliceId) → split ≡ Some parent → IsBeingSplit slices parent

-- so they do after an entry that changes the map
fits_change : (first : List Slice) (journal : List Entry) (one : Entry) (change : Change) (split : Option SliceId)
    → map_change_of one ≡ Some change → split_after (open_split journal) one ≡ split
    → FitsSplit (after (map_after first journal) change) split
    → FitsSplit (map_after first (journal ++ one ∷ [])) (open_split (journal ++ one ∷ []))
fits_change first journal one change split is ends fits =
    subst (λ slices. FitsSplit slices (open_split (journal ++ one ∷ [])))
    (sym (map_after-push first journal one change is))
    (subst (FitsSplit (after (map_after first journal) change)) (sym (open_split-push journal one ∙ ends)) fits)

-- and after one that doesn't
fits_left : (first : List Slice) (journal : List Entry) (one : Entry) → LeavesSlices one
    → FitsSplit (map_after first journal) (open_split journal)
    → FitsSplit (map_after first (journal ++ one ∷ [])) (open_split (journal ++ one ∷ []))
fits_left first journal one leaves fits =
    subst (λ slices. FitsSplit slices (open_split (journal ++ one ∷ [])))
    (sym (map_after-left first journal one leaves))
    (subst (FitsSplit (map_after first journal)) (sym (open_split-left journal one leaves)) fits)

-- where no split is open
fits_idle : (slices : List Slice) → IsMap slices → forming slices ≡ [] → FitsSplit slices None
fits_idle slices is_map idle = record { is_map = is_map; idle = λ _. idle; splitting = λ parent is. absurd (cc) }

-- a split that begins
fits_begun : (slices : List Slice) (parent : SliceId) → IsMap slices → IsBeingSplit slices parent
    → FitsSplit slices (Some parent)
fits_begun slices parent is_map split = record {
  is_map = is_map;
  idle = λ is. absurd (cc);
  splitting = λ other is. let same : parent ≡ other = cc in subst (IsBeingSplit slices) same split;
}

fits_push : (first : List Slice) (journal : List Entry) (one : Entry) → IsLegal first journal
    → MayFollow first journal one → FitsSplit (map_after first journal) (open_split journal)
    → FitsSplit (map_after first (journal ++ one ∷ [])) (open_split (journal ++ one ∷ []))
fits_push first journal (entry.Write cell) legal may fits =
    fits_left first journal (entry.Write cell) (LeavesSlices-write cell) fits
fits_push first journal (entry.Settled place) legal may fits =
    fits_left first journal (entry.Settled place) (LeavesSlices-settled place) fits
fits_push first journal entry.Committed legal may fits =
    fits_left first journal entry.Committed LeavesSlices-committed fits
fits_push first journal (entry.Begun parent subs) legal may fits =
    let slices = map_after first journal in
    let change : Change = Change.Begun parent subs in
    fits_change first journal (entry.Begun parent subs) change (Some parent) refl refl
    (fits_begun (after slices change) parent (change_is_map slices change fits.is_map may.plan)
    (begun_is_split slices parent subs fits.is_map may.plan))
fits_push first journal (entry.Switched parent) legal may fits =
    let slices = map_after first journal in
    let change : Change = Change.Switched parent in
    fits_change first journal (entry.Switched parent) change None refl refl
    (fits_idle (after slices change) (change_is_map slices change fits.is_map (fits.splitting parent may))
    (switched_is_idle slices parent))
fits_push first journal (entry.Failed parent) legal may fits =
    let slices = map_after first journal in
    let change : Change = Change.Failed parent in
    fits_change first journal (entry.Failed parent) change None refl refl
    (fits_idle (after slices change) (change_is_map slices change fits.is_map (fits.splitting parent may))
    (failed_is_idle slices parent))
fits_push first journal (entry.Dropped slice) legal may fits =
    let slices = map_after first journal in
    let change : Change = Change.Dropped slice in
    let idle = fits.idle may.idle in
    fits_change first journal (entry.Dropped slice) change None refl may.idle
    (fits_idle (after slices change) (change_is_map slices change fits.is_map (idle, may.inactive))
    (dropped_is_idle slices slice idle))
fits_push first journal (entry.Down core) legal may fits =
    fits_left first journal (entry.Down core) (LeavesSlices-down core) fits
fits_push first journal (entry.Up core) legal may fits =
    fits_left first journal (entry.Up core) (LeavesSlices-up core) fits
fits_push first journal (entry.Led core) legal may fits =
    fits_left first journal (entry.Led core) (LeavesSlices-led core) fits

-- the slices after a legal journal fit its open split
pub legal_fits : (first : List Slice) (journal : List Entry) → IsMap first → forming first ≡ [] → IsLegal first journal
    → FitsSplit (map_after first journal) (open_split journal)
legal_fits first journal is_map idle legal =
    legal_induction first (λ j. FitsSplit (map_after first j) (open_split j)) (fits_idle first is_map idle)
    (fits_push first) journal legal

pub keeps_a_map : JournalsKeepAMap
keeps_a_map first journal is_map idle legal =
    let fits = legal_fits first journal is_map idle legal in
    (fits.is_map, fits.idle, fits.splitting)
