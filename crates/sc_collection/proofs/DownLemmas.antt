-- Which nodes could not be reached while cores were noted as down: of no core, of some and then of others, and for what is seen later.
use Rattle.std.proofs.Common.{◌≡◌, inl, inr, ◌<◌, ℕ, List, [], ◌∷◌, ◌++◌, length, take, Option, Some, None, slice_get, refl, sym, ap, ◌∙◌, subst, arith, append_assoc, length-append}
use Rattle.std.specs.Prelude.{IfSome, filter_map}
use Rattle.std.specs.List.{AllByRecursion, cons_option}
use Rattle.std.specs.Option.{option_and_then}
use Rattle.std.proofs.lemmas.List.{append-nil, take-append-le}
use Rattle.std.proofs.lemmas.List.Elements.{filter_map-append}
use mathlib.Core.List.{IsPrefix}
use Rattle.sc_record.specs.declared.entry.Entry.{Entry}
use Rattle.sc_io.specs.Hosts.{Reached}
use Rattle.sc_journal.proofs.ListLemmas.{slice_get-append_left}
use Rattle.sc_seen.specs.Seen.{Layout, Seen, SeesMore, journal_at}
use Rattle.sc_seen.specs.declared.stop.Stop.{Stop}
use Rattle.sc_collection.specs.Downs.{IsSublist, downed, node_in, node_down, NotesDowns}

-- ---- sublists
-- what is a sublist is one with more before
skips : {A : Type 0} (some before all : List A) → IsSublist some all → IsSublist some (before ++ all)
skips [] before all is = tt
skips (one ∷ some) [] all is = is
skips (one ∷ some) (other ∷ before) all is = inr (skips (one ∷ some) before all is)

-- and two after each other are one of both
joins : {A : Type 0} (some all more rest : List A) → IsSublist some all → IsSublist more rest → IsSublist (some ++ more) (all ++ rest)
joins [] all more rest is next = skips more all rest next
joins (one ∷ some) [] more rest is next = absurd is
joins (one ∷ some) (other ∷ all) more rest (inl (same, is)) next = inl (same, joins some all more rest is next)
joins (one ∷ some) (other ∷ all) more rest (inr is) next = inr (joins (one ∷ some) all more rest is next)

-- ---- the cores that were noted
-- nothing was noted, and nothing failed
pub NotesDowns-none : (layout : Layout) (seen : Seen) (reached : Reached) → NotesDowns layout seen [] reached reached
NotesDowns-none layout seen reached = record {
  failed = [];
  count = omega arith;
  steady = λ none. refl;
  told = told reached.nodes refl;
  few = omega arith;
  among = tt;
} where
  told : (one : Option (List ℕ)) → reached.nodes ≡ one → IfSome one (λ nodes. reached.nodes ≡ Some (nodes ++ []))
  told None at = tt
  told (Some nodes) at = at ∙ ap (λ (all : List ℕ). Some all) (sym (append-nil nodes))

-- neither of two has anything where both together have nothing
none_of_both : (one other : List ℕ) → one ++ other ≡ [] → (one ≡ []) × (other ≡ [])
none_of_both [] other none = (refl, none)
none_of_both (x ∷ one) other none = absurd (cc)

-- some were noted, and then others
pub NotesDowns-then : (layout : Layout) (seen : Seen) (downs more : List Stop) (old between new : Reached)
    → NotesDowns layout seen downs old between → NotesDowns layout seen more between new → NotesDowns layout seen (downs ++ more) old new
NotesDowns-then layout seen downs more old between new one two = record {
  failed = one.failed ++ two.failed;
  count = omega (arith, one.count, two.count, length-append one.failed two.failed);
  steady = λ none. let both = none_of_both one.failed two.failed none in two.steady both.1 ∙ one.steady both.0;
  told = told old.nodes one.told;
  few = omega (arith, one.few, two.few, length-append downs more, length-append one.failed two.failed);
  among = subst (λ (nodes : List ℕ). IsSublist nodes (one.failed ++ two.failed)) (sym (filter_map-append (node_down layout seen) downs more))
      (joins (filter_map (node_down layout seen) downs) one.failed (filter_map (node_down layout seen) more) two.failed one.among two.among);
} where
  told : (was : Option (List ℕ)) → IfSome was (λ nodes. between.nodes ≡ Some (nodes ++ one.failed))
      → IfSome was (λ nodes. new.nodes ≡ Some (nodes ++ (one.failed ++ two.failed)))
  told None tells = tt
  told (Some nodes) tells =
      subst (λ (now : Option (List ℕ)). IfSome now (λ all. new.nodes ≡ Some (all ++ two.failed))) tells two.told
      ∙ ap (λ (all : List ℕ). Some all) (append_assoc nodes one.failed two.failed)

-- ---- what is seen later
-- the entry of the stop was seen
abbrev pub IsSeenStop : Seen → Stop → Type 0
IsSeenStop seen stop = stop.place < length (seen.journals stop.lock)

-- the node of the core that the stop noted is the same
node-later : (layout : Layout) (seen later : Seen) (down : Stop) → SeesMore seen later → IsSeenStop seen down
    → node_down layout later down ≡ node_down layout seen down
node-later layout seen later down more within =
    ap (λ (found : Option Entry). option_and_then (node_in layout (journal_at later down)) (option_and_then downed found)) same_entry
    ∙ ap (λ (journal : List Entry). option_and_then (node_in layout journal) (option_and_then downed (slice_get was down.place))) same_journal
  where
    was : List Entry
    was = seen.journals down.lock

    grown : IsPrefix was (later.journals down.lock)
    grown = more.journals down.lock

    same_entry : slice_get (later.journals down.lock) down.place ≡ slice_get was down.place
    same_entry =
        ap (λ (all : List Entry). slice_get all down.place) (sym grown.1) ∙ slice_get-append_left was grown.0 down.place within

    same_journal : take down.place (later.journals down.lock) ≡ take down.place was
    same_journal =
        ap (take down.place) (sym grown.1) ∙ take-append-le down.place was grown.0 (omega (arith, within))

nodes-later : (layout : Layout) (seen later : Seen) (downs : List Stop) → SeesMore seen later → AllByRecursion (IsSeenStop seen) downs
    → filter_map (node_down layout later) downs ≡ filter_map (node_down layout seen) downs
nodes-later layout seen later [] more within = refl
nodes-later layout seen later (down ∷ downs) more within =
    ap (λ (node : Option ℕ). cons_option node (filter_map (node_down layout later) downs)) (node-later layout seen later down more within.0)
    ∙ ap (cons_option (node_down layout seen down)) (nodes-later layout seen later downs more within.1)

-- what was noted stands for what is seen later
pub NotesDowns-later : (layout : Layout) (seen later : Seen) (downs : List Stop) (old new : Reached) → SeesMore seen later
    → AllByRecursion (IsSeenStop seen) downs → NotesDowns layout seen downs old new → NotesDowns layout later downs old new
NotesDowns-later layout seen later downs old new more within notes = record {
  failed = notes.failed;
  count = notes.count;
  steady = notes.steady;
  told = notes.told;
  few = notes.few;
  among = subst (λ (nodes : List ℕ). IsSublist nodes notes.failed) (sym (nodes-later layout seen later downs more within)) notes.among;
}
