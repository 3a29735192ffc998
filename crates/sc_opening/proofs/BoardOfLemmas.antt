-- What the board notes of what was done is legal, and has the slices of each bucket of which it was done.
use Rattle.std.proofs.Common.{◌≡◌, ◌+◌, List, [], ◌∷◌, ◌++◌, refl, sym, ap, ◌∙◌, subst, zero-add, arith, length, length-append, ◌≤◌, ◌*◌}
use Rattle.std.specs.List.{fold, count_by}
use Rattle.std.proofs.lemmas.List.{append-nil, append_assoc}
use Rattle.std.proofs.lemmas.Grind.{flat_map-append}
use Rattle.sc_record.specs.declared.slice.SliceId.{SliceId}
use Rattle.sc_record.specs.declared.entry.Entry.{Entry}
use Rattle.sc_record.specs.declared.entry.Entry.TheVariants as entry
use Rattle.sc_cluster.specs.declared.plan.SplitPlan.{SplitPlan}
use Rattle.sc_cluster.specs.declared.slice.Slice.{Slice}
use Rattle.sc_cluster.specs.Slices.{forming, is_inactive}
use Rattle.sc_cluster.specs.Map.{IsMap}
use Rattle.sc_cluster.specs.Changes.{Change as MapChange, after, IsInactive}
use Rattle.sc_cluster.specs.Plans.{IsPlan}
use Rattle.sc_cluster.proofs.UndoLemmas.{may_leave_recovery_out}
use Rattle.sc_journal.specs.Splits.{map_after}
use Rattle.sc_journal.specs.Legal.{MayBeSplit, MayBeDropped, IsLegal}
use Rattle.sc_journal.proofs.ListLemmas.{append-cons}
use Rattle.sc_journal.proofs.LegalLemmas.{IsLegal-prefix}
use Rattle.sc_journal.proofs.MapLemmas.{keeps_a_map}
use Rattle.sc_seen.specs.declared.board.BoardEntry.{BoardEntry}
use Rattle.sc_seen.specs.declared.board.BoardEntry.TheVariants as board
use Rattle.sc_seen.specs.Rounds.{GoTogether, board_entries, bucket_entries}
use Rattle.sc_seen.specs.Board.{board_map, board_owed, owed_after, MayNote, IsLegalBoard}
use Rattle.sc_seen.proofs.BoardLemmas.{board_map-append, IsLegalBoard-none, IsLegalBoard-push, boards_keep_a_map, boards_go_on, boards_owe_entries}
use Rattle.sc_seen.proofs.RoundLemmas.{GoTogether-more}
use Rattle.sc_opening.specs.declared.change.Change.{Change}
use Rattle.sc_opening.specs.declared.change.Change.TheVariants as change
use Rattle.sc_opening.specs.Changes.{round_of}
use Rattle.sc_opening.specs.Closed.{entries_of}
use Rattle.sc_opening.specs.Collections.{CanBeDone, board_of}
use Rattle.sc_opening.specs.Laws.{BoardsGoWithClosed}
use Rattle.sc_opening.proofs.ChangeLemmas.{entries_of-append}
use Rattle.sc_opening.proofs.CanLemmas.{map_of, map_of-append, open_split_of_entries}
use Rattle.sc_opening.proofs.ClosedLemmas.{closed_has_the_map}

board_of-append : (done more : List Change) → board_of (done ++ more) ≡ board_of done ++ board_of more
board_of-append done more = flat_map-append (λ (one : Change). board_entries (round_of one)) done more

-- it owes nothing of a split
owes_no_split : (done : List Change) → fold owed_after 0 (board_of done) ≡ 0
owes_no_split [] = refl
owes_no_split (change.Switched plan ∷ done) = owes_no_split done
owes_no_split (change.Dropped slice ∷ done) = owes_no_split done

-- how the board stands with a bucket once the same was done of both
pub record StandsWith (first : List Slice) (done : List Change) : Type 0 where
  pub legal : IsLegalBoard first (board_of done)
  pub map_is : board_map first (board_of done) ≡ map_of first done
  pub together : GoTogether (board_of done) (entries_of done)
  -- it has and owes no more than four entries a change, beside those that it owes at first
  pub few : length (board_of done) + board_owed first (board_of done) ≤ count_by is_inactive first + 4 * length done

-- where it stands so with what was done, and the board's entries of one change more may come and make the same of the slices
stands_with_more : (first : List Slice) (done : List Change) (one : Change) → StandsWith first done
    → IsLegalBoard first (board_of done ++ board_entries (round_of one))
    → board_map (map_of first done) (board_entries (round_of one)) ≡ map_after (map_of first done) (bucket_entries (round_of one))
    → length (board_of done ++ board_entries (round_of one)) + board_owed first (board_of done ++ board_entries (round_of one))
    ≤ length (board_of done) + board_owed first (board_of done) + 4
    → StandsWith first (done ++ one ∷ [])
stands_with_more first done one stands legal same few =
    let noted = board_entries (round_of one) in
    let made = bucket_entries (round_of one) in
    let of_board : board_of (done ++ one ∷ []) ≡ board_of done ++ noted =
    board_of-append done (one ∷ []) ∙ ap (λ (es : List BoardEntry). board_of done ++ es) (append-nil noted) in
    let of_bucket : entries_of (done ++ one ∷ []) ≡ entries_of done ++ made =
    entries_of-append done (one ∷ []) ∙ ap (λ (es : List Entry). entries_of done ++ es) (append-nil made) in
    record {
      legal = subst (IsLegalBoard first) (sym of_board) legal;
      map_is = ap (board_map first) of_board ∙ board_map-append first (board_of done) noted
          ∙ ap (λ slices. board_map slices noted) stands.map_is ∙ same
          ∙ ap (map_after (map_of first done)) (sym (append-nil made)) ∙ sym (map_of-append first done (one ∷ []));
      together = subst (λ (es : List BoardEntry). GoTogether es (entries_of (done ++ one ∷ []))) (sym of_board)
          (subst (GoTogether (board_of done ++ noted)) (sym of_bucket)
          (GoTogether-more (round_of one) (board_of done) (entries_of done) stands.together));
      few =
          let as_long = ap (λ (es : List BoardEntry). length es + board_owed first es) of_board in
          omega (arith, stands.few, few, as_long, length-append done (one ∷ []));
    }

stands_with_switched : (first : List Slice) (done : List Change) (plan : SplitPlan) → IsMap first → forming first ≡ []
    → IsPlan (map_of first done) plan.parent plan.subs → StandsWith first done → StandsWith first (done ++ change.Switched plan ∷ [])
stands_with_switched first done plan is_map idle may stands =
    let entries = board_of done in
    let parent = plan.parent in
    let begun : BoardEntry = board.Begun plan in
    let recovering : BoardEntry = board.Recovering parent in
    let ended : BoardEntry = board.Done parent in
    let on = boards_go_on first entries plan is_map idle in
    let may_begin : MayNote first entries begun = subst (λ slices. IsPlan slices parent plan.subs) (sym stands.map_is) may in
    let one = IsLegalBoard-push first entries begun stands.legal may_begin in
    let two = subst (IsLegalBoard first) (append-cons entries begun (recovering ∷ []))
    (IsLegalBoard-push first (entries ++ begun ∷ []) recovering one (on.0 one).0) in
    let three = subst (IsLegalBoard first) (append_assoc entries (begun ∷ recovering ∷ []) (ended ∷ []))
    (IsLegalBoard-push first (entries ++ begun ∷ recovering ∷ []) ended two (on.1 two).0) in
    let at_begun = (boards_owe_entries first entries plan parent 1 is_map idle stands.legal).0 may_begin in
    let at_recovering = (boards_owe_entries first (entries ++ begun ∷ []) plan parent 1 is_map idle one).1 (on.0 one).0 in
    let at_done = (boards_owe_entries first (entries ++ begun ∷ recovering ∷ []) plan parent 1 is_map idle two).2 (on.1 two).0 in
    let second = ap (board_owed first) (append-cons entries begun (recovering ∷ [])) in
    let third = ap (board_owed first) (append_assoc entries (begun ∷ recovering ∷ []) (ended ∷ [])) in
    stands_with_more first done (change.Switched plan) stands three
    (may_leave_recovery_out (after (map_of first done) (MapChange.Begun parent plan.subs)) parent (MapChange.Switched parent) refl)
    (omega (arith, at_begun, at_recovering, at_done, second, third, length-append entries (begun ∷ recovering ∷ ended ∷ [])))

stands_with_dropped : (first : List Slice) (done : List Change) (slice : SliceId) → IsMap first → forming first ≡ [] → CanBeDone first done
    → IsInactive (map_of first done) slice → StandsWith first done → StandsWith first (done ++ change.Dropped slice ∷ [])
stands_with_dropped first done slice is_map idle can may stands =
    let one : BoardEntry = board.Dropped slice in
    let none : forming (map_of first done) ≡ [] =
    (keeps_a_map first (entries_of done) is_map idle can).1 (open_split_of_entries done) in
    let may_drop : MayNote first (board_of done) one =
    (ap forming stands.map_is ∙ none, subst (λ slices. IsInactive slices slice) (sym stands.map_is) may) in
    let at_dropped = (boards_owe_entries first (board_of done) (record { parent = slice; subs = [] }) slice 1 is_map idle stands.legal).4 may_drop in
    stands_with_more first done (change.Dropped slice) stands (IsLegalBoard-push first (board_of done) one stands.legal may_drop) refl
    (omega (arith, at_dropped, length-append (board_of done) (one ∷ [])))

-- what can be done with one change more could be done without it
can_before : (first : List Slice) (done : List Change) (one : Change) (more : List Change) → CanBeDone first (done ++ one ∷ more)
    → CanBeDone first done × IsLegal first (entries_of done ++ (bucket_entries (round_of one) ++ entries_of more))
can_before first done one more can =
    let all : IsLegal first (entries_of done ++ (bucket_entries (round_of one) ++ entries_of more)) =
    subst (IsLegal first) (entries_of-append done (one ∷ more)) can in
    (IsLegal-prefix first (entries_of done) (bucket_entries (round_of one) ++ entries_of more) all, all)

stands_with_step : (first : List Slice) (done : List Change) (one : Change) (more : List Change) → IsMap first → forming first ≡ []
    → CanBeDone first (done ++ one ∷ more) → StandsWith first done → StandsWith first (done ++ one ∷ [])
stands_with_step first done (change.Switched plan) more is_map idle can stands =
    let begun : Entry = entry.Begun plan.parent plan.subs in
    let switched : Entry = entry.Switched plan.parent in
    let parts = can_before first done (change.Switched plan) more can in
    let may : MayBeSplit first (entries_of done) plan.parent plan.subs =
    parts.1 (entries_of done) begun (switched ∷ entries_of more) refl in
    stands_with_switched first done plan is_map idle may.plan stands
stands_with_step first done (change.Dropped slice) more is_map idle can stands =
    let parts = can_before first done (change.Dropped slice) more can in
    let may : MayBeDropped first (entries_of done) slice = parts.1 (entries_of done) (entry.Dropped slice) (entries_of more) refl in
    stands_with_dropped first done slice is_map idle parts.0 may.inactive stands

stands_with_all : (first : List Slice) (done more : List Change) → IsMap first → forming first ≡ [] → CanBeDone first (done ++ more)
    → StandsWith first done → StandsWith first (done ++ more)
stands_with_all first done [] is_map idle can stands = subst (StandsWith first) (sym (append-nil done)) stands
stands_with_all first done (one ∷ more) is_map idle can stands =
    let joined = append-cons done one more in
    subst (StandsWith first) joined
    (stands_with_all first (done ++ one ∷ []) more is_map idle (subst (CanBeDone first) (sym joined) can)
    (stands_with_step first done one more is_map idle can stands))

pub stands_with_done : (first : List Slice) (done : List Change) → IsMap first → forming first ≡ [] → CanBeDone first done → StandsWith first done
stands_with_done first done is_map idle can =
    stands_with_all first [] done is_map idle can
    (record { legal = IsLegalBoard-none first; map_is = refl; together = ([], refl, refl); few = omega arith })

pub board_takes : (first : List Slice) (done : List Change) → IsMap first → forming first ≡ [] → CanBeDone first done
    → length (board_of done) + board_owed first (board_of done) ≤ count_by is_inactive first + 4 * length done
board_takes first done is_map idle can = (stands_with_done first done is_map idle can).few

pub boards_go_with_closed : BoardsGoWithClosed
boards_go_with_closed first done is_map idle can =
    let stands = stands_with_done first done is_map idle can in
    let none : forming (board_map first (board_of done)) ≡ [] =
    ap forming stands.map_is ∙ (keeps_a_map first (entries_of done) is_map idle can).1 (open_split_of_entries done) in
    record {
      legal = stands.legal;
      rests = (boards_keep_a_map first (board_of done) is_map idle stands.legal).1.1 none;
      map_is = λ journal legal goes. stands.map_is ∙ sym (closed_has_the_map first journal done legal goes can);
      together = stands.together;
      owes = ap (λ n. n + count_by is_inactive (board_map first (board_of done))) (owes_no_split done)
          ∙ zero-add (count_by is_inactive (board_map first (board_of done)));
    }
