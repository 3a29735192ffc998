-- Each entry may come where it comes, and with the last of them the board is sound.
use Rattle.std.proofs.Common.{◌≡◌, ◌∙◌, ◌∷◌, ◌++◌, List, length, refl, sym, ap, subst, arith}
use Rattle.std.specs.Prelude.{is_some}
use Rattle.std.specs.Vec.Iter.{into_iter_items}
use Rattle.sc_journal.proofs.ListLemmas.{append-cons}
use Rattle.sc_cluster.specs.declared.slice.Slice.{Slice}
use Rattle.sc_cluster.specs.Slices.{greatest_id}
use Rattle.sc_seen.specs.Board.{MayNote, running_split}
use Rattle.sc_seen.specs.declared.board.BoardEntry.{BoardEntry}
use Rattle.sc_board.specs.Kept.{BoardJournalState}
use Rattle.sc_board.proofs.FollowLemmas.{follows_alike, room_whole, all_followed, restored_is_sound}
use Rattle.sc_board.proofs.restored.Board+unit.restored.Goals as goal

pub follow-requires-clause-may : goal.follow-requires-clause-may
follow-requires-clause-may c =
    let at = c.loop-one in
    let steps : into_iter_items at.one-iterator ≡ c.in-Some.one ∷ into_iter_items c.next.new.self = c.in-Some.ensures.steps.0 in
    let all = ap (λ (rest : List BoardEntry). at.board.journal.entries ++ rest) (sym steps) ∙ at.invariant.entries in
    subst (λ (first : List Slice). MayNote first at.board.journal.entries c.in-Some.one) (sym at.invariant.first_is)
    (c.requires.legal at.board.journal.entries c.in-Some.one (into_iter_items c.next.new.self) (sym all))

pub follow-requires-clause-room : goal.follow-requires-clause-room
follow-requires-clause-room c =
    let short = ap length c.in-Some.ensures.steps.0 in
    let room = c.loop-one.invariant.room in
    omega (arith, short, room)

pub loop-one-preserved : goal.loop-one-preserved
loop-one-preserved c =
    let at = c.loop-one in
    let one = c.in-Some.one in
    let steps : into_iter_items at.one-iterator ≡ one ∷ into_iter_items c.next.new.self = c.in-Some.ensures.steps.0 in
    let notes = c.in_ok-follow.ensures.noted in
    let short = ap length steps in
    record {
      follows = c.in_ok-follow.ensures.follows;
      first_is = notes.first_is ∙ at.invariant.first_is;
      limit_is = notes.limit_is ∙ at.invariant.limit_is;
      entries = ap (λ (entries : List BoardEntry). entries ++ into_iter_items c.next.new.self) notes.entries
          ∙ append-cons at.board.journal.entries one (into_iter_items c.next.new.self)
          ∙ ap (λ (rest : List BoardEntry). at.board.journal.entries ++ rest) (sym steps) ∙ at.invariant.entries;
      room = let was = at.invariant.room in let less = c.in_ok-follow.ensures.room in omega (arith, was, less, short);
      left = let was = at.invariant.left in let gone = c.in-Some.ensures.steps.1 in omega (arith, was, gone, short);
      keepers = c.in_ok-follow.ensures.keepers ∙ at.invariant.keepers;
    }

pub returns-clause-sound : goal.returns-clause-sound
returns-clause-sound c =
    let at = c.loop-one in
    let is = at.invariant in
    let ok = c.in_ok-reserve-2.ensures.ok in
    let same = ap (λ (j : BoardJournalState). j.entries) ok in
    let roomy = ap (λ (j : BoardJournalState). j.room) ok in
    let left = is.left in
    let none = c.in-None.ensures.steps.0 in
    let whole = same ∙ all_followed at.board.journal.entries (into_iter_items at.one-iterator) c.args.journal is.entries (omega (arith, left, none)) in
    let ids = c.requires.ids in
    let first = ap greatest_id is.first_is in
    let limit = c.requires.limit in
    let limit_is = is.limit_is in
    restored_is_sound _ (follows_alike at.board _ is.follows refl refl refl same) (omega (arith, ids, first)) (omega (arith, limit, limit_is))
    (ap running_split whole ∙ c.requires.idle)
    (room_whole c.args.limit at.board.limit c.args.first at.board.first _ c.args.journal c.requires.room limit_is is.first_is whole)
    c.inactive_slices.ensures (omega (arith, roomy)) (ap is_some is.keepers)
