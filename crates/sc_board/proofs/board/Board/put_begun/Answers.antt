-- With the entry that begins a split a board is sound.
use Rattle.std.proofs.Common.{◌≡◌, ◌∙◌, ◌++◌, [], ◌∷◌, length, refl, ap, rules, arith}
use Rattle.std.proofs.lemmas.List.{length-map}
use Rattle.std.specs.Prelude.{replicate}
use Rattle.sc_cluster.specs.declared.plan.SplitPlan.{SplitPlan}
use Rattle.sc_cluster.specs.declared.slice.Slice.{Slice}
use Rattle.sc_seen.specs.Board.{board_map}
use Rattle.sc_seen.specs.declared.board.BoardEntry.TheVariants as board
use Rattle.sc_board.specs.Kept.{BoardJournalState}
use Rattle.sc_board.specs.Leaders.{leader_of}
use Rattle.sc_board.proofs.SoundLemmas.{sound_keepers, sound_begun}
use Rattle.sc_board.proofs.board.Board.put_begun.Goals as goal

pub unwrap-requires : goal.unwrap-requires
unwrap-requires g c = search (rules, sound_keepers c.args.self.now c.requires.sound c.requires.may.idle)

pub with_first-requires : goal.with_first-requires
with_first-requires g c =
    let old = c.args.self.now in
    let sound = c.requires.sound in
    let few = c.requires.may.few in
    let count = ap length (sound.leaders_are) in
    omega (arith, few, count, c.len.ensures, length-map (board_map old.first old.journal.entries) (λ (slice : Slice). leader_of old.journal.entries slice.id))

pub returns-clause-sound : goal.returns-clause-sound
returns-clause-sound g c =
    let old = c.args.self.now in
    let plan = c.args.plan.now in
    let same : c.in_ok-noted.noted ≡ plan = search rules in
    let reserved = c.in_ok-reserve.ensures.ok in
    let room = ap (λ (j : BoardJournalState). j.room) c.append.ensures in
    let room2 = ap (λ (j : BoardJournalState). j.room) reserved in
    sound_begun old plan _ c.requires.sound c.requires.may
    (record {
      first_is = refl;
      limit_is = refl;
      entries = ap (λ (j : BoardJournalState). j.entries) c.append.ensures
          ∙ ap (λ (j : BoardJournalState). j.entries ++ board.Begun c.in_ok-noted.noted ∷ []) reserved
          ∙ ap (λ (p : SplitPlan). old.journal.entries ++ board.Begun p ∷ []) same;
      map_is = c.in_ok-begin.ensures.ok;
    }) (c.in_ok-leaders.ensures ∙ ap (λ n. old.leaders ++ replicate n 1) c.len.ensures) c.requires.room refl (omega (arith, room, room2)) (search rules)
