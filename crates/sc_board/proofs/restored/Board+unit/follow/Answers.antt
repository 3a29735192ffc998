-- With the entry the board has its map and its leaders.
use Rattle.std.proofs.Common.{◌∙◌, [], ◌∷◌, ◌++◌, ap}
use Rattle.sc_board.specs.declared.board.Board.{Board}
use Rattle.sc_board.specs.Kept.{BoardJournalState}
use Rattle.sc_board.proofs.FollowLemmas.{follows_noted}
use Rattle.sc_board.proofs.restored.Board+unit.follow.Goals as goal

pub returns-clause-follows : goal.returns-clause-follows
returns-clause-follows c =
    let others = c.in_ok-change.ensures.others in
    follows_noted c.args.self.now c.args.one _ c.requires.follows c.requires.may (record {
      first_is = ap (λ (b : Board (Unit {0})). b.first) others;
      limit_is = ap (λ (b : Board (Unit {0})). b.limit) others;
      entries = ap (λ (j : BoardJournalState). j.entries) c.append.ensures
          ∙ ap (λ (b : Board (Unit {0})). b.journal.entries ++ c.args.one ∷ []) others;
      map_is = c.in_ok-change.ensures.map;
    }) c.in_ok-change.ensures.leaders
