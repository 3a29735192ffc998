-- How a keeper's entries go with those of the board, round by round.
use Rattle.std.proofs.Common.{◌≡◌, true, false, List, [], ◌∷◌, ◌++◌, refl, ap, ◌∙◌}
use Rattle.std.specs.List.{filter}
use Rattle.std.proofs.lemmas.List.{append-nil, flat_map_more}
use Rattle.std.proofs.lemmas.List.Elements.{filter-append}
use Rattle.sc_record.specs.declared.entry.Entry.{Entry}
use Rattle.sc_seen.specs.declared.board.BoardEntry.{BoardEntry}
use Rattle.sc_seen.specs.Rounds.{Round, done, failed, dropped, board_entries, bucket_entries, is_of_rounds, notes_rounds, GoTogether}

-- all entries of a round are of rounds
board_entries-notes : (round : Round) → filter notes_rounds (board_entries round) ≡ board_entries round
board_entries-notes (done plan) = refl
board_entries-notes (failed plan true begun) = refl
board_entries-notes (failed plan false begun) = refl
board_entries-notes (dropped slice) = refl

bucket_entries-rounds : (round : Round) → filter is_of_rounds (bucket_entries round) ≡ bucket_entries round
bucket_entries-rounds (done plan) = refl
bucket_entries-rounds (failed plan recovered true) = refl
bucket_entries-rounds (failed plan recovered false) = refl
bucket_entries-rounds (dropped slice) = refl

-- those that each of them made in a round go with one another
pub GoTogether-more : (round : Round) (entries : List BoardEntry) (own : List Entry) → GoTogether entries own
    → GoTogether (entries ++ board_entries round) (own ++ bucket_entries round)
GoTogether-more round entries own (before, of_board, of_bucket) = (
  before ++ round ∷ [],
  filter-append notes_rounds entries (board_entries round)
      ∙ ap (λ (es : List BoardEntry). filter notes_rounds entries ++ es) (board_entries-notes round)
      ∙ ap (λ (es : List BoardEntry). es ++ board_entries round) of_board ∙ flat_map_more board_entries [] before round,
  filter-append is_of_rounds own (bucket_entries round)
      ∙ ap (λ (es : List Entry). filter is_of_rounds own ++ es) (bucket_entries-rounds round)
      ∙ ap (λ (es : List Entry). es ++ bucket_entries round) of_bucket ∙ flat_map_more bucket_entries [] before round,
)

-- those that are of no round make no difference
pub GoTogether-apart : (entries more : List BoardEntry) (own added : List Entry) → filter notes_rounds more ≡ []
    → filter is_of_rounds added ≡ [] → GoTogether entries own → GoTogether (entries ++ more) (own ++ added)
GoTogether-apart entries more own added none_noted none_made (rounds, of_board, of_bucket) = (
  rounds,
  filter-append notes_rounds entries more ∙ ap (λ (es : List BoardEntry). filter notes_rounds entries ++ es) none_noted
      ∙ append-nil (filter notes_rounds entries) ∙ of_board,
  filter-append is_of_rounds own added ∙ ap (λ (es : List Entry). filter is_of_rounds own ++ es) none_made
      ∙ append-nil (filter is_of_rounds own) ∙ of_bucket,
)
