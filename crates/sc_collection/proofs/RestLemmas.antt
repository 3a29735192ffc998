-- Buckets at rest once the board has more entries, of those that it got since the collection was opened; and what nothing was opened means.
use Rattle.std.proofs.Common.{◌≡◌, ◌≤◌, ℕ, List, [], ◌∷◌, ◌++◌, length, drop, refl, sym, ap, ◌∙◌, subst, arith, length-append}
use Rattle.std.proofs.lemmas.List.{drop-append-le}
use Rattle.sc_record.specs.declared.entry.Entry.{Entry}
use Rattle.sc_seen.specs.declared.board.BoardEntry.{BoardEntry}
use Rattle.sc_seen.specs.Rounds.{Round, board_entries, bucket_entries, GoTogether}
use Rattle.sc_seen.specs.Seen.{opened_at, Opened, nothing_opened, Seen}
use Rattle.sc_seen.proofs.RoundLemmas.{GoTogether-more}
use Rattle.sc_collection.specs.Shapes.{SeesOpened}

-- the board's entries and those of a bucket's keeper go together still once each made those of one round more
pub GoTogether-since : (opened : ℕ) (round : Round) (entries : List BoardEntry) (own : List Entry) → opened ≤ length entries
    → GoTogether (drop opened entries) own → GoTogether (drop opened (entries ++ board_entries round)) (own ++ bucket_entries round)
GoTogether-since opened round entries own since together =
    subst (λ (es : List BoardEntry). GoTogether es (own ++ bucket_entries round)) (sym (drop-append-le opened entries (board_entries round) since))
    (GoTogether-more round (drop opened entries) own together)

-- more entries are as many at least
pub since-more : (opened : ℕ) (entries more : List BoardEntry) → opened ≤ length entries → opened ≤ length (entries ++ more)
since-more opened entries more since = omega (arith, since, length-append entries more)

-- nothing is in what was seen
pub record SeesNothing (seen : Seen) : Type 0 where
  pub journals : (lock : ℕ) → seen.journals lock ≡ []
  pub board : seen.board ≡ []
  pub own : (lock : ℕ) → seen.own lock ≡ []

none_of_none : {A : Type 0} (xs : List A) → length xs ≡ 0 → xs ≡ []
none_of_none [] none = refl
none_of_none (x ∷ xs) none = absurd (omega (arith, none))

-- so it is where nothing was opened
pub sees_nothing : (opened : Opened) (seen : Seen) → opened ≡ nothing_opened → SeesOpened opened seen → SeesNothing seen
sees_nothing opened seen none sees = record {
  journals = λ lock. none_of_none (seen.journals lock) (sees.journals lock ∙ ap (λ (one : Opened). opened_at one lock) none);
  board = none_of_none seen.board (sees.board ∙ ap (λ (one : Opened). one.board) none);
  own = sees.own;
}
