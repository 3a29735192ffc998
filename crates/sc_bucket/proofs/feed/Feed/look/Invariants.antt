-- The count is a blank one.
use Rattle.sc_bucket.proofs.feed.Feed.look.Given as goal

abbrev pub ghosts-is_within_at : goal.ghosts-is_within_at
ghosts-is_within_at a = record { name = a.blank.name; parts = a.blank.parts }
