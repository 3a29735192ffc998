-- With the entry that commits a bucket is sound, whose searchers are at the journal's end.
use Rattle.std.proofs.Common.{◌∙◌, ◌-◌, ◌∷◌, [], ◌++◌, sym, ap, subst}
use Rattle.sc_record.specs.declared.entry.Entry.TheVariants as entry
use Rattle.sc_bucket.specs.Events.{Commits}
use Rattle.sc_replicas.specs.Searchers.{AreMoved}
use Rattle.sc_bucket.specs.Sound.{IsSound}
use Rattle.sc_bucket.specs.declared.bucket.Bucket.{Bucket}
use Rattle.sc_bucket.proofs.MovingLemmas.{committed-moved}
use Rattle.sc_bucket.proofs.bucket.Bucket.commit_unchanged.Goals as goal

pub returns-then-are_moved-clause-sound : goal.returns-then-are_moved-clause-sound
returns-then-are_moved-clause-sound c =
    let b = c.args.self.now in
    let after = c.move_searchers-are_moved.new.self in
    let rest = c.move_searchers-are_moved.ensures.rest in
    let moved = c.move_searchers-are_moved.ensures.moved c.if-are_moved.true in
    subst (λ (x : Bucket). IsSound (record x { journal = c.append.new.self })) (sym rest)
    (committed-moved b after.searchers c.append.new.self c.requires.sound (c.is_unchanged.ensures c.if-not-is_unchanged.false) c.requires.memory c.requires.room
    (subst (λ place. AreMoved place b.searchers after.searchers) c.entries-place.ensures.count moved)
    (c.append.ensures ∙ ap (λ (x : Bucket). record x.journal { entries = x.journal.entries ++ entry.Committed ∷ []; room = x.journal.room - 1 }) rest)).1

pub returns-then-are_moved-clause-committed : goal.returns-then-are_moved-clause-committed
returns-then-are_moved-clause-committed c = λ _.
    let b = c.args.self.now in
    let after = c.move_searchers-are_moved.new.self in
    let rest = c.move_searchers-are_moved.ensures.rest in
    let moved = c.move_searchers-are_moved.ensures.moved c.if-are_moved.true in
    subst (λ (x : Bucket). Commits b (record x { journal = c.append.new.self })) (sym rest)
    (committed-moved b after.searchers c.append.new.self c.requires.sound (c.is_unchanged.ensures c.if-not-is_unchanged.false) c.requires.memory c.requires.room
    (subst (λ place. AreMoved place b.searchers after.searchers) c.entries-place.ensures.count moved)
    (c.append.ensures ∙ ap (λ (x : Bucket). record x.journal { entries = x.journal.entries ++ entry.Committed ∷ []; room = x.journal.room - 1 }) rest)).0
