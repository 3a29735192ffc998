-- There are as many entries as marks.
use Rattle.std.proofs.Common.{◌∙◌, ◌++◌, sym, ap, length}
use Rattle.sc_bucket.specs.Kept.{ListsState}
use Rattle.sc_bucket.specs.Entries.{let_go_of}
use Rattle.sc_bucket.proofs.EntriesLemmas.{length-entries_of}
use Rattle.sc_bucket.proofs.lists.Lists.len.Goals as goal

pub returns : goal.returns
returns c =
    let inside = c.self.inside in
    let many = length-entries_of inside.marks.items (let_go_of inside.gone.items ++ inside.writes.items) inside.settled.items inside.others.items c.self.invariant.0 in
    c.len.ensures ∙ inside.marks.ok.0 ∙ sym many ∙ ap (λ (s : ListsState). length s.entries) c.self.view_is
