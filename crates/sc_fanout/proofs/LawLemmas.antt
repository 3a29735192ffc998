-- What a search finds with a route and without one, and what an entry more changes of it.
use Rattle.std.proofs.Common.{List, sym, ap, ◌∙◌}
use Rattle.sc_record.specs.declared.entry.Entry.{Entry}
use Rattle.sc_journal.specs.Journal.{last_write}
use Rattle.sc_fanout.specs.SearchLaws.{RoutesFindNoMore, CommitsShowAll, OthersChangeNothing}
use Rattle.sc_journal.proofs.CommittedLemmas.{committed-push_commit, committed-push_other}

pub no_more : RoutesFindNoMore
no_more first journal criterion route write found = record { shown = found.shown; matched = found.matched; in_route = tt }

pub show_all : CommitsShowAll
show_all journal one write is =
    let same = ap (λ (j : List Entry). last_write j write.id) (committed-push_commit journal one is) in
    (λ shown. (sym same ∙ shown.last, shown.live), λ last. record { last = same ∙ last.0; live = last.1 })

pub change_nothing : OthersChangeNothing
change_nothing journal one write is =
    let same = ap (λ (j : List Entry). last_write j write.id) (committed-push_other journal one is) in
    (λ shown. record { last = sym same ∙ shown.last; live = shown.live }, λ shown. record { last = same ∙ shown.last; live = shown.live })
