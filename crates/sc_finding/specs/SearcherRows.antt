-- The rows of a searcher, and what a criterion finds among them.
use Rattle.std.specs.Prelude.{List, filter, All}
use Rattle.sc_record.specs.Writes.{Write}
use Rattle.sc_eval.specs.Criteria.{Criterion}
use Rattle.sc_eval.specs.Matching.{finds}
use Rattle.sc_journal.specs.Legal.{HasTerms}
use Rattle.sc_replicas.specs.Searchers.{searcher_rows}
use Rattle.sc_replicas.specs.declared.standing.Searcher.{Searcher}

-- the rows that a searcher looks at have their terms
abbrev pub HaveTerms : Searcher → Type 0
HaveTerms searcher = All (λ (row : Write). HasTerms row.id row.doc row.terms) (searcher_rows searcher)

-- what the criterion finds in the searcher's rows
abbrev pub found_in : Criterion → Searcher → List Write
found_in criterion searcher = filter (finds searcher.range criterion) (searcher_rows searcher)
