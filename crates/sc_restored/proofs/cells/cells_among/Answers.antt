-- A share of the next write is taken, where the entry is one.
use Rattle.std.proofs.Common.{◌∙◌, ◌++◌, [], ◌∷◌, Vec, Global, List, map, ap, arith}
use Rattle.std.specs.Arc.{arc_value}
use Rattle.std.specs.declared.sync.Arc.{Arc}
use Rattle.std.proofs.lemmas.List.{map-append, take_all}
use Rattle.sc_record.specs.Writes.{Write}
use Rattle.sc_record.specs.declared.entry.Entry.{Entry}
use Rattle.sc_journal.specs.Journal.{writes}
use Rattle.sc_restored.proofs.WriteLemmas.{writes-next_write, writes-next_other, no_write}
use Rattle.sc_restored.proofs.cells.cells_among.Goals as goal
use Rattle.sc_restored.proofs.cells.cells_among.Goals.{in-Write+in_ok-try_clone+in_ok-push, in_default}

pub loop-entry-preserved : goal.loop-entry-preserved
loop-entry-preserved c =
    let entries = c.args.entries.now in
    let at = c.loop-entry.entry-index in
    let one : Entry = c.entry-item.result in
    let before : List (Arc Write Global) = c.loop-entry.cells.items in
    elim c.match-entry.branch [
      | in-Write+in_ok-try_clone+in_ok-push w ↦
          ap (λ (v : Vec (Arc Write Global) Global). map arc_value v.items) w.cells-is ∙ ap (map arc_value) w.in_ok-push.ensures.items
          ∙ map-append arc_value before (w.in_ok-try_clone.field-0 ∷ [])
          ∙ ap (λ (write : Write). map arc_value before ++ write ∷ []) w.in_ok-try_clone.ensures
          ∙ writes-next_write entries at one w.in-Write.cell (map arc_value before) c.loop-entry-test.true c.entry-item.is w.in-Write.is
          c.loop-entry.invariant
      | in_default w ↦
          ap (λ (v : Vec (Arc Write Global) Global). map arc_value v.items) w.cells-is
          ∙ writes-next_other entries at one (map arc_value before) c.loop-entry-test.true c.entry-item.is
          (no_write one w.in_default.not-Write) c.loop-entry.invariant
    ]

pub returns : goal.returns
returns c =
    c.loop-entry.invariant
    ∙ ap (λ (these : List Entry). writes these) (take_all c.loop-entry.entry-index c.args.entries.now (omega (arith, c.loop-entry-test.false)))
