-- A split runs where it began by the last entry, or its slices are recovered since the last entry.
use Rattle.std.proofs.Common.{◌≡◌, ◌∙◌, Some, sym, ap}
use Rattle.std.specs.Option.{option_copied}
use Rattle.sc_journal.specs.Journal.{last_of}
use Rattle.sc_seen.specs.declared.board.BoardEntry.{BoardEntry}
use Rattle.sc_seen.specs.declared.board.BoardEntry.TheVariants as board
use Rattle.sc_board.proofs.LastLemmas.{begun_last, recovering_last, done_last, failed_last, dropped_last, led_last}
use Rattle.sc_board.proofs.board.Board.running.Goals as goal

pub returns-in-Some-Begun : goal.returns-in-Some-Begun
returns-in-Some-Begun g c =
    let last : last_of c.args.self.now.journal.entries ≡ Some (board.Begun c.in-Some-Begun.plan) =
    ap last_of (sym c.as_slice.ensures) ∙ sym c.last.ensures.value ∙ ap option_copied c.in-Some-Begun.is
    ∙ ap (λ (e : BoardEntry). Some e) c.in-Some-Begun.field-0-is in
    begun_last c.args.self.now c.in-Some-Begun.plan c.requires last

pub returns-in-Some-Recovering : goal.returns-in-Some-Recovering
returns-in-Some-Recovering g c =
    let last : last_of c.args.self.now.journal.entries ≡ Some (board.Recovering c.in-Some-Recovering.parent) =
    ap last_of (sym c.as_slice.ensures) ∙ sym c.last.ensures.value ∙ ap option_copied c.in-Some-Recovering.is
    ∙ ap (λ (e : BoardEntry). Some e) c.in-Some-Recovering.field-0-is in
    recovering_last c.args.self.now c.in-Some-Recovering.parent c.requires last

pub returns-in-Some-Done : goal.returns-in-Some-Done
returns-in-Some-Done g c =
    let last : last_of c.args.self.now.journal.entries ≡ Some (board.Done c.in-Some-Done.field-0-0) =
    ap last_of (sym c.as_slice.ensures) ∙ sym c.last.ensures.value ∙ ap option_copied c.in-Some-Done.is
    ∙ ap (λ (e : BoardEntry). Some e) c.in-Some-Done.field-0-is in
    done_last c.args.self.now c.in-Some-Done.field-0-0 last

pub returns-in-Some-Failed : goal.returns-in-Some-Failed
returns-in-Some-Failed g c =
    let last : last_of c.args.self.now.journal.entries ≡ Some (board.Failed c.in-Some-Failed.field-0-0) =
    ap last_of (sym c.as_slice.ensures) ∙ sym c.last.ensures.value ∙ ap option_copied c.in-Some-Failed.is
    ∙ ap (λ (e : BoardEntry). Some e) c.in-Some-Failed.field-0-is in
    failed_last c.args.self.now c.in-Some-Failed.field-0-0 last

pub returns-in-Some-Dropped : goal.returns-in-Some-Dropped
returns-in-Some-Dropped g c =
    let last : last_of c.args.self.now.journal.entries ≡ Some (board.Dropped c.in-Some-Dropped.field-0-0) =
    ap last_of (sym c.as_slice.ensures) ∙ sym c.last.ensures.value ∙ ap option_copied c.in-Some-Dropped.is
    ∙ ap (λ (e : BoardEntry). Some e) c.in-Some-Dropped.field-0-is in
    dropped_last c.args.self.now c.in-Some-Dropped.field-0-0 c.requires last

pub returns-in-Some-Led : goal.returns-in-Some-Led
returns-in-Some-Led g c =
    let last : last_of c.args.self.now.journal.entries ≡ Some (board.Led c.in-Some-Led.field-0-0 c.in-Some-Led.field-0-1) =
    ap last_of (sym c.as_slice.ensures) ∙ sym c.last.ensures.value ∙ ap option_copied c.in-Some-Led.is
    ∙ ap (λ (e : BoardEntry). Some e) c.in-Some-Led.field-0-is in
    led_last c.args.self.now c.in-Some-Led.field-0-0 c.in-Some-Led.field-0-1 c.requires last
