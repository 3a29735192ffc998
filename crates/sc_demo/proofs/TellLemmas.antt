-- What is told of makers that have worked, and what is found after them.
use Rattle.std.proofs.Common.{◌≡◌, ◌≤◌, ◌<◌, ◌-◌, ◌++◌, ◌∙◌, ℕ, List, length, get_or, slice_get, Option, Some, Result, Ok, Err, String, refl, sym, ap, subst, arith}
use Rattle.std.specs.Prelude.{IfOk, IfSome, string_bytes}
use Rattle.std.proofs.lemmas.Option.{slice_get-get_or}
use Rattle.sc_io.specs.Pieces.{AddsPrefix}
use Rattle.sc_seen.specs.Seen.{Layout, Seen}
use Rattle.sc_server.specs.Working.{Told}
use Rattle.sc_demo.specs.declared.counting.Found.{Found}
use Rattle.sc_demo.specs.declared.maker.Maker.{Maker}
use Rattle.sc_demo.specs.Finding.{CommitsAndFinds}
use Rattle.sc_demo.specs.Lines.{lines}
use Rattle.sc_demo.specs.Making.{TellsIn}
use Rattle.sc_demo.specs.Makers.{TellsSplit}
use Rattle.sc_demo.specs.Telling.{AreLines, CountsOn, IsReport, TellsReport, after_makers, tally}

-- what is found is the same of equal layouts and of what was seen
pub counted_at : {E : Type 0} (told layout : Layout) (before_told before after : Seen) (found : Result Found E) → told ≡ layout → before_told ≡ before
    → IfOk found (CommitsAndFinds told before_told after) → IfOk found (CountsOn (after_makers layout before))
counted_at told layout before_told before after (Ok found) same_layout same_before are = record {
  last = after;
  are = subst (λ (l : Layout). CommitsAndFinds l before after found) same_layout (subst (λ (s : Seen). CommitsAndFinds told s after found) same_before are);
}
counted_at told layout before_told before after (Err e) same_layout same_before are = are

-- the word is that of the split that the last maker made
pub tells_split : {R C H P L E : Type 0} (makers : List (Maker R C H P L)) (word : Result (List ℕ) E) (maker : Maker R C H P L)
    → 1 ≤ length makers → maker ≡ get_or makers (length makers - 1) maker → IfOk word (TellsIn maker.made) → IfOk word (TellsSplit makers)
tells_split {R} {C} {H} {P} {L} makers (Ok word) maker some is tells = record {
  maker = maker;
  last = slice_get-get_or makers (length makers - 1) maker (omega (arith, some)) ∙ ap (λ (one : Maker R C H P L). Some one) (sym is);
  tells = tells;
}
tells_split makers (Err e) maker some is tells = tells

-- the text is that of a report
pub lines_told : {E Z : Type 0} (layout : Layout) (seen : Seen) (orders accepted : ℕ) (split : List ℕ) (found : Found) (text : Result (String Z) E)
    → CountsOn (after_makers layout seen) found
    → IfOk text (λ one. string_bytes one ≡ lines (record { orders = orders; accepted = accepted; split = split; found = found }))
    → IfOk text (λ one. AreLines (after_makers layout seen) (tally orders accepted split) (string_bytes one))
lines_told layout seen orders accepted split found (Ok text) counts is = record {
  report = record { orders = orders; accepted = accepted; split = split; found = found };
  is = record { found = found; is = refl; counts = counts };
  text_is = is;
}
lines_told layout seen orders accepted split found (Err e) counts is = is

module _ (layout : Layout) (seen : Seen) (orders accepted : ℕ) (split told piece text : List ℕ) (before after : Told) (same : told ≡ split)
    (are : AreLines (after_makers layout seen) (tally orders accepted told) text) (is_piece : piece ≡ text) where
  reported : IsReport (after_makers layout seen) (tally orders accepted split) are.report
  reported = subst (λ (word : List ℕ). IsReport (after_makers layout seen) (tally orders accepted word) are.report) same are.is

  -- writing the lines failed after a prefix of them
  pub tells_fail : before.faults < after.faults → IfSome before.written (λ bytes. AddsPrefix bytes piece after.written)
      → TellsReport (after_makers layout seen) (tally orders accepted split) before after 5
  tells_fail fault part =
      TellsReport.lines_fail are.report reported fault
      (subst (λ (xs : List ℕ). IfSome before.written (λ bytes. AddsPrefix bytes xs after.written)) (is_piece ∙ are.text_is) part)

  -- they were written
  pub tells_whole : IfSome before.written (λ bytes. after.written ≡ Some (bytes ++ piece)) → after.faults ≡ before.faults
      → TellsReport (after_makers layout seen) (tally orders accepted split) before after 0
  tells_whole whole steady =
      TellsReport.tells are.report reported
      (subst (λ (xs : List ℕ). IfSome before.written (λ bytes. after.written ≡ Some (bytes ++ xs))) (is_piece ∙ are.text_is) whole) steady
