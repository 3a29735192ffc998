-- The progress stays in the text.
use Rattle.std.proofs.Common.{◌≡◌, ◌-◌, ◌≤◌, fold, take, length}
use Rattle.sc_http.specs.HeadEnd.{next_progress}
use Rattle.sc_http.specs.declared.head_end.HeadProgress.TheVariants as stages
use Rattle.sc_http.proofs.head_end.text_length.Given as goal

abbrev pub invariant-loop-length : goal.invariant-loop-length
invariant-loop-length l = (l.length ≤ length l.bytes) × (fold next_progress stages.Text (take l.length l.bytes) ≡ stages.Text)

abbrev pub decreases-loop-length : goal.decreases-loop-length
decreases-loop-length l = length l.bytes - l.length
