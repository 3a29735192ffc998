-- The search for the end of a head, byte by byte.
use Rattle.std.specs.Prelude.{◌≡◌, ◌<◌, ◌⊎◌, ℕ, ◌==◌, List, length, fold, if◌then◌else◌}
use Rattle.sc_model.specs.Heads.{head_limit}
use Rattle.sc_http.specs.declared.head_end.HeadProgress.{HeadProgress}
use Rattle.sc_http.specs.declared.head_end.HeadProgress.TheVariants as stages

-- the progress after one byte more: 10 ends a line, and 13 may come before it
abbrev pub next_progress : HeadProgress → ℕ → HeadProgress
next_progress stages.Before byte = if byte == 10 then stages.Before else (if byte == 13 then stages.Before else stages.Text)
next_progress stages.Text byte = if byte == 10 then stages.LineStart else stages.Text
next_progress stages.LineStart byte = if byte == 10 then stages.End else (if byte == 13 then stages.LineStartReturn else stages.Text)
next_progress stages.LineStartReturn byte = if byte == 10 then stages.End else stages.Text
next_progress stages.End byte = stages.End

-- whether the bytes begin with a head can be said whatever follows: its end has come, or more bytes than it may have
abbrev pub IsJudged : List ℕ → Type 0
IsJudged bytes = (fold next_progress stages.Before bytes ≡ stages.End) ⊎ (head_limit < length bytes)
