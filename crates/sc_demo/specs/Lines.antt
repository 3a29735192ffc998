-- What a demonstration tells.
use Rattle.std.specs.Prelude.{ℕ, List, ◌++◌, codes, Option, Some, None}
use Rattle.std.specs.Fmt.{decimal}
use Rattle.std.specs.Option.{option_map}
use Rattle.sc_reply.specs.Refusals.{message_of}
use Rattle.sc_session.specs.Commands.{split_refusal}
use Rattle.sc_split.specs.declared.end.SplitEnd.{SplitEnd}
use Rattle.sc_split.specs.declared.end.SplitEnd.TheVariants as splits
use Rattle.sc_demo.specs.declared.counting.Found.{Found}

-- what is told: how many orders were made, how many of them were accepted, what the split came to, and what is found
pub record Report : Type 0 where
  pub orders : ℕ
  pub accepted : ℕ
  pub split : List ℕ
  pub found : Found

-- the three lines on what was made
abbrev pub made_lines : (orders accepted : ℕ) → (split : List ℕ) → List ℕ
made_lines orders accepted split =
    codes "orders " ++ (decimal orders ++ (codes "\naccepted " ++ (decimal accepted ++ (codes "\nsplit " ++ (split ++ codes "\n")))))

-- the three lines on what is found
abbrev pub found_lines : Found → List ℕ
found_lines found =
    codes "found " ++ (decimal found.all ++ (codes "\ng_s:a " ++ (decimal found.a ++ (codes "\ng_s:b " ++ (decimal found.b ++ codes "\n")))))

-- the six lines
abbrev pub lines : Report → List ℕ
lines report = made_lines report.orders report.accepted report.split ++ found_lines report.found

-- what the line on the split says: that it was done, or the message of its refusal; nothing where memory ran out
abbrev pub split_word : SplitEnd → Option (List ℕ)
split_word (splits.Done subs committed) = Some (codes "done")
split_word end = option_map message_of (split_refusal end)
