-- The answer to a split that was done.
use Rattle.std.specs.Prelude.{ℕ, true, List, [], ◌∷◌, codes, map}
use Rattle.serde_json.specs.Data.{Data, boolean, string}
use Rattle.serde_json.specs.Written.{compact_text}
use Rattle.sc_json.specs.Documents.{object_of, array_of}
use Rattle.sc_reply.specs.Refusals.{message_of, log_full, memory}
use Rattle.sc_reply.specs.Bodies.{header_member}
use Rattle.sc_collection.specs.declared.commits.Commits.{Commits}
use Rattle.sc_collection.specs.declared.commits.Commits.TheVariants as commits

-- whether all was committed after the split: true, or the message of why not
abbrev pub committed_data : Commits → Data
committed_data commits.All = boolean true
committed_data commits.LogFull = string (message_of log_full)
committed_data commits.Memory = string (message_of memory)

-- the answer: whether all was committed, and the names of the subs
abbrev pub split_data : List (List ℕ) → Commits → Data
split_data subs committed =
    object_of ((codes "committed", committed_data committed) ∷ header_member 0 ∷ (codes "subs", array_of (map string subs)) ∷ [])

abbrev pub split_text : List (List ℕ) → Commits → List ℕ
split_text subs committed = compact_text (split_data subs committed)
