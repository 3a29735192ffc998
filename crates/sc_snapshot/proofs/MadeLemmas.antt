-- Where the next edit of those that are left is.
use Rattle.std.proofs.Common.{◌≡◌, ℕ, ◌+◌, ◌-◌, ◌<◌, ◌≤◌, Bool, List, map, drop, length, get_or, ap, ◌∙◌}
use Rattle.std.proofs.lemmas.List.{length-map}
use Rattle.sc_record.specs.Writes.{Write}
use Rattle.sc_snapshot.specs.Edits.{next_of, IsRest}
use Rattle.sc_snapshot.specs.declared.edits.Edit.{Edit}
use Rattle.sc_snapshot.proofs.EditLemmas.{rest-at, edit-bounded, rest-within}
use Rattle.sc_snapshot.proofs.SurveyLemmas.{live}

-- it is within the old rows, and its row within the new ones
pub edit-within : (old new : List Write) (from number : ℕ) (edits : List Edit) (index : ℕ) (edit : Edit) → index < length edits
    → edit ≡ get_or edits index edit → IsRest old new from number (drop index edits)
    → (edit.at ≤ length old) × (number + (edit.at - from) < length new)
edit-within old new from number edits index edit within at is =
    let rest = rest-at old new from number edits index edit within at is in
    let bounds = edit-bounded old new from number edit (drop (index + 1) edits) rest in
    (bounds.1, rest-within old new from number edit (drop (index + 1) edits) rest)

-- and so is the first row after it
pub edit-next : (old new : List Write) (from number : ℕ) (edits : List Edit) (index : ℕ) (edit : Edit) → index < length edits
    → edit ≡ get_or edits index edit → IsRest old new from number (drop index edits) → next_of edit ≤ length old
edit-next old new from number edits index edit within at is =
    let rest = rest-at old new from number edits index edit within at is in
    (edit-bounded old new from number edit (drop (index + 1) edits) rest).2

-- a survey has a bit for each row
pub bits-size : (rows : List Write) (bits : List Bool) → bits ≡ map live rows → length bits ≡ length rows
bits-size rows bits are = ap (λ (l : List Bool). length l) are ∙ length-map rows live
