-- How the runs of a text go on from one byte to the next.
use Rattle.std.proofs.Common.{◌≡◌, ℕ, ◌+◌, ◌-◌, ◌<◌, ◌≤◌, true, false, cond, List, [], ◌∷◌, ◌++◌, length, get_or, take, drop, sym, ap, ap₂, ◌∙◌, arith, length-drop}
use Rattle.std.specs.Char.{is_ascii_alphanumeric}
use Rattle.std.proofs.lemmas.List.{drop_more, take_more, get_or-drop, take_all, drop_all}
use Rattle.sc_schema.specs.Runs.{closed, runs_from}

-- the bytes of the text from one place to another
abbrev pub part : List ℕ → ℕ → ℕ → List ℕ
part text start at = take (at - start) (drop start text)

part_more : (text : List ℕ) (start at : ℕ) → start ≤ at → at < length text
    → part text start at ++ get_or text at 0 ∷ [] ≡ part text start (at + 1)
part_more text start at begun within =
    let more : at + 1 - start ≡ (at - start) + 1 = omega arith in
    let same : get_or (drop start text) (at - start) 0 ≡ get_or text at 0 =
    get_or-drop start text (at - start) 0 ∙ ap (λ i. get_or text i 0) (omega arith) in
    ap (λ x. part text start at ++ x ∷ []) (sym same)
    ∙ sym (take_more (drop start text) (at - start) 0 (omega (arith, length-drop start text)))
    ∙ ap (λ i. take i (drop start text)) (sym more)

-- a letter or a digit goes on with the run
pub run_goes_on : (text : List ℕ) (start at : ℕ) → start ≤ at → at < length text
    → is_ascii_alphanumeric (get_or text at 0) ≡ true
    → runs_from (part text start at) (drop at text) ≡ runs_from (part text start (at + 1)) (drop (at + 1) text)
run_goes_on text start at begun within h =
    let run = part text start at in
    let rest = drop (at + 1) text in
    ap (runs_from run) (drop_more text at 0 within)
    ∙ ap (λ b. cond b (runs_from (run ++ get_or text at 0 ∷ []) rest) (closed run ++ runs_from [] rest)) h
    ∙ ap (λ r. runs_from r rest) (part_more text start at begun within)

-- another byte ends it
pub run_ends : (text : List ℕ) (start at : ℕ) → at < length text → is_ascii_alphanumeric (get_or text at 0) ≡ false
    → runs_from (part text start at) (drop at text)
    ≡ closed (part text start at) ++ runs_from (part text (at + 1) (at + 1)) (drop (at + 1) text)
run_ends text start at within h =
    let run = part text start at in
    let rest = drop (at + 1) text in
    let none : 0 ≡ at + 1 - (at + 1) = omega arith in
    ap (runs_from run) (drop_more text at 0 within)
    ∙ ap (λ b. cond b (runs_from (run ++ get_or text at 0 ∷ []) rest) (closed run ++ runs_from [] rest)) h
    ∙ ap (λ n. closed run ++ runs_from (take n (drop (at + 1) text)) rest) none

-- the end of the text ends it too
pub run_is_last : (text : List ℕ) (start at : ℕ) → length text ≤ at → runs_from (part text start at) (drop at text) ≡ closed (drop start text)
run_is_last text start at past =
    ap₂ runs_from (take_all (at - start) (drop start text) (omega (arith, length-drop start text))) (drop_all at text past)
