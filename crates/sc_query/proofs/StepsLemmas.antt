-- What the code makes of a token is a step of the reader.
use Rattle.std.proofs.Common.{◌≡◌, ℕ, ◌+◌, ◌-◌, ◌<◌, ◌≤◌, nat_lt, Bool, true, false, Option, Some, None, IfSome, IfNone, Result, Ok, Err, if◌then◌else◌, List, [], ◌∷◌, ◌++◌, length, option_map, refl, sym, ap, subst, ◌∙◌, arith}
use Rattle.std.proofs.lemmas.List.{map-append, reverse-append, length-reverse, length-map}
use Rattle.std.specs.Option.{ok_or}
use Rattle.sc_query.specs.declared.query.Query.{Query}
use Rattle.sc_query.specs.declared.fault.QueryFault.{QueryFault}
use Rattle.sc_query.specs.declared.fault.QueryFault.TheVariants.{At}
use Rattle.sc_query.specs.declared.lexeme.Lexeme.{Lexeme}
use Rattle.sc_query.specs.declared.lexeme.Lexeme.TheVariants as lexeme
use Rattle.sc_query.specs.declared.reader.Level.{Level}
use Rattle.sc_query.specs.Tokens.{Token, Placed, placed, token_of}
use Rattle.sc_query.specs.Tree.{Tree, tree_of, negated}
use Rattle.sc_query.specs.Grammar.{HasFault}
use Rattle.sc_query.proofs.Reading.{Before, Reader, and_with, or_with, empty, before_of, outer_of, reader_of, with_operand, opened, closed, step, finish}
use Rattle.sc_query.proofs.Runs.{run, reading}
use Rattle.sc_query.proofs.OutcomeLemmas.{fault_found}
use Rattle.sc_query.proofs.TokensLemmas.{run-step, run-stop, run-end}

-- a step at the operand and the lexeme that the code found
step_at : (outer : List Level) (level : Level) {operand found : Option Query} {lexeme is : Lexeme} (at : ℕ)
    {r : Result Reader ℕ} → operand ≡ found → lexeme ≡ is →
    step (reader_of outer level found) (token_of is) at ≡ r →
    step (reader_of outer level operand) (token_of lexeme) at ≡ r
step_at outer level {operand} {found} {lexeme} {is} at {r} o l h =
    ap (λ (x : Option Query). step (reader_of outer level x) (token_of lexeme) at) o
    ∙ (ap (λ (x : Lexeme). step (reader_of outer level found) (token_of x) at) l ∙ h)

-- the reader goes on with the tokens after the first
pub read_on : (end : ℕ) {at : ℕ} {ts us : List Placed} (outer : List Level) (level : Level)
    {operand found : Option Query} {lexeme is : Lexeme} (after : Reader) {whole : Result Tree ℕ} →
    ts ≡ placed at (token_of lexeme) ∷ us → run end (reader_of outer level operand) ts ≡ whole →
    operand ≡ found → lexeme ≡ is → step (reader_of outer level found) (token_of is) at ≡ Ok after →
    run end after us ≡ whole
read_on end {at} {ts} {us} outer level {operand} {found} {lexeme} {is} after first same o l h =
    sym (run-step end (reader_of outer level operand) after (token_of lexeme) at us (step_at outer level at o l h))
    ∙ (ap (λ (xs : List Placed). run end (reader_of outer level operand) xs) (sym first) ∙ same)

-- the place where the reader ends with a fault is the text's
pub fault_at : (text : List ℕ) (at : ℕ) (result : Result Query QueryFault) → length text ≤ 4096 →
    reading text ≡ Err at → result ≡ Err (At at) → (place : ℕ) → result ≡ Err (At place) → HasFault text place
fault_at text at result l h is place e =
    let same : at ≡ place = cc in
    subst (λ (x : ℕ). HasFault text x) same (fault_found text at l h)

-- the first token can't follow, and its place is the text's fault
pub refused : (text : List ℕ) {at : ℕ} {ts us : List Placed} (outer : List Level) (level : Level)
    {operand found : Option Query} {lexeme is : Lexeme} (result : Result Query QueryFault) →
    length text ≤ 4096 → ts ≡ placed at (token_of lexeme) ∷ us →
    run (length text) (reader_of outer level operand) ts ≡ reading text → operand ≡ found → lexeme ≡ is →
    step (reader_of outer level found) (token_of is) at ≡ Err at → result ≡ Err (At at) → (place : ℕ) →
    result ≡ Err (At place) → HasFault text place
refused text {at} {ts} {us} outer level {operand} {found} {lexeme} {is} result within first same o l h =
    fault_at text at result within
    (sym same
    ∙ (ap (λ (xs : List Placed). run (length text) (reader_of outer level operand) xs) first
    ∙ run-stop (length text) (reader_of outer level operand) (token_of lexeme) at at us
    (step_at outer level at o l h)))

-- where no operand was read there is none after the step either
pub still_none : (outer : List Level) (level : Level) {operand : Option Query} {r : Result Reader ℕ} →
    operand ≡ None → r ≡ Ok (reader_of outer level None) → r ≡ Ok (reader_of outer level operand)
still_none outer level o h = h ∙ ap (λ (x : Option Query). Ok (reader_of outer level x)) (sym o)

-- what the code finds at a place where one more opens: this, or the fault where too many are open
abbrev pub where_open : {A : Type 0} → Level → A → ℕ → Result A QueryFault
where_open level found at = if nat_lt level.negations level.room then Ok found else Err (At at)

-- so the reader goes on, or stops
opens : {A : Type 0} (level : Level) (found expected : A) (at : ℕ) (next : Reader) →
    Ok found ≡ where_open level expected at → (found ≡ expected) × (opened (before_of level) at next ≡ Ok next)
opens level found expected at next h = go (nat_lt level.negations level.room) h
  where
    go : (some : Bool) → Ok found ≡ (if some then Ok expected else Err (At at)) →
        (found ≡ expected) × ((if some then Ok next else Err at) ≡ Ok next)
    go true e = (cc, refl)
    go false e = absurd (cc)

pub opens_none : {A : Type 0} (level : Level) (fault : QueryFault) (expected : A) (at : ℕ) (next : Reader) →
    Err fault ≡ where_open level expected at → (fault ≡ At at) × (opened (before_of level) at next ≡ Err at)
opens_none level fault expected at next h = go (nat_lt level.negations level.room) h
  where
    go : (some : Bool) → Err fault ≡ (if some then Ok expected else Err (At at)) →
        (fault ≡ At at) × ((if some then Ok next else Err at) ≡ Err at)
    go true e = absurd (cc)
    go false e = (cc, refl)

-- the innermost level is the first
pushed : (outer levels : List Level) (level : Level) → levels ≡ outer ++ level ∷ [] →
    outer_of levels ≡ before_of level ∷ outer_of outer
pushed outer levels level e = ap outer_of e ∙ simp (map-append, reverse-append)

pub step_open : (outer levels : List Level) (level inner : Level) (room at : ℕ) →
    Ok room ≡ where_open level (level.room - (level.negations + 1)) at →
    levels ≡ outer ++ level ∷ [] →
    inner ≡ record { either = None; both = None; room = room; negations = 0 } →
    step (reader_of outer level None) Token.Open at ≡ Ok (reader_of levels inner None)
step_open outer levels level inner room at h e i =
    let expected = level.room - (level.negations + 1) in
    let next : ℕ → Reader = λ n. Reader.Operand (before_of level ∷ outer_of outer) (empty n) in
    let o = opens level room expected at (next expected) h in
    o.1
    ∙ (ap (λ (n : ℕ). Ok (next n)) (sym o.0)
    ∙ (ap (λ (xs : List Before). Ok (Reader.Operand xs (empty room))) (sym (pushed outer levels level e))
    ∙ ap (λ (l : Level). Ok (Reader.Operand (outer_of levels) (before_of l))) (sym i)))

pub step_not : (outer : List Level) (level next : Level) (at : ℕ) →
    Ok next ≡ where_open level (record level { negations = level.negations + 1 }) at →
    step (reader_of outer level None) Token.Not at ≡ Ok (reader_of outer next None)
step_not outer level next at h =
    let expected : Level = record level { negations = level.negations + 1 } in
    let o = opens level next expected at (Reader.Operand (outer_of outer) (before_of expected)) h in
    o.1 ∙ ap (λ (l : Level). Ok (Reader.Operand (outer_of outer) (before_of l))) (sym o.0)

pub step_leaf : (outer : List Level) (level : Level) (query : Query) (field value : List ℕ) (at : ℕ) →
    tree_of query ≡ Tree.Leaf field value at →
    step (reader_of outer level None) (Token.Leaf field value) at ≡ Ok (reader_of outer level (Some query))
step_leaf outer level query field value at e =
    ap (λ (t : Tree). Ok (with_operand (outer_of outer) (before_of level) t)) (sym e)

-- no other lexeme begins an operand
pub no_operand : (outer : List Level) (level : Level) (l : Lexeme) (at : ℕ) → ¬ (l ≡ lexeme.Open) →
    ¬ (l ≡ lexeme.Not) → ¬ (l ≡ lexeme.Every) → ((field value : _) → ¬ (l ≡ lexeme.Leaf field value)) →
    step (reader_of outer level None) (token_of l) at ≡ Err at
no_operand outer level lexeme.Open at opening negation every leaf = absurd (opening refl)
no_operand outer level lexeme.Not at opening negation every leaf = absurd (negation refl)
no_operand outer level lexeme.Every at opening negation every leaf = absurd (every refl)
no_operand outer level (lexeme.Leaf field value) at opening negation every leaf = absurd (leaf field value refl)
no_operand outer level lexeme.Close at opening negation every leaf = refl
no_operand outer level lexeme.And at opening negation every leaf = refl
no_operand outer level lexeme.Or at opening negation every leaf = refl
no_operand outer level lexeme.Broken at opening negation every leaf = refl

-- and no other follows one
pub no_operator : (outer : List Level) (level : Level) (query : Query) (l : Lexeme) (at : ℕ) →
    ¬ (l ≡ lexeme.Close) → ¬ (l ≡ lexeme.And) → ¬ (l ≡ lexeme.Or) →
    step (reader_of outer level (Some query)) (token_of l) at ≡ Err at
no_operator outer level query lexeme.Close at close and or = absurd (close refl)
no_operator outer level query lexeme.And at close and or = absurd (and refl)
no_operator outer level query lexeme.Or at close and or = absurd (or refl)
no_operator outer level query lexeme.Open at close and or = refl
no_operator outer level query lexeme.Not at close and or = refl
no_operator outer level query lexeme.Every at close and or = refl
no_operator outer level query (lexeme.Leaf field value) at close and or = refl
no_operator outer level query lexeme.Broken at close and or = refl

-- what is joined to nothing stays as it is
joined_and : (both : Option Query) (s t : Tree) → IfNone both (s ≡ t) →
    IfSome both (λ left. s ≡ Tree.And (tree_of left) t) → s ≡ and_with (option_map tree_of both) t
joined_and None s t alone joined = alone
joined_and (Some left) s t alone joined = joined

joined_or : (either : Option Query) (s t : Tree) → IfNone either (s ≡ t) →
    IfSome either (λ left. s ≡ Tree.Or (tree_of left) t) → s ≡ or_with (option_map tree_of either) t
joined_or None s t alone joined = alone
joined_or (Some left) s t alone joined = joined

-- a query is the operand under what stands before it in its conjunction
abbrev pub IsConjunction : Level → (operand query : Query) → Type 0
IsConjunction level operand query =
    IfNone level.both (tree_of query ≡ negated level.negations (tree_of operand))
    × IfSome level.both (λ left. tree_of query ≡ Tree.And (tree_of left) (negated level.negations (tree_of operand)))

-- a query is the conjunction under what stands before it
abbrev pub IsWhole : Level → (conjunction query : Query) → Type 0
IsWhole level conjunction query =
    IfNone level.either (tree_of query ≡ tree_of conjunction)
    × IfSome level.either (λ left. tree_of query ≡ Tree.Or (tree_of left) (tree_of conjunction))

conjunction_tree : (level : Level) (operand query : Query) → IsConjunction level operand query →
    and_with (option_map tree_of level.both) (negated level.negations (tree_of operand)) ≡ tree_of query
conjunction_tree level operand query h = sym (joined_and level.both (tree_of query)
    (negated level.negations (tree_of operand)) h.0 h.1)

whole_tree : (level : Level) (operand conjunction query : Query) → IsConjunction level operand conjunction →
    IsWhole level conjunction query →
    or_with (option_map tree_of level.either) (and_with (option_map tree_of level.both) (negated level.negations (tree_of operand))) ≡ tree_of query
whole_tree level operand conjunction query h k =
    ap (λ (t : Tree). or_with (option_map tree_of level.either) t) (conjunction_tree level operand conjunction h)
    ∙ sym (joined_or level.either (tree_of query) (tree_of conjunction) k.0 k.1)

pub step_and : (outer : List Level) (level inner : Level) (operand query : Query) (at : ℕ) →
    IsConjunction level operand query →
    inner ≡ record { either = level.either; both = Some query; room = level.room; negations = 0 } →
    step (reader_of outer level (Some operand)) Token.And at ≡ Ok (reader_of outer inner None)
step_and outer level inner operand query at h i =
    ap (λ (t : Tree). Ok (Reader.Operand (outer_of outer)
    (record { either = option_map tree_of level.either; both = Some t; room = level.room; negations = 0 })))
    (conjunction_tree level operand query h)
    ∙ ap (λ (l : Level). Ok (Reader.Operand (outer_of outer) (before_of l))) (sym i)

pub step_or : (outer : List Level) (level inner : Level) (operand conjunction query : Query) (at : ℕ) →
    IsConjunction level operand conjunction → IsWhole level conjunction query →
    inner ≡ record { either = Some query; both = None; room = level.room; negations = 0 } →
    step (reader_of outer level (Some operand)) Token.Or at ≡ Ok (reader_of outer inner None)
step_or outer level inner operand conjunction query at h k i =
    ap (λ (t : Tree). Ok (Reader.Operand (outer_of outer)
    (record { either = Some t; both = None; room = level.room; negations = 0 })))
    (whole_tree level operand conjunction query h k)
    ∙ ap (λ (l : Level). Ok (Reader.Operand (outer_of outer) (before_of l))) (sym i)

pub step_close : (outer levels : List Level) (level before : Level) (operand conjunction query : Query) (at : ℕ) →
    IsConjunction level operand conjunction → IsWhole level conjunction query → outer ≡ levels ++ before ∷ [] →
    step (reader_of outer level (Some operand)) Token.Close at ≡ Ok (reader_of levels before (Some query))
step_close outer levels level before operand conjunction query at h k e =
    ap (λ (t : Tree). closed (outer_of outer) t at) (whole_tree level operand conjunction query h k)
    ∙ ap (λ (xs : List Before). closed xs (tree_of query) at) (pushed levels outer before e)

-- no level is left
pub no_level : (level : Option Level) (fault : QueryFault) (at : ℕ) → Err fault ≡ ok_or level (At at) →
    (fault ≡ At at) × (level ≡ None)
no_level None fault at h = (cc, refl)
no_level (Some level) fault at h = absurd (cc)

pub step_close-none : (outer : List Level) (level : Level) (operand : Query) (at : ℕ) → length outer ≡ 0 →
    step (reader_of outer level (Some operand)) Token.Close at ≡ Err at
step_close-none [] level operand at e = refl
step_close-none (x ∷ xs) level operand at e = absurd (omega (arith, e))

-- a parenthesis is open at the end
left_open : (levels : List Before) (either : Option Tree) (room end : ℕ) (t : Tree) → 0 < length levels →
    finish (Reader.Operator levels either room t) end ≡ Err end
left_open [] either room end t l = absurd (omega (arith, l))
left_open (x ∷ xs) either room end t l = refl

pub finish-open : (outer : List Level) (level : Level) (operand : Query) (end : ℕ) → 0 < length outer →
    finish (reader_of outer level (Some operand)) end ≡ Err end
finish-open outer level operand end l =
    let same : length (outer_of outer) ≡ length outer = simp (length-reverse, length-map) in
    left_open (outer_of outer) (option_map tree_of level.either) level.room end
    (and_with (option_map tree_of level.both) (negated level.negations (tree_of operand))) (omega arith)

pub finish-whole : (outer : List Level) (level : Level) (operand conjunction query : Query) (end : ℕ) →
    length outer ≡ 0 → IsConjunction level operand conjunction → IsWhole level conjunction query →
    finish (reader_of outer level (Some operand)) end ≡ Ok (tree_of query)
finish-whole [] level operand conjunction query end e h k =
    ap (λ (t : Tree). Ok t) (whole_tree level operand conjunction query h k)
finish-whole (x ∷ xs) level operand conjunction query end e h k = absurd (omega (arith, e))

-- where no token is left the reader ends as well
pub ended : (end : ℕ) {ts : List Placed} (outer : List Level) (level : Level) {operand found : Option Query}
    {whole : Result Tree ℕ} → ts ≡ [] → operand ≡ found → run end (reader_of outer level operand) ts ≡ whole →
    whole ≡ finish (reader_of outer level found) end
ended end {ts} outer level {operand} {found} {whole} none o same =
    sym same
    ∙ (ap (λ (xs : List Placed). run end (reader_of outer level operand) xs) none
    ∙ (run-end end (reader_of outer level operand)
    ∙ ap (λ (x : Option Query). finish (reader_of outer level x) end) o))
