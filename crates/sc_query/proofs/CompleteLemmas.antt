-- What is in the grammar is read: `complete`.
use Rattle.std.proofs.Common.{◌≡◌, ℕ, suc, ◌+◌, ◌-◌, ◌<◌, Bool, Option, Some, None, Result, Ok, Err, if◌then◌else◌, List, [], ◌∷◌, refl, ap, ◌∙◌, arith, add-one}
use Rattle.std.proofs.lemmas.Bool.{lt-ltb}
use Rattle.sc_query.specs.Tokens.{Placed}
use Rattle.sc_query.specs.Tree.{Tree, negated}
use Rattle.sc_query.specs.Grammar.{Rule, Reads, IsQuery}
use Rattle.sc_query.proofs.Reading.{Before, Reader, and_with, or_with, empty, with_operand, opened}
use Rattle.sc_query.proofs.Runs.{goes_on, run}

-- after the tokens that a rule reads the reader has its tree
abbrev Complete : Rule → ℕ → List Placed → Tree → List Placed → Type 0
Complete Rule.Negation room ts t rest = (end : ℕ) (outer : List Before) (b : Before) → room + b.negations ≡ b.room → run end (Reader.Operand outer b) ts ≡ run end (with_operand outer b t) rest
Complete Rule.Conjunction room ts t rest = (end : ℕ) (outer : List Before) (either : Option Tree) → run end (Reader.Operand outer (record { either = either; both = None; room = room; negations = 0 })) ts ≡ run end (Reader.Operator outer either room t) rest
Complete Rule.Query room ts t rest = (end : ℕ) (outer : List Before) → (either : Option Tree) × (s : Tree) × (or_with either s ≡ t) × (run end (Reader.Operand outer (empty room)) ts ≡ run end (Reader.Operator outer either room s) rest)

-- one more may open where there is room
opened_in : (room : ℕ) (b : Before) (at : ℕ) (next : Reader) → suc room + b.negations ≡ b.room → opened b at next ≡ Ok next
opened_in room b at next e =
    let below : b.negations < b.room = omega (arith, e) in
    ap (λ (inside : Bool). if inside then Ok next else Err at) (lt-ltb b.negations b.room below)

complete_rule : {rule : Rule} {room : ℕ} {ts : List Placed} {t : Tree} {rest : List Placed} → Reads rule room ts t rest → Complete rule room ts t rest
unfolding run
complete_rule Reads.every = λ end outer b e. refl
complete_rule Reads.leaf = λ end outer b e. refl
complete_rule (Reads.not {room} {at} {ts} {rest} {t} d) = λ end outer b e.
    let b' : Before = record b { negations = b.negations + 1 } in
    ap (λ (r : Result Reader ℕ). goes_on r (λ next. run end next ts)) (opened_in room b at (Reader.Operand outer b') e)
    ∙ (complete_rule d end outer b' (omega (arith, e))
    ∙ ap (λ (n : ℕ). run end (Reader.Operator outer b.either b.room (and_with b.both (negated n t))) rest) (add-one b.negations))
complete_rule (Reads.parentheses {room} {at} {close} {ts} {rest} {t} d) = λ end outer b e.
    let left : b.room - (b.negations + 1) ≡ room = omega (arith, e) in
    let inner = complete_rule d end (b ∷ outer) in
    ap (λ (r : Result Reader ℕ). goes_on r (λ next. run end next ts)) (opened_in room b at (Reader.Operand (b ∷ outer) (empty (b.room - (b.negations + 1)))) e)
    ∙ (ap (λ (n : ℕ). run end (Reader.Operand (b ∷ outer) (empty n)) ts) left
    ∙ (inner.3 ∙ ap (λ (x : Tree). run end (with_operand outer b x) rest) inner.2))
complete_rule (Reads.one_negation {room} {ts} {rest} {t} d) = λ end outer either.
    complete_rule d end outer (record { either = either; both = None; room = room; negations = 0 }) (omega arith)
complete_rule (Reads.and {room} {at} {ts} {us} {rest} {s} {t} d e) = λ end outer either.
    complete_rule d end outer either
    ∙ complete_rule e end outer (record { either = either; both = Some s; room = room; negations = 0 }) (omega arith)
complete_rule (Reads.one_conjunction {room} {ts} {rest} {t} d) = λ end outer.
    (None, t, refl, complete_rule d end outer None)
complete_rule (Reads.or {room} {at} {ts} {us} {rest} {s} {t} d e) = λ end outer.
    let left = complete_rule d end outer in
    (Some s, t, refl, left.3 ∙ (ap (λ (x : Tree). run end (Reader.Operand outer (record { either = Some x; both = None; room = room; negations = 0 })) us) left.2 ∙ complete_rule e end outer (Some s)))

-- the reader gives the tree of the grammar
pub complete : (end : ℕ) (ps : List Placed) (t : Tree) → IsQuery ps t → run end (Reader.Operand [] (empty 32)) ps ≡ Ok t
unfolding run
complete end ps t d =
    let whole = complete_rule d end [] in
    whole.3 ∙ ap (λ (x : Tree). Ok x) whole.2
