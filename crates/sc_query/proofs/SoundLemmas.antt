-- What the reader reads is in the grammar: `sound`.
use Rattle.std.proofs.Common.{◌≡◌, ℕ, suc, zero, ◌+◌, ◌-◌, ◌<◌, Bool, true, false, Option, Some, None, Result, Ok, Err, nat_lt, if◌then◌else◌, List, [], ◌∷◌, refl, sym, subst, arith, add-one}
use Rattle.std.proofs.lemmas.Bool.{ltb-true}
use Rattle.sc_query.specs.Tokens.{Token, Placed, placed}
use Rattle.sc_query.specs.Tree.{Tree, negated}
use Rattle.sc_query.specs.Grammar.{Rule, Reads, IsQuery}
use Rattle.sc_query.proofs.Reading.{Before, Reader, and_with, or_with, empty, with_operand, closed, operand_step, operator_step, step, finish}
use Rattle.sc_query.proofs.Runs.{goes_on, run}

-- what stands before an OR, if there is one
abbrev pub EitherRead : Option Tree → ℕ → List Placed → List Placed → Type 0
EitherRead None room us vs = us ≡ vs
EitherRead (Some s) room us vs = (at : ℕ) × Reads Rule.Query room us s (placed at Token.Or ∷ vs)

-- what stands before an AND, if there is one
abbrev pub BothRead : Option Tree → ℕ → List Placed → List Placed → Type 0
BothRead None room us vs = us ≡ vs
BothRead (Some s) room us vs = (at : ℕ) × Reads Rule.Conjunction room us s (placed at Token.And ∷ vs)

-- so many NOTs stand between
abbrev pub NotsRead : ℕ → List Placed → List Placed → Type 0
NotsRead zero us vs = us ≡ vs
NotsRead (suc n) us vs = (at : ℕ) × NotsRead n us (placed at Token.Not ∷ vs)

-- what a level says was read, up to the rest, where `held` says it of the levels outside
pub record LevelRead (held : ℕ → List Placed → Type 0) (b : Before) (room : ℕ) (rest : List Placed) : Type 0 where
  pub us : List Placed
  pub vs : List Placed
  pub ws : List Placed
  pub outside : held b.room us
  pub either : EitherRead b.either b.room us vs
  pub both : BothRead b.both b.room vs ws
  pub nots : NotsRead b.negations ws rest
  pub left : room + b.negations ≡ b.room

-- what the levels outside say was read of all the tokens, up to the rest
abbrev pub OuterRead : List Placed → List Before → ℕ → List Placed → Type 0
OuterRead all [] room rest = (room ≡ 32) × (all ≡ rest)
OuterRead all (b ∷ outer) room rest = (at : ℕ) × LevelRead (λ r us. OuterRead all outer r us) b (suc room) (placed at Token.Open ∷ rest)

pub record OperatorRead (all : List Placed) (outer : List Before) (either : Option Tree) (room : ℕ) (t : Tree) (rest : List Placed) : Type 0 where
  pub us : List Placed
  pub vs : List Placed
  pub outside : OuterRead all outer room us
  pub either_read : EitherRead either room us vs
  pub operand : Reads Rule.Conjunction room vs t rest

abbrev pub ReaderRead : List Placed → Reader → List Placed → Type 0
ReaderRead all (Reader.Operand outer b) rest = (r : ℕ) × LevelRead (λ r us. OuterRead all outer r us) b r rest
ReaderRead all (Reader.Operator outer either room t) rest = OperatorRead all outer either room t rest

abbrev pub OnReader : List Placed → List Placed → Result Reader ℕ → Type 0
OnReader all rest (Ok reader) = ReaderRead all reader rest
OnReader all rest (Err at) = Unit {0}

abbrev pub OnTree : List Placed → Result Tree ℕ → Type 0
OnTree all (Ok t) = IsQuery all t
OnTree all (Err at) = Unit {0}

nots_sound : (n r room : ℕ) (ws rest after : List Placed) (t : Tree) → r + n ≡ room → NotsRead n ws rest → Reads Rule.Negation r rest t after → Reads Rule.Negation room ws (negated n t) after
nots_sound zero r room ws rest after t e h d =
    let same : r ≡ room = omega arith in
    subst (λ (x : ℕ). Reads Rule.Negation x ws t after) same (subst (λ (x : List Placed). Reads Rule.Negation r x t after) (sym h) d)
nots_sound (suc n) r room ws rest after t e h d =
    nots_sound n (suc r) room ws (placed h.0 Token.Not ∷ rest) after (Tree.Not t) (omega arith) h.1 (Reads.not d)

both_sound : (both : Option Tree) (room : ℕ) (vs ws after : List Placed) (t : Tree) → BothRead both room vs ws → Reads Rule.Negation room ws t after → Reads Rule.Conjunction room vs (and_with both t) after
both_sound None room vs ws after t h d = Reads.one_negation (subst (λ (x : List Placed). Reads Rule.Negation room x t after) (sym h) d)
both_sound (Some s) room vs ws after t h d = Reads.and h.1 d

either_sound : (either : Option Tree) (room : ℕ) (us vs after : List Placed) (t : Tree) → EitherRead either room us vs → Reads Rule.Conjunction room vs t after → Reads Rule.Query room us (or_with either t) after
either_sound None room us vs after t h d = Reads.one_conjunction (subst (λ (x : List Placed). Reads Rule.Conjunction room x t after) (sym h) d)
either_sound (Some s) room us vs after t h d = Reads.or h.1 d

operand_sound : (all : List Placed) (outer : List Before) (b : Before) (r : ℕ) (rest after : List Placed) (t : Tree) → LevelRead (λ r us. OuterRead all outer r us) b r rest → Reads Rule.Negation r rest t after → ReaderRead all (with_operand outer b t) after
operand_sound all outer b r rest after t l d = record {
  us = l.us;
  vs = l.vs;
  outside = l.outside;
  either_read = l.either;
  operand = both_sound b.both b.room l.vs l.ws after (negated b.negations t) l.both (nots_sound b.negations r b.room l.ws rest after t l.left l.nots d);
}

opened_sound : (all rest : List Placed) (inside : Bool) (next : Reader) (at : ℕ) → (inside ≡ true → ReaderRead all next rest) → OnReader all rest (if inside then Ok next else Err at)
opened_sound all rest true next at h = h refl
opened_sound all rest false next at h = tt

closed_sound : (all : List Placed) (outer : List Before) (room at : ℕ) (us rest : List Placed) (t : Tree) → OuterRead all outer room us → Reads Rule.Query room us t (placed at Token.Close ∷ rest) → OnReader all rest (closed outer t at)
closed_sound all [] room at us rest t h d = tt
closed_sound all (b ∷ outer) room at us rest t h d = operand_sound all outer b (suc room) (placed h.0 Token.Open ∷ us) rest t h.1 (Reads.parentheses d)

operand_step_sound : (all : List Placed) (outer : List Before) (b : Before) (r : ℕ) (token : Token) (at : ℕ) (rest : List Placed) → LevelRead (λ r us. OuterRead all outer r us) b r (placed at token ∷ rest) → OnReader all rest (operand_step outer b token at)
operand_step_sound all outer b r Token.Open at rest l =
    opened_sound all rest (nat_lt b.negations b.room) _ at
    (λ h. let below : b.negations < b.room = ltb-true b.negations b.room h in (
      b.room - (b.negations + 1),
      record {
        us = rest;
        vs = rest;
        ws = rest;
        outside = (at, record { us = l.us; vs = l.vs; ws = l.ws; outside = l.outside; either = l.either; both = l.both; nots = l.nots; left = omega (arith, l.left) });
        either = refl;
        both = refl;
        nots = refl;
        left = omega arith;
      },
    ))
operand_step_sound all outer b r Token.Not at rest l =
    opened_sound all rest (nat_lt b.negations b.room) _ at
    (λ h. let below : b.negations < b.room = ltb-true b.negations b.room h in (
      r - 1,
      record {
        us = l.us;
        vs = l.vs;
        ws = l.ws;
        outside = l.outside;
        either = l.either;
        both = l.both;
        nots = subst (λ (n : ℕ). NotsRead n l.ws rest) (sym (add-one b.negations)) (at, l.nots);
        left = omega (arith, l.left);
      },
    ))
operand_step_sound all outer b r Token.Every at rest l = operand_sound all outer b r (placed at Token.Every ∷ rest) rest Tree.All l Reads.every
operand_step_sound all outer b r (Token.Leaf field value) at rest l = operand_sound all outer b r (placed at (Token.Leaf field value) ∷ rest) rest (Tree.Leaf field value at) l Reads.leaf
operand_step_sound all outer b r Token.Close at rest l = tt
operand_step_sound all outer b r Token.And at rest l = tt
operand_step_sound all outer b r Token.Or at rest l = tt
operand_step_sound all outer b r Token.Broken at rest l = tt

operator_step_sound : (all : List Placed) (outer : List Before) (either : Option Tree) (room : ℕ) (t : Tree) (token : Token) (at : ℕ) (rest : List Placed) → OperatorRead all outer either room t (placed at token ∷ rest) → OnReader all rest (operator_step outer either room t token at)
operator_step_sound all outer either room t Token.And at rest o =
    (room, record { us = o.us; vs = o.vs; ws = rest; outside = o.outside; either = o.either_read; both = (at, o.operand); nots = refl; left = omega arith })
operator_step_sound all outer either room t Token.Or at rest o =
    (room, record { us = o.us; vs = rest; ws = rest; outside = o.outside; either = (at, either_sound either room o.us o.vs (placed at Token.Or ∷ rest) t o.either_read o.operand); both = refl; nots = refl; left = omega arith })
operator_step_sound all outer either room t Token.Close at rest o =
    closed_sound all outer room at o.us rest (or_with either t) o.outside (either_sound either room o.us o.vs (placed at Token.Close ∷ rest) t o.either_read o.operand)
operator_step_sound all outer either room t Token.Open at rest o = tt
operator_step_sound all outer either room t Token.Not at rest o = tt
operator_step_sound all outer either room t Token.Every at rest o = tt
operator_step_sound all outer either room t (Token.Leaf field value) at rest o = tt
operator_step_sound all outer either room t Token.Broken at rest o = tt

step_sound : (all : List Placed) (reader : Reader) (token : Token) (at : ℕ) (rest : List Placed) → ReaderRead all reader (placed at token ∷ rest) → OnReader all rest (step reader token at)
step_sound all (Reader.Operand outer b) token at rest h = operand_step_sound all outer b h.0 token at rest h.1
step_sound all (Reader.Operator outer either room t) token at rest h = operator_step_sound all outer either room t token at rest h

finish_sound : (all : List Placed) (reader : Reader) (end : ℕ) → ReaderRead all reader [] → OnTree all (finish reader end)
finish_sound all (Reader.Operand outer b) end h = tt
finish_sound all (Reader.Operator [] either room t) end h =
    let d : Reads Rule.Query room h.us (or_with either t) [] = either_sound either room h.us h.vs [] t h.either_read h.operand in
    subst (λ (r : ℕ). Reads Rule.Query r all (or_with either t) []) h.outside.0 (subst (λ (us : List Placed). Reads Rule.Query room us (or_with either t) []) (sym h.outside.1) d)
finish_sound all (Reader.Operator (b ∷ outer) either room t) end h = tt

goes_sound : (all rest : List Placed) (r : Result Reader ℕ) (next : Reader → Result Tree ℕ) → OnReader all rest r → ((reader : Reader) → ReaderRead all reader rest → OnTree all (next reader)) → OnTree all (goes_on r next)
goes_sound all rest (Ok reader) next h k = k reader h
goes_sound all rest (Err at) next h k = tt

run_sound : (all : List Placed) (end : ℕ) (reader : Reader) (ps : List Placed) → ReaderRead all reader ps → OnTree all (run end reader ps)
unfolding run
run_sound all end reader [] h = finish_sound all reader end h
run_sound all end reader (p ∷ ps) h =
    goes_sound all ps (step reader p.token p.at) (λ next. run end next ps) (step_sound all reader p.token p.at ps h) (λ next k. run_sound all end next ps k)

-- nothing is read yet
start_read : (ps : List Placed) → ReaderRead ps (Reader.Operand [] (empty 32)) ps
start_read ps = (32, record { us = ps; vs = ps; ws = ps; outside = (refl, refl); either = refl; both = refl; nots = refl; left = omega arith })

-- the tree that the reader gives is one of the grammar
pub sound : (end : ℕ) (ps : List Placed) (t : Tree) → run end (Reader.Operand [] (empty 32)) ps ≡ Ok t → IsQuery ps t
sound end ps t e = subst (λ (r : Result Tree ℕ). OnTree ps r) e (run_sound ps end (Reader.Operand [] (empty 32)) ps (start_read ps))
