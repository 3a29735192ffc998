-- Where the reader stops is where no query can go on.
use Rattle.std.proofs.Common.{◌≡◌, ℕ, Bool, true, false, Option, Result, Ok, Err, nat_lt, if◌then◌else◌, List, [], ◌∷◌, ◌++◌, ◌⊎◌, inl, inr, refl, sym, ap, ◌∙◌, append_assoc}
use Rattle.std.proofs.lemmas.List.{append-nil}
use Rattle.sc_query.specs.Tokens.{Token, Placed, placed}
use Rattle.sc_query.specs.Tree.{Tree, negated}
use Rattle.sc_query.specs.Grammar.{BeginsQuery, StopsAt, EndsEarly}
use Rattle.sc_query.proofs.Reading.{Before, Reader, and_with, or_with, empty, closed, operand_step, operator_step, step, finish}
use Rattle.sc_query.proofs.Runs.{goes_on, run}
use Rattle.sc_query.proofs.SoundLemmas.{sound}
use Rattle.sc_query.proofs.CompleteLemmas.{complete}

abbrev pub start : Reader
start = Reader.Operand [] (empty 32)

abbrev then_step : Result Reader ℕ → (Reader → Result Reader ℕ) → Result Reader ℕ
then_step (Ok reader) next = next reader
then_step (Err at) next = Err at

-- the reader after these tokens
abbrev pub steps : Reader → List Placed → Result Reader ℕ
steps reader [] = Ok reader
steps reader (p ∷ ps) = then_step (step reader p.token p.at) (λ next. steps next ps)

run-append : (end : ℕ) (reader : Reader) (ps qs : List Placed) → run end reader (ps ++ qs) ≡ goes_on (steps reader ps) (λ next. run end next qs)
unfolding run
run-append end reader [] qs = refl
run-append end reader (p ∷ ps) qs = go (step reader p.token p.at) (λ next. run-append end next ps qs)
  where
    go : (r : Result Reader ℕ) → ((next : Reader) → run end next (ps ++ qs) ≡ goes_on (steps next ps) (λ n. run end n qs)) → goes_on r (λ next. run end next (ps ++ qs)) ≡ goes_on (then_step r (λ next. steps next ps)) (λ n. run end n qs)
    go (Ok next) k = k next
    go (Err at) k = refl

steps-append : (reader : Reader) (ps qs : List Placed) → steps reader (ps ++ qs) ≡ then_step (steps reader ps) (λ next. steps next qs)
steps-append reader [] qs = refl
steps-append reader (p ∷ ps) qs = go (step reader p.token p.at) (λ next. steps-append next ps qs)
  where
    go : (r : Result Reader ℕ) → ((next : Reader) → steps next (ps ++ qs) ≡ then_step (steps next ps) (λ n. steps n qs)) → then_step r (λ next. steps next (ps ++ qs)) ≡ then_step (then_step r (λ next. steps next ps)) (λ n. steps n qs)
    go (Ok next) k = k next
    go (Err at) k = refl

-- the parentheses that are open are closed
closes : List Before → List Placed
closes [] = []
closes (b ∷ outer) = placed 0 Token.Close ∷ closes outer

closing : (end : ℕ) (outer : List Before) (either : Option Tree) (room : ℕ) (t : Tree) → (tree : Tree) × (run end (Reader.Operator outer either room t) (closes outer) ≡ Ok tree)
unfolding run closes
closing end [] either room t = (or_with either t, refl)
closing end (b ∷ outer) either room t = closing end outer b.either b.room (and_with b.both (negated b.negations (or_with either t)))

-- what would make a query of what was read
completion : Reader → List Placed
completion (Reader.Operand outer b) = placed 0 Token.Every ∷ closes outer
completion (Reader.Operator outer either room t) = closes outer

completed : (end : ℕ) (reader : Reader) → (tree : Tree) × (run end reader (completion reader) ≡ Ok tree)
unfolding run completion
completed end (Reader.Operand outer b) = closing end outer b.either b.room (and_with b.both (negated b.negations Tree.All))
completed end (Reader.Operator outer either room t) = closing end outer either room t

-- what the reader read begins a query
steps_begin : (ts : List Placed) (reader : Reader) → steps start ts ≡ Ok reader → BeginsQuery ts
steps_begin ts reader e =
    let done = completed 0 reader in
    (completion reader, done.0, sound 0 (ts ++ completion reader) done.0 (run-append 0 start ts (completion reader) ∙ (ap (λ (r : Result Reader ℕ). goes_on r (λ next. run 0 next (completion reader))) e ∙ done.1)))

-- what begins a query is read
begins_steps : (ts : List Placed) → BeginsQuery ts → (reader : Reader) × (steps start ts ≡ Ok reader)
begins_steps ts w = go (steps start ts) refl
  where
    all : goes_on (steps start ts) (λ next. run 0 next w.0) ≡ Ok w.1
    all = sym (run-append 0 start ts w.0) ∙ complete 0 (ts ++ w.0) w.1 w.2

    go : (r : Result Reader ℕ) → steps start ts ≡ r → (reader : Reader) × (steps start ts ≡ Ok reader)
    go (Ok reader) e = (reader, e)
    go (Err at) e = absurd (no (sym (ap (λ (r : Result Reader ℕ). goes_on r (λ next. run 0 next w.0)) e) ∙ all))
      where
        no : Err at ≡ Ok w.1 → ⊥
        no h = cc

step_place : (reader : Reader) (token : Token) (at e : ℕ) → step reader token at ≡ Err e → at ≡ e
step_place (Reader.Operand outer b) token at e h = operand_place outer b token at e h
  where
    opened_place : (inside : Bool) (next : Reader) (x y : ℕ) → (if inside then Ok next else Err x) ≡ Err y → x ≡ y
    opened_place true next x y h = cc
    opened_place false next x y h = cc

    operand_place : (outer : List Before) (b : Before) (token : Token) (at e : ℕ) → operand_step outer b token at ≡ Err e → at ≡ e
    operand_place outer b Token.Open at e h = opened_place (nat_lt b.negations b.room) _ at e h
    operand_place outer b Token.Not at e h = opened_place (nat_lt b.negations b.room) _ at e h
    operand_place outer b Token.Every at e h = cc
    operand_place outer b (Token.Leaf field value) at e h = cc
    operand_place outer b Token.Close at e h = cc
    operand_place outer b Token.And at e h = cc
    operand_place outer b Token.Or at e h = cc
    operand_place outer b Token.Broken at e h = cc
step_place (Reader.Operator outer either room t) token at e h = operator_place outer token at e h
  where
    closed_place : (outer : List Before) (s : Tree) (x y : ℕ) → closed outer s x ≡ Err y → x ≡ y
    closed_place [] s x y h = cc
    closed_place (b ∷ outer) s x y h = cc

    operator_place : (outer : List Before) (token : Token) (at e : ℕ) → operator_step outer either room t token at ≡ Err e → at ≡ e
    operator_place outer Token.Open at e h = cc
    operator_place outer Token.Not at e h = cc
    operator_place outer Token.Every at e h = cc
    operator_place outer (Token.Leaf field value) at e h = cc
    operator_place outer Token.Close at e h = closed_place outer (or_with either t) at e h
    operator_place outer Token.And at e h = cc
    operator_place outer Token.Or at e h = cc
    operator_place outer Token.Broken at e h = cc

finish_place : (reader : Reader) (end e : ℕ) → finish reader end ≡ Err e → end ≡ e
finish_place (Reader.Operand outer b) end e h = cc
finish_place (Reader.Operator [] either room t) end e h = cc
finish_place (Reader.Operator (b ∷ outer) either room t) end e h = cc

-- a token at which the reader stops can't follow those before it
cannot_follow : (before : List Placed) (p : Placed) (reader : Reader) (at : ℕ) → steps start before ≡ Ok reader → step reader p.token p.at ≡ Err at → BeginsQuery (before ++ p ∷ []) → ⊥
cannot_follow before p reader at e f w =
    let read = begins_steps (before ++ p ∷ []) w in
    let one : then_step (step reader p.token p.at) (λ next. Ok next) ≡ Err at = ap (λ (r : Result Reader ℕ). then_step r (λ next. Ok next)) f in
    let stopped : steps start (before ++ p ∷ []) ≡ Err at = steps-append start before (p ∷ []) ∙ (ap (λ (r : Result Reader ℕ). then_step r (λ next. steps next (p ∷ []))) e ∙ one) in
    let both : Ok read.0 ≡ Err at = sym read.1 ∙ stopped in
    cc

-- where the reader stops, going on after `before`
stops_from : (all before ts : List Placed) (end : ℕ) (reader : Reader) (at : ℕ) → all ≡ before ++ ts → steps start before ≡ Ok reader → run end reader ts ≡ Err at → StopsAt all at ⊎ (EndsEarly all × (at ≡ end))
unfolding run
stops_from all before [] end reader at whole e h =
    inr (
      record {
        begins = steps_begin all reader (ap (steps start) (whole ∙ append-nil before) ∙ e);
        no_query = λ t d. let one : run end start all ≡ Ok t = complete end all t d in
            let two : run end start all ≡ Err at = ap (run end start) whole ∙ (run-append end start before [] ∙ (ap (λ (r : Result Reader ℕ). goes_on r (λ next. run end next [])) e ∙ h)) in
            let both : Ok t ≡ Err at = sym one ∙ two in
            cc;
      },
      sym (finish_place reader end at h),
    )
stops_from all before (p ∷ ps) end reader at whole e h =
    go (λ next f. stops_from all (before ++ p ∷ []) ps end next at (whole ∙ sym (append_assoc before (p ∷ []) ps)) (longer next f) (sym (ap (λ (r : Result Reader ℕ). goes_on r (λ next. run end next ps)) f) ∙ h)) (step reader p.token p.at) refl
  where
    longer : (next : Reader) → step reader p.token p.at ≡ Ok next → steps start (before ++ p ∷ []) ≡ Ok next
    longer next f = steps-append start before (p ∷ []) ∙ (ap (λ (r : Result Reader ℕ). then_step r (λ next. steps next (p ∷ []))) e ∙ ap (λ (r : Result Reader ℕ). then_step r (λ next. Ok next)) f)

    go : ((next : Reader) → step reader p.token p.at ≡ Ok next → StopsAt all at ⊎ (EndsEarly all × (at ≡ end))) → (r : Result Reader ℕ) → step reader p.token p.at ≡ r → StopsAt all at ⊎ (EndsEarly all × (at ≡ end))
    go further (Ok next) f = further next f
    go further (Err x) f =
        let same : Err x ≡ Err at = sym (ap (λ (r : Result Reader ℕ). goes_on r (λ next. run end next ps)) f) ∙ h in
        let here : p.at ≡ x = step_place reader p.token p.at x f in
        let there : p.at ≡ at = cc in
        inl (record { before = before; stop = p; after = ps; whole = whole; place = there; begins = steps_begin before reader e; stops = cannot_follow before p reader x e f })

-- the fault that the reader gives is the grammar's
pub fault_sound : (end : ℕ) (ts : List Placed) (at : ℕ) → run end start ts ≡ Err at → StopsAt ts at ⊎ (EndsEarly ts × (at ≡ end))
fault_sound end ts at h = stops_from ts [] ts end start at refl refl h

-- the fault of the grammar is the reader's
pub stops_complete : (end : ℕ) (ts : List Placed) (at : ℕ) → StopsAt ts at → run end start ts ≡ Err at
unfolding run
stops_complete end ts at w = go (begins_steps w.before w.begins)
  where
    go : (reader : Reader) × (steps start w.before ≡ Ok reader) → run end start ts ≡ Err at
    go (reader, e) = over (step reader w.stop.token w.stop.at) refl
      where
        over : (r : Result Reader ℕ) → step reader w.stop.token w.stop.at ≡ r → run end start ts ≡ Err at
        over (Ok next) f = absurd (w.stops (steps_begin (w.before ++ w.stop ∷ []) next (steps-append start w.before (w.stop ∷ []) ∙ (ap (λ (r : Result Reader ℕ). then_step r (λ next. steps next (w.stop ∷ []))) e ∙ ap (λ (r : Result Reader ℕ). then_step r (λ next. Ok next)) f))))
        over (Err x) f =
            let here : w.stop.at ≡ x = step_place reader w.stop.token w.stop.at x f in
            ap (run end start) w.whole ∙ (run-append end start w.before (w.stop ∷ w.after) ∙ (ap (λ (r : Result Reader ℕ). goes_on r (λ next. run end next (w.stop ∷ w.after))) e ∙ (ap (λ (r : Result Reader ℕ). goes_on r (λ next. run end next w.after)) f ∙ ap (λ (y : ℕ). Err y) (sym here ∙ w.place))))

-- a text that ends early is refused at its end
pub ends_complete : (end : ℕ) (ts : List Placed) → EndsEarly ts → run end start ts ≡ Err end
unfolding run
ends_complete end ts w = go (finish read.0 end) refl
  where
    read : (reader : Reader) × (steps start ts ≡ Ok reader)
    read = begins_steps ts w.begins

    all : run end start ts ≡ finish read.0 end
    all = ap (run end start) (sym (append-nil ts)) ∙ (run-append end start ts [] ∙ ap (λ (r : Result Reader ℕ). goes_on r (λ next. run end next [])) read.1)

    go : (r : Result Tree ℕ) → finish read.0 end ≡ r → run end start ts ≡ Err end
    go (Ok t) e = absurd (w.no_query t (sound end ts t (all ∙ e)))
    go (Err at) e = all ∙ (e ∙ ap (λ (y : ℕ). Err y) (sym (finish_place read.0 end at e)))
