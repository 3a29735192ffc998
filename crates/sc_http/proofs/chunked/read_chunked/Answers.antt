-- What was taken of the coding is of the bytes that came.
use Rattle.std.proofs.Common.{◌≡◌, List, ℕ, [], Err, inl, inr, sym, ap, ◌∙◌, subst, arith}
use Rattle.std.proofs.lemmas.Bool.{false≢true}
use Rattle.sc_http.specs.Stream.{KeepsBytes}
use Rattle.sc_http.proofs.StreamLemmas.{gives_then_none, left_more}
use Rattle.sc_http.proofs.ChunkedLemmas.{chunks_taken, all_taken, chunks_given, chunks_lacking, chunks_needed, chunks_stopped, chunks_refused}
use Rattle.sc_http.proofs.chunked.read_chunked.Goals as goal

pub returns-in-Err-clause-ends : goal.returns-in-Err-clause-ends
returns-in-Err-clause-ends g c =
    let t = c.loop-count.invariant.taken in
    rw (c.end_of_refusal.ensures) (chunks_refused c.in-Err.error t.0 c.unread.result.now _ _ _ (c.in-Err.ensures.refuses t.0 t.1)
    (subst (λ (xs : List ℕ). KeepsBytes t.0 xs c.args.buffer.now (g.S.Source.rest c.args.source.now) (g.S.Source.rest c.loop-count.source)) (sym c.unread.ensures) t.2))

pub returns-then-is_whole-clause-body : goal.returns-then-is_whole-clause-body
returns-then-is_whole-clause-body g c =
    let t = c.loop-count.invariant.taken in
    let now = chunks_taken t.0 _ _ c.give.new.self _ c.in-Ok.count _ _ _ (c.in-Ok.ensures.goes_on t.0 t.1) c.unread.ensures c.give.ensures t.2 in
    chunks_given _ now.0 _ _ _ _ (c.into_data.ensures now.0 now.1 (c.is_whole.ensures.whole.0 c.if-is_whole.true)) now.2

pub returns-in-Err-fill-clause-ends : goal.returns-in-Err-fill-clause-ends
returns-in-Err-fill-clause-ends g c =
    let t = c.loop-count.invariant.taken in
    let now = chunks_taken t.0 _ _ c.give.new.self _ c.in-Ok.count _ _ _ (c.in-Ok.ensures.goes_on t.0 t.1) c.unread.ensures c.give.ensures t.2 in
    let ends = c.is_whole.ensures.unfinished now.0 now.1 c.if-is_whole.false in
    let none : c.give.new.self ≡ [] = elim c.in-Ok.ensures.all [
      | inl all ↦ all_taken _ _ _ c.in-Ok.count all c.unread.ensures c.give.ensures
      | inr whole ↦ absurd (false≢true (sym c.if-is_whole.false ∙ c.is_whole.ensures.whole.1 whole))
    ] in
    let given = subst (λ (xs : List ℕ). KeepsBytes now.0 xs c.args.buffer.now (g.S.Source.rest c.args.source.now) (g.S.Source.rest c.loop-count.source)) none now.2 in
    rw (c.in_body.ensures) (chunks_stopped c.in-Err-fill.stopped now.0 _ _ _ (g.S.Source.rest c.fill.new.source) ends given c.in-Err-fill.ensures.stays
    (λ same. c.in-Err-fill.ensures.ended (ap Err same)))

pub returns-in-Err-fill-clause-unfinished : goal.returns-in-Err-fill-clause-unfinished
returns-in-Err-fill-clause-unfinished g c = λ fault.
    let t = c.loop-count.invariant.taken in
    let now = chunks_taken t.0 _ _ c.give.new.self _ c.in-Ok.count _ _ _ (c.in-Ok.ensures.goes_on t.0 t.1) c.unread.ensures c.give.ensures t.2 in
    let ends = c.is_whole.ensures.unfinished now.0 now.1 c.if-is_whole.false in
    let none : c.give.new.self ≡ [] = elim c.in-Ok.ensures.all [
      | inl all ↦ all_taken _ _ _ c.in-Ok.count all c.unread.ensures c.give.ensures
      | inr whole ↦ absurd (false≢true (sym c.if-is_whole.false ∙ c.is_whole.ensures.whole.1 whole))
    ] in
    let given = subst (λ (xs : List ℕ). KeepsBytes now.0 xs c.args.buffer.now (g.S.Source.rest c.args.source.now) (g.S.Source.rest c.loop-count.source)) none now.2 in
    chunks_lacking now.0 _ _ _ ends (gives_then_none _ _ _ _ _ _ given c.in-Err-fill.ensures.stays)

pub returns-in-Err-fill-clause-order : goal.returns-in-Err-fill-clause-order
returns-in-Err-fill-clause-order g c =
    let t = c.loop-count.invariant.taken in
    let now = chunks_taken t.0 _ _ c.give.new.self _ c.in-Ok.count _ _ _ (c.in-Ok.ensures.goes_on t.0 t.1) c.unread.ensures c.give.ensures t.2 in
    let all = gives_then_none _ _ _ _ _ _ now.2 c.in-Err-fill.ensures.stays in
    (now.0, subst (λ (xs : List ℕ). KeepsBytes now.0 xs c.args.buffer.now (g.S.Source.rest c.args.source.now) (g.S.Source.rest c.fill.new.source)) (sym c.in-Err-fill.ensures.kept) all)

pub loop-count-preserved : goal.loop-count-preserved
loop-count-preserved g c =
    let t = c.loop-count.invariant.taken in
    let now = chunks_taken t.0 _ _ c.give.new.self _ c.in-Ok.count _ _ _ (c.in-Ok.ensures.goes_on t.0 t.1) c.unread.ensures c.give.ensures t.2 in
    let ends = c.is_whole.ensures.unfinished now.0 now.1 c.if-is_whole.false in
    let none : c.give.new.self ≡ [] = elim c.in-Ok.ensures.all [
      | inl all ↦ all_taken _ _ _ c.in-Ok.count all c.unread.ensures c.give.ensures
      | inr whole ↦ absurd (false≢true (sym c.if-is_whole.false ∙ c.is_whole.ensures.whole.1 whole))
    ] in
    let given = subst (λ (xs : List ℕ). KeepsBytes now.0 xs c.args.buffer.now (g.S.Source.rest c.args.source.now) (g.S.Source.rest c.loop-count.source)) none now.2 in
    let grown = c.in_default.ensures.grows in
    record {
      taken = (now.0, now.1, left_more _ _ _ _ _ _ _ now.2 grown);
      needed = inr (chunks_needed now.0 _ grown.piece _ _ _ ends given grown.gives);
      bounded = omega (arith, c.in_default.ensures.bounded);
      steady = c.in_default.ensures.faults.steady (λ failed. cc) ∙ c.loop-count.invariant.steady;
    }
