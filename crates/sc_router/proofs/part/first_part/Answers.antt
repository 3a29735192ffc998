-- What was read up to a place is carried on to the next.
use Rattle.std.proofs.Common.{◌≡◌, ◌+◌, ◌∷◌, ◌++◌, [], length, get_or, take, sym, ap, subst, ◌∙◌, arith}
use Rattle.std.specs.Prelude.{not}
use Rattle.std.proofs.lemmas.List.{take_rest, take_more, take_all, length-take-le}
use Rattle.sc_hash.specs.Hasher.{progress}
use Rattle.sc_router.specs.Parts.{occurrences}
use Rattle.sc_router.specs.Slash.{IsFirstSlash}
use Rattle.sc_router.proofs.MarkLemmas.{cut-at, found-at, occurrences-after, before-none, occurrences-push_other}
use Rattle.sc_router.proofs.SlashLemmas.{IsFirstSlash-other, IsFirstSlash-kept, IsFirstSlash-taken}
use Rattle.sc_router.proofs.part.first_part.Goals as goal
use Rattle.sc_router.proofs.part.first_part.Goals.{then-byte-eq47+then-is_none, else-byte-eq47, else-byte-eq47-via-then-byte-eq47+else-is_none, else-byte-eq47-via-else-byte-eq47}

pub returns-then-byte-eq33-clause-part : goal.returns-then-byte-eq33-clause-part
returns-then-byte-eq33-clause-part c = sym (cut-at 33 c.loop-i.i c.args.text.now c.loop-i-test.true c.if-byte-eq33.true c.loop-i.invariant.marks).0

pub returns-then-byte-eq33-clause-rest : goal.returns-then-byte-eq33-clause-rest
returns-then-byte-eq33-clause-rest c =
    take_rest c.args.text.now (c.loop-i.i + 1)
    ∙ sym (cut-at 33 c.loop-i.i c.args.text.now c.loop-i-test.true c.if-byte-eq33.true c.loop-i.invariant.marks).1

pub returns-then-byte-eq33-clause-found : goal.returns-then-byte-eq33-clause-found
returns-then-byte-eq33-clause-found c =
    occurrences-after 33 c.args.text.now (found-at 33 c.loop-i.i c.args.text.now c.loop-i-test.true c.if-byte-eq33.true)
    ∙ ap (λ rest. 1 + occurrences 33 rest) (sym (returns-then-byte-eq33-clause-rest c))

pub loop-i-preserved : goal.loop-i-preserved
loop-i-preserved c =
    let text = c.args.text.now in
    let i = c.loop-i.i in
    let byte = get_or text i 0 in
    let before = c.loop-i.invariant in
    let place : length (take i text) ≡ i = length-take-le i text (omega arith) in
    let next : take (i + 1) text ≡ take i text ++ byte ∷ [] = take_more text i 0 c.loop-i-test.true in
    record {
      read = c.write.ensures 0 (take i text) before.read ∙ ap (progress 0) (sym next);
      marks = ap (occurrences 33) next ∙ occurrences-push_other 33 byte (take i text) c.if-byte-eq33.false ∙ before.marks;
      slash = subst (IsFirstSlash c.if-byte-eq47.slash) (sym next) (
          elim c.if-byte-eq47.branch [
            | then-byte-eq47+then-is_none w ↦ subst (λ found. IsFirstSlash found (take i text ++ byte ∷ [])) (sym w.slash-is) (IsFirstSlash-taken c.loop-i.slash (record { at = i; hash = w.finish-hash.result }) byte (take i text) (w.is_none.ensures ∙ ap not w.if-is_none.true) w.if-byte-eq47.true before.slash (sym place) (w.finish-hash.ensures 0 (take i text) before.read (omega arith)))
            | else-byte-eq47 w ↦ elim w.else-byte-eq47.branch [
              | else-byte-eq47-via-then-byte-eq47+else-is_none v ↦ subst (λ found. IsFirstSlash found (take i text ++ byte ∷ [])) (sym w.slash-is) (IsFirstSlash-kept c.loop-i.slash byte (take i text) (v.is_none.ensures ∙ ap not v.if-is_none.false) before.slash)
              | else-byte-eq47-via-else-byte-eq47 v ↦ subst (λ found. IsFirstSlash found (take i text ++ byte ∷ [])) (sym w.slash-is) (IsFirstSlash-other c.loop-i.slash byte (take i text) v.if-byte-eq47.false before.slash)
            ]
          ]
          );
    }

pub returns-clause-part : goal.returns-clause-part
returns-clause-part c =
    let text = c.args.text.now in
    let all : take c.loop-i.i text ≡ text = take_all c.loop-i.i text (omega arith) in
    sym (before-none 33 text (ap (occurrences 33) (sym all) ∙ c.loop-i.invariant.marks))
