-- The write's place and its version are put to the others, or its place is taken out again.
use Rattle.std.proofs.Common.{rules, ◌≡◌, ◌∙◌, ap, to_z, of_z, w64, arith}
use Rattle.std.proofs.lemmas.Int.{ints}
use Rattle.sc_record.specs.Writes.{Write}
use Rattle.sc_legal.proofs.KeptLemmas.{kept-write, kept-undone}
use Rattle.sc_legal.proofs.MayLemmas.{where_ok, where_err}
use Rattle.sc_legal.proofs.kept.Kept.write.Goals as goal

pub returns-then-is_err-clause-err : goal.returns-then-is_err-clause-err
returns-then-is_err-clause-err c = λ first journal is.
    kept-undone first journal c.args.self.now c.insert-2.new.self c.insert.new.self c.remove.new.self
    (where_err _ c.insert-2.result (search rules) c.insert-2.ensures.err)
    c.in_ok-insert.ensures.updates.0 c.remove.ensures.updates.0 is

pub returns-clause-ok : goal.returns-clause-ok
returns-clause-ok c = λ first journal legal may is.
    let back : to_z w64 (of_z w64 c.version.result) ≡ c.version.result = omega (arith, ints) in
    kept-write first journal c.args.self.now c.args.cell.now may c.in_ok-id.id (to_z w64 (of_z w64 c.version.result)) c.insert-2.new.self
    c.insert.new.self legal (c.in_ok-id.ensures ∙ c.id.ensures ∙ ap (λ (w : Write). w.id) c.deref.ensures)
    (back ∙ c.version.ensures.value ∙ ap (λ (w : Write). w.version) c.deref-2.ensures)
    ((where_ok _ c.insert-2.result (search rules) c.insert-2.ensures.updates).0)
    c.in_ok-insert.ensures.updates.0 is
