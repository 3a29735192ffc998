-- A body that is an array of documents asks to add them.
use Rattle.std.proofs.Common.{◌≡◌, ◌<◌, length, map, Some, Ok, IfOk, IfErr, option_and_then, sym, subst, arith, false-eqb}
use Rattle.sc_json.specs.Bodies.{json_of}
use Rattle.sc_json.specs.Flat.{doc_fields, docs_of}
use Rattle.sc_commands.specs.Updates.{Update, update_of, IsCommandFault}
use Rattle.sc_commands.proofs.DocLemmas.{asks_for_docs}
use Rattle.sc_commands.proofs.update.read_update.Goals as goal

pub returns-in-Ok-Some-clause-ok : goal.returns-in-Ok-Some-clause-ok
returns-in-Ok-Some-clause-ok c =
    let some : 0 < length c.args.body.now = omega (arith, false-eqb (length c.args.body.now) 0 c.if-is_empty.ensures) in
    let found : option_and_then docs_of (json_of c.args.body.now) ≡ Some (map doc_fields c.in-Ok-Some.docs) = rw c.in-Ok-Some.field-0-is at c.in-Ok-Some.ensures in
    let same = asks_for_docs c.args.flags.now c.args.body.now c.in-Ok-Some.docs some found in
    subst (λ asked. IfOk c.read_docs.result (λ batch. asked ≡ Ok (update_of batch))) (sym same) c.read_docs.ensures.ok

pub returns-in-Ok-Some-clause-fault : goal.returns-in-Ok-Some-clause-fault
returns-in-Ok-Some-clause-fault c =
    let some : 0 < length c.args.body.now = omega (arith, false-eqb (length c.args.body.now) 0 c.if-is_empty.ensures) in
    let found : option_and_then docs_of (json_of c.args.body.now) ≡ Some (map doc_fields c.in-Ok-Some.docs) = rw c.in-Ok-Some.field-0-is at c.in-Ok-Some.ensures in
    let same = asks_for_docs c.args.flags.now c.args.body.now c.in-Ok-Some.docs some found in
    subst (λ asked. IfErr c.read_docs.result (IsCommandFault {T = Update} asked)) (sym same) c.read_docs.ensures.fault
