-- What a run leaves is what the part of it leaves that was asked for.
use Rattle.std.proofs.Common.{◌∙◌, Some, refl, sym, ap}
use Rattle.sc_arguments.specs.declared.asked.Asked.{Asked}
use Rattle.solr_split.proofs.AskedLemmas.{ends_without_memory, ends_unasked, ends_script, ends_server, ends_demo}
use Rattle.solr_split.proofs.run.run.Goals as goal

pub returns-in_default : goal.returns-in_default
returns-in_default g c = ends_without_memory _ _ _ _ refl refl refl

pub returns-in-None : goal.returns-in-None
returns-in-None g c = ends_unasked _ _ _ _ refl refl refl (sym c.in-Ok.ensures.asked ∙ c.in-None.is)

pub returns-in-Some-Script : goal.returns-in-Some-Script
returns-in-Some-Script g c =
    let ran = c.run_by_crew.ensures in
    let found = rw c.in-Some-Script.is at c.in-Some-Script.field-0-is in
    ends_script _ _ _ _ _ c.run_by_crew.result c.in-Some-Script.script
    (sym c.in-Ok.ensures.asked ∙ c.in-Some-Script.is ∙ ap (λ (one : Asked). Some one) found) ran.script ran.status ran.read_fault ran.write_fault

pub returns-in-Some-Serve : goal.returns-in-Some-Serve
returns-in-Some-Serve g c =
    let ran = c.run_workers.ensures in
    let found = rw c.in-Some-Serve.is at c.in-Some-Serve.field-0-is in
    ends_server _ _ _ _ _ c.run_workers.result refl refl ran.status ran.write_fault c.in-Some-Serve.server
    (sym c.in-Ok.ensures.asked ∙ c.in-Some-Serve.is ∙ ap (λ (one : Asked). Some one) found) ran.ends

pub returns-in-Some-Demo : goal.returns-in-Some-Demo
returns-in-Some-Demo g c =
    let ran = c.run_makers.ensures in
    let found = rw c.in-Some-Demo.is at c.in-Some-Demo.field-0-is in
    ends_demo _ _ _ _ _ c.run_makers.result refl refl ran.status ran.write_fault c.in-Some-Demo.demo
    (sym c.in-Ok.ensures.asked ∙ c.in-Some-Demo.is ∙ ap (λ (one : Asked). Some one) found) ran.ends
