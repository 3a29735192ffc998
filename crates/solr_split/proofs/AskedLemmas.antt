-- What a run leaves, by what was asked for, of what the script, the server or the demonstration left.
use Rattle.std.proofs.Common.{◌≡◌, ◌≢◌, ◌<◌, ◌↔◌, inl, inr, ◌∙◌, ℕ, List, Option, Some, None, IfSome, refl, sym, subst, arith}
use Rattle.std.proofs.lemmas.Option.{none-some}
use Rattle.sc_arguments.specs.declared.asked.Asked.{Asked}
use Rattle.sc_arguments.specs.declared.asked.Asked.TheVariants as asking
use Rattle.sc_arguments.specs.declared.asked.Script.{Script}
use Rattle.sc_arguments.specs.declared.asked.Server.{Server}
use Rattle.sc_arguments.specs.declared.asked.Demo.{Demo}
use Rattle.sc_arguments.specs.Arguments.{asked_of}
use Rattle.sc_server.specs.Reports.{Reports}
use Rattle.sc_server.specs.Serving.{EndsServer}
use Rattle.sc_demo.specs.Demos.{EndsDemo}
use Rattle.solr_split.specs.Running.{script_in, server_in, demo_in}
use Rattle.solr_split.specs.Scripts.{Beside, EndsScript}
use Rattle.solr_split.specs.Runs.{RunUntouched, EndsRun}
use Rattle.solr_split.proofs.MemoryLemmas.{so_of_one, script_without_memory, server_without_memory, demo_without_memory}

module _ {C H P L S W : Type 0} (reports : Reports C H P L S W) (arguments : List (List ℕ)) (beside : Beside C H P L) (same : RunUntouched)
    (source : same.source) (sink : same.sink) (station : same.station) where
  -- there was no memory to read the arguments
  pub ends_without_memory : EndsRun reports arguments beside beside same 6
  ends_without_memory = record {
    bad_arguments = λ two. absurd (omega (arith, two));
    nothing_asked = λ none. inr refl;
    nothing_done = λ none. (source, sink, station);
    script = so_of_one _ (λ script. script_without_memory (record { gives = reports.gives; outside = reports.outside }) beside
        (same.source × same.sink) (source, sink) script) _;
    serve = so_of_one _ (λ server. server_without_memory reports beside.front server) _;
    server_reads = so_of_one _ (λ server. source) _;
    demo = so_of_one _ (λ demo. demo_without_memory (record { gives = reports.gives; outside = reports.outside }) beside.front demo) _;
    demo_reads = so_of_one _ (λ demo. source) _;
    read_fault = (λ four. absurd (omega (arith, four)), λ more. absurd (omega (arith, more)));
    write_fault = (λ five. absurd (omega (arith, five)), λ more. absurd (omega (arith, more)));
  }

  -- nothing was asked for
  pub ends_unasked : asked_of arguments ≡ None → EndsRun reports arguments beside beside same 2
  ends_unasked none = record {
    bad_arguments = λ two. none;
    nothing_asked = λ nothing. inl refl;
    nothing_done = λ nothing. (source, sink, station);
    script = subst (λ (found : Option Asked). IfSome (script_in found) (λ script. EndsScript script
        (record { gives = reports.gives; outside = reports.outside }) beside beside (same.source × same.sink) 2)) (sym none) tt;
    serve = subst (λ (found : Option Asked). IfSome (server_in found) (λ server. EndsServer reports server beside.front beside.front 2)) (sym none) tt;
    server_reads = subst (λ (found : Option Asked). IfSome (server_in found) (λ server. same.source)) (sym none) tt;
    demo = subst (λ (found : Option Asked). IfSome (demo_in found) (λ demo. EndsDemo
        (record { gives = reports.gives; outside = reports.outside }) demo beside.front beside.front 2)) (sym none) tt;
    demo_reads = subst (λ (found : Option Asked). IfSome (demo_in found) (λ demo. same.source)) (sym none) tt;
    read_fault = (λ four. absurd (omega (arith, four)), λ more. absurd (omega (arith, more)));
    write_fault = (λ five. absurd (omega (arith, five)), λ more. absurd (omega (arith, more)));
  }

module _ {C H P L S W : Type 0} (reports : Reports C H P L S W) (arguments : List (List ℕ)) (before after : Beside C H P L) (same : RunUntouched)
    (status : ℕ) where
  -- a script was asked for
  pub ends_script : (script : Script) → asked_of arguments ≡ Some (asking.Script script)
      → EndsScript script (record { gives = reports.gives; outside = reports.outside }) before after (same.source × same.sink) status
      → status ≢ 2 → ((status ≡ 4) ↔ (before.read_faults < after.read_faults))
      → ((status ≡ 5) ↔ (before.front.write_faults < after.front.write_faults)) → EndsRun reports arguments before after same status
  ends_script script asked ended not_two read write = record {
    bad_arguments = λ two. absurd (not_two two);
    nothing_asked = λ none. absurd (none-some (asking.Script script) (sym none ∙ asked));
    nothing_done = λ none. absurd (none-some (asking.Script script) (sym none ∙ asked));
    script = subst (λ (found : Option Asked). IfSome (script_in found) (λ one. EndsScript one
        (record { gives = reports.gives; outside = reports.outside }) before after (same.source × same.sink) status)) (sym asked) ended;
    serve = subst (λ (found : Option Asked). IfSome (server_in found) (λ server. EndsServer reports server before.front after.front status)) (sym asked) tt;
    server_reads = subst (λ (found : Option Asked). IfSome (server_in found) (λ server. same.source)) (sym asked) tt;
    demo = subst (λ (found : Option Asked). IfSome (demo_in found) (λ demo. EndsDemo
        (record { gives = reports.gives; outside = reports.outside }) demo before.front after.front status)) (sym asked) tt;
    demo_reads = subst (λ (found : Option Asked). IfSome (demo_in found) (λ demo. same.source)) (sym asked) tt;
    read_fault = read;
    write_fault = write;
  }

  module _ (source : same.source) (reads : after.read_faults ≡ before.read_faults) (status_is : (status ≢ 2) × (status ≢ 4))
      (write : (status ≡ 5) ↔ (before.front.write_faults < after.front.write_faults)) where
    -- a server was asked for
    pub ends_server : (server : Server) → asked_of arguments ≡ Some (asking.Serve server)
        → EndsServer reports server before.front after.front status → EndsRun reports arguments before after same status
    ends_server server asked ended = record {
      bad_arguments = λ two. absurd (status_is.0 two);
      nothing_asked = λ none. absurd (none-some (asking.Serve server) (sym none ∙ asked));
      nothing_done = λ none. absurd (none-some (asking.Serve server) (sym none ∙ asked));
      script = subst (λ (found : Option Asked). IfSome (script_in found) (λ script. EndsScript script
          (record { gives = reports.gives; outside = reports.outside }) before after (same.source × same.sink) status)) (sym asked) tt;
      serve = subst (λ (found : Option Asked). IfSome (server_in found) (λ one. EndsServer reports one before.front after.front status)) (sym asked) ended;
      server_reads = subst (λ (found : Option Asked). IfSome (server_in found) (λ one. same.source)) (sym asked) source;
      demo = subst (λ (found : Option Asked). IfSome (demo_in found) (λ demo. EndsDemo
          (record { gives = reports.gives; outside = reports.outside }) demo before.front after.front status)) (sym asked) tt;
      demo_reads = subst (λ (found : Option Asked). IfSome (demo_in found) (λ demo. same.source)) (sym asked) tt;
      read_fault = (λ four. absurd (status_is.1 four), λ more. absurd (omega (arith, more, reads)));
      write_fault = write;
    }

    -- a demonstration was asked for
    pub ends_demo : (demo : Demo) → asked_of arguments ≡ Some (asking.Demo demo)
        → EndsDemo (record { gives = reports.gives; outside = reports.outside }) demo before.front after.front status
        → EndsRun reports arguments before after same status
    ends_demo demo asked ended = record {
      bad_arguments = λ two. absurd (status_is.0 two);
      nothing_asked = λ none. absurd (none-some (asking.Demo demo) (sym none ∙ asked));
      nothing_done = λ none. absurd (none-some (asking.Demo demo) (sym none ∙ asked));
      script = subst (λ (found : Option Asked). IfSome (script_in found) (λ script. EndsScript script
          (record { gives = reports.gives; outside = reports.outside }) before after (same.source × same.sink) status)) (sym asked) tt;
      serve = subst (λ (found : Option Asked). IfSome (server_in found) (λ server. EndsServer reports server before.front after.front status)) (sym asked) tt;
      server_reads = subst (λ (found : Option Asked). IfSome (server_in found) (λ server. same.source)) (sym asked) tt;
      demo = subst (λ (found : Option Asked). IfSome (demo_in found) (λ one. EndsDemo
          (record { gives = reports.gives; outside = reports.outside }) one before.front after.front status)) (sym asked) ended;
      demo_reads = subst (λ (found : Option Asked). IfSome (demo_in found) (λ one. same.source)) (sym asked) source;
      read_fault = (λ four. absurd (status_is.1 four), λ more. absurd (omega (arith, more, reads)));
      write_fault = write;
    }
