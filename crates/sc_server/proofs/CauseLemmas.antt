-- The cause of each status of a server.
use Rattle.std.proofs.Common.{◌≡◌, inl, inr, ℕ, Bool, true, false, cond, List, length, refl, sym, arith}
use Rattle.std.proofs.lemmas.List.Folds.{Any-from_list_any}
use Rattle.std.proofs.lemmas.Option.{slice_get_read}
use Rattle.sc_session.specs.declared.worker.WorkEnd.{WorkEnd}
use Rattle.sc_session.specs.declared.worker.WorkEnd.TheVariants as ends
use Rattle.sc_arguments.specs.declared.asked.Server.{Server}
use Rattle.sc_server.specs.Reports.{Reports}
use Rattle.sc_server.specs.Working.{has_failed}
use Rattle.sc_server.specs.Serving.{Front, WorkerRun, status_of, RunsServer, ListenerFails, IsEnd, EndsServer}

-- the status of a server whose workers have ended is 7 where one failed, and else 0
is_failed : (failed : Bool) (status : ℕ) → cond failed 7 0 ≡ status → status ≡ 7 → failed ≡ true
is_failed true status is seven = refl
is_failed false status is seven = absurd (omega (arith, is, seven))

is_neither : (failed : Bool) (status : ℕ) → cond failed 7 0 ≡ status → (status ≡ 7 → ⊥) → (status ≡ 0 → ⊥) → ⊥
is_neither true status is not_seven not_none = not_seven (sym is)
is_neither false status is not_seven not_none = not_none (sym is)

is_listener_fault : (end : WorkEnd) → has_failed end ≡ true → end ≡ ends.ListenerFault
is_listener_fault ends.Enough is = absurd (cc)
is_listener_fault ends.NoMore is = absurd (cc)
is_listener_fault ends.ListenerFault is = refl

module _ {C H P L S W : Type 0} (reports : Reports C H P L S W) (server : Server) (before after : Front C H P L) where
  -- where the status says that a listener failed, one did
  listener_fails : (all : List (WorkerRun C H P L)) → RunsServer reports server before after all → status_of all ≡ 7 → ListenerFails reports server before after
  listener_fails all are seven =
      let any = Any-from_list_any (λ (run : WorkerRun C H P L). has_failed run.end) all (is_failed _ 7 seven refl) in
      let at = slice_get_read all (length all) any.0 any.1 refl any.2 (sym any.3) in
      let worked = (are.each any.0 any.1 at).worked in
      record {
        runs = all;
        are = are;
        number = any.0;
        run = any.1;
        is = at;
        fault = worked.end_is.faults.rises (is_listener_fault any.1.end any.4);
      }

  -- each status has its cause
  pub with_causes : {status : ℕ} → IsEnd reports server before after status → EndsServer reports server before after status
  with_causes (IsEnd.no_memory out) = record {
    end = IsEnd.no_memory out;
    write_fault = (λ is. absurd (omega (arith, is)), λ rose. absurd (omega (arith, rose, out.silent.write_faults)));
    host_fault = λ is. absurd (omega (arith, is));
    accept_fault = λ is. absurd (omega (arith, is));
    open_fault = λ rose. absurd (omega (arith, rose, out.open_faults));
  }
  with_causes (IsEnd.port_fails fails) = record {
    end = IsEnd.port_fails fails;
    write_fault = (λ is. absurd (omega (arith, is)), λ rose. absurd (omega (arith, rose, fails.silent.write_faults)));
    host_fault = λ is. absurd (omega (arith, is));
    accept_fault = λ is. inl fails.fault;
    open_fault = λ rose. refl;
  }
  with_causes (IsEnd.host_fails fails) = record {
    end = IsEnd.host_fails fails;
    write_fault = (λ is. absurd (omega (arith, is)), λ rose. absurd (omega (arith, rose, fails.silent.write_faults)));
    host_fault = λ is. fails;
    accept_fault = λ is. absurd (omega (arith, is));
    open_fault = λ rose. absurd (omega (arith, rose, fails.crews.open_faults));
  }
  with_causes (IsEnd.line_fails fails) = record {
    end = IsEnd.line_fails fails;
    write_fault = (λ is. fails.fault, λ rose. refl);
    host_fault = λ is. absurd (omega (arith, is));
    accept_fault = λ is. absurd (omega (arith, is));
    open_fault = λ rose. absurd (omega (arith, rose, fails.crews.open_faults));
  }
  with_causes (IsEnd.runs all are) = record {
    end = IsEnd.runs all are;
    write_fault = (λ is. absurd (is_neither _ 5 is (λ none. omega (arith, none)) (λ none. omega (arith, none))), λ rose. absurd (omega (arith, rose, are.write_faults)));
    host_fault = λ is. absurd (is_neither _ 8 is (λ none. omega (arith, none)) (λ none. omega (arith, none)));
    accept_fault = λ is. inr (listener_fails all are is);
    open_fault = λ rose. absurd (omega (arith, rose, are.open_faults));
  }
